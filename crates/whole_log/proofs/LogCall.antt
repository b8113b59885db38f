-- The whole-log call, by its ways out: a short buffer, a refused rule, and the lines.
use Prim.Native.Nat.{ℕ, ◌<◌, ◌≤◌}
use mathlib.Core.Path.{◌≡◌, ap, sym, ◌∙◌}
use mathlib.Core.List.{List}
use native.Mathlib.Omega.{arith}
use lib.ListN.{length}
use borrow.Author.Tests.{lt-ltb, le-ltb}
use Rattle.lines.specs.Log.{lines_of}
use Rattle.trace.specs.declared.Record.{Record}
use Rattle.trace.specs.Trace.{no_trace}
use Rattle.trace.specs.Record.{record_of}
use Rattle.pairs.specs.declared.Layout.{Layout}
use Rattle.pairs.specs.Layout.{work_size}
use Rattle.rules.specs.declared.Rule.{Rule}
use Rattle.std.specs.Prelude.{Result, Ok, Err}
use Rattle.refusals.specs.Refusal.{number}
use Rattle.refusals.specs.declared.Refusal.{Refusal}
use Rattle.rules.specs.Rules.{rule_of, ReadsRule}
use Rattle.reading.specs.declared.Ending.TheVariants.{Refused}
use Rattle.reading.specs.declared.LogRead.{LogRead}
use Rattle.whole_log.specs.declared.Mode.{Mode}
use Rattle.whole_log.specs.Log.{not_read, lines_from, log_of}
use Rattle.whole_log.specs.Part.{lines_read, read_part, ChecksPart}
use Rattle.single.proofs.LineCall.{with_refused, with_taken}
use Rattle.whole_log.proofs.LogMeans.{checks_log}
use Rattle.whole_log.proofs.Part.{part_of_lem, lines_of_part}

pub not_read_lem : (s : Record) (n : ℕ) → s ≡ record_of no_trace → ◌≡◌ {A = LogRead} (record { state = s; ending = Refused n 0 }) (not_read n)
not_read_lem s n e i = record { state = e i; ending = Refused n 0 }

module _ (lay : Layout) (mode : Mode) (file log w out : List ℕ) (a : LogRead) where
  abbrev Whole : Type 0
  Whole = LogRead × List ℕ × List ℕ

  abbrev part : List ℕ
  part = read_part mode file log

  -- what is answered for the part is the answer
  answered : (v o : List ℕ) → ◌≡◌ {A = Whole} (a, v, o) (log_of lay file part w out) → ChecksPart lay mode file log w out a v o
  answered v o e = record { checks = checks_log lay file part w out a v o e; part = λ x rule. part_of_lem file x rule mode log }

  same : (n : ℕ) → a ≡ not_read n → ◌≡◌ {A = Whole} (a, w, out) (not_read n, w, out)
  same n e i = (e i, w, out)

  pub log_short : (m : ℕ) → m ≡ work_size lay → length w < m → a ≡ not_read 20 → ChecksPart lay mode file log w out a w out
  unfolding log_of
  log_short m size l e =
      let h : length w < work_size lay = omega arith in
      answered w out (simp (lt-ltb (length w) (work_size lay) h) (same 20 e))

  module _ (m : ℕ) (size : m ≡ work_size lay) (enough : m ≤ length w) where
    long : work_size lay ≤ length w
    long = omega arith

    pub log_small : length out < 256 → a ≡ not_read 20 → ChecksPart lay mode file log w out a w out
    unfolding log_of
    log_small h e = answered w out (simp (le-ltb (length w) (work_size lay) long, lt-ltb (length out) 256 h) (same 20 e))

    module _ (room : 256 ≤ length out) (q : Result Rule Refusal) (rd : ReadsRule file q) where
      pub log_unruled : (n : Refusal) (m : ℕ) → q ≡ Err n → m ≡ number n → a ≡ not_read m → ChecksPart lay mode file log w out a w out
      unfolding log_of
      log_unruled n m e g s =
          answered w out
          (simp (le-ltb (length w) (work_size lay) long, le-ltb (length out) 256 room) (same (number n) (s ∙ ap not_read g) ∙ sym (with_refused (rule_of file) n _ _ (sym rd.answer ∙ e))))

      pub log_read : (x : Rule) → q ≡ Ok x → (v o : List ℕ) → ◌≡◌ {A = Whole} (a, v, o) (lines_from lay file x no_trace (lines_read mode file x (lines_of log)) w out)
          → ChecksPart lay mode file log w out a v o
      unfolding log_of
      log_read x e v o s =
          answered v o
          (simp (le-ltb (length w) (work_size lay) long, le-ltb (length out) 256 room) (s
          ∙ (ap (λ (ls : List (List ℕ)). lines_from lay file x no_trace ls w out) (lines_of_part file x (sym rd.answer ∙ e) mode log)
          ∙ sym (with_taken (rule_of file) x _ _ (sym rd.answer ∙ e)))))

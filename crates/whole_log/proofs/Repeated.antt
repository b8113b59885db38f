-- The whole-log call is the repeated single-line call. On the record and work area of the lines before it, the single-line call
-- answers what `lines_from` does with the line, since its contract fixes the answer.
use Prim.Native.Nat.{ℕ, ◌+◌, ◌≤◌}
use mathlib.Core.Path.{◌≡◌, refl, ap, sym, ◌∙◌, subst}
use mathlib.Core.List.{List, [], ◌∷◌, ◌++◌}
use mathlib.Core.Option.{some}
use mathlib.Core.Bool.{true}
use lib.ListN.{length, set}
use borrow.Author.Tests.{le-ltb}
use Rattle.lists.proofs.Cases.{no_both}
use Rattle.refusals.specs.Refusal.{number}
use Rattle.lines.specs.Log.{lines_of}
use Rattle.trace.specs.declared.Record.{Record}
use Rattle.trace.specs.Trace.{Trace, no_trace, Accepted}
use Rattle.trace.specs.Record.{record_of}
use Rattle.trace.proofs.Grown.{taken_grows, no_bytes}
use Rattle.pairs.specs.declared.Layout.{Layout}
use Rattle.pairs.specs.Layout.{work_size}
use Rattle.pairs.specs.Pairs.{work_of}
use Rattle.pairs.specs.Start.{start_of}
use Rattle.rules.specs.declared.Rule.{Rule}
use Rattle.std.specs.Prelude.{Ok}
use Rattle.rules.specs.Rules.{rule_of, formula_of}
use Rattle.rules.proofs.Rules.{reads_rule}
use Rattle.logic.specs.declared.Verdict.{Verdict}
use Rattle.logic.specs.Verdict.{verdict_byte, verdict_of}
use Rattle.single.specs.declared.Outcome.TheVariants as Outcome
use Rattle.single.specs.declared.Checked.{Checked}
use Rattle.reading.specs.declared.Ending.TheVariants.{Refused}
use Rattle.reading.specs.Left.{Left}
use Rattle.single.specs.Line.{state_of, line_of, advance_of, ChecksLine}
use Rattle.whole_log.specs.Log.{lines_from, log_of}
use Rattle.whole_log.specs.Repeated.{Result, ended_at, Answered, Repeats}
use Rattle.pairs.proofs.Work.{work_long, work_over}
use Rattle.single.proofs.LineMeans.{judged_same, judged-taken, by_line_lem}
use Rattle.reading.proofs.Standing.{pairs_long, one_trace}
use Rattle.single.proofs.LineCall.{with_taken, standing_of, line_known}
use Rattle.whole_log.proofs.Lines.{from_none, from-taken, from_refused}

-- what the call is handed after the lines of a log
pub left_by_lem : (lay : Layout) (log : List ℕ) (t : Trace) → Accepted log t → (w : List ℕ) → Left lay log t (record_of t) (work_of lay t w)
left_by_lem lay log t a w = record { accepted = a; encoded = refl; pairs = sym (work_over lay t w t) }

module _ (lay : Layout) (file : List ℕ) (x : Rule) (rule : rule_of file ≡ Ok x) (w : List ℕ) where
  -- with the rule and a long work area, the call is the inner step
  line_is_step : (t : Trace) (v l : List ℕ) → work_size lay ≤ length v → (r : Record) → line_of lay file r v l (some t) ≡ advance_of lay file x t v l
  unfolding line_of state_of
  line_is_step t v l long r = simp (le-ltb (length v) (work_size lay) long) (with_taken (rule_of file) x _ _ rule)

  called : (log : List ℕ) (t : Trace) → Accepted log t → (l : List ℕ) (c : Checked) (v : List ℕ) → ChecksLine lay file (record_of t) (work_of lay t w) l c v
      → ◌≡◌ {A = Checked × List ℕ} (c, v) (advance_of lay file x t (work_of lay t w) l)
  called log t a l c v k =
      k.answer (some t) (λ _. (log, left_by_lem lay log t a w)) ∙ line_is_step t (work_of lay t w) l (work_long lay t w) (record_of t)

  -- the call has an answer
  line_exists : (log : List ℕ) (t : Trace) (r : Record) (v line : List ℕ) → Left lay log t r v → Answered lay file r v line
  line_exists log t r v line l =
      record {
        checked = (advance_of lay file x t v line).0;
        work = (advance_of lay file x t v line).1;
        checks = line_known lay file r v line (work_size lay) refl (pairs_long lay t v v l.pairs) (Ok x) (reads_rule file (Ok x) (sym rule)) x refl true
            (record { yes = λ _. standing_of lay log t r v l; no = λ e _. no_both e }) refl _ _
            (λ log' u m. ap (λ (s : Trace). advance_of lay file x s v line) (one_trace lay r v log log' t u l m));
      }

  same_result : (z y : Result) (r : Record) (v : List ℕ) (ls : List (List ℕ)) (out : List ℕ) → y ≡ z → Repeats lay file r v ls out y → Repeats lay file r v ls out z
  same_result z y r v ls out e k = subst (Repeats lay file r v ls out) e k

  pub repeats-from : (ls : List (List ℕ)) (log : List ℕ) (t : Trace) → Accepted log t → (out : List ℕ)
      → Repeats lay file (record_of t) (work_of lay t w) ls out (lines_from lay file x t ls w out)
  unfolding Repeats record_of
  repeats-from [] log t a out = from_none lay file x t w out
  repeats-from (l ∷ ls) log t a out = (
    line_exists log t (record_of t) (work_of lay t w) l (left_by_lem lay log t a w),
    λ c v k.
        by_line_lem lay file x t (work_of lay t w) l c v (called log t a l c v k)
        (λ u p o. (
          (λ y m.
              let s : verdict_of u (formula_of file x) ≡ y = judged_same (verdict_of u (formula_of file x)) y (sym o.outcome ∙ m) in
              let h = repeats-from ls (log ++ l) u (taken_grows log t a l u p) (set out t.lines (verdict_byte y)) in
              let b : v ≡ work_of lay u w = o.pairs ∙ work_over lay u w t in
              let e : lines_from lay file x u ls w (set out t.lines (verdict_byte y)) ≡ lines_from lay file x t (l ∷ ls) w out =
              ap (λ (n : Verdict). lines_from lay file x u ls w (set out t.lines (verdict_byte n))) (sym s) ∙ sym (from-taken lay file x t l ls w out u p) in
              subst (λ (z : Record). Repeats lay file z v ls (set out t.lines (verdict_byte y)) (lines_from lay file x t (l ∷ ls) w out)) (sym o.state)
              (subst (λ (z : List ℕ). Repeats lay file (record_of u) z ls (set out t.lines (verdict_byte y)) (lines_from lay file x t (l ∷ ls) w out)) (sym b)
              (same_result _ _ (record_of u) (work_of lay u w) ls (set out t.lines (verdict_byte y)) e h))),
          (λ n m. judged-taken (verdict_of u (formula_of file x)) n (sym o.outcome ∙ m)),
        ))
        (λ d p o. (
          (λ y m. judged-taken y (number d) (sym m ∙ o.outcome)),
          (λ n m.
              let f : Outcome.Refused (number d) ≡ Outcome.Refused n = sym o.outcome ∙ m in
              let g : number d ≡ n = cc in
              from_refused lay file x t l ls w out d p ∙ (λ i. ended_at (sym o.state i) (Refused (g i) (t.lines + 1)) (sym o.pairs i) out)),
        )),
  )

-- THE LAW: for a rule that is taken and buffers that are long enough, the whole-log call gives what the single-line call gives on
-- one line after another, from what starting a record answers on.
pub log_is_repeated_line : (lay : Layout) (file log w out : List ℕ) (x : Rule) → rule_of file ≡ Ok x → work_size lay ≤ length w → 256 ≤ length out
    → Repeats lay file (start_of lay w).0.state (start_of lay w).1 (lines_of log) out (log_of lay file log w out)
unfolding log_of start_of
log_is_repeated_line lay file log w out x rule long room =
    simp (le-ltb (length w) (work_size lay) long, le-ltb (length out) 256 room)
    (subst (Repeats lay file (record_of no_trace) (work_of lay no_trace w) (lines_of log) out) (sym (with_taken (rule_of file) x _ _ rule))
    (repeats-from lay file x rule w (lines_of log) [] no_trace no_bytes out))

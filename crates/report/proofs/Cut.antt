-- The first 600 bytes of a rule file and the first 8,192 of a log decide the report. Of a log: the report is the text of what the
-- whole-log call leaves, and that call leaves the same for the first bytes. Of a rule file: a longer one than 599 bytes is refused, and
-- its first 600 bytes are refused with the same number.
use Prim.Native.Nat.{ℕ, ◌≤◌}
use mathlib.Core.Path.{◌≡◌, refl, ap, sym, ◌∙◌, subst}
use mathlib.Core.List.{List}
use native.Mathlib.Omega.{arith}
use lib.ListN.{length, take, replicate, length-replicate}
use lib.Seq.{take_all}
use Rattle.lists.proofs.Cases.{either_lt}
use Rattle.lists.proofs.Lists.{take-pad}
use Rattle.trace.specs.declared.Record.{Record}
use Rattle.trace.specs.Trace.{Trace, no_run}
use Rattle.trace.specs.Record.{record_of}
use Rattle.pairs.specs.declared.Layout.TheVariants.{Square}
use Rattle.pairs.specs.Layout.{work_size}
use Rattle.std.specs.Prelude.{Result, Ok, Err}
use Rattle.refusals.specs.Refusal.{number}
use Rattle.refusals.specs.declared.Refusal.{Refusal}
use Rattle.rules.specs.declared.Rule.{Rule}
use Rattle.rules.specs.Rules.{rule_of}
use Rattle.rules.proofs.Rules.{rule_taken}
use Rattle.rules.proofs.Cut.{first_bytes_decide_rule}
use Rattle.reading.specs.declared.Ending.{Ending}
use Rattle.whole_log.specs.declared.Mode.{Mode}
use Rattle.whole_log.specs.Log.{log_of}
use Rattle.whole_log.specs.Part.{read_part}
use Rattle.tallies.specs.Tally.{tally_of}
use Rattle.whole_log.specs.Repeated.{Result as Whole}
use Rattle.single.proofs.LineCall.{with_refused}
use Rattle.whole_log.proofs.Part.{part_unruled}
use Rattle.whole_log.proofs.Cut.{first_bytes_decide, part_cut}
use Rattle.text_pieces.specs.Pieces.{refused_text}
use Rattle.report.specs.Text.{report_text}
use Rattle.report.specs.RecordText.{record_text}
use Rattle.report.proofs.ReportCall.{Given, given}

-- ── the log ──
-- the runs and the line count of a trace can be read off its record
module _ (t u : Trace) (e : record_of t ≡ record_of u) where
  same_lines : t.lines ≡ u.lines
  unfolding record_of
  same_lines = ap (λ (r : Record). r.lines.0) e

  same_runs : t.runs ≡ u.runs
  unfolding record_of
  same_runs =
      sym (take-pad no_run 128 t.runs)
      ∙ (ap (λ (r : Record). take r.runs.count r.runs.list) e
      ∙ take-pad no_run 128 u.runs)

  -- so traces of one record give one text
  same_text_lem : (end : Ending) (v : List ℕ) → record_text t end v ≡ record_text u end v
  unfolding record_text tally_of
  same_text_lem end v = rw (same_lines, same_runs) refl

one_text : (file log front : List ℕ) (z : Whole) → Given file log z → Given file front z → report_text file log ≡ report_text file front
one_text file log front z g h = sym g.text ∙ (same_text_lem g.trace h.trace (sym g.state ∙ h.state) z.0.ending z.2 ∙ h.text)

-- a buffer for the whole-log call
buffer : (n : ℕ) → (l : List ℕ) × (n ≤ length l)
buffer n = (replicate n 0, omega (arith, length-replicate {A = ℕ} n 0))

log_cut : (file log : List ℕ) → report_text file (take 8192 log) ≡ report_text file log
log_cut file log =
    let w = buffer (work_size Square) in
    let out = buffer 256 in
    let g : Given file log (log_of Square file log w.0 out.0) = given Square file log w.0 out.0 (work_size Square) refl w.1 out.1 in
    one_text file (take 8192 log) log (log_of Square file (take 8192 log) w.0 out.0)
    (given Square file (take 8192 log) w.0 out.0 (work_size Square) refl w.1 out.1)
    (subst (Given file log) (first_bytes_decide Square file log w.0 out.0) g)

-- ── the rule file ──
refused_report : (file log : List ℕ) (c : Refusal) → rule_of file ≡ Err c → report_text file log ≡ refused_text 0 (number c)
unfolding report_text
refused_report file log c e = with_refused (rule_of file) c _ _ e

-- a file of 600 bytes or more
long-cut : (file log : List ℕ) → 600 ≤ length file → report_text (take 600 file) log ≡ report_text file log
long-cut file log h = go (rule_of file) refl
  where
    go : (q : Result Rule Refusal) → rule_of file ≡ q → report_text (take 600 file) log ≡ report_text file log
    go (Ok x) e = absurd (omega (arith, (rule_taken file x e).size))
    go (Err c) e = refused_report (take 600 file) log c (first_bytes_decide_rule file ∙ e) ∙ sym (refused_report file log c e)

rule_cut : (file log : List ℕ) → report_text (take 600 file) log ≡ report_text file log
rule_cut file log =
    either_lt (length file) 600
    (λ h. ap (λ (f : List ℕ). report_text f log) (take_all 600 file (omega arith)))
    (λ h. long-cut file log h)

-- THE LAW: nothing past the first 600 bytes of a rule file and the first 8,192 of a log changes the report.
pub first_bytes_decide_report : (file log : List ℕ) → report_text (take 600 file) (take 8192 log) ≡ report_text file log
first_bytes_decide_report file log = rule_cut file (take 8192 log) ∙ log_cut file log

-- ── the part that is read ──
rule_part_cut : (mode : Mode) (file log : List ℕ) → read_part mode (take 600 file) log ≡ read_part mode file log
rule_part_cut mode file log =
    either_lt (length file) 600
    (λ h. ap (λ (f : List ℕ). read_part mode f log) (take_all 600 file (omega arith)))
    (λ h. go h (rule_of file) refl)
  where
    go : 600 ≤ length file → (q : Result Rule Refusal) → rule_of file ≡ q → read_part mode (take 600 file) log ≡ read_part mode file log
    go h (Ok x) e = absurd (omega (arith, (rule_taken file x e).size))
    go h (Err c) e = part_unruled mode (take 600 file) log c (first_bytes_decide_rule file ∙ e) ∙ sym (part_unruled mode file log c e)

-- the same of what is read in a mode
pub first_bytes_decide_part_report : (mode : Mode) (file log : List ℕ)
    → report_text (take 600 file) (read_part mode (take 600 file) (take 8192 log)) ≡ report_text file (read_part mode file log)
first_bytes_decide_part_report mode file log =
    ap (report_text (take 600 file)) (rule_part_cut mode file (take 8192 log) ∙ part_cut mode file log)
    ∙ first_bytes_decide_report file (read_part mode file log)

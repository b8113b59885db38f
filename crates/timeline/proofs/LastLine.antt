-- The last line of a log: its verdict is that of all lines.
use Prim.Native.Nat.{ℕ, ◌≤◌}
use mathlib.Core.Path.{◌≡◌, ap, sym, ◌∙◌, subst}
use mathlib.Core.Bool.{false}
use mathlib.Core.List.{List}
use native.Mathlib.Omega.{arith}
use lib.ListN.{get_or, take}
use lib.Seq.{take_all}
use Rattle.lists.proofs.Cases.{no_both}
use Rattle.lines.specs.Log.{lines_of}
use Rattle.trace.specs.declared.Record.{Record}
use Rattle.trace.specs.Trace.{Trace, next, no_trace, read, steps, Accepted}
use Rattle.trace.specs.Record.{record_of, Valid}
use Rattle.trace.proofs.Bounds.{accepted-bounded}
use Rattle.rules.specs.declared.Rule.{Rule}
use Rattle.rules.specs.Rules.{formula_of}
use Rattle.logic.specs.declared.Verdict.{Verdict}
use Rattle.logic.specs.Verdict.{Says}
use Rattle.timeline.specs.declared.Timeline.{Timeline}
use Rattle.timeline.specs.AllLines.{verdict_at, JudgesFrom, JudgesLast}
use Rattle.timeline.proofs.AllLines.{lines_of_lem}

pub lines_in : (r : Record) (u : Trace) → r ≡ record_of u → r.lines.0 ≡ u.lines
unfolding record_of
lines_in r u e = ap (λ (x : Record). x.lines.0) e

pub valid_lines : (r : Record) → Valid r → r.lines.0 ≤ 256
valid_lines r v = omega (arith, lines_in r v.trace v.encoded, (accepted-bounded v.log v.trace v.accepted).lines)

pub last_fits : (file : List ℕ) (x : Rule) (r : Record) (y : Timeline) → JudgesFrom file x r r.lines.0 false y → (l : ℕ) → get_or y.done l 0 ≤ 128
last_fits file x r y j l = j.fits l

all_lines : (log : List ℕ) (u : Trace) → Accepted log u → steps (next no_trace) (take u.lines (lines_of log)) ≡ next u
unfolding read
all_lines log u a = ap (steps (next no_trace)) (take_all u.lines (lines_of log) (omega (arith, lines_of_lem log u a))) ∙ a.leaves

pub last_says : (file : List ℕ) (x : Rule) (r : Record) (y : Timeline) → JudgesFrom file x r r.lines.0 false y → (w : Verdict) → w ≡ verdict_at y r.lines.0 → JudgesLast file x r w
last_says file x r y j w e log u a q =
    subst (Says u (formula_of file x)) (ap (verdict_at y) (sym (lines_in r u q)) ∙ sym e) (j.says log u a q u.lines u (omega (arith, lines_in r u q)) (omega arith) (λ b. no_both (sym b)) (all_lines log u a))

-- Which numbers a line can be refused with.
use Prim.Native.Nat.{ℕ, ◌≤◌}
use mathlib.Core.Path.{◌≡◌, refl, ap, sym, ◌∙◌}
use mathlib.Core.Bool.{Bool, true, false, cond}
use mathlib.Core.List.{List}
use native.Mathlib.Omega.{arith}
use lib.Dec.{leb}
use lib.ListN.{length}
use Rattle.labels.specs.declared.Label.{Label}
use Rattle.labels.specs.Label.{label_of}
use Rattle.labels.specs.Table.{with_label}
use Rattle.refusals.specs.declared.Refusal.TheVariants.{StillOpen, NeverBegun, NoneOpen, TooManyRuns, TooManyLabels}
use Rattle.refusals.specs.declared.Refusal.{Refusal}
use Rattle.refusals.specs.Refusal.{number}
use Rattle.lines.specs.Event.{Event, begins, ends, faulty}
use Rattle.lines.specs.Line.{event_of}
use Rattle.lines.proofs.Event.{event_refusal}
use Rattle.trace.specs.Trace.{Trace, next, refused, any_running?, begun?, begin, end, begin_run, end_run, apply, step}
use Rattle.trace.proofs.Taken.{step_is}

abbrev InLines : Refusal → Type 0
InLines e = (11 ≤ number e) × (number e ≤ 19)

pub same_number_lem : (c d : Refusal) → refused d ≡ refused c → d ≡ c
same_number_lem c d e = cc

pub no_refusal : {C : Type 0} (c : Refusal) (u : Trace) → next u ≡ refused c → C
no_refusal c u e = absurd (let z : ◌≡◌ {A = ℕ} 0 1 = cc in omega arith)

begin_number : (t : Trace) (i : ℕ) (x : Label) (c : Refusal) → begin_run t i x ≡ refused c → InLines c
unfolding begin_run
begin_number t i x c e = go (any_running? i t.runs) (leb 128 (length t.runs)) (leb 65 (length (with_label t.labels x))) e
  where
    go : (a b d : Bool) → cond a (refused StillOpen) (cond b (refused TooManyRuns) (cond d (refused TooManyLabels) (next (begin t i x)))) ≡ refused c → InLines c
    go true b d e = let f = ap number (same_number_lem c StillOpen e) in omega arith
    go false true d e = let f = ap number (same_number_lem c TooManyRuns e) in omega arith
    go false false true e = let f = ap number (same_number_lem c TooManyLabels e) in omega arith
    go false false false e = no_refusal c (begin t i x) e

end_number : (t : Trace) (i : ℕ) (c : Refusal) → end_run t i ≡ refused c → InLines c
unfolding end_run
end_number t i c e = go (any_running? i t.runs) (begun? i t.runs) e
  where
    go : (a b : Bool) → cond a (next (end t i)) (cond b (refused NoneOpen) (refused NeverBegun)) ≡ refused c → InLines c
    go true b e = no_refusal c (end t i) e
    go false true e = let f = ap number (same_number_lem c NoneOpen e) in omega arith
    go false false e = let f = ap number (same_number_lem c NeverBegun e) in omega arith

-- a line is refused with one of 11 to 19
pub line_number : (t : Trace) (l : List ℕ) (c : Refusal) → step (next t) l ≡ refused c → (11 ≤ number c) × (number c ≤ 19)
unfolding apply
line_number t l c e = go (event_of l) refl (sym (step_is t l) ∙ e)
  where
    go : (v : Event) → event_of l ≡ v → apply t v ≡ refused c → InLines c
    go (begins i s) q e = begin_number t i (label_of s) c e
    go (ends i) q e = end_number t i c e
    go (faulty d) q e = let r = event_refusal l d q in let f = ap number (same_number_lem c d e) in omega arith

-- The first line that fails: each line before it holds, so that the search for it goes far enough to judge it.
use Prim.Native.Nat.{ℕ, ◌+◌, ◌<◌, ◌≤◌}
use mathlib.Core.Path.{◌≡◌, refl, sym, ap, subst, ◌∙◌}
use mathlib.Core.Bool.{Bool, true, false, cond, not}
use mathlib.Core.List.{List}
use native.Mathlib.Omega.{arith}
use borrow.Author.Tests.{eq-eqb, ne_eqb}
use lib.ListN.{length}
use Rattle.lists.proofs.Cases.{either_eq, either_lt, no_both}
use Rattle.trace.specs.declared.Record.{Record}
use Rattle.trace.specs.Trace.{Trace, Accepted}
use Rattle.trace.proofs.Accepted.{accepted_orderly}
use Rattle.rules.specs.declared.Rule.{Rule}
use Rattle.rules.specs.Rules.{formula_of, Taken}
use Rattle.logic.specs.declared.Verdict.{Verdict}
use Rattle.logic.specs.declared.Verdict.TheVariants.{Holds, Fails}
use Rattle.logic.specs.Model.{eval, model_of}
use Rattle.logic.specs.Verdict.{Says}
use Rattle.logic.proofs.Judged.{closed_says}
use Rattle.order.specs.Order.{finish_order}
use Rattle.order.proofs.Ranks.{ranked_finished}
use Rattle.row_table.specs.Truth.{truth}
use Rattle.timeline.specs.Root.{no_runs}
use Rattle.timeline.specs.declared.Timeline.{Timeline}
use Rattle.timeline.specs.AllLines.{verdict_at, HoldsBefore, NotBehind, verdict_up_to, JudgesFrom, FirstFails, FindsFailing}
use Rattle.timeline.proofs.Bridge.{eval_before_first}
use Rattle.timeline.proofs.Front.{first_accepted}
use Rattle.timeline.proofs.AllLines.{first_lines}
use Rattle.timeline.proofs.LastLine.{lines_in}

-- ── a verdict up to the first that fails ──
pub up_to_there : (n k : ℕ) → k ≡ n → verdict_up_to n k ≡ Fails
up_to_there n k e = ap (λ (b : Bool). cond b Fails Holds) (eq-eqb k n e)

pub up_to_before : (n k : ℕ) → (k ≡ n → ⊥) → verdict_up_to n k ≡ Holds
up_to_before n k d = ap (λ (b : Bool). cond b Fails Holds) (ne_eqb k n d)

-- ── a search through the lines ──
-- the lines before line k hold
abbrev pub HoldTo : Timeline → ℕ → Type 0
HoldTo y k = (l : ℕ) → 0 < l → l < k → verdict_at y l ≡ Holds

pub hold_none : (y : Timeline) → HoldTo y 1
hold_none y l p h = absurd (omega arith)

module _ (y : Timeline) (k : ℕ) (h : HoldTo y k) where
  pub hold_more : (v : Verdict) (b : Bool) → v ≡ verdict_at y k → v ≡ cond b Fails Holds → b ≡ false → HoldTo y (k + 1)
  hold_more v b e f q l p m =
      either_eq l k
      (λ z. ap (verdict_at y) z ∙ (sym e ∙ (f ∙ ap (λ (x : Bool). cond x Fails Holds) q)))
      (λ d. h l p (omega (arith, d)))

  pub first_found : (lines : ℕ) (v : Verdict) (b : Bool) → 0 < k → k < lines + 1 → v ≡ verdict_at y k → v ≡ cond b Fails Holds → b ≡ true → FirstFails y lines k
  first_found lines v b some low e f q =
      record {
        low = omega arith;
        verdict = λ l p m n.
            either_eq l k
            (λ z. ap (verdict_at y) z ∙ (sym e ∙ (f ∙ (ap (λ (x : Bool). cond x Fails Holds) q ∙ sym (up_to_there k l z)))))
            (λ d. h l p (omega (arith, d, n (omega arith))) ∙ sym (up_to_before k l d));
      }

  pub none_found : (lines : ℕ) → lines < k → FirstFails y lines 0
  none_found lines all =
      record {
        low = omega arith;
        verdict = λ l p m n. h l p (omega arith) ∙ sym (up_to_before 0 l (λ z. omega arith));
      }

-- ── line 1 ──
-- no run is finished with line 1, since it begins before it ends
none_finished : (log : List ℕ) (t : Trace) → Accepted log t → t.lines ≡ 1 → length (finish_order t) ≡ 0
none_finished log t a one =
    either_lt 0 (length (finish_order t))
    (λ h.
    let o = accepted_orderly log t a in
    let p = ranked_finished log t a 0 h in
    absurd (omega (arith, p.by, o.forward _ p.finished, o.within _ p.low)))
    (λ h. omega arith)

was_false : (b : Bool) → not b ≡ true → b ≡ false
was_false true e = no_both (sym e)
was_false false e = refl

module _ (file : List ℕ) (x : Rule) (taken : Taken file x) (r : Record) where
  pub no_lines : r.lines.0 ≡ 0 → FindsFailing file x r 0
  no_lines e = record { low = omega arith; says = λ log u a q k t p low near first. absurd (omega (arith, lines_in r u q)) }

  pub first_fails : (r.lines.0 ≡ 0 → ⊥) → (b : Bool) → b ≡ truth no_runs (formula_of file x) (λ _. 0) 0 → not b ≡ true → FindsFailing file x r 1
  first_fails some b e failed =
      let f : b ≡ false = was_false b failed in
      record {
        low = omega arith;
        says = λ log u a q k t p low near first.
            let z : k ≡ 1 = omega (arith, near (omega arith)) in
            let s = first_accepted log u a k t first in
            let c : t.lines ≡ 1 = first_lines log u a k t low first ∙ z in
            let v : false ≡ eval (model_of t) (λ _. 0) (formula_of file x) =
            sym f ∙ (e ∙ sym (eval_before_first log u a k t first no_runs refl (formula_of file x) (λ _. 0) (λ _. 0) 0 taken.closed (none_finished s.0 t s.1 c))) in
            subst (Says t (formula_of file x)) (sym (up_to_there 1 k z)) (closed_says t (formula_of file x) (λ _. 0) false taken.closed v);
      }

-- ── THE LAW: the first that fails by a search that may stop is the first that fails ──
lines_before : (y : Timeline) (lines n k : ℕ) → FirstFails y lines n → k ≤ lines → NotBehind n k → HoldsBefore y 0 k
lines_before y lines n k x low near l p _ h =
    x.verdict l p (omega arith) (λ q. omega (arith, near q)) ∙ up_to_before n l (λ z. omega (arith, near (omega arith)))

pub finds-failing : (file : List ℕ) (x : Rule) (r : Record) (y : Timeline) (n : ℕ) → JudgesFrom file x r 0 true y → FirstFails y r.lines.0 n → FindsFailing file x r n
finds-failing file x r y n j f =
    record {
      low = f.low;
      says = λ log u a e k t p low near first.
          let m : k ≤ r.lines.0 = omega (arith, lines_in r u e) in
          subst (Says t (formula_of file x)) (f.verdict k p m near)
          (j.says log u a e k t (omega arith) low (λ _. lines_before y r.lines.0 n k f m near) first);
    }

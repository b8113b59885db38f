-- From a truth value to a verdict: the formula of a rule is closed, so the verdict is the same for every binding. And the number that a
-- search in a record finds for a label.
use Prim.Native.Nat.{ℕ}
use mathlib.Core.Path.{◌≡◌, refl, sym, ap, subst, ◌∙◌}
use mathlib.Core.Bool.{Bool, true, false, cond}
use mathlib.Core.Logic.{◌↔◌}
use mathlib.Core.List.{List}
use native.Mathlib.Omega.{arith}
use lib.ListN.{length}
use borrow.Author.Tests.{lt-ltb, le-ltb}
use Rattle.lists.specs.Tells.{Tells}
use Rattle.lists.proofs.Cases.{either_lt}
use Rattle.labels.specs.declared.Label.{Label}
use Rattle.labels.specs.Label.{label_of}
use Rattle.labels.specs.Table.{index_of}
use Rattle.labels.specs.Search.{lookup, slot_of}
use Rattle.labels.proofs.Table.{lookup_table}
use Rattle.trace.specs.Trace.{Trace}
use Rattle.trace.specs.Record.{record_of, Bounded}
use Rattle.rules.specs.Formula.{Formula, no_scope, scoped}
use Rattle.logic.specs.declared.Verdict.TheVariants.{Holds, Fails}
use Rattle.logic.specs.Satisfies.{Binding, Satisfies}
use Rattle.logic.specs.Model.{eval, model_of}
use Rattle.logic.specs.Shown.{slot_number, number_for}
use Rattle.logic.specs.Verdict.{verdict_byte, verdict_of, Says}
use Rattle.logic.proofs.Decides.{eval_decides}
use Rattle.logic.proofs.Closed.{eval_closed}

-- ── from a truth value to a verdict ──
holds_iff : {P : Type 0} (b : Bool) → Tells b P → (verdict_byte (cond b Holds Fails) ≡ 1) ↔ P
holds_iff true p = (λ _. p.yes refl, λ _. refl)
holds_iff false p = (λ e. absurd (omega arith), λ h. absurd (p.no refl h))

fails_iff : {P : Type 0} (b : Bool) → Tells b P → (verdict_byte (cond b Holds Fails) ≡ 0) ↔ (P → ⊥)
fails_iff true p = (λ e. absurd (omega arith), λ h. absurd (h (p.yes refl)))
fails_iff false p = (λ _. p.no refl, λ _. refl)

-- the truth value of a closed formula, under any binding, gives its verdict
pub closed_says : (t : Trace) (f : Formula) (σ : Binding) (b : Bool) → scoped f no_scope ≡ true → b ≡ eval (model_of t) σ f → Says t f (cond b Holds Fails)
unfolding verdict_of
closed_says t f σ b c e =
    let at : (ρ : Binding) → Tells b (Satisfies t ρ f) = λ ρ. subst (λ (x : Bool). Tells x (Satisfies t ρ f)) (eval_closed (model_of t) f ρ σ c ∙ sym e) (eval_decides t ρ f) in
    record {
      answer = ap (λ (x : Bool). cond x Holds Fails) (e ∙ eval_closed (model_of t) f σ (λ _. 0) c);
      holds = λ ρ. holds_iff b (at ρ);
      fails = λ ρ. fails_iff b (at ρ);
    }

-- ── label numbers ──
slot_number_lem : (ls : List Label) (l : List ℕ) → slot_number (slot_of ls (label_of l)) ≡ number_for ls l
unfolding slot_of number_for
slot_number_lem ls l =
    either_lt (index_of ls (label_of l)) (length ls)
    (λ h. simp (lt-ltb _ _ h))
    (λ h. simp (le-ltb _ _ h))

-- the number that a search in the record of a trace finds for a label
pub label_found : (t : Trace) → Bounded t → (l : List ℕ) → slot_number (lookup (record_of t).labels (label_of l)) ≡ number_for t.labels l
unfolding record_of
label_found t b l = ap slot_number (lookup_table t.labels b.distinct b.labels (label_of l)) ∙ slot_number_lem t.labels l

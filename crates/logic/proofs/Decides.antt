-- The test decides the logic: `eval` of a trace's model is true exactly if the trace satisfies the formula.
use Prim.Native.Nat.{ℕ, zero, suc, ◌<◌}
use mathlib.Core.Path.{◌≡◌, refl, sym, subst, ap, ◌∙◌}
use mathlib.Core.Bool.{Bool, true, false, not, ◌&&◌, ◌||◌}
use mathlib.Core.List.{List}
use native.Mathlib.Omega.{arith}
use lib.Dec.{eqb}
use lib.ListN.{length}
use borrow.Author.Tests.{ltb-true, ltb-false, eqb-true, eqb-false}
use Rattle.lists.specs.Lists.{any_below, same?}
use Rattle.lists.specs.Tells.{Tells}
use Rattle.lists.proofs.Cases.{either_eq, no_both}
use Rattle.lists.proofs.Tells.{tell_no, tell_yes, tell_by}
use Rattle.lists.proofs.Lists.{same_refl, same_eq}
use Rattle.labels.specs.Label.{text}
use Rattle.labels.specs.Table.{label_at}
use Rattle.trace.specs.Trace.{Trace, run_at, end_line, start, finish}
use Rattle.relations.specs.Relation as Relation
use Rattle.relations.specs.Runs.{FinishedRun, finished?}
use Rattle.relations.proofs.Relation.{relates_tells}
use Rattle.relations.proofs.Runs.{finished_run}
use Rattle.rules.specs.Formula.{Formula, both, neg, exists, has, pair}
use Rattle.logic.specs.Satisfies.{Binding, bind, HasLabel, Related, SameLabel, Between, related, alike, between, HoldsBetween, Satisfies}
use Rattle.logic.specs.Model.{eval, number_at, has_label?, related?, same_label?, holds_between?, model_of}

-- ── tests put together ──
pub tell_both : {A B : Type 0} (a b : Bool) → Tells a A → Tells b B → Tells (a && b) (A × B)
tell_both true true p q = tell_yes (p.yes refl, q.yes refl)
tell_both true false p q = tell_no (λ h. q.no refl h.1)
tell_both false b p q = tell_no (λ h. p.no refl h.0)

pub tell_not : {A : Type 0} (a : Bool) → Tells a A → Tells (not a) (A → ⊥)
tell_not true p = tell_no (λ h. h (p.yes refl))
tell_not false p = tell_yes (λ h. p.no refl h)

pub tell_eq : (a b : ℕ) → Tells (eqb a b) (a ≡ b)
tell_eq a b = record { yes = eqb-true a b; no = eqb-false a b }

tell_same : (a b : List ℕ) → Tells (same? a b) (a ≡ b)
tell_same a b = record { yes = same_eq a b; no = λ e p. no_both (sym (same_refl a) ∙ (ap (same? a) p ∙ e)) }

-- some number below n passes exactly if there is one of which the claim holds
any_more : (P : ℕ → Type 0) (a b : Bool) (n : ℕ) → Tells a ((j : ℕ) × (j < n) × P j) → Tells b (P n) → Tells (a || b) ((j : ℕ) × (j < suc n) × P j)
any_more P true b n p q = tell_yes (let h = p.yes refl in (h.0, omega (arith, h.1), h.2))
any_more P false true n p q = tell_yes (n, omega arith, q.yes refl)
any_more P false false n p q =
    tell_no (λ h. either_eq h.0 n
    (λ e. q.no refl (subst P e h.2))
    (λ m. p.no refl (h.0, omega (arith, h.1, m), h.2)))

pub tell_any : (P : ℕ → Type 0) (p : ℕ → Bool) → ((j : ℕ) → Tells (p j) (P j)) → (n : ℕ) → Tells (any_below n p) ((j : ℕ) × (j < n) × P j)
tell_any P p d zero = tell_no (λ h. omega (arith, h.1))
tell_any P p d (suc n) = any_more P (any_below n p) (p n) n (tell_any P p d n) (d n)

-- ── the parts of a formula ──
module _ (t : Trace) where
  tell_finished : (j : ℕ) → Tells (finished? t j) (FinishedRun t j)
  tell_finished j = record { yes = λ e. finished_run t j (ltb-true 0 (end_line (run_at t j)) e); no = λ e h. omega (arith, ltb-false 0 (end_line (run_at t j)) e, h.ended) }

  tell_label : (j : ℕ) (l : List ℕ) → Tells (has_label? t j l) (HasLabel t j l)
  tell_label j l =
      tell_by (λ h. record { labelled = h.0; bytes = h.1 }) (λ h. (h.labelled, h.bytes))
      (tell_both _ _ (tell_not _ (tell_eq (number_at t j) 0)) (tell_same (text (label_at t.labels (number_at t j))) l))

  pub tell_related : (r : Relation.Relation) (j k : ℕ) → Tells (related? r t j k) (Related r t j k)
  tell_related r j k =
      tell_by (λ h. record { first = h.0; second = h.1.0; relates = h.1.1 }) (λ h. (h.first, (h.second, h.relates)))
      (tell_both _ _ (tell_finished j) (tell_both _ _ (tell_finished k) (relates_tells r (start t j) (finish t j) (start t k) (finish t k))))

  tell_alike : (j k : ℕ) → Tells (same_label? t j k) (SameLabel t j k)
  tell_alike j k =
      let l : List ℕ = text (label_at t.labels (number_at t j)) in
      tell_by
      (λ h. record { label = l; first = record { labelled = h.0; bytes = refl }; second = h.1 })
      (λ h. (h.first.labelled, subst (HasLabel t k) (sym h.first.bytes) h.second))
      (tell_both _ _ (tell_not _ (tell_eq (number_at t j) 0)) (tell_label k l))

  tell_between : (b : Between) (j k : ℕ) → Tells (holds_between? b t j k) (HoldsBetween b t j k)
  tell_between (related r) j k = tell_related r j k
  tell_between alike j k = tell_alike j k

  -- THE LAW: the test is true exactly if the formula is satisfied
  pub eval_decides : (ρ : Binding) (f : Formula) → Tells (eval (model_of t) ρ f) (Satisfies t ρ f)
  unfolding eval Satisfies
  eval_decides ρ (both f g) = tell_both _ _ (eval_decides ρ f) (eval_decides ρ g)
  eval_decides ρ (neg f) = tell_not _ (eval_decides ρ f)
  eval_decides ρ (exists v f) =
      tell_by
      (λ h. (h.0, h.2.0, h.2.1))
      (λ h. (h.0, h.1.begun, (h.1, h.2)))
      (tell_any (λ j. FinishedRun t j × Satisfies t (bind ρ v j) f) (λ j. finished? t j && eval (model_of t) (bind ρ v j) f)
      (λ j. tell_both _ _ (tell_finished j) (eval_decides (bind ρ v j) f)) (length t.runs))
  eval_decides ρ (has v l) = tell_label (ρ v) l
  eval_decides ρ (pair p v w) = tell_between (between p) (ρ v) (ρ w)

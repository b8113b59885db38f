-- What the first slip means, by run numbers: it passes, no slip that passes comes before it, and where the chain is false none passes.
use Prim.Native.Nat.{ℕ, zero, suc, ◌<◌}
use mathlib.Core.Path.{◌≡◌, refl, sym, ap, ap₂, subst, ◌∙◌}
use mathlib.Core.Logic.{◌⊎◌, inl, inr, ⊎_elim}
use mathlib.Core.Bool.{Bool, true, false, ◌&&◌, cond}
use mathlib.Core.List.{List, [], ◌∷◌}
use native.Mathlib.Omega.{arith}
use borrow.Author.Tests.{lt-ltb, ltb-true}
use lib.Dec.{ltb}
use lib.ListN.{length}
use Rattle.lists.proofs.Cases.{either_eq, either_lt, either_bool, no_both, and_left, and_right}
use Rattle.trace.specs.Trace.{Trace, run_at, end_line}
use Rattle.relations.specs.Runs.{FinishedRun, finished?}
use Rattle.rules.specs.Formula.{Formula, exists}
use Rattle.logic.specs.Satisfies.{Binding, bind, Satisfies}
use Rattle.logic.specs.Model.{eval, model_of}
use Rattle.logic.proofs.Decides.{eval_decides}
use Rattle.slip_form.specs.Form.{some_of}
use Rattle.slip_form.specs.Slips.{bind_each, Each, Before}
use Rattle.slip_form.specs.Chain.{some?}
use Rattle.slip_search.specs.First.{Asked, serves, Least, First, true_for, of_runs}
use Rattle.slips.specs.Answers.{least_below, first_runs}

-- the runs ks pass for the chain of the variables vs over g
pub record PassesFrom (t : Trace) (ρ : Binding) (vs : List ℕ) (g : Formula) (ks : List ℕ) : Type 0 where
  pub one_each : length ks ≡ length vs
  pub finished : Each (FinishedRun t) ks
  pub true_of : Satisfies t (bind_each ρ vs ks) g

-- the least number is one
least_is : (n : ℕ) (p : ℕ → Bool) (k : ℕ) → k < n → ((j : ℕ) → j < k → p j ≡ false) → p k ≡ true → least_below n p ≡ k
unfolding least_below
least_is zero p k h before found = absurd (omega arith)
least_is (suc n) p zero h before found = ap (λ (b : Bool). cond b zero (suc (least_below n (λ j. p (suc j))))) found
least_is (suc n) p (suc k) h before found =
    ap (λ (b : Bool). cond b zero (suc (least_below n (λ j. p (suc j))))) (before zero (omega arith))
    ∙ ap suc (least_is n (λ j. p (suc j)) k (omega arith) (λ j l. before (suc j) (omega (arith, l))) found)

-- ── the order of slips ──
-- of two different slips of one length one is before the other
pub either_before : (js ks : List ℕ) → length js ≡ length ks → Before js ks ⊎ ((js ≡ ks) ⊎ Before ks js)
unfolding Before
either_before [] [] e = inr (inl refl)
either_before [] (k ∷ ks) e = absurd (omega arith)
either_before (j ∷ js) [] e = absurd (omega arith)
either_before (j ∷ js) (k ∷ ks) e =
    either_lt j k (λ l. inl (inl l))
    (λ l. either_eq j k
    (λ q. ⊎_elim (λ b. inl (inr (q, b))) (λ r. ⊎_elim (λ s. inr (inl (ap₂ (λ (x : ℕ) (xs : List ℕ). x ∷ xs) q s))) (λ b. inr (inr (inr (sym q, b)))) r)
    (either_before js ks (omega arith)))
    (λ d. inr (inr (inl (omega (arith, l, d))))))

module _ (t : Trace) where
  abbrev q : Asked
  q = of_runs (model_of t)

  pub holds_of : (ρ : Binding) (f : Formula) → Satisfies t ρ f → eval (model_of t) ρ f ≡ true
  holds_of ρ f h = either_bool (eval (model_of t) ρ f) (λ e. e) (λ e. absurd ((eval_decides t ρ f).no e h))

  pub may_of : (k : ℕ) → FinishedRun t k → q.may k ≡ true
  may_of k h = ap₂ ◌&&◌ (lt-ltb k (length t.runs) h.begun) (lt-ltb 0 (end_line (run_at t k)) h.ended)

  pub run_of : (k : ℕ) → q.may k ≡ true → FinishedRun t k
  run_of k h =
      record {
        begun = ltb-true k (length t.runs) (and_left (ltb k (length t.runs)) (finished? t k) h);
        ended = ltb-true 0 (end_line (run_at t k)) (and_right (ltb k (length t.runs)) (finished? t k) h);
      }

  -- ── the chain is true exactly if some slip passes ──
  pub passes_satisfies : (vs ks : List ℕ) (ρ : Binding) (g : Formula) → PassesFrom t ρ vs g ks → Satisfies t ρ (some_of vs g)
  unfolding Satisfies Each
  passes_satisfies [] [] ρ g h = h.true_of
  passes_satisfies [] (k ∷ ks) ρ g h = absurd (omega (arith, h.one_each))
  passes_satisfies (v ∷ vs) [] ρ g h = absurd (omega (arith, h.one_each))
  passes_satisfies (v ∷ vs) (k ∷ ks) ρ g h = (
    k,
    h.finished.0,
    passes_satisfies vs ks (bind ρ v k) g (record { one_each = omega (arith, h.one_each); finished = h.finished.1; true_of = h.true_of }),
  )

  pub satisfies_passes : (vs : List ℕ) (ρ : Binding) (g : Formula) → Satisfies t ρ (some_of vs g) → (ks : List ℕ) × PassesFrom t ρ vs g ks
  unfolding Satisfies Each
  satisfies_passes [] ρ g h = ([], record { one_each = refl; finished = tt; true_of = h })
  satisfies_passes (v ∷ vs) ρ g h =
      let w = satisfies_passes vs (bind ρ v h.0) g h.2 in (
        h.0 ∷ w.0,
        record { one_each = ap suc w.1.one_each; finished = (h.1, w.1.finished); true_of = w.1.true_of },
      )

  -- ── the first slip ──
  -- one level: the variable and the rest of the chain are those of the formula
  pub record Level (ρ : Binding) (v : ℕ) (g : Formula) (k : ℕ) (ks : List ℕ) : Type 0 where
    pub low : k < 128
    pub least : Least (serves (of_runs (model_of t)) g ρ v) 128 k
    pub rest : First (of_runs (model_of t)) (bind ρ v k) g ks

  level : (ρ : Binding) (v : ℕ) (g : Formula) (k : ℕ) (ks : List ℕ) → First q ρ (exists v g) (k ∷ ks) → Level ρ v g k ks
  unfolding First
  level ρ v g k ks h =
      let same-v : h.0 ≡ v = sym (cc h.2) in
      let same-g : h.1 ≡ g = sym (cc h.2) in
      record {
        low = h.3;
        least = subst (λ (w : ℕ). Least (serves (of_runs (model_of t)) g ρ w) 128 k) same-v
            (subst (λ (f : Formula). Least (serves (of_runs (model_of t)) f ρ h.0) 128 k) same-g h.4);
        rest = subst (λ (w : ℕ). First (of_runs (model_of t)) (bind ρ w k) g ks) same-v
            (subst (λ (f : Formula). First (of_runs (model_of t)) (bind ρ h.0 k) f ks) same-g h.5);
      }

  no_some : (f g : Formula) (v k : ℕ) (ρ : Binding) (ks : List ℕ) → some? f ≡ false → First q ρ f (k ∷ ks) → ⊥
  unfolding First
  no_some f g v k ρ ks e h = no_both (sym (ap some? h.2) ∙ e)

  module _ (g : Formula) (plain : some? g ≡ false) where
    pub first_passes : (vs ks : List ℕ) (ρ : Binding) → First q ρ (some_of vs g) ks → PassesFrom t ρ vs g ks
    unfolding First Each
    first_passes [] [] ρ h = record { one_each = refl; finished = tt; true_of = (eval_decides t ρ g).yes h.1 }
    first_passes [] (k ∷ ks) ρ h = absurd (no_some g g 0 k ρ ks plain h)
    first_passes (v ∷ vs) [] ρ h = no_both h.0
    first_passes (v ∷ vs) (k ∷ ks) ρ h =
        let l = level ρ v (some_of vs g) k ks h in
        let s : serves q (some_of vs g) ρ v k ≡ true = l.least.found l.low in
        let r = first_passes vs ks (bind ρ v k) l.rest in
        record {
          one_each = ap suc r.one_each;
          finished = (run_of k (and_left (q.may k) _ s), r.finished);
          true_of = r.true_of;
        }

    -- THE LAW: no slip before the first passes
    pub first_earliest : (vs ks js : List ℕ) (ρ : Binding) → First q ρ (some_of vs g) ks → PassesFrom t ρ vs g js → Before js ks → ⊥
    unfolding Before Each
    first_earliest [] ks [] ρ h y b = b
    first_earliest [] ks (j ∷ js) ρ h y b = omega (arith, y.one_each)
    first_earliest (v ∷ vs) [] [] ρ h y b = b
    first_earliest (v ∷ vs) [] (j ∷ js) ρ h y b = b
    first_earliest (v ∷ vs) (k ∷ ks) [] ρ h y b = b
    first_earliest (v ∷ vs) (k ∷ ks) (j ∷ js) ρ h y b =
        let l = level ρ v (some_of vs g) k ks h in
        let p : PassesFrom t (bind ρ v j) vs g js = record { one_each = omega (arith, y.one_each); finished = y.finished.1; true_of = y.true_of } in
        let s : serves q (some_of vs g) ρ v j ≡ true = ap₂ ◌&&◌ (may_of j y.finished.0) (holds_of (bind ρ v j) (some_of vs g) (passes_satisfies vs js (bind ρ v j) g p)) in
        ⊎_elim
        (λ i. no_both (sym s ∙ l.least.before j i))
        (λ e. first_earliest vs ks js (bind ρ v k) l.rest (subst (λ (i : ℕ). PassesFrom t (bind ρ v i) vs g js) e.0 p) e.1)
        b

    -- the first slip is the one that is computed
    pub first_is : (vs ks : List ℕ) (ρ : Binding) → First q ρ (some_of vs g) ks → ks ≡ first_runs (model_of t) ρ vs g
    unfolding first_runs First
    first_is [] [] ρ h = refl
    first_is [] (k ∷ ks) ρ h = absurd (no_some g g 0 k ρ ks plain h)
    first_is (v ∷ vs) [] ρ h = no_both h.0
    first_is (v ∷ vs) (k ∷ ks) ρ h =
        let l = level ρ v (some_of vs g) k ks h in
        let s : serves q (some_of vs g) ρ v k ≡ true = l.least.found l.low in
        let run : FinishedRun t k = run_of k (and_left (q.may k) _ s) in
        let p : ℕ → Bool = λ j. finished? t j && eval (model_of t) (bind ρ v j) (some_of vs g) in
        let less : (j : ℕ) → j < k → (finished? t j && eval (model_of t) (bind ρ v j) (some_of vs g)) ≡ false =
        λ j i.
        sym (ap (λ (b : Bool). (b && finished? t j) && eval (model_of t) (bind ρ v j) (some_of vs g)) (lt-ltb j (length t.runs) (omega (arith, run.begun))))
        ∙ l.least.before j i
        in
        let here : (finished? t k && eval (model_of t) (bind ρ v k) (some_of vs g)) ≡ true =
        ap₂ ◌&&◌ (lt-ltb 0 (end_line (run_at t k)) run.ended) (and_right (q.may k) _ s)
        in
        let e : least_below (length t.runs) (λ j. finished? t j && eval (model_of t) (bind ρ v j) (some_of vs g)) ≡ k =
        least_is (length t.runs) (λ j. finished? t j && eval (model_of t) (bind ρ v j) (some_of vs g)) k run.begun less here
        in
        ap₂ (λ (x : ℕ) (xs : List ℕ). x ∷ xs) (sym e)
        (first_is vs ks (bind ρ v k) l.rest ∙ ap (λ (x : ℕ). first_runs (model_of t) (bind ρ v x) vs g) (sym e))

  -- ── given runs ──
  pub true_of_each : (vs ks : List ℕ) (ρ : Binding) (g : Formula) → length ks ≡ length vs → true_for q ρ (some_of vs g) ks ≡ eval (model_of t) (bind_each ρ vs ks) g
  unfolding true_for
  true_of_each [] [] ρ g e = refl
  true_of_each [] (k ∷ ks) ρ g e = absurd (omega arith)
  true_of_each (v ∷ vs) [] ρ g e = absurd (omega arith)
  true_of_each (v ∷ vs) (k ∷ ks) ρ g e = true_of_each vs ks (bind ρ v k) g (omega arith)

-- A formula in which every variable is bound has one truth value, whatever the variables stand for at first; and a model that says
-- the same of every finished run, and has only unfinished runs more, gives it the same truth value.
use Prim.Native.Nat.{ℕ, zero, suc, ◌≤◌}
use mathlib.Core.Path.{◌≡◌, refl, sym, ap, ap₂, ◌∙◌}
use mathlib.Core.Bool.{Bool, true, false, not, ◌&&◌, ◌||◌, cond, or-false}
use mathlib.Core.List.{List}
use native.Mathlib.Omega.{arith}
use lib.Dec.{eqb}
use Rattle.lists.specs.Lists.{any_below}
use Rattle.lists.proofs.Below.{any_agree}
use Rattle.lists.proofs.Cases.{either_eq, no_both, and_left, and_right}
use Rattle.rules.specs.Formula.{Pairing, Formula, both, neg, exists, has, pair, Scope, no_scope, enter, scoped}
use Rattle.logic.specs.Satisfies.{Binding, bind}
use Rattle.logic.specs.Model.{Model, eval}

-- ── bindings that agree on the variables in scope ──
abbrev AgreeOn : Scope → Binding → Binding → Type 0
AgreeOn s ρ σ = (v : ℕ) → s v ≡ true → ρ v ≡ σ v

enter_agree : (s : Scope) (ρ σ : Binding) (v j : ℕ) → AgreeOn s ρ σ → AgreeOn (enter s v) (bind ρ v j) (bind σ v j)
enter_agree s ρ σ v j h w = go (eqb v w)
  where
    go : (x : Bool) → (x || s w) ≡ true → cond x j (ρ w) ≡ cond x j (σ w)
    go true e = refl
    go false e = h w e

module _ (m : Model) where
  eval_scoped : (f : Formula) (s : Scope) (ρ σ : Binding) → scoped f s ≡ true → AgreeOn s ρ σ → eval m ρ f ≡ eval m σ f
  unfolding eval scoped
  eval_scoped (both f g) s ρ σ e h = ap₂ ◌&&◌ (eval_scoped f s ρ σ (and_left (scoped f s) (scoped g s) e) h) (eval_scoped g s ρ σ (and_right (scoped f s) (scoped g s) e) h)
  eval_scoped (neg f) s ρ σ e h = ap not (eval_scoped f s ρ σ e h)
  eval_scoped (exists v f) s ρ σ e h =
      any_agree (λ j. m.done j && eval m (bind ρ v j) f) (λ j. m.done j && eval m (bind σ v j) f) m.runs
      (λ j l. ap (λ (b : Bool). m.done j && b) (eval_scoped f (enter s v) (bind ρ v j) (bind σ v j) e (enter_agree s ρ σ v j h)))
  eval_scoped (has v l) s ρ σ e h = ap (λ (i : ℕ). m.labelled i l) (h v e)
  eval_scoped (pair p v w) s ρ σ e h = ap₂ (m.paired p) (h v (and_left (s v) (s w) e)) (h w (and_right (s v) (s w) e))

  pub eval_closed : (f : Formula) (ρ σ : Binding) → scoped f (λ _. false) ≡ true → eval m ρ f ≡ eval m σ f
  eval_closed f ρ σ e = eval_scoped f (λ _. false) ρ σ e (λ v h. no_both (sym h))

-- ── a model with unfinished runs more ──
pub record Extends (m o : Model) : Type 0 where
  pub runs : m.runs ≤ o.runs
  pub done : (j : ℕ) → m.done j ≡ o.done j
  pub unfinished : (j : ℕ) → m.runs ≤ j → o.done j ≡ false
  pub labelled : (j : ℕ) (l : List ℕ) → m.done j ≡ true → m.labelled j l ≡ o.labelled j l
  pub paired : (p : Pairing) (j k : ℕ) → m.done j ≡ true → m.done k ≡ true → m.paired p j k ≡ o.paired p j k

-- numbers that do not pass change nothing
any_longer : (p : ℕ → Bool) (n m : ℕ) → n ≤ m → ((j : ℕ) → n ≤ j → p j ≡ false) → any_below n p ≡ any_below m p
any_longer p n zero h none = let e : n ≡ 0 = omega arith in ap (λ (k : ℕ). any_below k p) e
any_longer p n (suc m) h none =
    either_eq n (suc m)
    (λ e. ap (λ (k : ℕ). any_below k p) e)
    (λ d. let l : n ≤ m = omega (arith, d) in any_longer p n m l none ∙ (sym (or-false (any_below m p)) ∙ ap (λ (b : Bool). any_below m p || b) (sym (none m l))))

module _ (m o : Model) (x : Extends m o) where
  -- the variables in scope stand for finished runs
  abbrev FinishedOn : Scope → Binding → Type 0
  FinishedOn s ρ = (v : ℕ) → s v ≡ true → m.done (ρ v) ≡ true

  enter_finished : (s : Scope) (ρ : Binding) (v j : ℕ) → FinishedOn s ρ → m.done j ≡ true → FinishedOn (enter s v) (bind ρ v j)
  enter_finished s ρ v j h d w = go (eqb v w)
    where
      go : (b : Bool) → (b || s w) ≡ true → m.done (cond b j (ρ w)) ≡ true
      go true e = d
      go false e = h w e

  extends_scoped : (f : Formula) (s : Scope) (ρ : Binding) → scoped f s ≡ true → FinishedOn s ρ → eval m ρ f ≡ eval o ρ f
  unfolding eval scoped
  extends_scoped (both f g) s ρ e h = ap₂ ◌&&◌ (extends_scoped f s ρ (and_left (scoped f s) (scoped g s) e) h) (extends_scoped g s ρ (and_right (scoped f s) (scoped g s) e) h)
  extends_scoped (neg f) s ρ e h = ap not (extends_scoped f s ρ e h)
  extends_scoped (exists v f) s ρ e h =
      any_agree (λ j. m.done j && eval m (bind ρ v j) f) (λ j. o.done j && eval o (bind ρ v j) f) m.runs
      (λ j _. each j (λ d. extends_scoped f (enter s v) (bind ρ v j) e (enter_finished s ρ v j h d)) (m.done j) refl)
      ∙ any_longer (λ j. o.done j && eval o (bind ρ v j) f) m.runs o.runs x.runs (λ j l. ap (λ (b : Bool). b && eval o (bind ρ v j) f) (x.unfinished j l))
    where
      each : (j : ℕ) → (m.done j ≡ true → eval m (bind ρ v j) f ≡ eval o (bind ρ v j) f) → (b : Bool) → m.done j ≡ b → (m.done j && eval m (bind ρ v j) f) ≡ (o.done j && eval o (bind ρ v j) f)
      each j g true d = ap₂ ◌&&◌ (x.done j) (g d)
      each j g false d = rw (d, sym (x.done j) ∙ d) refl
  extends_scoped (has v l) s ρ e h = x.labelled (ρ v) l (h v e)
  extends_scoped (pair p v w) s ρ e h = x.paired p (ρ v) (ρ w) (h v (and_left (s v) (s w) e)) (h w (and_right (s v) (s w) e))

  pub eval_extends : (f : Formula) (ρ : Binding) → scoped f no_scope ≡ true → eval m ρ f ≡ eval o ρ f
  eval_extends f ρ e = extends_scoped f no_scope ρ e (λ v h. no_both (sym h))

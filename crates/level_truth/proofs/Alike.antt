-- A closed formula and the same formula with each variable renamed to the level of its "some" are true under the same models: so a
-- trace satisfies both or neither, and gives both one verdict. The renamed formula is closed and as deep as the first, and renamed
-- once more it is the same.
use Prim.Native.Nat.{ℕ, zero, suc, ◌<◌}
use mathlib.Core.Path.{◌≡◌, refl, sym, ap, ap₂, subst}
use mathlib.Core.Logic.{◌↔◌}
use mathlib.Core.Bool.{Bool, true, false, not, ◌&&◌, ◌||◌, cond}
use native.Mathlib.Omega.{arith}
use lib.Dec.{eqb}
use borrow.Author.Tests.{eq-eqb, ne_eqb, eqb-true}
use Rattle.lists.specs.Tells.{Tells}
use Rattle.lists.proofs.Below.{any_agree}
use Rattle.lists.proofs.Cases.{either_bool, no_both, and_left, and_right}
use Rattle.trace.specs.Trace.{Trace}
use Rattle.rules.specs.Formula.{Formula, both, neg, exists, has, pair, Scope, no_scope, enter, scoped, shallow}
use Rattle.rules.proofs.Scopes.{scoped_both_left, scoped_both_right}
use Rattle.levels.specs.Levels.{Levels, no_levels, binds, renamed, by_level}
use Rattle.logic.specs.declared.Verdict.TheVariants.{Holds, Fails}
use Rattle.logic.specs.Satisfies.{Binding, bind, Satisfies}
use Rattle.logic.specs.Model.{Model, eval, model_of}
use Rattle.logic.specs.Verdict.{verdict_of}
use Rattle.logic.proofs.Decides.{eval_decides}

-- ── the same truth value ──
-- the variables in scope have levels below d
abbrev pub Inner : Scope → Levels → ℕ → Type 0
Inner s e d = (v : ℕ) → s v ≡ true → e v < d

-- the level of each variable in scope stands for what the variable stands for
abbrev pub Agrees : Scope → Levels → Binding → Binding → Type 0
Agrees s e ρ σ = (v : ℕ) → s v ≡ true → ρ (e v) ≡ σ v

-- inside one more "some" all levels are below the next
inner-more : (s : Scope) (e : Levels) (d v : ℕ) → Inner s e d → Inner (enter s v) (binds e v d) (suc d)
inner-more s e d v i w = go (eqb v w)
  where
    go : (b : Bool) → (b || s w) ≡ true → cond b d (e w) < suc d
    go true h = omega arith
    go false h = omega (arith, i w h)

-- inside one more "some" its level stands for its run, and the levels below for what they stood for
agrees_more : (s : Scope) (e : Levels) (ρ σ : Binding) (d v j : ℕ) → Inner s e d → Agrees s e ρ σ → Agrees (enter s v) (binds e v d) (bind ρ d j) (bind σ v j)
agrees_more s e ρ σ d v j i a w = go (eqb v w)
  where
    go : (b : Bool) → (b || s w) ≡ true → bind ρ d j (cond b d (e w)) ≡ cond b j (σ w)
    go true h = rw (eq-eqb d d refl)
    go false h = let l : e w < d = i w h in rw (ne_eqb d (e w) (λ z. omega arith)) (a w h)

module _ (m : Model) where
  -- the renamed formula is true exactly where the formula is
  pub renamed-eval : (f : Formula) (d : ℕ) (s : Scope) (e : Levels) (ρ σ : Binding) → Inner s e d → Agrees s e ρ σ → scoped f s ≡ true → eval m ρ (renamed d e f) ≡ eval m σ f
  unfolding eval renamed scoped
  renamed-eval (both f g) d s e ρ σ i a c =
      ap₂ ◌&&◌ (renamed-eval f d s e ρ σ i a (scoped_both_left f g s c)) (renamed-eval g d s e ρ σ i a (scoped_both_right f g s c))
  renamed-eval (neg f) d s e ρ σ i a c = ap not (renamed-eval f d s e ρ σ i a c)
  renamed-eval (exists v f) d s e ρ σ i a c =
      any_agree (λ j. m.done j && eval m (bind ρ d j) (renamed (suc d) (binds e v d) f)) (λ j. m.done j && eval m (bind σ v j) f) m.runs
      (λ j _. ap (λ (b : Bool). m.done j && b)
      (renamed-eval f (suc d) (enter s v) (binds e v d) (bind ρ d j) (bind σ v j) (inner-more s e d v i) (agrees_more s e ρ σ d v j i a) c))
  renamed-eval (has v l) d s e ρ σ i a c = ap (λ (j : ℕ). m.labelled j l) (a v c)
  renamed-eval (pair p v w) d s e ρ σ i a c = ap₂ (m.paired p) (a v (and_left (s v) (s w) c)) (a w (and_right (s v) (s w) c))

-- a closed formula and its renamed one have one truth value, whatever the bindings
pub by_level-eval : (m : Model) (f : Formula) → scoped f no_scope ≡ true → (ρ σ : Binding) → eval m ρ (by_level f) ≡ eval m σ f
by_level-eval m f c ρ σ = renamed-eval m f 0 no_scope no_levels ρ σ (λ v h. no_both (sym h)) (λ v h. no_both (sym h)) c

-- ── the renamed formula ──
-- the level of each variable in scope is in the scope of the renamed formula
abbrev Reaches : Scope → Levels → Scope → Type 0
Reaches s e z = (v : ℕ) → s v ≡ true → z (e v) ≡ true

-- what is in scope stays in scope
stays : (a b : Bool) → b ≡ true → (a || b) ≡ true
stays true b h = refl
stays false b h = h

-- one more "some" brings its level into scope
reaches_more : (s : Scope) (e : Levels) (z : Scope) (d v : ℕ) → Reaches s e z → Reaches (enter s v) (binds e v d) (enter z d)
reaches_more s e z d v r w = go (eqb v w)
  where
    go : (b : Bool) → (b || s w) ≡ true → enter z d (cond b d (e w)) ≡ true
    go true h = rw (eq-eqb d d refl)
    go false h = stays (eqb d (e w)) (z (e w)) (r w h)

-- the renamed formula is scoped in a scope that its levels reach
renamed_scoped : (f : Formula) (d : ℕ) (s : Scope) (e : Levels) (z : Scope) → Reaches s e z → scoped f s ≡ true → scoped (renamed d e f) z ≡ true
unfolding renamed scoped
renamed_scoped (both f g) d s e z r c =
    ap₂ ◌&&◌ (renamed_scoped f d s e z r (scoped_both_left f g s c)) (renamed_scoped g d s e z r (scoped_both_right f g s c))
renamed_scoped (neg f) d s e z r c = renamed_scoped f d s e z r c
renamed_scoped (exists v f) d s e z r c = renamed_scoped f (suc d) (enter s v) (binds e v d) (enter z d) (reaches_more s e z d v r) c
renamed_scoped (has v l) d s e z r c = r v c
renamed_scoped (pair p v w) d s e z r c = ap₂ ◌&&◌ (r v (and_left (s v) (s w) c)) (r w (and_right (s v) (s w) c))

-- a closed formula stays closed
pub by_level_scoped : (f : Formula) → scoped f no_scope ≡ true → scoped (by_level f) no_scope ≡ true
by_level_scoped f c = renamed_scoped f 0 no_scope no_levels no_scope (λ v h. h) c

-- the "some" lie inside one another as they did
renamed-shallow : (f : Formula) (d : ℕ) (e : Levels) (n : ℕ) → shallow n (renamed d e f) ≡ shallow n f
unfolding renamed shallow
renamed-shallow (both f g) d e n = ap₂ ◌&&◌ (renamed-shallow f d e n) (renamed-shallow g d e n)
renamed-shallow (neg f) d e n = renamed-shallow f d e n
renamed-shallow (exists v f) d e zero = refl
renamed-shallow (exists v f) d e (suc n) = renamed-shallow f (suc d) (binds e v d) n
renamed-shallow (has v l) d e n = refl
renamed-shallow (pair p v w) d e n = refl

-- the renamed formula is as deep as the formula, closed or not
pub by_level-shallow : (f : Formula) (n : ℕ) → shallow n (by_level f) ≡ shallow n f
by_level-shallow f n = renamed-shallow f 0 no_levels n

-- the level of each variable in scope is its own level in x
abbrev Keeps : Scope → Levels → Levels → Type 0
Keeps s e x = (v : ℕ) → s v ≡ true → x (e v) ≡ e v

-- a level bound to itself or kept as it was is kept
kept : (x : Levels) (d k : ℕ) → x k ≡ k → binds x d d k ≡ k
kept x d k h = either_bool (eqb d k) (λ b. rw b (eqb-true d k b)) (λ b. rw b h)

-- one more "some" keeps its level
keeps-more : (s : Scope) (e x : Levels) (d v : ℕ) → Keeps s e x → Keeps (enter s v) (binds e v d) (binds x d d)
keeps-more s e x d v k w = go (eqb v w)
  where
    go : (b : Bool) → (b || s w) ≡ true → binds x d d (cond b d (e w)) ≡ cond b d (e w)
    go true h = rw (eq-eqb d d refl)
    go false h = kept x d (e w) (k w h)

-- a renamed formula is its own renamed formula
renamed-again : (f : Formula) (d : ℕ) (s : Scope) (e x : Levels) → Keeps s e x → scoped f s ≡ true → renamed d x (renamed d e f) ≡ renamed d e f
unfolding renamed scoped
renamed-again (both f g) d s e x k c =
    ap₂ both (renamed-again f d s e x k (scoped_both_left f g s c)) (renamed-again g d s e x k (scoped_both_right f g s c))
renamed-again (neg f) d s e x k c = ap neg (renamed-again f d s e x k c)
renamed-again (exists v f) d s e x k c =
    ap (exists d) (renamed-again f (suc d) (enter s v) (binds e v d) (binds x d d) (keeps-more s e x d v k) c)
renamed-again (has v l) d s e x k c = ap (λ (i : ℕ). has i l) (k v c)
renamed-again (pair p v w) d s e x k c = ap₂ (pair p) (k v (and_left (s v) (s w) c)) (k w (and_right (s v) (s w) c))

-- renaming a closed formula twice is renaming it once
pub by_level-again : (f : Formula) → scoped f no_scope ≡ true → by_level (by_level f) ≡ by_level f
by_level-again f c = renamed-again f 0 no_scope no_levels no_levels (λ v h. refl) c

-- ── satisfaction and verdict ──
-- two claims with one test hold together
alike : {P Q : Type 0} (b : Bool) → Tells b P → Tells b Q → P ↔ Q
alike true p q = (λ _. q.yes refl, λ _. p.yes refl)
alike false p q = (λ h. absurd (p.no refl h), λ h. absurd (q.no refl h))

-- a trace satisfies a closed formula exactly if it satisfies the renamed one
pub by_level_satisfies : (t : Trace) (f : Formula) → scoped f no_scope ≡ true → (ρ : Binding) → Satisfies t ρ (by_level f) ↔ Satisfies t ρ f
by_level_satisfies t f c ρ =
    alike (eval (model_of t) ρ f)
    (subst (λ (b : Bool). Tells b (Satisfies t ρ (by_level f))) (by_level-eval (model_of t) f c ρ ρ) (eval_decides t ρ (by_level f)))
    (eval_decides t ρ f)

-- a trace gives a closed formula and the renamed one the same verdict
pub by_level_verdict : (t : Trace) (f : Formula) → scoped f no_scope ≡ true → verdict_of t (by_level f) ≡ verdict_of t f
unfolding verdict_of
by_level_verdict t f c = ap (λ (b : Bool). cond b Holds Fails) (by_level-eval (model_of t) f c (λ _. 0) (λ _. 0))

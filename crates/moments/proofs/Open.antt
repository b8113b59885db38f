-- Runs that may satisfy a formula, node by node, and what a run that is left out says.
use Prim.Native.Nat.{ℕ, ◌≤◌}
use mathlib.Core.Path.{◌≡◌, refl, sym, ap, ap₂, ◌∙◌}
use mathlib.Core.Bool.{Bool, true, false, ◌&&◌, cond}
use mathlib.Core.List.{List}
use native.Mathlib.Omega.{arith}
use lib.Dec.{eqb, ltb, leb}
use lib.ListN.{get_or}
use borrow.Author.Tests.{eqb-true, lt-ltb}
use Rattle.lists.proofs.Below.{found_at}
use Rattle.lists.proofs.Cases.{no_both, and_left, and_right}
use Rattle.sets.specs.Sets.{bit, mem}
use Rattle.sets.specs.declared.RunSet.{RunSet}
use Rattle.rules.specs.Formula.{Formula, both, exists}
use Rattle.rules.specs.Table.{node_at, Good, formula_at}
use Rattle.rules.specs.declared.Node.{Node}
use Rattle.rules.proofs.Formulas.{formula-and, formula_some}
use Rattle.logic.specs.Satisfies.{Binding, bind}
use Rattle.logic.specs.Model.{Model, eval}
use Rattle.row_table.specs.Truth.{truth, each, at, Fixed, TrueAt, FalseWithout}
use Rattle.shape.specs.Shape.{flat?, free?}
use Rattle.moments.specs.Shape.{Heights, Frees}
use Rattle.moments.specs.Open.{Keeps, NoneShared, Marked}
use Rattle.row_table.proofs.Marks.{at_each_fixed}
use Rattle.moments.proofs.Masks.{marked_on, marked_more}
use Rattle.row_table.proofs.Truth.{height-flat, flat-truth, free_truth}

-- ── formulas ──
module _ (M : Model) (ρ : Binding) where
  pub keep_all : (f : Formula) (any : ℕ → Bool) (dom : RunSet) → Keeps M ρ f any dom dom
  keep_all f any dom = record { within = λ j l e. e; keeps = λ j m σ l d a e. d }

  keep_and : (f g : Formula) (any : ℕ → Bool) (dom l r : RunSet) → Keeps M ρ f any dom l → Keeps M ρ g any l r → Keeps M ρ (both f g) any dom r
  unfolding eval
  keep_and f g any dom l r p q = record {
    within = λ j i e. p.within j i (q.within j i e);
    keeps = λ j m σ i d a e.
        q.keeps j m σ i (p.keeps j m σ i d a (and_left (truth M f σ m) (truth M g σ m) e)) a (and_right (truth M f σ m) (truth M g σ m) e);
  }

  -- inside a "some" its variable is left open too
  keep_some : (v : ℕ) (f : Formula) (any more : ℕ → Bool) (dom r : RunSet) → more v ≡ true → ((w : ℕ) → more w ≡ false → any w ≡ false) → Keeps M ρ f more dom r → Keeps M ρ (exists v f) any dom r
  unfolding eval
  keep_some v f any more dom r mv mw p = record {
    within = p.within;
    keeps = λ j m σ i d a e.
        let x = found_at (λ r. leb r m && truth M f (bind σ v r) m) M.runs e in
        p.keeps j m (bind σ v x.0) i d (λ w q. other σ j w x.0 q (a w (mw w q))) (and_right (leb x.0 m) (truth M f (bind σ v x.0) m) x.2);
  }
    where
      other : (σ : Binding) (j w x : ℕ) → more w ≡ false → σ w ≡ at ρ j w → bind σ v x w ≡ at ρ j w
      other σ j w x q e = go (eqb v w) refl
        where
          go : (b : Bool) → eqb v w ≡ b → cond b x (σ w) ≡ at ρ j w
          go true g = no_both (sym mv ∙ (ap more (eqb-true v w g) ∙ q))
          go false g = e

  -- a formula without "some", with no variable left open
  keep_flat : (f : Formula) (any : ℕ → Bool) (dom r : RunSet) → flat? f ≡ true → ((w : ℕ) → free? f w ≡ true → any w ≡ false) → TrueAt M f ρ dom r → Keeps M ρ f any dom r
  keep_flat f any dom r fl un h = record {
    within = λ j l e. and_left (mem dom j) (truth M f (at ρ j) j) (sym (h j l) ∙ e);
    keeps = λ j m σ l d a e.
        h j l ∙ ap₂ ◌&&◌ d (flat-truth M j m f (at ρ j) fl ∙ (sym (free_truth M m f σ (at ρ j) (λ w q. a w (un w q))) ∙ e));
  }

-- ── nodes ──
module _ (M : Model) (ρ : Binding) (file : List ℕ) (p n : ℕ) (x : Node) (is : x ≡ node_at file p n) (good : Good file p n) (dom : RunSet) where
  pub keeps-and : (any : ℕ → Bool) (l r : RunSet) → x.kind ≡ 1 → Keeps M ρ (formula_at file p x.a) any dom l → Keeps M ρ (formula_at file p x.b) any l r → Keeps M ρ (formula_at file p n) any dom r
  keeps-and any l r k h g = rw (formula-and file p n x is good k) (keep_and M ρ _ _ any dom l r h g)

  pub keeps_some : (any more : ℕ) (r : RunSet) → x.kind ≡ 3 → Marked any x.a more → Keeps M ρ (formula_at file p x.b) (bit more) dom r → Keeps M ρ (formula_at file p n) (bit any) dom r
  keeps_some any more r k m h = rw (formula_some file p n x is good k) (keep_some M ρ x.a _ (bit any) (bit more) dom r (marked_on any x.a more m) (marked_more any x.a more m) h)

pub keeps-flat : (M : Model) (ρ : Binding) (file : List ℕ) (p n : ℕ) (heights frees : List ℕ) (any : ℕ) (dom r : RunSet) → Heights file p n heights → Frees file p n frees
    → (get_or heights n 0 ≡ 0) × NoneShared (get_or frees n 0) any → TrueAt M (formula_at file p n) ρ dom r → Keeps M ρ (formula_at file p n) (bit any) dom r
keeps-flat M ρ file p n heights frees any dom r hi fr q h =
    keep_flat M ρ (formula_at file p n) (bit any) dom r (height-flat (formula_at file p n) (sym (hi.high n (omega arith)) ∙ q.0)) (λ w u. q.1 w (fr.free n (omega arith) w u)) h

-- ── runs that are left out ──
module _ (M : Model) (f : Formula) (ρ : Binding) (v : ℕ) (finished : RunSet) (all : (j : ℕ) → mem finished j ≡ ltb j M.runs) where
  pub dropped_false : (σ : Binding) (r : RunSet) → Fixed ρ → M.runs ≤ 128 → σ ≡ bind ρ v each → Keeps M σ f (bit 0) finished r → FalseWithout M f ρ v r
  dropped_false σ r fx few e k i l z j m = go (truth M f (bind (at ρ j) v i) m) refl
    where
      stands : (w : ℕ) → bind (at ρ j) v i w ≡ at σ i w
      stands w = ap (λ (τ : Binding). τ w) (sym (ap (λ (τ : Binding). at τ i) e ∙ at_each_fixed ρ v i j fx))

      go : (b : Bool) → truth M f (bind (at ρ j) v i) m ≡ b → b ≡ false
      go true q = no_both (sym (k.keeps i m (bind (at ρ j) v i) (omega arith) (all i ∙ lt-ltb i M.runs l) (λ w a. stands w) q) ∙ z)
      go false q = refl

  pub none_dropped : FalseWithout M f ρ v finished
  none_dropped i l z j m = no_both (sym (all i ∙ lt-ltb i M.runs l) ∙ z)

-- The search for a run at once, where the body has no "some".
use Prim.Native.Nat.{ℕ, ◌≤◌}
use mathlib.Core.Path.{◌≡◌, ap, ap₂, ◌∙◌}
use mathlib.Core.Bool.{Bool, ◌&&◌}
use native.Mathlib.Omega.{arith}
use lib.Dec.{ltb}
use Rattle.sets.specs.Sets.{mem, any_up_to}
use Rattle.sets.specs.declared.RunSet.{RunSet}
use Rattle.rules.specs.Formula.{Formula, exists}
use Rattle.logic.specs.Satisfies.{Binding, bind}
use Rattle.logic.specs.Model.{Model, eval}
use Rattle.shape.specs.Shape.{height}
use Rattle.set_table.specs.Rows.{Narrowed}
use Rattle.row_table.specs.Truth.{truth, each, at, Fixed, TrueAt}
use Rattle.row_table.proofs.Marks.{at_each_fixed}
use Rattle.row_table.proofs.Truth.{height-flat, flat-truth, up_to_moment, any_up_agree}

-- a body without "some" does not depend on the moment: from the first run on that satisfies it, "some" is true
module _ (M : Model) (f : Formula) (ρ σ : Binding) (v : ℕ) (dom finished found r : RunSet) where
  pub some_at_once : Fixed ρ → height f ≡ 0 → σ ≡ bind ρ v each → ((j : ℕ) → mem finished j ≡ ltb j M.runs) → TrueAt M f σ finished found
      → Narrowed (λ j. any_up_to j (mem found)) dom r → TrueAt M (exists v f) ρ dom r
  unfolding eval
  some_at_once fx low e hf ht hr j h =
      let served : ℕ → Bool = λ i. truth M f (bind (at ρ j) v i) j in
      let one : (i : ℕ) → i ≤ j → mem found i ≡ (ltb i M.runs && served i) =
      λ i l.
      ht i (omega (arith, l))
      ∙ ap₂ ◌&&◌ (hf i)
      (ap (λ (τ : Binding). truth M f τ i) (ap (λ (τ : Binding). at τ i) e ∙ at_each_fixed ρ v i j fx) ∙ flat-truth M i j f (bind (at ρ j) v i) (height-flat f low)) in
      hr j h ∙ ap (λ (x : Bool). mem dom j && x) (any_up_agree (mem found) (λ i. ltb i M.runs && served i) j one ∙ up_to_moment M.runs j served)

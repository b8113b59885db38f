-- The search for a run by rows.
use Prim.Native.Nat.{ℕ, ◌<◌, ◌≤◌}
use mathlib.Core.Path.{◌≡◌, refl, sym, ap, ap₂, ◌∙◌}
use mathlib.Core.Bool.{Bool, true, false, ◌&&◌, and-false, and_assoc}
use mathlib.Core.List.{List}
use native.Mathlib.Omega.{arith}
use lib.Dec.{leb}
use Rattle.lists.specs.Lists.{any_below}
use Rattle.lists.proofs.Below.{any_agree, any_and}
use Rattle.sets.specs.Sets.{mem}
use Rattle.sets.specs.declared.RunSet.{RunSet}
use Rattle.rules.specs.Formula.{Formula, exists}
use Rattle.logic.specs.Satisfies.{Binding, bind}
use Rattle.logic.specs.Model.{Model, eval}
use Rattle.set_table.specs.Rows.{row, Rowwise, RowByRow, StartOf}
use Rattle.set_table.proofs.Turns.{Together}
use Rattle.row_table.specs.Truth.{truth, at, Fixed, TrueAt, FalseWithout}
use Rattle.row_table.proofs.Marks.{at_bind}
use Rattle.matrix.specs.Matrix.{each_row, rowed}
use Rattle.matrix.proofs.Rowed.{rowed_mark}

-- With k: run i is kept, d: the moment is in dom, l: run i is finished, f: the body holds with it.
kept_serves : (k d l f : Bool) → (k ≡ false → f ≡ false) → ((k && (d && l)) && f) ≡ (d && (l && f))
kept_serves true d l f h = and_assoc d l f
kept_serves false d l f h = sym (ap (λ (x : Bool). d && (l && x)) (h refl) ∙ (ap (λ (x : Bool). d && x) (and-false l) ∙ and-false d))

-- the rows of the runs that serve have together the moments at which one serves
module _ (M : Model) (f : Formula) (ρ σ : Binding) (v : ℕ) (dom keep r : RunSet) (runs : ℕ) (none start kept : List ℕ) where
  pub some_by_rows : M.runs ≡ runs → runs ≤ 128 → Fixed ρ → σ ≡ bind ρ v each_row → FalseWithout M f ρ v keep → RowByRow (λ k old. StartOf dom keep k) runs none start
      → Rowwise (λ k. TrueAt M f (rowed σ k)) runs start kept → Together kept r runs → TrueAt M (exists v f) ρ dom r
  unfolding eval
  some_by_rows e few fx eσ drop hs hk hr j h =
      let serves : ℕ → Bool = λ i. leb i j && truth M f (bind (at ρ j) v i) j in
      let binds : (i : ℕ) → i < runs → at (rowed σ i) j ≡ bind (at ρ j) v i =
      λ i l. ap (λ (τ : Binding). at τ j) (ap (λ (τ : Binding). rowed τ i) eσ ∙ rowed_mark ρ v i fx) ∙ at_bind ρ v i j (omega (arith, l)) in
      let one : (i : ℕ) → i < runs → mem (row kept i) j ≡ (mem dom j && serves i) =
      λ i l.
      hk i l j h
      ∙ (ap₂ ◌&&◌ (hs.rows i l j) (ap (λ (τ : Binding). truth M f τ j) (binds i l))
      ∙ kept_serves (mem keep i) (mem dom j) (leb i j) (truth M f (bind (at ρ j) v i) j) (λ z. drop i (omega (arith, l, e)) z j j)) in
      hr j
      ∙ (any_agree (λ i. mem (row kept i) j) (λ i. mem dom j && serves i) runs one
      ∙ (any_and (mem dom j) serves runs ∙ ap (λ (n : ℕ). mem dom j && any_below n serves) (sym e)))

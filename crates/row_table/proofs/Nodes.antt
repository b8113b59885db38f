-- The moments of a node, from those of its children and from the rows.
use Prim.Native.Nat.{ℕ, ◌+◌, ◌-◌}
use mathlib.Core.Path.{◌≡◌, refl, sym, subst, ap, ◌∙◌}
use mathlib.Core.Bool.{Bool, true, false, not, ◌&&◌, and_assoc}
use mathlib.Core.List.{List}
use native.Mathlib.Omega.{arith}
use borrow.Author.Tests.{eq-eqb, ne_eqb}
use Rattle.lists.proofs.Cases.{either_eq}
use Rattle.sets.specs.Sets.{mem}
use Rattle.sets.specs.declared.RunSet.{RunSet}
use Rattle.rules.specs.Formula.{Pairing, Formula, neg, exists}
use Rattle.rules.specs.Parts.{label_count}
use Rattle.rules.specs.Table.{pairing_of, node_at, Good, AtomOk, formula_at}
use Rattle.rules.specs.declared.Node.{Node}
use Rattle.rules.proofs.Formulas.{formula-and, formula_not, formula_some, formula-has, formula_pair}
use Rattle.logic.specs.Satisfies.{Binding}
use Rattle.logic.specs.Model.{Model, eval}
use Rattle.row_table.specs.Truth.{truth, at, TrueAt}
use Rattle.row_table.specs.Rows.{pair_of, atom_of}
use Rattle.set_table.specs.Rows.{Narrowed}

none_part : (d t u : Bool) → (d && t) ≡ false → (d && t) ≡ (d && (t && u))
none_part d t u e = e ∙ (sym (ap (λ (x : Bool). x && u) e) ∙ and_assoc d t u)

minus_part : (d t : Bool) → (d && not (d && t)) ≡ (d && not t)
minus_part true t = refl
minus_part false t = refl

pub true_from : (M : Model) (f : Formula) (ρ : Binding) (a b r : RunSet) → a ≡ b → TrueAt M f ρ a r → TrueAt M f ρ b r
true_from M f ρ a b r e = subst (λ (s : RunSet). TrueAt M f ρ s r) e

pub true_neg : (M : Model) (f : Formula) (ρ : Binding) (dom l r : RunSet) → TrueAt M f ρ dom l → Narrowed (λ j. not (mem l j)) dom r → TrueAt M (neg f) ρ dom r
unfolding eval
true_neg M f ρ dom l r hx hr j h = hr j h ∙ (ap (λ (b : Bool). mem dom j && not b) (hx j h) ∙ minus_part (mem dom j) (truth M f (at ρ j) j))

module _ (M : Model) (ρ : Binding) (file : List ℕ) (p n : ℕ) (x : Node) (is : x ≡ node_at file p n) (good : Good file p n) where
  abbrev Moments : ℕ → RunSet → RunSet → Type 0
  Moments c dom r = TrueAt M (formula_at file p c) ρ dom r

  abbrev holds : ℕ → ℕ → Bool
  holds c j = truth M (formula_at file p c) (at ρ j) j

  pub moments_and : (dom l r : RunSet) → x.kind ≡ 1 → Moments x.a dom l → Moments x.b l r → Moments n dom r
  unfolding eval
  moments_and dom l r k hx hy j h =
      rw (formula-and file p n x is good k)
      (hy j h ∙ (ap (λ (b : Bool). b && holds x.b j) (hx j h) ∙ and_assoc (mem dom j) (holds x.a j) (holds x.b j)))

  pub moments_and_none : (dom l : RunSet) → x.kind ≡ 1 → Moments x.a dom l → ((j : ℕ) → mem l j ≡ false) → Moments n dom l
  unfolding eval
  moments_and_none dom l k hx z j h =
      rw (formula-and file p n x is good k) (hx j h ∙ none_part (mem dom j) (holds x.a j) (holds x.b j) (sym (hx j h) ∙ z j))

  pub moments_neg : (dom r : RunSet) → x.kind ≡ 2 → TrueAt M (neg (formula_at file p x.a)) ρ dom r → Moments n dom r
  moments_neg dom r k hx j h = rw (formula_not file p n x is good k) (hx j h)

  pub moments_not : (dom l r : RunSet) → x.kind ≡ 2 → Moments x.a dom l → Narrowed (λ j. not (mem l j)) dom r → Moments n dom r
  moments_not dom l r k hx hr = moments_neg dom r k (true_neg M (formula_at file p x.a) ρ dom l r hx hr)

  pub moments_some : (dom r : RunSet) → x.kind ≡ 3 → TrueAt M (exists x.a (formula_at file p x.b)) ρ dom r → Moments n dom r
  moments_some dom r k hx j h = rw (formula_some file p n x is good k) (hx j h)

  -- a node of kinds 4 to 8 has one truth value at all moments
  module _ (σ : Binding) (m : ℕ) where
    atom_truth : AtomOk (label_count file) x → atom_of M file x σ ≡ truth M (formula_at file p n) σ m
    unfolding atom_of pair_of eval
    atom_truth o =
        either_eq x.kind 4
        (λ k. rw (eq-eqb x.kind 4 k, formula-has file p n x is good k) refl)
        (λ n4.
        let back : x.kind - 5 + 5 ≡ x.kind = omega (arith, o.low) in
        rw (ne_eqb x.kind 4 n4, formula_pair file p n x is good (omega (arith, o.low)) o.high)
        (ap (λ (q : Pairing). M.paired q (σ x.a) (σ x.b)) (ap pairing_of back)))

  pub moments_atom : (dom r : RunSet) → AtomOk (label_count file) x → Narrowed (λ j. atom_of M file x (at ρ j)) dom r → Moments n dom r
  moments_atom dom r o hr j h = hr j h ∙ ap (λ (b : Bool). mem dom j && b) (atom_truth (at ρ j) j o)

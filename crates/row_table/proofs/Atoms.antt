-- What the set of a node of kinds 4 to 8 has, by which of its variables are marked.
use Prim.Native.Nat.{ℕ, ◌+◌, ◌*◌, ◌-◌, ◌<◌, ◌≤◌}
use mathlib.Core.Path.{◌≡◌, refl, ap, sym, ◌∙◌}
use mathlib.Core.Bool.{Bool}
use mathlib.Core.List.{List}
use native.Mathlib.Omega.{arith}
use lib.Dec.{ltb}
use borrow.Author.Tests.{eq-eqb, ne_eqb}
use Rattle.lists.proofs.Cases.{either_eq}
use Rattle.sets.specs.Sets.{mem}
use Rattle.sets.specs.declared.RunSet.{RunSet}
use Rattle.rules.specs.declared.Node.{Node}
use Rattle.rules.specs.Parts.{label_count}
use Rattle.rules.specs.Table.{AtomOk}
use Rattle.logic.specs.Satisfies.{Binding}
use Rattle.logic.specs.Model.{Model}
use Rattle.row_table.specs.Truth.{stands_for, at}
use Rattle.set_table.specs.Rows.{row}
use Rattle.row_table.specs.Rows.{pair_of, atom_of, RowsOf}

-- ── a label ──
module _ (table : List ℕ) where
  pub label_each : (r : RunSet) (p x j : ℕ) → r ≡ row table (1024 + p) → x ≡ 128 → mem r j ≡ mem (row table (1024 + p)) (stands_for x j)
  label_each r p x j e f = rw (e, f) refl

  pub label_one : (s r : RunSet) (h : Bool) (p x j : ℕ) → r ≡ row table (1024 + p) → (x ≡ 128 → ⊥) → h ≡ mem r x → mem s j ≡ h → mem s j ≡ mem (row table (1024 + p)) (stands_for x j)
  label_one s r h p x j e n f g = rw (ne_eqb x 128 n) (g ∙ (f ∙ ap (λ (u : RunSet). mem u x) e))

-- ── a relation ──
-- what x stands for is one of the 128 places
stands_low : (x j : ℕ) → x ≤ 128 → j < 128 → stands_for x j < 128
stands_low x j h l = either_eq x 128 (λ e. rw e l) (λ n. rw (ne_eqb x 128 n) (omega (arith, n)))

module _ (table file : List ℕ) (runs : ℕ) (M : Model) (rows : RowsOf table file runs M) (k j : ℕ) (l : k < 4) (h : j < 128) where
  pub pair_both : (r : RunSet) (x y : ℕ) → r ≡ row table (1088 + k) → x ≡ 128 → y ≡ 128 → mem r j ≡ pair_of M k (stands_for x j) (stands_for y j)
  pair_both r x y e f g = rw (e, f, g) (rows.with_itself k j l h)

  pub pair_first : (r : RunSet) (x y : ℕ) → y ≤ 128 → r ≡ row table (512 + 128 * k + y) → x ≡ 128 → (y ≡ 128 → ⊥) → mem r j ≡ pair_of M k (stands_for x j) (stands_for y j)
  pair_first r x y i e f g = rw (e, f, ne_eqb y 128 g) (rows.second_given_lem k j y l h (omega (arith, g)))

  pub pair_second : (r : RunSet) (x y : ℕ) → x ≤ 128 → r ≡ row table (128 * k + x) → (x ≡ 128 → ⊥) → y ≡ 128 → mem r j ≡ pair_of M k (stands_for x j) (stands_for y j)
  pair_second r x y i e f g = rw (e, g, ne_eqb x 128 f) (rows.first_given k x j l (omega (arith, f)) h)

  pub pair_one : (s r : RunSet) (b : Bool) (x y : ℕ) → x ≤ 128 → y ≤ 128 → r ≡ row table (128 * k + x) → (x ≡ 128 → ⊥) → (y ≡ 128 → ⊥) → b ≡ mem r y → mem s j ≡ b → mem s j ≡ pair_of M k (stands_for x j) (stands_for y j)
  pair_one s r b x y i i' e f g q o =
      rw (ne_eqb x 128 f, ne_eqb y 128 g) (o ∙ (q ∙ (ap (λ (u : RunSet). mem u y) e ∙ rows.first_given k x y l (omega (arith, f)) (omega (arith, g)))))

-- ── a node ──
module _ (table file : List ℕ) (runs : ℕ) (M : Model) (rows : RowsOf table file runs M) (x : Node) (ok : AtomOk (label_count file) x) (ρ : Binding) (i : ℕ) (is : i ≡ ρ x.a) (low : i ≤ 128) where
  pub atom_label : x.kind ≡ 4 → (j : ℕ) → j < 128 → mem (row table (1024 + x.b)) (stands_for i j) ≡ atom_of M file x (at ρ j)
  unfolding atom_of
  atom_label e j l = rw (eq-eqb x.kind 4 e, ← is) (rows.labels_are x.b (stands_for i j) (ok.place e) (stands_low i j low l))

  pub atom_pair : (k y : ℕ) → (x.kind ≡ 4 → ⊥) → k ≡ x.kind - 5 → y ≡ ρ x.b → (j : ℕ) → pair_of M k (stands_for i j) (stands_for y j) ≡ atom_of M file x (at ρ j)
  unfolding atom_of
  atom_pair k y e d f j = rw (ne_eqb x.kind 4 e, ← is, ← f, ← d) refl

-- ── the runs ──
-- the first runs are all runs of the model
pub all_finished : (table file : List ℕ) (runs : ℕ) (M : Model) (s : RunSet) → RowsOf table file runs M → ((j : ℕ) → mem s j ≡ ltb j runs) → (j : ℕ) → mem s j ≡ ltb j M.runs
all_finished table file runs M s rows h j = h j ∙ ap (ltb j) (sym rows.runs_are)

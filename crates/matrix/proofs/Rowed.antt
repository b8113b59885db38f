-- The mark of rows: what a variable stands for in row k at moment j.
use Prim.Native.Nat.{ℕ, ◌+◌, ◌*◌, ◌<◌, ◌≤◌}
use mathlib.Core.Path.{◌≡◌, refl, fun_ext}
use mathlib.Core.Bool.{Bool, true, false, cond}
use mathlib.Core.List.{List}
use native.Mathlib.Omega.{arith}
use lib.Dec.{eqb}
use borrow.Author.Tests.{ne_eqb}
use Rattle.lists.proofs.Cases.{either_eq}
use Rattle.sets.specs.Sets.{mem}
use Rattle.logic.specs.Satisfies.{Binding, bind}
use Rattle.logic.specs.Model.{Model}
use Rattle.row_table.specs.Truth.{stands_for, Fixed}
use Rattle.set_table.specs.Rows.{row}
use Rattle.row_table.specs.Rows.{pair_of, RowsOf}
use Rattle.matrix.specs.Matrix.{each_row, in_row, rowed, as_each}

-- ── bindings ──
pub rowed-bind : (ρ : Binding) (v r k : ℕ) → (r ≡ 129 → ⊥) → rowed (bind ρ v r) k ≡ bind (rowed ρ k) v r
rowed-bind ρ v r k n = fun_ext (λ w. go w (eqb v w))
  where
    go : (w : ℕ) (b : Bool) → cond (eqb (cond b r (ρ w)) 129) k (cond b r (ρ w)) ≡ cond b r (cond (eqb (ρ w) 129) k (ρ w))
    go w true = rw (ne_eqb r 129 n) refl
    go w false = refl

pub rowed_mark : (ρ : Binding) (v k : ℕ) → Fixed ρ → rowed (bind ρ v each_row) k ≡ bind ρ v k
rowed_mark ρ v k h = fun_ext (λ w. go w (eqb v w))
  where
    go : (w : ℕ) (b : Bool) → cond (eqb (cond b 129 (ρ w)) 129) k (cond b 129 (ρ w)) ≡ cond b k (ρ w)
    go w true = refl
    go w false = rw (ne_eqb (ρ w) 129 (λ e. omega (arith, h w))) refl

-- in a row of its own a binding without the mark for each run is fixed
pub rowed_fixed : (ρ : Binding) (k : ℕ) → ((v : ℕ) → ρ v ≤ 129) → ((v : ℕ) → ρ v ≡ 128 → ⊥) → k < 128 → Fixed (rowed ρ k)
rowed_fixed ρ k most un l w =
    either_eq (ρ w) 129 (λ e. rw e l) (λ n. rw (ne_eqb (ρ w) 129 n) (let h = most w in let g = un w in omega (arith, n, g)))

-- ── places ──
module _ (x k : ℕ) (l : k < 128) where
  pub in_row_low : x ≤ 129 → in_row x k ≤ 128
  in_row_low h = either_eq x 129 (λ e. rw e (omega arith)) (λ n. rw (ne_eqb x 129 n) (omega (arith, n)))

  -- a run of one row is the same at all moments
  pub row_stands : (j : ℕ) → x ≡ 129 → stands_for (in_row x k) j ≡ k
  row_stands j e = rw (e, ne_eqb k 128 (λ q. omega arith)) refl

  pub pick-stands : (j : ℕ) → (x ≡ 128 → ⊥) → stands_for (as_each x) k ≡ stands_for (in_row x k) j
  pick-stands j n =
      either_eq x 129 (λ e. rw (e, ne_eqb k 128 (λ q. omega arith)) refl) (λ n'. rw (ne_eqb x 129 n', ne_eqb x 128 n) refl)

pub same_stands : (x k j : ℕ) → (x ≡ 129 → ⊥) → stands_for x j ≡ stands_for (in_row x k) j
same_stands x k j n = rw (ne_eqb x 129 n) refl

pub one_stands : (x k j : ℕ) → (x ≡ 129 → ⊥) → (x ≡ 128 → ⊥) → stands_for x k ≡ stands_for (in_row x k) j
one_stands x k j n n' = rw (ne_eqb x 129 n, ne_eqb x 128 n') refl

-- ── relations, by which of the two runs is that of the row and which that of the moment ──
module _ (table file : List ℕ) (runs : ℕ) (M : Model) (rows : RowsOf table file runs M) (r x y k j : ℕ) (l : r < 4) (hk : k < 128) (hj : j < 128) where
  abbrev PairIs : Bool → Type 0
  PairIs b = b ≡ pair_of M r (stands_for (in_row x k) j) (stands_for (in_row y k) j)

  pub row_first : x ≡ 129 → y ≡ 128 → PairIs (mem (row table (128 * r + k)) j)
  row_first e f = rw (row_stands x k hk j e, f) (rows.first_given r k j l hk hj)

  pub row_second : x ≡ 128 → y ≡ 129 → PairIs (mem (row table (512 + 128 * r + k)) j)
  row_second e f = rw (row_stands y k hk j f, e) (rows.second_given_lem r j k l hj hk)

-- What is ready for a node in a matrix is ready for its children, and with a variable marked.
use Prim.Native.Nat.{ℕ, suc, ◌<◌, ◌≤◌}
use mathlib.Core.Path.{◌≡◌, refl, sym, subst, ap, ◌∙◌}
use mathlib.Core.Bool.{Bool, true, false, cond}
use mathlib.Core.List.{List}
use native.Mathlib.Nat.{le_refl, le-max_left, le-max_right}
use native.Mathlib.Omega.{arith}
use lib.Dec.{eqb}
use Rattle.rules.specs.declared.Node.{Node}
use Rattle.rules.specs.Table.{node_at, AtomOk, formula_at}
use Rattle.rules.proofs.Formulas.{good-child, and_left_child, and_right_child, not_child, some_child, atom_fields, formula-and, formula_not, formula_some}
use Rattle.logic.specs.Satisfies.{Binding, bind}
use Rattle.logic.proofs.Nodes.{atom_more}
use Rattle.shape.specs.Shape.{height}
use Rattle.row_table.specs.declared.Bindings.{Bindings}
use Rattle.row_table.specs.Truth.{Fixed}
use Rattle.row_table.specs.Ranks.{binding}
use Rattle.matrix.specs.Ready.{RowsReady}
use Rattle.row_table.proofs.Marks.{bind-within}

module _ (file : List ℕ) (p : ℕ) (table : List ℕ) (runs n : ℕ) (b : Bindings) (h : RowsReady file p table runs n b) where
  -- the variable of the rows is marked
  pub mark_ready : Fixed (binding b) → (c : Bindings) (v : ℕ) → binding c ≡ bind (binding b) v 129 → RowsReady file p table runs n c
  mark_ready fx c v e = record {
    good = h.good;
    table_long = h.table_long;
    labels_few = h.labels_few;
    runs_few = h.runs_few;
    in_range_lem = λ w. subst (λ (ρ : Binding). ρ w ≤ 129) (sym e) (bind-within (binding b) v 129 129 h.in_range_lem (omega arith) w);
    low = h.low;
    alone = λ w q. absurd (no_mark w (eqb v w) (sym (ap (λ (ρ : Binding). ρ w) e) ∙ q));
  }
    where
      no_mark : (w : ℕ) (x : Bool) → cond x 129 (binding b w) ≡ 128 → ⊥
      no_mark w true q = omega arith
      no_mark w false q = omega (arith, fx w)

  -- a variable is marked to stand for each run, where no "some" is left
  pub each_ready : height (formula_at file p n) ≡ 0 → (c : Bindings) (v : ℕ) → binding c ≡ bind (binding b) v 128 → RowsReady file p table runs n c
  each_ready z c v e = record {
    good = h.good;
    table_long = h.table_long;
    labels_few = h.labels_few;
    runs_few = h.runs_few;
    in_range_lem = λ w. subst (λ (ρ : Binding). ρ w ≤ 129) (sym e) (bind-within (binding b) v 128 129 h.in_range_lem (omega arith) w);
    low = omega arith;
    alone = λ w q. z;
  }

  rows_child : (c : ℕ) → c < n → height (formula_at file p c) ≤ height (formula_at file p n) → (c < n) × RowsReady file p table runs c b
  rows_child c l g = (
    l,
    record {
      good = good-child file p n c h.good l;
      table_long = h.table_long;
      labels_few = h.labels_few;
      runs_few = h.runs_few;
      in_range_lem = h.in_range_lem;
      low = omega (arith, h.low);
      alone = λ v e. omega (arith, h.alone v e);
    },
  )

  module _ (x : Node) (is : x ≡ node_at file p n) where
    pub left_rows : x.kind ≡ 1 → (x.a < n) × RowsReady file p table runs x.a b
    unfolding height
    left_rows k = rows_child x.a (and_left_child file p n x is h.good n refl k).0 (rw (formula-and file p n x is h.good k) (le-max_left _ _))

    pub right_rows : x.kind ≡ 1 → (x.b < n) × RowsReady file p table runs x.b b
    unfolding height
    right_rows k = rows_child x.b (and_right_child file p n x is h.good n refl k).0 (rw (formula-and file p n x is h.good k) (le-max_right _ _))

    pub not_rows : x.kind ≡ 2 → (x.a < n) × RowsReady file p table runs x.a b
    unfolding height
    not_rows k = rows_child x.a (not_child file p n x is h.good n refl k).0 (rw (formula_not file p n x is h.good k) (le_refl _))

    -- below a "some" lies none, and no variable stands for each run yet
    pub below_some : x.kind ≡ 3 → height (formula_at file p n) ≡ suc (height (formula_at file p x.b))
    unfolding height
    below_some k = rw (formula_some file p n x is h.good k) refl

    pub some_rows : x.kind ≡ 3 → (x.b < n) × RowsReady file p table runs x.b b
    some_rows k = rows_child x.b (some_child file p n x is h.good n refl k).0 (omega (arith, below_some k))

    pub unmarked : x.kind ≡ 3 → (v : ℕ) → binding b v ≡ 128 → ⊥
    unmarked k v e = omega (arith, h.alone v e, below_some k)

    pub some_flat : x.kind ≡ 3 → height (formula_at file p x.b) ≡ 0
    some_flat k = omega (arith, h.low, below_some k)

    pub atom_rows_ready : (x.kind ≡ 1 → ⊥) → (x.kind ≡ 2 → ⊥) → (x.kind ≡ 3 → ⊥) → AtomOk 64 x
    atom_rows_ready n1 n2 n3 = atom_more _ 64 x (atom_fields file p n x is h.good n1 n2 n3) h.labels_few

-- What is ready for a node is ready for its children, for other bindings, and for a matrix.
use Prim.Native.Nat.{ℕ, ◌<◌, ◌≤◌}
use mathlib.Core.Path.{◌≡◌, refl, sym, subst}
use mathlib.Core.List.{List}
use native.Mathlib.Nat.{le_refl}
use native.Mathlib.Omega.{arith}
use lib.ListN.{get_or}
use Rattle.rules.specs.declared.Node.{Node}
use Rattle.rules.specs.Table.{node_at, AtomOk}
use Rattle.rules.proofs.Formulas.{good-child, and_left_child, and_right_child, not_child, some_child, atom_fields}
use Rattle.logic.specs.Satisfies.{Binding, bind}
use Rattle.logic.proofs.Nodes.{atom_more}
use Rattle.row_table.specs.declared.Bindings.{Bindings}
use Rattle.row_table.specs.Truth.{Fixed}
use Rattle.row_table.specs.Ranks.{binding}
use Rattle.matrix.specs.Ready.{RowsReady}
use Rattle.moments.specs.Ready.{Ready}
use Rattle.row_table.proofs.Marks.{bind-within}

module _ (file : List ℕ) (p : ℕ) (heights frees table : List ℕ) (runs n : ℕ) (b : Bindings) (h : Ready file p heights frees table runs n b) where
  -- a smaller number, ready too
  abbrev Child : ℕ → Type 0
  Child c = (c < n) × Ready file p heights frees table runs c b

  child : (c : ℕ) → c < n → Child c
  child c l = (
    l,
    record {
      good = good-child file p n c h.good l;
      heights_are = record { long = omega (arith, h.heights_are.long); high = λ i g. h.heights_are.high i (omega (arith, g)) };
      frees_are = record { long = omega (arith, h.frees_are.long); free = λ i g. h.frees_are.free i (omega (arith, g)) };
      table_long = h.table_long;
      labels_few = h.labels_few;
      runs_few = h.runs_few;
      in_range_lem = h.in_range_lem;
    },
  )

  module _ (x : Node) (is : x ≡ node_at file p n) where
    pub left_ready : x.kind ≡ 1 → Child x.a
    left_ready k = child x.a (and_left_child file p n x is h.good n refl k).0

    pub right_ready : x.kind ≡ 1 → Child x.b
    right_ready k = child x.b (and_right_child file p n x is h.good n refl k).0

    pub not_ready : x.kind ≡ 2 → Child x.a
    not_ready k = child x.a (not_child file p n x is h.good n refl k).0

    pub some_ready : x.kind ≡ 3 → Child x.b
    some_ready k = child x.b (some_child file p n x is h.good n refl k).0

    pub atom_ready : (x.kind ≡ 1 → ⊥) → (x.kind ≡ 2 → ⊥) → (x.kind ≡ 3 → ⊥) → AtomOk 64 x
    atom_ready n1 n2 n3 = atom_more _ 64 x (atom_fields file p n x is h.good n1 n2 n3) h.labels_few

  pub rebound_ready : (c : Bindings) (v r : ℕ) → r ≤ 128 → binding c ≡ bind (binding b) v r → Ready file p heights frees table runs n c
  rebound_ready c v r l e = record {
    good = h.good;
    heights_are = h.heights_are;
    frees_are = h.frees_are;
    table_long = h.table_long;
    labels_few = h.labels_few;
    runs_few = h.runs_few;
    in_range_lem = λ w. subst (λ (ρ : Binding). ρ w ≤ 128) (sym e) (bind-within (binding b) v r 128 h.in_range_lem l w);
  }

-- ── in a matrix ──
-- one "some" and no mark: ready for a matrix
pub rows_ready : (file : List ℕ) (p : ℕ) (heights frees table : List ℕ) (runs n : ℕ) (b : Bindings) → Ready file p heights frees table runs n b
    → get_or heights n 0 ≡ 1 → Fixed (binding b) → RowsReady file p table runs n b
rows_ready file p heights frees table runs n b h e fx = record {
  good = h.good;
  table_long = h.table_long;
  labels_few = h.labels_few;
  runs_few = h.runs_few;
  in_range_lem = λ v. omega (arith, fx v);
  low = omega (arith, h.heights_are.high n (le_refl n));
  alone = λ v q. absurd (omega (arith, fx v));
}

-- The shape of a node's formula, from those of its children.
use Prim.Native.Nat.{ℕ, zero, suc, ◌+◌, ◌≤◌, ◌<◌, max}
use mathlib.Core.Path.{◌≡◌, refl, sym, subst, ap, ap₂, ◌∙◌}
use mathlib.Core.Bool.{Bool, not, ◌&&◌, ◌||◌}
use mathlib.Core.List.{List}
use native.Mathlib.Nat.{max-le}
use native.Mathlib.Numerals.{add-one}
use native.Mathlib.Omega.{arith}
use lib.Bits.{bit_or}
use lib.Dec.{eqb}
use lib.ListN.{get_or}
use Rattle.lists.proofs.Cases.{either_eq}
use Rattle.rules.specs.Formula.{Formula}
use Rattle.rules.specs.Limits.{max_nodes}
use Rattle.rules.specs.Table.{node_at, Good, formula_at}
use Rattle.rules.specs.declared.Node.{Node}
use Rattle.rules.proofs.Formulas.{good-child, and_left_child, and_right_child, not_child, some_child, formula-and, formula_not, formula_some, formula-has, by_atom}
use Rattle.shape.specs.Shape.{free?, height}
use Rattle.sets.specs.Sets.{bit}
use Rattle.shape.specs.Tables.{FreeMask, Height, Passed}
use Rattle.sets.proofs.Bits.{bit-or}

module _ (file : List ℕ) (p n : ℕ) (x : Node) (is : x ≡ node_at file p n) (good : Good file p n) where
  -- ── children have smaller numbers ──
  pub and_left_before : x.kind ≡ 1 → x.a < n
  and_left_before k = (and_left_child file p n x is good n refl k).0

  pub and_right_before : x.kind ≡ 1 → x.b < n
  and_right_before k = (and_right_child file p n x is good n refl k).0

  pub not_before : x.kind ≡ 2 → x.a < n
  not_before k = (not_child file p n x is good n refl k).0

  pub some_before : x.kind ≡ 3 → x.b < n
  some_before k = (some_child file p n x is good n refl k).0

  -- so a table that has the nodes before this one has their numbers
  module _ (m : ℕ) (room : n ≤ m) where
    pub and_left_in : x.kind ≡ 1 → x.a < m
    and_left_in k = omega (arith, and_left_before k)

    pub and_right_in : x.kind ≡ 1 → x.b < m
    and_right_in k = omega (arith, and_right_before k)

    pub not_in : x.kind ≡ 2 → x.a < m
    not_in k = omega (arith, not_before k)

    pub some_in : x.kind ≡ 3 → x.b < m
    some_in k = omega (arith, some_before k)

  -- ── free variables ──
  free_like : (f : Formula) (a : ℕ) → formula_at file p n ≡ f → FreeMask f a → FreeMask (formula_at file p n) a
  free_like f a e h = subst (λ (g : Formula). FreeMask g a) (sym e) h

  module _ (masks : List ℕ) (known : Passed FreeMask file p n masks) where
    pub free_and : x.kind ≡ 1 → FreeMask (formula_at file p n) (bit_or (get_or masks x.a 0) (get_or masks x.b 0))
    unfolding free?
    free_and k =
        free_like _ _ (formula-and file p n x is good k)
        (λ w. bit-or (get_or masks x.a 0) (get_or masks x.b 0) w ∙ ap₂ ◌||◌ (known x.a (and_left_before k) w) (known x.b (and_right_before k) w))

    pub free_not : x.kind ≡ 2 → FreeMask (formula_at file p n) (get_or masks x.a 0)
    unfolding free?
    free_not k = free_like _ _ (formula_not file p n x is good k) (λ w. known x.a (not_before k) w)

    pub free_some : (a r : ℕ) → x.kind ≡ 3 → ((w : ℕ) → bit r w ≡ (bit (get_or masks x.b 0) w && not (bit a w))) → ((w : ℕ) → bit a w ≡ eqb x.a w) → FreeMask (formula_at file p n) r
    unfolding free?
    free_some a r k e d =
        free_like _ _ (formula_some file p n x is good k)
        (λ w. e w ∙ ap₂ (λ (s t : Bool). s && not t) (known x.b (some_before k) w) (d w))

  pub free_has : (a : ℕ) → x.kind ≡ 4 → ((w : ℕ) → bit a w ≡ eqb x.a w) → FreeMask (formula_at file p n) a
  unfolding free?
  free_has a k d = free_like _ _ (formula-has file p n x is good k) d

  pub free_two : (a b : ℕ) → (x.kind ≡ 1 → ⊥) → (x.kind ≡ 2 → ⊥) → (x.kind ≡ 3 → ⊥) → (x.kind ≡ 4 → ⊥) → ((w : ℕ) → bit a w ≡ eqb x.a w) → ((w : ℕ) → bit b w ≡ eqb x.b w) → FreeMask (formula_at file p n) (bit_or a b)
  unfolding free?
  free_two a b n1 n2 n3 n4 d e =
      by_atom file p n x is good n1 n2 n3
      (λ k. absurd (n4 k))
      (λ _ is-pair. free_like _ _ is-pair (λ w. bit-or a b w ∙ ap₂ ◌||◌ (d w) (e w)))

  -- ── heights ──
  module _ (heights : List ℕ) (known : Passed Height file p n heights) where
    pub height-and : (r : ℕ) → x.kind ≡ 1 → r ≡ max (get_or heights x.a 0) (get_or heights x.b 0) → Height (formula_at file p n) r
    unfolding height
    height-and r k e = rw (formula-and file p n x is good k) (e ∙ ap₂ max (known x.a (and_left_before k)) (known x.b (and_right_before k)))

    pub height_not : x.kind ≡ 2 → Height (formula_at file p n) (get_or heights x.a 0)
    unfolding height
    height_not k = rw (formula_not file p n x is good k) (known x.a (not_before k))

    pub height_some : x.kind ≡ 3 → Height (formula_at file p n) (get_or heights x.b 0 + 1)
    unfolding height
    height_some k = rw (formula_some file p n x is good k, add-one (get_or heights x.b 0)) (ap suc (known x.b (some_before k)))

  pub height_atom : (x.kind ≡ 1 → ⊥) → (x.kind ≡ 2 → ⊥) → (x.kind ≡ 3 → ⊥) → Height (formula_at file p n) 0
  unfolding height
  height_atom n1 n2 n3 =
      by_atom file p n x is good n1 n2 n3 (λ k. rw (formula-has file p n x is good k) refl) (λ _ is-pair. rw is-pair refl)

  pub height-within : ((c : ℕ) → c < n → height (formula_at file p c) ≤ c) → height (formula_at file p n) ≤ n
  unfolding height
  height-within below =
      either_eq x.kind 1
      (λ k. rw (formula-and file p n x is good k) (max-le (omega (arith, and_left_before k, below x.a (and_left_before k))) (omega (arith, and_right_before k, below x.b (and_right_before k)))))
      (λ n1. either_eq x.kind 2
      (λ k. rw (formula_not file p n x is good k) (omega (arith, not_before k, below x.a (not_before k))))
      (λ n2. either_eq x.kind 3
      (λ k. rw (formula_some file p n x is good k) (omega (arith, some_before k, below x.b (some_before k))))
      (λ n3. omega (arith, height_atom n1 n2 n3))))

-- what holds of a node if it holds of all nodes before it, holds of every node
pub by_node : (file : List ℕ) (p : ℕ) (P : ℕ → Type 0) → ((n : ℕ) → Good file p n → ((c : ℕ) → c < n → P c) → P n) → (m n : ℕ) → Good file p n → n < m → P n
by_node file p P step zero n good h = absurd (omega arith)
by_node file p P step (suc m) n good h = step n good (λ c l. by_node file p P step m c (good-child file p n c good l) (omega arith))

-- the height of a node is at most its number: a "some" has a greater number than its child
pub height_bound : (file : List ℕ) (p n : ℕ) → Good file p n → height (formula_at file p n) ≤ n
height_bound file p n good =
    by_node file p (λ c. height (formula_at file p c) ≤ c) (λ c g below. height-within file p c (node_at file p c) refl g below) (suc n) n good (omega arith)

-- so it fits a byte, and one more does
module _ (file : List ℕ) (p n : ℕ) (x : Node) (is : x ≡ node_at file p n) (good : Good file p n) (heights : List ℕ) (known : Passed Height file p n heights) where
  pub some_height_fits : x.kind ≡ 3 → n < max_nodes → get_or heights x.b 0 < max_nodes
  some_height_fits k h =
      let l = some_before file p n x is good k in
      omega (arith, known x.b l, height_bound file p x.b (good-child file p n x.b good l))

pub ruleset children = (and_left_in, and_right_in, not_in, some_in)

pub ruleset frees = (free_and, free_not, free_some, free_has, free_two)

pub ruleset heights = (height-and, height_not, height_some, height_atom)

-- Refusal 10: a formula is too deep exactly if, in the table, so many "some" nodes lie one inside another.
use Prim.Native.Nat.{ℕ, zero, suc, ◌<◌}
use mathlib.Core.Path.{◌≡◌, refl, sym, subst}
use mathlib.Core.Bool.{Bool, true, false, ◌&&◌}
use mathlib.Core.List.{List}
use native.Mathlib.Omega.{arith}
use lib.ListN.{length}
use Rattle.lists.proofs.Cases.{either_bool, and_left, and_right, no_both}
use Rattle.rules.specs.declared.Node.{Node}
use Rattle.rules.specs.Formula.{Formula, both, neg, exists, has, pair, shallow}
use Rattle.rules.specs.Table.{node_at, formula_at}
use Rattle.rules.proofs.Scopes.{shallow-both_left, shallow-both_right, shallow-neg, shallow-exists, shallow_none}
use Rattle.grammar.specs.Naming.{node_of, Field, first, second, Names, by_and_a, by_and_b, by_not, by_some, Inside, IsSome}
use Rattle.grammar.specs.Layout.{InRange, and, not, some, has_label, between, RightNodes}
use Rattle.grammar.proofs.Paths.{Under, here, inner, step_down, first_step, kept, kind-within, names_within, names_falls}
use Rattle.grammar.proofs.NodeFormulas.{of_and, of_not, of_some, of_has, of_pair}

-- j "some" nodes, one inside another, inside node n
abbrev pub Inner : List Node → ℕ → ℕ → Type 0
Inner xs zero n = Unit {0}
Inner xs (suc j) n = (m : ℕ) × Inside xs n m × IsSome xs m × Inner xs j m

-- one that is node n or lies inside it, and j inside that one
abbrev pub Nested : List Node → ℕ → ℕ → Type 0
Nested xs j n = (m : ℕ) × Under xs n m × IsSome xs m × Inner xs j m

both_true : (a b : Bool) → a ≡ true → b ≡ true → a && b ≡ true
both_true a b p q = simp (p, q)

-- with more room
shallow-more : (f : Formula) (j : ℕ) → shallow j f ≡ true → shallow (suc j) f ≡ true
unfolding shallow
shallow-more (both f g) j e =
    both_true (shallow (suc j) f) (shallow (suc j) g) (shallow-more f j (and_left (shallow j f) (shallow j g) e)) (shallow-more g j (and_right (shallow j f) (shallow j g) e))
shallow-more (neg f) j e = shallow-more f j e
shallow-more (exists v f) zero e = no_both (sym e)
shallow-more (exists v f) (suc j) e = shallow-more f j e
shallow-more (has v l) j e = refl
shallow-more (pair p v w) j e = refl

module _ (file : List ℕ) (p k : ℕ) (xs : List Node) (agree : (i : ℕ) → i < length xs → node_at file p i ≡ node_of xs i) (right : RightNodes k xs) where
  abbrev at : ℕ → Formula
  at = formula_at file p

  shown : {f g : Formula} (j : ℕ) (b : Bool) → f ≡ g → shallow j f ≡ b → shallow j g ≡ b
  shown j b e h = subst (λ (i : Formula). shallow j i ≡ b) e h

  -- ── a shallow formula has shallow parts ──
  inside_some : (n : ℕ) → n < length xs → (node_of xs n).kind ≡ 3 → (j : ℕ) → shallow (suc j) (at n) ≡ true → shallow j (at (node_of xs n).b) ≡ true
  inside_some n h e j s = shallow-exists _ j _ (shown (suc j) true (of_some file p k xs agree right n h e) s)

  no_room : (n : ℕ) → n < length xs → (node_of xs n).kind ≡ 3 → shallow 0 (at n) ≡ true → ⊥
  no_room n h e s = shallow_none _ _ (shown 0 true (of_some file p k xs agree right n h e) s)

  shallow_kept : (j n : ℕ) (f : Field) (c : ℕ) → Names xs n f c → shallow j (at n) ≡ true → shallow j (at c) ≡ true
  shallow_kept j n f c q s = go q
    where
      h : n < length xs
      h = names_within xs n f c q

      child : (d : ℕ) → d ≡ c → shallow j (at d) ≡ true → shallow j (at c) ≡ true
      child d e t = subst (λ (i : ℕ). shallow j (at i) ≡ true) e t

      within : (i : ℕ) → (node_of xs n).kind ≡ 3 → shallow i (at n) ≡ true → shallow i (at (node_of xs n).b) ≡ true
      within zero e t = absurd (no_room n h e t)
      within (suc i) e t = shallow-more (at (node_of xs n).b) i (inside_some n h e i t)

      go : Names xs n f c → shallow j (at c) ≡ true
      go (by_and_a e a _) = child _ a (shallow-both_left _ _ j (shown j true (of_and file p k xs agree right n h e) s))
      go (by_and_b e b _) = child _ b (shallow-both_right _ _ j (shown j true (of_and file p k xs agree right n h e) s))
      go (by_not e a _) = child _ a (shallow-neg _ j (shown j true (of_not file p k xs agree right n h e) s))
      go (by_some e b _) = child _ b (within j e s)

  -- what lies inside a "some" is its child, or lies inside that
  some_child : (n : ℕ) → IsSome xs n → (f : Field) (c : ℕ) → Names xs n f c → c ≡ (node_of xs n).b
  some_child n s f c (by_and_a e a _) = absurd (omega arith)
  some_child n s f c (by_and_b e b _) = absurd (omega arith)
  some_child n s f c (by_not e a _) = absurd (omega arith)
  some_child n s f c (by_some e b _) = sym b

  too_deep : (j n : ℕ) → IsSome xs n → Inner xs j n → shallow j (at n) ≡ true → ⊥
  too_deep zero n s d e = no_room n (kind-within xs n (λ z. omega arith)) s e
  too_deep (suc j) n s d e =
      let w = first_step xs d.1 in
      let u : Under xs (node_of xs n).b d.0 = subst (λ (i : ℕ). Under xs i d.0) (some_child n s w.field w.child w.names) w.rest in
      let t : shallow j (at (node_of xs n).b) ≡ true = inside_some n (kind-within xs n (λ z. omega arith)) s j e in
      too_deep j d.0 d.2 d.3 (kept xs (λ i. shallow j (at i) ≡ true) (shallow_kept j) u t)

  pub nested-deep : (j n : ℕ) → Nested xs j n → shallow j (at n) ≡ false
  nested-deep j n d =
      either_bool (shallow j (at n))
      (λ e. absurd (too_deep j d.0 d.2 d.3 (kept xs (λ i. shallow j (at i) ≡ true) (shallow_kept j) d.1 e)))
      (λ e. e)

  -- ── a formula that is not shallow has nested parts ──
  nested_up : (j n : ℕ) (f : Field) (c : ℕ) → Names xs n f c → Nested xs j c → Nested xs j n
  nested_up j n f c q d = (d.0, inner (step_down xs f q d.1), d.2, d.3)

  deep : (i n : ℕ) → n < i → n < length xs → (j : ℕ) → shallow j (at n) ≡ false → Nested xs j n
  unfolding shallow
  deep zero n l h j e = absurd (omega arith)
  deep (suc i) n l h j e =
      go (right n h) (λ f c q t. deep i c (omega (arith, names_falls k xs right n f c q)) (omega (arith, names_falls k xs right n f c q)) t)
    where
      go : InRange k n (node_of xs n) → ((f : Field) (c : ℕ) → Names xs n f c → (t : ℕ) → shallow t (at c) ≡ false → Nested xs t c) → Nested xs j n
      go (and r a b) ih =
          let q : (shallow j (at (node_of xs n).a) && shallow j (at (node_of xs n).b)) ≡ false = shown j false (of_and file p k xs agree right n h r) e in
          let first-names : Names xs n first (node_of xs n).a = by_and_a r refl refl in
          let second-names : Names xs n second (node_of xs n).b = by_and_b r refl refl in
          either_bool (shallow j (at (node_of xs n).a))
          (λ t. nested_up j n second _ second-names (ih second _ second-names j (simp t at q)))
          (λ t. nested_up j n first _ first-names (ih first _ first-names j t))
      go (not r a b) ih =
          let names : Names xs n first (node_of xs n).a = by_not r refl refl in
          nested_up j n first _ names (ih first _ names j (shown j false (of_not file p k xs agree right n h r) e))
      go (some r a b) ih = (n, here refl, r, within j (shown j false (of_some file p k xs agree right n h r) e))
        where
          names : Names xs n second (node_of xs n).b
          names = by_some r refl refl

          within : (t : ℕ) → shallow t (exists (node_of xs n).a (at (node_of xs n).b)) ≡ false → Inner xs t n
          within zero q = tt
          within (suc t) q = let d = ih second _ names t q in (d.0, step_down xs second names d.1, d.2, d.3)
      go (has_label r a b) ih = no_both (shown j false (of_has file p k xs agree right n h r) e)
      go (between low high a b) ih = no_both (shown j false (of_pair file p k xs agree right n h low high) e)

  pub deep-nested : (j n : ℕ) → n < length xs → shallow j (at n) ≡ false → Nested xs j n
  deep-nested j n h = deep (suc n) n (omega arith) h j

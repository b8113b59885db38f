-- Going through a table: one node more, two ranges, and the nodes of a tree.
use Prim.Native.Nat.{ℕ, zero, suc, ◌+◌, ◌-◌, ◌*◌, ◌<◌, ◌≤◌}
use mathlib.Core.Path.{◌≡◌, refl, sym, ap, ap₂, ◌∙◌}
use mathlib.Core.Bool.{Bool, true, false, not}
use mathlib.Core.List.{List, []}
use native.Mathlib.Omega.{arith}
use native.Mathlib.Numerals.{add-one}
use lib.Dec.{ltb}
use lib.ListN.{length, get_or, take}
use lib.Seq.{length-take-le}
use borrow.Author.Tests.{lt-ltb, le-ltb, not-true, not-false}
use Rattle.std.specs.Prelude.{Ok, Err}
use Rattle.refusals.specs.declared.Refusal.{Refusal}
use Rattle.refusals.specs.declared.Refusal.TheVariants.{RuleCount, RuleLabel, RuleUnbound, RuleTooDeep}
use Rattle.atoms.specs.Tree.{Tree, either, both, neg, exists, has, pair, size}
use Rattle.atoms.specs.Emit.{Names, level, inside}
use Rattle.typed_formula.proofs.Stands.{NodeIs, Stands}
use Rattle.text_labels.specs.Pieces.{texts, good_labels?}
use Rattle.typed_checks.specs.Fold.{Step, fold_nodes, fold_tree}
use Rattle.typed_checks.specs.Tests.{bound_step, few_step, noted, Notes, places_in, ListsPlaces, decided, Decides}

-- ── loops ──
module _ {S : Type 0} (f : Step S) (s₀ : S) (tb : List ℕ) where
  pub fold_first : s₀ ≡ fold_nodes f s₀ tb 0 0
  unfolding fold_nodes
  fold_first = refl

  pub fold_next : (s : S) (i : ℕ) → s ≡ fold_nodes f s₀ tb 0 i → f s (get_or tb (3 * i) 0) (get_or tb (3 * i + 1) 0) (get_or tb (3 * i + 2) 0) ≡ fold_nodes f s₀ tb 0 (i + 1)
  unfolding fold_nodes
  fold_next s i e =
      let z : i ≡ 0 + i = omega arith in
      rw (add-one i) (ap₂ (λ (x : S) (k : ℕ). f x (get_or tb (3 * k) 0) (get_or tb (3 * k + 1) 0) (get_or tb (3 * k + 2) 0)) e z)

  pub fold_end : (s : S) (i n : ℕ) → s ≡ fold_nodes f s₀ tb 0 i → i ≤ n → n ≤ i → s ≡ fold_nodes f s₀ tb 0 n
  fold_end s i n e h k = let q : i ≡ n = omega arith in e ∙ ap (fold_nodes f s₀ tb 0) q

-- the tests do not look at fields that a node lacks
pub few-third : (ok : Bool) (kind a b : ℕ) → few_step ok kind a 0 ≡ few_step ok kind a b
unfolding few_step
few-third ok kind a b = refl

pub noted-second : (text ps : List ℕ) (kind a b : ℕ) → noted text ps kind 0 b ≡ noted text ps kind a b
unfolding noted
noted-second text ps kind a b = refl

pub few_next : (tb : List ℕ) (s r : Bool) (i : ℕ) → s ≡ fold_nodes few_step true tb 0 i → r ≡ few_step s (get_or tb (3 * i) 0) (get_or tb (3 * i + 1) 0) 0 → r ≡ fold_nodes few_step true tb 0 (i + 1)
few_next tb s r i e q = q ∙ (few-third s (get_or tb (3 * i) 0) (get_or tb (3 * i + 1) 0) (get_or tb (3 * i + 2) 0) ∙ fold_next few_step true tb s i e)

pub bound_next : (tb : List ℕ) (s r : Bool) (i : ℕ) → s ≡ fold_nodes bound_step true tb 0 i → r ≡ bound_step s (get_or tb (3 * i) 0) (get_or tb (3 * i + 1) 0) (get_or tb (3 * i + 2) 0) → r ≡ fold_nodes bound_step true tb 0 (i + 1)
bound_next tb s r i e q = q ∙ fold_next bound_step true tb s i e

-- ── the places of labels ──
module _ (text tb : List ℕ) (places₀ : List ℕ) where
  pub record Listed (places : List ℕ) (m i : ℕ) : Type 0 where
    pub list : take m places ≡ places_in text tb i
    pub few : m ≤ i
    pub long : length places ≡ length places₀

  pub listed_first : Listed places₀ 0 0
  listed_first = record { list = fold_first (noted text) [] tb; few = omega arith; long = refl }

  pub listed_next : (places after : List ℕ) (m i r : ℕ) → Listed places m i → Notes text places m (get_or tb (3 * i) 0) (get_or tb (3 * i + 2) 0) after r → Listed after r (i + 1)
  listed_next places after m i r l x = record {
    list =
        x.list ∙ (noted-second text (take m places) (get_or tb (3 * i) 0) (get_or tb (3 * i + 1) 0) (get_or tb (3 * i + 2) 0)
        ∙ fold_next (noted text) [] tb (take m places) i l.list);
    few = omega (arith, x.more, l.few);
    long = x.long ∙ l.long;
  }

  pub listed_end : (places : List ℕ) (m i n : ℕ) → n ≤ 64 → 64 ≤ length places₀ → Listed places m i → i ≤ n → n ≤ i → ListsPlaces text tb n places₀ places m
  listed_end places m i n u w l h k =
      let q : i ≡ n = omega arith in
      let e : take m places ≡ places_in text tb n = l.list ∙ ap (places_in text tb) q in
      record {
        list = e;
        few = omega (arith, l.few);
        count = sym (length-take-le m places (omega (arith, l.few, l.long))) ∙ ap length e;
        long = l.long;
      }

-- ── the decision ──
module _ (text tb : List ℕ) (n : ℕ) (before : List ℕ) where
  refusing : (after : List ℕ) (k : Refusal) → Err k ≡ decided text tb n → length after ≡ length before → Decides text tb n before after (Err k)
  refusing after k e l = record { answer = e; places = λ m f. absurd (let z : ◌≡◌ {A = ℕ} 0 1 = cc in omega arith); long = l }

  pub decide_nodes : 64 < n → Decides text tb n before before (Err RuleCount)
  unfolding decided
  decide_nodes h = refusing before RuleCount (sym (simp (lt-ltb 64 n h))) refl

  module _ (h : n ≤ 64) (after : List ℕ) (m : ℕ) (l : ListsPlaces text tb n before after m) where
    count_is : (b : Bool) → ltb 16 m ≡ b → ltb 16 (length (places_in text tb n)) ≡ b
    count_is b e = ap (ltb 16) (sym l.count) ∙ e

    pub decide_labels : 16 < m → Decides text tb n before after (Err RuleCount)
    unfolding decided
    decide_labels k = refusing after RuleCount (sym (simp (le-ltb 64 n h, count_is true (lt-ltb 16 m k)))) l.long

    module _ (k : m ≤ 16) (g : Bool) (eg : g ≡ good_labels? (texts text (take m after))) where
      good_is : g ≡ good_labels? (texts text (places_in text tb n))
      good_is = eg ∙ ap (λ (x : List ℕ). good_labels? (texts text x)) l.list

      pub decide_form : not g ≡ true → Decides text tb n before after (Err RuleLabel)
      unfolding decided
      decide_form f = refusing after RuleLabel (sym (simp (le-ltb 64 n h, count_is false (le-ltb 16 m k), sym good_is ∙ not-true g f))) l.long

      module _ (f : not g ≡ false) (b : Bool) (eb : b ≡ fold_nodes bound_step true tb 0 n) where
        pub decide_bound : not b ≡ true → Decides text tb n before after (Err RuleUnbound)
        unfolding decided
        decide_bound x = refusing after RuleUnbound (sym (simp (le-ltb 64 n h, count_is false (le-ltb 16 m k), sym good_is ∙ not-false g f, sym eb ∙ not-true b x))) l.long

        module _ (x : not b ≡ false) (d : Bool) (ed : d ≡ fold_nodes few_step true tb 0 n) where
          pub decide_nested : not d ≡ true → Decides text tb n before after (Err RuleTooDeep)
          unfolding decided
          decide_nested y = refusing after RuleTooDeep (sym (simp (le-ltb 64 n h, count_is false (le-ltb 16 m k), sym good_is ∙ not-false g f, sym eb ∙ not-false b x, sym ed ∙ not-true d y))) l.long

          pub decide_taken : not d ≡ false → 64 ≤ length before → Decides text tb n before after (Ok m)
          unfolding decided
          decide_taken y w = record {
            answer = ap (λ (j : ℕ). Ok j) l.count ∙ sym (simp (le-ltb 64 n h, count_is false (le-ltb 16 m k), sym good_is ∙ not-false g f, sym eb ∙ not-false b x, sym ed ∙ not-false d y));
            places = λ j e. (let q : m ≡ j = cc in (ap (λ (i : ℕ). take i after) (sym q) ∙ l.list, omega arith, omega (arith, l.few, l.long)));
            long = l.long;
          }

pub ruleset decisions = (decide_nodes, decide_labels, decide_form, decide_bound, decide_nested, decide_taken)

-- ── two ranges ──
module _ {S : Type 0} (f : Step S) (tb : List ℕ) where
  pub fold_split : (s : S) (k i j : ℕ) → fold_nodes f s tb k (i + j) ≡ fold_nodes f (fold_nodes f s tb k i) tb (k + i) j
  unfolding fold_nodes
  fold_split s k i zero = let e : i + 0 ≡ i = omega arith in ap (fold_nodes f s tb k) e
  fold_split s k i (suc j) =
      let e : i + suc j ≡ suc (i + j) = omega arith in
      let d : k + (i + j) ≡ k + i + j = omega arith in
      ap (fold_nodes f s tb k) e
      ∙ ap₂ (λ (x : S) (n : ℕ). f x (get_or tb (3 * n) 0) (get_or tb (3 * n + 1) 0) (get_or tb (3 * n + 2) 0)) (fold_split s k i j) d

  fold_step : (s : S) (k n i kind a b : ℕ) → i ≡ k + n → NodeIs tb i kind a b → fold_nodes f s tb k (suc n) ≡ f (fold_nodes f s tb k n) kind a b
  unfolding fold_nodes
  fold_step s k n i kind a b e x =
      let y = fold_nodes f s tb k n in
      ap (λ (j : ℕ). f y (get_or tb (3 * j) 0) (get_or tb (3 * j + 1) 0) (get_or tb (3 * j + 2) 0)) (sym e)
      ∙ (ap (λ (q : ℕ). f y q (get_or tb (3 * i + 1) 0) (get_or tb (3 * i + 2) 0)) x.at_kind ∙ ap₂ (f y kind) x.at_a x.at_b)

  -- ── the nodes of a tree, for a step that passes over an and, a not, and the child of a "some" ──
  module _ (on_and : (s : S) (a b : ℕ) → f s 1 a b ≡ s) (on-not : (s : S) (a b : ℕ) → f s 2 a b ≡ s) (on_some : (s : S) (a b : ℕ) → f s 3 a b ≡ f s 3 a 0) where
    over_and : (s : S) (k n i a b : ℕ) → i ≡ k + n → NodeIs tb i 1 a b → fold_nodes f s tb k (suc n) ≡ fold_nodes f s tb k n
    over_and s k n i a b e x = fold_step s k n i 1 a b e x ∙ on_and (fold_nodes f s tb k n) a b

    over_not : (s : S) (k n i a b : ℕ) → i ≡ k + n → NodeIs tb i 2 a b → fold_nodes f s tb k (suc n) ≡ fold_nodes f s tb k n
    over_not s k n i a b e x = fold_step s k n i 2 a b e x ∙ on-not (fold_nodes f s tb k n) a b

    one_node : (s : S) (k kind a b : ℕ) → NodeIs tb k kind a b → fold_nodes f s tb k 1 ≡ f s kind a b
    unfolding fold_nodes
    one_node s k kind a b x = fold_step s k 0 k kind a b (omega arith) x

    pub fold_tree_lem : (t : Tree) (s : S) (ns : Names) (k : ℕ) → Stands tb ns t k → fold_nodes f s tb k (size t) ≡ fold_tree f s ns t
    unfolding Stands fold_tree
    fold_tree_lem (either l r) s ns k x =
        let a : ℕ = size l in
        let c : ℕ = a + 1 + size r in
        let e : size (either l r) ≡ suc (suc (suc c)) = omega arith in
        let g : a + 1 ≡ suc a = omega arith in
        let h : k + (a + 1) ≡ k + a + 1 = omega arith in
        ap (fold_nodes f s tb k) e
        ∙ (over_not s k (suc (suc c)) (k + size l + 1 + size r + 2) _ _ (omega arith) x.5
        ∙ (over_and s k (suc c) (k + size l + 1 + size r + 1) _ _ (omega arith) x.4
        ∙ (over_not s k c (k + size l + 1 + size r) _ _ (omega arith) x.3
        ∙ (fold_split s k (a + 1) (size r)
        ∙ (ap₂ (λ (y : S) (j : ℕ). fold_nodes f y tb j (size r)) (ap (fold_nodes f s tb k) g ∙ (over_not s k a (k + size l) _ _ refl x.1 ∙ fold_tree_lem l s ns k x.0)) h
        ∙ fold_tree_lem r (fold_tree f s ns l) ns (k + size l + 1) x.2)))))
    fold_tree_lem (both l r) s ns k x =
        let e : size (both l r) ≡ suc (size l + size r) = omega arith in
        ap (fold_nodes f s tb k) e
        ∙ (over_and s k (size l + size r) (k + size l + size r) _ _ (omega arith) x.2
        ∙ (fold_split s k (size l) (size r)
        ∙ (ap (λ (y : S). fold_nodes f y tb (k + size l) (size r)) (fold_tree_lem l s ns k x.0) ∙ fold_tree_lem r (fold_tree f s ns l) ns (k + size l) x.1)))
    fold_tree_lem (neg t) s ns k x =
        let e : size (neg t) ≡ suc (size t) = omega arith in
        ap (fold_nodes f s tb k) e ∙ (over_not s k (size t) (k + size t) _ _ refl x.1 ∙ fold_tree_lem t s ns k x.0)
    fold_tree_lem (exists n t) s ns k x =
        let e : size (exists n t) ≡ suc (size t) = omega arith in
        ap (fold_nodes f s tb k) e
        ∙ (fold_step s k (size t) (k + size t) 3 (length ns) (k + size t - 1) refl x.1
        ∙ (on_some (fold_nodes f s tb k (size t)) (length ns) (k + size t - 1) ∙ ap (λ (y : S). f y 3 (length ns) 0) (fold_tree_lem t s (inside ns n) k x.0)))
    fold_tree_lem (has n l) s ns k x = one_node s k 4 (level ns n) l x
    fold_tree_lem (pair q n m) s ns k x = one_node s k q (level ns n) (level ns m) x

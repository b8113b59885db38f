-- The cases of the tests that make a row from the ranks that start or finish before each line.
use Prim.Native.Nat.{ℕ, ◌+◌, ◌<◌, ◌≤◌}
use mathlib.Core.Path.{◌≡◌, ap, ap₂, ◌∙◌}
use mathlib.Core.Bool.{Bool, false, not, ◌&&◌}
use mathlib.Core.List.{List}
use borrow.Author.Tests.{eq-eqb, ne_eqb, lt-ltb, le-ltb}
use lib.Dec.{eqb, ltb}
use lib.ListN.{get_or}
use Rattle.sets.specs.Sets.{mem}
use Rattle.sets.specs.declared.RunSet.{RunSet}
use Rattle.set_table.specs.Rows.{row}
use Rattle.rows.specs.Values.{less, seconds_test, firsts_test, listed_test}

-- r has what a has and neither b nor c
abbrev pub Less : RunSet → RunSet → RunSet → RunSet → Type 0
Less r a b c = (j : ℕ) → mem r j ≡ less (mem a j) (mem b j) (mem c j)

pub less_same : {a a' b b' c c' : Bool} → a ≡ a' → b ≡ b' → c ≡ c' → less a b c ≡ less a' b' c'
less_same p q r = ap₂ (λ (x y : Bool). x && not y) (ap₂ (λ (x y : Bool). x && not y) p q) r

pub has_same : {a b : RunSet} (j : ℕ) → a ≡ b → mem a j ≡ mem b j
has_same j e = ap (λ (x : RunSet). mem x j) e

module _ (k s f : ℕ) (begun ended : List ℕ) (r a b c : RunSet) (d : Less r a b c) where
  pub seconds_before : k ≡ 0 → ((j : ℕ) → mem a j ≡ ltb j 128) → b ≡ row begun (f + 1) → c ≡ row ended 1 → (j : ℕ) → mem r j ≡ seconds_test k s f begun ended j
  unfolding seconds_test
  seconds_before e ea eb ec j = rw (eq-eqb k 0 e) (d j ∙ less_same (ea j) (has_same j eb) (has_same j ec))

  pub seconds_overlaps : (k ≡ 0 → ⊥) → k ≡ 1 → a ≡ row begun f → b ≡ row begun (s + 1) → c ≡ row ended (f + 1) → (j : ℕ) → mem r j ≡ seconds_test k s f begun ended j
  unfolding seconds_test
  seconds_overlaps n e ea eb ec j = rw (ne_eqb k 0 n, eq-eqb k 1 e) (d j ∙ less_same (has_same j ea) (has_same j eb) (has_same j ec))

  pub seconds_includes : (k ≡ 0 → ⊥) → (k ≡ 1 → ⊥) → a ≡ row ended f → b ≡ row begun (s + 1) → c ≡ row ended 1 → (j : ℕ) → mem r j ≡ seconds_test k s f begun ended j
  unfolding seconds_test
  seconds_includes n m ea eb ec j = rw (ne_eqb k 0 n, ne_eqb k 1 m) (d j ∙ less_same (has_same j ea) (has_same j eb) (has_same j ec))

-- r has what a has and b has not
abbrev pub Minus : RunSet → RunSet → RunSet → Type 0
Minus r a b = (j : ℕ) → mem r j ≡ (mem a j && not (mem b j))

pub minus_same : {a a' b b' : Bool} → a ≡ a' → b ≡ b' → (a && not b) ≡ (a' && not b')
minus_same p q = ap₂ (λ (x y : Bool). x && not y) p q

module _ (k s f : ℕ) (begun ended : List ℕ) (r a b : RunSet) (d : Minus r a b) where
  pub firsts_before : k ≡ 0 → a ≡ row ended s → b ≡ row ended 1 → (j : ℕ) → mem r j ≡ firsts_test k s f begun ended j
  unfolding firsts_test
  firsts_before e ea eb j = rw (eq-eqb k 0 e) (d j ∙ minus_same (has_same j ea) (has_same j eb))

  pub firsts_overlaps : (x y : RunSet) → ((j : ℕ) → mem a j ≡ (mem x j && mem y j)) → (k ≡ 0 → ⊥) → k ≡ 1 → x ≡ row begun s → y ≡ row ended f → b ≡ row ended (s + 1)
      → (j : ℕ) → mem r j ≡ firsts_test k s f begun ended j
  unfolding firsts_test
  firsts_overlaps x y g n e ex ey eb j =
      rw (ne_eqb k 0 n, eq-eqb k 1 e) (d j ∙ minus_same (g j ∙ ap₂ ◌&&◌ (has_same j ex) (has_same j ey)) (has_same j eb))

  pub firsts_includes : (k ≡ 0 → ⊥) → (k ≡ 1 → ⊥) → a ≡ row begun s → b ≡ row ended (f + 1) → (j : ℕ) → mem r j ≡ firsts_test k s f begun ended j
  unfolding firsts_test
  firsts_includes n m ea eb j = rw (ne_eqb k 0 n, ne_eqb k 1 m) (d j ∙ minus_same (has_same j ea) (has_same j eb))

module _ (n : ℕ) (labelled : List ℕ) (r : RunSet) where
  pub no_label : n ≡ 0 → ((j : ℕ) → mem r j ≡ false) → (j : ℕ) → mem r j ≡ (not (eqb n 0) && mem (row labelled n) j)
  no_label e d j = rw (eq-eqb n 0 e) (d j)

  pub some_label : (n ≡ 0 → ⊥) → r ≡ row labelled n → (j : ℕ) → mem r j ≡ (not (eqb n 0) && mem (row labelled n) j)
  some_label m e j = rw (ne_eqb n 0 m) (has_same j e)

module _ (wanted : List ℕ) (labels : ℕ) (labelled : List ℕ) (p : ℕ) (r : RunSet) where
  pub listed_any : (a b : RunSet) → ((j : ℕ) → mem r j ≡ (mem a j && not (mem b j))) → p ≡ 67 → ((j : ℕ) → mem a j ≡ ltb j 128) → b ≡ row labelled 0
      → (j : ℕ) → mem r j ≡ listed_test wanted labels labelled p j
  unfolding listed_test
  listed_any a b d e ea eb j = rw (eq-eqb p 67 e) (d j ∙ ap₂ (λ (x y : Bool). x && not y) (ea j) (has_same j eb))

  pub listed_label : (p ≡ 67 → ⊥) → p < labels → ((j : ℕ) → mem r j ≡ (not (eqb (get_or wanted p 0) 0) && mem (row labelled (get_or wanted p 0)) j))
      → (j : ℕ) → mem r j ≡ listed_test wanted labels labelled p j
  unfolding listed_test
  listed_label n l d j = rw (ne_eqb p 67 n, lt-ltb p labels l) (d j)

  pub listed_none : (p ≡ 67 → ⊥) → labels ≤ p → ((j : ℕ) → mem r j ≡ false) → (j : ℕ) → mem r j ≡ listed_test wanted labels labelled p j
  unfolding listed_test
  listed_none n l d j = rw (ne_eqb p 67 n, le-ltb p labels l) (d j)

-- The pigeonhole law: of numbers below n there are at most n different ones. So of the labels of a list there are no more different
-- ones than the list has.
use Prim.Native.Nat.{ℕ, zero, suc, ◌<◌, ◌≤◌}
use mathlib.Core.Path.{◌≡◌, sym, ap, ◌∙◌}
use mathlib.Core.Logic.{◌≢◌}
use mathlib.Core.Bool.{cond}
use mathlib.Core.List.{List, []}
use native.Mathlib.Omega.{arith}
use lib.Dec.{eqb}
use lib.ListN.{length, get_or}
use borrow.Author.Tests.{eq-eqb, ne_eqb}
use Rattle.lists.proofs.Cases.{either_eq, either_lt}
use Rattle.typed_grammar.specs.File.{place_in}
use Rattle.typed_checks.proofs.Numbers.{Among, number_at_lem}

-- no two of the first m have the same number
abbrev pub OneEach : ℕ → (ℕ → ℕ) → Type 0
OneEach m g = (i j : ℕ) → i < m → j < m → g i ≡ g j → i ≡ j

-- whoever had the number n takes the last one's, so that all but the last have numbers below n
pub pigeonhole : (n m : ℕ) (g : ℕ → ℕ) → ((i : ℕ) → i < m → g i < n) → OneEach m g → m ≤ n
pigeonhole n zero g b inj = omega arith
pigeonhole zero (suc m) g b inj = absurd (let z = b 0 (omega arith) in omega arith)
pigeonhole (suc n) (suc m) g b inj =
    let h = pigeonhole n m (λ j. cond (eqb (g j) n) (g m) (g j)) low one in omega arith
  where
    last : (i : ℕ) → i < m → g i ≡ n → g m < n
    last i h e =
        let bm = b m (omega arith) in
        either_eq (g m) n
        (λ q. absurd (let z = inj i m (omega arith) (omega arith) (e ∙ sym q) in omega arith))
        (λ q. omega arith)

    low : (i : ℕ) → i < m → cond (eqb (g i) n) (g m) (g i) < n
    low i h =
        either_eq (g i) n
        (λ e. rw (eq-eqb (g i) n e) (last i h e))
        (λ e. rw (ne_eqb (g i) n e) (let z = b i (omega arith) in omega arith))

    one : OneEach m (λ j. cond (eqb (g j) n) (g m) (g j))
    one i j hi hj e =
        either_eq (g i) n
        (λ p. either_eq (g j) n
        (λ q. inj i j (omega arith) (omega arith) (p ∙ sym q))
        (λ q. absurd (let z : g m ≡ g j = simp (eq-eqb (g i) n p, ne_eqb (g j) n q) at e in let w = inj m j (omega arith) (omega arith) z in omega arith)))
        (λ p. either_eq (g j) n
        (λ q. absurd (let z : g i ≡ g m = simp (ne_eqb (g i) n p, eq-eqb (g j) n q) at e in let w = inj i m (omega arith) (omega arith) z in omega arith))
        (λ q. let z : g i ≡ g j = simp (ne_eqb (g i) n p, ne_eqb (g j) n q) at e in inj i j (omega arith) (omega arith) z))

-- ── lists of labels ──
-- no label twice
abbrev pub NoneTwice : List (List ℕ) → Type 0
NoneTwice ls = (i j : ℕ) → i < j → j < length ls → get_or ls i [] ≢ get_or ls j []

-- each label is one of the others
abbrev pub Within : List (List ℕ) → List (List ℕ) → Type 0
Within ls all = (i : ℕ) → i < length ls → Among all (get_or ls i [])

-- a label stands at one place
one_place : (ls : List (List ℕ)) → NoneTwice ls → (i j : ℕ) → i < length ls → j < length ls → get_or ls i [] ≡ get_or ls j [] → i ≡ j
one_place ls d i j hi hj q =
    either_eq i j (λ e. e)
    (λ n. either_lt i j (λ l. absurd (d i j l hj q)) (λ l. absurd (d j i (omega arith) hi (sym q))))

-- different labels of a list are no more than it has
pub few-within : (ls all : List (List ℕ)) → NoneTwice ls → Within ls all → length ls ≤ length all
few-within ls all d w = pigeonhole (length all) (length ls) (λ i. place_in all (get_or ls i [])) w apart
  where
    apart : OneEach (length ls) (λ i. place_in all (get_or ls i []))
    apart i j hi hj e =
        one_place ls d i j hi hj
        (sym (number_at_lem all (get_or ls i []) (w i hi)) ∙ (ap (λ (k : ℕ). get_or all k []) e ∙ number_at_lem all (get_or ls j []) (w j hj)))

-- A name is told by its number, and a name's level by its number is its level by its bytes.
use Prim.Native.Nat.{ℕ, suc, ◌+◌, ◌*◌, ◌<◌, ◌≤◌}
use mathlib.Core.Path.{◌≡◌, refl, sym, ap, ap₂, subst, ◌∙◌}
use mathlib.Core.Bool.{Bool, true, false, not, cond}
use mathlib.Core.List.{List, [], ◌∷◌, ◌++◌}
use native.Mathlib.Omega.{arith}
use lib.Dec.{eqb}
use lib.ListN.{length, length-append}
use lib.Seq.{take_all}
use borrow.Author.Tests.{eq-eqb, ne_eqb}
use Rattle.lists.specs.Lists.{same?}
use Rattle.lists.proofs.Lists.{same_refl, same_eq}
use Rattle.lists.proofs.Cases.{either_eq, either_lt, either_bool, no_both}
use Rattle.grammar.specs.Written.{EachByte}
use Rattle.atoms.specs.Emit.{level_from, level, inside}
use Rattle.typed_formula.specs.Bound.{bound?}
use Rattle.typed_grammar.specs.Words.{IsName, LetterOrDigit, capital, small, digit}
use Rattle.typed_grammar.specs.Formula.{Names, level_in}
use Rattle.typed_grammar.proofs.Codes.{number_from, name_number}

-- ── bytes of a number ──
-- each is a byte and not 0
abbrev NoZero : List ℕ → Type 0
NoZero [] = Unit {0}
NoZero (b ∷ s) = (0 < b) × (b < 256) × NoZero s

letter_byte : (b : ℕ) → LetterOrDigit b → (0 < b) × (b < 256)
letter_byte b (capital h) = omega arith
letter_byte b (small l u) = omega arith
letter_byte b (digit h) = omega arith

letters_bytes : (s : List ℕ) → EachByte LetterOrDigit s → NoZero s
letters_bytes [] h = tt
letters_bytes (b ∷ s) h =
    let w = letter_byte b (h 0 (omega arith)) in
    (w.0, w.1, letters_bytes s (λ k l. h (suc k) (omega arith)))

name_bytes : (n : List ℕ) → IsName n → NoZero n
name_bytes n i =
    let c = i.capital in
    let w : NoZero (i.first ∷ i.more) = (omega arith, omega arith, letters_bytes i.more i.letters) in
    subst NoZero (sym i.is) w

-- as many bytes behind two numbers: the numbers are the same, and so are the bytes
same_long : (s t : List ℕ) → NoZero s → NoZero t → length s ≡ length t → (a b : ℕ) → number_from a s ≡ number_from b t → (a ≡ b) × (s ≡ t)
same_long [] [] v w l a b e = (e, refl)
same_long [] (y ∷ t) v w l a b e = absurd (omega arith)
same_long (x ∷ s) [] v w l a b e = absurd (omega arith)
same_long (x ∷ s) (y ∷ t) v w l a b e =
    let d = same_long s t v.2 w.2 (omega arith) (256 * a + x) (256 * b + y) e in
    let f : 256 * a + x ≡ 256 * b + y = d.0 in
    let p : x ≡ y = omega (arith, f, v.1, w.1) in
    (omega (arith, f, p), ap₂ {A = ℕ} ◌∷◌ p d.1)

-- no fewer bytes behind a number: it is 0, and the bytes are the same
no_fewer : (s t : List ℕ) → NoZero s → NoZero t → length s ≤ length t → (b : ℕ) → number_from 0 s ≡ number_from b t → (0 ≡ b) × (s ≡ t)
no_fewer s [] v w l b e = same_long s [] v w (omega arith) 0 b e
no_fewer s (y ∷ t) v w l b e =
    either_eq (length s) (suc (length t))
    (λ q. same_long s (y ∷ t) v w q 0 b e)
    (λ q. let d = no_fewer s t v w.2 (omega arith) (256 * b + y) e in let f : 0 ≡ 256 * b + y = d.0 in absurd (omega (arith, f, w.0)))

-- two names of one number are the same
pub name-number : (n m : List ℕ) → IsName n → IsName m → name_number n ≡ name_number m → n ≡ m
name-number n m i j e =
    let v = name_bytes n i in
    let w = name_bytes m j in
    either_lt (length m) (length n)
    (λ l. sym (no_fewer m n w v (omega arith) 0 (sym e)).1)
    (λ l. (no_fewer n m v w l 0 e).1)

-- ── names around a place ──
-- all of them are names
abbrev pub AllNames : Names → Type 0
AllNames [] = Unit {0}
AllNames (m ∷ ms) = IsName m × AllNames ms

-- their numbers, outermost first
abbrev pub numbers : Names → List ℕ
numbers [] = []
numbers (m ∷ ms) = numbers ms ++ (name_number m ∷ [])

-- the name is among them
abbrev pub among? : Names → List ℕ → Bool
among? [] n = false
among? (m ∷ ms) n = cond (same? m n) true (among? ms n)

pub numbers-long : (ms : Names) → length (numbers ms) ≡ length ms
numbers-long [] = refl
numbers-long (m ∷ ms) =
    let e = numbers-long ms in
    length-append (numbers ms) (name_number m ∷ []) ∙ omega arith

-- inside one more, where nothing is cut
pub inside_numbers : (ms : Names) (n : List ℕ) → length ms < 64 → inside (numbers ms) (name_number n) ≡ numbers (n ∷ ms)
unfolding inside
inside_numbers ms n h = let e = numbers-long (n ∷ ms) in take_all 64 (numbers (n ∷ ms)) (omega arith)

-- ── levels ──
-- the innermost name is looked at last
level_last : (i found : ℕ) (xs : List ℕ) (x n : ℕ) → level_from i found (xs ++ (x ∷ [])) n ≡ cond (eqb x n) (i + length xs) (level_from i found xs n)
unfolding level_from
level_last i found [] x n = let e : i ≡ i + 0 = omega arith in ap (λ (k : ℕ). cond (eqb x n) k found) e
level_last i found (y ∷ xs) x n =
    let e : suc i + length xs ≡ i + suc (length xs) = omega arith in
    let f : ℕ = cond (eqb y n) i found in
    level_last (suc i) f xs x n ∙ ap (λ (k : ℕ). cond (eqb x n) k (level_from (suc i) f xs n)) e

-- the numbers of two names are compared as the names are
same_number_lem : (m n : List ℕ) → IsName m → IsName n → eqb (name_number m) (name_number n) ≡ same? m n
same_number_lem m n i j =
    either_bool (same? m n)
    (λ e. eq-eqb (name_number m) (name_number n) (ap name_number (same_eq m n e)) ∙ sym e)
    (λ e. ne_eqb (name_number m) (name_number n) (λ q. no_both (sym (same_refl n) ∙ (ap (λ (x : List ℕ). same? x n) (sym (name-number m n i j q)) ∙ e))) ∙ sym e)

level-more : (m : List ℕ) (ms : Names) (n : List ℕ) → IsName m → IsName n
    → level (numbers (m ∷ ms)) (name_number n) ≡ cond (same? m n) (length ms) (level (numbers ms) (name_number n))
level-more m ms n i j =
    level_last 0 255 (numbers ms) (name_number m) (name_number n)
    ∙ ap₂ (λ (b : Bool) (k : ℕ). cond b k (level (numbers ms) (name_number n))) (same_number_lem m n i j) (omega (arith, numbers-long ms))

-- a name among them has its level
pub level-among : (ms : Names) (n : List ℕ) → AllNames ms → IsName n → among? ms n ≡ true → level (numbers ms) (name_number n) ≡ level_in ms n
level-among [] n w j e = no_both (sym e)
level-among (m ∷ ms) n w j e =
    either_bool (same? m n)
    (λ q. level-more m ms n w.0 j ∙ rw q)
    (λ q. level-more m ms n w.0 j ∙ rw q (level-among ms n w.1 j (rw q at e)))

-- another has none
level_other : (ms : Names) (n : List ℕ) → AllNames ms → IsName n → among? ms n ≡ false → level (numbers ms) (name_number n) ≡ 255
unfolding level_from
level_other [] n w j e = refl
level_other (m ∷ ms) n w j e =
    either_bool (same? m n)
    (λ q. no_both (rw q at e))
    (λ q. level-more m ms n w.0 j ∙ rw q (level_other ms n w.1 j (rw q at e)))

-- a level is below the number of names
level_low : (ms : Names) (n : List ℕ) → among? ms n ≡ true → level_in ms n < length ms
level_low [] n e = no_both (sym e)
level_low (m ∷ ms) n e =
    either_bool (same? m n)
    (λ q. rw q (omega arith))
    (λ q. rw q (let l = level_low ms n (rw q at e) in omega arith))

-- a name is bound exactly if it is among them
pub bound_among : (ms : Names) (n : List ℕ) → AllNames ms → IsName n → length ms ≤ 64 → bound? (numbers ms) (name_number n) ≡ among? ms n
bound_among ms n w j h =
    either_bool (among? ms n)
    (λ e.
    let l = level_low ms n e in
    let v = level-among ms n w j e in
    ap not (ne_eqb (level (numbers ms) (name_number n)) 255 (λ z. omega arith)) ∙ sym e)
    (λ e. ap not (eq-eqb (level (numbers ms) (name_number n)) 255 (level_other ms n w j e)) ∙ sym e)

-- ── one more name ──
-- another than it
pub among_other : (m : List ℕ) (ms : Names) (n : List ℕ) → (m ≡ n → ⊥) → among? (m ∷ ms) n ≡ true → among? ms n ≡ true
among_other m ms n d e = either_bool (same? m n) (λ q. absurd (d (same_eq m n q))) (λ q. rw q at e)

-- neither it nor among the others
pub not_among : (m : List ℕ) (ms : Names) (n : List ℕ) → among? (m ∷ ms) n ≡ false → (m ≡ n → ⊥) × (among? ms n ≡ false)
not_among m ms n e =
    either_bool (same? m n)
    (λ q. no_both (rw q at e))
    (λ q. (λ z. no_both (sym (same_refl n) ∙ (ap (λ (x : List ℕ). same? x n) (sym z) ∙ q)), rw q at e))

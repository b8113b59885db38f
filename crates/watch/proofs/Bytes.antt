-- The bytes of one line, read one by one: no LF is among them before the last.
use Prim.Native.Nat.{ℕ, zero, suc, ◌+◌, ◌<◌, ◌≤◌}
use mathlib.Core.Path.{◌≡◌, sym, ap, subst, ◌∙◌}
use mathlib.Core.Bool.{true, false}
use mathlib.Core.Logic.{inl, inr}
use mathlib.Core.List.{List, [], ◌∷◌, ◌++◌, append_assoc}
use native.Mathlib.Omega.{arith}
use native.Mathlib.Numerals.{add-one}
use lib.ListN.{length, set, take, length-set, length-append}
use lib.Seq.{take-suc-set, length-take-le}
use borrow.Author.Tests.{eq-eqb, ne_eqb, lt-ltb}
use Rattle.input.specs.Counts.{IsPrefixLen}
use Rattle.std.specs.Prelude.{Ok}
use Rattle.input.specs.Filled.{Filled}
use Rattle.input.proofs.Answers.{counts-within}
use Rattle.lists.specs.Lists.{has?}
use Rattle.lists.proofs.Cases.{either_eq, no_both}
use Rattle.lines.specs.Log.{scan, next_line, Next, handed}
use Rattle.watch.specs.Watch.{OneLine, LineRead}

-- a scan goes to the first LF
scan_to : (m start at : ℕ) (a rest : List ℕ) → has? 10 a ≡ false → length a < m → scan m start at (a ++ (10 ∷ rest)) ≡ handed start (at + length a + 1)
scan_to zero start at a rest f h = absurd (omega arith)
scan_to (suc m) start at [] rest f h = ap (handed start) (let z : at + 1 ≡ at + 0 + 1 = omega arith in z)
scan_to (suc m) start at (b ∷ a) rest f h =
    either_eq b 10
    (λ q. let g : true ≡ false = simp (eq-eqb b 10 q) at f in no_both g)
    (λ q.
    let g : has? 10 a ≡ false = simp (ne_eqb b 10 q) at f in
    let n : at + 1 + length a + 1 ≡ at + suc (length a) + 1 = omega arith in
    simp (ne_eqb b 10 q) (scan_to m start (at + 1) a rest g (omega arith) ∙ ap (handed start) n))

-- bytes without an LF, and one more
more_free : (a : List ℕ) (b : ℕ) → has? 10 a ≡ false → (b ≡ 10 → ⊥) → has? 10 (a ++ (b ∷ [])) ≡ false
more_free [] b f n = simp (ne_eqb b 10 n)
more_free (x ∷ a) b f n =
    either_eq x 10
    (λ q. let g : true ≡ false = simp (eq-eqb x 10 q) at f in no_both g)
    (λ q. let g : has? 10 a ≡ false = simp (ne_eqb x 10 q) at f in simp (ne_eqb x 10 q) (more_free a b g n))

more-ends : (a : List ℕ) (b : ℕ) → has? 10 a ≡ false → length a < 40 → b ≡ 10 → (rest : List ℕ) → next_line ((a ++ (b ∷ [])) ++ rest) 0 ≡ handed 0 (length (a ++ (b ∷ [])))
unfolding next_line
more-ends a b f h e rest =
    let l : List ℕ = (a ++ (b ∷ [])) ++ rest in
    let is : l ≡ a ++ (10 ∷ rest) = append_assoc a (b ∷ []) rest ∙ ap (λ (c : ℕ). a ++ (c ∷ rest)) e in
    let n : length (a ++ (b ∷ [])) ≡ length a + 1 = length-append a (b ∷ []) in
    let p : 0 < length l = omega (arith, length-append (a ++ (b ∷ [])) rest, n) in
    let m : 0 + length a + 1 ≡ length (a ++ (b ∷ [])) = omega (arith, n) in
    simp (lt-ltb 0 (length l) p) (ap (scan 40 0 0) is ∙ (scan_to 40 0 0 a rest f h ∙ ap (handed 0) m))

-- one byte more in a buffer
module _ (n : ℕ) (xs : List ℕ) (b : ℕ) (h : n < length xs) where
  pub byte_within : n + 1 ≤ length (set xs n b)
  byte_within = omega (arith, length-set xs n b)

  stored : take (n + 1) (set xs n b) ≡ take n xs ++ (b ∷ [])
  stored = ap (λ (k : ℕ). take k (set xs n b)) (add-one n) ∙ take-suc-set xs n b h

  module _ (f : has? 10 (take n xs) ≡ false) where
    pub byte_free : (b ≡ 10 → ⊥) → has? 10 (take (n + 1) (set xs n b)) ≡ false
    byte_free no_lf = ap (has? 10) stored ∙ more_free (take n xs) b f no_lf

    pub byte_ends : b ≡ 10 → length xs ≤ 40 → LineRead (Ok (n + 1)) (set xs n b)
    byte_ends e few = (
      counts-within (n + 1) (set xs n b) byte_within,
      subst OneLine (sym stored) (inl (more-ends (take n xs) b f (omega (arith, length-take-le n xs (let k : n ≤ length xs = omega arith in k))) e)),
    )

pub byte_few : (n : ℕ) (xs : List ℕ) (b m : ℕ) → length xs ≤ m → length (set xs n b) ≤ m
byte_few n xs b m h = omega (arith, length-set xs n b)

-- without an LF, to the end of the input or of the buffer
pub free_read : (n : ℕ) (xs : List ℕ) → n ≤ length xs → has? 10 (take n xs) ≡ false → LineRead (Ok n) xs
free_read n xs h f = (counts-within n xs h, inr f)

pub all_read : (n : ℕ) (xs : List ℕ) → n ≤ length xs → length xs ≤ n → has? 10 (take n xs) ≡ false → LineRead (Ok (length xs)) xs
all_read n xs h l f = subst (λ (k : ℕ). LineRead (Ok k) xs) (let e : n ≡ length xs = omega arith in e) (free_read n xs h f)

pub line_counted : (a : Filled) (n : ℕ) (xs : List ℕ) → a ≡ Ok n → LineRead a xs → IsPrefixLen n xs
line_counted a n xs e f = (subst (λ (x : Filled). LineRead x xs) e f).0

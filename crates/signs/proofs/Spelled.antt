-- A name, byte by byte: at most eight, so that it fits in a number.
use Prim.Native.Nat.{ℕ, zero, suc, ◌+◌, ◌-◌, ◌*◌, ◌^◌, ◌<◌, ◌≤◌}
use mathlib.Core.Path.{◌≡◌, refl, sym, ap, subst, ◌∙◌}
use mathlib.Core.Bool.{Bool, true, false, not}
use mathlib.Core.List.{List, [], ◌∷◌}
use native.Mathlib.Omega.{arith}
use native.Mathlib.Numerals.{add-one}
use lib.ListN.{length, get_or, drop, drop_of_length-le, length-drop}
use lib.Seq.{drop-drop}
use lib.Pow.{pow-add}
use borrow.Author.Tests.{eq-eqb, ne_eqb, not-true, not-false}
use Rattle.std.specs.List.{between}
use Rattle.std.proofs.lemmas.Slice.{between_to_end}
use Rattle.std.proofs.lemmas.List.Edits.{get_or-between}
use Rattle.lists.proofs.Cases.{either_eq}
use Rattle.std.specs.Prelude.{Option, Some, None}
use Rattle.signs.specs.Signs.{Got, read, outside, capital?, word_byte?, name_more, name}
use Rattle.signs.specs.Finding.{WordSays, ReadsWord, Behind}
use Rattle.signs.specs.declared.Word.{Word}
use Rattle.signs.proofs.Places.{step}

module _ (k n b : ℕ) (s : List ℕ) where
  more-stop : word_byte? b ≡ false → name_more k n (b ∷ s) ≡ read n (b ∷ s)
  unfolding name_more
  more-stop e = simp e

  more-long : word_byte? b ≡ true → k ≡ 0 → name_more k n (b ∷ s) ≡ outside
  unfolding name_more
  more-long e h = simp (e, eq-eqb k 0 h)

  more_on : word_byte? b ≡ true → (k ≡ 0 → ⊥) → name_more k n (b ∷ s) ≡ name_more (k - 1) (256 * n + b) s
  unfolding name_more
  more_on e h = simp (e, ne_eqb k 0 h)

pub more_none : (k n : ℕ) → name_more k n [] ≡ read n []
unfolding name_more
more_none k n = refl

-- ── eight bytes fit ──
pow_up : (k : ℕ) → 256 ^ suc k ≡ 256 ^ k * 256
pow_up k = ap (λ (j : ℕ). 256 ^ j) (sym (add-one k)) ∙ pow-add 256 k 1

pow_mono : (k i n : ℕ) → i ≤ k → n < 256 ^ i → n < 256 ^ k
pow_mono zero i n h l = let e : i ≡ 0 = omega arith in subst (λ (x : ℕ). n < 256 ^ x) e l
pow_mono (suc k) i n h l =
    either_eq i (suc k)
    (λ e. subst (λ (x : ℕ). n < 256 ^ x) e l)
    (λ g. let m : n < 256 ^ k = pow_mono k i n (omega arith) l in let e = pow_up k in omega arith)

pub grows : (i n b : ℕ) → n < 256 ^ i → b < 256 → 256 * n + b < 256 ^ (i + 1)
grows i n b l h = let e : 256 ^ (i + 1) ≡ 256 ^ i * 256 = pow-add 256 i 1 in omega arith

-- ── the loop ──
-- Of the bytes s behind the capital, i are passed: what is left of the name is that of the whole one.
pub record Named (s : List ℕ) (first n i : ℕ) : Type 0 where
  pub same : name_more 7 first s ≡ name_more (7 - i) n (drop i s)
  pub high : i ≤ 7
  pub small : n < 256 ^ (i + 1)

pub named_first : (s : List ℕ) (first n : ℕ) → n ≡ first → n < 256 → Named s first n 0
named_first s first n e l = record { same = ap (λ (j : ℕ). name_more 7 j s) (sym e); high = omega arith; small = l }

pub named_fits : (s : List ℕ) (first n i : ℕ) → Named s first n i → (i ≡ 7 → ⊥) → n < 72057594037927936
named_fits s first n i v h = pow_mono 7 (i + 1) n (omega (arith, v.high)) v.small

module _ (text : List ℕ) (p i : ℕ) (inside : p < length text) where
  abbrev behind_capital : List ℕ
  behind_capital = between (p + 1) (length text) text

  all_behind : behind_capital ≡ drop (p + 1) text
  all_behind = between_to_end text (p + 1) (length text) (omega arith)

  all_length : length behind_capital ≡ length text - (p + 1)
  all_length = ap length all_behind ∙ length-drop (p + 1) text

  left_behind : drop i behind_capital ≡ drop (p + 1 + i) text
  left_behind = ap (λ (l : List ℕ). drop i l) all_behind ∙ drop-drop i (p + 1) text

  whole_name : name_more 7 (get_or text p 0) behind_capital ≡ name_more 7 (get_or text p 0) (drop (p + 1) text)
  whole_name = ap (λ (l : List ℕ). name_more 7 (get_or text p 0) l) all_behind

  pub byte_behind : i < length behind_capital → get_or behind_capital i 0 ≡ get_or text (p + 1 + i) 0
  byte_behind h = get_or-between text (p + 1) (length text) i 0 (omega (arith, h, all_length))

  module _ (n : ℕ) (v : Named behind_capital (get_or text p 0) n i) where
    pub name-ended : length behind_capital ≤ i → ReadsWord text p (name_more 7 (get_or text p 0) (drop (p + 1) text)) (Some (record { value = n; at = length text }))
    name-ended h =
        let e : drop i behind_capital ≡ [] = drop_of_length-le behind_capital h in
        let f : drop (length text) text ≡ [] = drop_of_length-le text (omega arith) in
        record { says = rw (sym whole_name ∙ (v.same ∙ (ap (λ (l : List ℕ). name_more (7 - i) n l) e ∙ more_none (7 - i) n))) (refl, sym f, omega arith, omega arith) }

    module _ (b : Bool) (q : b ≡ word_byte? (get_or behind_capital i 0)) (h : i < length behind_capital) where
      inner : drop i behind_capital ≡ get_or behind_capital i 0 ∷ drop (i + 1) behind_capital
      inner = step behind_capital i h

      pub name-stopped : not b ≡ true → ReadsWord text p (name_more 7 (get_or text p 0) (drop (p + 1) text)) (Some (record { value = n; at = p + 1 + i }))
      name-stopped e =
          record {
            says =
                rw (sym whole_name ∙ (v.same ∙ (ap (λ (l : List ℕ). name_more (7 - i) n l) inner ∙ more-stop (7 - i) n (get_or behind_capital i 0) (drop (i + 1) behind_capital) (sym q ∙ not-true b e))))
                (refl, sym inner ∙ left_behind, omega arith, omega (arith, all_length));
          }

      pub name-long : not b ≡ false → i ≡ 7 → ReadsWord text p (name_more 7 (get_or text p 0) (drop (p + 1) text)) None
      name-long e g =
          record {
            says =
                rw (sym whole_name ∙ (v.same ∙ (ap (λ (l : List ℕ). name_more (7 - i) n l) inner ∙ more-long (7 - i) n (get_or behind_capital i 0) (drop (i + 1) behind_capital) (sym q ∙ not-false b e) (omega arith)))) tt;
          }

      pub name_goes : not b ≡ false → (i ≡ 7 → ⊥) → (w : ℕ) → w ≡ get_or behind_capital i 0 → get_or text (p + 1 + i) 0 < 256 → Named behind_capital (get_or text p 0) (256 * n + w) (i + 1)
      name_goes e g w y l =
          let high : i ≤ 6 = omega (arith, v.high) in
          let a : 7 - i - 1 ≡ 7 - (i + 1) = omega arith in
          record {
            same =
                v.same ∙ (ap (λ (l : List ℕ). name_more (7 - i) n l) inner
                ∙ (more_on (7 - i) n (get_or behind_capital i 0) (drop (i + 1) behind_capital) (sym q ∙ not-false b e) (λ z. omega arith)
                ∙ (ap (λ (j : ℕ). name_more j (256 * n + get_or behind_capital i 0) (drop (i + 1) behind_capital)) a
                ∙ ap (λ (j : ℕ). name_more (7 - (i + 1)) (256 * n + j) (drop (i + 1) behind_capital)) (sym y))));
            high = omega arith;
            small = grows (i + 1) n w v.small (omega (arith, byte_behind h, l));
          }

-- ── the whole name ──
says_earlier : (s : List ℕ) (at p : ℕ) → at ≤ p → (g : Got ℕ) (r : Option Word) → WordSays s p g r → WordSays s at g r
says_earlier s at p h (read n l) (Some w) d = (d.0, d.1, omega (arith, d.2), d.3)
says_earlier s at p h outside None d = tt
says_earlier s at p h (read n l) None d = d
says_earlier s at p h outside (Some w) d = d

module _ (s : List ℕ) (at p : ℕ) (b : Behind s at p) where
  pub no_name_end : length s ≤ p → ReadsWord s at (name (drop at s)) None
  unfolding name
  no_name_end h = record { says = rw (b.answer, drop_of_length-le s h) tt }

  module _ (h : p < length s) (c : Bool) (q : c ≡ capital? (get_or s p 0)) where
    pub no_name-small : not c ≡ true → ReadsWord s at (name (drop at s)) None
    unfolding name
    no_name-small e = record { says = rw (b.answer, step s p h, sym q ∙ not-true c e) tt }

    pub name_read : not c ≡ false → (r : Option Word) → ReadsWord s p (name_more 7 (get_or s p 0) (drop (p + 1) s)) r → ReadsWord s at (name (drop at s)) r
    unfolding name
    name_read e r x = record { says = rw (b.answer, step s p h, sym q ∙ not-false c e) (says_earlier s at p b.ahead (name_more 7 (get_or s p 0) (drop (p + 1) s)) r x.says) }

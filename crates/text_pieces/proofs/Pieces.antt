-- The pieces of the report: numbers, lines, the refusal and a count, each from the pieces that it is written with.
use Prim.Native.Nat.{ℕ, ◌+◌, ◌/◌, ◌%◌, ◌<◌, ◌≤◌}
use mathlib.Core.Path.{◌≡◌, ap, sym, ◌∙◌, subst}
use mathlib.Core.Bool.{false}
use mathlib.Core.List.{List, [], ◌∷◌}
use native.Mathlib.Omega.{arith}
use lib.Dec.{eqb}
use lib.ListN.{length}
use borrow.Author.Tests.{eq-eqb, ne_eqb}
use Rattle.reading.specs.declared.Ending.{Ending}
use Rattle.reading.specs.declared.Ending.TheVariants.{Read, Refused}
use Rattle.text_pieces.specs.Pieces.{decimal, letter_line, refused_text, count_text}
use Rattle.text_pieces.specs.Writing.{Writes, WritesFew, byte_letter, ending_text, unread?, LineLow}
use Rattle.text_pieces.proofs.Decimal.{decimal_one, decimal_two, decimal-three}
use Rattle.text_pieces.proofs.Writing.{wrote_nothing, then, writes_same}

-- ── numbers ──
module _ (n : ℕ) (text text₁ : List ℕ) (p q c : ℕ) where
  pub number_one : n < 10 → c ≡ 48 + n % 10 → Writes (c ∷ []) text p text₁ q → WritesFew 3 (decimal n) text p text₁ q
  number_one h e w =
      record {
        writes = writes_same (ap (λ (d : ℕ). d ∷ []) e ∙ sym (decimal_one n h)) w;
        few = omega (arith, w.after);
      }

  module _ (text₂ : List ℕ) (r b : ℕ) where
    pub number_two : 10 ≤ n → n < 100 → b ≡ 48 + n / 10 % 10 → c ≡ 48 + n % 10 → Writes (b ∷ []) text p text₁ q → Writes (c ∷ []) text₁ q text₂ r
        → WritesFew 3 (decimal n) text p text₂ r
    number_two h l d e w v =
        record {
          writes = writes_same ((λ i. d i ∷ e i ∷ []) ∙ sym (decimal_two n h l)) (then w v);
          few = omega (arith, w.after, v.after);
        }

    module _ (text₃ : List ℕ) (s a : ℕ) where
      pub number-three : 100 ≤ n → n ≤ 999 → a ≡ 48 + n / 100 % 10 → b ≡ 48 + n / 10 % 10 → c ≡ 48 + n % 10
          → Writes (a ∷ []) text p text₁ q → Writes (b ∷ []) text₁ q text₂ r → Writes (c ∷ []) text₂ r text₃ s → WritesFew 3 (decimal n) text p text₃ s
      number-three h l f d e w v u =
          record {
            writes = writes_same ((λ i. f i ∷ d i ∷ e i ∷ []) ∙ sym (decimal-three n h l)) (then w (then v u));
            few = omega (arith, w.after, v.after, u.after);
          }

-- ── letters ──
pub letter_holds : (b : ℕ) → b ≡ 1 → 72 ≡ byte_letter b
letter_holds b e = simp (eq-eqb b 1 e)

pub letter_fails : (b : ℕ) → (b ≡ 1 → ⊥) → 70 ≡ byte_letter b
letter_fails b e = simp (ne_eqb b 1 e)

-- ── lines ──
module _ (text text₁ text₂ text₃ text₄ : List ℕ) (p q r s e : ℕ) (n : ℕ) where
  pub line_written : (v l : ℕ) → WritesFew 3 (decimal n) text p text₁ q → Writes (32 ∷ []) text₁ q text₂ r → l ≡ byte_letter v → Writes (l ∷ []) text₂ r text₃ s
      → Writes (10 ∷ []) text₃ s text₄ e → WritesFew 6 (letter_line n (byte_letter v)) text p text₄ e
  line_written v l a b f c d =
      record {
        writes = writes_same (ap (letter_line n) f) (then a.writes (then b (then c d)));
        few = omega (arith, a.few, b.after, c.after, d.after);
      }

  module _ (text₅ : List ℕ) (z m : ℕ) where
    pub refused_written : WritesFew 3 (decimal n) text p text₁ q → Writes (32 ∷ []) text₁ q text₂ r → Writes (82 ∷ []) text₂ r text₃ s
        → WritesFew 3 (decimal m) text₃ s text₄ e → Writes (10 ∷ []) text₄ e text₅ z → WritesFew 9 (refused_text n m) text p text₅ z
    unfolding refused_text
    refused_written a b c d f =
        record {
          writes = then a.writes (then b (then c (then d.writes f)));
          few = omega (arith, a.few, b.after, c.after, d.few, f.after);
        }

-- ── how the reading ended ──
ending_none : (text : List ℕ) (p : ℕ) → p + 9 ≤ length text → WritesFew 9 (ending_text Read) text p text p
ending_none text p h = record { writes = wrote_nothing text p (omega arith); few = omega arith }

pub unread_read : (e : Ending) → e ≡ Read → false ≡ unread? e
unread_read e q = sym (ap unread? q)

pub unread_refused : (e : Ending) (c n : ℕ) → e ≡ Refused c n → eqb n 0 ≡ unread? e
unread_refused e c n q = sym (ap unread? q)

pub line_low : (e : Ending) (c n : ℕ) → e ≡ Refused c n → LineLow e → n ≤ 999
line_low e c n q l = let m : n ≤ 257 = subst LineLow q l in omega arith

pub ending_refused : (e : Ending) (c n : ℕ) → e ≡ Refused c n → (text text₁ : List ℕ) (p q : ℕ) → WritesFew 9 (refused_text n c) text p text₁ q
    → WritesFew 9 (ending_text e) text p text₁ q
ending_refused e c n k text text₁ p q w = subst (λ (s : List ℕ). WritesFew 9 s text p text₁ q) (sym (ap ending_text k)) w

pub ending_read : (e : Ending) → e ≡ Read → (text : List ℕ) (p : ℕ) → p + 9 ≤ length text → WritesFew 9 (ending_text e) text p text p
ending_read e k text p h = subst (λ (s : List ℕ). WritesFew 9 s text p text p) (sym (ap ending_text k)) (ending_none text p h)

-- ── a count ──
pub count_written : (text text₁ text₂ : List ℕ) (p q r n : ℕ) → Writes (32 ∷ []) text p text₁ q → WritesFew 3 (decimal n) text₁ q text₂ r
    → WritesFew 4 (count_text n) text p text₂ r
count_written text text₁ text₂ p q r n a b = record { writes = then a b.writes; few = omega (arith, a.after, b.few) }

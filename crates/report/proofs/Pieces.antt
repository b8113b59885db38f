-- The tally, and the lines of verdict bytes, each from the pieces that it is written with.
use Prim.Native.Nat.{ℕ, zero, suc, ◌+◌, ◌≤◌}
use mathlib.Core.Path.{◌≡◌, refl, ap, ap₂, sym, ◌∙◌}
use mathlib.Core.Bool.{not}
use mathlib.Core.List.{List, [], ◌∷◌, ◌++◌}
use native.Mathlib.Omega.{arith}
use native.Mathlib.Numerals.{add-one}
use lib.Dec.{eqb}
use lib.ListN.{length, get_or, take}
use lib.Seq.{take_all, get_or-take, length-take-le}
use Rattle.std.specs.List.{count_by}
use Rattle.std.proofs.lemmas.List.Sums.{count_by_more_yes, count_by_more_no}
use Rattle.lists.proofs.Cases.{either_eq}
use borrow.Author.Tests.{eq-eqb, ne_eqb}
use Rattle.text_pieces.specs.Pieces.{letter_line, count_text}
use Rattle.text_pieces.specs.Writing.{Writes, WritesFew, byte_letter}
use Rattle.text_pieces.proofs.Writing.{wrote_nothing, then, writes_same}
use Rattle.tallies.specs.declared.Tally.{Tally}
use Rattle.report.specs.Text.{tally_text}
use Rattle.report.specs.RecordText.{byte_fails, lines_to, fails_to}

-- ── the tally ──
pub tally_written : (y : Tally) (t t₁ t₂ t₃ t₄ t₅ t₆ t₇ : List ℕ) (p a b c d e f g : ℕ) → Writes (84 ∷ []) t p t₁ a
    → WritesFew 4 (count_text y.lines) t₁ a t₂ b → WritesFew 4 (count_text y.begun) t₂ b t₃ c
    → WritesFew 4 (count_text y.finished) t₃ c t₄ d → WritesFew 4 (count_text y.running) t₄ d t₅ e
    → WritesFew 4 (count_text y.failing) t₅ e t₆ f → Writes (10 ∷ []) t₆ f t₇ g → WritesFew 22 (tally_text y) t p t₇ g
unfolding tally_text
tally_written y t t₁ t₂ t₃ t₄ t₅ t₆ t₇ p a b c d e f g w w₁ w₂ w₃ w₄ w₅ w₆ =
    record {
      writes = then w (then w₁.writes (then w₂.writes (then w₃.writes (then w₄.writes (then w₅.writes w₆)))));
      few = omega (arith, w.after, w₁.few, w₂.few, w₃.few, w₄.few, w₅.few, w₆.after);
    }

-- ── the lines of verdict bytes, and how many fail ──
pub lines_none : (v text : List ℕ) → Writes (lines_to v 0) text 0 text 0
unfolding lines_to
lines_none v text = wrote_nothing text 0 (omega arith)

pub lines_next : (v text text₁ text₂ : List ℕ) (k q r : ℕ) → Writes (lines_to v k) text 0 text₁ q → WritesFew 6 (letter_line (k + 1) (byte_letter (get_or v k 0))) text₁ q text₂ r
    → Writes (lines_to v (k + 1)) text 0 text₂ r
unfolding lines_to
lines_next v text text₁ text₂ k q r a b =
    writes_same (ap (λ (n : ℕ). lines_to v k ++ letter_line n (byte_letter (get_or v k 0))) (add-one k) ∙ ap (lines_to v) (sym (add-one k))) (then a b.writes)

pub lines_all : (v text text₁ : List ℕ) (k q : ℕ) → k ≤ length v → length v ≤ k → Writes (lines_to v k) text 0 text₁ q
    → Writes (lines_to v (length v)) text 0 text₁ q
lines_all v text text₁ k q h l w = writes_same (ap (lines_to v) (let e : k ≡ length v = omega arith in e)) w

fails_from : (v : List ℕ) (k : ℕ) → k ≤ length v → fails_to v k ≡ count_by (λ b. not (eqb b 1)) (take k v)
unfolding fails_to
fails_from v zero h = refl
fails_from v (suc k) h =
    let ih = fails_from v k (omega arith) in
    let n : count_by (λ b. not (eqb b 1)) (take (k + 1) v) ≡ count_by (λ b. not (eqb b 1)) (take (suc k) v) =
    ap (λ (j : ℕ). count_by (λ b. not (eqb b 1)) (take j v)) (add-one k) in
    either_eq (get_or v k 0) 1
    (λ e.
    let b : byte_fails (get_or v k 0) ≡ 0 = simp (eq-eqb (get_or v k 0) 1 e) in
    let m = count_by_more_no (λ b. not (eqb b 1)) v k 0 (omega arith) (simp (eq-eqb (get_or v k 0) 1 e)) in
    omega (arith, ih, n, b, m))
    (λ e.
    let b : byte_fails (get_or v k 0) ≡ 1 = simp (ne_eqb (get_or v k 0) 1 e) in
    let m = count_by_more_yes (λ b. not (eqb b 1)) v k 0 (omega arith) (simp (ne_eqb (get_or v k 0) 1 e)) in
    omega (arith, ih, n, b, m))

pub fails_counted : (v : List ℕ) → fails_to v (length v) ≡ count_by (λ b. not (eqb b 1)) v
fails_counted v = fails_from v (length v) (omega arith) ∙ ap (count_by (λ b. not (eqb b 1))) (take_all (length v) v (omega arith))

-- ── the first ones of the verdict bytes ──
lines_taken : (v : List ℕ) (n k : ℕ) → k ≤ n → lines_to (take n v) k ≡ lines_to v k
unfolding lines_to
lines_taken v n zero h = refl
lines_taken v n (suc k) h =
    ap₂ (λ (a : List ℕ) (b : ℕ). a ++ letter_line (suc k) (byte_letter b)) (lines_taken v n k (omega arith)) (get_or-take n v k 0 (omega arith))

fails_taken : (v : List ℕ) (n k : ℕ) → k ≤ n → fails_to (take n v) k ≡ fails_to v k
unfolding fails_to
fails_taken v n zero h = refl
fails_taken v n (suc k) h =
    ap₂ (λ (a b : ℕ). a + byte_fails b) (fails_taken v n k (omega arith)) (get_or-take n v k 0 (omega arith))

module _ (v : List ℕ) (n : ℕ) (h : n ≤ length v) where
  pub lines_first : lines_to (take n v) (length (take n v)) ≡ lines_to v n
  lines_first = rw (length-take-le n v h) (lines_taken v n n (omega arith))

  pub fails_first : fails_to (take n v) (length (take n v)) ≡ fails_to v n
  fails_first = rw (length-take-le n v h) (fails_taken v n n (omega arith))

-- The tests of a label tell what its bytes are: `label_form?` passes exactly the labels, and of bytes that are at least one it
-- fails exactly those with a wrong byte or above 24.
use Prim.Native.Nat.{ℕ, zero, suc, ◌≤◌, ◌<◌}
use mathlib.Core.Path.{◌≡◌, refl, sym, ◌∙◌, ap₂}
use mathlib.Core.Logic.{◌↔◌}
use mathlib.Core.Bool.{Bool, true, false, ◌&&◌, ◌||◌}
use mathlib.Core.List.{List, [], ◌∷◌}
use native.Mathlib.Omega.{arith}
use lib.Dec.{leb, eqb}
use lib.ListN.{length, get_or}
use borrow.Author.Tests.{leb-true, le-leb, eqb-true, eq-eqb}
use Rattle.lists.specs.Lists.{all?}
use Rattle.lists.proofs.Cases.{either_bool, either_lt, no_both, and_left, and_right}
use Rattle.labels.specs.Label.{digit?, letter?, max_label_bytes, label_length?, label_form?}
use Rattle.grammar.specs.Written.{EachByte, Digit, LabelByte, capital, digit, underscore, IsLabel, WrongLabel, too_long, wrong_byte}

-- ── a test that all bytes pass ──
module _ (f : ℕ → Bool) where
  pub all_each : (s : List ℕ) → all? f s ≡ true → EachByte (λ b. f b ≡ true) s
  all_each [] e k h = absurd (omega arith)
  all_each (x ∷ s) e zero h = and_left (f x) (all? f s) e
  all_each (x ∷ s) e (suc k) h = all_each s (and_right (f x) (all? f s) e) k (omega arith)

  pub each_all : (s : List ℕ) → EachByte (λ b. f b ≡ true) s → all? f s ≡ true
  each_all [] h = refl
  each_all (x ∷ s) h = ap₂ ◌&&◌ (h 0 (omega arith)) (each_all s (λ k w. h (suc k) (omega arith)))

  -- a byte that fails it
  pub one_fails : (s : List ℕ) → all? f s ≡ false → (k : ℕ) × (k < length s) × (f (get_or s k 0) ≡ false)
  one_fails [] e = no_both e
  one_fails (x ∷ s) e =
      either_bool (f x)
      (λ p. let q : all? f s ≡ false = simp p at e in let w = one_fails s q in (suc w.0, omega (arith, w.1), w.2))
      (λ p. (0, omega arith, p))

-- ── one byte ──
pub digit_says : (b : ℕ) → (digit? b ≡ true) ↔ Digit b
unfolding digit?
digit_says b = (
  (λ e. (leb-true 48 b (and_left (leb 48 b) (leb b 57) e), leb-true b 57 (and_right (leb 48 b) (leb b 57) e))),
  (λ d. ap₂ ◌&&◌ (le-leb 48 b d.0) (le-leb b 57 d.1)),
)

module _ (b : ℕ) where
  letter_byte : letter? b ≡ true → LabelByte b
  unfolding letter?
  letter_byte e = go (leb 65 b && leb b 90) refl (digit? b) refl e
    where
      go : (x : Bool) → leb 65 b && leb b 90 ≡ x → (y : Bool) → digit? b ≡ y → x || y || eqb b 95 ≡ true → LabelByte b
      go true p y q e = capital (leb-true 65 b (and_left (leb 65 b) (leb b 90) p)) (leb-true b 90 (and_right (leb 65 b) (leb b 90) p))
      go false p true q e = digit ((digit_says b).0 q)
      go false p false q e = underscore (eqb-true b 95 e)

  byte_letter_lem : LabelByte b → letter? b ≡ true
  unfolding letter?
  byte_letter_lem (capital low high) = simp (le-leb 65 b low, le-leb b 90 high)
  byte_letter_lem (digit d) = either_bool (leb 65 b && leb b 90) (λ e. simp e) (λ e. simp (e, (digit_says b).1 d))
  byte_letter_lem (underscore e) = either_bool (leb 65 b && leb b 90 || digit? b) (λ p. simp p) (λ p. simp (p, eq-eqb b 95 e))

-- ── a label ──
module _ (s : List ℕ) where
  form_label : label_form? s ≡ true → IsLabel s
  unfolding label_form?
  form_label e =
      let size : label_length? (length s) ≡ true = and_left (label_length? (length s)) (all? letter? s) e in
      record {
        some = leb-true 1 (length s) (and_left (leb 1 (length s)) (leb (length s) max_label_bytes) size);
        few = leb-true (length s) 24 (and_right (leb 1 (length s)) (leb (length s) max_label_bytes) size);
        bytes = λ k h. letter_byte (get_or s k 0) (all_each letter? s (and_right (label_length? (length s)) (all? letter? s) e) k h);
      }

  label_form : IsLabel s → label_form? s ≡ true
  unfolding label_form?
  label_form l =
      ap₂ ◌&&◌ (ap₂ ◌&&◌ (le-leb 1 (length s) l.some) (le-leb (length s) 24 l.few))
      (each_all letter? s (λ k h. byte_letter_lem (get_or s k 0) (l.bytes k h)))

  pub form_is_label : (label_form? s ≡ true) ↔ IsLabel s
  form_is_label = (form_label, label_form)

  not_wrong : IsLabel s → WrongLabel s → ⊥
  not_wrong l (too_long h) = omega (arith, l.few)
  not_wrong l (wrong_byte k h n) = n (l.bytes k h)

  module _ (some : 1 ≤ length s) where
    no_form : label_form? s ≡ false → WrongLabel s
    unfolding label_form?
    no_form e =
        either_lt 24 (length s) (λ h. too_long h)
        (λ h.
        let a : all? letter? s ≡ false = simp (le-leb 1 (length s) some, le-leb (length s) 24 h) at e in
        let w = one_fails letter? s a in
        wrong_byte w.0 w.1 (λ b. no_both (sym (byte_letter_lem (get_or s w.0 0) b) ∙ w.2)))

    pub no_form_wrong : (label_form? s ≡ false) ↔ WrongLabel s
    no_form_wrong = (no_form, λ w. either_bool (label_form? s) (λ e. absurd (not_wrong (form_label e) w)) (λ e. e))

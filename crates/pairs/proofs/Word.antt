-- The names of the sets reflect the order of appearance: a pair's byte names the word of the lines of its two runs.
use Prim.Native.Nat.{ℕ, zero, suc, ◌-◌, ◌<◌, ◌≤◌}
use mathlib.Core.Path.{◌≡◌, refl, ap, sym, ◌∙◌}
use mathlib.Core.Logic.{◌≢◌}
use mathlib.Core.List.{List, [], ◌∷◌, ◌++◌}
use native.Mathlib.Omega.{arith}
use borrow.Author.Tests.{eq-eqb, ne_eqb}
use Rattle.lists.proofs.Cases.{either_eq, either_lt}
use Rattle.lists.proofs.Lists.{append-nil}
use Rattle.trace.specs.declared.Run.{Run}
use Rattle.trace.specs.Trace.{begin_line, end_line}
use Rattle.pairs.specs.Pairs.{pair_set}
use Rattle.pairs.specs.Word.{Letter, X, Y, letter_at, word_of, name_of, InLog}
use Rattle.pairs.proofs.Pairs.{set-1, set-2, set-3, set-4, set-5, set-6, set-7}

module _ (x y : Run) where
  -- ── the letter of a line ──
  begin_x : letter_at (begin_line x) x y ≡ X ∷ []
  unfolding letter_at
  begin_x = simp (eq-eqb (begin_line x) (begin_line x) refl)

  end_x : letter_at (end_line x) x y ≡ X ∷ []
  unfolding letter_at
  end_x =
      either_eq (end_line x) (begin_line x)
      (λ e. simp (eq-eqb _ _ e))
      (λ e. simp (ne_eqb _ _ e, eq-eqb (end_line x) (end_line x) refl))

  begin_y : (begin_line y ≢ begin_line x) × (begin_line y ≢ end_line x) → letter_at (begin_line y) x y ≡ Y ∷ []
  unfolding letter_at
  begin_y n = simp (ne_eqb _ _ n.0, ne_eqb _ _ n.1, eq-eqb (begin_line y) (begin_line y) refl)

  end_y : (end_line y ≢ begin_line x) × (end_line y ≢ end_line x) × (end_line y ≢ begin_line y) → letter_at (end_line y) x y ≡ Y ∷ []
  unfolding letter_at
  end_y n = simp (ne_eqb _ _ n.0, ne_eqb _ _ n.1, ne_eqb _ _ n.2, eq-eqb (end_line y) (end_line y) refl)

  -- no line of either run
  abbrev Quiet : ℕ → Type 0
  Quiet l = (l ≢ begin_line x) × (l ≢ end_line x) × (l ≢ begin_line y) × (l ≢ end_line y)

  quiet : (l : ℕ) → Quiet l → letter_at l x y ≡ []
  unfolding letter_at
  quiet l n = simp (ne_eqb _ _ n.0, ne_eqb _ _ n.1, ne_eqb _ _ n.2, ne_eqb _ _ n.3)

  -- ── the word of the first n lines, by the last of them that has a letter ──
  none : (n : ℕ) → ((l : ℕ) → 0 < l → l ≤ n → Quiet l) → [] ≡ word_of n x y
  unfolding word_of
  none zero h = refl
  none (suc n) h = rw (quiet (suc n) (h (suc n) (omega arith) (omega arith)), ← none n (λ l p q. h l p (omega arith)))

  last : (n p : ℕ) {v : List Letter} {c : Letter} → (0 < p) × (p ≤ n) → letter_at p x y ≡ c ∷ []
      → ((l : ℕ) → p < l → l ≤ n → Quiet l) → v ≡ word_of (p - 1) x y → v ++ (c ∷ []) ≡ word_of n x y
  unfolding word_of
  last zero p r e h f = absurd (omega arith)
  last (suc n) p r e h f =
      either_eq p (suc n)
      (λ q.
      let d : p - 1 ≡ n = omega arith in
      λ i. (f ∙ ap (λ (m : ℕ). word_of m x y) d) i ++ (sym e ∙ ap (λ (m : ℕ). letter_at m x y) q) i)
      (λ q.
      last n p (omega arith) e (λ l a b. h l a (omega arith)) f
      ∙ (sym (append-nil (word_of n x y))
      ∙ ap (λ (w : List Letter). word_of n x y ++ w) (sym (quiet (suc n) (h (suc n) (omega arith) (omega arith))))))

  -- ── the word of each set ──
  -- no line up to m is line f
  abbrev Unread : ℕ → ℕ → Type 0
  Unread m f = (l : ℕ) → 0 < l → l ≤ m → l ≢ f

  module _ (n : ℕ) (s : InLog n x y) where
    -- up to a line m: neither run has ended, or only the first, before the second begins
    xy : (m : ℕ) → begin_line y ≤ m → Unread m (end_line x) → Unread m (end_line y) → X ∷ Y ∷ [] ≡ word_of m x y
    xy m r p q =
        last m (begin_line y) (omega arith) (begin_y (omega arith))
        (λ l h k. (omega arith, p l (omega arith) k, omega arith, q l (omega arith) k))
        (last (begin_line y - 1) (begin_line x) (omega arith) begin_x
        (λ l h k. (omega arith, p l (omega arith) (omega arith), omega arith, q l (omega arith) (omega arith)))
        (none (begin_line x - 1)
        (λ l h k. (omega arith, p l h (omega arith), omega arith, q l h (omega arith)))))

    xxy : (m : ℕ) → begin_line x < end_line x → end_line x < begin_line y → begin_line y ≤ m → Unread m (end_line y) → X ∷ X ∷ Y ∷ [] ≡ word_of m x y
    xxy m p o r q =
        last m (begin_line y) (omega arith) (begin_y (omega arith))
        (λ l h k. (omega arith, omega arith, omega arith, q l (omega arith) k))
        (last (begin_line y - 1) (end_line x) (omega arith) end_x
        (λ l h k. (omega arith, omega arith, omega arith, q l (omega arith) (omega arith)))
        (last (end_line x - 1) (begin_line x) (omega arith) begin_x
        (λ l h k. (omega arith, omega arith, omega arith, q l (omega arith) (omega arith)))
        (none (begin_line x - 1)
        (λ l h k. (omega arith, omega arith, omega arith, q l h (omega arith))))))

    word-1 : end_line x ≡ 0 → end_line y ≡ 0 → X ∷ Y ∷ [] ≡ word_of n x y
    word-1 p q = xy n s.begun (λ l h k. omega arith) (λ l h k. omega arith)

    word-2 : begin_line x < end_line x → end_line x < begin_line y → end_line y ≡ 0 → X ∷ X ∷ Y ∷ [] ≡ word_of n x y
    word-2 p o q = xxy n p o s.begun (λ l h k. omega arith)

    word-3 : begin_line y < end_line x → end_line y ≡ 0 → X ∷ Y ∷ X ∷ [] ≡ word_of n x y
    word-3 p q =
        last n (end_line x) (omega arith) end_x (λ l h k. omega arith)
        (xy (end_line x - 1) (omega arith) (λ l h k. omega arith) (λ l h k. omega arith))

    word-4 : end_line x ≡ 0 → begin_line y < end_line y → X ∷ Y ∷ Y ∷ [] ≡ word_of n x y
    word-4 p q =
        last n (end_line y) (omega arith) (end_y (omega arith)) (λ l h k. omega arith)
        (xy (end_line y - 1) (omega arith) (λ l h k. omega arith) (λ l h k. omega arith))

    word-5 : begin_line x < end_line x → end_line x < begin_line y → begin_line y < end_line y → X ∷ X ∷ Y ∷ Y ∷ [] ≡ word_of n x y
    word-5 p o q =
        last n (end_line y) (omega arith) (end_y (omega arith)) (λ l h k. omega arith)
        (xxy (end_line y - 1) p o (omega arith) (λ l h k. omega arith))

    word-6 : begin_line y < end_line x → end_line x < end_line y → X ∷ Y ∷ X ∷ Y ∷ [] ≡ word_of n x y
    word-6 p q =
        last n (end_line y) (omega arith) (end_y (omega arith)) (λ l h k. omega arith)
        (last (end_line y - 1) (end_line x) (omega arith) end_x (λ l h k. omega arith)
        (xy (end_line x - 1) (omega arith) (λ l h k. omega arith) (λ l h k. omega arith)))

    word-7 : begin_line y < end_line y → end_line y < end_line x → X ∷ Y ∷ Y ∷ X ∷ [] ≡ word_of n x y
    word-7 p q =
        last n (end_line x) (omega arith) end_x (λ l h k. omega arith)
        (last (end_line x - 1) (end_line y) (omega arith) (end_y (omega arith)) (λ l h k. omega arith)
        (xy (end_line y - 1) (omega arith) (λ l h k. omega arith) (λ l h k. omega arith)))

    pub pair_word : pair_set x y ≡ name_of (word_of n x y)
    unfolding name_of
    pair_word =
        either_eq (end_line x) 0
        (λ p. either_eq (end_line y) 0
        (λ q. sym (set-1 x y p q) ∙ ap name_of (word-1 p q))
        (λ q. sym (set-4 x y p q) ∙ ap name_of (word-4 p (s.second-ends q))))
        (λ p. either_lt (end_line x) (begin_line y)
        (λ o. either_eq (end_line y) 0
        (λ q. sym (set-2 x y p o q) ∙ ap name_of (word-2 (s.first_ends p) o q))
        (λ q. sym (set-5 x y p o q) ∙ ap name_of (word-5 (s.first_ends p) o (s.second-ends q))))
        (λ o.
        let m : begin_line y < end_line x = omega arith in
        either_eq (end_line y) 0
        (λ q. sym (set-3 x y p o q) ∙ ap name_of (word-3 m q))
        (λ q. either_lt (end_line x) (end_line y)
        (λ t. sym (set-6 x y p o q t) ∙ ap name_of (word-6 m t))
        (λ t. sym (set-7 x y p o q t) ∙ ap name_of (word-7 (s.second-ends q) (omega (arith, s.ends-apart p)))))))

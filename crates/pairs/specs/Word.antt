-- "The names of the sets reflect the order of appearance of interval events": the lines of two runs, in the order of the log.
use Rattle.std.specs.Prelude.{ℕ, zero, suc, ◌<◌, ◌≤◌, ◌≡◌, Bool, true, false, ◌&&◌, ◌||◌, cond, List, [], ◌∷◌, ◌++◌, eqb}
use Rattle.trace.specs.declared.Run.{Run}
use Rattle.trace.specs.Trace.{begin_line, end_line}

-- a line of the first run, or of the second
pub data Letter : Type 0 where
  X : Letter
  Y : Letter

-- whether line l is the run's begin line or its end line
abbrev pub line_of? : ℕ → Run → Bool
line_of? l r = eqb l (begin_line r) || eqb l (end_line r)

-- the letter of line l, or none
unfoldable pub letter_at : ℕ → Run → Run → List Letter
letter_at l x y = cond (line_of? l x) (X ∷ []) (cond (line_of? l y) (Y ∷ []) [])

-- the letters of lines 1 to n
unfoldable pub word_of : ℕ → Run → Run → List Letter
word_of zero x y = []
word_of (suc n) x y = word_of n x y ++ letter_at (suc n) x y

-- whether two words are the same
abbrev pub same_letter? : Letter → Letter → Bool
same_letter? X X = true
same_letter? X Y = false
same_letter? Y X = false
same_letter? Y Y = true

abbrev pub same_word? : List Letter → List Letter → Bool
same_word? [] [] = true
same_word? [] (d ∷ v) = false
same_word? (c ∷ u) [] = false
same_word? (c ∷ u) (d ∷ v) = same_letter? c d && same_word? u v

-- "1 XY, 2 XXY, 3 XYX, 4 XYY, 5 XXYY (before), 6 XYXY (overlaps), 7 XYYX (includes)"
unfoldable pub name_of : List Letter → ℕ
name_of w =
    cond (same_word? w (X ∷ Y ∷ [])) 1
    (cond (same_word? w (X ∷ X ∷ Y ∷ [])) 2
    (cond (same_word? w (X ∷ Y ∷ X ∷ [])) 3
    (cond (same_word? w (X ∷ Y ∷ Y ∷ [])) 4
    (cond (same_word? w (X ∷ X ∷ Y ∷ Y ∷ [])) 5
    (cond (same_word? w (X ∷ Y ∷ X ∷ Y ∷ [])) 6
    (cond (same_word? w (X ∷ Y ∷ Y ∷ X ∷ [])) 7 0))))))

-- Two runs of a log of n lines, x begun first: a run ends after it begins, and no line belongs to both.
pub record InLog (n : ℕ) (x y : Run) : Type 0 where
  pub numbered : 0 < begin_line x
  pub in_order : begin_line x < begin_line y
  pub begun : begin_line y ≤ n
  pub first_read : end_line x ≤ n
  pub second_read : end_line y ≤ n
  pub first_ends : (end_line x ≡ 0 → ⊥) → begin_line x < end_line x
  pub second-ends : (end_line y ≡ 0 → ⊥) → begin_line y < end_line y
  pub apart : end_line x ≡ begin_line y → ⊥
  pub ends-apart : (end_line x ≡ 0 → ⊥) → end_line x ≡ end_line y → ⊥

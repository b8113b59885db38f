-- The piece as numbers, whichever it is.
use Prim.Native.Nat.{ℕ, ◌*◌, ◌-◌, ◌≤◌}
use mathlib.Core.Path.{◌≡◌, ap, sym, ◌∙◌}
use mathlib.Core.List.{List}
use native.Mathlib.Omega.{arith}
use Rattle.label_book.specs.declared.Piece.{Piece}
use Rattle.label_book.specs.declared.Piece.TheVariants.{InBook, InLog}
use Rattle.std.specs.Prelude.{Result, Ok, Err}
use Rattle.refusals.specs.Refusal.{number}
use Rattle.refusals.specs.declared.Refusal.{Refusal}
use Rattle.label_book.specs.Piece.{TellsPiece}
use Rattle.label_book.proofs.Answers.{piece_read, inside_book, inside_log}
use Rattle.scene_log.specs.LabelText.{piece_numbered, TellsNumbers}

module _ (book log : List ℕ) (p n start size : ℕ) (r : Result Piece Refusal) (w : TellsPiece book log p n r) where
  pub book_order : (q : Piece) (x y : ℕ) → r ≡ Ok q → q ≡ InBook x y → x ≤ y
  book_order q x y e f = omega (arith, (inside_book book log p n r w x y (piece_read r q (InBook x y) e f)).0)

  pub log_order : (q : Piece) (x y : ℕ) → r ≡ Ok q → q ≡ InLog x y → x ≤ y
  log_order q x y e f = omega (arith, (inside_log book log p n r w x y (piece_read r q (InLog x y) e f)).0)

  numbers : (a b c : ℕ) → ◌≡◌ {A = ℕ × ℕ × ℕ} (a, b, c) (piece_numbered r start size) → TellsNumbers book log p n start size a b c
  numbers a b c e = record { piece = r; told = w; answer = e }

  pub book_numbers : (q : Piece) (x y : ℕ) → r ≡ Ok q → q ≡ InBook x y → TellsNumbers book log p n start size 0 x (y - x)
  book_numbers q x y e f =
      numbers 0 x (y - x) (sym (ap (λ (k : Result Piece Refusal). piece_numbered k start size) (piece_read r q (InBook x y) e f)))

  pub log_numbers : (q : Piece) (x y : ℕ) → r ≡ Ok q → q ≡ InLog x y → TellsNumbers book log p n start size 1 x (y - x)
  log_numbers q x y e f =
      numbers 1 x (y - x) (sym (ap (λ (k : Result Piece Refusal). piece_numbered k start size) (piece_read r q (InLog x y) e f)))

  pub refusal-numbers : (e : Refusal) (c : ℕ) → r ≡ Err e → c ≡ number e → TellsNumbers book log p n start size (c * 65536) start size
  refusal-numbers e c q h =
      numbers (c * 65536) start size
      (ap (λ (k : ℕ). (k * 65536, start, size)) h ∙ sym (ap (λ (k : Result Piece Refusal). piece_numbered k start size) q))

pub ruleset piece-numbers = (book_order, log_order, book_numbers, log_numbers, refusal-numbers)

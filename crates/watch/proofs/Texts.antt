-- The text of an outcome in a buffer, and what stands at the start of a buffer.
use Prim.Native.Nat.{ℕ, ◌+◌, ◌≤◌}
use mathlib.Core.Path.{◌≡◌, sym, subst, ◌∙◌}
use mathlib.Core.List.{List}
use native.Mathlib.Omega.{arith}
use lib.ListN.{length, take, drop, length-append}
use lib.Seq.{take-append_seam}
use Rattle.single.specs.declared.Outcome.{Outcome}
use Rattle.single.specs.declared.Outcome.TheVariants.{Holds, Fails, Refused}
use Rattle.text_pieces.specs.Pieces.{letter_line, refused_text}
use Rattle.text_pieces.specs.Writing.{byte_letter, put, Writes, WritesFew}
use Rattle.watch.specs.Watch.{outcome_text}

module _ (n : ℕ) (o : Outcome) (text text' : List ℕ) (q : ℕ) where
  wider : (s : List ℕ) → WritesFew 6 s text 0 text' q → WritesFew 9 s text 0 text' q
  wider s w = record { writes = w.writes; few = let h = w.few in omega arith }

  pub holds-put : o ≡ Holds → WritesFew 6 (letter_line n (byte_letter 1)) text 0 text' q → WritesFew 9 (outcome_text n o) text 0 text' q
  holds-put e w = subst (λ (x : Outcome). WritesFew 9 (outcome_text n x) text 0 text' q) (sym e) (wider _ w)

  pub fails-put : o ≡ Fails → WritesFew 6 (letter_line n (byte_letter 0)) text 0 text' q → WritesFew 9 (outcome_text n o) text 0 text' q
  fails-put e w = subst (λ (x : Outcome). WritesFew 9 (outcome_text n x) text 0 text' q) (sym e) (wider _ w)

  pub refused_put : (c : ℕ) → o ≡ Refused c → WritesFew 9 (refused_text (n + 1) c) text 0 text' q → WritesFew 9 (outcome_text n o) text 0 text' q
  refused_put c e w = subst (λ (x : Outcome). WritesFew 9 (outcome_text n x) text 0 text' q) (sym e) w

-- what is written from the front of a buffer on stands there
module _ (s text text' : List ℕ) (q : ℕ) (w : Writes s text 0 text' q) where
  from_front : 0 + length s ≡ length s
  from_front = omega arith

  pub stands : take q text' ≡ s
  unfolding put
  stands = let k : q ≡ length s = w.after ∙ from_front in simp (w.bytes, k) (take-append_seam s (drop (0 + length s) text))

  pub stands-within : q ≤ length text'
  unfolding put
  stands-within = let k : q ≡ length s = w.after ∙ from_front in simp (w.bytes, k, length-append) (omega arith)

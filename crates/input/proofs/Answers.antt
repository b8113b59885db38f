-- What an answer with bytes counts, and what lies within a buffer.
use Rattle.std.specs.Prelude.{◌≡◌, ℕ, ◌≤◌, List, length, Ok}
use mathlib.Core.Path.{sym, subst}
use lib.Seq.{length-take-le}
use Rattle.input.specs.Counts.{IsPrefixLen}
use Rattle.input.specs.Filled.{Filled, Fills}

pub counted : (a : Filled) (n : ℕ) (xs : List ℕ) → a ≡ Ok n → Fills a xs → IsPrefixLen n xs
counted a n xs e f = subst (λ (x : Filled). Fills x xs) e f

pub counts-within : (n : ℕ) (xs : List ℕ) → n ≤ length xs → IsPrefixLen n xs
counts-within n xs h = (h, sym (length-take-le n xs h))

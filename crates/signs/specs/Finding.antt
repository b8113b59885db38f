-- What the readers of signs answer, and what the answers mean.
use Rattle.std.specs.Prelude.{ℕ, zero, suc, ◌<◌, ◌≤◌, ◌≡◌, List, length, drop, true, false, Option, Some, None}
use Rattle.std.proofs.Math.Option.{Option as Maybe, none, some}
use Rattle.lists.specs.Lists.{has?, past}
use Rattle.signs.specs.Signs.{Got, read, outside, skip, sign}
use Rattle.signs.specs.declared.Word.{Word}
use Rattle.signs.specs.declared.Run.{Run}

-- a sign looked for at a place: found, and the place behind it
abbrev pub SignSays : List ℕ → ℕ → Maybe (List ℕ) → Option ℕ → Type 0
SignSays text at (some s) (Some p) = (s ≡ drop p text) × (at < p) × (p ≤ length text)
SignSays text at none None = Unit {0}
SignSays text at (some s) None = ⊥
SignSays text at none (Some p) = ⊥

pub record FindsSign (text : List ℕ) (at : ℕ) (o : Maybe (List ℕ)) (r : Option ℕ) : Type 0 where
  pub says : SignSays text at o r

-- a name or a label read at a place
abbrev pub WordSays : List ℕ → ℕ → Got ℕ → Option Word → Type 0
WordSays text at (read n s) (Some w) = (w.value ≡ n) × (s ≡ drop w.at text) × (at < w.at) × (w.at ≤ length text)
WordSays text at outside None = Unit {0}
WordSays text at (read n s) None = ⊥
WordSays text at outside (Some w) = ⊥

pub record ReadsWord (text : List ℕ) (at : ℕ) (g : Got ℕ) (r : Option Word) : Type 0 where
  pub says : WordSays text at g r

-- the place of the next sign
pub record Behind (text : List ℕ) (at p : ℕ) : Type 0 where
  pub answer : skip (drop at text) ≡ drop p text
  pub ahead : at ≤ p
  pub inside : p ≤ length text

-- the place behind the first quote
abbrev pub FindsQuote : List ℕ → ℕ → Option ℕ → Type 0
FindsQuote text at (Some p) = (has? 39 (drop at text) ≡ true) × (past 39 (drop at text) ≡ drop p text) × (at < p) × (p ≤ length text)
FindsQuote text at None = has? 39 (drop at text) ≡ false

-- the sign with the bytes w, c times from one place to another
abbrev pub Repeated : List ℕ → List ℕ → ℕ → ℕ → ℕ → Type 0
Repeated text w at zero p = at ≡ p
Repeated text w at (suc c) p = (q : ℕ) × Repeated text w at c q × (sign w (drop q text) ≡ some (drop p text)) × (q < p) × (p ≤ length text)

pub record Marked (text w : List ℕ) (at c p : ℕ) : Type 0 where
  pub marks : Repeated text w at c p

-- a sign as often as it follows, but at most so many times
pub record Runs (text w : List ℕ) (at most : ℕ) (r : Run) : Type 0 where
  pub marked : Marked text w at r.count r.at
  pub ended : r.count < most → sign w (drop r.at text) ≡ none
  pub few : r.count ≤ most

-- What reading into a buffer answers: how many bytes stand at its start, or why a read failed, and then nothing that may be used.
use Rattle.std.specs.Prelude.{ℕ, min, List, Result, Ok, Err}
use Rattle.std.specs.declared.io.Error.{Error}
use Rattle.input.specs.Counts.{IsPrefixLen}

abbrev pub Filled : Type 0
Filled = Result ℕ Error

-- the answer counts bytes of the buffer
abbrev pub Fills : Filled → List ℕ → Type 0
Fills (Ok n) xs = IsPrefixLen n xs
Fills (Err e) xs = Unit {0}

-- what one read into n bytes brought: no more than there is room for, or why it failed
abbrev pub brought : Filled → ℕ → Filled
brought (Ok k) n = Ok (min k n)
brought (Err e) n = Err e

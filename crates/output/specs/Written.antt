-- What a call leaves that writes to the front of a buffer.
use Rattle.std.specs.Prelude.{ℕ, List, ◌++◌, drop}
use Rattle.output.specs.declared.Written.{Written}
use Rattle.output.specs.declared.Written.TheVariants.{Length, Refused}

-- the bytes and the rest as it was; untouched where refused
abbrev pub left_by : Written → List ℕ → List ℕ → List ℕ
left_by (Length n) bytes before = bytes ++ drop n before
left_by (Refused c) bytes before = before

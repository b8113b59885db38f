use Rattle.atoms.proofs.Levels.{Looked}
use Rattle.atoms.proofs.names.level.Given as goal

-- The last name that agrees is the innermost.
abbrev pub invariant-loop-i : goal.invariant-loop-i
invariant-loop-i l = Looked l.names l.x l.found l.i

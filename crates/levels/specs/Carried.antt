-- The levels that the code carries.
use Rattle.std.specs.Prelude.{get_or}
use Rattle.levels.specs.Levels.{Levels}
use Rattle.levels.specs.declared.VarLevels.{VarLevels}

abbrev pub levels_of : VarLevels → Levels
levels_of x v = get_or x.of v 0

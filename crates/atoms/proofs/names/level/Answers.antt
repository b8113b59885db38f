use Rattle.atoms.proofs.Levels.{level_here, level_other, level_end}
use mathlib.Core.Path.{refl}
use Rattle.atoms.proofs.names.level.Goals as goal
use Rattle.atoms.proofs.names.level.Goals.{then-name-x, else-name-x}

pub loop-i-init : goal.loop-i-init
loop-i-init c = refl

pub loop-i-preserved : goal.loop-i-preserved
loop-i-preserved c = elim c.if-name-x.branch [ then-name-x w ↦ search level_here | else-name-x w ↦ search level_other ]

pub returns : goal.returns
returns c = search level_end

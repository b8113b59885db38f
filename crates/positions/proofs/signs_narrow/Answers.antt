-- Each sign is that of its two positions.
use Rattle.positions.proofs.signs_narrow.Goals as goal

pub returns : goal.returns
returns c = cc

-- One not after the other.
use Rattle.atoms.proofs.Tables.{nots_none, nots_more, nots_all}
use Rattle.atoms.proofs.nodes.put_nots.Goals as goal

pub loop-i-init : goal.loop-i-init
loop-i-init c = nots_none _ _ _

pub loop-i-preserved : goal.loop-i-preserved
loop-i-preserved c = search nots_more

pub returns : goal.returns
returns c = search nots_all

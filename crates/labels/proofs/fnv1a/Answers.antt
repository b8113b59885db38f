-- The hash of the bytes is the hash of those left, started at the hash so far.
use Rattle.labels.proofs.Hash.{hash_next, hash_end}
use Rattle.labels.proofs.fnv1a.Goals as goal

pub loop-b-preserved : goal.loop-b-preserved
loop-b-preserved c = search hash_next

pub returns : goal.returns
returns c = search hash_end

-- Each part is stored where the one before it ends, so the four together are the bytes of the record.
use Rattle.record_bytes.proofs.Joined.{stored_long}
use Rattle.record_bytes.proofs.Form.{record_stored}
use Rattle.record_bytes.proofs.write.put_record.Goals as goal

pub returns : goal.returns
returns c = record_stored _ _ _ _ _ c.args.r c.put_head.ensures c.put_runs.ensures c.put_labels.ensures c.put_places.ensures

pub shape_of-out : goal.shape_of-out
shape_of-out c = stored_long _ _ _ _ (returns c)

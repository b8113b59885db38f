-- Each field is stored where the one before it ends, so the four together are the bytes of the run.
use Rattle.record_bytes.proofs.Joined.{stored_long}
use Rattle.record_bytes.proofs.Form.{run_stored}
use Rattle.record_bytes.proofs.write.put_run.Goals as goal

pub returns : goal.returns
returns c = run_stored _ _ _ _ _ c.args.r c.put_u16.ensures c.put_u16-2.ensures c.put_u16-3.ensures

pub shape_of-out : goal.shape_of-out
shape_of-out c = stored_long _ _ _ _ (returns c)

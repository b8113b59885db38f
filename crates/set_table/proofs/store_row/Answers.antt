-- Two words are stored, and a row is these two.
use native.Mathlib.Omega.{arith}
use Rattle.set_table.proofs.Turns.{put_stored}
use Rattle.set_table.proofs.store_row.Goals as goal

pub returns : goal.returns
returns c = put_stored _ _ _ (omega arith)

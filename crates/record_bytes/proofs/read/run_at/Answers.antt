-- Each field is what stands at its place.
use Prim.Native.Nat.{◌+◌, ◌*◌}
use Rattle.labels.specs.Label.{label_no}
use Rattle.trace.specs.Trace.{line}
use Rattle.record_bytes.specs.Form.{runs_at, run_size, byte_at, run_from}
use Rattle.record_bytes.proofs.read.run_at.Goals as goal

pub returns : goal.returns
unfolding run_from
returns c = let a = c.args in
    let p = c.u16_at-id.ensures in
    let q = c.u16_at-begin.ensures in
    let s = c.u16_at-end.ensures in
    λ i. record { id = p i; begin = line (q i); end = line (s i); label = label_no (byte_at a.bytes.now (runs_at + run_size * a.i + 6)) }

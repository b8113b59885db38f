-- Each field is what its own reader answers.
use native.Mathlib.Omega.{arith}
use Rattle.trace.specs.Trace.{line}
use Rattle.record_bytes.specs.Form.{byte_at, record_from}
use Rattle.record_bytes.proofs.read.record_from.Goals as goal

pub overflow_cast-runs : goal.overflow_cast-runs
overflow_cast-runs c = omega (arith, c.type_inv.bytes 2)

pub overflow_cast-labels : goal.overflow_cast-labels
overflow_cast-labels c = omega (arith, c.type_inv.bytes 3)

pub returns : goal.returns
unfolding record_from
returns c = let s = c.args.bytes.now in
    λ i.
    record {
      runs = record { list = c.runs_from-list.ensures i; count = byte_at s 2 };
      labels = record { labels = c.labels_from-names.ensures i; places = c.places_from-places.ensures i; count = byte_at s 3 };
      lines = line (c.u16_at-lines.ensures i);
    }

-- "One call is lent a work area and starts a record: it clears these bytes and answers the record of no lines, or refuses with 20."
-- The paper leaves the record free that comes with a refusal: it is the record of no lines too.
use Rattle.std.specs.Prelude.{ℕ, List, cond, ltb, length, Ok, Err}
use Rattle.refusals.specs.declared.Refusal.TheVariants.{ShortBuffer}
use Rattle.trace.specs.Trace.{no_trace}
use Rattle.trace.specs.Record.{record_of}
use Rattle.pairs.specs.declared.Layout.{Layout}
use Rattle.pairs.specs.declared.Started.{Started}
use Rattle.pairs.specs.Layout.{work_size}
use Rattle.pairs.specs.Pairs.{work_of}

-- the answer and the work area, for the work area w; "20 below 8,128 for the small layout"
unfoldable pub start_of : Layout → List ℕ → Started × List ℕ
start_of lay w =
    cond (ltb (length w) (work_size lay)) (record { state = record_of no_trace; outcome = Err ShortBuffer }, w)
    (record { state = record_of no_trace; outcome = Ok tt }, work_of lay no_trace w)

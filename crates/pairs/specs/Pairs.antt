-- Pair bytes: what the work area says of each two runs.
use Rattle.std.specs.Prelude.{ℕ, List, ◌&&◌, cond, ltb, length, get_or, take}
use Rattle.trace.specs.declared.Run.{Run}
use Rattle.trace.specs.declared.Record.{Record}
use Rattle.trace.specs.Trace.{Trace, begin_line, end_line, no_run, open?}
use Rattle.trace.specs.Steps.{held}
use Rattle.pairs.specs.declared.Layout.{Layout}
use Rattle.pairs.specs.Layout.{work_size, place, area_in}

-- "For first and second different, begun in that order, the byte names the set of 000 section 4 that holds the pair":
-- 1 XY, 2 XXY, 3 XYX, 4 XYY, 5 XXYY (before), 6 XYXY (overlaps), 7 XYYX (includes).
-- X stands for a line of the first run and Y for one of the second, in the order of the lines read.
unfoldable pub pair_set : Run → Run → ℕ
pair_set x y =
    cond (open? x) (cond (open? y) 1 4)
    (cond (ltb (end_line x) (begin_line y)) (cond (open? y) 2 5)
    (cond (open? y) 3 (cond (ltb (end_line x) (end_line y)) 6 7)))

-- the byte of runs a and b of a list; "Otherwise it is 0."
unfoldable pub pair_byte : List Run → ℕ → ℕ → ℕ
pair_byte rs a b = cond (ltb a b && ltb b (length rs)) (pair_set (get_or rs a no_run) (get_or rs b no_run)) 0

-- the work area after the lines that t stands for: the pair bytes of its runs in the layout, and then what was there
abbrev pub work_of : Layout → Trace → List ℕ → List ℕ
work_of lay t w = area_in (work_size lay) (place lay) (pair_byte t.runs) w

-- the trace that a record holds: that of `recordOf t` is t
abbrev pub held_trace : Record → Trace
held_trace r = record { runs = held r.runs; labels = take r.labels.count r.labels.labels; lines = r.lines.0 }

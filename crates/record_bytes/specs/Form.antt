-- The bytes of a record, and the record of bytes: two definitions that do not rest on each other.
-- "The carried record has, for each run, id, begin line, end line (0 while open) and label number, also the labels, the 128
-- places and the line count." The counts of runs and labels that it keeps are in its bytes too.
use Rattle.std.specs.Prelude.{ℕ, ◌+◌, ◌*◌, ◌/◌, ◌%◌, cond, List, [], ◌∷◌, ◌++◌, ltb, get_or}
use Rattle.labels.specs.declared.Label.{Label}
use Rattle.labels.specs.declared.LabelNo.{LabelNo}
use Rattle.lists.specs.Limits.{max_runs, max_log_labels}
use Rattle.labels.specs.Label.{max_label_bytes, label_no, absent}
use Rattle.labels.specs.Table.{label_places}
use Rattle.trace.specs.declared.Run.{Run}
use Rattle.trace.specs.declared.Record.{Record}
use Rattle.trace.specs.Trace.{line, no_run}
use Rattle.record_bytes.specs.Joined.{joined, values}

-- ── where the parts stand ──
-- 7 bytes for each of 128 runs, 25 for each of 64 labels, one for each of 128 places
abbrev pub runs_at : ℕ
runs_at = 4

abbrev pub run_size : ℕ
run_size = 7

abbrev pub labels_at : ℕ
labels_at = 900

abbrev pub label_size : ℕ
label_size = 25

abbrev pub places_at : ℕ
places_at = 2500

abbrev pub record_size : ℕ
record_size = 2628

-- ── from a record to its bytes ──
-- a number of 16 bits, low byte first
unfoldable pub u16_bytes : ℕ → List ℕ
u16_bytes n = n % 256 ∷ n / 256 ∷ []

-- A count in one byte. One above 255 is held as 255: it is wrong as well, since there are places for 128 runs and 64 labels.
unfoldable pub count_byte : ℕ → ℕ
count_byte n = cond (ltb n 256) n 255

-- the line count in two bytes, the counts of runs and labels in one each
unfoldable pub head_bytes : ℕ → ℕ → ℕ → List ℕ
head_bytes lines runs labels = u16_bytes lines ++ (count_byte runs ∷ count_byte labels ∷ [])

-- "for each run, id, begin line, end line (0 while open) and label number": 7 bytes
unfoldable pub run_bytes : Run → List ℕ
run_bytes r = u16_bytes r.id ++ (u16_bytes r.begin.0 ++ (u16_bytes r.end.0 ++ (r.label.0 ∷ [])))

-- a label: its length and its 24 bytes
unfoldable pub packed_label : Label → List ℕ
packed_label x = x.length ∷ values max_label_bytes (λ k. get_or x.bytes k 0)

unfoldable pub runs_bytes : List Run → List ℕ
runs_bytes rs = joined max_runs (λ i. run_bytes (get_or rs i no_run))

unfoldable pub labels_bytes : List Label → List ℕ
labels_bytes ls = joined max_log_labels (λ i. packed_label (get_or ls i absent))

-- "the 128 places": a byte each
unfoldable pub places_bytes : List LabelNo → List ℕ
places_bytes ps = values label_places (λ i. (get_or ps i (label_no 0)).0)

unfoldable pub record_bytes : Record → List ℕ
record_bytes r =
    head_bytes r.lines.0 r.runs.count r.labels.count
    ++ (runs_bytes r.runs.list ++ (labels_bytes r.labels.labels ++ places_bytes r.labels.places))

-- ── from bytes to the record ──
abbrev pub byte_at : List ℕ → ℕ → ℕ
byte_at s p = get_or s p 0

abbrev pub u16_at : List ℕ → ℕ → ℕ
u16_at s p = byte_at s p + 256 * byte_at s (p + 1)

-- run i
unfoldable pub run_from : List ℕ → ℕ → Run
run_from s i =
    record {
      id = u16_at s (runs_at + run_size * i);
      begin = line (u16_at s (runs_at + run_size * i + 2));
      end = line (u16_at s (runs_at + run_size * i + 4));
      label = label_no (byte_at s (runs_at + run_size * i + 6));
    }

-- label i
unfoldable pub label_from : List ℕ → ℕ → Label
label_from s i = record { bytes = values max_label_bytes (λ k. byte_at s (labels_at + label_size * i + 1 + k)); length = byte_at s (labels_at + label_size * i) }

unfoldable pub runs_from : List ℕ → List Run
runs_from s = values max_runs (run_from s)

unfoldable pub labels_from : List ℕ → List Label
labels_from s = values max_log_labels (label_from s)

unfoldable pub places_from : List ℕ → List LabelNo
places_from s = values label_places (λ i. label_no (byte_at s (places_at + i)))

unfoldable pub record_from : List ℕ → Record
record_from s =
    record {
      runs = record { list = runs_from s; count = byte_at s 2 };
      labels = record { labels = labels_from s; places = places_from s; count = byte_at s 3 };
      lines = line (u16_at s 0);
    }

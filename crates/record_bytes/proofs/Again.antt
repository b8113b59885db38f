-- The bytes of a record give the record again: each field is read where it is written.
use Prim.Native.Nat.{ℕ, suc, ◌+◌, ◌*◌, ◌/◌, ◌%◌, ◌<◌}
use mathlib.Core.Path.{◌≡◌, refl, ap, ◌∙◌}
use mathlib.Core.List.{List, ◌++◌, append_assoc}
use native.Mathlib.Omega.{arith}
use lib.ListN.{length, get_or}
use lib.Seq.{get_or-append-add}
use borrow.Author.Tests.{lt-ltb, le-ltb}
use Rattle.lists.proofs.Cases.{either_lt}
use Rattle.labels.specs.declared.Label.{Label}
use Rattle.labels.specs.declared.LabelNo.{LabelNo}
use Rattle.labels.specs.Label.{label_no, absent}
use Rattle.trace.specs.declared.Run.{Run}
use Rattle.trace.specs.declared.Record.{Record}
use Rattle.trace.specs.Trace.{line, no_run}
use Rattle.record_bytes.specs.Joined.{values}
use Rattle.record_bytes.specs.Form.{runs_at, run_size, labels_at, label_size, places_at, u16_bytes, count_byte, head_bytes, run_bytes, packed_label, runs_bytes, labels_bytes, places_bytes, record_bytes, byte_at, u16_at, run_from, label_from, runs_from, labels_from, places_from, record_from}
use Rattle.record_bytes.proofs.Joined.{joined_at, values_at, value_at, values_are}
use Rattle.record_bytes.proofs.Form.{head_long, run_long, label_long, runs_long, labels_long}

-- the arrays are full, and the two counts fit a byte
pub record InForm (r : Record) : Type 0 where
  pub runs : length r.runs.list ≡ 128
  pub labels : length r.labels.labels ≡ 64
  pub texts : (i : ℕ) → i < 64 → length (get_or r.labels.labels i absent).bytes ≡ 24
  pub places : length r.labels.places ≡ 128
  pub run_count : r.runs.count < 256
  pub label_count_lem : r.labels.count < 256

-- what stands behind the first part of two
behind : (p q : List ℕ) (n m : ℕ) → m ≡ length p + n → byte_at (p ++ q) m ≡ byte_at q n
behind p q n m e = ap (byte_at (p ++ q)) e ∙ get_or-append-add p q n 0

-- two bytes make the number that they were made of
-- ── counts ──
count_kept : (n : ℕ) → n < 256 → count_byte n ≡ n
unfolding count_byte
count_kept n h = simp (lt-ltb n 256 h)

-- a count that is too high stays too high: more than 128 runs, or more than 64 labels
pub count_stays_high : (most n : ℕ) → most < 255 → most < n → most < count_byte n
unfolding count_byte
count_stays_high most n b h = either_lt n 256 (λ l. simp (lt-ltb n 256 l) h) (λ l. simp (le-ltb n 256 l) b)

two_bytes : (s : List ℕ) (m n : ℕ) → byte_at s m ≡ n % 256 → byte_at s (m + 1) ≡ n / 256 → u16_at s m ≡ n
two_bytes s m n p q = omega arith

module _ (r : Record) (rest : List ℕ) where
  abbrev head : List ℕ
  head = head_bytes r.lines.0 r.runs.count r.labels.count

  abbrev rs : List Run
  rs = r.runs.list

  abbrev ls : List Label
  ls = r.labels.labels

  abbrev ps : List LabelNo
  ps = r.labels.places

  -- the bytes, part by part
  abbrev parts : List ℕ
  parts = head ++ (runs_bytes rs ++ (labels_bytes ls ++ (places_bytes ps ++ rest)))

  in_parts : record_bytes r ++ rest ≡ parts
  unfolding record_bytes
  in_parts = simp append_assoc

  -- ── a byte of each part ──
  behind_head : (n m : ℕ) → m ≡ runs_at + n → byte_at parts m ≡ byte_at (runs_bytes rs ++ (labels_bytes ls ++ (places_bytes ps ++ rest))) n
  behind_head n m e = behind head _ n m (omega (arith, head_long r.lines.0 r.runs.count r.labels.count))

  behind_runs : (n m : ℕ) → m ≡ labels_at + n → byte_at parts m ≡ byte_at (labels_bytes ls ++ (places_bytes ps ++ rest)) n
  behind_runs n m e = behind_head (896 + n) m (omega arith) ∙ behind (runs_bytes rs) _ n (896 + n) (omega (arith, runs_long rs))

  behind_labels : (n m : ℕ) → m ≡ places_at + n → byte_at parts m ≡ byte_at (places_bytes ps ++ rest) n
  behind_labels n m e = behind_runs (1600 + n) m (omega arith) ∙ behind (labels_bytes ls) _ n (1600 + n) (omega (arith, labels_long ls))

  run_byte : (i k m : ℕ) → i < 128 → k < 7 → m ≡ runs_at + run_size * i + k → byte_at parts m ≡ byte_at (run_bytes (get_or rs i no_run)) k
  unfolding runs_bytes
  run_byte i k m h b e =
      behind_head (7 * i + k) m (omega arith)
      ∙ joined_at 7 (λ j. run_bytes (get_or rs j no_run)) (λ j. run_long (get_or rs j no_run)) 0 128 i k (7 * i + k) _ h b refl

  label_byte : (i k m : ℕ) → i < 64 → k < 25 → m ≡ labels_at + label_size * i + k → byte_at parts m ≡ byte_at (packed_label (get_or ls i absent)) k
  unfolding labels_bytes
  label_byte i k m h b e =
      behind_runs (25 * i + k) m (omega arith)
      ∙ joined_at 25 (λ j. packed_label (get_or ls j absent)) (λ j. label_long (get_or ls j absent)) 0 64 i k (25 * i + k) _ h b refl

  place_byte : (i m : ℕ) → i < 128 → m ≡ places_at + i → byte_at parts m ≡ (get_or ps i (label_no 0)).0
  unfolding places_bytes
  place_byte i m h e = behind_labels i m e ∙ values_at (λ j. (get_or ps j (label_no 0)).0) 0 128 i i rest h refl

  -- ── the fields ──
  run_again : (i : ℕ) → i < 128 → run_from parts i ≡ get_or rs i no_run
  unfolding run_from run_bytes u16_bytes
  run_again i h =
      let x : Run = get_or rs i no_run in
      let id : u16_at parts (runs_at + run_size * i) ≡ x.id = two_bytes parts (runs_at + run_size * i) x.id (run_byte i 0 _ h (omega arith) (omega arith)) (run_byte i 1 _ h (omega arith) refl) in
      let begin : u16_at parts (runs_at + run_size * i + 2) ≡ x.begin.0 = two_bytes parts (runs_at + run_size * i + 2) x.begin.0 (run_byte i 2 _ h (omega arith) refl) (run_byte i 3 _ h (omega arith) (omega arith)) in
      let end : u16_at parts (runs_at + run_size * i + 4) ≡ x.end.0 = two_bytes parts (runs_at + run_size * i + 4) x.end.0 (run_byte i 4 _ h (omega arith) refl) (run_byte i 5 _ h (omega arith) (omega arith)) in
      let label : byte_at parts (runs_at + run_size * i + 6) ≡ x.label.0 = run_byte i 6 _ h (omega arith) refl in
      λ j. record { id = id j; begin = line (begin j); end = line (end j); label = label_no (label j) }

  text_again : (i : ℕ) → i < 64 → (k : ℕ) → k < 24 → byte_at parts (labels_at + label_size * i + 1 + k) ≡ get_or (get_or ls i absent).bytes k 0
  unfolding packed_label
  text_again i h k b =
      label_byte i (suc k) _ h (omega arith) (omega arith) ∙ value_at (λ j. get_or (get_or ls i absent).bytes j 0) 0 24 k b

  label_again : (i : ℕ) → i < 64 → length (get_or ls i absent).bytes ≡ 24 → label_from parts i ≡ get_or ls i absent
  unfolding label_from packed_label
  label_again i h long =
      let x : Label = get_or ls i absent in
      let text : values 24 (λ k. byte_at parts (labels_at + label_size * i + 1 + k)) ≡ x.bytes = values_are _ 0 24 x.bytes long (text_again i h) in
      let size : byte_at parts (labels_at + label_size * i) ≡ x.length = label_byte i 0 _ h (omega arith) (omega arith) in
      λ j. record { bytes = text j; length = size j }

  -- ── the whole ──
  module _ (f : InForm r) where
    runs_again : runs_from parts ≡ rs
    unfolding runs_from
    runs_again = values_are (run_from parts) no_run 128 rs f.runs run_again

    labels_again : labels_from parts ≡ ls
    unfolding labels_from
    labels_again = values_are (label_from parts) absent 64 ls f.labels (λ i h. label_again i h (f.texts i h))

    places_again : places_from parts ≡ ps
    unfolding places_from
    places_again = values_are (λ i. label_no (byte_at parts (places_at + i))) (label_no 0) 128 ps f.places (λ i h. ap label_no (place_byte i (places_at + i) h refl))

    pub record_again : record_from (record_bytes r ++ rest) ≡ r
    unfolding record_from head_bytes u16_bytes
    record_again =
        let lines : u16_at parts 0 ≡ r.lines.0 = two_bytes parts 0 r.lines.0 refl refl in
        let runs : byte_at parts 2 ≡ r.runs.count = count_kept r.runs.count (omega (arith, f.run_count)) in
        let labels : byte_at parts 3 ≡ r.labels.count = count_kept r.labels.count (omega (arith, f.label_count_lem)) in
        ap record_from in_parts
        ∙ (λ j.
        record {
          runs = record { list = runs_again j; count = runs j };
          labels = record { labels = labels_again j; places = places_again j; count = labels j };
          lines = line (lines j);
        })

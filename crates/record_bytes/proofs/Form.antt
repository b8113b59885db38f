-- How long the parts of a record's bytes are, and that parts stored one after another are the whole.
use Prim.Native.Nat.{ℕ, ◌+◌}
use mathlib.Core.Path.{◌≡◌, refl, ◌∙◌}
use mathlib.Core.List.{List, [], ◌∷◌, ◌++◌}
use native.Mathlib.Omega.{arith}
use lib.ListN.{length, get_or, set, length-append}
use Rattle.labels.specs.declared.Label.{Label}
use Rattle.labels.specs.declared.LabelNo.{LabelNo}
use Rattle.labels.specs.Label.{label_no, absent}
use Rattle.trace.specs.declared.Run.{Run}
use Rattle.trace.specs.declared.Record.{Record}
use Rattle.trace.specs.Trace.{no_run}
use Rattle.record_bytes.specs.Joined.{stored}
use Rattle.record_bytes.specs.Form.{runs_at, labels_at, places_at, record_size, u16_bytes, count_byte, head_bytes, run_bytes, packed_label, runs_bytes, labels_bytes, places_bytes, record_bytes}
use Rattle.record_bytes.proofs.Joined.{length-joined, length_values, stored_after, stored_one, stored_first}

pub u16_long : (n : ℕ) → length (u16_bytes n) ≡ 2
unfolding u16_bytes
u16_long n = refl

pub head_long : (n a b : ℕ) → length (head_bytes n a b) ≡ 4
unfolding head_bytes u16_bytes
head_long n a b = refl

pub run_long : (r : Run) → length (run_bytes r) ≡ 7
unfolding run_bytes u16_bytes
run_long r = refl

pub label_long : (x : Label) → length (packed_label x) ≡ 25
unfolding packed_label
label_long x = omega (arith, length_values (λ k. get_or x.bytes k 0) 24)

pub runs_long : (rs : List Run) → length (runs_bytes rs) ≡ 896
unfolding runs_bytes
runs_long rs = length-joined 7 (λ i. run_bytes (get_or rs i no_run)) (λ i. run_long (get_or rs i no_run)) 128

pub labels_long : (ls : List Label) → length (labels_bytes ls) ≡ 1600
unfolding labels_bytes
labels_long ls = length-joined 25 (λ i. packed_label (get_or ls i absent)) (λ i. label_long (get_or ls i absent)) 64

pub places_long : (ps : List LabelNo) → length (places_bytes ps) ≡ 128
unfolding places_bytes
places_long ps = length_values (λ i. (get_or ps i (label_no 0)).0) 128

pub record_long : (r : Record) → length (record_bytes r) ≡ record_size
unfolding record_bytes
record_long r = simp (length-append, head_long, runs_long, labels_long, places_long)

-- ── the whole, stored part after part ──
-- a run's four fields
pub run_stored : (w a b c : List ℕ) (p : ℕ) (r : Run) → a ≡ stored w p (u16_bytes r.id) → b ≡ stored a (p + 2) (u16_bytes r.begin.0) → c ≡ stored b (p + 4) (u16_bytes r.end.0)
    → set c (p + 6) r.label.0 ≡ stored w p (run_bytes r)
unfolding run_bytes
run_stored w a b c p r e f g =
    let d : List ℕ = set c (p + 6) r.label.0 in
    let i : List ℕ = u16_bytes r.id in
    let j : List ℕ = u16_bytes r.begin.0 in
    let k : List ℕ = u16_bytes r.end.0 in
    let l : List ℕ = r.label.0 ∷ [] in
    stored_after w a d p (p + 2) i (j ++ (k ++ l)) e
    (stored_after a b d (p + 2) (p + 4) j (k ++ l) f
    (stored_after b c d (p + 4) (p + 6) k l g (stored_one c (p + 6) r.label.0) (omega (arith, u16_long r.end.0)))
    (omega (arith, u16_long r.begin.0)))
    (omega (arith, u16_long r.id))

-- the three counts
pub head_stored : (w a : List ℕ) (n x y u v : ℕ) → a ≡ stored w 0 (u16_bytes n) → u ≡ count_byte x → v ≡ count_byte y → set (set a 2 u) 3 v ≡ stored w 0 (head_bytes n x y)
unfolding head_bytes
head_stored w a n x y u v e f g =
    let b : List ℕ = set a 2 u in
    let h : set b 3 v ≡ stored w 0 (u16_bytes n ++ (u ∷ v ∷ [])) =
    stored_after w a (set b 3 v) 0 2 (u16_bytes n) (u ∷ v ∷ []) e (stored_first a (set b 3 v) 2 3 u (v ∷ []) (stored_one b 3 v) refl) (omega (arith, u16_long n)) in
    h ∙ (λ i. stored w 0 (u16_bytes n ++ (f i ∷ g i ∷ [])))

-- a record's four parts
pub record_stored : (w a b c d : List ℕ) (r : Record) → a ≡ stored w 0 (head_bytes r.lines.0 r.runs.count r.labels.count) → b ≡ stored a runs_at (runs_bytes r.runs.list)
    → c ≡ stored b labels_at (labels_bytes r.labels.labels) → d ≡ stored c places_at (places_bytes r.labels.places) → d ≡ stored w 0 (record_bytes r)
unfolding record_bytes
record_stored w a b c d r e f g h =
    let i : List ℕ = head_bytes r.lines.0 r.runs.count r.labels.count in
    let j : List ℕ = runs_bytes r.runs.list in
    let k : List ℕ = labels_bytes r.labels.labels in
    let l : List ℕ = places_bytes r.labels.places in
    stored_after w a d 0 runs_at i (j ++ (k ++ l)) e
    (stored_after a b d runs_at labels_at j (k ++ l) f
    (stored_after b c d labels_at places_at k l g h (omega (arith, labels_long r.labels.labels)))
    (omega (arith, runs_long r.runs.list)))
    (omega (arith, head_long r.lines.0 r.runs.count r.labels.count))

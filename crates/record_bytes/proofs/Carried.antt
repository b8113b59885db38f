-- A record that accepted lines leave is in the form: its arrays are full, its labels have 24 bytes, and its counts fit a byte.
-- So it is the same after it was packed and unpacked: the law of the crate (`packed_and_unpacked`).
use Prim.Native.Nat.{ℕ, ◌+◌, ◌-◌, ◌<◌, ◌≤◌}
use mathlib.Core.Path.{◌≡◌, refl, ap, sym, ◌∙◌, subst}
use mathlib.Core.Bool.{true}
use mathlib.Core.List.{List, [], ◌∷◌, ◌++◌}
use native.Mathlib.Omega.{arith}
use lib.Dec.{leb}
use lib.ListN.{length, get_or, replicate, length-append, length-replicate, get_or-replicate, get_or-append}
use lib.Seq.{get_or_at, get_or-append-add}
use borrow.Author.Tests.{leb-true}
use Rattle.lists.specs.Lists.{pad, all?}
use Rattle.lists.proofs.Cases.{either_eq, either_lt, and_left}
use Rattle.labels.specs.declared.Label.{Label}
use Rattle.labels.specs.Label.{letter?, label_of, no_label, absent}
use Rattle.labels.specs.Table.{index_of, with_label}
use Rattle.labels.proofs.Table.{places_long, with_none, with_few, with_new}
use Rattle.labels.proofs.Form.{label?}
use Rattle.lines.specs.Event.{Event}
use Rattle.lines.specs.Line.{event_of}
use Rattle.lines.proofs.Event.{Fine, event_fine}
use Rattle.trace.specs.declared.Record.{Record}
use Rattle.trace.specs.Trace.{Trace, next, no_run, begin, end, apply, Accepted}
use Rattle.trace.specs.Record.{record_of, Valid, Bounded}
use Rattle.trace.proofs.Taken.{event_taken, line_event}
use Rattle.trace.proofs.Bounds.{accepted-bounded}
use Rattle.trace.proofs.Induction.{accepted-keeps}
use Rattle.record_bytes.specs.Form.{record_bytes, record_from}
use Rattle.record_bytes.proofs.Again.{InForm, record_again}

length-pad : {A : Type 0} (d : A) (n : ℕ) (xs : List A) → length xs ≤ n → length (pad d n xs) ≡ n
unfolding pad
length-pad d n xs h = omega (arith, length-append xs (replicate (n - length xs) d), length-replicate (n - length xs) d)

-- ── the labels of an accepted log ──
abbrev Full : Label → Type 0
Full x = length x.bytes ≡ 24

abbrev AllFull : List Label → Type 0
AllFull ls = (k : ℕ) → k < length ls → Full (get_or ls k absent)

-- a label that a line names has 24 bytes, zeros among them
label_full : (l : List ℕ) → label? l ≡ true → Full (label_of l)
unfolding label? label_of
label_full l e = length-pad 0 24 l (leb-true (length l) 24 (and_left (leb (length l) 24) (all? letter? l) e))

more_full : (ls : List Label) (x : Label) → AllFull ls → Full x → AllFull (ls ++ (x ∷ []))
more_full ls x f p k h =
    either_lt k (length ls)
    (λ old. rw (get_or-append ls (x ∷ []) absent k old) (f k old))
    (λ new. rw (get_or_at ls x [] absent k (omega (arith, length-append ls (x ∷ [])))) p)

with_full : (ls : List Label) (x : Label) → AllFull ls → Full x → AllFull (with_label ls x)
with_full ls x f p =
    either_eq x.length 0
    (λ e. subst AllFull (sym (with_none ls x e)) f)
    (λ n. either_lt (index_of ls x) (length ls)
    (λ h. subst AllFull (sym (with_few ls x h n)) f)
    (λ h. subst AllFull (sym (with_new ls x h n)) (more_full ls x f p)))

full_step : (t u : Trace) (e : Event) → Fine e → AllFull t.labels → apply t e ≡ next u → AllFull u.labels
unfolding begin end
full_step t u e g f q =
    event_taken (λ v. Fine v → AllFull u.labels) t u
    (λ i l b fine. subst (λ (v : Trace). AllFull v.labels) (sym b.is) (with_full t.labels (label_of l) f (label_full l fine.2)))
    (λ i b fine. subst (λ (v : Trace). AllFull v.labels) (sym b.is) f)
    e q g

accepted_full : (log : List ℕ) (t : Trace) → Accepted log t → AllFull t.labels
accepted_full log t a =
    accepted-keeps (λ _ t. AllFull t.labels) (λ l ls t u f e. full_step t u (event_of l) (event_fine l) f (line_event t u l e)) log t a (λ k h. absurd (omega arith))

-- the array of labels, filled up with missing ones
pad_full : (ls : List Label) → AllFull ls → (i : ℕ) → i < 64 → Full (get_or (pad no_label 64 ls) i absent)
unfolding pad
pad_full ls f i h =
    either_lt i (length ls)
    (λ old. rw (get_or-append ls (replicate (64 - length ls) no_label) absent i old) (f i old))
    (λ new.
    let k : ℕ = i - length ls in
    let e : i ≡ length ls + k = omega arith in
    let is : get_or (ls ++ replicate (64 - length ls) no_label) i absent ≡ no_label =
    ap (λ (j : ℕ). get_or (ls ++ replicate (64 - length ls) no_label) j absent) e
    ∙ (get_or-append-add ls (replicate (64 - length ls) no_label) k absent ∙ get_or-replicate (64 - length ls) k no_label absent (omega arith)) in
    rw is refl)

-- ── the record ──
accepted_in_form : (log : List ℕ) (t : Trace) → Accepted log t → InForm (record_of t)
unfolding record_of
accepted_in_form log t a =
    let b : Bounded t = accepted-bounded log t a in
    record {
      runs = length-pad no_run 128 t.runs b.runs;
      labels = length-pad no_label 64 t.labels b.labels;
      texts = pad_full t.labels (accepted_full log t a);
      places = places_long t.labels;
      run_count = omega (arith, b.runs);
      label_count_lem = omega (arith, b.labels);
    }

pub valid_in_form : (r : Record) → Valid r → InForm r
valid_in_form r v = subst InForm (sym v.encoded) (accepted_in_form v.log v.trace v.accepted)

-- THE LAW: a record that accepted lines leave is what its bytes hold, whatever follows them.
pub packed_and_unpacked : (r : Record) → Valid r → (rest : List ℕ) → record_from (record_bytes r ++ rest) ≡ r
packed_and_unpacked r v rest = record_again r rest (valid_in_form r v)

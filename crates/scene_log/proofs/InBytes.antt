-- The ways out of the calls on a record in bytes. What is packed after a taken line is a record that accepted lines leave, so the
-- next call reads it back whole.
use Prim.Native.Nat.{ℕ, ◌*◌, ◌<◌, ◌≤◌}
use mathlib.Core.Path.{◌≡◌, refl, ap, sym, subst, ◌∙◌}
use mathlib.Core.List.{List, [], ◌++◌}
use native.Mathlib.Omega.{arith}
use lib.ListN.{length, drop}
use borrow.Author.Tests.{lt-ltb, le-ltb, ne_eqb}
use Rattle.lists.proofs.Cases.{either_lt}
use Rattle.std.specs.Prelude.{Result, Ok, Err}
use Rattle.refusals.specs.Refusal.{number}
use Rattle.refusals.specs.declared.Refusal.{Refusal}
use Rattle.refusals.specs.declared.Refusal.TheVariants.{ShortBuffer, NoFinishedRun}
use Rattle.trace.specs.declared.Record.{Record}
use Rattle.trace.specs.Trace.{Trace, no_trace, run_no, Accepted}
use Rattle.trace.specs.Record.{record_of, Valid}
use Rattle.trace.proofs.Grown.{no_bytes}
use Rattle.trace.proofs.Bounds.{accepted-bounded}
use Rattle.pairs.specs.declared.Layout.{Layout}
use Rattle.pairs.specs.Layout.{work_size}
use Rattle.pairs.specs.declared.Started.{Started}
use Rattle.pairs.specs.Pairs.{work_of}
use Rattle.pairs.specs.Start.{start_of}
use Rattle.relations.specs.Runs.{relate_in, Relating}
use Rattle.relations.proofs.Runs.{not_finished, answers}
use Rattle.logic.specs.declared.Verdict.{Verdict}
use Rattle.single.specs.declared.Outcome.{Outcome}
use Rattle.single.specs.declared.Checked.{Checked}
use Rattle.reading.specs.Left.{Left}
use Rattle.reading.specs.declared.Ending.{Ending}
use Rattle.reading.specs.declared.LogRead.{LogRead}
use Rattle.tallies.specs.declared.Tally.{Tally}
use Rattle.tallies.specs.declared.Tallied.{Tallied}
use Rattle.tallies.specs.Tally.{ChecksTallied}
use Rattle.whole_log.specs.declared.Mode.{Mode}
use Rattle.whole_log.specs.Log.{log_of, ChecksLog}
use Rattle.whole_log.specs.Part.{read_part, ChecksPart}
use Rattle.single.specs.Line.{judged, ChecksLine}
use Rattle.whole_log.proofs.Repeated.{left_by_lem}
use Rattle.record_bytes.specs.declared.Unpacked.{Unpacked}
use Rattle.record_bytes.specs.Form.{record_size, record_from}
use Rattle.record_bytes.specs.Calls.{unpack_of, Unpacks, Packs}
use Rattle.record_bytes.proofs.Carried.{packed_and_unpacked}
use Rattle.answer_numbers.specs.Numbers.{answer_number, mode_named, NamesMode}
use Rattle.answer_numbers.specs.InBytes.{as_byte, record_in, bytes_after, line_numbered, tally_from, tally_in, numbers_after, tallied_numbered, bytes_left, log_kept}
use Rattle.answer_numbers.proofs.Numbered.{Packed, packed, byte_above, byte_same}
use Rattle.scene_log.specs.InBytes.{start_numbered, StartsNumber, ChecksBytes, ChecksLineNumber, ChecksTalliedBytes, ChecksTalliedNumber, KeepsLog, KeepsLogNumber, NumbersRuns, RelatesBytes, RelatesNumber}

-- ── a buffer that is long enough ──
pub unpacked : (b : List ℕ) (u : Unpacked) → record_size ≤ length b → Unpacks b u → u.state ≡ record_from b
unfolding unpack_of
unpacked b u h k = ap (λ (z : Unpacked). z.state) k.answer ∙ simp (le-ltb _ _ h)

-- the record and the work area that the lines of a log leave, the record in bytes
left_in_bytes : (lay : Layout) (log : List ℕ) (t : Trace) → Accepted log t → (r : Record) → r ≡ record_of t → (b b' w w' : List ℕ)
    → b' ≡ record_in r b → w' ≡ work_of lay t w → Left lay log t (record_from b') w'
left_in_bytes lay log t a r e b b' w w' p q =
    let v : Valid r = record { log = log; trace = t; accepted = a; encoded = e } in
    record {
      accepted = a;
      encoded = ap record_from p ∙ (packed_and_unpacked r v (drop record_size b) ∙ e);
      pairs = subst (λ (x : List ℕ). x ≡ work_of lay t x) (sym q) (left_by_lem lay log t a w).pairs;
    }

-- ── the start of a record ──
module _ (lay : Layout) (b w : List ℕ) where
  pub start_no_record : length b < record_size → StartsNumber lay b w (20 * 65536) b w
  unfolding start_numbered
  start_no_record h = record { answer = simp (lt-ltb _ _ h); meaning = λ e. absurd (omega arith) }

  module _ (long : record_size ≤ length b) (s : Started) (w' : List ℕ) (e : ◌≡◌ {A = Started × List ℕ} (s, w') (start_of lay w)) where
    abbrev is : (a : Started) (v : List ℕ) → Type 0
    is a v = (s.outcome ≡ a.outcome) × (s.state ≡ a.state) × (w' ≡ v)

    parts : (a : Started) (v : List ℕ) → start_of lay w ≡ (a, v) → is a v
    parts a v q =
        let p = e ∙ q in (
          ap (λ (z : Started × List ℕ). z.0.outcome) p,
          ap (λ (z : Started × List ℕ). z.0.state) p,
          ap (λ (z : Started × List ℕ). z.1) p,
        )

    short : length w < work_size lay → is (record { state = record_of no_trace; outcome = Err ShortBuffer }) w
    unfolding start_of
    short h = parts _ w (simp (lt-ltb _ _ h))

    ready : work_size lay ≤ length w → is (record { state = record_of no_trace; outcome = Ok tt }) (work_of lay no_trace w)
    unfolding start_of
    ready h = parts _ (work_of lay no_trace w) (simp (le-ltb _ _ h))

    pub start_no_work : (n : Refusal) → s.outcome ≡ Err n → (k : ℕ) → k ≡ number n * 65536 → StartsNumber lay b w k b w'
    unfolding start_numbered
    start_no_work n q k e =
        either_lt (length w) (work_size lay)
        (λ h.
        let p = short h in
        let m : n ≡ ShortBuffer = cc in
        let z : k ≡ 20 * 65536 = e ∙ ap (λ (x : Refusal). number x * 65536) m in
        record { answer = simp (le-ltb _ _ long, lt-ltb _ _ h) (λ j. (z j, b, p.2 j)); meaning = λ y. absurd (omega arith) })
        (λ h. let p = ready h in cc)

    pub start_both : s.outcome ≡ Ok tt → (p : Packed) (b' : List ℕ) → Packs s.state b p b' → StartsNumber lay b w 0 b' w'
    unfolding start_numbered
    start_both q p b' k =
        either_lt (length w) (work_size lay)
        (λ h. let m = short h in cc)
        (λ h.
        let m = ready h in
        let put : b' ≡ record_in s.state b = packed s.state b p b' long k in
        record {
          answer = simp (le-ltb _ _ long, le-ltb _ _ h) (λ j. (0, (put ∙ ap (λ (r : Record). record_in r b) m.1) j, m.2 j));
          meaning = λ _. left_in_bytes lay [] no_trace no_bytes s.state m.1 b b' w w' put m.2;
        })

-- ── one line ──
-- the bytes of a line that is taken hold its record
taken_bytes : (o : Outcome) (v : Verdict) (r : Record) (b : List ℕ) → o ≡ judged v → bytes_after o r b ≡ record_in r b
taken_bytes o Verdict.Holds r b e = ap (λ (x : Outcome). bytes_after x r b) e
taken_bytes o Verdict.Fails r b e = ap (λ (x : Outcome). bytes_after x r b) e

module _ (lay : Layout) (file b w line : List ℕ) where
  pub line_no_record : length b < record_size → ChecksLineNumber lay file b w line (20 * 65536) b w
  line_no_record h = record { short = λ _. refl; long = λ g. absurd (omega arith) }

  checks_bytes : (c : Checked) (n : ℕ) (b' w' : List ℕ) → ChecksLine lay file (record_from b) w line c w'
      → ◌≡◌ {A = ℕ × List ℕ} (n, b') (line_numbered c b) → ChecksBytes lay file b w line n b' w'
  checks_bytes c n b' w' k e =
      record {
        checked = c;
        checks = k;
        answer = e;
        goes_on = λ x q log t l v j.
            let taken = (k.meaning x q log t l).taken v j in
            let put : b' ≡ record_in c.state b = ap (λ (z : ℕ × List ℕ). z.1) e ∙ taken_bytes c.outcome v c.state b j in (
              taken.trace,
              left_in_bytes lay (log ++ line) taken.trace taken.accepted c.state taken.state b b' w w' put taken.pairs,
            );
      }

  pub line_checked : record_size ≤ length b → (u : Unpacked) → Unpacks b u → (c : Checked) (w' : List ℕ) → ChecksLine lay file u.state w line c w'
      → (n : ℕ) (b' : List ℕ) → ◌≡◌ {A = ℕ × List ℕ} (n, b') (line_numbered c b) → ChecksLineNumber lay file b w line n b' w'
  line_checked h u p c w' k n b' e =
      let same : ChecksLine lay file (record_from b) w line c w' = subst (λ (r : Record). ChecksLine lay file r w line c w') (unpacked b u h p) k in
      record { short = λ g. absurd (omega arith); long = λ _. checks_bytes c n b' w' same e }

-- ── one line with a tally ──
-- the numbers of a line that is taken are its tally
taken-numbers : (o : Outcome) (v : Verdict) (y : Tally) (s : List ℕ) → o ≡ judged v → numbers_after o y s ≡ tally_in y s
taken-numbers o Verdict.Holds y s e = ap (λ (x : Outcome). numbers_after x y s) e
taken-numbers o Verdict.Fails y s e = ap (λ (x : Outcome). numbers_after x y s) e

module _ (lay : Layout) (file b s w line : List ℕ) where
  pub tallied_no_record : length b < record_size → ChecksTalliedNumber lay file b s w line (20 * 65536) b s w
  tallied_no_record h = record { short_record = λ _. refl; short_tally = λ _. refl; long = λ g _. absurd (omega arith) }

  pub tallied_no_tally : length s < 5 → ChecksTalliedNumber lay file b s w line (20 * 65536) b s w
  tallied_no_tally h = record { short_record = λ _. refl; short_tally = λ _. refl; long = λ _ g. absurd (omega arith) }

  tallied_bytes : (c : Tallied) (n : ℕ) (b' s' w' : List ℕ) → ChecksTallied lay file (record_from b) (tally_from s) w line c w'
      → ◌≡◌ {A = ℕ × List ℕ × List ℕ} (n, b', s') (tallied_numbered c b s) → ChecksTalliedBytes lay file b s w line n b' s' w'
  tallied_bytes c n b' s' w' k e =
      record {
        checked = c;
        checks = k;
        answer = e;
        goes_on = λ x q log t l same v j.
            let taken = (k.meaning x q log t l same).single.taken v j in
            let put : b' ≡ record_in c.state b = ap (λ (z : ℕ × List ℕ × List ℕ). z.1) e ∙ taken_bytes c.outcome v c.state b j in (
              taken.trace,
              left_in_bytes lay (log ++ line) taken.trace taken.accepted c.state taken.state b b' w w' put taken.pairs,
            );
        counts_on = λ v j. ap tally_from (ap (λ (z : ℕ × List ℕ × List ℕ). z.2) e ∙ taken-numbers c.outcome v c.tally s j);
      }

  pub tallied-checked : record_size ≤ length b → 5 ≤ length s → (u : Unpacked) → Unpacks b u → (y : Tally) → y ≡ tally_from s → (c : Tallied) (w' : List ℕ)
      → ChecksTallied lay file u.state y w line c w' → (n : ℕ) (b' s' : List ℕ) → ◌≡◌ {A = ℕ × List ℕ × List ℕ} (n, b', s') (tallied_numbered c b s)
      → ChecksTalliedNumber lay file b s w line n b' s' w'
  tallied-checked h g u p y q c w' k n b' s' e =
      let same : ChecksTallied lay file (record_from b) (tally_from s) w line c w' =
      subst (λ (z : Record × Tally). ChecksTallied lay file z.0 z.1 w line c w') (λ i. (unpacked b u h p i, q i)) k in
      record {
        short_record = λ f. absurd (omega arith);
        short_tally = λ f. absurd (omega arith);
        long = λ _ _. tallied_bytes c n b' s' w' same e;
      }

-- ── a whole log ──
-- the bytes of a log that is read to its end, or to a line
read_bytes : (a : LogRead) (b : List ℕ) → a.ending ≡ Ending.Read → bytes_left a.ending a.state b ≡ record_in a.state b
read_bytes a b e = ap (λ (x : Ending). bytes_left x a.state b) e

stopped_bytes : (a : LogRead) (b : List ℕ) (c l : ℕ) → a.ending ≡ Ending.Refused c l → (l ≡ 0 → ⊥) → bytes_left a.ending a.state b ≡ record_in a.state b
stopped_bytes a b c l e h = ap (λ (x : Ending). bytes_left x a.state b) e ∙ simp (ne_eqb _ _ h)

module _ (lay : Layout) (file log b w out : List ℕ) where
  pub log_no_record : length b < record_size → KeepsLogNumber lay file log b w out (20 * 65536) b w out
  log_no_record h = record { short = λ _. refl; long = λ g. absurd (omega arith) }

  keeps : (n : ℕ) (b' w' out' : List ℕ) → ChecksLog lay file log w out (log_of lay file log w out).0 w' out'
      → ◌≡◌ {A = ℕ × List ℕ} (n, b') (log_kept (log_of lay file log w out).0 b) → KeepsLog lay file log b w out n b' w' out'
  keeps n b' w' out' k e =
      let a = (log_of lay file log w out).0 in
      let put : b' ≡ bytes_left a.ending a.state b = ap (λ (z : ℕ × List ℕ). z.1) e in
      record {
        answer = λ i. ((e i).0, (e i).1, (k.answer i).1, (k.answer i).2);
        meaning = k;
        whole = λ x q long room j.
            let taken = (k.meaning x q long room).whole j in (
              taken.trace,
              left_in_bytes lay log taken.trace taken.accepted a.state taken.state b b' w w' (put ∙ read_bytes a b j) taken.pairs,
            );
        stops = λ x q long room c l j.
            let taken = (k.meaning x q long room).stops c l j in (
              taken,
              left_in_bytes lay taken.first.before taken.first.trace taken.first.accepted a.state taken.state b b' w w'
                  (put ∙ stopped_bytes a b c l j (λ z. omega (arith, taken.first.number))) taken.pairs,
            );
      }

  log_kept_lem : record_size ≤ length b → (a : LogRead) (w' out' : List ℕ) → ChecksLog lay file log w out a w' out'
      → (n : ℕ) (b' : List ℕ) → ◌≡◌ {A = ℕ × List ℕ} (n, b') (log_kept a b) → KeepsLogNumber lay file log b w out n b' w' out'
  log_kept_lem h a w' out' k n b' e =
      let same : a ≡ (log_of lay file log w out).0 = ap (λ (z : LogRead × List ℕ × List ℕ). z.0) k.answer in
      record {
        short = λ g. absurd (omega arith);
        long = λ _.
            keeps n b' w' out' (subst (λ (z : LogRead). ChecksLog lay file log w out z w' out') same k) (e ∙ ap (λ (z : LogRead). log_kept z b) same);
      }

-- in the mode that a number names
pub part_kept : (lay : Layout) (m : ℕ) (how : Mode) → NamesMode m how → (file log b w out : List ℕ) → record_size ≤ length b → (a : LogRead) (w' out' : List ℕ)
    → ChecksPart lay how file log w out a w' out' → (n : ℕ) (b' : List ℕ) → ◌≡◌ {A = ℕ × List ℕ} (n, b') (log_kept a b)
    → KeepsLogNumber lay file (read_part (mode_named m) file log) b w out n b' w' out'
part_kept lay m how q file log b w out h a w' out' k n b' e =
    subst (λ (z : Mode). KeepsLogNumber lay file (read_part z file log) b w out n b' w' out') q.answer
    (log_kept_lem lay file (read_part how file log) b w out h a w' out' k.checks n b' e)

-- ── two runs ──
-- no run has a number above 127, so the numbers above 255 are as good as 255
module _ (t : Trace) (few : length t.runs ≤ 128) (x y : ℕ) where
  first_is_none : (a b : ℕ) → 128 ≤ a → Err NoFinishedRun ≡ relate_in t a b
  first_is_none a b h = not_finished t a b (λ f. omega (arith, f.0.begun))

  second_is_none : (a b : ℕ) → 128 ≤ b → Err NoFinishedRun ≡ relate_in t a b
  second_is_none a b h = not_finished t a b (λ f. omega (arith, f.1.begun))

  runs_as_bytes : relate_in t (as_byte x) (as_byte y) ≡ relate_in t x y
  runs_as_bytes =
      either_lt 255 x
      (λ h. sym (first_is_none (as_byte x) (as_byte y) (omega (arith, byte_above x h))) ∙ first_is_none x y (omega arith))
      (λ h. either_lt 255 y
      (λ g. sym (second_is_none (as_byte x) (as_byte y) (omega (arith, byte_above y g))) ∙ second_is_none x y (omega arith))
      (λ g. sym (λ i. relate_in t (byte_same x h i) (byte_same y g i))))

module _ (b : List ℕ) (x y : ℕ) where
  pub relate_no_record : length b < record_size → RelatesNumber b x y (20 * 65536)
  relate_no_record h = record { short = λ _. refl; long = λ g. absurd (omega arith) }

  numbers_runs : (log : List ℕ) (t : Trace) → Accepted log t → (w : Result ℕ Refusal) → w ≡ relate_in t (as_byte x) (as_byte y)
      → (n : ℕ) → n ≡ answer_number w → NumbersRuns t x y n
  numbers_runs log t a w e n q =
      record {
        answer = q ∙ ap answer_number (e ∙ runs_as_bytes t (accepted-bounded log t a).runs x y);
        meaning = answers log t a x y (relate_in t x y) refl;
      }

  relates_bytes : (w : Result ℕ Refusal) → Relating (record_from b) (run_no (as_byte x)) (run_no (as_byte y)) w → (n : ℕ) → n ≡ answer_number w → RelatesBytes b x y n
  relates_bytes w k n q =
      record {
        decided = k.decided;
        known = λ log t a e. numbers_runs log t a w (k.known log t a e).answer n q;
        unknown = λ v. q ∙ ap answer_number (k.unknown v);
      }

  pub relate_known : record_size ≤ length b → (u : Unpacked) → Unpacks b u → (x' : ℕ) → x' ≡ as_byte x → (y' : ℕ) → y' ≡ as_byte y
      → (w : Result ℕ Refusal) → Relating u.state (run_no x') (run_no y') w → (n : ℕ) → n ≡ answer_number w → RelatesNumber b x y n
  relate_known h u p x' ex y' ey w k n q =
      let same : Relating (record_from b) (run_no (as_byte x)) (run_no (as_byte y)) w =
      subst (λ (z : Record × ℕ × ℕ). Relating z.0 (run_no z.1) (run_no z.2) w) (λ i. (unpacked b u h p i, ex i, ey i)) k in
      record { short = λ g. absurd (omega arith); long = λ _. relates_bytes w same n q }

pub ruleset starts = (start_no_record, start_no_work, start_both)

pub ruleset with_tally_lem = (tallied_no_record, tallied_no_tally, tallied-checked)

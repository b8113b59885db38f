-- No call changes a byte past those it is stated to write. The bytes of a work area past its pair bytes are those that it had; a verdict
-- buffer is written up to the lines that are taken, and a text buffer up to the end of the text.
use Prim.Native.Nat.{ℕ, ◌+◌, ◌-◌, ◌≤◌}
use mathlib.Core.Path.{◌≡◌, refl, ap, sym, ◌∙◌, subst}
use mathlib.Core.List.{List, ◌++◌}
use mathlib.Core.Option.{some}
use mathlib.Core.Bool.{true, false, ◌||◌}
use native.Mathlib.Omega.{arith}
use lib.Dec.{ltb}
use lib.ListN.{length, get_or, drop, length-append, length-drop}
use lib.Seq.{get_or-append-add, get_or-drop}
use borrow.Author.Tests.{lt-ltb, le-ltb}
use Rattle.lists.specs.Limits.{max_lines}
use Rattle.lists.proofs.Cases.{either_lt, either_bool, no_both}
use Rattle.lines.specs.Log.{lines_of}
use Rattle.trace.specs.declared.Record.{Record}
use Rattle.trace.specs.Trace.{Trace, Answer, next, refused, no_trace, step}
use Rattle.pairs.specs.declared.Layout.{Layout}
use Rattle.pairs.specs.Layout.{work_size, place, area_of}
use Rattle.pairs.specs.Pairs.{pair_byte, work_of}
use Rattle.pairs.specs.Start.{start_of}
use Rattle.pairs.specs.declared.Started.{Started}
use Rattle.pairs.proofs.Area.{length_area}
use Rattle.rules.specs.declared.Rule.{Rule}
use Rattle.std.specs.Prelude.{Result, Ok, Err}
use Rattle.refusals.specs.Refusal.{number}
use Rattle.refusals.specs.declared.Refusal.{Refusal}
use Rattle.rules.specs.Rules.{rule_of}
use Rattle.reading.specs.declared.Ending.{Ending}
use Rattle.reading.specs.Left.{Left}
use Rattle.reading.proofs.Standing.{pairs_long}
use Rattle.single.specs.declared.Checked.{Checked}
use Rattle.single.specs.Line.{refusing, line_after, advance_of, with_rule}
use Rattle.tallies.specs.declared.Tallied.{Tallied}
use Rattle.tallies.specs.Tally.{refusing_with, counts?, tallied_after, tallied_state}
use Rattle.whole_log.specs.Log.{not_read, lines_from, log_of, LogMeans}
use Rattle.whole_log.specs.Repeated.{Result as Read}
use Rattle.whole_log.proofs.LogMeans.{log_means}
use Rattle.report.specs.declared.Reported.{Reported}
use Rattle.report.specs.Text.{report_text}
use Rattle.report.specs.Report.{report_of}
use Rattle.report.specs.Calls.{LineCall, TalliedCall, LogCall, ReportCall, Beyond, Lent, start_work, line_work, tallied_work, log_work, log_verdicts, report_work, report_verdicts, report_text_lem, log_part, report_part}
use Rattle.claims.proofs.Fronts.{handed, every}
use Rattle.claims.proofs.WhereMet.{line_answer_lem, tallied_answer}

-- ── buffers ──
pub same_bytes : (n : ℕ) (w : List ℕ) → Beyond n w w
same_bytes n w = record { length = refl; bytes = λ k h. refl }

-- bytes put at the front of a buffer that has room for them
pub put_bytes : (n : ℕ) (p w : List ℕ) → length p ≡ n → n ≤ length w → Beyond n w (p ++ drop n w)
put_bytes n p w e h =
    record {
      length = omega (arith, length-append p (drop n w), length-drop n w, e, h);
      bytes = λ k l.
          let m : length p + (k - n) ≡ k = omega (arith, e, l) in
          let m' : n + (k - n) ≡ k = omega (arith, l) in
          ap (λ (i : ℕ). get_or (p ++ drop n w) i 0) (sym m) ∙ (get_or-append-add p (drop n w) (k - n) 0 ∙ (get_or-drop n w (k - n) 0 ∙ ap (λ (i : ℕ). get_or w i 0) m'));
    }

work_bytes : (lay : Layout) (t : Trace) (w : List ℕ) → work_size lay ≤ length w → Beyond (work_size lay) w (work_of lay t w)
work_bytes lay t w h =
    put_bytes (work_size lay) (area_of (work_size lay) (place lay) (pair_byte t.runs)) w (length_area (work_size lay) (place lay) (pair_byte t.runs)) h

-- ── one line ──
module _ (lay : Layout) (w : List ℕ) where
  abbrev RestKept : {A : Type 0} → A × List ℕ → Type 0
  RestKept z = Beyond (work_size lay) w z.1

  line_rest : (file : List ℕ) (r : Record) (line : List ℕ) (x : Rule) (log : List ℕ) (t : Trace) → Left lay log t r w → RestKept (advance_of lay file x t w line)
  unfolding line_after
  line_rest file r line x log t l = go (step (next t) line)
    where
      go : (a : Answer) → RestKept (line_after lay file x t w a)
      go (next u) = work_bytes lay u w (pairs_long lay t w w l.pairs)
      go (refused c) = same_bytes (work_size lay) w

  tallied_rest : (k : TalliedCall) (r : Record) (x : Rule) (log : List ℕ) (t : Trace) → Left lay log t r w → RestKept (tallied_state lay k.file x r k.tally w k.line (some t))
  unfolding tallied_state tallied_after
  tallied_rest k r x log t l =
      either_bool (counts? t k.tally)
      (λ b. simp b (go (step (next t) k.line)))
      (λ b. simp b (same_bytes (work_size lay) w))
    where
      go : (a : Answer) → RestKept (tallied_after lay k.file x t k.tally w a)
      go (next u) = work_bytes lay u w (pairs_long lay t w w l.pairs)
      go (refused c) = same_bytes (work_size lay) w

line_bytes : (k : LineCall) → Beyond (work_size k.layout) k.work k.work'
line_bytes k =
    let h = handed k.layout k.file k.state k.work k.checks.decided in
    subst (λ (z : Checked × List ℕ). RestKept k.layout k.work z) (sym (k.checks.answer h.0 h.1 ∙ line_answer_lem k.layout k.file k.state k.work k.line h.0))
    (every k.layout k.file k.state k.work (λ n. (refusing k.state n, k.work)) (λ x t. advance_of k.layout k.file x t k.work k.line) (λ z. RestKept k.layout k.work z)
    (λ n. same_bytes (work_size k.layout) k.work) (λ x log t l. line_rest k.layout k.work k.file k.state k.line x log t l) h.0 h.1)

tallied_bytes : (k : TalliedCall) → Beyond (work_size k.layout) k.work k.work'
tallied_bytes k =
    let h = handed k.layout k.file k.state k.work k.checks.decided in
    subst (λ (z : Tallied × List ℕ). RestKept k.layout k.work z) (sym (k.checks.answer h.0 h.1 ∙ tallied_answer k.layout k.file k.state k.tally k.work k.line h.0))
    (every k.layout k.file k.state k.work (λ n. (refusing_with k.state k.tally n, k.work)) (λ x t. tallied_state k.layout k.file x k.state k.tally k.work k.line (some t)) (λ z. RestKept k.layout k.work z)
    (λ n. same_bytes (work_size k.layout) k.work) (λ x log t l. tallied_rest k.layout k.work k k.state x log t l) h.0 h.1)

-- ── starting a record ──
start_bytes : (lay : Layout) (w : List ℕ) → Beyond (work_size lay) w (start_of lay w).1
unfolding start_of
start_bytes lay w =
    either_lt (length w) (work_size lay)
    (λ s. simp (lt-ltb _ _ s) (same_bytes (work_size lay) w))
    (λ s. simp (le-ltb _ _ s) (work_bytes lay no_trace w s))

-- ── a whole log ──
module _ (lay : Layout) (file log w out : List ℕ) where
  abbrev Whole : Read → Type 0
  Whole z = Beyond (work_size lay) w z.1 × Beyond z.0.state.lines.0 out z.2

  unread_bytes : (n : ℕ) → Whole (not_read n, w, out)
  unread_bytes n = (same_bytes (work_size lay) w, same_bytes _ out)

  short_log : ltb (length w) (work_size lay) || ltb (length out) max_lines ≡ true → log_of lay file log w out ≡ (not_read 20, w, out)
  unfolding log_of
  short_log b = simp b

  unruled_log : (n : Refusal) → rule_of file ≡ Err n → work_size lay ≤ length w → max_lines ≤ length out → log_of lay file log w out ≡ (not_read (number n), w, out)
  unfolding log_of with_rule
  unruled_log n e s v = simp (le-ltb _ _ s, le-ltb _ _ v) (ap (λ (z : Result Rule Refusal). with_rule {A = Read} z (λ m. (not_read m, w, out)) (λ x. lines_from lay file x no_trace (lines_of log) w out)) e)

  module _ (x : Rule) (e : rule_of file ≡ Ok x) (s : work_size lay ≤ length w) (v : max_lines ≤ length out) where
    abbrev means : LogMeans lay file x log w out (log_of lay file log w out).0 (log_of lay file log w out).1 (log_of lay file log w out).2
    means = log_means lay file log w out _ _ _ refl x e s v

    read_work : (g : Ending) → (log_of lay file log w out).0.ending ≡ g → Beyond (work_size lay) w (log_of lay file log w out).1
    read_work Ending.Read q = let k = means.whole q in subst (Beyond (work_size lay) w) (sym k.pairs) (work_bytes lay k.trace w s)
    read_work (Ending.Refused c n) q = let k = means.stops c n q in subst (Beyond (work_size lay) w) (sym k.pairs) (work_bytes lay k.first.trace w s)

    read_bytes : Whole (log_of lay file log w out)
    read_bytes = (read_work (log_of lay file log w out).0.ending refl, record { length = means.size; bytes = means.rest })

  by_rule : (q : Result Rule Refusal) → rule_of file ≡ q → work_size lay ≤ length w → max_lines ≤ length out → Whole (log_of lay file log w out)
  by_rule (Err n) e s v = subst Whole (sym (unruled_log n e s v)) (unread_bytes (number n))
  by_rule (Ok x) e s v = read_bytes x e s v

  pub log_bytes : Whole (log_of lay file log w out)
  log_bytes =
      either_lt (length w) (work_size lay)
      (λ s. subst Whole (sym (short_log (simp (lt-ltb _ _ s)))) (unread_bytes 20))
      (λ s.
      either_lt (length out) max_lines
      (λ v. subst Whole (sym (short_log (simp (le-ltb _ _ s, lt-ltb _ _ v)))) (unread_bytes 20))
      (λ v. by_rule (rule_of file) refl s v))

log_call : (k : LogCall) → Beyond (work_size k.layout) k.work k.work' × Beyond k.answer.state.lines.0 k.verdicts k.verdicts'
log_call k = subst (Whole k.layout k.file (log_part k) k.work k.verdicts) (sym k.checks.checks.answer) (log_bytes k.layout k.file (log_part k) k.work k.verdicts)

-- ── the report ──
module _ (k : ReportCall) where
  abbrev Reporting : Type 0
  Reporting = Reported × List ℕ × List ℕ × List ℕ

  -- all three are as they were, or those of the whole-log call with the text put at the front
  abbrev Kept : Reporting → Type 0
  Kept z =
      Beyond (work_size k.layout) k.work z.1 × Beyond (log_of k.layout k.file (report_part k) k.work k.verdicts).0.state.lines.0 k.verdicts z.2
      × ((n : ℕ) → z.0 ≡ Reported.Length n → n ≤ 2048 → Beyond n k.text z.3)

  same_length : (n m : ℕ) → Reported.Length n ≡ Reported.Length m → n ≡ m
  same_length n m e = cc

  no_length : {C : Type 0} (c n : ℕ) → Reported.Refused c ≡ Reported.Length n → C
  no_length c n e = absurd (let z : ◌≡◌ {A = ℕ} 0 1 = cc in omega arith)

  report_of_lem : Kept (report_of k.layout k.file (report_part k) k.work k.verdicts k.text)
  unfolding report_of
  report_of_lem =
      either_bool (ltb (length k.work) (work_size k.layout) || (ltb (length k.verdicts) max_lines || ltb (length k.text) 2048))
      (λ s. simp s (same_bytes _ _, same_bytes _ _, λ n e h. no_length 20 n e))
      (λ s. let b = log_bytes k.layout k.file (report_part k) k.work k.verdicts in simp s (b.0, b.1, text_of s))
    where
      room : ltb (length k.work) (work_size k.layout) || (ltb (length k.verdicts) max_lines || ltb (length k.text) 2048) ≡ false → 2048 ≤ length k.text
      room s =
          either_lt (length k.text) 2048
          (λ h.
          either_bool (ltb (length k.work) (work_size k.layout))
          (λ a. let f : true ≡ false = simp a at s in no_both f)
          (λ a.
          either_bool (ltb (length k.verdicts) max_lines)
          (λ b. let f : true ≡ false = simp (a, b) at s in no_both f)
          (λ b. let f : true ≡ false = simp (a, b, lt-ltb _ _ h) at s in no_both f)))
          (λ h. h)

      text_of : ltb (length k.work) (work_size k.layout) || (ltb (length k.verdicts) max_lines || ltb (length k.text) 2048) ≡ false
          → (n : ℕ) → Reported.Length (length (report_text k.file (report_part k))) ≡ Reported.Length n → n ≤ 2048
          → Beyond n k.text (report_text k.file (report_part k) ++ drop (length (report_text k.file (report_part k))) k.text)
      text_of s n e h =
          let m : length (report_text k.file (report_part k)) ≡ n = same_length _ n e in
          subst (λ (i : ℕ). Beyond n k.text (report_text k.file (report_part k) ++ drop i k.text)) (sym m)
          (put_bytes n (report_text k.file (report_part k)) k.text m (omega (arith, h, room s)))

  report_call : Kept (k.answer, k.work', k.verdicts', k.text')
  report_call = subst Kept (sym k.reports.reports.answer) report_of_lem

-- ── every lent buffer ──
module _ (w w' : List ℕ) (n : ℕ) where
  -- a buffer named otherwise
  named : (v v' : List ℕ) (m : ℕ) → w ≡ v → w' ≡ v' → n ≡ m → Beyond m v v' → Beyond n w w'
  named v v' m p q e b =
      record {
        length = ap length q ∙ (b.length ∙ ap length (sym p));
        bytes = λ k h. ap (λ (z : List ℕ). get_or z k 0) q ∙ (b.bytes k (omega (arith, e, h)) ∙ ap (λ (z : List ℕ). get_or z k 0) (sym p));
      }

  pub untouched_bytes : Lent w w' n → Beyond n w w'
  untouched_bytes (start_work k p q e) = named k.work k.work' (work_size k.layout) p q e (subst (λ (z : Started × List ℕ). Beyond (work_size k.layout) k.work z.1) (sym k.starts) (start_bytes k.layout k.work))
  untouched_bytes (line_work k p q e) = named k.work k.work' (work_size k.layout) p q e (line_bytes k)
  untouched_bytes (tallied_work k p q e) = named k.work k.work' (work_size k.layout) p q e (tallied_bytes k)
  untouched_bytes (log_work k p q e) = named k.work k.work' (work_size k.layout) p q e (log_call k).0
  untouched_bytes (log_verdicts k p q e) = named k.verdicts k.verdicts' k.answer.state.lines.0 p q e (log_call k).1
  untouched_bytes (report_work k p q e) = named k.work k.work' (work_size k.layout) p q e (report_call k).0
  untouched_bytes (report_verdicts k p q e) = named k.verdicts k.verdicts' _ p q e (report_call k).1
  untouched_bytes (report_text_lem k p q e) = named k.text k.text' n p q refl ((report_call k).2 n e (k.reports.reports.short n e))

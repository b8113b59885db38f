-- The answers of a call do not depend on the layout that it names, and when an area of one layout is right in the other.
use Prim.Native.Nat.{ℕ, ◌+◌, ◌≤◌, ◌<◌}
use mathlib.Core.Path.{◌≡◌, refl, ap, sym, subst, ◌∙◌}
use mathlib.Core.Logic.{◌≢◌, ◌↔◌}
use mathlib.Core.List.{List, [], ◌∷◌}
use mathlib.Core.Option.{Option, none, some}
use native.Mathlib.Omega.{arith}
use lib.ListN.{length, get_or, set}
use borrow.Author.Tests.{lt-ltb, le-ltb}
use Rattle.std.specs.Prelude.{Ok}
use Rattle.lists.specs.Limits.{max_runs, max_lines}
use Rattle.lists.proofs.Cases.{either_bool, either_lt}
use Rattle.lines.specs.Log.{lines_of}
use Rattle.trace.specs.declared.Record.{Record}
use Rattle.trace.specs.Trace.{Trace, Answer, next, refused, no_trace, step}
use Rattle.trace.specs.Record.{record_of}
use Rattle.pairs.specs.declared.Layout.{Layout}
use Rattle.pairs.specs.declared.Started.{Started}
use Rattle.pairs.specs.Layout.{work_size, place}
use Rattle.pairs.specs.Pairs.{work_of}
use Rattle.pairs.specs.Start.{start_of}
use Rattle.pairs.proofs.Places.{places, square_below, half_exact, half_full}
use Rattle.pairs.proofs.Work.{work_pair, work_few, few_work, one_layout}
use Rattle.rules.specs.declared.Rule.{Rule}
use Rattle.std.specs.Prelude.{Result, Ok, Err}
use Rattle.refusals.specs.declared.Refusal.{Refusal}
use Rattle.rules.specs.Rules.{rule_of, formula_of}
use Rattle.logic.specs.Verdict.{verdict_byte, verdict_of}
use Rattle.reading.specs.declared.Ending.TheVariants as Ending
use Rattle.reading.specs.declared.LogRead.{LogRead}
use Rattle.reading.specs.Reading.{by_answer, ended}
use Rattle.reading.specs.Left.{Left, Unknown}
use Rattle.reading.proofs.Standing.{one_record}
use Rattle.single.specs.Handed.{HandedBy}
use Rattle.single.specs.declared.Checked.{Checked}
use Rattle.single.specs.Line.{refusing, line_after, state_of, with_rule, line_of}
use Rattle.tallies.specs.declared.Tally.{Tally}
use Rattle.tallies.specs.declared.Tallied.{Tallied}
use Rattle.tallies.specs.Tally.{counts?, refusing_with, tallied_after, tallied_state, tallied_of}
use Rattle.whole_log.specs.Log.{not_read, lines_from, log_of}
use Rattle.whole_log.specs.Part.{read_part}
use Rattle.whole_log.specs.Repeated.{Result as Whole}
use Rattle.report.specs.Calls.{StartCall, LineCall, TalliedCall, LogCall, ReportCall, LongEnough, log_part, report_part}
use Rattle.report.specs.Report.{report_size, report_of}
use Rattle.report.specs.Report as Report
use Rattle.claims.specs.WhereMet.{Ruled, unknown}
use Rattle.claims.specs.Layouts.{Layouts}
use Rattle.claims.proofs.Refusals.{demand-1}

-- ── starting a record ──
started : (lay : Layout) (w : List ℕ) → work_size lay ≤ length w → (start_of lay w).0 ≡ record { state = record_of no_trace; outcome = Ok tt }
unfolding start_of
started lay w h = simp (le-ltb (length w) (work_size lay) h)

start_same : (j k : StartCall) → work_size j.layout ≤ length j.work → work_size k.layout ≤ length k.work → j.answer ≡ k.answer
start_same j k h i =
    let first : Started × List ℕ → Started = λ z. z.0 in
    ap first j.starts ∙ (started j.layout j.work h ∙ sym (ap first k.starts ∙ started k.layout k.work i))

-- ── one line ──
module _ (lay lay' : Layout) (w w' : List ℕ) (long : work_size lay ≤ length w) (long' : work_size lay' ≤ length w') (file : List ℕ) (r : Record) (line : List ℕ) (h : Option Trace) where
  line_either : (line_of lay file r w line h).0 ≡ (line_of lay' file r w' line h).0
  unfolding line_of with_rule state_of line_after
  line_either = simp (le-ltb (length w) (work_size lay) long, le-ltb (length w') (work_size lay') long') (by_rule (rule_of file))
    where
      by_answer_lem : (x : Rule) (t : Trace) (a : Answer) → (line_after lay file x t w a).0 ≡ (line_after lay' file x t w' a).0
      by_answer_lem x t (next u) = refl
      by_answer_lem x t (refused c) = refl

      by_state : (x : Rule) (h : Option Trace) → (state_of lay file x r w line h).0 ≡ (state_of lay' file x r w' line h).0
      by_state x (some t) = by_answer_lem x t (step (next t) line)
      by_state x none = refl

      by_rule : (q : Result Rule Refusal) → (with_rule q (λ n. (refusing r n, w)) (λ x. state_of lay file x r w line h)).0 ≡ (with_rule q (λ n. (refusing r n, w')) (λ x. state_of lay' file x r w' line h)).0
      by_rule (Ok x) = by_state x h
      by_rule (Err n) = refl

  tallied-either : (y : Tally) → (tallied_of lay file r y w line h).0 ≡ (tallied_of lay' file r y w' line h).0
  unfolding tallied_of with_rule tallied_state tallied_after
  tallied-either y = simp (le-ltb (length w) (work_size lay) long, le-ltb (length w') (work_size lay') long') (by_rule (rule_of file))
    where
      by_answer_lem : (x : Rule) (t : Trace) (a : Answer) → (tallied_after lay file x t y w a).0 ≡ (tallied_after lay' file x t y w' a).0
      by_answer_lem x t (next u) = refl
      by_answer_lem x t (refused c) = refl

      by_state : (x : Rule) (h : Option Trace) → (tallied_state lay file x r y w line h).0 ≡ (tallied_state lay' file x r y w' line h).0
      by_state x (some t) = either_bool (counts? t y) (λ e. simp e (by_answer_lem x t (step (next t) line))) (λ e. simp e)
      by_state x none = refl

      by_rule : (q : Result Rule Refusal) → (with_rule q (λ n. (refusing_with r y n, w)) (λ x. tallied_state lay file x r y w line h)).0
          ≡ (with_rule q (λ n. (refusing_with r y n, w')) (λ x. tallied_state lay' file x r y w' line h)).0
      by_rule (Ok x) = by_state x h
      by_rule (Err n) = refl

line_same : (j k : LineCall) → j.file ≡ k.file → j.state ≡ k.state → j.line ≡ k.line → work_size j.layout ≤ length j.work → work_size k.layout ≤ length k.work
    → (h : Option Trace) → HandedBy j.layout j.state j.work h → HandedBy k.layout k.state k.work h → j.answer ≡ k.answer
line_same j k f s l long long' h a b =
    let first : Checked × List ℕ → Checked = λ z. z.0 in
    ap first (j.checks.answer h (λ _. a))
    ∙ ((λ i. (line_of j.layout (f i) (s i) j.work (l i) h).0)
    ∙ (line_either j.layout k.layout j.work k.work long long' k.file k.state k.line h
    ∙ sym (ap first (k.checks.answer h (λ _. b)))))

tallied_same : (j k : TalliedCall) → j.file ≡ k.file → j.state ≡ k.state → j.tally ≡ k.tally → j.line ≡ k.line → work_size j.layout ≤ length j.work → work_size k.layout ≤ length k.work
    → (h : Option Trace) → HandedBy j.layout j.state j.work h → HandedBy k.layout k.state k.work h → j.answer ≡ k.answer
tallied_same j k f s y l long long' h a b =
    let first : Tallied × List ℕ → Tallied = λ z. z.0 in
    ap first (j.checks.answer h (λ _. a))
    ∙ ((λ i. (tallied_of j.layout (f i) (s i) (y i) j.work (l i) h).0)
    ∙ (tallied-either j.layout k.layout j.work k.work long long' k.file k.state k.line h k.tally
    ∙ sym (ap first (k.checks.answer h (λ _. b)))))

-- ── a whole log ──
-- what is left without the work area
abbrev answered : Whole → LogRead × List ℕ
answered z = (z.0, z.2)

module _ (lay lay' : Layout) (w w' file : List ℕ) where
  lines_either : (x : Rule) (ls : List (List ℕ)) (t : Trace) (out : List ℕ) → answered (lines_from lay file x t ls w out) ≡ answered (lines_from lay' file x t ls w' out)
  unfolding lines_from by_answer
  lines_either x [] t out = refl
  lines_either x (l ∷ ls) t out = go (λ u o. lines_either x ls u o) (step (next t) l)
    where
      go : ((u : Trace) (o : List ℕ) → answered (lines_from lay file x u ls w o) ≡ answered (lines_from lay' file x u ls w' o)) → (a : Answer)
          → answered (by_answer a (λ u. lines_from lay file x u ls w (set out t.lines (verdict_byte (verdict_of u (formula_of file x))))) (λ c. (ended t (Ending.Refused c (t.lines + 1)), work_of lay t w, out)))
          ≡ answered (by_answer a (λ u. lines_from lay' file x u ls w' (set out t.lines (verdict_byte (verdict_of u (formula_of file x))))) (λ c. (ended t (Ending.Refused c (t.lines + 1)), work_of lay' t w', out)))
      go h (next u) = h u (set out t.lines (verdict_byte (verdict_of u (formula_of file x))))
      go h (refused c) = refl

  log_either : (log out : List ℕ) → work_size lay ≤ length w → work_size lay' ≤ length w' → answered (log_of lay file log w out) ≡ answered (log_of lay' file log w' out)
  unfolding log_of with_rule
  log_either log out long long' =
      either_lt (length out) max_lines
      (λ h. simp (le-ltb (length w) (work_size lay) long, le-ltb (length w') (work_size lay') long', lt-ltb (length out) max_lines h))
      (λ h. simp (le-ltb (length w) (work_size lay) long, le-ltb (length w') (work_size lay') long', le-ltb (length out) max_lines h) (by_rule (rule_of file)))
    where
      by_rule : (q : Result Rule Refusal) → answered (with_rule q (λ n. (not_read n, w, out)) (λ x. lines_from lay file x no_trace (lines_of log) w out))
          ≡ answered (with_rule q (λ n. (not_read n, w', out)) (λ x. lines_from lay' file x no_trace (lines_of log) w' out))
      by_rule (Ok x) = lines_either x (lines_of log) no_trace out
      by_rule (Err n) = refl

log_same : (j k : LogCall) → j.mode ≡ k.mode → j.file ≡ k.file → j.log ≡ k.log → j.verdicts ≡ k.verdicts → work_size j.layout ≤ length j.work → work_size k.layout ≤ length k.work
    → (j.answer ≡ k.answer) × (j.verdicts' ≡ k.verdicts')
log_same j k m f l o h i =
    let e : ◌≡◌ {A = LogRead × List ℕ} (j.answer, j.verdicts') (k.answer, k.verdicts') =
    ap answered j.checks.checks.answer
    ∙ ((λ z. answered (log_of j.layout (f z) (read_part (m z) (f z) (l z)) j.work (o z)))
    ∙ (log_either j.layout k.layout j.work k.work k.file (log_part k) k.verdicts h i ∙ sym (ap answered k.checks.checks.answer))) in
    (ap (λ (z : LogRead × List ℕ). z.0) e, ap (λ (z : LogRead × List ℕ). z.1) e)

-- ── a report ──
abbrev Printed : Type 0
Printed = Report.Result

report-either : (lay lay' : Layout) (w w' file log out text : List ℕ) → work_size lay ≤ length w → work_size lay' ≤ length w' → max_lines ≤ length out → report_size ≤ length text
    → ((report_of lay file log w out text).0 ≡ (report_of lay' file log w' out text).0) × ((report_of lay file log w out text).2 ≡ (report_of lay' file log w' out text).2)
    × ((report_of lay file log w out text).3 ≡ (report_of lay' file log w' out text).3)
unfolding report_of
report-either lay lay' w w' file log out text h i room big =
    simp (le-ltb (length w) (work_size lay) h, le-ltb (length w') (work_size lay') i, le-ltb (length out) max_lines room, le-ltb (length text) report_size big)
    (refl, ap (λ (z : LogRead × List ℕ). z.1) (log_either lay lay' w w' file log out h i), refl)

report_same : (j k : ReportCall) → j.mode ≡ k.mode → j.file ≡ k.file → j.log ≡ k.log → j.verdicts ≡ k.verdicts → j.text ≡ k.text → LongEnough j → LongEnough k
    → (j.answer ≡ k.answer) × (j.verdicts' ≡ k.verdicts') × (j.text' ≡ k.text')
report_same j k m f l o x a b =
    let g : (z : Printed) (i : Printed) → z ≡ i → (z.0 ≡ i.0) × (z.2 ≡ i.2) × (z.3 ≡ i.3) = λ z i e. (ap (λ (y : Printed). y.0) e, ap (λ (y : Printed). y.2) e, ap (λ (y : Printed). y.3) e) in
    let p = g _ _ (j.reports.reports.answer ∙ (λ i. report_of j.layout (f i) (read_part (m i) (f i) (l i)) j.work (o i) (x i))) in
    let q = g _ _ k.reports.reports.answer in
    let s = report-either j.layout k.layout j.work k.work k.file (report_part k) k.verdicts k.text a.work b.work b.verdicts b.text in
    (p.0 ∙ (s.0 ∙ sym q.0), p.1 ∙ (s.1 ∙ sym q.1), p.2 ∙ (s.2 ∙ sym q.2))

-- ── the bytes ──
noted_same : (lay lay' : Layout) (log : List ℕ) (t : Trace) (r : Record) (w w' : List ℕ) → Left lay log t r w → Left lay' log t r w' → (a b : ℕ) → a < b → b < max_runs
    → get_or w (place lay a b) 0 ≡ get_or w' (place lay' a b) 0
noted_same lay lay' log t r w w' l m a b h k = work_pair lay t w w l.pairs a b h k ∙ sym (work_pair lay' t w' w' m.pairs a b h k)

other_layout : (lay lay' : Layout) → lay ≢ lay' → (log : List ℕ) (t : Trace) (r : Record) (w : List ℕ) → Left lay log t r w → work_size lay' ≤ length w
    → Left lay' log t r w ↔ ((length t.runs < 2) × ((k : ℕ) → k < work_size lay' → get_or w k 0 ≡ 0))
other_layout lay lay' n log t r w l h = (
  (λ m. let few = one_layout lay lay' n t w l.pairs m.pairs in (few, work_few lay' t w w m.pairs few)),
  (λ z. record { accepted = l.accepted; encoded = l.encoded; pairs = few_work lay' t w h z.0 z.1 }),
)

-- no lines leave, in one layout, what those of an accepted log with two runs leave in the other
not_left : (lay lay' : Layout) → lay ≢ lay' → (log : List ℕ) (t : Trace) (r : Record) (w : List ℕ) → Left lay log t r w → 2 ≤ length t.runs → Unknown lay' r w
not_left lay lay' n log t r w l two log' u m =
    let e : u ≡ t = one_record r log' log u t m.accepted m.encoded l.accepted l.encoded in
    let few = one_layout lay lay' n t w l.pairs (subst (λ (x : Trace). w ≡ work_of lay' x w) e m.pairs) in
    omega arith

line_other : (k : LineCall) (lay : Layout) → lay ≢ k.layout → (log : List ℕ) (t : Trace) → Left lay log t k.state k.work → work_size k.layout ≤ length k.work → Ruled k.file
    → 2 ≤ length t.runs → k.answer ≡ refusing k.state 21
line_other k lay n log t l long ruled two =
    let d = demand-1.line k 21 in
    (d.changes_nothing (d.just_where.1 (unknown long ruled (not_left lay k.layout n log t k.state k.work l two) refl))).0

tallied_other : (k : TalliedCall) (lay : Layout) → lay ≢ k.layout → (log : List ℕ) (t : Trace) → Left lay log t k.state k.work → work_size k.layout ≤ length k.work → Ruled k.file
    → 2 ≤ length t.runs → k.answer ≡ refusing_with k.state k.tally 21
tallied_other k lay n log t l long ruled two =
    let d = demand-1.tallied k 21 in
    (d.changes_nothing (d.just_where.1 (unknown long ruled (not_left lay k.layout n log t k.state k.work l two) refl))).0

pub the_layouts : Layouts
the_layouts =
    record {
      stands = record {
        square_size = refl;
        square = λ x y. refl;
        square_below = square_below;
        half_size = refl;
        half = half_exact;
        half_full = half_full;
        places = places;
        noted = noted_same;
      };
      same = record { start = start_same; line = line_same; tallied = tallied_same; log = log_same; report = report_same };
      other = record { right = other_layout; line = line_other; tallied = tallied_other };
    }

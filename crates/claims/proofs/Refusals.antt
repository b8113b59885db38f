-- Demand 1: each refusal is on the list and keeps what earlier lines had settled, and no call writes past what it is stated to write.
use Prim.Native.Nat.{ℕ, ◌≤◌}
use mathlib.Core.Path.{◌≡◌, refl, ap, sym, ◌∙◌, subst}
use mathlib.Core.Logic.{◌↔◌}
use mathlib.Core.List.{List}
use mathlib.Core.Option.{Option, none, some}
use mathlib.Core.Bool.{false, ◌||◌}
use native.Mathlib.Omega.{arith}
use lib.Dec.{ltb}
use lib.ListN.{length}
use borrow.Author.Tests.{lt-ltb, le-ltb}
use Rattle.lists.proofs.Cases.{either_lt, either_bool}
use Rattle.refusals.specs.Refusal.{number, RefusedWith}
use Rattle.lines.specs.Line.{parsed_of}
use Rattle.lines.specs.Log.{lines_of, place_after, Next}
use Rattle.lines.proofs.Event.{event_refusal}
use Rattle.trace.specs.declared.Record.{Record}
use Rattle.trace.specs.Trace.{Trace, Answer, next, refused, no_trace, step}
use Rattle.trace.specs.Record.{record_of}
use Rattle.pairs.specs.declared.Layout.{Layout}
use Rattle.pairs.specs.Layout.{work_size}
use Rattle.pairs.specs.Pairs.{work_of}
use Rattle.rules.specs.declared.Rule.{Rule}
use Rattle.std.specs.Prelude.{Result, Ok, Err}
use Rattle.refusals.specs.Refusal.{number}
use Rattle.refusals.specs.Refusal.{RefusedWith}
use Rattle.refusals.specs.declared.Refusal.{Refusal}
use Rattle.rules.specs.Rules.{rule_of, formula_of, ReadsRule}
use Rattle.rules.proofs.Rules.{reads_rule}
use Rattle.grammar.specs.MetBytes.{MetBytes}
use Rattle.grammar.specs.MetRule.{MetRule}
use Rattle.grammar.proofs.BytesMet.{faulty-number}
use Rattle.grammar.proofs.RuleMet.{rule_met}
use Rattle.logic.specs.Verdict.{verdict_of}
use Rattle.single.specs.declared.Outcome.TheVariants.{Refused}
use Rattle.single.specs.declared.Checked.{Checked}
use Rattle.tallies.specs.declared.Tally.{Tally}
use Rattle.tallies.specs.declared.Tallied.{Tallied}
use Rattle.reading.specs.declared.LogRead.{LogRead}
use Rattle.reading.specs.declared.Ending.TheVariants as Ending
use Rattle.single.specs.Handed.{HandedBy, Reached}
use Rattle.single.specs.Line.{refusing, line_after, advance_of, state_of, with_rule, line_of}
use Rattle.tallies.specs.Tally.{refusing_with, counts?, tallied_after, tallied_state, tallied_of}
use Rattle.reading.specs.Reading.{ended}
use Rattle.whole_log.specs.Log.{not_read, lines_from, log_of, LineAt}
use Rattle.report.specs.Calls.{LineCall, TalliedCall, LogCall, log_part, report_part}
use Rattle.claims.specs.WhereMet.{MetRelate, relate-unknown, relate-unfinished, relate_same}
use Rattle.claims.specs.Demand1.{Listed, Refuses, LogKept, unread, stopped, Demand1}
use Rattle.accepted_logs.proofs.Numbers.{line_number}
use Rattle.claims.proofs.Stops.{same_refusal, not_judged, End, same_ending, Stopped, stops, start_of, start_lines, first_refused}
use Rattle.claims.proofs.Fronts.{handed}
use Rattle.claims.proofs.WhereMet.{line_met, tallied_met, log_met}
use Rattle.claims.proofs.OtherCalls.{start_met, start_kept, report_met, report_kept, relate_met, compose_met, converse_met, next_met, parse_met}
use Rattle.claims.proofs.Untouched.{untouched_bytes}

-- ── numbers ──
pub rule_range : (file : List ℕ) (e : Refusal) → rule_of file ≡ Err e → (1 ≤ number e) × (number e ≤ 10)
rule_range file n e = (reads_rule file (Err n) (sym e)).refused n refl

pub rule_number : (file : List ℕ) (e : Refusal) → rule_of file ≡ Err e → Listed (number e)
rule_number file n e = let r = rule_range file n e in omega arith

pub met_number : (file : List ℕ) (c : ℕ) → MetRule file c → Listed c
met_number file c m = let w = (rule_met file c).1 m in subst Listed w.1.1 (rule_number file w.0 w.1.0)

-- ── one line ──
module _ (lay : Layout) (r : Record) (w : List ℕ) where
  -- an answer that is refused is on the list and hands all back
  abbrev LineKept : Checked × List ℕ → Type 0
  LineKept a = (c : ℕ) → a.0.outcome ≡ Refused c → Listed c × (a ≡ (refusing r c, w))

  kept_refusal : (n : ℕ) → Listed n → LineKept (refusing r n, w)
  kept_refusal n l c e = let f = same_refusal c n e in (omega (arith, l), (λ i. (refusing r (f i), w)))

  kept_line : (file : List ℕ) (x : Rule) (t : Trace) (line : List ℕ) → r ≡ record_of t → LineKept (advance_of lay file x t w line)
  unfolding line_after
  kept_line file x t line s = go (step (next t) line) refl
    where
      go : (a : Answer) → step (next t) line ≡ a → LineKept (line_after lay file x t w a)
      go (next u) q c e = not_judged (verdict_of u (formula_of file x)) c e
      go (refused d) q c e =
          let f = same_refusal c (number d) e in
          let l = line_number t line d q in
          (omega arith, (λ i. (refusing (sym s i) (f i), w)))

  kept_state : (file : List ℕ) (x : Rule) (line : List ℕ) (k : Option Trace) → HandedBy lay r w k → LineKept (state_of lay file x r w line k)
  unfolding state_of
  kept_state file x line none h = kept_refusal 21 (omega arith)
  kept_state file x line (some t) h = kept_line file x t line h.1.encoded

line_kept : (lay : Layout) (file : List ℕ) (r : Record) (w line : List ℕ) (k : Option Trace) → (Reached lay file w → HandedBy lay r w k) → LineKept lay r w (line_of lay file r w line k)
unfolding line_of with_rule
line_kept lay file r w line k h =
    either_lt (length w) (work_size lay)
    (λ s. simp (lt-ltb _ _ s) (kept_refusal lay r w 20 (omega arith)))
    (λ s. simp (le-ltb _ _ s) (go (rule_of file) refl s))
  where
    go : (q : Result Rule Refusal) → rule_of file ≡ q → work_size lay ≤ length w → LineKept lay r w (with_rule q (λ n. (refusing r n, w)) (λ x. state_of lay file x r w line k))
    go (Err n) q s = kept_refusal lay r w (number n) (rule_number file n q)
    go (Ok x) q s = kept_state lay r w file x line k (h (record { long = s; rule = x; taken = q }))

-- ── one line with a tally ──
module _ (lay : Layout) (r : Record) (y : Tally) (w : List ℕ) where
  abbrev TallyKept : Tallied × List ℕ → Type 0
  TallyKept a = (c : ℕ) → a.0.outcome ≡ Refused c → Listed c × (a ≡ (refusing_with r y c, w))

  tally_refusal : (n : ℕ) → Listed n → TallyKept (refusing_with r y n, w)
  tally_refusal n l c e = let f = same_refusal c n e in (omega (arith, l), (λ i. (refusing_with r y (f i), w)))

  tally_line : (file : List ℕ) (x : Rule) (t : Trace) (line : List ℕ) → r ≡ record_of t → TallyKept (tallied_after lay file x t y w (step (next t) line))
  unfolding tallied_after
  tally_line file x t line s = go (step (next t) line) refl
    where
      go : (a : Answer) → step (next t) line ≡ a → TallyKept (tallied_after lay file x t y w a)
      go (next u) q c e = not_judged (verdict_of u (formula_of file x)) c e
      go (refused d) q c e =
          let f = same_refusal c (number d) e in
          let l = line_number t line d q in
          (omega arith, (λ i. (refusing_with (sym s i) y (f i), w)))

  tally_state : (file : List ℕ) (x : Rule) (line : List ℕ) (k : Option Trace) → HandedBy lay r w k → TallyKept (tallied_state lay file x r y w line k)
  unfolding tallied_state
  tally_state file x line none h = tally_refusal 21 (omega arith)
  tally_state file x line (some t) h =
      either_bool (counts? t y)
      (λ e. simp e (tally_line file x t line h.1.encoded))
      (λ e. simp e (λ c q. let f = same_refusal c 24 q in (omega arith, (λ i. (refusing_with (sym h.1.encoded i) y (f i), w)))))

tallied_kept : (lay : Layout) (file : List ℕ) (r : Record) (y : Tally) (w line : List ℕ) (k : Option Trace) → (Reached lay file w → HandedBy lay r w k) → TallyKept lay r y w (tallied_of lay file r y w line k)
unfolding tallied_of with_rule
tallied_kept lay file r y w line k h =
    either_lt (length w) (work_size lay)
    (λ s. simp (lt-ltb _ _ s) (tally_refusal lay r y w 20 (omega arith)))
    (λ s. simp (le-ltb _ _ s) (go (rule_of file) refl s))
  where
    go : (q : Result Rule Refusal) → rule_of file ≡ q → work_size lay ≤ length w → TallyKept lay r y w (with_rule q (λ n. (refusing_with r y n, w)) (λ x. tallied_state lay file x r y w line k))
    go (Err n) q s = tally_refusal lay r y w (number n) (rule_number file n q)
    go (Ok x) q s = tally_state lay r y w file x line k (h (record { long = s; rule = x; taken = q }))

-- ── a whole log ──
-- before any line is read, or at the first line that is refused
data LogRefused (lay : Layout) (file log w out : List ℕ) (c n : ℕ) (a : LogRead) (w' out' : List ℕ) : Type 0 where
  untouched : n ≡ 0 → a ≡ not_read c → w' ≡ w → out' ≡ out → LogRefused lay file log w out c n a w' out'
  at_line : (f : LineAt log n) → a ≡ ended f.trace (Ending.Refused c n)
      → log_of lay file f.before w out ≡ (ended f.trace Ending.Read, w', out')
      → LogRefused lay file log w out c n a w' out'

abbrev KeptLog : (lay : Layout) → List ℕ → List ℕ → List ℕ → List ℕ → ℕ → ℕ → Type 0
KeptLog lay file log w out c n = Listed c × LogRefused lay file log w out c n (log_of lay file log w out).0 (log_of lay file log w out).1 (log_of lay file log w out).2

log_of_kept : (lay : Layout) (file log w out : List ℕ) (c n : ℕ) → (log_of lay file log w out).0.ending ≡ Ending.Refused c n → KeptLog lay file log w out c n
unfolding log_of with_rule first_refused
log_of_kept lay file log w out c n e =
    either_bool (ltb (length w) (work_size lay) || ltb (length out) 256)
    (λ s. not_touched 20 (omega arith) (simp s))
    (λ s. go (rule_of file) refl s)
  where
    not_touched : (m : ℕ) → Listed m → log_of lay file log w out ≡ (not_read m, w, out) → KeptLog lay file log w out c n
    not_touched m l q =
        let p = same_ending c m n 0 (sym (ap (λ (z : End). z.0.ending) q) ∙ e) in
        (omega (arith, l, p.0), untouched (sym p.1) (ap (λ (z : End). z.0) q ∙ ap not_read p.0) (ap (λ (z : End). z.1) q) (ap (λ (z : End). z.2) q))

    -- the rule is taken and the buffers are long enough: the lines are read
    read_first : (l : List ℕ) (x : Rule) → rule_of file ≡ Ok x → ltb (length w) (work_size lay) || ltb (length out) 256 ≡ false
        → log_of lay file l w out ≡ lines_from lay file x no_trace (lines_of l) w out
    read_first l x r s = simp s (ap (λ (z : Result Rule Refusal). with_rule {A = End} z (λ n. (not_read n, w, out)) (λ x. lines_from lay file x no_trace (lines_of l) w out)) r)

    go : (q : Result Rule Refusal) → rule_of file ≡ q → ltb (length w) (work_size lay) || ltb (length out) 256 ≡ false → KeptLog lay file log w out c n
    go (Err m) r s =
        not_touched (number m) (rule_number file m r)
        (simp s (ap (λ (z : Result Rule Refusal). with_rule {A = End} z (λ n. (not_read n, w, out)) (λ x. lines_from lay file x no_trace (lines_of log) w out)) r))
    go (Ok x) r s =
        let q = read_first log x r s in
        let g : Stopped lay file x w no_trace (lines_of log) out c n = stops lay file x w (lines_of log) no_trace out c n (sym (ap (λ (z : End). z.0.ending) q) ∙ e) in
        let b : List ℕ = start_of lay file x w (lines_of log) out c n g in
        let k : log_of lay file b w out ≡ (ended g.trace Ending.Read, work_of lay g.trace w, g.out') =
        read_first b x r s ∙ (ap (λ (z : List (List ℕ)). lines_from lay file x no_trace z w out) (start_lines lay file x w (lines_of log) out c n g) ∙ g.kept) in
        let z = q ∙ g.answer in
        let l = line_number g.trace g.line g.why.0 g.why.1.0 in (
          omega (arith, g.why.1.1),
          at_line (first_refused lay file x w log out c n g) (ap (λ (y : End). y.0) z)
              (k ∙ (λ i. (ended g.trace Ending.Read, sym (ap (λ (y : End). y.1) z) i, sym (ap (λ (y : End). y.2) z) i))),
        )

-- ── what the contracts say ──
module _ (k : LineCall) (c : ℕ) where
  line_by : k.answer.outcome ≡ Refused c → Listed c × (k.answer ≡ refusing k.state c) × (k.work' ≡ k.work)
  line_by e =
      let h = handed k.layout k.file k.state k.work k.checks.decided in
      let z : LineKept k.layout k.state k.work (k.answer, k.work') = subst (LineKept k.layout k.state k.work) (sym (k.checks.answer h.0 h.1)) (line_kept k.layout k.file k.state k.work k.line h.0 h.1) in
      let y = z c e in
      (y.0, ap (λ (z : Checked × List ℕ). z.0) y.1, ap (λ (z : Checked × List ℕ). z.1) y.1)

module _ (k : TalliedCall) (c : ℕ) where
  tallied_by : k.answer.outcome ≡ Refused c → Listed c × (k.answer ≡ refusing_with k.state k.tally c) × (k.work' ≡ k.work)
  tallied_by e =
      let h = handed k.layout k.file k.state k.work k.checks.decided in
      let z : TallyKept k.layout k.state k.tally k.work (k.answer, k.work') = subst (TallyKept k.layout k.state k.tally k.work) (sym (k.checks.answer h.0 h.1)) (tallied_kept k.layout k.file k.state k.tally k.work k.line h.0 h.1) in
      let q = z c e in
      (q.0, ap (λ (z : Tallied × List ℕ). z.0) q.1, ap (λ (z : Tallied × List ℕ). z.1) q.1)

module _ (k : LogCall) (c n : ℕ) where
  log_refused : k.answer.ending ≡ Ending.Refused c n → Listed c × LogRefused k.layout k.file (log_part k) k.work k.verdicts c n k.answer k.work' k.verdicts'
  log_refused =
      subst (λ (z : End). z.0.ending ≡ Ending.Refused c n → Listed c × LogRefused k.layout k.file (log_part k) k.work k.verdicts c n z.0 z.1 z.2) (sym k.checks.checks.answer) (log_of_kept k.layout k.file (log_part k) k.work k.verdicts c n)

  kept_call : LogRefused k.layout k.file (log_part k) k.work k.verdicts c n k.answer k.work' k.verdicts' → LogKept k c n
  kept_call (untouched a b d e) = unread a b d e
  kept_call (at_line f a b) = stopped f a b

relate-listed : (r : Record) (a b c : ℕ) → MetRelate r a b c → Listed c
relate-listed r a b c (relate-unknown n e) = omega arith
relate-listed r a b c (relate-unfinished log t k s f e) = omega arith
relate-listed r a b c (relate_same log t k s f q e) = omega arith

-- a call that is lent nothing
pub lent_nothing : {A M : Type 0} (c : ℕ) → (A ↔ M) → (M → Listed c) → Refuses c A M (Unit {0})
lent_nothing c m l = record { listed = λ e. l (m.0 e); just_where = m; changes_nothing = λ _. tt }

bytes_met : (line : List ℕ) (c : ℕ) → RefusedWith c (parsed_of line) ↔ MetBytes line c
bytes_met line c = (
  λ w. (faulty-number line c).0 (w.0, ((parse_met line w.0).0 w.1.0, w.1.1)),
  λ m. let z = (faulty-number line c).1 m in (z.0, ((parse_met line z.0).1 z.1.0, z.1.1)),
)

file_met : (file : List ℕ) (q : Result Rule Refusal) → ReadsRule file q → (c : ℕ) → RefusedWith c q ↔ MetRule file c
file_met file q h c =
    (λ e. (rule_met file c).0 (e.0, (sym h.answer ∙ e.1.0, e.1.1)), λ m. let w = (rule_met file c).1 m in (w.0, (h.answer ∙ w.1.0, w.1.1)))

pub demand-1 : Demand1
demand-1 =
    record {
      start = λ k c.
          let m = start_met k.layout k.work k.answer k.work' k.starts c in
          record { listed = λ e. omega (arith, (m.0 e).1); just_where = m; changes_nothing = start_kept k.layout k.work k.answer k.work' k.starts c };
      line = λ k c. record { listed = λ e. (line_by k c e).0; just_where = line_met k.layout k.file k.state k.work k.line k.answer k.work' k.checks c; changes_nothing = λ e. ((line_by k c e).1, (line_by k c e).2) };
      tallied = λ k c. record { listed = λ e. (tallied_by k c e).0; just_where = tallied_met k.layout k.file k.state k.tally k.work k.line k.answer k.work' k.checks c; changes_nothing = λ e. ((tallied_by k c e).1, (tallied_by k c e).2) };
      log = λ k c n. record { listed = λ e. (log_refused k c n e).0; just_where = log_met k.layout k.file (log_part k) k.work k.verdicts k.answer k.work' k.verdicts' k.checks.checks c n; changes_nothing = λ e. kept_call k c n (log_refused k c n e).1 };
      report = λ k c.
          let m = report_met k.layout k.work k.verdicts k.text k.file (report_part k) c k.answer k.work' k.verdicts' k.text' k.reports.reports in
          record {
            listed = λ e. omega (arith, (m.0 e).1);
            just_where = (λ e. (λ l. (m.0 e).0 (l.work, l.verdicts, l.text), (m.0 e).1), λ p. m.1 (λ l. p.0 (record { work = l.0; verdicts = l.1; text = l.2 }), p.1));
            changes_nothing = report_kept k.layout k.work k.verdicts k.text k.file (report_part k) c k.answer k.work' k.verdicts' k.text' k.reports.reports;
          };
      relate = λ r a b v h c. lent_nothing c (relate_met r a b v h c) (relate-listed r a.0 b.0 c);
      compose = λ a b v h c. lent_nothing c (compose_met a b v h c) (λ m. omega (arith, m.1));
      converse = λ a v h c. lent_nothing c (converse_met a v h c) (λ m. omega (arith, m.1));
      rule = λ file q h c. lent_nothing c (file_met file q h c) (met_number file c);
      parse = λ line c. lent_nothing c (bytes_met line c) (λ m. let z = (faulty-number line c).1 m in let r = event_refusal line z.0 z.1.0 in omega (arith, z.1.1));
      next = λ log p c. record { listed = λ e. omega (arith, ((next_met log p c).0 e).2); just_where = next_met log p c; changes_nothing = λ e. ap (λ (n : Next). place_after n p) e.1.0 };
      untouched = untouched_bytes;
    }

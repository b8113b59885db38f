-- Demand 1: each refusal is met just where the list says. Each call is taken apart by its own order.
use Prim.Native.Nat.{ℕ, ◌+◌, ◌-◌, ◌≤◌, ◌<◌}
use mathlib.Core.Path.{◌≡◌, refl, ap, sym, ◌∙◌, subst}
use mathlib.Core.Logic.{◌↔◌}
use mathlib.Core.List.{List, [], ◌∷◌, ◌++◌}
use mathlib.Core.Option.{Option, none, some}
use mathlib.Core.Bool.{Bool, true, false, ◌&&◌, ◌||◌}
use native.Mathlib.Omega.{arith}
use lib.Dec.{eqb, leb, ltb}
use lib.ListN.{length}
use borrow.Author.Tests.{lt-ltb, le-ltb, eqb-true, eq-eqb, leb-true, le-leb}
use Rattle.lists.proofs.Cases.{either_lt, either_bool, no_both, and_left, and_right}
use Rattle.refusals.specs.Refusal.{number}
use Rattle.lines.specs.Log.{lines_of}
use Rattle.trace.specs.declared.Record.{Record}
use Rattle.trace.specs.Trace.{Trace, Answer, next, refused, no_trace, read, steps, step}
use Rattle.trace.specs.Orderly.{finished_runs}
use Rattle.trace.proofs.Finished.{finished_few}
use Rattle.trace.proofs.Taken.{line_lines, by_answer_lem}
use Rattle.rules.specs.declared.Rule.{Rule}
use Rattle.std.specs.Prelude.{Result, Ok, Err}
use Rattle.refusals.specs.Refusal.{number}
use Rattle.refusals.specs.declared.Refusal.{Refusal}
use Rattle.rules.specs.Rules.{rule_of, formula_of}
use Rattle.grammar.proofs.RuleMet.{rule_met}
use Rattle.logic.specs.Verdict.{verdict_of}
use Rattle.single.specs.declared.Outcome.TheVariants.{Refused}
use Rattle.single.specs.declared.Checked.{Checked}
use Rattle.reading.specs.declared.Ending.TheVariants as Ending
use Rattle.tallies.specs.declared.Tally.{Tally}
use Rattle.tallies.specs.declared.Tallied.{Tallied}
use Rattle.reading.specs.declared.LogRead.{LogRead}
use Rattle.reading.specs.Reading.{RefusedAs}
use Rattle.reading.specs.Left.{Left}
use Rattle.single.specs.Line.{refusing, line_after, advance_of, state_of, with_rule, line_of, ChecksLine}
use Rattle.tallies.specs.Tally.{refusing_with, counts?, tallied_after, tallied_state, tallied_of, ChecksTallied}
use Rattle.whole_log.specs.Log.{not_read, lines_from, log_of, ChecksLog}
use Rattle.pairs.specs.declared.Layout.{Layout}
use Rattle.pairs.specs.Layout.{work_size}
use Rattle.whole_log.proofs.Lines.{from-taken, from_refused}
use Rattle.reading.proofs.Lines.{same_trace, after_line_lem, no_line}
use Rattle.accepted_logs.specs.MetAfter.{MetAfter}
use Rattle.claims.specs.WhereMet.{Met, Counts, MetTally, wrong, right, MetLog, short_work, short_verdicts, log-rule, log_line}
use Rattle.claims.proofs.Stops.{same_refusal, not_judged, End, same_ending, Stopped, stops, start_of, start_accepted, first_refused}
use Rattle.accepted_logs.proofs.AfterMet.{after_number}
use Rattle.claims.proofs.Fronts.{taken_ruled, ruled_taken, handed, answer_by, front_met}

-- ── one line ──
module _ (lay : Layout) (file : List ℕ) (r : Record) (w line : List ℕ) where
  abbrev Answered : Type 0
  Answered = Checked × List ℕ

  -- 20, the rule, 21, then the line
  pub line_answer_lem : (k : Option Trace) → line_of lay file r w line k ≡ answer_by {A = Answered} lay file r w (λ n. (refusing r n, w)) (λ x t. advance_of lay file x t w line) k
  unfolding line_of state_of
  line_answer_lem none = refl
  line_answer_lem (some t) = refl

  advance_met : (x : Rule) (log : List ℕ) (t : Trace) → Left lay log t r w → (c : ℕ) → ((advance_of lay file x t w line).0.outcome ≡ Refused c) ↔ MetAfter t line c
  unfolding line_after
  advance_met x log t l c = (λ e. go (step (next t) line) refl e, λ m. let z = (after_number log t l.accepted line c).1 m in ap (λ (a : Answer). (line_after lay file x t w a).0.outcome) z.1.0 ∙ ap Refused z.1.1)
    where
      go : (a : Answer) → step (next t) line ≡ a → (line_after lay file x t w a).0.outcome ≡ Refused c → MetAfter t line c
      go (next u) q e = not_judged (verdict_of u (formula_of file x)) c e
      go (refused d) q e = (after_number log t l.accepted line c).0 (d, (q, same_refusal c (number d) e))

pub line_met : (lay : Layout) (file : List ℕ) (r : Record) (w line : List ℕ) (a : Checked) (w' : List ℕ) → ChecksLine lay file r w line a w'
    → (c : ℕ) → (a.outcome ≡ Refused c) ↔ Met lay file r w (λ t n. MetAfter t line n) c
line_met lay file r w line a w' h c =
    let k = handed lay file r w h.decided in
    subst (λ (z : Checked × List ℕ). (z.0.outcome ≡ Refused c) ↔ Met lay file r w (λ t n. MetAfter t line n) c) (sym (h.answer k.0 k.1 ∙ line_answer_lem lay file r w line k.0))
    (front_met lay file r w (λ n. (refusing r n, w)) (λ x t. advance_of lay file x t w line) (λ z. z.0.outcome) (λ n. refl) (λ t n. MetAfter t line n) (advance_met lay file r w line) c k.0 k.1)

-- ── one line with a tally ──
-- the test of a tally tells whether its counts are those of the lines
module _ (t : Trace) (y : Tally) where
  abbrev begun : ℕ
  begun = length t.runs

  abbrev ended : ℕ
  ended = finished_runs t.runs

  abbrev last_two : Bool
  last_two = eqb y.running (begun - ended) && leb y.failing y.lines

  abbrev last_three : Bool
  last_three = eqb y.finished ended && last_two

  abbrev last_four : Bool
  last_four = eqb y.begun begun && last_three

  counts_forth : counts? t y ≡ true → Counts t y
  unfolding counts?
  counts_forth e =
      let a = and_right (eqb y.lines t.lines) last_four e in
      let b = and_right (eqb y.begun begun) last_three a in
      let c = and_right (eqb y.finished ended) last_two b in
      let e2 = eqb-true y.begun begun (and_left (eqb y.begun begun) last_three a) in
      let e3 = eqb-true y.finished ended (and_left (eqb y.finished ended) last_two b) in
      let e4 = eqb-true y.running (begun - ended) (and_left (eqb y.running (begun - ended)) (leb y.failing y.lines) c) in
      record {
        lines = eqb-true y.lines t.lines (and_left (eqb y.lines t.lines) last_four e);
        begun = e2;
        finished = e3;
        balance = omega (arith, finished_few t.runs, e2, e3, e4);
        failing = leb-true y.failing y.lines (and_right (eqb y.running (begun - ended)) (leb y.failing y.lines) c);
      }

  counts_back : Counts t y → counts? t y ≡ true
  unfolding counts?
  counts_back k =
      let o : y.running ≡ begun - ended = omega (arith, finished_few t.runs, k.begun, k.finished, k.balance) in
      simp (eq-eqb _ _ k.lines, eq-eqb _ _ k.begun, eq-eqb _ _ k.finished, eq-eqb _ _ o, le-leb _ _ k.failing)

  pub counts-says : (counts? t y ≡ true) ↔ Counts t y
  counts-says = (counts_forth, counts_back)

module _ (lay : Layout) (file : List ℕ) (r : Record) (y : Tally) (w line : List ℕ) where
  abbrev TalliedAnswer : Type 0
  TalliedAnswer = Tallied × List ℕ

  pub tallied_answer : (k : Option Trace)
      → tallied_of lay file r y w line k ≡ answer_by {A = TalliedAnswer} lay file r w (λ n. (refusing_with r y n, w)) (λ x t. tallied_state lay file x r y w line (some t)) k
  unfolding tallied_of tallied_state
  tallied_answer none = refl
  tallied_answer (some t) = refl

  module _ (x : Rule) (t : Trace) where
    of_wrong : counts? t y ≡ false → (tallied_state lay file x r y w line (some t)).0.outcome ≡ Refused 24
    unfolding tallied_state
    of_wrong e = simp e

    of_right : counts? t y ≡ true → (a : Answer) → step (next t) line ≡ a → (tallied_state lay file x r y w line (some t)).0.outcome ≡ (tallied_after lay file x t y w a).0.outcome
    unfolding tallied_state
    of_right e a q = simp e (ap (λ (z : Answer). (tallied_after lay file x t y w z).0.outcome) q)

  tally_met : (x : Rule) (log : List ℕ) (t : Trace) → Left lay log t r w → (c : ℕ) → ((tallied_state lay file x r y w line (some t)).0.outcome ≡ Refused c) ↔ MetTally y line t c
  unfolding tallied_after
  tally_met x log t l c = (forth, back)
    where
      go : counts? t y ≡ true → (a : Answer) → step (next t) line ≡ a → (tallied_state lay file x r y w line (some t)).0.outcome ≡ Refused c → MetTally y line t c
      go b (next u) q e = not_judged (verdict_of u (formula_of file x)) c (sym (of_right x t b (next u) q) ∙ e)
      go b (refused d) q e =
          right ((counts-says t y).0 b)
          ((after_number log t l.accepted line c).0 (d, (q, same_refusal c (number d) (sym (of_right x t b (refused d) q) ∙ e))))

      forth : (tallied_state lay file x r y w line (some t)).0.outcome ≡ Refused c → MetTally y line t c
      forth e =
          either_bool (counts? t y)
          (λ b. go b (step (next t) line) refl e)
          (λ b. wrong (λ k. no_both (sym ((counts-says t y).1 k) ∙ b)) (sym (same_refusal c 24 (sym (of_wrong x t b) ∙ e))))

      back : MetTally y line t c → (tallied_state lay file x r y w line (some t)).0.outcome ≡ Refused c
      back (wrong n e) =
          either_bool (counts? t y)
          (λ b. absurd (n ((counts-says t y).0 b)))
          (λ b. of_wrong x t b ∙ ap Refused (sym e))
      back (right k m) =
          let z = (after_number log t l.accepted line c).1 m in
          of_right x t ((counts-says t y).1 k) (refused z.0) z.1.0 ∙ ap Refused z.1.1

pub tallied_met : (lay : Layout) (file : List ℕ) (r : Record) (y : Tally) (w line : List ℕ) (a : Tallied) (w' : List ℕ) → ChecksTallied lay file r y w line a w'
    → (c : ℕ) → (a.outcome ≡ Refused c) ↔ Met lay file r w (MetTally y line) c
tallied_met lay file r y w line a w' h c =
    let k = handed lay file r w h.decided in
    subst (λ (z : Tallied × List ℕ). (z.0.outcome ≡ Refused c) ↔ Met lay file r w (MetTally y line) c) (sym (h.answer k.0 k.1 ∙ tallied_answer lay file r y w line k.0))
    (front_met lay file r w (λ n. (refusing_with r y n, w)) (λ x t. tallied_state lay file x r y w line (some t)) (λ z. z.0.outcome) (λ n. refl) (MetTally y line) (tally_met lay file r y w line) c k.0 k.1)

-- ── a whole log ──
module _ (lay : Layout) (file : List ℕ) (x : Rule) (w : List ℕ) (line : List ℕ) (after : List (List ℕ)) (t : Trace) (c : ℕ) (e : RefusedAs c (step (next t) line)) where
  -- the lines from s on stop at the line that is refused
  from-stop : (before : List (List ℕ)) (s : Trace) (out : List ℕ) (n : ℕ) → steps (next s) before ≡ next t → n ≡ s.lines + length before + 1
      → (lines_from lay file x s (before ++ (line ∷ after)) w out).0.ending ≡ Ending.Refused c n
  from-stop [] s out n p m =
      let q : step (next s) line ≡ refused e.0 = ap (λ (z : Trace). step (next z) line) (same_trace s t p) ∙ e.1.0 in
      let k : s.lines + 1 ≡ n = omega (arith, m) in
      ap (λ (a : End). a.0.ending) (from_refused lay file x s line after w out e.0 q) ∙ (λ i. Ending.Refused (e.1.1 i) (k i))
  from-stop (l ∷ ls) s out n p m =
      by_answer_lem s l
      (λ u q.
      let v = after_line_lem s u t l ls q p in
      let k = line_lines s u l q in
      ap (λ (a : End). a.0.ending) (from-taken lay file x s l (ls ++ (line ∷ after)) w out u q) ∙ from-stop ls u _ n v (omega (arith, m, k)))
      (λ d q. no_line s t d l ls q p)

module _ (lay : Layout) (w out : List ℕ) where
  abbrev Short : Type 0
  Short = ltb (length w) (work_size lay) || ltb (length out) 256 ≡ true

  is_short_work : length w < work_size lay → Short
  is_short_work s = simp (lt-ltb _ _ s)

  is_short_verdicts : length out < 256 → Short
  is_short_verdicts s = either_bool (ltb (length w) (work_size lay)) (λ b. simp b) (λ b. simp (b, lt-ltb _ _ s))

  module _ (file log : List ℕ) where
    log_short : Short → (log_of lay file log w out).0.ending ≡ Ending.Refused 20 0
    unfolding log_of
    log_short s = simp s

    log_rule : Result Rule Refusal → End
    log_rule q = with_rule q (λ n. (not_read n, w, out)) (λ x. lines_from lay file x no_trace (lines_of log) w out)

    log_by_rule : work_size lay ≤ length w → 256 ≤ length out → (q : Result Rule Refusal) → rule_of file ≡ q → (log_of lay file log w out).0.ending ≡ (log_rule q).0.ending
    unfolding log_of log_rule
    log_by_rule s v q e =
        let b : ltb (length w) (work_size lay) || ltb (length out) 256 ≡ false = simp (le-ltb _ _ s, le-ltb _ _ v) in
        simp b (ap (λ (z : Result Rule Refusal). (log_rule z).0.ending) e)

log_of_met : (lay : Layout) (file log w out : List ℕ) (c n : ℕ) → ((log_of lay file log w out).0.ending ≡ Ending.Refused c n) ↔ MetLog lay file log w out c n
unfolding log_rule with_rule read first_refused
log_of_met lay file log w out c n = (forth, back)
  where
    short : Short lay w out → (log_of lay file log w out).0.ending ≡ Ending.Refused 20 0
    short = log_short lay w out file log

    rule : work_size lay ≤ length w → 256 ≤ length out → (q : Result Rule Refusal) → rule_of file ≡ q → (log_of lay file log w out).0.ending ≡ (log_rule lay w out file log q).0.ending
    rule = log_by_rule lay w out file log

    reading : work_size lay ≤ length w → 256 ≤ length out → (q : Result Rule Refusal) → rule_of file ≡ q → (log_of lay file log w out).0.ending ≡ Ending.Refused c n → MetLog lay file log w out c n
    reading s v (Err m) q e =
        let p = same_ending c (number m) n 0 (sym (rule s v _ q) ∙ e) in
        log-rule s v ((rule_met file c).0 (m, (q, p.0))) (sym p.1)
    reading s v (Ok x) q e =
        let g : Stopped lay file x w no_trace (lines_of log) out c n = stops lay file x w (lines_of log) no_trace out c n (sym (rule s v _ q) ∙ e) in
        log_line s v (taken_ruled file x q) (first_refused lay file x w log out c n g)
        ((after_number (start_of lay file x w (lines_of log) out c n g) g.trace (start_accepted lay file x w (lines_of log) out c n g) g.line c).0 g.why)

    forth : (log_of lay file log w out).0.ending ≡ Ending.Refused c n → MetLog lay file log w out c n
    forth e =
        either_lt (length w) (work_size lay)
        (λ s. let p = same_ending c 20 n 0 (sym (short (is_short_work lay w out s)) ∙ e) in short_work s (sym p.0) (sym p.1))
        (λ s.
        either_lt (length out) 256
        (λ v. let p = same_ending c 20 n 0 (sym (short (is_short_verdicts lay w out v)) ∙ e) in short_verdicts v (sym p.0) (sym p.1))
        (λ v. reading s v (rule_of file) refl e))

    back : MetLog lay file log w out c n → (log_of lay file log w out).0.ending ≡ Ending.Refused c n
    back (short_work s e m) = short (is_short_work lay w out s) ∙ (λ i. Ending.Refused (sym e i) (sym m i))
    back (short_verdicts s e m) = short (is_short_verdicts lay w out s) ∙ (λ i. Ending.Refused (sym e i) (sym m i))
    back (log-rule s v q m) =
        let w = (rule_met file c).1 q in
        rule s v _ w.1.0 ∙ (λ i. Ending.Refused (w.1.1 i) (sym m i))
    back (log_line s v g f m) =
        let z = ruled_taken file g in
        let x = z.0 in
        rule s v _ z.1
        ∙ (ap (λ (z : List (List ℕ)). (lines_from lay file x no_trace z w out).0.ending) f.lines
        ∙ from-stop lay file x w f.line f.after f.trace c ((after_number f.before f.trace f.accepted f.line c).1 m) (lines_of f.before) no_trace out n f.accepted.leaves (omega (arith, f.number)))

pub log_met : (lay : Layout) (file log w out : List ℕ) (a : LogRead) (w' out' : List ℕ) → ChecksLog lay file log w out a w' out'
    → (c n : ℕ) → (a.ending ≡ Ending.Refused c n) ↔ MetLog lay file log w out c n
log_met lay file log w out a w' out' h c n =
    subst (λ (z : End). (z.0.ending ≡ Ending.Refused c n) ↔ MetLog lay file log w out c n) (sym h.answer) (log_of_met lay file log w out c n)

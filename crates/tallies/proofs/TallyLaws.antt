-- What a tally says of the lines: its counts are those of the begin and end lines of the log, and the call with a tally answers what
-- the single-line call answers.
use Prim.Native.Nat.{ℕ, ◌+◌, ◌≤◌}
use mathlib.Core.Path.{◌≡◌, refl, ap, sym, ◌∙◌, subst}
use mathlib.Core.Bool.{true}
use mathlib.Core.List.{List, ◌++◌}
use mathlib.Core.Option.{Option, some}
use native.Mathlib.Omega.{arith}
use lib.Dec.{ltb}
use lib.ListN.{length}
use borrow.Author.Tests.{le-ltb}
use Rattle.lists.proofs.Cases.{either_bool}
use Rattle.labels.specs.Label.{label_of}
use Rattle.refusals.specs.Refusal.{number}
use Rattle.lines.specs.Line.{event_of}
use Rattle.lines.specs.Log.{lines_of}
use Rattle.trace.specs.declared.Record.{Record}
use Rattle.trace.specs.Trace.{Trace, Answer, next, refused, Accepted, step}
use Rattle.trace.proofs.Taken.{line_lines, line_taken}
use Rattle.trace.proofs.Finished.{CountsMore, begin_counts, end_counts}
use Rattle.trace.proofs.Grown.{taken_grows}
use Rattle.trace.proofs.Induction.{accepted-keeps}
use Rattle.pairs.specs.declared.Layout.{Layout}
use Rattle.pairs.specs.Layout.{work_size}
use Rattle.rules.specs.declared.Rule.{Rule}
use Rattle.std.specs.Prelude.{Result, Ok, Err}
use Rattle.refusals.specs.declared.Refusal.{Refusal}
use Rattle.rules.specs.Rules.{rule_of, formula_of}
use Rattle.rules.proofs.Rules.{reads_rule}
use Rattle.logic.specs.declared.Verdict.{Verdict}
use Rattle.logic.specs.Verdict.{verdict_of}
use Rattle.single.specs.declared.Outcome.TheVariants.{Refused}
use Rattle.single.specs.declared.Checked.{Checked}
use Rattle.tallies.specs.declared.Tally.{Tally}
use Rattle.tallies.specs.declared.Tallied.{Tallied}
use Rattle.reading.specs.Left.{Left}
use Rattle.single.specs.Handed.{HandedBy, Reached}
use Rattle.single.specs.Line.{judged, refusing, line_after, state_of, with_rule, line_of, LineMeans}
use Rattle.trace.specs.Orderly.{finished_runs}
use Rattle.tallies.specs.Tally.{tally_of, failed, TallyCounts, untallied, TalliedMeans, begins_run, ends_run, begin_lines, end_lines, counts?, refusing_with, tallied_after, tallied_state, tallied_of, tally_after, ChecksTallied}
use Rattle.reading.proofs.Standing.{pairs_long}
use Rattle.single.proofs.LineMeans.{judged_same, judged-taken, line_means}
use Rattle.single.proofs.LineCall.{with_taken}
use Rattle.trace.proofs.Finished.{finished_few}
use Rattle.reading.proofs.Lines.{same_trace}
use Rattle.tallies.proofs.Failing.{tally_goes_on}

-- ── the counts are those of the lines ──
-- a taken line is a begin line with one run more, or an end line with one finished run more
taken-counts : (l : List ℕ) (t u : Trace) → step (next t) l ≡ next u
    → (length u.runs ≡ length t.runs + begins_run (event_of l)) × (finished_runs u.runs ≡ finished_runs t.runs + ends_run (event_of l))
taken-counts l t u =
    line_taken (λ e. (length u.runs ≡ length t.runs + begins_run e) × (finished_runs u.runs ≡ finished_runs t.runs + ends_run e)) t u
    (λ i s b.
    let c : CountsMore t u 1 0 = subst (λ (v : Trace). CountsMore t v 1 0) (sym b.is) (begin_counts t i (label_of s)) in
    (c.runs, omega (arith, c.finished)))
    (λ i b.
    let c : CountsMore t u 0 1 = subst (λ (v : Trace). CountsMore t v 0 1) (sym b.is) (end_counts t i b.running) in
    (c.runs, omega (arith, c.finished)))
    l

-- THE LAW: "Begun is the count of accepted begin lines, finished that of accepted end lines, and begun equals finished plus open."
pub accepted_tally : (log : List ℕ) (t : Trace) (n : ℕ) → Accepted log t → TallyCounts log (tally_of t n)
unfolding tally_of begin_lines end_lines finished_runs
accepted_tally log t n a =
    let k =
    accepted-keeps
    (λ ls t. (length (lines_of log) ≡ t.lines + length ls) × (begin_lines (lines_of log) ≡ length t.runs + begin_lines ls) × (end_lines (lines_of log) ≡ finished_runs t.runs + end_lines ls))
    (λ l ls t u h e. (omega (arith, h.0, line_lines t u l e), omega (arith, h.1, (taken-counts l t u e).0), omega (arith, h.2, (taken-counts l t u e).1)))
    log t a (omega arith, omega arith, omega arith) in
    record {
      lines = omega (arith, k.0);
      begun = omega (arith, k.1);
      finished = omega (arith, k.2);
      balance = omega (arith, finished_few t.runs);
    }

-- ── the call with a tally is the single-line call ──
abbrev line_part : Tallied × List ℕ → Checked × List ℕ
line_part z = (untallied z.0, z.1)

module _ (lay : Layout) (file : List ℕ) (r : Record) (y : Tally) (w line : List ℕ) where
  pub tallied_is_line : (t : Trace) → counts? t y ≡ true → line_part (tallied_of lay file r y w line (some t)) ≡ line_of lay file r w line (some t)
  unfolding tallied_of line_of with_rule tallied_state state_of tallied_after line_after
  tallied_is_line t p = either_bool (ltb (length w) (work_size lay)) (λ e. simp e) (λ e. simp e (by_rule (rule_of file)))
    where
      by_answer_lem : (x : Rule) (a : Answer) → line_part (tallied_after lay file x t y w a) ≡ line_after lay file x t w a
      by_answer_lem x (next u) = refl
      by_answer_lem x (refused c) = refl

      by_rule : (q : Result Rule Refusal) → line_part (with_rule q (λ n. (refusing_with r y n, w)) (λ x. tallied_state lay file x r y w line (some t)))
          ≡ with_rule q (λ n. (refusing r n, w)) (λ x. state_of lay file x r w line (some t))
      by_rule (Ok x) = simp p (by_answer_lem x (step (next t) line))
      by_rule (Err n) = refl

  -- so its answer means the same
  module _ (x : Rule) (rule : rule_of file ≡ Ok x) (log : List ℕ) (t : Trace) (l : Left lay log t r w) (p : counts? t y ≡ true) (a : Tallied) (v : List ℕ) (answer : ◌≡◌ {A = Tallied × List ℕ} (a, v) (tallied_of lay file r y w line (some t))) where
    long : work_size lay ≤ length w
    long = pairs_long lay t w w l.pairs

    line_part_means : LineMeans lay file x log t r w line (untallied a) v
    unfolding line_of state_of
    line_part_means =
        let e : ◌≡◌ {A = Checked × List ℕ} (untallied a, v) (line_of lay file r w line (some t)) = ap line_part answer ∙ tallied_is_line t p in
        let s : line_of lay file r w line (some t) ≡ state_of lay file x r w line (some t) = simp (le-ltb (length w) (work_size lay) long) (with_taken (rule_of file) x _ _ rule) in
        line_means lay file x t w line (untallied a) v (e ∙ s) ((reads_rule file (Ok x) (sym rule)).taken x refl) log r l.accepted l.encoded

    answer_is : ◌≡◌ {A = Tallied × List ℕ} (a, v) (tallied_after lay file x t y w (step (next t) line))
    unfolding tallied_of tallied_state
    answer_is =
        let s : tallied_of lay file r y w line (some t) ≡ tallied_state lay file x r y w line (some t) = simp (le-ltb (length w) (work_size lay) long) (with_taken (rule_of file) x _ _ rule) in
        answer ∙ (s ∙ simp p)

    pub tallied-means : TalliedMeans lay file x log t r y w line a v
    unfolding tallied_after tally_of
    tallied-means = go (step (next t) line) refl answer_is
      where
        go : (n : Answer) → step (next t) line ≡ n → ◌≡◌ {A = Tallied × List ℕ} (a, v) (tallied_after lay file x t y w n) → TalliedMeans lay file x log t r y w line a v
        go (next u) q e =
            let f : Verdict = verdict_of u (formula_of file x) in
            let o : a.outcome ≡ judged f = ap (λ (z : Tallied × List ℕ). z.0.outcome) e in
            let c : a.tally ≡ tally_of u (y.failing + failed f) = ap (λ (z : Tallied × List ℕ). z.0.tally) e in
            record {
              single = line_part_means;
              counts = λ d m. subst (TallyCounts (log ++ line)) (sym c) (accepted_tally (log ++ line) u (y.failing + failed f) (taken_grows log t l.accepted line u q));
              failing = λ d m. ap (λ (z : Tally). z.failing) c ∙ ap (λ (z : Verdict). y.failing + failed z) (judged_same f d (sym o ∙ m));
              goes_on = λ s d m z b.
                  let grown : Accepted (log ++ line) u = taken_grows log t l.accepted line u q in
                  c ∙ (ap (λ (k : Tally). tally_of u (k.failing + failed f)) s ∙ (tally_goes_on file x log t l.accepted line u q ∙ ap (tally_after file x (log ++ line)) (same_trace u z (sym grown.leaves ∙ b.leaves))));
              kept = λ d m. judged-taken f d (sym o ∙ m);
            }
        go (refused d) q e =
            let o : a.outcome ≡ Refused (number d) = ap (λ (z : Tallied × List ℕ). z.0.outcome) e in
            record {
              single = line_part_means;
              counts = λ b m. judged-taken b (number d) (sym m ∙ o);
              failing = λ b m. judged-taken b (number d) (sym m ∙ o);
              goes_on = λ s b m z k. judged-taken b (number d) (sym m ∙ o);
              kept = λ b m. ap (λ (z : Tallied × List ℕ). z.0.tally) e;
            }

  pub checks-tallied : (a : Tallied) (v : List ℕ) → ((k : Option Trace) → (Reached lay file w → HandedBy lay r w k) → ◌≡◌ {A = Tallied × List ℕ} (a, v) (tallied_of lay file r y w line k))
      → (Reached lay file w → (k : Option Trace) × HandedBy lay r w k) → ChecksTallied lay file r y w line a v
  checks-tallied a v answer d =
      record { decided = d; answer = answer; meaning = λ x rule log t l p. tallied-means x rule log t l p a v (answer (some t) (λ _. (log, l))) }

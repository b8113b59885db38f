-- One line more: the record that it leaves and what is found then, or its refusal.
use Rattle.std.specs.Prelude.{Ok, Err}
use Prim.Native.Nat.{ℕ, ◌≤◌}
use mathlib.Core.Path.{◌≡◌, refl, ap, sym, subst, ◌∙◌}
use mathlib.Core.Bool.{true}
use mathlib.Core.List.{List, ◌++◌}
use native.Mathlib.Omega.{arith}
use lib.ListN.{length}
use Rattle.lists.proofs.Cases.{never}
use Rattle.refusals.specs.declared.Refusal.{Refusal}
use Rattle.lines.specs.Line.{event_of}
use Rattle.trace.specs.declared.Record.{Record}
use Rattle.trace.specs.declared.RunNo.{RunNo}
use Rattle.trace.specs.declared.Stepped.{Stepped}
use Rattle.trace.specs.Trace.{Trace, Answer, next, refused, step, run_of, Accepted}
use Rattle.trace.specs.Record.{record_of, answer_of, Valid}
use Rattle.trace.proofs.Bounds.{accepted-bounded}
use Rattle.trace.proofs.Grown.{taken_grows}
use Rattle.columns.specs.declared.Said.{Said}
use Rattle.columns.specs.Columns.{said_as}
use Rattle.steps.specs.Steps.{TakesEvent}
use Rattle.reading.proofs.Settled.{TakenStep, step_refused, step-taken}
use Rattle.reading.proofs.StepLine.{steps_line}
use Rattle.text_pieces.specs.Writing.{WritesFew}
use Rattle.slips.specs.Answers.{Finding, FindsFirst}
use Rattle.log_slips.specs.declared.Walk.{Walk}
use Rattle.log_slips.specs.Walk.{found_text, Refuses, TakesLine}
use Rattle.log_slips.proofs.Found.{FewRuns, valid_lines, found_few}

not_next : {C : Type 0} (b : Answer) (c : Refusal) (u : Trace) → b ≡ refused c → b ≡ next u → C
not_next b c u p q = never (cc)

same_number_lem : (b : Answer) (c d : Refusal) → b ≡ refused c → b ≡ refused d → c ≡ d
same_number_lem b c d p q = let e : refused c ≡ refused d = sym p ∙ q in cc

same_trace : (b : Answer) (t u : Trace) → b ≡ next t → b ≡ next u → t ≡ u
same_trace b t u p q = let e : next t ≡ next u = sym p ∙ q in cc

module _ (line : List ℕ) (r : Record) (s : Said Refusal) (said : s ≡ said_as (length line) (event_of line)) (a : Stepped Refusal) (took : TakesEvent r s a) where
  answered : (log : List ℕ) (t : Trace) → Accepted log t → r ≡ record_of t → a ≡ answer_of t (run_of t (event_of line)) (step (next t) line)
  answered log t acc e = steps_line r line s a said took t (accepted-bounded log t acc) e

  -- ── the line is taken ──
  module _ (z : RunNo) (o : a.outcome ≡ Ok z) where
    left : (log : List ℕ) (t : Trace) (acc : Accepted log t) (e : r ≡ record_of t) → TakenStep t (run_of t (event_of line)) (step (next t) line) a (answered log t acc e) z
    left log t acc e = step-taken t (run_of t (event_of line)) (step (next t) line) a (answered log t acc e) z o

    pub valid_then : Valid r → Valid a.state
    valid_then v =
        let n = left v.log v.trace v.accepted v.encoded in
        record {
          log = v.log ++ line;
          trace = n.trace;
          accepted = taken_grows v.log v.trace v.accepted line n.trace n.is;
          encoded = n.state;
        }

    pub lines_then : Valid r → a.state.lines.0 ≤ 999
    lines_then v = omega (arith, valid_lines a.state (valid_then v))

    pub few-then : (file : List ℕ) (f : Finding) → Valid r → FindsFirst file a.state f → FewRuns f
    few-then file f v k = found_few file a.state f k (valid_then v)

    pub takes-taken : (file : List ℕ) (w : Walk) (after : ℕ) (text : List ℕ) (f : Finding) (q : ℕ) (text' : List ℕ) → r ≡ w.state → FindsFirst file a.state f
        → WritesFew 20 (found_text a.state.lines.0 f) text w.size text' q
        → TakesLine file line after w text (record { state = a.state; place = after; size = q; more = true }) text'
    unfolding record_of
    takes-taken file w after text f q text' g k d =
        record {
          taken =
              λ log t u acc e p.
              let n = left log t acc (g ∙ e) in
              let i : n.trace ≡ u = same_trace (step (next t) line) n.trace u n.is p in
              let h : a.state ≡ record_of u = n.state ∙ ap record_of i in
              record {
                state = h;
                place = refl;
                more = refl;
                found = f;
                finds = k;
                written = subst (λ (m : ℕ). WritesFew 20 (found_text m f) text w.size text' q) (ap (λ (x : Record). x.lines.0) h) d;
              };
          refused = λ log t c acc e p. not_next (step (next t) line) c (left log t acc (g ∙ e)).trace p (left log t acc (g ∙ e)).is;
        }

  -- ── the line is refused ──
  module _ (c : Refusal) (o : a.outcome ≡ Err c) where
    why : (log : List ℕ) (t : Trace) → Accepted log t → r ≡ record_of t → step (next t) line ≡ refused c
    why log t acc e = (step_refused t (run_of t (event_of line)) (step (next t) line) a (answered log t acc e) c o).0

    pub takes_refused : (file : List ℕ) (w : Walk) (after : ℕ) (text : List ℕ) (v : Walk) (text' : List ℕ) → r ≡ w.state → Refuses w c text v text'
        → TakesLine file line after w text v text'
    takes_refused file w after text v text' g k =
        record {
          taken = λ log t u acc e p. not_next (step (next t) line) c u (why log t acc (g ∙ e)) p;
          refused =
              λ log t d acc e p.
              subst (λ (m : Refusal). Refuses w m text v text') (same_number_lem (step (next t) line) c d (why log t acc (g ∙ e)) p) k;
        }

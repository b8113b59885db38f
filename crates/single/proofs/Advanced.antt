-- The inner step is right: it takes the line, and judges the log with the line where the line is taken.
use Rattle.std.specs.Prelude.{Ok, Err}
use Prim.Native.Nat.{ℕ, ◌≤◌}
use mathlib.Core.Path.{◌≡◌, ap, sym, ◌∙◌}
use mathlib.Core.List.{List, ◌++◌}
use native.Mathlib.Omega.{arith}
use Rattle.refusals.specs.declared.Refusal.{Refusal}
use Rattle.refusals.specs.Refusal.{number}
use Rattle.lines.specs.Line.{event_of}
use Rattle.trace.specs.declared.RunNo.{RunNo}
use Rattle.trace.specs.declared.Record.{Record}
use Rattle.trace.specs.declared.Stepped.{Stepped}
use Rattle.trace.specs.Trace.{Trace, next, step, run_of}
use Rattle.trace.specs.Record.{record_of, Bounded, Valid}
use Rattle.trace.proofs.Bounds.{accepted-bounded}
use Rattle.trace.proofs.Grown.{taken_grows}
use Rattle.pairs.specs.declared.Layout.{Layout}
use Rattle.rules.specs.declared.Rule.{Rule}
use Rattle.logic.specs.declared.Verdict.{Verdict}
use Rattle.timeline.specs.AllLines.{JudgesLast}
use Rattle.reading.specs.Left.{Left, Standing}
use Rattle.reading.specs.Step.{work_after, TakesLine}
use Rattle.reading.proofs.Settled.{TakenStep, step_refused, step-taken}
use Rattle.single.specs.declared.Outcome.{Outcome}
use Rattle.single.specs.declared.Checked.{Checked}
use Rattle.single.specs.Line.{judged, refusing, line_after}
use Rattle.single.specs.Step.{Advances}
use Rattle.single.proofs.LineMeans.{by_line_lem}

module _ (lay : Layout) (r : Record) (w line : List ℕ) (a : Stepped Refusal) (v : List ℕ) (f : TakesLine lay r w line a v) where
  -- the step of a taken line, for a log that leaves what is handed in
  taken_step : (log : List ℕ) (t : Trace) (l : Left lay log t r w) (z : RunNo) → a.outcome ≡ Ok z → TakenStep t (run_of t (event_of line)) (step (next t) line) a (f log t l).answer z
  taken_step log t l z o = step-taken t (run_of t (event_of line)) (step (next t) line) a (f log t l).answer z o

  -- the log with the line leaves the record
  pub taken_valid : Standing lay r w → (z : RunNo) → a.outcome ≡ Ok z → Valid a.state
  taken_valid s z o =
      let n = taken_step s.log s.trace s.left z o in
      record {
        log = s.log ++ line;
        trace = n.trace;
        accepted = taken_grows s.log s.trace s.left.accepted line n.trace n.is;
        encoded = n.state;
      }

  module _ (file : List ℕ) (x : Rule) where
    pub advances_refused : (c : Refusal) → a.outcome ≡ Err c → (k : ℕ) → k ≡ number c → Advances lay file x r w line (refusing a.state k) v
    unfolding line_after
    advances_refused c o n e log t l =
        let k = f log t l in
        let q = step_refused t (run_of t (event_of line)) (step (next t) line) a k.answer c o in
        (λ i. (refusing (q.1 i) (e i), (k.pairs ∙ ap (work_after lay w) q.0) i)) ∙ ap (line_after lay file x t w) (sym q.0)

    pub advances_taken : (z : RunNo) → a.outcome ≡ Ok z → (y : Verdict) → JudgesLast file x a.state y → (o : Outcome) → o ≡ judged y
        → Advances lay file x r w line (record { state = a.state; outcome = o }) v
    unfolding line_after
    advances_taken z e y j o q log t l =
        let n = taken_step log t l z e in
        let g = j (log ++ line) n.trace (taken_grows log t l.accepted line n.trace n.is) n.state in
        (λ i. (record { state = n.state i; outcome = (q ∙ ap judged g.answer) i }, ((f log t l).pairs ∙ ap (work_after lay w) n.is) i))
        ∙ ap (line_after lay file x t w) (sym n.is)

-- ── what the inner step answers ──
module _ (lay : Layout) (file : List ℕ) (x : Rule) (r : Record) (w line : List ℕ) (c : Checked) (v : List ℕ) (a : Advances lay file x r w line c v) where
  -- the record that it answers has at most 128 runs
  advanced_bounded : Standing lay r w → (u : Trace) × (Bounded u) × (c.state ≡ record_of u)
  advanced_bounded s =
      let l = s.left in
      by_line_lem lay file x s.trace w line c v (a s.log s.trace l)
      (λ u p o. (u, accepted-bounded _ u (taken_grows s.log s.trace l.accepted line u p), o.state))
      (λ d p o. (s.trace, accepted-bounded s.log s.trace l.accepted, o.state))

  pub advanced_few : Standing lay r w → c.state.runs.count ≤ 128
  unfolding record_of
  advanced_few s = let k = advanced_bounded s in omega (arith, ap (λ (y : Record). y.runs.count) k.2, k.1.runs)

-- A tally that starts at zeros and goes from call to call counts the failing lines of the log.
use Prim.Native.Nat.{ℕ, ◌+◌, ◌-◌, ◌≤◌}
use mathlib.Core.Path.{◌≡◌, refl, ap, sym, ◌∙◌}
use mathlib.Core.Bool.{true}
use mathlib.Core.List.{List, [], ◌∷◌, ◌++◌}
use native.Mathlib.Omega.{arith}
use lib.ListN.{length}
use lib.Dec.{eqb}
use borrow.Author.Tests.{eq-eqb, le-leb}
use Rattle.lines.specs.Log.{lines_of}
use Rattle.trace.specs.Trace.{Trace, Answer, next, no_trace, read, steps, Accepted, step}
use Rattle.trace.proofs.Grown.{accepted_lines}
use Rattle.rules.specs.declared.Rule.{Rule}
use Rattle.rules.specs.Rules.{formula_of}
use Rattle.logic.specs.declared.Verdict.{Verdict}
use Rattle.logic.specs.Verdict.{verdict_of}
use Rattle.reading.specs.Reading.{by_answer}
use Rattle.trace.specs.Orderly.{finished_runs}
use Rattle.tallies.specs.Tally.{tally_of, failed, counts?, failing_from, tally_after}
use Rattle.trace.proofs.Taken.{by_answer_lem}
use Rattle.reading.proofs.Lines.{same_trace, after_line_lem, no_line, line_alone, lines_counted}

failed-most : (v : Verdict) → failed v ≤ 1
failed-most Verdict.Holds = omega arith
failed-most Verdict.Fails = omega arith

module _ (file : List ℕ) (x : Rule) where
  pub fails-taken : (t u : Trace) (l : List ℕ) (ls : List (List ℕ)) → step (next t) l ≡ next u
      → failing_from file x t (l ∷ ls) ≡ failed (verdict_of u (formula_of file x)) + failing_from file x u ls
  unfolding failing_from by_answer
  fails-taken t u l ls p =
      ap (λ (a : Answer). by_answer a (λ v. failed (verdict_of v (formula_of file x)) + failing_from file x v ls) (λ c. 0)) p

  pub fails_none : (t : Trace) → failing_from file x t [] ≡ 0
  unfolding failing_from
  fails_none t = refl

  -- one line more
  fails_more : (ls : List (List ℕ)) (s t u : Trace) (l : List ℕ) → steps (next s) ls ≡ next t → step (next t) l ≡ next u
      → failing_from file x s (ls ++ (l ∷ [])) ≡ failing_from file x s ls + failed (verdict_of u (formula_of file x))
  fails_more [] s t u l e p =
      let z = same_trace s t e in
      let q : step (next s) l ≡ next u = ap (λ (v : Trace). step (next v) l) z ∙ p in
      omega (arith, fails-taken s u l [] q, fails_none u, fails_none s)
  fails_more (k ∷ ls) s t u l e p =
      by_answer_lem s k
      (λ v q. omega (arith, fails-taken s v k (ls ++ (l ∷ [])) q, fails-taken s v k ls q, fails_more ls v t u l (after_line_lem s v t k ls q e) p))
      (λ c q. no_line s t c k ls q e)

  fails-most : (ls : List (List ℕ)) (s t : Trace) → steps (next s) ls ≡ next t → failing_from file x s ls ≤ length ls
  fails-most [] s t e = omega (arith, fails_none s)
  fails-most (k ∷ ls) s t e =
      by_answer_lem s k
      (λ v q. omega (arith, fails-taken s v k ls q, failed-most (verdict_of v (formula_of file x)), fails-most ls v t (after_line_lem s v t k ls q e)))
      (λ c q. no_line s t c k ls q e)

  -- "It starts at zeros"
  pub tally_starts : tally_after file x [] no_trace ≡ record { lines = 0; begun = 0; finished = 0; running = 0; failing = 0 }
  unfolding tally_after tally_of failing_from finished_runs
  tally_starts = refl

  module _ (log : List ℕ) (t : Trace) (a : Accepted log t) where
    -- the tally of an accepted log is one that the call takes
    pub tally_taken : counts? t (tally_after file x log t) ≡ true
    unfolding counts? tally_after tally_of read
    tally_taken =
        let n : t.lines ≡ 0 + length (lines_of log) = lines_counted (lines_of log) no_trace t a.leaves in
        let m = fails-most (lines_of log) no_trace t a.leaves in
        let same : (k : ℕ) → eqb k k ≡ true = λ k. eq-eqb k k refl in
        simp (same t.lines, same (length t.runs), same (finished_runs t.runs), same (length t.runs - finished_runs t.runs), le-leb (failing_from file x no_trace (lines_of log)) t.lines (omega arith)) refl

    -- THE LAW: the tally that the call answers for it is that of the log with the line
    pub tally_goes_on : (line : List ℕ) (u : Trace) → step (next t) line ≡ next u
        → tally_of u ((tally_after file x log t).failing + failed (verdict_of u (formula_of file x))) ≡ tally_after file x (log ++ line) u
    unfolding tally_after tally_of read
    tally_goes_on line u p =
        let w : lines_of (log ++ line) ≡ lines_of log ++ (line ∷ []) = accepted_lines log t a line ∙ ap (λ (k : List (List ℕ)). lines_of log ++ k) (line_alone t u line p) in
        let f = fails_more (lines_of log) no_trace t u line a.leaves p in
        ap (tally_of u) (sym (ap (failing_from file x no_trace) w ∙ f))

-- What the class is taught, in the words of the request: the four misreadings, and those of the paper.
use Rattle.std.specs.Prelude.{ℕ, ◌≤◌, ◌<◌, ◌≡◌, ◌≢◌, true, List, length}
use Prim.Native.String.{String}
use Rattle.lists.specs.Lists.{bytes}
use Rattle.labels.specs.Label.{text}
use Rattle.labels.specs.Table.{label_at}
use Rattle.trace.specs.Trace.{Trace, next, step, run_at, start, finish, Accepted}
use Rattle.relations.specs.Relation.{Relation, before, overlaps, includes, during, number}
use Rattle.relations.specs.Runs.{FinishedRun}
use Rattle.relations.specs.Compose.{Shown, ShownByThree}
use Rattle.rules.specs.Formula as Formula
use Rattle.rules.specs.Formula.{Pairing, Formula, both, exists, has, pair, no_scope, scoped}
use Rattle.rules.specs.Cases.{no_evening_includes_test, no_test_without_run_after, some_same_as_itself}
use Rattle.grammar.specs.Forms.{Begins}
use Rattle.logic.specs.declared.Verdict.TheVariants.{Holds, Fails}
use Rattle.logic.specs.Satisfies.{Binding, bind, HasLabel, SameLabel, Related, Satisfies}
use Rattle.logic.specs.Verdict.{verdict_of, After}

-- some run with the first label has it to some run with the second
abbrev pub labelled : Pairing → String → String → Formula
labelled p a b = exists 0 (exists 1 (both (has 0 (bytes a)) (both (has 1 (bytes b)) (pair p 0 1))))

-- some A, and in it some B under the same variable
abbrev pub bound_twice : Formula
bound_twice = exists 0 (both (has 0 (bytes "A")) (exists 0 (has 0 (bytes "B"))))

pub record Lessons : Type 0 where
  -- "They count a run that is still open; a rule speaks of finished runs only": a begin line never changes the
  -- verdict of a rule, and what serves a "some" is finished
  pub begin_changes_nothing : (log line : List ℕ) (t u : Trace) (i : ℕ) (l : List ℕ) → Accepted log t
      → Begins line i l → step (next t) line ≡ next u
      → (f : Formula) → scoped f no_scope ≡ true → verdict_of u f ≡ verdict_of t f
  pub finished_serves : (t : Trace) (ρ : Binding) (v : ℕ) (f : Formula) → Satisfies t ρ (exists v f)
      → (j : ℕ) × FinishedRun t j × Satisfies t (bind ρ v j) f
  -- "They call two runs without a label alike; a missing label matches nothing, not even itself."
  pub no_label : (t : Trace) (j k : ℕ) → (run_at t j).label.0 ≡ 0 → (SameLabel t j k → ⊥) × (SameLabel t k j → ⊥)
  -- "They think a rule that held at line 10 holds for good; line 11 can finish the run that breaks it": P1's rule
  pub holds_before : After (bytes "B 7 EVENING\nB 9 TEST\nE 9\n") no_evening_includes_test Holds
  pub breaks_later : After (bytes "B 7 EVENING\nB 9 TEST\nE 9\nE 7\n") no_evening_includes_test Fails
  -- and a rule that failed may hold again: "no TEST without a run after it"
  pub fails_before : After (bytes "B 1 TEST\nE 1\n") no_test_without_run_after Fails
  pub holds-again : After (bytes "B 1 TEST\nE 1\nB 2\nE 2\n") no_test_without_run_after Holds
  -- "they read "overlaps" as any common moment, when one run inside another is "includes""
  pub inside_includes : (log : List ℕ) (t : Trace) → Accepted log t → (a b : ℕ) → FinishedRun t a → FinishedRun t b
      → start t a < start t b → finish t b < finish t a → Related includes t a b × (Related overlaps t a b → ⊥)
  -- so an A that overlaps a B is found, and no B that overlaps an A
  pub overlaps_found : After (bytes "B 1 A\nB 2 B\nE 1\nE 2\n") (labelled Formula.overlaps "A" "B") Holds
  pub overlaps_one_way : After (bytes "B 1 A\nB 2 B\nE 1\nE 2\n") (labelled Formula.overlaps "B" "A") Fails
  -- "the innermost binds"; and a run with a label is the same as itself (P10: one without is not)
  pub innermost-binds : After (bytes "B 1 A\nE 1\nB 2 B\nE 2\n") bound_twice Holds
  pub same_as_itself : After (bytes "B 1 TEST\nE 1\n") some_same_as_itself Holds
  -- "A run has none of the three to itself."
  pub none_to_itself : (log : List ℕ) (t : Trace) → Accepted log t → (r : Relation) (k : ℕ) → Related r t k k → ⊥
  -- "A label never seen makes it false."
  pub never_seen : (log : List ℕ) (t : Trace) → Accepted log t → (l : List ℕ)
      → ((n : ℕ) → 1 ≤ n → n ≤ length t.labels → text (label_at t.labels n) ≢ l) → (j : ℕ) → j < length t.runs
      → HasLabel t j l → ⊥
  -- "Composing from logs of two runs, or leaving out during in P5": what is shown takes three runs, and three show
  -- "during" in P5
  pub three_runs : (log : List ℕ) (a b : ℕ) (r : Relation) (s : Shown log a b r) → 3 ≤ length s.trace.runs
  pub p5_during : ShownByThree (number before) (number during) during

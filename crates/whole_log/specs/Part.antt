-- The part of a log that is read. "after an F line, nothing further is read": by default the lines through the first with which the
-- rule fails, in the full mode all of them.
use Rattle.std.specs.Prelude.{ℕ, ◌≤◌, ◌≡◌, ◌≢◌, List, [], ◌∷◌, ◌++◌, length}
use Rattle.lines.specs.Log.{lines_of, flat}
use Rattle.trace.specs.Trace.{Trace, next, no_trace, step, Accepted}
use Rattle.pairs.specs.declared.Layout.{Layout}
use Rattle.rules.specs.declared.Rule.{Rule}
use Rattle.std.specs.Prelude.{Ok}
use Rattle.rules.specs.Rules.{rule_of, formula_of}
use Rattle.logic.specs.declared.Verdict.{Verdict}
use Rattle.logic.specs.declared.Verdict.TheVariants.{Holds, Fails}
use Rattle.logic.specs.Verdict.{verdict_of, Says}
use Rattle.reading.specs.declared.LogRead.{LogRead}
use Rattle.reading.specs.Reading.{by_answer}
use Rattle.single.specs.Line.{with_rule}
use Rattle.whole_log.specs.declared.Mode.{Mode}
use Rattle.whole_log.specs.declared.Mode.TheVariants.{FirstFailure, Full}
use Rattle.whole_log.specs.Log.{ChecksLog}

-- ── the part by computing ──
-- the lines that are left behind a line, by its verdict
abbrev pub behind : Verdict → List (List ℕ) → List (List ℕ)
behind Holds ls = ls
behind Fails ls = []

-- Of the lines after those that t stands for those through the first that fails; all of them where none does. A refused line has no
-- verdict, and ends the reading in either mode.
unfoldable pub to_failure : List ℕ → Rule → Trace → List (List ℕ) → List (List ℕ)
to_failure file x t [] = []
to_failure file x t (l ∷ ls) = l ∷ by_answer (step (next t) l) (λ u. behind (verdict_of u (formula_of file x)) (to_failure file x u ls)) (λ c. ls)

-- the lines that are read in a mode
unfoldable pub lines_read : Mode → List ℕ → Rule → List (List ℕ) → List (List ℕ)
lines_read Full file x ls = ls
lines_read FirstFailure file x ls = to_failure file x no_trace ls

-- and the bytes of these lines; with a rule that is refused it is the whole log, of which the call reads no line
unfoldable pub read_part : Mode → List ℕ → List ℕ → List ℕ
read_part Full file log = log
read_part FirstFailure file log = with_rule (rule_of file) (λ n. log) (λ x. flat (to_failure file x no_trace (lines_of log)))

-- ── the part by what it is ──
-- a front of the log of at least one line, all accepted, with whose last line the rule fails
pub record EndsFailing (file : List ℕ) (x : Rule) (log part : List ℕ) : Type 0 where
  pub rest : List ℕ
  pub divides : log ≡ part ++ rest
  pub some_line : part ≢ []
  pub trace : Trace
  pub accepted : Accepted part trace
  pub fails : Says trace (formula_of file x) Fails

-- the shortest part that ends in a failing line, or all where there is none
pub data ToFailure (file : List ℕ) (x : Rule) (log part : List ℕ) : Type 0 where
  shortest : EndsFailing file x log part → ((p : List ℕ) → EndsFailing file x log p → length part ≤ length p) → ToFailure file x log part
  all : part ≡ log → ((p : List ℕ) → EndsFailing file x log p → ⊥) → ToFailure file x log part

abbrev pub PartOf : Mode → List ℕ → Rule → List ℕ → List ℕ → Type 0
PartOf Full file x log part = part ≡ log
PartOf FirstFailure file x log part = ToFailure file x log part

-- ── the contract, for every input ──
-- the call answers for the part that is read as the full call on it does
pub record ChecksPart (lay : Layout) (mode : Mode) (file log w out : List ℕ) (a : LogRead) (w' out' : List ℕ) : Type 0 where
  pub checks : ChecksLog lay file (read_part mode file log) w out a w' out'
  pub part : (x : Rule) → rule_of file ≡ Ok x → PartOf mode file x log (read_part mode file log)

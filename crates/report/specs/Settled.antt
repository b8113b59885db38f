-- What accepted lines leave behind a call: the record, the pair bytes and the verdict, and the lines of a whole log.
use Rattle.std.specs.Prelude.{ℕ, suc, ◌+◌, ◌≤◌, ◌<◌, ◌≡◌, ◌≢◌, ◌↔◌, List, [], ◌++◌, length, get_or, take}
use Rattle.lists.specs.Limits.{max_runs}
use Rattle.lines.specs.Log.{lines_of}
use Rattle.trace.specs.declared.Record.{Record}
use Rattle.trace.specs.Trace.{Trace, run_at, Accepted}
use Rattle.pairs.specs.declared.Layout.{Layout}
use Rattle.pairs.specs.Layout.{work_size, place, NoPair}
use Rattle.pairs.specs.Word.{name_of, word_of}
use Rattle.relations.specs.Relation.{before, overlaps, includes}
use Rattle.rules.specs.declared.Rule.{Rule}
use Rattle.rules.specs.Rules.{formula_of}
use Rattle.logic.specs.declared.Verdict.{Verdict}
use Rattle.logic.specs.Satisfies.{Related}
use Rattle.logic.specs.Verdict.{verdict_byte, Says}
use Rattle.reading.specs.declared.Ending.TheVariants as Ending
use Rattle.reading.specs.Left.{Left}
use Rattle.report.specs.Calls.{LogCall, log_part}

-- the byte at the place of runs a and b, after the lines that t stands for
pub record Notes (t : Trace) (a b byte : ℕ) : Type 0 where
  pub is_before : (byte ≡ 5) ↔ Related before t a b
  pub is_overlaps : (byte ≡ 6) ↔ Related overlaps t a b
  pub is_includes : (byte ≡ 7) ↔ Related includes t a b
  -- of runs begun in this order it names the order in which their lines stand; otherwise it is 0
  pub order : a < b → b < length t.runs → byte ≡ name_of (word_of t.lines (run_at t a) (run_at t b))
  pub otherwise : ((a < b) × (b < length t.runs) → ⊥) → byte ≡ 0

-- the record r and the work area w are those of the accepted lines of log: at the place that the layout has for two runs stands
-- their byte, and 0 at a place that it has for none
pub record Settled (lay : Layout) (log : List ℕ) (r : Record) (w : List ℕ) : Type 0 where
  pub trace : Trace
  pub left : Left lay log trace r w
  pub notes : (a b : ℕ) → a < b → b < max_runs → Notes trace a b (get_or w (place lay a b) 0)
  pub others : (k : ℕ) → k < work_size lay → NoPair (place lay) k → get_or w k 0 ≡ 0
  -- no run has one of the three to itself, or to a run that began before it
  pub forward : (a b : ℕ) → b ≤ a → (Related before trace a b → ⊥) × (Related overlaps trace a b → ⊥) × (Related includes trace a b → ⊥)

-- and the verdict v says whether they satisfy the rule x of the file
pub record Judged (lay : Layout) (file : List ℕ) (x : Rule) (log : List ℕ) (r : Record) (w : List ℕ) (v : Verdict) : Type 0 where
  pub settled : Settled lay log r w
  pub verdict : Says settled.trace (formula_of file x) v

-- the lines of the part of a whole log that is read: those before the first that is refused are taken, and each has its verdict byte
pub record Reads (k : LogCall) (x : Rule) : Type 0 where
  pub taken : List ℕ
  pub rest : List (List ℕ)
  pub divides : lines_of (log_part k) ≡ lines_of taken ++ rest
  pub whole : k.answer.ending ≡ Ending.Read → rest ≡ []
  pub stops : (c n : ℕ) → k.answer.ending ≡ Ending.Refused c n → (rest ≢ []) × (n ≡ length (lines_of taken) + 1)
  pub settled : Settled k.layout taken k.answer.state k.work'
  pub verdicts : (n : ℕ) (part : List ℕ) (u : Trace) → n < length (lines_of (log_part k))
      → lines_of part ≡ take (suc n) (lines_of (log_part k)) → Accepted part u
      → (v : Verdict) × (get_or k.verdicts' n 0 ≡ verdict_byte v) × Says u (formula_of k.file x) v

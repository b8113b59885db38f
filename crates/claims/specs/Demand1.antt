-- Demand 1: where each call refuses, and what it leaves then; and that no call writes past what it is stated to write.
use Rattle.std.specs.Prelude.{ℕ, ◌≤◌, ◌<◌, ◌≡◌, ◌⊎◌, ◌↔◌, false, List, length, take, drop, Some, Err, Result}
use Rattle.lists.specs.Lists.{has?}
use Rattle.refusals.specs.declared.Refusal.{Refusal}
use Rattle.refusals.specs.Refusal.{number, RefusedWith}
use Rattle.lines.specs.Line.{line_limit, parsed_of}
use Rattle.lines.specs.Log.{next_line, advanced_from}
use Rattle.trace.specs.declared.Record.{Record}
use Rattle.trace.specs.declared.RunNo.{RunNo}
use Rattle.pairs.specs.Layout.{work_size}
use Rattle.relations.specs.Runs.{Relating, Conversed}
use Rattle.relations.specs.Compose.{Composition}
use Rattle.rules.specs.declared.Rule.{Rule}
use Rattle.rules.specs.Rules.{ReadsRule}
use Rattle.reading.specs.declared.Ending.TheVariants as Ending
use Rattle.reading.specs.Reading.{ended}
use Rattle.single.specs.declared.Outcome.TheVariants.{Refused}
use Rattle.single.specs.Line.{refusing}
use Rattle.tallies.specs.Tally.{refusing_with}
use Rattle.whole_log.specs.Log.{not_read, log_of, LineAt}
use Rattle.report.specs.declared.Reported.TheVariants as Reported
use Rattle.report.specs.Calls.{StartCall, LineCall, TalliedCall, LogCall, log_part, ReportCall}
use Rattle.report.specs.Calls.{LongEnough, Lent, Beyond}
use Rattle.grammar.specs.MetBytes.{MetBytes}
use Rattle.grammar.specs.MetRule.{MetRule}
use Rattle.accepted_logs.specs.MetAfter.{MetAfter}
use Rattle.claims.specs.WhereMet.{Met, MetTally, MetLog, MetRelate}

-- "If any log, rule file, carried record or lent buffer comes in, the call ends and does nothing undefined. Each
-- refusal is on the numbered list, is met just where the list says, and changes nothing that earlier lines had
-- settled."
-- The list goes to 27; which of them a call answers is said where it is met.
abbrev pub Listed : ℕ → Type 0
Listed c = (1 ≤ c) × (c ≤ 27)

pub record Refuses (c : ℕ) (answered met kept : Type 0) : Type 0 where
  pub listed : answered → Listed c
  pub just_where : answered ↔ met
  pub changes_nothing : answered → kept

-- A whole log that is refused with c at line n: for a buffer or the rule, before any line is read, and nothing is
-- touched; or at the first line that is refused of the part that is read (`Modes`), and the record, the work area and
-- the verdict bytes are those that the call leaves for the lines before.
pub data LogKept (k : LogCall) (c n : ℕ) : Type 0 where
  unread : n ≡ 0 → k.answer ≡ not_read c → k.work' ≡ k.work → k.verdicts' ≡ k.verdicts → LogKept k c n
  stopped : (f : LineAt (log_part k) n) → k.answer ≡ ended f.trace (Ending.Refused c n)
      → log_of k.layout k.file f.before k.work k.verdicts
      ≡ (ended f.trace Ending.Read, k.work', k.verdicts')
      → LogKept k c n

pub record Demand1 : Type 0 where
  pub start : (k : StartCall) (c : ℕ)
      → Refuses c (RefusedWith c k.answer.outcome)
      ((length k.work < work_size k.layout) × (c ≡ 20)) (k.work' ≡ k.work)
  pub line : (k : LineCall) (c : ℕ)
      → Refuses c (k.answer.outcome ≡ Refused c)
      (Met k.layout k.file k.state k.work (λ t n. MetAfter t k.line n) c)
      ((k.answer ≡ refusing k.state c) × (k.work' ≡ k.work))
  pub tallied : (k : TalliedCall) (c : ℕ)
      → Refuses c (k.answer.outcome ≡ Refused c)
      (Met k.layout k.file k.state k.work (MetTally k.tally k.line) c)
      ((k.answer ≡ refusing_with k.state k.tally c) × (k.work' ≡ k.work))
  pub log : (k : LogCall) (c n : ℕ)
      → Refuses c (k.answer.ending ≡ Ending.Refused c n)
      (MetLog k.layout k.file (log_part k) k.work k.verdicts c n) (LogKept k c n)
  pub report : (k : ReportCall) (c : ℕ)
      → Refuses c (k.answer ≡ Reported.Refused c) ((LongEnough k → ⊥) × (c ≡ 20))
      ((k.work' ≡ k.work) × (k.verdicts' ≡ k.verdicts) × (k.text' ≡ k.text))
  -- calls that are lent no buffer
  pub relate : (r : Record) (a b : RunNo) (v : Result ℕ Refusal) → Relating r a b v → (c : ℕ)
      → Refuses c (RefusedWith c v) (MetRelate r a.0 b.0 c) (Unit {0})
  pub compose : (a b : ℕ) (v : Result ℕ Refusal) → Composition a b v → (c : ℕ)
      → Refuses c (RefusedWith c v) (((63 < a) ⊎ (63 < b)) × (c ≡ 14)) (Unit {0})
  pub converse : (a : ℕ) (v : Result ℕ Refusal) → Conversed a v → (c : ℕ)
      → Refuses c (RefusedWith c v) ((63 < a) × (c ≡ 14)) (Unit {0})
  -- reading: a rule file, one line, the next line of a log
  pub rule : (file : List ℕ) (q : Result Rule Refusal) → ReadsRule file q → (c : ℕ)
      → Refuses c (RefusedWith c q) (MetRule file c) (Unit {0})
  pub parse : (line : List ℕ) (c : ℕ) → Refuses c (RefusedWith c (parsed_of line)) (MetBytes line c) (Unit {0})
  pub next : (log : List ℕ) (p c : ℕ)
      → Refuses c ((e : Refusal) × ((next_line log p ≡ Some (Err e)) × (number e ≡ c)))
      ((p < length log) × (has? 10 (take line_limit (drop p log)) ≡ false) × (c ≡ 11)) ((advanced_from log p).place ≡ p)
  -- "no call changes a byte past those it is stated to write; work bytes past 16,384 never change", here those past the
  -- size of the layout named; of typed rules it is said in `Reading` and `Writing`
  pub untouched : (w w' : List ℕ) (n : ℕ) → Lent w w' n → Beyond n w w'

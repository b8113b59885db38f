-- How the runs of a log relate, and what the relating call answers.
use Rattle.std.specs.Prelude.{ℕ, ◌<◌, ◌≡◌, ◌≢◌, ◌↔◌, Bool, ◌&&◌, cond, List, eqb, ltb, length, Result, Ok, Err}
use Rattle.lists.specs.Tells.{Tells}
use Rattle.refusals.specs.declared.Refusal.{Refusal}
use Rattle.refusals.specs.declared.Refusal.TheVariants.{NoRecord, NoFinishedRun, SameRun}
use Rattle.trace.specs.declared.Record.{Record}
use Rattle.trace.specs.declared.Run.{Run}
use Rattle.trace.specs.declared.RunNo.{RunNo}
use Rattle.trace.specs.Trace.{Trace, run_at, begin_line, end_line, start, finish, Finished, Accepted}
use Rattle.trace.specs.Record.{record_of, Valid}
use Rattle.relations.specs.Relation.{Relation, Relates, relation_of, OneHolds, converse}
use Rattle.relations.specs.Sets.{Member, converse_of, conversed_of}
use Rattle.relations.specs.declared.Span.{Span}

abbrev pub span_of : Run → Span
span_of r = record { start = begin_line r; finish = end_line r }

-- "A run is finished once its end line is among the lines read": k is the number of a finished run of t
pub record FinishedRun (t : Trace) (k : ℕ) : Type 0 where
  pub begun : k < length t.runs
  pub ended : Finished (run_at t k)

-- "what relates one to another is the relation that start and finish under "Meaning" give": r relates run x of t to run y
abbrev pub RelatesRuns : Relation → Trace → ℕ → ℕ → Type 0
RelatesRuns r t x y = Relates r (start t x) (finish t x) (start t y) (finish t y)

-- the number of the relation of run x of t to run y
abbrev pub relation_in : Trace → ℕ → ℕ → ℕ
relation_in t x y = relation_of (start t x) (finish t x) (start t y) (finish t y)

-- ── relating two runs ──
abbrev pub finished? : Trace → ℕ → Bool
finished? t k = ltb 0 (end_line (run_at t k))

-- "One call takes a record and two run numbers and answers their one relation by its number", of the record of t. "22 a run
-- number with no finished run; 23 the same finished run twice"
unfoldable pub relate_in : Trace → ℕ → ℕ → Result ℕ Refusal
relate_in t a b =
    cond (finished? t a && finished? t b) (cond (eqb a b) (Err SameRun) (Ok (relation_in t a b))) (Err NoFinishedRun)

-- a and b are different finished runs of t, and the relation of number n, and no other, relates a to b
pub record RelatedAs (t : Trace) (a b n : ℕ) : Type 0 where
  pub first : FinishedRun t a
  pub second : FinishedRun t b
  pub different : a ≢ b
  pub one : OneHolds (start t a) (finish t a) (start t b) (finish t b) n

-- what the answer w says of runs a and b of t
pub record Answers (t : Trace) (a b : ℕ) (w : Result ℕ Refusal) : Type 0 where
  pub answer : w ≡ relate_in t a b
  pub relation : (n : ℕ) → (w ≡ Ok n) ↔ RelatedAs t a b n
  pub unfinished : (w ≡ Err NoFinishedRun) ↔ (FinishedRun t a × FinishedRun t b → ⊥)
  pub same : (w ≡ Err SameRun) ↔ (FinishedRun t a × (a ≡ b))

-- The relating call's answer, for any record: what it says of every accepted log that leaves the record, and 21 where none does;
-- one or the other is the case.
pub record Relating (r : Record) (a b : RunNo) (w : Result ℕ Refusal) : Type 0 where
  pub decided : (k : Bool) × Tells k (Valid r)
  pub known : (log : List ℕ) (t : Trace) → Accepted log t → r ≡ record_of t → Answers t a.0 b.0 w
  pub unknown : (Valid r → ⊥) → w ≡ Err NoRecord

-- ── sets ──
-- a member of the set c relates run x of t to run y
pub record RelatedBy (c : ℕ) (t : Trace) (x y : ℕ) : Type 0 where
  pub relation : Relation
  pub member : Member relation c
  pub relates : RelatesRuns relation t x y

-- What the call for the converse of the set c answers. Of an answer d: the converses of c's members are its members, its own
-- converse is c, and it relates two runs of any log exactly if c relates them read backwards.
pub record Conversed (c : ℕ) (w : Result ℕ Refusal) : Type 0 where
  pub answer : w ≡ conversed_of c
  pub is_set : (d : ℕ) → w ≡ Ok d → d < 64
  pub members : (d : ℕ) → w ≡ Ok d → (r : Relation) → Member r c ↔ Member (converse r) d
  pub twice : (d : ℕ) → w ≡ Ok d → converse_of d ≡ c
  pub backwards : (d : ℕ) → w ≡ Ok d → (t : Trace) (x y : ℕ) → RelatedBy c t x y ↔ RelatedBy d t y x

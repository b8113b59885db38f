-- The composition of two sets of relations, and demand 3: what it says of accepted logs.
use Rattle.std.specs.Prelude.{ℕ, ◌<◌, ◌≡◌, ◌≢◌, ◌↔◌, Bool, ◌&&◌, cond, List, leb, length, Result, Ok, Err}
use Rattle.refusals.specs.declared.Refusal.{Refusal}
use Rattle.refusals.specs.declared.Refusal.TheVariants.{NoSet}
use Rattle.trace.specs.Trace.{Trace, Accepted}
use Rattle.relations.specs.Relation.{Relation, before, after, overlaps, overlapped, includes, during, number}
use Rattle.relations.specs.Sets.{Member, member?, any?, set_of}
use Rattle.relations.specs.Runs.{FinishedRun, RelatesRuns, RelatedBy}

-- ── what a log shows ──
-- "some accepted log, of any length, has three different finished runs where a member of the first set relates the first run
-- to the second, a member of the second set relates the second to the third, and the relation taken relates the first to the
-- third": the log, the sets a and b, the relation r and the runs x, y and z
pub record Shown (log : List ℕ) (a b : ℕ) (r : Relation) : Type 0 where
  pub trace : Trace
  pub accepted : Accepted log trace
  pub x : ℕ
  pub y : ℕ
  pub z : ℕ
  pub x_finished : FinishedRun trace x
  pub y_finished : FinishedRun trace y
  pub z_finished : FinishedRun trace z
  -- "Different runs are those with different run numbers"
  pub x_not_y : x ≢ y
  pub y_not_z : y ≢ z
  pub x_not_z : x ≢ z
  pub x_y : RelatedBy a trace x y
  pub y_z : RelatedBy b trace y z
  pub x_z : RelatesRuns r trace x z

-- "an accepted log with three runs and no others shows it"
pub record ShownByThree (a b : ℕ) (r : Relation) : Type 0 where
  pub log : List ℕ
  pub shown : Shown log a b r
  pub three : length shown.trace.runs ≡ 3

-- ── the composition ──
-- the set of the relations that can hold from the first run to the third, of one relation from the first to the second and one
-- from the second to the third
abbrev pub single : Relation → Relation → ℕ
single before before = 1
single before after = 63
single before overlaps = 1
single before overlapped = 37
single before includes = 1
single before during = 37
single after before = 63
single after after = 2
single after overlaps = 42
single after overlapped = 2
single after includes = 2
single after during = 42
single overlaps before = 1
single overlaps after = 26
single overlaps overlaps = 5
single overlaps overlapped = 60
single overlaps includes = 21
single overlaps during = 36
single overlapped before = 21
single overlapped after = 2
single overlapped overlaps = 60
single overlapped overlapped = 10
single overlapped includes = 26
single overlapped during = 40
single includes before = 21
single includes after = 26
single includes overlaps = 20
single includes overlapped = 24
single includes includes = 16
single includes during = 60
single during before = 1
single during after = 2
single during overlaps = 37
single during overlapped = 42
single during includes = 63
single during during = 32

-- whether r is in the single composition of a member p of a and a member q of b
abbrev pub through? : ℕ → ℕ → Relation → Bool
through? a b r = any? (λ p. member? p a && any? (λ q. member? q b && member? r (single p q)))

-- the composition that is reported: the union of the single compositions of the members
unfoldable pub compose_of : ℕ → ℕ → ℕ
compose_of a b = set_of (through? a b)

-- "takes two sets and answers a set, the composition that demand 3 calls reported, or refuses with 14"
abbrev pub composed_of : ℕ → ℕ → Result ℕ Refusal
composed_of a b = cond (leb a 63 && leb b 63) (Ok (compose_of a b)) (Err NoSet)

-- ── demand 3 ──
-- For the sets a and b and the relation r: r is in the composition exactly when some accepted log shows it, and wherever a log
-- shows it, one with three runs and no others does.
pub record ExactlyShown (a b : ℕ) (r : Relation) : Type 0 where
  pub exactly : Member r (compose_of a b) ↔ ((log : List ℕ) × Shown log a b r)
  pub by_three : (log : List ℕ) → Shown log a b r → ShownByThree a b r

-- over all pairs of sets, the empty set included, and all relations
abbrev pub CompositionLaw : Type 0
CompositionLaw = (a b : ℕ) → a < 64 → b < 64 → (r : Relation) → ExactlyShown a b r

-- What the composing call answers for any two numbers, and demand 3.
pub record Composition (a b : ℕ) (w : Result ℕ Refusal) : Type 0 where
  pub answer : w ≡ composed_of a b
  pub is_set : (c : ℕ) → w ≡ Ok c → c < 64
  pub demand-3 : CompositionLaw

-- ── the worked cases ──
-- "Compositions: P2 before, before: 1. P3 before, after: 63. P4 overlaps, overlaps: 5. P5 before, during: 37. P6 overlaps,
-- includes: 21. P7 includes, during: 60. P8 set 0 with 63: 0."
pub record Examples : Type 0 where
  pub P2 : compose_of (number before) (number before) ≡ 1
  pub P3 : compose_of (number before) (number after) ≡ 63
  pub P4 : compose_of (number overlaps) (number overlaps) ≡ 5
  pub P5 : compose_of (number before) (number during) ≡ 37
  pub P6 : compose_of (number overlaps) (number includes) ≡ 21
  pub P7 : compose_of (number includes) (number during) ≡ 60
  pub P8 : compose_of 0 63 ≡ 0

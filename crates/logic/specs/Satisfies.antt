-- First-order interval logic (document 000, section 3) over the lines read so far, which the trace t stands for.
-- Nothing here depends on how a rule is stored.
use Rattle.std.specs.Prelude.{ℕ, ◌≡◌, ◌≢◌, cond, List, eqb}
use Rattle.labels.specs.Label.{text}
use Rattle.labels.specs.Table.{label_at}
use Rattle.trace.specs.Trace.{Trace, run_at}
use Rattle.relations.specs.Relation as Relation
use Rattle.relations.specs.Runs.{FinishedRun, RelatesRuns}
use Rattle.rules.specs.Formula.{Pairing, before, overlaps, includes, same, Formula, both, neg, exists, has, pair}

-- "ρ is a mapping from the interval variables to a domain": the number of the run that each variable stands for
abbrev pub Binding : Type 0
Binding = ℕ → ℕ

-- "ρ[A ↦ j], the mapping that is identical to ρ but returns the value j for the variable A"
abbrev pub bind : Binding → ℕ → ℕ → Binding
bind ρ v j w = cond (eqb v w) j (ρ w)

-- "data(j) is the data value associated with the interval": run j of t has a label, and its capitals are l.
-- A run without a label (number 0) has none: "a missing label matches nothing, not even itself".
pub record HasLabel (t : Trace) (j : ℕ) (l : List ℕ) : Type 0 where
  pub labelled : (run_at t j).label.0 ≢ 0
  pub bytes : text (label_at t.labels (run_at t j).label.0) ≡ l

-- runs j and k of t are finished, and start and finish give the relation r
pub record Related (r : Relation.Relation) (t : Trace) (j k : ℕ) : Type 0 where
  pub first : FinishedRun t j
  pub second : FinishedRun t k
  pub relates : RelatesRuns r t j k

-- "some label belongs to both"
pub record SameLabel (t : Trace) (j k : ℕ) : Type 0 where
  pub label : List ℕ
  pub first : HasLabel t j label
  pub second : HasLabel t k label

-- what can hold between two runs: a relation of their start and finish, or that some label belongs to both
pub data Between : Type 0 where
  related : Relation.Relation → Between
  alike : Between

-- what each pairing of variables A and B says of ρ(A) = j and ρ(B) = k, in the order of 000:
abbrev pub between : Pairing → Between
-- (A < B) if finish(j) < start(k)
between before = related Relation.before
-- (A o B) if start(j) < start(k) < finish(j) < finish(k)
between overlaps = related Relation.overlaps
-- (A i B) if start(j) < start(k) < finish(k) < finish(j)
between includes = related Relation.includes
-- same(A, B): some label belongs to both
between same = alike

abbrev pub HoldsBetween : Between → Trace → ℕ → ℕ → Type 0
HoldsBetween (related r) t j k = Related r t j k
HoldsBetween alike t j k = SameLabel t j k

-- (ρ, σ) ⊨ φ, in the order of 000:
unfoldable pub Satisfies : Trace → Binding → Formula → Type 0
-- (φ ∧ ψ) if φ and ψ
Satisfies t ρ (both f g) = Satisfies t ρ f × Satisfies t ρ g
-- ¬φ if not φ
Satisfies t ρ (neg f) = Satisfies t ρ f → ⊥
-- A(d) if ρ(A) = j and data(j) = d
Satisfies t ρ (has v l) = HasLabel t (ρ v) l
-- (A < B), (A o B), (A i B), same(A, B) if it holds between ρ(A) and ρ(B)
Satisfies t ρ (pair p v w) = HoldsBetween (between p) t (ρ v) (ρ w)
-- ∃A φ if there are begin(j) and end(j) among the lines with φ under ρ[A ↦ j]
Satisfies t ρ (exists v f) = (j : ℕ) × FinishedRun t j × Satisfies t (bind ρ v j) f

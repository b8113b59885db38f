-- The calls on slips: a rule file, a record in bytes, and a slip in bytes, a run a byte. "20 a lent buffer shorter than
-- stated". `slip_bytes` has the number of each answer.
use Rattle.std.specs.Prelude.{ℕ, ◌<◌, ◌≤◌, ◌≡◌, ◌↔◌, List, length}
use Rattle.rules.specs.Limits.{max_nested}
use Rattle.record_bytes.specs.Form.{record_size, record_from}
use Rattle.answer_numbers.specs.Numbers.{refusal}
use Rattle.slip_form.specs.Slips.{slip_runs}
use Rattle.slip_form.specs.declared.Slip.{Slip}
use Rattle.slips.specs.Answers.{Finding, Passing, with_slip, without_slip, FindsFirst, ReadsSlip}
use Rattle.slip_bytes.specs.InBytes.{slip_from, found_numbered, passing_number}

-- ── the first slip ──
-- What is found for the record that the bytes b hold; its number, and the bytes y of the slip. 0 says that none passes,
-- and without a slip the bytes stay.
pub record FindsBytes (file b y : List ℕ) (n : ℕ) (y' : List ℕ) : Type 0 where
  pub found : Finding
  pub finds : FindsFirst file (record_from b) found
  pub answer : ◌≡◌ {A = ℕ × List ℕ} (n, y') (found_numbered found y)
  pub none : (n ≡ 0) ↔ (found ≡ without_slip)
  pub left : ((x : Slip) → found ≡ with_slip x → ⊥) → y' ≡ y

-- the answer and the bytes of the slip, for every input: 20 comes first
pub record FindsNumber (file b y : List ℕ) (n : ℕ) (y' : List ℕ) : Type 0 where
  pub short_record : length b < record_size → ◌≡◌ {A = ℕ × List ℕ} (n, y') (refusal 20, y)
  pub short_slip : length y < max_nested → ◌≡◌ {A = ℕ × List ℕ} (n, y') (refusal 20, y)
  pub long : record_size ≤ length b → max_nested ≤ length y → FindsBytes file b y n y'

-- ── whether a slip passes ──
-- the same for the slip that the bytes y are: as many runs as bytes; up to four are these bytes, and more are too many
pub record PassesBytes (file b y : List ℕ) (n : ℕ) : Type 0 where
  pub passing : Passing
  pub reads : ReadsSlip file (record_from b) (slip_from y) passing
  pub counted : length (slip_runs (slip_from y)) ≡ length y
  pub runs : length y ≤ max_nested → slip_runs (slip_from y) ≡ y
  pub answer : n ≡ passing_number passing

pub record PassesNumber (file b y : List ℕ) (n : ℕ) : Type 0 where
  pub short : length b < record_size → n ≡ refusal 20
  pub long : record_size ≤ length b → PassesBytes file b y n

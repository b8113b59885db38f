-- Sets of relations. "A set is a sum of these, 0 to 63, and its members are the relations summed."
use Rattle.std.specs.Prelude.{ℕ, ◌+◌, ◌/◌, ◌%◌, ◌≡◌, Bool, ◌||◌, cond, eqb, leb, Result, Ok, Err}
use Rattle.refusals.specs.declared.Refusal.{Refusal}
use Rattle.refusals.specs.declared.Refusal.TheVariants.{NoSet}
use Rattle.relations.specs.Relation.{Relation, before, after, overlaps, overlapped, includes, during, number, converse}

-- r is a member of the set c: its number, a power of two, is one of those summed
abbrev pub Member : Relation → ℕ → Type 0
Member r c = c / number r % 2 ≡ 1

abbrev pub member? : Relation → ℕ → Bool
member? r c = eqb (c / number r % 2) 1

-- whether some relation passes the test
abbrev pub any? : (Relation → Bool) → Bool
any? f = f before || (f after || (f overlaps || (f overlapped || (f includes || f during))))

-- the sum of the relations that pass the test
abbrev pub set_of : (Relation → Bool) → ℕ
set_of f =
    cond (f before) (number before) 0 + cond (f after) (number after) 0 + cond (f overlaps) (number overlaps) 0
    + cond (f overlapped) (number overlapped) 0 + cond (f includes) (number includes) 0 + cond (f during) (number during) 0

-- the converses of a set's members
unfoldable pub converse_of : ℕ → ℕ
converse_of c = set_of (λ r. member? (converse r) c)

-- "14 a relation set above 63"
abbrev pub conversed_of : ℕ → Result ℕ Refusal
conversed_of c = cond (leb c 63) (Ok (converse_of c)) (Err NoSet)

-- The six relations, by the positions of two runs: the first starts at s and finishes at f, the second starts at t and
-- finishes at g. "start and finish as line numbers, compared for now in 64-bit numbers"
use Rattle.std.specs.Prelude.{ℕ, ◌<◌, ◌≡◌, ◌≢◌, Bool, ◌&&◌, cond, ltb}

-- "before 1, after 2, overlaps 4, overlapped by 8, includes 16, during 32"
pub data Relation : Type 0 where
  before after overlaps overlapped includes during : Relation

abbrev pub number : Relation → ℕ
number before = 1
number after = 2
number overlaps = 4
number overlapped = 8
number includes = 16
number during = 32

-- "2, 8 and 32 are the converses of 1, 4 and 16"
abbrev pub converse : Relation → Relation
converse before = after
converse after = before
converse overlaps = overlapped
converse overlapped = overlaps
converse includes = during
converse during = includes

-- four numbers, each below the next
abbrev pub Rising : ℕ → ℕ → ℕ → ℕ → Type 0
Rising a b c d = (a < b) × (b < c) × (c < d)

abbrev pub rising? : ℕ → ℕ → ℕ → ℕ → Bool
rising? a b c d = ltb a b && (ltb b c && ltb c d)

-- "before: finish of a < start of b. overlaps: start a < start b < finish a < finish b. includes: start a < start b <
-- finish b < finish a"; and the converses, with the two runs exchanged
abbrev pub Relates : Relation → ℕ → ℕ → ℕ → ℕ → Type 0
Relates before s f t g = f < t
Relates after s f t g = g < s
Relates overlaps s f t g = Rising s t f g
Relates overlapped s f t g = Rising t s g f
Relates includes s f t g = Rising s t g f
Relates during s f t g = Rising t s f g

-- whether the relation relates them
abbrev pub relates? : Relation → ℕ → ℕ → ℕ → ℕ → Bool
relates? before s f t g = ltb f t
relates? after s f t g = ltb g s
relates? overlaps s f t g = rising? s t f g
relates? overlapped s f t g = rising? t s g f
relates? includes s f t g = rising? s t g f
relates? during s f t g = rising? t s f g

-- The number of the relation that relates them, or 0. Several can hold of numbers that are no runs' positions, as where a start
-- is not below its finish: there the first of them is named, in the order of their numbers.
unfoldable pub relation_of : ℕ → ℕ → ℕ → ℕ → ℕ
relation_of s f t g =
    cond (relates? before s f t g) (number before)
    (cond (relates? after s f t g) (number after)
    (cond (relates? overlaps s f t g) (number overlaps)
    (cond (relates? overlapped s f t g) (number overlapped)
    (cond (relates? includes s f t g) (number includes)
    (cond (relates? during s f t g) (number during) 0)))))

-- "Between two different finished runs one of six holds": exactly one relation holds, and n is its number
pub record OneHolds (s f t g n : ℕ) : Type 0 where
  pub relation : Relation
  pub is : number relation ≡ n
  pub holds : Relates relation s f t g
  pub only : (q : Relation) → Relates q s f t g → q ≡ relation

-- a start or finish of the one is none of the other
abbrev pub Apart : ℕ → ℕ → ℕ → ℕ → Type 0
Apart s f t g = (s ≢ t) × (s ≢ g) × (f ≢ t) × (f ≢ g)

-- What comparing the four positions answers, for all numbers, and what the answer means.
pub record Compared (s f t g n : ℕ) : Type 0 where
  pub answer : n ≡ relation_of s f t g
  -- an answer other than 0 is the number of a relation that holds
  pub holds : n ≢ 0 → (r : Relation) × (number r ≡ n) × Relates r s f t g
  -- 0: none of the six holds
  pub none : n ≡ 0 → (r : Relation) → Relates r s f t g → ⊥
  -- runs that start before they finish, at four different lines: one relation holds, and it is the one answered
  pub one : s < f → t < g → Apart s f t g → OneHolds s f t g n

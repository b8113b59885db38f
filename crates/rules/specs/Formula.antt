-- The syntax of the published logic (document 000, section 3): a variable is a number, and a data value is a label, its
-- bytes. Nothing here depends on how a rule is stored.
use Rattle.std.specs.Prelude.{ℕ, zero, suc, Bool, true, false, ◌&&◌, ◌||◌, List, eqb}

-- what holds between two variables v and w: v before w, v overlaps w, v includes w; v and w have the same label
pub data Pairing : Type 0 where
  before overlaps includes same : Pairing

-- f and g; not f; some v: f; v has the label; what holds between v and w
pub data Formula : Type 0 where
  both : Formula → Formula → Formula
  neg : Formula → Formula
  exists : ℕ → Formula → Formula
  has : ℕ → List ℕ → Formula
  pair : Pairing → ℕ → ℕ → Formula

-- which variables a "some" around the place binds
abbrev pub Scope : Type 0
Scope = ℕ → Bool

abbrev pub no_scope : Scope
no_scope v = false

-- inside a "some" that binds v
abbrev pub enter : Scope → ℕ → Scope
enter s v w = eqb v w || s w

-- "Every variable used stands inside a "some" that binds it"
unfoldable pub scoped : Formula → Scope → Bool
scoped (both f g) s = scoped f s && scoped g s
scoped (neg f) s = scoped f s
scoped (exists v f) s = scoped f (enter s v)
scoped (has v l) s = s v
scoped (pair p v w) s = s v && s w

-- f of one less; false at 0
abbrev pub one_less : ℕ → (ℕ → Bool) → Bool
one_less zero f = false
one_less (suc n) f = f n

-- at most n "some" lie one inside another
unfoldable pub shallow : ℕ → Formula → Bool
shallow n (both f g) = shallow n f && shallow n g
shallow n (neg f) = shallow n f
shallow n (exists v f) = one_less n (λ m. shallow m f)
shallow n (has v l) = true
shallow n (pair p v w) = true

-- Laws of tests: what passes a list of tests passes each; a test of all six relations, and one of some relation among the six.
use mathlib.Core.Path.{◌≡◌, refl, sym, subst}
use mathlib.Core.Bool.{Bool, true, false, not, ◌&&◌, ◌||◌, beq}
use mathlib.Core.List.{List, [], ◌∷◌}
use lib.Dec.{T}
use Rattle.relations.specs.Relation.{Relation, before, after, overlaps, overlapped, includes, during}
use Rattle.relations.specs.Sets.{any?}

-- ── lists of tests ──
abbrev pub every? : List Bool → Bool
every? [] = true
every? (b ∷ bs) = b && every? bs

abbrev pub Every : List Bool → Type 0
Every [] = Unit {0}
Every (b ∷ bs) = T b × Every bs

pub two : (a b : Bool) → T (a && b) → T a × T b
two true b t = (tt, t)
two false b t = absurd t

pub every_one : (bs : List Bool) → T (every? bs) → Every bs
every_one [] t = tt
every_one (b ∷ bs) t = let h = two b (every? bs) t in (h.0, every_one bs h.1)

pub implied : (a b : Bool) → T (not a || b) → T a → T b
implied true b t u = t
implied false b t u = absurd u

pub joined : (a b : Bool) → T a → T b → T (a && b)
joined true b t u = u
joined false b t u = absurd t

or_left : (a b : Bool) → T a → T (a || b)
or_left true b t = tt
or_left false b t = absurd t

or_right : (a b : Bool) → T b → T (a || b)
or_right true b t = tt
or_right false b t = t

pub same_left : (a b : Bool) → T (beq a b) → T a → T b
same_left true true t u = tt
same_left true false t u = t
same_left false true t u = tt
same_left false false t u = u

pub same_right : (a b : Bool) → T (beq a b) → T b → T a
same_right true true t u = tt
same_right true false t u = tt
same_right false true t u = t
same_right false false t u = u

-- ── the six relations ──
abbrev pub six : (Relation → Bool) → List Bool
six f = f before ∷ f after ∷ f overlaps ∷ f overlapped ∷ f includes ∷ f during ∷ []

abbrev pub all? : (Relation → Bool) → Bool
all? f = every? (six f)

pub all_at : (f : Relation → Bool) → T (all? f) → (r : Relation) → T (f r)
all_at f t before = (every_one (six f) t).0
all_at f t after = (every_one (six f) t).1.0
all_at f t overlaps = (every_one (six f) t).1.1.0
all_at f t overlapped = (every_one (six f) t).1.1.1.0
all_at f t includes = (every_one (six f) t).1.1.1.1.0
all_at f t during = (every_one (six f) t).1.1.1.1.1.0

-- one of the first relation or the later ones
one_of : (f : Relation → Bool) (r : Relation) (b : Bool) → (T b → (s : Relation) × T (f s)) → T (f r || b) → (s : Relation) × T (f s)
one_of f r b k t = go (f r) refl t
  where
    go : (a : Bool) → f r ≡ a → T (a || b) → (s : Relation) × T (f s)
    go true e u = (r, subst T (sym e) tt)
    go false e u = k u

pub any_one : (f : Relation → Bool) → T (any? f) → (r : Relation) × T (f r)
any_one f =
    one_of f before _ (one_of f after _ (one_of f overlaps _ (one_of f overlapped _ (one_of f includes _ (λ t. (during, t))))))

pub any_of : (f : Relation → Bool) (r : Relation) → T (f r) → T (any? f)
any_of f before t = or_left (f before) _ t
any_of f after t = or_right (f before) _ (or_left (f after) _ t)
any_of f overlaps t = or_right (f before) _ (or_right (f after) _ (or_left (f overlaps) _ t))
any_of f overlapped t = or_right (f before) _ (or_right (f after) _ (or_right (f overlaps) _ (or_left (f overlapped) _ t)))
any_of f includes t =
    or_right (f before) _ (or_right (f after) _ (or_right (f overlaps) _ (or_right (f overlapped) _ (or_left (f includes) _ t))))
any_of f during t =
    or_right (f before) _ (or_right (f after) _ (or_right (f overlaps) _ (or_right (f overlapped) _ (or_right (f includes) _ t))))

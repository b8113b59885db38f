-- The tests by sets are the relations by positions: the given run goes from line s to line f, the other from line t to line g.
use Prim.Native.Nat.{ℕ, ◌+◌, ◌<◌}
use mathlib.Core.Path.{◌≡◌, refl, sym, ap, ap₂, ◌∙◌}
use mathlib.Core.Bool.{Bool, true, false, not, ◌&&◌, and-true, and-false}
use native.Mathlib.Omega.{arith}
use borrow.Author.Tests.{ltb-true, lt-ltb, le-ltb, eq-eqb, ne_eqb}
use lib.Dec.{eqb, ltb}
use Rattle.lists.proofs.Cases.{either_lt, either_eq, and_left, and_right}
use Rattle.relations.specs.Relation.{rising?}
use Rattle.logic.specs.Shown.{same_number}
use Rattle.rows.specs.Values.{less, holds}

pub later : (a b : ℕ) → not (ltb a (b + 1)) ≡ ltb b a
later a b = either_lt b a (λ l. rw (lt-ltb b a l, le-ltb a (b + 1) (omega arith)) refl) (λ l. rw (le-ltb b a l, lt-ltb a (b + 1) (omega arith)) refl)

swap : (a b : Bool) → (a && b) ≡ (b && a)
swap true b = sym (and-true b)
swap false b = sym (and-false b)

-- a test that another one implies can be added in front
with_implied : (x d : Bool) → (x ≡ true → d ≡ true) → x ≡ (d && x)
with_implied true d h = sym (and-true d ∙ h refl)
with_implied false d h = sym (and-false d)

regroup : (a b c : Bool) → ((a && b) && c) ≡ (b && (a && c))
regroup true true c = refl
regroup true false c = refl
regroup false true c = refl
regroup false false c = refl

turn : (a b c : Bool) → ((a && b) && c) ≡ (a && (c && b))
turn true b c = swap b c
turn false b c = refl

module _ (s f t g : ℕ) (begins : s < f) (other : 0 < g → t < g) where
  -- a finish that comes after a line is no open run's
  past : (a : ℕ) → ltb a g ≡ true → ltb 0 g ≡ true
  past a e = let l = ltb-true a g e in lt-ltb 0 g (omega arith)

  pub before_first : less true (ltb t (f + 1)) (ltb g 1) ≡ (ltb 0 g && holds 0 s f t g)
  unfolding holds
  before_first = ap₂ ◌&&◌ (later t f) (later g 0) ∙ swap (ltb f t) (ltb 0 g)

  pub overlaps_first : less (ltb t f) (ltb t (s + 1)) (ltb g (f + 1)) ≡ (ltb 0 g && holds 1 s f t g)
  unfolding holds
  overlaps_first =
      ap₂ (λ (x y : Bool). (ltb t f && x) && y) (later t s) (later g f) ∙ regroup (ltb t f) (ltb s t) (ltb f g)
      ∙ with_implied (rising? s t f g) (ltb 0 g) (λ e. past f (and_right (ltb t f) (ltb f g) (and_right (ltb s t) (ltb t f && ltb f g) e)))

  -- a finished run starts before it finishes
  forward-added : (x y : Bool) → ((x && y) && ltb 0 g) ≡ (ltb 0 g && (y && (ltb t g && x)))
  forward-added x y =
      either_lt 0 g (λ l. rw (lt-ltb 0 g l, lt-ltb t g (other l), and-true (x && y)) (swap x y)) (λ l. rw (le-ltb 0 g l) (and-false (x && y)))

  pub includes_first : less (ltb g f) (ltb t (s + 1)) (ltb g 1) ≡ (ltb 0 g && holds 2 s f t g)
  unfolding holds
  includes_first = ap₂ (λ (x y : Bool). (ltb g f && x) && y) (later t s) (later g 0) ∙ forward-added (ltb g f) (ltb s t)

  pub before_second : (ltb g s && not (ltb g 1)) ≡ (ltb 0 g && holds 0 t g s f)
  unfolding holds
  before_second = ap (λ (x : Bool). ltb g s && x) (later g 0) ∙ swap (ltb g s) (ltb 0 g)

  pub overlaps_second : ((ltb t s && ltb g f) && not (ltb g (s + 1))) ≡ (ltb 0 g && holds 1 t g s f)
  unfolding holds
  overlaps_second =
      ap (λ (x : Bool). (ltb t s && ltb g f) && x) (later g s)
      ∙ turn (ltb t s) (ltb g f) (ltb s g)
      ∙ with_implied (rising? t s g f) (ltb 0 g) (λ e. past s (and_left (ltb s g) (ltb g f) (and_right (ltb t s) (ltb s g && ltb g f) e)))

  pub includes_second : (ltb t s && not (ltb g (f + 1))) ≡ (ltb 0 g && holds 2 t g s f)
  unfolding holds
  includes_second =
      rw (lt-ltb s f begins)
      (ap (λ (x : Bool). ltb t s && x) (later g f) ∙ with_implied (ltb t s && ltb f g) (ltb 0 g) (λ e. past f (and_right (ltb t s) (ltb f g) e)))

-- the label of a rank is that of another
pub label_first : (m n : ℕ) → (not (eqb n 0) && eqb m n) ≡ same_number n m
label_first m n =
    either_eq m n (λ e. rw (eq-eqb m n e, eq-eqb n m (sym e), and-true (not (eqb n 0))) refl)
    (λ d. rw (ne_eqb m n d, ne_eqb n m (λ q. d (sym q)), and-false (not (eqb n 0))) refl)

pub label_second : (m n : ℕ) → (not (eqb n 0) && eqb m n) ≡ same_number m n
label_second m n =
    either_eq m n (λ e. rw (eq-eqb m n e, and-true (not (eqb n 0)), e) refl)
    (λ d. rw (ne_eqb m n d, and-false (not (eqb n 0))) refl)

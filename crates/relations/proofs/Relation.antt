-- Why at most one relation holds of two runs that start before they finish: any two of the six contradict each other on the order
-- of the four positions. At least one holds where no two positions are the same: which starts first and which finishes first
-- decide among the four that have a common moment.
use Prim.Native.Nat.{ℕ, ◌<◌, ◌≤◌}
use mathlib.Core.Path.{◌≡◌, refl, sym, ◌∙◌, ap}
use mathlib.Core.Logic.{◌≢◌, ◌⊎◌, inl, inr, ⊎_elim}
use mathlib.Core.Bool.{true, false, cond}
use native.Mathlib.Omega.{arith}
use borrow.Author.Tests.{ltb-true, ltb-false, lt-ltb, le-ltb}
use lib.Dec.{eqb, ltb}
use Rattle.lists.specs.Tells.{Tells}
use Rattle.lists.proofs.Cases.{either_lt, either_bool}
use Rattle.lists.proofs.Tells.{tell_yes, tell_no}
use Rattle.relations.specs.Relation.{Relation, before, after, overlaps, overlapped, includes, during, number, converse, Rising, rising?, Relates, relates?, relation_of, OneHolds, Apart, Compared}

-- ── the six ──
abbrev pub Six : (Relation → Type 0) → Type 0
Six P = P before × P after × P overlaps × P overlapped × P includes × P during

abbrev pub six_at : (P : Relation → Type 0) → Six P → (r : Relation) → P r
six_at P s before = s.0
six_at P s after = s.1
six_at P s overlaps = s.2
six_at P s overlapped = s.3
six_at P s includes = s.4
six_at P s during = s.5

-- a relation is known by its number
abbrev named : ℕ → Relation
named n =
    cond (eqb n 1) before
    (cond (eqb n 2) after (cond (eqb n 4) overlaps (cond (eqb n 8) overlapped (cond (eqb n 16) includes during))))

named-number : (r : Relation) → named (number r) ≡ r
named-number = six_at (λ r. named (number r) ≡ r) (refl, refl, refl, refl, refl, refl)

pub number_one : (q r : Relation) → number q ≡ number r → q ≡ r
number_one q r e = sym (named-number q) ∙ (ap named e ∙ named-number r)

pub number_some : (r : Relation) → number r ≢ 0
number_some = six_at (λ r. number r ≢ 0) (omega arith)

-- read backwards, the converse holds
pub relates_back : (r : Relation) (s f t g : ℕ) → Relates r s f t g → Relates (converse r) t g s f
relates_back before s f t g h = h
relates_back after s f t g h = h
relates_back overlaps s f t g h = h
relates_back overlapped s f t g h = h
relates_back includes s f t g h = h
relates_back during s f t g h = h

pub converse-twice : (r : Relation) → converse (converse r) ≡ r
converse-twice = six_at (λ r. converse (converse r) ≡ r) (refl, refl, refl, refl, refl, refl)

-- ── the tests decide ──
lt_tells : (a b : ℕ) → Tells (ltb a b) (a < b)
lt_tells a b = record { yes = ltb-true a b; no = λ e h. omega (arith, ltb-false a b e) }

pub rising_tells : (a b c d : ℕ) → Tells (rising? a b c d) (Rising a b c d)
rising_tells a b c d =
    either_lt a b
    (λ p. either_lt b c
    (λ q. either_lt c d
    (λ r. simp (lt-ltb _ _ p, lt-ltb _ _ q, lt-ltb _ _ r) (tell_yes (p, q, r)))
    (λ r. simp (lt-ltb _ _ p, lt-ltb _ _ q, le-ltb _ _ r) (tell_no (λ h. omega arith))))
    (λ q. simp (lt-ltb _ _ p, le-ltb _ _ q) (tell_no (λ h. omega arith))))
    (λ p. simp (le-ltb _ _ p) (tell_no (λ h. omega arith)))

pub relates_tells : (r : Relation) (s f t g : ℕ) → Tells (relates? r s f t g) (Relates r s f t g)
relates_tells before s f t g = lt_tells f t
relates_tells after s f t g = lt_tells g s
relates_tells overlaps s f t g = rising_tells s t f g
relates_tells overlapped s f t g = rising_tells t s g f
relates_tells includes s f t g = rising_tells s t g f
relates_tells during s f t g = rising_tells t s f g

-- ── the positions of two runs ──
module _ (s f t g : ℕ) where
  abbrev RelatesHere : Relation → Type 0
  RelatesHere r = Relates r s f t g

  holds_test : (r : Relation) → RelatesHere r → relates? r s f t g ≡ true
  holds_test r h = either_bool (relates? r s f t g) (λ e. e) (λ e. absurd ((relates_tells r s f t g).no e h))

  fails_test : (r : Relation) → (RelatesHere r → ⊥) → relates? r s f t g ≡ false
  fails_test r n = either_bool (relates? r s f t g) (λ e. absurd (n ((relates_tells r s f t g).yes e))) (λ e. e)

  -- the answer by what holds
  pub says_before : RelatesHere before → 1 ≡ relation_of s f t g
  unfolding relation_of
  says_before a = simp (lt-ltb f t a)

  pub says_after : t ≤ f → RelatesHere after → 2 ≡ relation_of s f t g
  unfolding relation_of
  says_after a b = simp (le-ltb f t a, lt-ltb g s b)

  pub says_overlaps : t ≤ f → s ≤ g → RelatesHere overlaps → 4 ≡ relation_of s f t g
  unfolding relation_of
  says_overlaps a b c = simp (le-ltb f t a, le-ltb g s b, holds_test overlaps c)

  pub says_overlapped : t ≤ f → s ≤ g → (RelatesHere overlaps → ⊥) → RelatesHere overlapped → 8 ≡ relation_of s f t g
  unfolding relation_of
  says_overlapped a b c d = simp (le-ltb f t a, le-ltb g s b, fails_test overlaps c, holds_test overlapped d)

  pub says_includes : t ≤ f → s ≤ g → (RelatesHere overlaps → ⊥) → (RelatesHere overlapped → ⊥) → RelatesHere includes → 16 ≡ relation_of s f t g
  unfolding relation_of
  says_includes a b c d e =
      simp (le-ltb f t a, le-ltb g s b, fails_test overlaps c, fails_test overlapped d, holds_test includes e)

  pub says_during : t ≤ f → s ≤ g → (RelatesHere overlaps → ⊥) → (RelatesHere overlapped → ⊥) → (RelatesHere includes → ⊥) → RelatesHere during
      → 32 ≡ relation_of s f t g
  unfolding relation_of
  says_during a b c d e h =
      simp (le-ltb f t a, le-ltb g s b, fails_test overlaps c, fails_test overlapped d, fails_test includes e, holds_test during h)

  pub says_none : t ≤ f → s ≤ g → (RelatesHere overlaps → ⊥) → (RelatesHere overlapped → ⊥) → (RelatesHere includes → ⊥) → (RelatesHere during → ⊥)
      → 0 ≡ relation_of s f t g
  unfolding relation_of
  says_none a b c d e h =
      simp (le-ltb f t a, le-ltb g s b, fails_test overlaps c, fails_test overlapped d, fails_test includes e, fails_test during h)

  -- the relation that is answered holds, or none does and the answer is 0
  abbrev Named : ℕ → Type 0
  Named n = (r : Relation) × (number r ≡ n) × RelatesHere r

  abbrev NoneOf : ℕ → Type 0
  NoneOf n = (n ≡ 0) × ((r : Relation) → RelatesHere r → ⊥)

  by_test : {C : Type 0} (r : Relation) → (RelatesHere r → C) → ((RelatesHere r → ⊥) → C) → C
  by_test r p q =
      either_bool (relates? r s f t g) (λ e. p ((relates_tells r s f t g).yes e)) (λ e. q ((relates_tells r s f t g).no e))

  pub which : Named (relation_of s f t g) ⊎ NoneOf (relation_of s f t g)
  which =
      by_test before (λ a. inl (before, says_before a, a))
      (λ a. by_test after (λ b. inl (after, says_after (le_of a) b, b))
      (λ b.
      let p : t ≤ f = le_of a in
      let q : s ≤ g = le_of b in
      by_test overlaps (λ c. inl (overlaps, says_overlaps p q c, c))
      (λ c. by_test overlapped (λ d. inl (overlapped, says_overlapped p q c d, d))
      (λ d. by_test includes (λ e. inl (includes, says_includes p q c d e, e))
      (λ e. by_test during (λ h. inl (during, says_during p q c d e h, h))
      (λ h. inr (sym (says_none p q c d e h), six_at (λ r. RelatesHere r → ⊥) (a, b, c, d, e, h))))))))
    where
      le_of : {m n : ℕ} → (m < n → ⊥) → n ≤ m
      le_of {m} {n} h = either_lt m n (λ l. absurd (h l)) (λ l. l)

  -- ── one of six ──
  some_holds : s < f → t < g → Apart s f t g → ((r : Relation) → RelatesHere r → ⊥) → ⊥
  some_holds p q a n =
      either_lt f t (n before)
      (λ h. either_lt g s (n after)
      (λ k. either_lt s t
      (λ l. either_lt f g (λ m. n overlaps (omega arith)) (λ m. n includes (omega arith)))
      (λ l. either_lt f g (λ m. n during (omega arith)) (λ m. n overlapped (omega arith)))))

  only_six : (r : Relation) → s < f → t < g → RelatesHere r → Six (λ q. RelatesHere q → number q ≡ number r)
  only_six before p q h = omega arith
  only_six after p q h = omega arith
  only_six overlaps p q h = omega arith
  only_six overlapped p q h = omega arith
  only_six includes p q h = omega arith
  only_six during p q h = omega arith

  pub only-holds : (r q : Relation) → s < f → t < g → RelatesHere r → RelatesHere q → q ≡ r
  only-holds r q a b h k = number_one q r (six_at (λ v. RelatesHere v → number v ≡ number r) (only_six r a b h) q k)

  -- a relation that holds is the one answered
  pub relation-number : (r : Relation) → s < f → t < g → RelatesHere r → number r ≡ relation_of s f t g
  relation-number r p q h =
      ⊎_elim (λ w. ap number (only-holds w.0 r p q w.2 h) ∙ w.1) (λ w. absurd (w.1 r h)) which

  pub one_holds : s < f → t < g → Apart s f t g → OneHolds s f t g (relation_of s f t g)
  one_holds p q a =
      ⊎_elim
      (λ w. record { relation = w.0; is = w.1; holds = w.2; only = λ v h. only-holds w.0 v p q w.2 h })
      (λ w. absurd (some_holds p q a w.1))
      which

  -- what the number means, whatever the positions
  compared_at : Compared s f t g (relation_of s f t g)
  compared_at =
      record {
        answer = refl;
        holds = λ n. ⊎_elim (λ w. w) (λ w. absurd (n w.0)) which;
        none = λ z. ⊎_elim (λ w. absurd (number_some w.0 (w.1 ∙ z))) (λ w. w.1) which;
        one = one_holds;
      }

  pub compared : (n : ℕ) → n ≡ relation_of s f t g → Compared s f t g n
  compared n e = rw e compared_at

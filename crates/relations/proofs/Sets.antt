-- Laws of sets: the sum of the relations that pass a test has exactly those as members (of the 64 ways to pass, each is computed),
-- and a set is the sum of its members. The laws of the converse are one test over the 64 sets, which antt computes.
use Prim.Native.Nat.{ℕ, ◌+◌, ◌*◌, ◌<◌, ◌≤◌, ◌/◌, ◌%◌}
use mathlib.Core.Path.{◌≡◌, sym, subst}
use mathlib.Core.Logic.{◌↔◌}
use mathlib.Core.Bool.{Bool, true, false, ◌&&◌, beq}
use mathlib.Core.List.{List}
use native.Mathlib.Omega.{arith}
use borrow.Author.Tests.{le-leb, lt-leb}
use lib.Bits.{bit_and}
use lib.Dec.{T, eqb, leb, eqb→eq, eqb_refl, leb→le}
use lib.ListN.{replicate}
use Rattle.trace.specs.Trace.{Trace}
use Rattle.std.specs.Prelude.{Result, Ok, Err}
use Rattle.refusals.specs.declared.Refusal.{Refusal}
use Rattle.refusals.specs.declared.Refusal.TheVariants.{NoSet}
use Rattle.relations.specs.Relation.{Relation, before, after, overlaps, overlapped, includes, during, number, converse}
use Rattle.relations.specs.Sets.{Member, member?, set_of, converse_of}
use Rattle.relations.specs.Runs.{RelatedBy, Conversed}
use Rattle.relations.proofs.Relation.{relates_back, converse-twice}
use Rattle.relations.proofs.Tests.{two, all?, all_at, same_left, same_right}
use Rattle.relations.proofs.Entries.{at}

-- ── members ──
pub test_of : (r : Relation) (c : ℕ) → Member r c → T (member? r c)
test_of r c e = subst (λ (n : ℕ). T (eqb (c / number r % 2) n)) e (eqb_refl (c / number r % 2))

pub of_test : (r : Relation) (c : ℕ) → T (member? r c) → Member r c
of_test r c t = eqb→eq (c / number r % 2) 1 t

-- a test of both truth values
abbrev both? : (Bool → Bool) → Bool
both? g = g true && g false

both_at : (g : Bool → Bool) → T (both? g) → (b : Bool) → T (g b)
both_at g t true = (two (g true) (g false) t).0
both_at g t false = (two (g true) (g false) t).1

abbrev pick : Bool → Bool → Bool → Bool → Bool → Bool → Relation → Bool
pick a b c d e f before = a
pick a b c d e f after = b
pick a b c d e f overlaps = c
pick a b c d e f overlapped = d
pick a b c d e f includes = e
pick a b c d e f during = f

-- a set of those that pass has them, and no others, as members
abbrev fair? : (Relation → Bool) → Bool
fair? f = leb (set_of f) 63 && all? (λ r. beq (member? r (set_of f)) (f r))

all_fair : T (both? (λ a. both? (λ b. both? (λ c. both? (λ d. both? (λ e. both? (λ f. fair? (pick a b c d e f))))))))
all_fair = tt

fair : (a b c d e f : Bool) → T (fair? (pick a b c d e f))
fair a b c d e =
    both_at (λ v. fair? (pick a b c d e v))
    (both_at (λ u. both? (λ v. fair? (pick a b c d u v)))
    (both_at (λ t. both? (λ u. both? (λ v. fair? (pick a b c t u v))))
    (both_at (λ s. both? (λ t. both? (λ u. both? (λ v. fair? (pick a b s t u v)))))
    (both_at (λ r. both? (λ s. both? (λ t. both? (λ u. both? (λ v. fair? (pick a r s t u v))))))
    (both_at (λ q. both? (λ r. both? (λ s. both? (λ t. both? (λ u. both? (λ v. fair? (pick q r s t u v))))))) all_fair a) b) c) d) e)

module _ (g : Relation → Bool) where
  abbrev picked : Relation → Bool
  picked = pick (g before) (g after) (g overlaps) (g overlapped) (g includes) (g during)

  fair_both : T (leb (set_of g) 63) × T (all? (λ s. beq (member? s (set_of g)) (picked s)))
  fair_both =
      two (leb (set_of g) 63) (all? (λ s. beq (member? s (set_of g)) (picked s)))
      (fair (g before) (g after) (g overlaps) (g overlapped) (g includes) (g during))

  pub set_low : set_of g ≤ 63
  set_low = leb→le (set_of g) 63 fair_both.0

  fair_picked : (r : Relation) → T (beq (member? r (set_of g)) (picked r))
  fair_picked = all_at (λ s. beq (member? s (set_of g)) (picked s)) fair_both.1

  fair_at : (r : Relation) → T (beq (member? r (set_of g)) (g r))
  fair_at before = fair_picked before
  fair_at after = fair_picked after
  fair_at overlaps = fair_picked overlaps
  fair_at overlapped = fair_picked overlapped
  fair_at includes = fair_picked includes
  fair_at during = fair_picked during

  -- the members of the set of those that pass are those that pass
  pub set-members : (r : Relation) → Member r (set_of g) ↔ T (g r)
  set-members r = (
    λ m. same_left (member? r (set_of g)) (g r) (fair_at r) (test_of r (set_of g) m),
    λ t. of_test r (set_of g) (same_right (member? r (set_of g)) (g r) (fair_at r) t),
  )

-- ── the 64 sets ──
-- a test that all of them pass
abbrev sets : List ℕ
sets = replicate 64 0

-- a set is the sum of its members
pub set_sum : (c : ℕ) → c < 64 → set_of (λ r. member? r c) ≡ c
set_sum c h =
    eqb→eq (set_of (λ r. member? r c)) c (at (λ k _. eqb (set_of (λ r. member? r k)) k) sets tt c h)

abbrev mirrored? : ℕ → Bool
unfolding converse_of
mirrored? c = eqb (converse_of (converse_of c)) c && all? (λ r. beq (member? r c) (member? (converse r) (converse_of c)))

module _ (c : ℕ) (h : c < 64) where
  mirrored : T (eqb (converse_of (converse_of c)) c) × T (all? (λ r. beq (member? r c) (member? (converse r) (converse_of c))))
  unfolding converse_of
  mirrored =
      two (eqb (converse_of (converse_of c)) c) (all? (λ r. beq (member? r c) (member? (converse r) (converse_of c))))
      (at (λ k _. mirrored? k) sets tt c h)

  pub converse-again : converse_of (converse_of c) ≡ c
  converse-again = eqb→eq (converse_of (converse_of c)) c mirrored.0

  -- a relation is in the set exactly if its converse is in the set's converse
  pub converse-members : (r : Relation) → Member r c ↔ Member (converse r) (converse_of c)
  converse-members r =
      let s = all_at (λ q. beq (member? q c) (member? (converse q) (converse_of c))) mirrored.1 r in (
        λ m. of_test (converse r) (converse_of c) (same_left (member? r c) (member? (converse r) (converse_of c)) s (test_of r c m)),
        λ m. of_test r c (same_right (member? r c) (member? (converse r) (converse_of c)) s (test_of (converse r) (converse_of c) m)),
      )

  -- what relates two runs, read backwards
  pub converse-relates : (t : Trace) (x y : ℕ) → RelatedBy c t x y ↔ RelatedBy (converse_of c) t y x
  converse-relates t x y = (
    λ w.
        record {
          relation = converse w.relation;
          member = (converse-members w.relation).0 w.member;
          relates = relates_back w.relation _ _ _ _ w.relates;
        },
    λ w.
        record {
          relation = converse w.relation;
          member =
              (converse-members (converse w.relation)).1
              (subst (λ (q : Relation). Member q (converse_of c)) (sym (converse-twice w.relation)) w.member);
          relates = relates_back w.relation _ _ _ _ w.relates;
        },
  )

-- ── the call for the converse ──
-- "2, 8 and 32 are the converses of 1, 4 and 16": the numbers of the two kinds change places
pub converse_bits : (c : ℕ) → c ≤ 63 → bit_and c 21 * 2 + bit_and c 42 / 2 ≡ converse_of c
unfolding converse_of
converse_bits c h =
    eqb→eq (bit_and c 21 * 2 + bit_and c 42 / 2) (converse_of c)
    (at (λ k _. eqb (bit_and k 21 * 2 + bit_and k 42 / 2) (converse_of k)) sets tt c (omega arith))

pub set_is : (m d : ℕ) → ◌≡◌ {A = Result ℕ Refusal} (Ok m) (Ok d) → m ≡ d
set_is m d e = cc

pub no_set : {C : Type 0} (d : ℕ) → Err NoSet ≡ Ok d → C
no_set d e = cc

converse_low : (c : ℕ) → converse_of c ≤ 63
unfolding converse_of
converse_low c = set_low (λ r. member? (converse r) c)

pub conversed : (c d : ℕ) → c ≤ 63 → d ≡ converse_of c → Conversed c (Ok d)
conversed c d h e =
    let low : c < 64 = omega arith in
    rw e
    (record {
      answer = simp (le-leb c 63 h);
      is_set = λ m q. omega (arith, set_is _ _ q, converse_low c);
      members = λ m q. subst (λ (k : ℕ). (r : Relation) → Member r c ↔ Member (converse r) k) (set_is _ _ q) (converse-members c low);
      twice = λ m q. subst (λ (k : ℕ). converse_of k ≡ c) (set_is _ _ q) (converse-again c low);
      backwards =
          λ m q. subst (λ (k : ℕ). (t : Trace) (x y : ℕ) → RelatedBy c t x y ↔ RelatedBy k t y x) (set_is _ _ q) (converse-relates c low);
    })

pub not_conversed : (c : ℕ) → 63 < c → Conversed c (Err NoSet)
not_conversed c h =
    record {
      answer = simp (lt-leb c 63 h);
      is_set = λ d e. no_set d e;
      members = λ d e. no_set d e;
      twice = λ d e. no_set d e;
      backwards = λ d e. no_set d e;
    }

-- Why demand 3 holds. What a log shows lies in the single composition of the two relations that it shows, since each finished
-- run starts before it finishes; so it is in the composition. And each member of the composition is one of a single composition,
-- which a log of three runs shows.
use Prim.Native.Nat.{ℕ, ◌+◌, ◌*◌, ◌<◌, ◌≤◌, ◌/◌, ◌%◌}
use mathlib.Core.Path.{◌≡◌, ap}
use mathlib.Core.Bool.{◌&&◌}
use mathlib.Core.List.{List}
use native.Mathlib.Omega.{arith}
use borrow.Author.Tests.{le-leb, lt-leb}
use lib.Dec.{T}
use Rattle.trace.specs.Trace.{start, finish}
use Rattle.trace.proofs.Accepted.{accepted_orderly}
use Rattle.std.specs.Prelude.{Ok, Err}
use Rattle.refusals.specs.declared.Refusal.TheVariants.{NoSet}
use Rattle.relations.specs.Relation.{Relation}
use Rattle.relations.specs.Sets.{member?, any?}
use Rattle.relations.specs.Runs.{FinishedRun}
use Rattle.relations.specs.Compose.{Shown, ShownByThree, single, through?, compose_of, CompositionLaw, Composition}
use Rattle.relations.proofs.Tests.{any_one, any_of, two, joined}
use Rattle.relations.proofs.Sets.{test_of, of_test, set_low, set-members, set_is, no_set}
use Rattle.relations.proofs.Single.{single-member}
use Rattle.relations.proofs.Witness.{shown_by_three}

-- ── what a log shows ──
module _ (log : List ℕ) (a b : ℕ) (r : Relation) (s : Shown log a b r) where
  forward : (k : ℕ) → FinishedRun s.trace k → start s.trace k < finish s.trace k
  forward k h = (accepted_orderly log s.trace s.accepted).forward k h.ended

  met : T (member? r (single s.x_y.relation s.y_z.relation))
  met =
      test_of r (single s.x_y.relation s.y_z.relation)
      (single-member _ _ _ _ _ _ (forward s.x s.x_finished) (forward s.y s.y_finished) (forward s.z s.z_finished)
      s.x_y.relation s.y_z.relation r s.x_y.relates s.y_z.relates s.x_z)

  passes : T (through? a b r)
  passes =
      any_of (λ p. member? p a && any? (λ q. member? q b && member? r (single p q))) s.x_y.relation
      (joined (member? s.x_y.relation a) _ (test_of s.x_y.relation a s.x_y.member)
      (any_of (λ q. member? q b && member? r (single s.x_y.relation q)) s.y_z.relation
      (joined (member? s.y_z.relation b) _ (test_of s.y_z.relation b s.y_z.member) met)))

  by_three : ShownByThree a b r
  by_three = shown_by_three a b s.x_y.relation s.y_z.relation r s.x_y.member s.y_z.member met

-- ── what the composition has ──
shown_through : (a b : ℕ) (r : Relation) → T (through? a b r) → ShownByThree a b r
shown_through a b r t =
    let h = any_one (λ p. member? p a && any? (λ q. member? q b && member? r (single p q))) t in
    let p = h.0 in
    let hp = two (member? p a) (any? (λ q. member? q b && member? r (single p q))) h.1 in
    let g = any_one (λ q. member? q b && member? r (single p q)) hp.1 in
    let q = g.0 in
    let hq = two (member? q b) (member? r (single p q)) g.1 in
    shown_by_three a b p q r (of_test p a hp.0) (of_test q b hq.0) hq.1

pub demand-3 : CompositionLaw
unfolding compose_of
demand-3 a b _ _ r =
    record {
      exactly = (
        λ m. let w = shown_through a b r ((set-members (through? a b) r).0 m) in (w.log, w.shown),
        λ w. (set-members (through? a b) r).1 (passes w.0 a b r w.1),
      );
      by_three = λ log s. by_three log a b r s;
    }

-- ── the composing call ──
compose_low : (a b : ℕ) → compose_of a b ≤ 63
unfolding compose_of
compose_low a b = set_low (through? a b)

pub composed : (a b k c : ℕ) → a ≤ 63 → b ≤ 63 → k ≡ 64 * a + b → c ≡ compose_of (k / 64) (k % 64) → Composition a b (Ok c)
composed a b k c ha hb e h =
    let p : k / 64 ≡ a = omega arith in
    let q : k % 64 ≡ b = omega arith in
    let i : c ≡ compose_of a b = rw (p, q) at h in
    record {
      answer = simp (le-leb a 63 ha, le-leb b 63 hb) (ap Ok i);
      is_set = λ d m. omega (arith, set_is c d m, compose_low a b);
      demand-3 = demand-3;
    }

pub first_no_set : (a b : ℕ) → 63 < a → Composition a b (Err NoSet)
first_no_set a b h = record { answer = simp (lt-leb a 63 h); is_set = λ d e. no_set d e; demand-3 = demand-3 }

pub second_no_set : (a b : ℕ) → a ≤ 63 → 63 < b → Composition a b (Err NoSet)
second_no_set a b g h =
    record { answer = simp (le-leb a 63 g, lt-leb b 63 h); is_set = λ d e. no_set d e; demand-3 = demand-3 }

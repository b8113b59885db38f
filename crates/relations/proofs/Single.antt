-- Why no other relation than those of a single composition can hold: the positions of the three runs would contradict each other.
use Prim.Native.Nat.{ℕ, ◌<◌, ◌≤◌, ◌/◌, ◌%◌}
use native.Mathlib.Omega.{arith}
use Rattle.relations.specs.Relation.{Relation, before, after, overlaps, overlapped, includes, during, number, Relates}
use Rattle.relations.specs.Sets.{Member}
use Rattle.relations.specs.Compose.{single}
use Rattle.relations.proofs.Relation.{Six, six_at}

-- three runs, from s to f, from t to g and from u to v
module _ (s f t g u v : ℕ) (hs : s < f) (ht : t < g) (hu : u < v) where
  abbrev Third : Relation → Relation → Relation → Type 0
  Third p q r = Relates r s f u v → 1 ≤ single p q / number r % 2

  abbrev Second : Relation → Relation → Type 0
  Second p q = Relates q t g u v → Six (Third p q)

  from_first : (p : Relation) → Relates p s f t g → Six (Second p)
  from_first before h = (λ k. omega arith, λ k. omega arith, λ k. omega arith, λ k. omega arith, λ k. omega arith, λ k. omega arith)
  from_first after h = (λ k. omega arith, λ k. omega arith, λ k. omega arith, λ k. omega arith, λ k. omega arith, λ k. omega arith)
  from_first overlaps h = (λ k. omega arith, λ k. omega arith, λ k. omega arith, λ k. omega arith, λ k. omega arith, λ k. omega arith)
  from_first overlapped h = (λ k. omega arith, λ k. omega arith, λ k. omega arith, λ k. omega arith, λ k. omega arith, λ k. omega arith)
  from_first includes h = (λ k. omega arith, λ k. omega arith, λ k. omega arith, λ k. omega arith, λ k. omega arith, λ k. omega arith)
  from_first during h = (λ k. omega arith, λ k. omega arith, λ k. omega arith, λ k. omega arith, λ k. omega arith, λ k. omega arith)

  -- where p relates the first to the second, q the second to the third and r the first to the third, r is in the single
  -- composition of p and q
  pub single-member : (p q r : Relation) → Relates p s f t g → Relates q t g u v → Relates r s f u v → Member r (single p q)
  single-member p q r a b c =
      let one : 1 ≤ single p q / number r % 2 = six_at (Third p q) (six_at (Second p) (from_first p a) q b) r c in
      omega arith

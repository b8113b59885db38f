-- A sign that stands several times, one behind another.
use Prim.Native.Nat.{ℕ, zero, suc, ◌+◌, ◌≤◌}
use mathlib.Core.Path.{◌≡◌, refl, sym, subst}
use mathlib.Core.List.{List}
use native.Mathlib.Omega.{arith}
use native.Mathlib.Numerals.{add-one}
use lib.ListN.{drop}
use Rattle.std.specs.Prelude.{Some, None}
use Rattle.signs.specs.Signs.{sign}
use Rattle.signs.specs.Finding.{FindsSign, Repeated, Marked, Runs}
use Rattle.signs.proofs.Told.{found_sign, no_sign}

module _ (text w : List ℕ) (at : ℕ) where
  pub marked_none : Marked text w at 0 at
  marked_none = record { marks = refl }

  pub marked_more : (n p : ℕ) → Marked text w at n p → (q : ℕ) → FindsSign text p (sign w (drop p text)) (Some q) → Marked text w at (n + 1) q
  marked_more n p m q x =
      let g = found_sign text p (sign w (drop p text)) q x in
      record { marks = subst (λ (j : ℕ). Repeated text w at j q) (sym (add-one n)) (p, m.marks, g.0, g.1, g.2) }

  places : (c p : ℕ) → Repeated text w at c p → at + c ≤ p
  places zero p m = omega (arith, m)
  places (suc c) p m = omega (arith, places c m.0 m.1, m.3)

  -- each takes a byte at least
  pub marked_far : (c p : ℕ) → Marked text w at c p → at + c ≤ p
  marked_far c p m = places c p m.marks

  module _ (most n p : ℕ) (m : Marked text w at n p) (few : n ≤ most) where
    pub run_ended : FindsSign text p (sign w (drop p text)) None → Runs text w at most (record { count = n; at = p })
    run_ended x = record { marked = m; ended = λ h. no_sign text p (sign w (drop p text)) x; few = few }

    pub run_full : most ≤ n → Runs text w at most (record { count = most; at = p })
    run_full h =
        let e : n ≡ most = omega arith in
        record { marked = subst (λ (j : ℕ). Marked text w at j p) e m; ended = λ l. absurd (omega arith); few = omega arith }

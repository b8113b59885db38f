-- The instants of the lines of a trace, and one line more.
use Prim.Native.Nat.{ℕ, zero, suc, ◌+◌, ◌<◌, ◌≤◌}
use mathlib.Core.Bool.{Bool, true, false, ◌&&◌, cond}
use mathlib.Core.Path.{◌≡◌, refl, ap, sym, ◌∙◌}
use mathlib.Core.List.{List, [], ◌∷◌, ◌++◌}
use native.Mathlib.Omega.{arith}
use lib.ListN.{length, set, length-append, get_or-append}
use lib.Seq.{get_or_at}
use Rattle.lists.specs.Lists.{pad}
use lib.Dec.{eqb}
use borrow.Author.Tests.{eq-eqb}
use Rattle.lists.proofs.Cases.{either_lt, no_both}
use Rattle.lists.proofs.Lists.{set-pad, get_d_pad}
use Rattle.instants.specs.declared.InstantNo.{InstantNo}
use Rattle.instants.specs.Instants.{instant_no, instant_at, instant_after}
use Rattle.instants.specs.Instants.{dated}

-- one instant more leaves those before it
module _ (v : List InstantNo) (i : ℕ) where
  abbrev pub dated-more : List InstantNo
  dated-more = v ++ (instant_no i ∷ [])

  pub instant_old : (l : ℕ) → l ≤ length v → instant_at dated-more l ≡ instant_at v l
  instant_old zero h = refl
  instant_old (suc l) h = ap (λ (x : InstantNo). x.0) (get_or-append v (instant_no i ∷ []) (instant_no 0) l (omega arith))

  pub instant_new : (l : ℕ) → l ≡ length v → instant_at dated-more (suc l) ≡ i
  instant_new l e = ap (λ (x : InstantNo). x.0) (get_or_at v (instant_no i) [] (instant_no 0) l (sym e))

  pub instant_long : length dated-more ≡ length v + 1
  instant_long = length-append v (instant_no i ∷ [])

-- "1 at the first, that of the line before at a `+`, otherwise one more": what the instants of n lines keep to
pub record Timed (v : List InstantNo) (n : ℕ) : Type 0 where
  pub low : (l : ℕ) → l ≤ n → instant_at v l ≤ l
  pub some : (l : ℕ) → 0 < l → l ≤ n → 0 < instant_at v l
  pub rise : (k l : ℕ) → k ≤ l → l ≤ n → instant_at v k ≤ instant_at v l

pub timed_none : Timed [] 0
timed_none = record { low = λ l h. low l h; some = λ l p h. absurd (omega arith); rise = λ k l i h. rise k l i h }
  where
    low : (l : ℕ) → l ≤ 0 → instant_at [] l ≤ l
    low zero h = omega arith
    low (suc l) h = absurd (omega arith)

    rise : (k l : ℕ) → k ≤ l → l ≤ 0 → instant_at [] k ≤ instant_at [] l
    rise zero l i h = omega arith
    rise (suc k) l i h = absurd (omega arith)

-- the instant of one line more is that of the line before, or one more; where the line is the first, one more
pub record After (v : List InstantNo) (n i : ℕ) : Type 0 where
  pub from : instant_at v n ≤ i
  pub by : i ≤ instant_at v n + 1
  pub some : 0 < i

pub after_line_lem : (v : List InstantNo) (n : ℕ) → Timed v n → (j : Bool) → j && eqb n 0 ≡ false → After v n (instant_after v n j)
after_line_lem v n t true e = let z : (n ≡ 0 → ⊥) = λ q. no_both (sym (eq-eqb n 0 q) ∙ e) in record { from = omega arith; by = omega arith; some = t.some n (omega (arith, z)) (omega arith) }
after_line_lem v n t false e = record { from = omega arith; by = omega arith; some = omega arith }

pub timed_more : (v : List InstantNo) (n i : ℕ) → length v ≡ n → Timed v n → After v n i → Timed (v ++ (instant_no i ∷ [])) (n + 1)
timed_more v n i e t a =
    let w : List InstantNo = v ++ (instant_no i ∷ []) in
    let old : (l : ℕ) → l ≤ n → instant_at w l ≡ instant_at v l = λ l h. instant_old v i l (omega arith) in
    let new : (l : ℕ) → l ≡ suc n → instant_at w l ≡ i = λ l q. ap (instant_at w) q ∙ instant_new v i n (sym e) in
    record {
      low = λ l h.
          either_lt l (n + 1)
          (λ k. omega (arith, old l (omega arith), t.low l (omega arith)))
          (λ k. omega (arith, new l (omega arith), a.by, t.low n (omega arith)));
      some = λ l p h.
          either_lt l (n + 1)
          (λ k. omega (arith, old l (omega arith), t.some l p (omega arith)))
          (λ k. omega (arith, new l (omega arith), a.some));
      rise = λ k l b h.
          either_lt l (n + 1)
          (λ m. omega (arith, old l (omega arith), old k (omega arith), t.rise k l b (omega arith)))
          (λ m.
          either_lt k (n + 1)
          (λ o. omega (arith, new l (omega arith), old k (omega arith), t.rise k n (omega arith) (omega arith), a.from))
          (λ o. omega (arith, new l (omega arith), new k (omega arith))));
    }

-- ── the places of a record ──
pub instant_pad : (v : List InstantNo) (n l : ℕ) → instant_at (pad (instant_no 0) n v) l ≡ instant_at v l
instant_pad v n zero = refl
instant_pad v n (suc l) = ap (λ (x : InstantNo). x.0) (get_d_pad (instant_no 0) n v l)

-- the instant of one line more, in the places of a record
pub dated-pad : (v : List InstantNo) (l : ℕ) (j : Bool) → length v ≡ l → l < 256 → dated (pad (instant_no 0) 256 v) l j ≡ pad (instant_no 0) 256 (v ++ (instant_no (instant_after v l j) ∷ []))
dated-pad v l j e h =
    ap (λ (i : ℕ). set (pad (instant_no 0) 256 v) l (instant_no (cond j i (i + 1)))) (instant_pad v 256 l)
    ∙ (ap (λ (k : ℕ). set (pad (instant_no 0) 256 v) k (instant_no (instant_after v l j))) (sym e)
    ∙ set-pad (instant_no 0) 256 v (instant_no (instant_after v l j)) (omega arith))

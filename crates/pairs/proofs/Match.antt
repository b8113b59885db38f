-- Comparing a work area with the pair bytes of a record.
use Prim.Native.Nat.{ℕ, ◌<◌, ◌≤◌}
use mathlib.Core.Path.{◌≡◌, refl, ap, sym, ◌∙◌}
use mathlib.Core.Bool.{Bool}
use mathlib.Core.List.{List}
use native.Mathlib.Omega.{arith}
use lib.Dec.{eqb}
use lib.ListN.{length, get_or, take}
use lib.Pointwise.{pointwise}
use lib.Seq.{ext_get_or}
use Rattle.std.proofs.lemmas.Bool.Decides.{Decides-eqb}
use Rattle.std.proofs.lemmas.List.{get_or-take, length-take-le}
use Rattle.std.proofs.lemmas.Slice.Eq.{slice_eq-Decides}
use Rattle.lists.specs.Tells.{Tells}
use Rattle.lists.proofs.Tells.{tells, tell_by}
use Rattle.trace.specs.Trace.{Trace}
use Rattle.pairs.specs.declared.Layout.{Layout}
use Rattle.pairs.specs.Layout.{work_size, place}
use Rattle.pairs.specs.Pairs.{pair_byte, work_of}
use Rattle.pairs.specs.Code.{SameTo}
use Rattle.pairs.proofs.Area.{get_d_area_in, front-area_in}

-- ── the parts in front ──
pub front_tells : (n : ℕ) (w v : List ℕ) → n ≤ length w → n ≤ length v → (b : Bool) → b ≡ pointwise eqb (take n w) (take n v) → Tells b (SameTo n w v)
front_tells n w v p q b e =
    let long : length (take n w) ≡ n = length-take-le n w p in
    tell_by
    (λ f k h. sym (get_or-take n w k 0 h) ∙ (ap (λ (x : List ℕ). get_or x k 0) f ∙ get_or-take n v k 0 h))
    (λ s. ext_get_or 0 (take n w) (take n v) (long ∙ sym (length-take-le n v q))
    (λ k h. let l : k < n = omega arith in get_or-take n w k 0 l ∙ (s k l ∙ sym (get_or-take n v k 0 l))))
    (tells (slice_eq-Decides Decides-eqb (take n w) (take n v) b e))

-- ── all of them ──
module _ (lay : Layout) (t : Trace) (w u v : List ℕ) (long : work_size lay ≤ length w) (right : v ≡ work_of lay t u) where
  same_bytes : SameTo (work_size lay) w v → w ≡ work_of lay t w
  same_bytes s =
      front-area_in (work_size lay) (place lay) (pair_byte t.runs) w w (omega arith)
      (λ k h. s k h ∙ (ap (λ (x : List ℕ). get_or x k 0) right ∙ get_d_area_in (work_size lay) (place lay) (pair_byte t.runs) u k h))
      (λ k _. refl)

  bytes_same : w ≡ work_of lay t w → SameTo (work_size lay) w v
  bytes_same e k h =
      ap (λ (x : List ℕ). get_or x k 0) e
      ∙ (get_d_area_in (work_size lay) (place lay) (pair_byte t.runs) w k h
      ∙ sym (ap (λ (x : List ℕ). get_or x k 0) right ∙ get_d_area_in (work_size lay) (place lay) (pair_byte t.runs) u k h))

  pub matches : (n : ℕ) → n ≡ work_size lay → (b : Bool) → Tells b (SameTo n w v) → Tells b (w ≡ work_of lay t w)
  matches n e b = rw e (tell_by same_bytes bytes_same)

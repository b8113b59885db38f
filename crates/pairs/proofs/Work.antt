-- Laws of a work area that has the pair bytes of a trace, in either layout.
use Prim.Native.Nat.{ℕ, ◌<◌, ◌≤◌}
use mathlib.Core.Path.{◌≡◌, refl, ap, sym, ◌∙◌}
use mathlib.Core.Logic.{◌≢◌}
use mathlib.Core.List.{List}
use native.Mathlib.Omega.{arith}
use lib.ListN.{length, get_or}
use Rattle.lists.specs.Limits.{max_runs}
use Rattle.lists.proofs.Cases.{either_lt}
use Rattle.trace.specs.Trace.{Trace, no_run}
use Rattle.pairs.specs.declared.Layout.{Layout}
use Rattle.pairs.specs.declared.Layout.TheVariants.{Square, Half}
use Rattle.pairs.specs.Layout.{work_size, place, NoPair}
use Rattle.pairs.specs.Pairs.{pair_byte, work_of}
use Rattle.pairs.proofs.Places.{places}
use Rattle.pairs.proofs.Area.{length-area_in, area_in_pair, area_in_other, area_in_rest, area_in_over, area_in_zero, is_area_in}
use Rattle.pairs.proofs.Pairs.{pair_in, pair_late, set_some}

module _ (lay : Layout) (t : Trace) (w : List ℕ) where
  pub work_long : work_size lay ≤ length (work_of lay t w)
  work_long = omega (arith, length-area_in (work_size lay) (place lay) (pair_byte t.runs) w)

  -- written over the bytes of another trace
  pub work_over : (u : Trace) → work_of lay t (work_of lay u w) ≡ work_of lay t w
  work_over u = area_in_over (work_size lay) (place lay) (pair_byte u.runs) (pair_byte t.runs) w

  -- no byte past the layout's size changes
  pub work_rest : (k : ℕ) → work_size lay ≤ k → get_or (work_of lay t w) k 0 ≡ get_or w k 0
  work_rest = area_in_rest (work_size lay) (place lay) (pair_byte t.runs) w

  -- what stands at the place of two runs, and at any other place
  module _ (v : List ℕ) (e : v ≡ work_of lay t w) where
    pub work_pair : (a b : ℕ) → a < b → b < max_runs → get_or v (place lay a b) 0 ≡ pair_byte t.runs a b
    work_pair a b h k =
        ap (λ (x : List ℕ). get_or x (place lay a b) 0) e ∙ area_in_pair (work_size lay) (place lay) (pair_byte t.runs) (places lay) w a b h k

    pub work_other : (k : ℕ) → k < work_size lay → NoPair (place lay) k → get_or v k 0 ≡ 0
    work_other k h none = ap (λ (x : List ℕ). get_or x k 0) e ∙ area_in_other (work_size lay) (place lay) (pair_byte t.runs) w k h none

-- ── fewer than two runs ──
module _ (lay : Layout) (t : Trace) where
  no_byte : length t.runs < 2 → (a b : ℕ) → a < b → b < max_runs → pair_byte t.runs a b ≡ 0
  no_byte few a b h k = pair_late t.runs a b (omega arith)

  -- every byte is 0, and zeros are their bytes
  pub work_few : (w v : List ℕ) → v ≡ work_of lay t w → length t.runs < 2 → (k : ℕ) → k < work_size lay → get_or v k 0 ≡ 0
  work_few w v e few k h =
      ap (λ (x : List ℕ). get_or x k 0) e ∙ area_in_zero (work_size lay) (place lay) (pair_byte t.runs) (no_byte few) w k h

  pub few_work : (w : List ℕ) → work_size lay ≤ length w → length t.runs < 2 → ((k : ℕ) → k < work_size lay → get_or w k 0 ≡ 0) → w ≡ work_of lay t w
  few_work w long few zeros =
      is_area_in (work_size lay) (place lay) (pair_byte t.runs) w w (omega arith)
      (λ a b h k. zeros (place lay a b) ((places lay).low a b h k) ∙ sym (no_byte few a b h k))
      (λ k h _. zeros k h)
      (λ k _. refl)

-- ── one area in both layouts ──
-- byte 0 is the byte of runs 0 and 1 in the half layout, and of no two runs in the square one
both-few : (t : Trace) (w : List ℕ) → w ≡ work_of Square t w → w ≡ work_of Half t w → length t.runs < 2
both-few t w s h =
    either_lt (length t.runs) 2
    (λ l. l)
    (λ l.
    let p = work_pair Half t w w h 0 1 (omega arith) (omega arith) in
    let q : get_or w 0 0 ≡ 0 = work_other Square t w w s 0 (omega arith) (λ a b i j e. omega arith) in
    let r = pair_in t.runs 0 1 (omega arith) (omega arith) in
    absurd (omega (arith, p, q, r, set_some (get_or t.runs 0 no_run) (get_or t.runs 1 no_run))))

pub one_layout : (lay lay' : Layout) → lay ≢ lay' → (t : Trace) (w : List ℕ) → w ≡ work_of lay t w → w ≡ work_of lay' t w → length t.runs < 2
one_layout Square Square n t w e f = absurd (n refl)
one_layout Square Half n t w e f = both-few t w e f
one_layout Half Square n t w e f = both-few t w f e
one_layout Half Half n t w e f = absurd (n refl)

-- A buffer whose first bytes are cleared.
use Prim.Native.Nat.{ℕ}
use mathlib.Core.Path.{◌≡◌, sym, ◌∙◌}
use mathlib.Core.List.{List, [], ◌++◌}
use native.Mathlib.Omega.{arith}
use lib.ListN.{drop, replicate, length-replicate, get_or-replicate}
use Rattle.trace.specs.Trace.{no_trace}
use Rattle.pairs.specs.declared.Layout.{Layout}
use Rattle.pairs.specs.Layout.{work_size, place, area_of}
use Rattle.pairs.specs.Pairs.{pair_byte, work_of}
use Rattle.pairs.proofs.Places.{places}
use Rattle.pairs.proofs.Area.{only_area}
use Rattle.pairs.proofs.Pairs.{pair_late}

-- as many zeros as the layout has bytes are the pair bytes of no runs
pub clear_all : (lay : Layout) (w w₀ : List ℕ) (k : ℕ) → k ≡ work_size lay → w ≡ replicate k 0 ++ drop k w₀ → w ≡ work_of lay no_trace w₀
clear_all lay w w₀ k e h =
    let zeros : replicate k 0 ≡ area_of (work_size lay) (place lay) (pair_byte []) =
    only_area (work_size lay) (place lay) (pair_byte []) (replicate k 0)
    (record {
      size = length-replicate k 0 ∙ e;
      pairs = λ a b i j. get_or-replicate k (place lay a b) 0 0 (omega (arith, (places lay).low a b i j)) ∙ sym (pair_late [] a b (omega arith));
      others = λ j l _. get_or-replicate k j 0 0 (omega arith);
    }) in
    h ∙ (λ i. zeros i ++ drop (e i) w₀)

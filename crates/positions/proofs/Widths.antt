-- What is left of positions that are cut to 16 bits.
use Prim.Native.Nat.{ℕ, ◌%◌}
use mathlib.Core.Path.{◌≡◌, refl, ◌∙◌}
use native.Mathlib.Nat.{mod-eq_of_lt}
use Rattle.positions.specs.Comparison.{signs_of, AllFit}

-- the signs of what is left are those of the positions, where they fit
pub signs_cut : (a b c d : ℕ) → AllFit a b c d
    → (x y z v : ℕ) → x ≡ a % 65536 → y ≡ b % 65536 → z ≡ c % 65536 → v ≡ d % 65536 → signs_of x y z v ≡ signs_of a b c d
signs_cut a b c d h x y z v of-a of-b of_c of-d =
    let in_a = of-a ∙ mod-eq_of_lt h.0 in
    let in_b = of-b ∙ mod-eq_of_lt h.1 in
    let in_c = of_c ∙ mod-eq_of_lt h.2 in
    let in-d = of-d ∙ mod-eq_of_lt h.3 in
    rw (in_a, in_b, in_c, in-d) refl

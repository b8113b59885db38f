-- Stores in the levels that the code carries.
use Prim.Native.Nat.{ℕ, ◌<◌}
use mathlib.Core.Path.{◌≡◌, refl, sym, subst, fun_ext}
use mathlib.Core.Bool.{Bool, true, false, cond}
use mathlib.Core.List.{List}
use lib.Dec.{eqb}
use lib.ListN.{length, get_or, set, replicate}
use lib.Seq.{get_or-set_same, get_or-set_other}
use borrow.Author.Tests.{eqb-true, eqb-false}
use Rattle.lists.proofs.Lists.{zeros}
use Rattle.levels.specs.Levels.{no_levels, binds}

pub levels_set : (l : List ℕ) (v d : ℕ) → v < length l → (λ (w : ℕ). get_or (set l v d) w 0) ≡ binds (λ (w : ℕ). get_or l w 0) v d
levels_set l v d h = fun_ext (λ w. go w (eqb v w) refl)
  where
    go : (w : ℕ) (x : Bool) → eqb v w ≡ x → get_or (set l v d) w 0 ≡ cond x d (get_or l w 0)
    go w true e = subst (λ (u : ℕ). get_or (set l v d) u 0 ≡ d) (eqb-true v w e) (get_or-set_same l v d 0 h)
    go w false e = get_or-set_other l v w d 0 (λ q. eqb-false v w e (sym q))

pub levels_none : (λ (w : ℕ). get_or {A = ℕ} (replicate 4 0) w 0) ≡ no_levels
levels_none = fun_ext (λ w. zeros 4 w)

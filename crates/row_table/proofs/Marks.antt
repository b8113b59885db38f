-- Bindings with a mark: what each variable stands for once the mark stands for a run.
use Prim.Native.Nat.{ℕ, zero, suc, ◌<◌, ◌≤◌}
use mathlib.Core.Path.{◌≡◌, refl, sym, ap, subst, fun_ext}
use mathlib.Core.Bool.{Bool, true, false, cond, not, ◌&&◌}
use mathlib.Core.List.{List, [], ◌∷◌}
use native.Mathlib.Omega.{arith}
use lib.Dec.{eqb}
use lib.ListN.{length, get_or, set}
use lib.Seq.{get_or-set_same, get_or-set_other}
use borrow.Author.Tests.{eqb-true, eqb-false, ne_eqb}
use Rattle.std.specs.List.{list_all}
use Rattle.lists.specs.Tells.{Tells}
use Rattle.lists.proofs.Tells.{tell_no, tell_yes, tell_by}
use Rattle.logic.specs.Satisfies.{Binding, bind}
use Rattle.row_table.specs.declared.Rank.{Rank}
use Rattle.row_table.specs.Truth.{each, at, Fixed}
use Rattle.row_table.specs.Ranks.{rank}

-- ── the mark ──
pub at_bind : (ρ : Binding) (v r j : ℕ) → r < 128 → at (bind ρ v r) j ≡ bind (at ρ j) v r
at_bind ρ v r j h = fun_ext (λ w. go w (eqb v w))
  where
    go : (w : ℕ) (b : Bool) → cond (eqb (cond b r (ρ w)) 128) j (cond b r (ρ w)) ≡ cond b r (cond (eqb (ρ w) 128) j (ρ w))
    go w true = rw (ne_eqb r 128 (λ e. omega arith)) refl
    go w false = refl

pub at_fixed : (ρ : Binding) (j : ℕ) → Fixed ρ → at ρ j ≡ ρ
at_fixed ρ j h = fun_ext (λ w. rw (ne_eqb (ρ w) 128 (λ e. omega (arith, h w))) refl)

pub at_each : (ρ : Binding) (v j : ℕ) → Fixed ρ → at (bind ρ v each) j ≡ bind ρ v j
at_each ρ v j h = fun_ext (λ w. go w (eqb v w))
  where
    go : (w : ℕ) (b : Bool) → cond (eqb (cond b 128 (ρ w)) 128) j (cond b 128 (ρ w)) ≡ cond b j (ρ w)
    go w true = refl
    go w false = rw (ne_eqb (ρ w) 128 (λ e. omega (arith, h w))) refl

-- with v marked, moment i has v at run i; a moment j changes nothing else
pub at_each_fixed : (ρ : Binding) (v i j : ℕ) → Fixed ρ → at (bind ρ v each) i ≡ bind (at ρ j) v i
at_each_fixed ρ v i j h = rw (at_fixed ρ j h) (at_each ρ v i h)

pub bind-within : (ρ : Binding) (v r most : ℕ) → ((u : ℕ) → ρ u ≤ most) → r ≤ most → (w : ℕ) → bind ρ v r w ≤ most
bind-within ρ v r most h l w = go (eqb v w)
  where
    go : (x : Bool) → cond x r (ρ w) ≤ most
    go true = l
    go false = h w

-- ── the array of ranks ──
-- a variable that is bound anew hides what it stood for
pub rebind : (l : List Rank) (v : ℕ) (j : Rank) → v < length l → (λ (w : ℕ). (get_or (set l v j) w (rank 0)).0) ≡ bind (λ (w : ℕ). (get_or l w (rank 0)).0) v j.0
rebind l v j h = fun_ext (λ w. go w (eqb v w) refl)
  where
    go : (w : ℕ) (x : Bool) → eqb v w ≡ x → (get_or (set l v j) w (rank 0)).0 ≡ cond x j.0 (get_or l w (rank 0)).0
    go w true e = ap (λ (r : Rank). r.0) (subst (λ (u : ℕ). get_or (set l v j) u (rank 0) ≡ j) (eqb-true v w e) (get_or-set_same l v j (rank 0) h))
    go w false e = ap (λ (r : Rank). r.0) (get_or-set_other l v w j (rank 0) (λ q. eqb-false v w e (sym q)))

-- a test of each rank of the array tells whether no variable is marked: past its end each stands for rank 0
abbrev pub unmarked : Rank → Bool
unmarked r = not (eqb r.0 128)

pub run_fixed : (l : List Rank) → ((w : ℕ) → (get_or l w (rank 0)).0 ≤ 128) → Tells (list_all unmarked l) ((w : ℕ) → (get_or l w (rank 0)).0 < 128)
run_fixed [] h = tell_yes (λ w. omega arith)
run_fixed (a ∷ l) h = go (eqb a.0 128) refl (run_fixed l (λ w. h (suc w)))
  where
    below : ((w : ℕ) → (get_or l w (rank 0)).0 < 128) → a.0 < 128 → (w : ℕ) → (get_or (a ∷ l) w (rank 0)).0 < 128
    below f g zero = g
    below f g (suc w) = f w

    go : (x : Bool) → eqb a.0 128 ≡ x → Tells (list_all unmarked l) ((w : ℕ) → (get_or l w (rank 0)).0 < 128) → Tells (not x && list_all unmarked l) ((w : ℕ) → (get_or (a ∷ l) w (rank 0)).0 < 128)
    go true e t = tell_no (λ f. omega (arith, eqb-true a.0 128 e, f 0))
    go false e t = tell_by (λ f. below f (omega (arith, eqb-false a.0 128 e, h 0))) (λ g w. g (suc w)) t

-- Stores in the table of nodes.
use Prim.Native.Nat.{ℕ, suc, ◌+◌, ◌-◌, ◌*◌, ◌<◌, ◌≤◌}
use mathlib.Core.Path.{◌≡◌, refl, sym, ap, ap₂, ◌∙◌}
use mathlib.Core.Bool.{Bool, true, false, cond}
use mathlib.Core.List.{List}
use native.Mathlib.Omega.{arith}
use lib.Dec.{ltb}
use lib.ListN.{length, set, length-set}
use borrow.Author.Tests.{lt-ltb, le-ltb}
use Rattle.atoms.specs.Emit.{level, put, close_or}
use Rattle.atoms.specs.Readers.{Stored, put_nots}

module _ (tb : List ℕ) (k kind a b : ℕ) where
  pub put_in : k < 64 → Stored tb (put tb k kind a b) (set (set (set tb (3 * k) kind) (3 * k + 1) a) (3 * k + 2) b)
  unfolding put
  put_in h = record { answer = simp (lt-ltb k 64 h); long = simp length-set }

  pub put-past : 64 ≤ k → Stored tb (put tb k kind a b) tb
  unfolding put
  put-past h = record { answer = simp (le-ltb k 64 h); long = refl }

-- a table keeps its length
pub put-long : (tb : List ℕ) (k kind a b : ℕ) → length (put tb k kind a b) ≡ length tb
unfolding put
put-long tb k kind a b = go (ltb k 64)
  where
    go : (c : Bool) → length (cond c (set (set (set tb (3 * k) kind) (3 * k + 1) a) (3 * k + 2) b) tb) ≡ length tb
    go true = simp length-set
    go false = refl

pub ruleset puts = (put_in, put-past)

-- a node of two names
pub put_levels : (tb ns : List ℕ) (k kind x y i j : ℕ) → i ≡ level ns x → j ≡ level ns y → (a : List ℕ) → Stored tb (put tb k kind i j) a → Stored tb (put tb k kind (level ns x) (level ns y)) a
put_levels tb ns k kind x y i j e f a w = record { answer = w.answer ∙ ap₂ (λ (m : ℕ) (n : ℕ). put tb k kind m n) e f; long = w.long }

pub closed_or : (t0 t1 t2 t3 : List ℕ) (k n : ℕ) → Stored t0 (put t0 n 2 (n - 1) 0) t1 → Stored t1 (put t1 (n + 1) 1 k n) t2 → Stored t2 (put t2 (n + 2) 2 (n + 1) 0) t3 → Stored t0 (close_or t0 k n) t3
unfolding close_or
closed_or t0 t1 t2 t3 k n x y z =
    record {
      answer = z.answer ∙ (ap (λ (t : List ℕ). put t (n + 2) 2 (n + 1) 0) y.answer ∙ ap (λ (t : List ℕ). put (put t (n + 1) 1 k n) (n + 2) 2 (n + 1) 0) x.answer);
      long = z.long ∙ (y.long ∙ x.long);
    }

-- ── nots: those before node i are stored ──
pub record Nots (tb0 : List ℕ) (n c : ℕ) (tb : List ℕ) (i : ℕ) : Type 0 where
  pub same : put_nots tb i (n + c - i) ≡ put_nots tb0 n c
  pub long : length tb ≡ length tb0

pub nots_none : (tb : List ℕ) (n c : ℕ) → Nots tb n c tb n
nots_none tb n c = record { same = (let e : n + c - n ≡ c = omega arith in ap (put_nots tb n) e); long = refl }

module _ (tb0 : List ℕ) (n c : ℕ) (tb : List ℕ) (i : ℕ) (v : Nots tb0 n c tb i) where
  pub nots_more : i < n + c → (tb1 : List ℕ) → Stored tb (put tb i 2 (i - 1) 0) tb1 → Nots tb0 n c tb1 (i + 1)
  unfolding put_nots
  nots_more h tb1 w =
      let e : n + c - i ≡ suc (n + c - (i + 1)) = omega arith in
      let a : put_nots tb i (n + c - i) ≡ put_nots (put tb i 2 (i - 1) 0) (i + 1) (n + c - (i + 1)) = ap (put_nots tb i) e in
      let b : put_nots (put tb i 2 (i - 1) 0) (i + 1) (n + c - (i + 1)) ≡ put_nots tb1 (i + 1) (n + c - (i + 1)) = ap (λ (t : List ℕ). put_nots t (i + 1) (n + c - (i + 1))) (sym w.answer) in
      record { same = sym (a ∙ b) ∙ v.same; long = w.long ∙ v.long }

  pub nots_all : n + c ≤ i → Stored tb0 (put_nots tb0 n c) tb
  unfolding put_nots
  nots_all h =
      let e : n + c - i ≡ 0 = omega arith in
      let a : put_nots tb i (n + c - i) ≡ tb = ap (put_nots tb i) e in
      record { answer = sym a ∙ v.same; long = v.long }

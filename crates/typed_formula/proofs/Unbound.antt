-- Refusal 9 of a typed rule is that of the formula that it says.
use Prim.Native.Nat.{ℕ, suc, ◌+◌, ◌<◌, ◌≤◌}
use mathlib.Core.Path.{◌≡◌, refl, sym, ap, ap₂, ◌∙◌}
use mathlib.Core.Bool.{◌&&◌, ◌||◌, cond}
use mathlib.Core.Logic.{◌⊎◌, inl, inr, ⊎_elim}
use mathlib.Core.List.{List, [], ◌∷◌, ◌++◌}
use native.Mathlib.Omega.{arith}
use lib.Dec.{eqb, ltb}
use lib.ListN.{length, length-append}
use lib.Seq.{take_all}
use borrow.Author.Tests.{eq-eqb, ne_eqb, lt-ltb, le-ltb}
use Rattle.lists.proofs.Cases.{either_eq, either_lt, either_bool}
use Rattle.rules.specs.Formula.{Scope, enter, scoped}
use Rattle.atoms.specs.Tree.{Tree, size}
use Rattle.atoms.specs.Emit.{Names, level_from, level, inside}
use Rattle.typed_formula.specs.Meaning.{formula_for}
use Rattle.typed_formula.specs.Bound.{bound?, all_bound}

-- the levels below d
abbrev pub below : ℕ → Scope
below d v = ltb v d

below_more : (d : ℕ) → enter (below d) d ≡ below (suc d)
below_more d = λ i w. go w i
  where
    go : (w : ℕ) → eqb d w || ltb w d ≡ ltb w (suc d)
    go w =
        either_eq d w
        (λ e. rw (eq-eqb d w e, lt-ltb w (suc d) (omega arith)))
        (λ n. either_lt w d
        (λ h. rw (ne_eqb d w n, lt-ltb w d h, lt-ltb w (suc d) (omega arith)))
        (λ h. rw (ne_eqb d w n, le-ltb w d h, le-ltb w (suc d) (omega arith))))

-- the same along equations
moved : (g : ℕ → ℕ) (a b : ℕ) → a ≡ b → (u v : ℕ) → v ≡ u → (g b < v) ⊎ (g b ≡ 255) → (g a < u) ⊎ (g a ≡ 255)
moved g a b q u v e z = let y = ap g q in ⊎_elim (λ x. inl (omega arith)) (λ x. inr (y ∙ x)) z

-- a level is that of a name, or none
level-from : (i found : ℕ) (ns : Names) (n : ℕ) → (found < i) ⊎ (found ≡ 255) → (level_from i found ns n < i + length ns) ⊎ (level_from i found ns n ≡ 255)
unfolding level_from
level-from i found [] n h = ⊎_elim (λ a. inl (omega arith)) (λ a. inr a) h
level-from i found (x ∷ xs) n h =
    let e : suc i + length xs ≡ i + length (x ∷ xs) = omega arith in
    either_bool (eqb x n)
    (λ q. moved (λ (f : ℕ). level_from (suc i) f xs n) (cond (eqb x n) i found) i (rw q) (i + length (x ∷ xs)) (suc i + length xs) e (level-from (suc i) i xs n (inl (omega arith))))
    (λ q. moved (λ (f : ℕ). level_from (suc i) f xs n) (cond (eqb x n) i found) found (rw q) (i + length (x ∷ xs)) (suc i + length xs) e (level-from (suc i) found xs n (⊎_elim (λ a. inl (omega arith)) (λ a. inr a) h)))

-- a name has a level below the names around it exactly if it is bound
level_bound : (ns : Names) (n : ℕ) → length ns ≤ 64 → ltb (level ns n) (length ns) ≡ bound? ns n
level_bound ns n h =
    ⊎_elim
    (λ a. let l : level ns n < length ns = omega arith in rw (lt-ltb (level ns n) (length ns) l, ne_eqb (level ns n) 255 (λ e. omega arith)))
    (λ a. let l : length ns ≤ level ns n = omega arith in rw (le-ltb (level ns n) (length ns) l, eq-eqb (level ns n) 255 a))
    (level-from 0 255 ns n (inr refl))

pub inside_long : (ns : Names) (n : ℕ) → length ns < 64 → length (inside ns n) ≡ suc (length ns)
unfolding inside
inside_long ns n h =
    let e : length (ns ++ (n ∷ [])) ≡ length ns + 1 = length-append ns (n ∷ []) in
    ap length (take_all 64 (ns ++ (n ∷ [])) (omega arith)) ∙ omega arith

-- Where a tree and the names around it are at most 64, its formula is in scope exactly if each name is bound.
pub scoped_bound : (text : List ℕ) (t : Tree) (ns : Names) → length ns + size t ≤ 64 → scoped (formula_for text ns t) (below (length ns)) ≡ all_bound ns t
unfolding formula_for all_bound scoped
scoped_bound text (Tree.either l r) ns h = ap₂ ◌&&◌ (scoped_bound text l ns (omega arith)) (scoped_bound text r ns (omega arith))
scoped_bound text (Tree.both l r) ns h = ap₂ ◌&&◌ (scoped_bound text l ns (omega arith)) (scoped_bound text r ns (omega arith))
scoped_bound text (Tree.neg t) ns h = scoped_bound text t ns (omega arith)
scoped_bound text (Tree.exists n t) ns h =
    let e = inside_long ns n (omega arith) in
    ap (scoped (formula_for text (inside ns n) t)) (below_more (length ns) ∙ ap below (sym e)) ∙ scoped_bound text t (inside ns n) (omega arith)
scoped_bound text (Tree.has n l) ns h = level_bound ns n (omega arith)
scoped_bound text (Tree.pair q n m) ns h =
    ap₂ ◌&&◌ (level_bound ns n (omega arith)) (level_bound ns m (omega arith))

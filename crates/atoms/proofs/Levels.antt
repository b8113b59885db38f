-- Names around a place: the level of one, and one more.
use Prim.Native.Nat.{ℕ, suc, ◌+◌, ◌<◌, ◌≤◌}
use mathlib.Core.Path.{◌≡◌, refl, sym, ap, ◌∙◌}
use mathlib.Core.Bool.{Bool, cond}
use mathlib.Core.List.{List, [], ◌∷◌, ◌++◌}
use native.Mathlib.Omega.{arith}
use native.Mathlib.Numerals.{add-one}
use lib.ListN.{length, get_or, set, take, drop, drop_of_length-le, length-append, length-set}
use lib.Seq.{take-suc-set, take-set-le, take_all, take-append-le, length-take-le}
use borrow.Author.Tests.{eq-eqb, ne_eqb}
use Rattle.atoms.specs.Emit.{level_from, level, inside}
use Rattle.atoms.specs.Readers.{Enters}
use Rattle.signs.proofs.Places.{step}

abbrev pub Looked : List ℕ → ℕ → ℕ → ℕ → Type 0
Looked ns x found i = level ns x ≡ level_from i found (drop i ns) x

module _ (ns : List ℕ) (x found i : ℕ) (v : Looked ns x found i) where
  pub level_here : i < length ns → get_or ns i 0 ≡ x → (f : ℕ) → f ≡ i → Looked ns x f (i + 1)
  unfolding level_from
  level_here h e f q =
      let a : level_from i found (drop i ns) x ≡ level_from (suc i) i (drop (i + 1) ns) x =
      ap (λ (l : List ℕ). level_from i found l x) (step ns i h) ∙ ap (λ (c : Bool). level_from (suc i) (cond c i found) (drop (i + 1) ns) x) (eq-eqb (get_or ns i 0) x e) in
      v ∙ (a ∙ (ap (λ (j : ℕ). level_from j i (drop (i + 1) ns) x) (sym (add-one i)) ∙ ap (λ (j : ℕ). level_from (i + 1) j (drop (i + 1) ns) x) (sym q)))

  pub level_other : i < length ns → (get_or ns i 0 ≡ x → ⊥) → (f : ℕ) → f ≡ found → Looked ns x f (i + 1)
  unfolding level_from
  level_other h e f q =
      let a : level_from i found (drop i ns) x ≡ level_from (suc i) found (drop (i + 1) ns) x =
      ap (λ (l : List ℕ). level_from i found l x) (step ns i h) ∙ ap (λ (c : Bool). level_from (suc i) (cond c i found) (drop (i + 1) ns) x) (ne_eqb (get_or ns i 0) x e) in
      v ∙ (a ∙ (ap (λ (j : ℕ). level_from j found (drop (i + 1) ns) x) (sym (add-one i)) ∙ ap (λ (j : ℕ). level_from (i + 1) j (drop (i + 1) ns) x) (sym q)))

  pub level_end : length ns ≤ i → found ≡ level ns x
  unfolding level_from
  level_end h =
      let a : level_from i found (drop i ns) x ≡ found = rw (drop_of_length-le ns h) in
      sym (v ∙ a)

-- ── one more ──
module _ (ns : List ℕ) (d x : ℕ) (long : length ns ≡ 64) where
  pub entered : d < 64 → Enters ns d x (d + 1) (set ns d x)
  unfolding inside
  entered l =
      let m : d < length ns = omega arith in
      let a : take (d + 1) (set ns d x) ≡ take d ns ++ (x ∷ []) = rw (add-one, take-suc-set ns d x m) in
      let b : length (take d ns ++ (x ∷ [])) ≤ 64 = simp (length-append, length-take-le d ns (omega arith)) (omega arith) in
      record { names = a ∙ sym (take_all 64 (take d ns ++ (x ∷ [])) b); kept = take-set-le d ns d x (omega arith); more = omega arith; few = omega arith; long = length-set ns d x }

  pub full : 64 ≤ d → d ≤ 64 → Enters ns d x d ns
  unfolding inside
  full l h =
      let e : length (take d ns) ≡ 64 = length-take-le d ns (omega arith) ∙ omega arith in
      let f : 64 ≤ length (take d ns) = omega arith in
      record { names = sym (take-append-le 64 (take d ns) (x ∷ []) f ∙ take_all 64 (take d ns) (omega arith)); kept = refl; more = omega arith; few = h; long = refl }

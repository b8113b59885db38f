-- A column of instants: one is read from it, or put into it; the instants of a record go into it, and come back.
use Prim.Native.Nat.{ℕ, zero, suc, ◌+◌, ◌-◌, ◌<◌, ◌≤◌}
use mathlib.Core.Path.{◌≡◌, refl, ap, sym, ◌∙◌}
use mathlib.Core.List.{List, [], ◌∷◌, map}
use mathlib.Core.Bool.{Bool, true, false, ◌&&◌, cond}
use lib.Dec.{eqb}
use native.Mathlib.Omega.{arith}
use lib.ListN.{length, get_or, set, length-set, length-map, get_or-map, get_or-eq_default}
use lib.Seq.{ext_get_or, get_or-set_same, get_or-set_other, set_out}
use Rattle.std.specs.List.{slice_get}
use Rattle.std.specs.Prelude.{Some}
use Rattle.std.proofs.lemmas.Option.{get_or_from_slice_get}
use Rattle.lists.proofs.Cases.{either_eq}
use Rattle.instants.specs.declared.InstantNo.{InstantNo}
use Rattle.instants.specs.Instants.{instant_no, instant_at, instant_after}
use Rattle.instants.specs.Instants.{dated}
use Rattle.instants.specs.Column.{instants_in, dated_in}

set-map : {A B : Type 0} (f : A → B) (s : List A) (i : ℕ) (a : A) → map f (set s i a) ≡ set (map f s) i (f a)
set-map f [] i a = refl
set-map f (x ∷ s) zero a = refl
set-map {B = B} f (x ∷ s) (suc i) a = ap (λ (y : List B). f x ∷ y) (set-map f s i a)

pub dated_in_lem : (v : List ℕ) (l : ℕ) (j : Bool) → instants_in (dated_in v l j) ≡ dated (instants_in v) l j
unfolding instants_in
dated_in_lem v l j = set-map instant_no v l (instant_after (instants_in v) l j)

-- the instant of a line, read from the places of a record
pub at_none : (v : List InstantNo) (l : ℕ) → (0 < l → length v ≤ l - 1) → 0 ≡ instant_at v l
at_none v zero h = refl
at_none v (suc k) h = let past : length v ≤ suc k - 1 = h (omega arith) in sym (ap (λ (x : InstantNo). x.0) (get_or-eq_default v (instant_no 0) (omega arith)))

pub at_read : (v : List InstantNo) (l : ℕ) (x : InstantNo) → (l ≡ 0 → ⊥) → x ≡ get_or v (l - 1) (instant_no 0) → x.0 ≡ instant_at v l
at_read v zero x n e = absurd (n refl)
at_read v (suc k) x n e = let z : suc k - 1 ≡ k = omega arith in ap (λ (y : InstantNo). y.0) e ∙ ap (λ (j : ℕ). (get_or v j (instant_no 0)).0) z

pub at_some : (v : List InstantNo) (l : ℕ) (x : InstantNo) → 0 < l → slice_get v (l - 1) ≡ Some x → x.0 ≡ instant_at v l
at_some v l x h e = at_read v l x (λ z. omega arith) (sym (get_or_from_slice_get v (l - 1) x (instant_no 0) e))

-- and from a column
pub instant_read : (v : List ℕ) (l : ℕ) → (l ≡ 0 → ⊥) → get_or v (l - 1) 0 ≡ instant_at (instants_in v) l
unfolding instants_in
instant_read v l n = at_read (instants_in v) l (instant_no (get_or v (l - 1) 0)) n (sym (get_or-map instant_no v (l - 1) 0))

pub column_some : (v : List ℕ) (l x : ℕ) → 0 < l → slice_get v (l - 1) ≡ Some x → x ≡ instant_at (instants_in v) l
column_some v l x h e = sym (get_or_from_slice_get v (l - 1) x 0 e) ∙ instant_read v l (λ z. omega arith)

pub column_none : (v : List ℕ) (l : ℕ) → (0 < l → length v ≤ l - 1) → 0 ≡ instant_at (instants_in v) l
unfolding instants_in
column_none v l h = at_none (instants_in v) l (λ p. omega (arith, h p, length-map v instant_no))

-- it is put into the column, or there is no place for it
pub dated_here : (v : List ℕ) (l : ℕ) (j : Bool) (i n : ℕ) → i ≡ instant_at (instants_in v) l → n ≡ cond j i (i + 1) → set v l n ≡ dated_in v l j
dated_here v l j i n e f = ap (set v l) (f ∙ ap (λ (k : ℕ). cond j k (k + 1)) e)

pub dated-past : (v : List ℕ) (l : ℕ) (j : Bool) → length v ≡ 256 → 256 ≤ l → v ≡ dated_in v l j
dated-past v l j e h = sym (set_out v l (instant_after (instants_in v) l j) (omega arith))

-- the instant after an instant
pub next_same : (j : Bool) (i : ℕ) → j ≡ true → i ≡ cond j i (i + 1)
next_same j i e = ap (λ (b : Bool). cond b i (i + 1)) (sym e)

pub next_more : (j : Bool) (i : ℕ) → j ≡ false → i + 1 ≡ cond j i (i + 1)
next_more j i e = ap (λ (b : Bool). cond b i (i + 1)) (sym e)

pub ruleset nexts = (next_same, next_more)

-- ── the instants copied one by one ──
pub record Copied (l : List InstantNo) (v : List ℕ) (i : ℕ) : Type 0 where
  pub at : (k : ℕ) → k < i → get_or l k (instant_no 0) ≡ instant_no (get_or v k 0)

pub copied_none : (l : List InstantNo) (v : List ℕ) → Copied l v 0
copied_none l v = record { at = λ k h. absurd (omega arith) }

-- into the column
pub copied_out : (l : List InstantNo) (v : List ℕ) (i : ℕ) (x : InstantNo) → length v ≡ 256 → i < 256 → x ≡ get_or l i (instant_no 0) → Copied l v i → Copied l (set v i x.0) (i + 1)
copied_out l v i x e h q f =
    record {
      at = λ k j.
          either_eq k i
          (λ p. ap (λ (m : ℕ). get_or l m (instant_no 0)) p
          ∙ (sym q ∙ (ap instant_no (sym (get_or-set_same v i x.0 0 (omega arith))) ∙ ap (λ (m : ℕ). instant_no (get_or (set v i x.0) m 0)) (sym p))))
          (λ p. f.at k (omega arith) ∙ ap instant_no (sym (get_or-set_other v i k x.0 0 p)));
    }

-- and back
pub copied_back : (l : List InstantNo) (v : List ℕ) (i : ℕ) → length l ≡ 256 → i < 256 → Copied l v i → Copied (set l i (instant_no (get_or v i 0))) v (i + 1)
copied_back l v i e h f =
    record {
      at = λ k j.
          either_eq k i
          (λ p. ap (λ (m : ℕ). get_or (set l i (instant_no (get_or v i 0))) m (instant_no 0)) p
          ∙ (get_or-set_same l i (instant_no (get_or v i 0)) (instant_no 0) (omega arith) ∙ ap (λ (m : ℕ). instant_no (get_or v m 0)) (sym p)))
          (λ p. get_or-set_other l i k (instant_no (get_or v i 0)) (instant_no 0) p ∙ f.at k (omega arith));
    }

pub copied_all : (l : List InstantNo) (v : List ℕ) (i : ℕ) → length l ≡ 256 → length v ≡ 256 → 256 ≤ i → Copied l v i → l ≡ instants_in v
unfolding instants_in
copied_all l v i e g h f =
    ext_get_or (instant_no 0) l (instants_in v) (e ∙ (sym g ∙ sym (length-map v instant_no)))
    (λ k j. f.at k (omega arith) ∙ sym (get_or-map instant_no v k 0))

pub dated-long : (v : List ℕ) (l : ℕ) (j : Bool) → length v ≡ 256 → length (dated_in v l j) ≡ 256
dated-long v l j e = length-set v l (instant_after (instants_in v) l j) ∙ e

-- two columns that stand for the same instants are the same
pub same_column : (v w : List ℕ) → instants_in v ≡ instants_in w → v ≡ w
unfolding instants_in
same_column v w e = sym (numbers v) ∙ (ap (map (λ x. x.0)) e ∙ numbers w)
  where
    numbers : (u : List ℕ) → map (λ (x : InstantNo). x.0) (map instant_no u) ≡ u
    numbers [] = refl
    numbers (x ∷ u) = ap (λ (y : List ℕ). x ∷ y) (numbers u)

-- ── a line that joins ──
pub joins_not : (j e : Bool) → j ≡ false → false ≡ j && e
joins_not j e p = ap (λ (b : Bool). b && e) (sym p)

pub joins_so : (j : Bool) (a b x y : ℕ) → j ≡ true → x ≡ a → y ≡ b → eqb x y ≡ j && eqb a b
joins_so j a b x y p e f = (λ i. eqb (e i) (f i)) ∙ ap (λ (z : Bool). z && eqb a b) (sym p)

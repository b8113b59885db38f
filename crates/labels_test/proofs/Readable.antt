-- Every place of a table names one of 64 labels, and does so after one label more.
use Prim.Native.Nat.{ℕ, ◌+◌, ◌<◌, ◌≤◌}
use mathlib.Core.Path.{◌≡◌, sym, subst, ap}
use mathlib.Core.List.{List, []}
use native.Mathlib.Omega.{arith}
use lib.ListN.{length, set, length-set, get_or-eq_default}
use lib.Seq.{get_or-set_same, get_or-set_other}
use Rattle.lists.proofs.Cases.{either_eq, either_lt}
use Rattle.labels.specs.declared.Label.{Label}
use Rattle.labels.specs.declared.LabelNo.{LabelNo}
use Rattle.labels.specs.declared.LabelTable.{LabelTable}
use Rattle.labels.specs.Label.{label_no}
use Rattle.labels.specs.Table.{place_at, table_of}
use Rattle.labels.specs.Search.{Readable, put_label}
use Rattle.labels.proofs.Table.{table_readable, none_distinct}

pub empty_readable : (t : LabelTable) → t ≡ table_of [] → Readable t
empty_readable t e = subst Readable (sym e) (table_readable [] none_distinct (omega arith))

-- a place that is written holds the number, or nothing where it lies past the last
written : (ps : List LabelNo) (p n : ℕ) → n ≤ 64 → place_at (set ps p (label_no n)) p ≤ 64
written ps p n h =
    either_lt p (length ps)
    (λ low. let a : place_at (set ps p (label_no n)) p ≡ n = ap (λ (m : LabelNo). m.0) (get_or-set_same ps p (label_no n) (label_no 0) low) in omega (arith, a))
    (λ far. let b : length (set ps p (label_no n)) ≤ p = omega (arith, length-set ps p (label_no n)) in
    let a : place_at (set ps p (label_no n)) p ≡ 0 = ap (λ (m : LabelNo). m.0) (get_or-eq_default (set ps p (label_no n)) (label_no 0) b) in
    omega (arith, a))

unwritten : (ps : List LabelNo) (p n k : ℕ) → (k ≡ p → ⊥) → place_at ps k ≤ 64 → place_at (set ps p (label_no n)) k ≤ 64
unwritten ps p n k m h = let a : place_at (set ps p (label_no n)) k ≡ place_at ps k = ap (λ (m : LabelNo). m.0) (get_or-set_other ps p k (label_no n) (label_no 0) m) in omega (arith, a, h)

pub put_readable : (t q : LabelTable) (x : Label) (p : ℕ) → q ≡ put_label t x p → Readable t → t.count < 64 → Readable q
unfolding Readable
put_readable t q x p e r few k =
    let n : ℕ = t.count + 1 in
    let there : place_at (set t.places p (label_no n)) k ≤ 64 =
    either_eq k p
    (λ h. subst (λ (j : ℕ). place_at (set t.places p (label_no n)) j ≤ 64) (sym h) (written t.places p n (omega arith)))
    (λ m. unwritten t.places p n k m (r k)) in
    subst (λ (u : LabelTable). place_at u.places k ≤ 64) (sym e) there

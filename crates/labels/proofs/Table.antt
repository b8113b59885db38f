-- The label table of a list of different labels: a search finds exactly the labels of the list, and one label more makes the
-- table of the longer list.
use Prim.Native.Nat.{ℕ, zero, suc, ◌+◌, ◌-◌, ◌%◌, ◌<◌, ◌≤◌}
use mathlib.Core.Path.{◌≡◌, refl, ap, sym, ◌∙◌, subst}
use mathlib.Core.List.{List, [], ◌∷◌, ◌++◌}
use mathlib.Core.Bool.{true}
use native.Mathlib.Omega.{arith}
use lib.Dec.{eqb, leb}
use borrow.Author.Tests.{eq-eqb, ne_eqb, le-leb, lt-leb, leb-false, lt-ltb, le-ltb}
use lib.ListN.{length, get_or, set, replicate, length-set, length-append, length-replicate, get_or-append, get_or-eq_default, get_or-replicate}
use lib.Seq.{get_or-set_same, get_or-set_other, get_or_at}
use Rattle.lists.specs.Lists.{pad}
use Rattle.lists.proofs.Cases.{either_eq, either_lt, either_bool}
use Rattle.lists.proofs.Lists.{set-pad}
use Rattle.labels.specs.declared.Label.{Label}
use Rattle.labels.specs.declared.LabelNo.{LabelNo}
use Rattle.labels.specs.declared.LabelTable.{LabelTable}
use Rattle.labels.specs.declared.Slot.{Slot}
use Rattle.labels.specs.declared.Slot.TheVariants.{Seen, Free}
use Rattle.labels.specs.Label.{no_label, absent, label_no, equal_label?}
use Rattle.labels.specs.Table.{index_of, number_of, with_label, label_at, Distinct, first_place, place_at, free_from, free_place, insert, insert_all, places_of, table_of}
use Rattle.labels.specs.Search.{probe, lookup, slot_of, Readable, FindsLabel, AddsLabel, put_label}
use Rattle.labels.proofs.Same.{label_eq, label_refl}
use Rattle.labels.proofs.Probe.{first_low, probe_first}
use Rattle.labels.proofs.Placed.{Placed, Stops, upd, upd_here, upd_else, none_placed, lookup_seen, lookup_free, insert-placed}

-- one label put at the end
pub insert_snoc : (ps : List LabelNo) (n : ℕ) (ls : List Label) (x : Label) → insert_all ps n (ls ++ (x ∷ [])) ≡ insert (insert_all ps n ls) (length ls + n) x
unfolding insert_all
insert_snoc ps n [] x = ap (λ (k : ℕ). insert ps k x) (let z : n ≡ 0 + n = omega arith in z)
insert_snoc ps n (l ∷ ls) x =
    insert_snoc (insert ps n l) (suc n) ls x
    ∙ ap (λ (k : ℕ). insert (insert_all (insert ps n l) (suc n) ls) k x) (let z : length ls + suc n ≡ length (l ∷ ls) + n = omega arith in z)

pub insert-long : (ps : List LabelNo) (n : ℕ) (ls : List Label) → length (insert_all ps n ls) ≡ length ps
unfolding insert_all insert
insert-long ps n [] = refl
insert-long ps n (l ∷ ls) = insert-long (insert ps n l) (suc n) ls ∙ length-set ps (free_place ps l) (label_no n)

pub places_long : (ls : List Label) → length (places_of ls) ≡ 128
unfolding places_of
places_long ls = insert-long (replicate 128 (label_no 0)) 1 ls ∙ length-replicate 128 (label_no 0)

-- the labels of a list, padded or not
pub label_pad : (ls : List Label) (i : ℕ) → (i ≡ 0 → ⊥) → i ≤ length ls → label_at (pad no_label 64 ls) i ≡ label_at ls i
unfolding pad
label_pad ls i m h = get_or-append ls (replicate (64 - length ls) no_label) absent (i - 1) (omega (arith, m))

-- where a label stands
pub index_at : (ls : List Label) (x : Label) → index_of ls x < length ls → get_or ls (index_of ls x) absent ≡ x
unfolding index_of
index_at [] x h = absurd (omega arith)
index_at (l ∷ ls) x h =
    either_bool (equal_label? l x)
    (λ t. simp t (label_eq l x t))
    (λ t. let h' : suc (index_of ls x) < length (l ∷ ls) = simp t at h in simp t (index_at ls x (omega arith)))

pub index_not : (ls : List Label) (x : Label) → length ls ≤ index_of ls x → (k : ℕ) → k < length ls → get_or ls k absent ≡ x → ⊥
unfolding index_of
index_not [] x h k b e = omega arith
index_not (l ∷ ls) x h zero b e =
    let t : equal_label? l x ≡ true = ap (equal_label? l) (sym e) ∙ label_refl l in
    let h' : length (l ∷ ls) ≤ 0 = simp t at h in omega arith
index_not (l ∷ ls) x h (suc k) b e =
    either_bool (equal_label? l x)
    (λ t. let h' : length (l ∷ ls) ≤ 0 = simp t at h in omega arith)
    (λ t. let h' : length (l ∷ ls) ≤ suc (index_of ls x) = simp t at h in index_not ls x (omega arith) k (omega arith) e)

pub index_has : (ls : List Label) (x : Label) → index_of ls x < length ls → label_at ls (suc (index_of ls x)) ≡ x
index_has ls x h = let z : suc (index_of ls x) - 1 ≡ index_of ls x = omega arith in ap (λ (k : ℕ). get_or ls k absent) z ∙ index_at ls x h

pub index_none : (ls : List Label) (x : Label) → length ls ≤ index_of ls x → (i : ℕ) → (i ≡ 0 → ⊥) → i ≤ length ls → label_at ls i ≡ x → ⊥
index_none ls x h i m k e = index_not ls x h (i - 1) (omega (arith, m)) e

-- labels put one after another, each at the first empty place from its own
module _ (lb : ℕ → Label) where
  all_placed : (n : ℕ) (xs : List Label) (ps : List LabelNo) → Placed first_place n lb (place_at ps) → length ps ≡ 128 → n + length xs ≤ 64
      → ((i j : ℕ) → (i ≡ 0 → ⊥) → i ≤ n + length xs → (j ≡ 0 → ⊥) → j ≤ n + length xs → lb i ≡ lb j → i ≡ j)
      → ((k : ℕ) → k < length xs → lb (suc (n + k)) ≡ get_or xs k absent)
      → Placed first_place (n + length xs) lb (place_at (insert_all ps (suc n) xs))
  unfolding insert_all insert
  all_placed n [] ps pl long few apart is = let z : n ≡ n + 0 = omega arith in subst (λ (m : ℕ). Placed first_place m lb (place_at ps)) z pl
  all_placed n (x ∷ xs) ps pl long few apart is =
      let apart' : ((i j : ℕ) → (i ≡ 0 → ⊥) → i ≤ n → (j ≡ 0 → ⊥) → j ≤ n → lb i ≡ lb j → i ≡ j) = λ i j a b c d e. apart i j a (omega arith) c (omega arith) e in
      let new : lb (suc n) ≡ x = (let z : suc n ≡ suc (n + 0) = omega arith in ap lb z) ∙ is 0 (omega arith) in
      let stop : Stops (place_at ps) lb x (first_place x) 128 =
      lookup_free first_place first_low n lb (place_at ps) pl apart' x (omega arith)
      (λ i m k e. let q : i ≡ suc n = apart i (suc n) m (omega arith) (λ z. omega arith) (omega arith) (e ∙ sym new) in omega arith) in
      let p : ℕ = (first_place x + stop.far) % 128 in
      let same : p ≡ free_from (place_at ps) (first_place x) 128 = probe_first (place_at ps) lb x (first_place x) 128 p stop.found in
      let g : Placed first_place (suc n) lb (upd (place_at ps) p (suc n)) = insert-placed first_place first_low n lb (place_at ps) pl apart' x lb (λ i m k. refl) new stop in
      let f : (q : ℕ) → upd (place_at ps) p (suc n) q ≡ place_at (set ps p (label_no (suc n))) q =
      λ q. either_eq q p
      (λ e. upd_here (place_at ps) p (suc n) q e ∙ (ap (λ (y : LabelNo). y.0) (sym (get_or-set_same ps p (label_no (suc n)) (label_no 0) (omega arith))) ∙ ap (λ (k : ℕ). (get_or (set ps p (label_no (suc n))) k (label_no 0)).0) (sym e)))
      (λ m. upd_else (place_at ps) p (suc n) q m ∙ ap (λ (y : LabelNo). y.0) (sym (get_or-set_other ps p q (label_no (suc n)) (label_no 0) m))) in
      let f' : upd (place_at ps) p (suc n) ≡ place_at (set ps p (label_no (suc n))) = λ i q. f q i in
      let g' : Placed first_place (suc n) lb (place_at (set ps (free_from (place_at ps) (first_place x) 128) (label_no (suc n)))) =
      subst (λ (k : ℕ). Placed first_place (suc n) lb (place_at (set ps k (label_no (suc n))))) same (subst (λ (y : ℕ → ℕ). Placed first_place (suc n) lb y) f' g) in
      let z : suc n + length xs ≡ n + length (x ∷ xs) = omega arith in
      subst (λ (m : ℕ). Placed first_place m lb (place_at (insert_all (insert ps (suc n) x) (suc (suc n)) xs))) z
      (all_placed (suc n) xs (insert ps (suc n) x) g' (length-set ps (free_from (place_at ps) (first_place x) 128) (label_no (suc n)) ∙ long) (omega arith)
      (λ i j a b c d e. apart i j a (omega arith) c (omega arith) e)
      (λ k h. (let w : suc (suc n + k) ≡ suc (n + suc k) = omega arith in ap lb w) ∙ is (suc k) (omega arith)))

none_at : (p : ℕ) → place_at (replicate 128 (label_no 0)) p ≡ 0
none_at p = either_lt p 128 (λ h. ap (λ (y : LabelNo). y.0) (get_or-replicate 128 p (label_no 0) (label_no 0) h)) (λ h. let w : length (replicate 128 (label_no 0)) ≤ p = h in ap (λ (y : LabelNo). y.0) (get_or-eq_default (replicate 128 (label_no 0)) (label_no 0) w))

-- ── all labels of the list are placed ──
module _ (ls : List Label) (distinct : Distinct ls) (few : length ls ≤ 64) where
  abbrev lb : ℕ → Label
  lb = label_at (pad no_label 64 ls)

  pub placed : Placed first_place (length ls) lb (place_at (places_of ls))
  unfolding places_of Distinct
  placed =
      let z : (λ (p : ℕ). 0) ≡ place_at (replicate 128 (label_no 0)) = λ i p. sym (none_at p) i in
      let w : 0 + length ls ≡ length ls = omega arith in
      subst (λ (m : ℕ). Placed first_place m lb (place_at (insert_all (replicate 128 (label_no 0)) 1 ls))) w
      (all_placed lb 0 ls (replicate 128 (label_no 0)) (subst (λ (y : ℕ → ℕ). Placed first_place 0 lb y) z (none_placed first_place lb)) (length-replicate 128 (label_no 0)) (omega arith)
      (λ a b m k n l q. distinct a b m (omega arith) n (omega arith) (sym (label_pad ls a m (omega arith)) ∙ (q ∙ label_pad ls b n (omega arith))))
      (λ k h. (let v : suc (0 + k) ≡ suc k = omega arith in ap lb v) ∙ (label_pad ls (suc k) (λ e. omega arith) h ∙ (let v : suc k - 1 ≡ k = omega arith in ap (λ (m : ℕ). get_or ls m absent) v))))

  pub seen : (x : Label) → index_of ls x < length ls → probe (place_at (places_of ls)) lb x (first_place x) 128 ≡ Seen (label_no (suc (index_of ls x)))
  unfolding Distinct
  seen x h =
      let i : ℕ = suc (index_of ls x) in
      let e : lb i ≡ x = label_pad ls i (λ z. omega arith) h ∙ index_has ls x h in
      subst (λ (y : Label). probe (place_at (places_of ls)) lb y (first_place y) 128 ≡ Seen (label_no i)) e
      (lookup_seen first_place first_low (length ls) lb (place_at (places_of ls)) placed
      (λ a b m k n l q. distinct a b m k n l (sym (label_pad ls a m k) ∙ (q ∙ label_pad ls b n l))) i (λ z. omega arith) h)

  pub free : (x : Label) → length ls ≤ index_of ls x → probe (place_at (places_of ls)) lb x (first_place x) 128 ≡ Free (free_from (place_at (places_of ls)) (first_place x) 128)
  unfolding Distinct
  free x h =
      let s : Stops (place_at (places_of ls)) lb x (first_place x) 128 =
      lookup_free first_place first_low (length ls) lb (place_at (places_of ls)) placed
      (λ a b m k n l q. distinct a b m k n l (sym (label_pad ls a m k) ∙ (q ∙ label_pad ls b n l)))
      x (omega arith) (λ i m k e. index_none ls x h i m k (sym (label_pad ls i m k) ∙ e)) in
      s.found ∙ ap Free (probe_first (place_at (places_of ls)) lb x (first_place x) 128 _ s.found)

-- ── the labels once x is among them ──
pub with_few : (ls : List Label) (x : Label) → index_of ls x < length ls → (x.length ≡ 0 → ⊥) → with_label ls x ≡ ls
unfolding with_label
with_few ls x h n = simp (ne_eqb _ _ n, lt-leb _ _ h)

pub with_new : (ls : List Label) (x : Label) → length ls ≤ index_of ls x → (x.length ≡ 0 → ⊥) → with_label ls x ≡ ls ++ (x ∷ [])
unfolding with_label
with_new ls x h n = simp (ne_eqb _ _ n, le-leb _ _ h)

pub with_none : (ls : List Label) (x : Label) → x.length ≡ 0 → with_label ls x ≡ ls
unfolding with_label
with_none ls x e = simp (eq-eqb _ _ e)

-- a new label is apart from the old ones
distinct_new : (ls : List Label) (x : Label) → Distinct ls → length ls ≤ index_of ls x → Distinct (ls ++ (x ∷ []))
unfolding Distinct
distinct_new ls x old-distinct h i j m k n l e =
    let z : length (ls ++ (x ∷ [])) ≡ suc (length ls) = simp length-append (omega arith) in
    either_lt (length ls) i
    (λ a. either_lt (length ls) j
    (λ b. omega arith)
    (λ b. absurd (index_none ls x h j n b (sym (old j n b) ∙ (sym e ∙ new i (omega arith))))))
    (λ a. either_lt (length ls) j
    (λ b. absurd (index_none ls x h i m a (sym (old i m a) ∙ (e ∙ new j (omega arith)))))
    (λ b. old-distinct i j m a n b (sym (old i m a) ∙ (e ∙ old j n b))))
  where
    old : (i : ℕ) → (i ≡ 0 → ⊥) → i ≤ length ls → label_at (ls ++ (x ∷ [])) i ≡ label_at ls i
    old i m h = get_or-append ls (x ∷ []) absent (i - 1) (omega (arith, m))

    new : (i : ℕ) → i ≡ suc (length ls) → label_at (ls ++ (x ∷ [])) i ≡ x
    new i e = get_or_at ls x [] absent (i - 1) (omega arith)

pub distinct_with : (ls : List Label) (x : Label) → Distinct ls → Distinct (with_label ls x)
distinct_with ls x a =
    either_eq x.length 0
    (λ e. subst Distinct (sym (with_none ls x e)) a)
    (λ n. either_lt (index_of ls x) (length ls)
    (λ h. subst Distinct (sym (with_few ls x h n)) a)
    (λ h. subst Distinct (sym (with_new ls x h n)) (distinct_new ls x a h)))

pub index_most : (ls : List Label) (x : Label) → index_of ls x ≤ length ls
unfolding index_of
index_most [] x = omega arith
index_most (l ∷ ls) x = either_bool (equal_label? l x) (λ t. simp t (omega arith)) (λ t. simp t (omega (arith, index_most ls x)))

-- a label's number is among the numbers of the labels, once the label is among them; and labels are only added
pub number_low : (ls : List Label) (x : Label) → (number_of ls x ≤ length (with_label ls x)) × (length ls ≤ length (with_label ls x))
unfolding number_of with_label
number_low ls x =
    either_bool (eqb x.length 0)
    (λ e. simp e (omega arith))
    (λ e. either_bool (leb (length ls) (index_of ls x))
    (λ f. simp (e, f, length-append) (omega (arith, index_most ls x)))
    (λ f. simp (e, f) (omega (arith, leb-false (length ls) (index_of ls x) f))))

-- the labels before a line keep their numbers, and the number that a run gets names the line's label
pub label_kept : (ls : List Label) (x : Label) (k : ℕ) → (k ≡ 0 → ⊥) → k ≤ length ls → label_at (with_label ls x) k ≡ label_at ls k
label_kept ls x k m h =
    either_eq x.length 0
    (λ e. ap (λ (l : List Label). label_at l k) (with_none ls x e))
    (λ n. either_lt (index_of ls x) (length ls)
    (λ j. ap (λ (l : List Label). label_at l k) (with_few ls x j n))
    (λ j. ap (λ (l : List Label). label_at l k) (with_new ls x j n) ∙ get_or-append ls (x ∷ []) absent (k - 1) (omega (arith, m))))

pub number_names : (ls : List Label) (x : Label) → (x.length ≡ 0 → ⊥) → label_at (with_label ls x) (number_of ls x) ≡ x
unfolding number_of
number_names ls x n =
    simp (ne_eqb _ _ n)
    (either_lt (index_of ls x) (length ls)
    (λ j. ap (λ (l : List Label). label_at l (suc (index_of ls x))) (with_few ls x j n) ∙ index_has ls x j)
    (λ j. ap (λ (l : List Label). label_at l (suc (index_of ls x))) (with_new ls x j n) ∙ get_or_at ls x [] absent (suc (index_of ls x) - 1) (omega (arith, index_most ls x))))

-- ── what a search in the table finds ──
module _ (ls : List Label) (distinct : Distinct ls) (few : length ls ≤ 64) where
  pub lookup_table : (x : Label) → lookup (table_of ls) x ≡ slot_of ls x
  unfolding slot_of
  lookup_table x =
      either_lt (index_of ls x) (length ls)
      (λ h. seen ls distinct few x h ∙ simp (lt-ltb _ _ h))
      (λ h. free ls distinct few x h ∙ simp (le-ltb _ _ h))

  pub table_readable : Readable (table_of ls)
  unfolding Readable
  table_readable p = omega (arith, (placed ls distinct few).low p)

pub finds : (t : LabelTable) (x : Label) (s : Slot) → s ≡ lookup t x → FindsLabel t x s
finds t x s e = record { answer = e; meaning = λ ls d few q. e ∙ (ap (λ (u : LabelTable). lookup u x) q ∙ lookup_table ls d few x) }

-- ── the table with a new label ──
pub put_table : (ls : List Label) (x : Label) → length ls < 64 → put_label (table_of ls) x (free_place (places_of ls) x) ≡ table_of (ls ++ (x ∷ []))
unfolding places_of insert
put_table ls x few =
    let a : set (pad no_label 64 ls) (length ls) x ≡ pad no_label 64 (ls ++ (x ∷ [])) = set-pad no_label 64 ls x few in
    let b : set (places_of ls) (free_place (places_of ls) x) (label_no (length ls + 1)) ≡ places_of (ls ++ (x ∷ [])) = sym (insert_snoc (replicate 128 (label_no 0)) 1 ls x) in
    let c : length ls + 1 ≡ length (ls ++ (x ∷ [])) = simp length-append in
    λ j. record { labels = a j; places = b j; count = c j }

pub adds : (t : LabelTable) (x : Label) (p : ℕ) (q : LabelTable) → q ≡ put_label t x p → AddsLabel t x p q
adds t x p q e = record { answer = e; meaning = λ ls h f g. e ∙ ((λ i. put_label (f i) x (g i)) ∙ put_table ls x h) }

pub none_distinct : Distinct []
unfolding Distinct
none_distinct i j m k n l e = absurd (m (omega arith))

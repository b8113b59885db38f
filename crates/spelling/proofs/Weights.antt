-- A table in which no node is named twice is no larger than its nodes: the formula of its root has at most as many node_count.
use Prim.Native.Nat.{ℕ, zero, suc, ◌+◌, ◌-◌, ◌*◌, ◌<◌, ◌≤◌}
use mathlib.Core.Path.{◌≡◌, refl, sym, ap, ◌∙◌}
use mathlib.Core.Bool.{true}
use mathlib.Core.List.{List, [], ◌∷◌, ◌++◌, append_assoc}
use native.Mathlib.Omega.{arith}
use native.Mathlib.Nat.{add-mul, one-mul, zero-mul}
use lib.ListN.{length, length-append}
use borrow.Author.Tests.{eq-eqb, ne_eqb}
use Rattle.lists.proofs.Cases.{either_eq}
use Rattle.rules.specs.Formula.{Pairing, before, overlaps, includes, same, Formula, both, neg, exists, has, pair}
use Rattle.rules.specs.Table.{Op, op_of, node_at, fields_ok, Good, formula_at}
use Rattle.rules.specs.declared.Node.{Node}
use Rattle.rules.specs.Parts.{label_count}
use Rattle.rules.specs.Checks.{field_names, fields_naming, node_names, times_named}
use Rattle.typed_grammar.specs.Text.{letter}
use Rattle.typed_grammar.specs.File.{node_count}
use Rattle.spelling.specs.Written.{write_pair, write}
use Rattle.levels.specs.Levels.{Levels, binds}
use Rattle.rules.proofs.Formulas.{and-fields, not_fields, some_fields, node_fields, atom_fields, formula-and, formula_not, formula_some, formula-has, op_pair_lem, by_atom}

-- ── sums ──
abbrev total : (ℕ → ℕ) → ℕ → ℕ
total f zero = 0
total f (suc m) = total f m + f m

total_add : (f g h : ℕ → ℕ) (m : ℕ) → ((i : ℕ) → i < m → h i ≡ f i + g i) → total h m ≡ total f m + total g m
total_add f g h zero e = refl
total_add f g h (suc m) e = let a = total_add f g h m (λ i l. e i (omega arith)) in let b = e m (omega arith) in omega arith

total_same : (f g : ℕ → ℕ) (m : ℕ) → ((i : ℕ) → i < m → f i ≡ g i) → total f m ≡ total g m
total_same f g zero e = refl
total_same f g (suc m) e = let a = total_same f g m (λ i l. e i (omega arith)) in let b = e m (omega arith) in omega arith

total_none : (f : ℕ → ℕ) (m : ℕ) → ((i : ℕ) → i < m → f i ≡ 0) → total f m ≡ 0
total_none f zero e = refl
total_none f (suc m) e = let a = total_none f m (λ i l. e i (omega arith)) in let b = e m (omega arith) in omega arith

total_term : (f : ℕ → ℕ) (m i : ℕ) → i < m → f i ≤ total f m
total_term f zero i h = absurd (omega arith)
total_term f (suc m) i h = either_eq i m (λ e. let a = ap f e in omega arith) (λ e. let a = total_term f m i (omega arith) in omega arith)

module _ (w : ℕ → ℕ) where
  times_none : (x i : ℕ) → x ≡ 0 → x * w i ≡ 0
  times_none x i e = ap (λ (j : ℕ). j * w i) e ∙ zero-mul (w i)

  pick : (a m : ℕ) → a < m → total (λ i. field_names a i * w i) m ≡ w a
  pick a zero h = absurd (omega arith)
  pick a (suc m) h =
      either_eq a m
      (λ e.
      let z : total (λ i. field_names a i * w i) m ≡ 0 = total_none (λ i. field_names a i * w i) m (λ i l. times_none (field_names a i) i (rw (ne_eqb a i (λ q. omega arith)))) in
      let y : field_names a m * w m ≡ w a = ap (λ (j : ℕ). j * w m) (let q : field_names a m ≡ 1 = rw (eq-eqb a m e) in q) ∙ (one-mul (w m) ∙ ap w (sym e)) in
      omega arith)
      (λ e.
      let z = pick a m (omega arith) in
      let y : field_names a m * w m ≡ 0 = times_none (field_names a m) m (rw (ne_eqb a m e)) in
      omega arith)

-- ── the nodes ──
module _ (file : List ℕ) (p count : ℕ) (good : (n : ℕ) → n < count → Good file p n) where
  abbrev weight : ℕ → ℕ
  weight n = node_count (formula_at file p n)

  abbrev names : ℕ → ℕ → ℕ
  names n i = node_names (node_at file p n) i

  -- a node names earlier nodes only, and weighs one more than those that it names
  pub record Weighed (n : ℕ) : Type 0 where
    pub later : (i : ℕ) → n ≤ i → names n i ≡ 0
    pub children : total (λ i. names n i * weight i) n + 1 ≡ weight n

  module _ (n : ℕ) (h : n < count) where
    abbrev x : Node
    x = node_at file p n

    abbrev fields : (k : ℕ) → x.kind ≡ k → (i : ℕ) → names n i ≡ fields_naming (op_of k) x.a x.b i
    fields k e i = ap (λ (j : ℕ). fields_naming (op_of j) x.a x.b i) e

    f_ok : fields_ok (label_count file) n x ≡ true
    f_ok = node_fields file p n x refl (good n h)

    -- one child, c
    one_child : (c : ℕ) → c < n → ((i : ℕ) → names n i ≡ field_names c i) → weight n ≡ weight c + 1 → Weighed n
    one_child c l e w =
        let s : total (λ i. names n i * weight i) n ≡ weight c = total_same (λ i. names n i * weight i) (λ i. field_names c i * weight i) n (λ i _. ap (λ (j : ℕ). j * weight i) (e i)) ∙ pick weight c n l in
        record { later = λ i m. e i ∙ rw (ne_eqb c i (λ q. omega arith)); children = omega arith }

    no_child : ((i : ℕ) → names n i ≡ 0) → weight n ≡ 1 → Weighed n
    no_child e w =
        let s : total (λ i. names n i * weight i) n ≡ 0 = total_none (λ i. names n i * weight i) n (λ i _. times_none weight (names n i) i (e i)) in
        record { later = λ i m. e i; children = omega arith }

    two_children : (a b : ℕ) → a < n → b < n → ((i : ℕ) → names n i ≡ field_names a i + field_names b i) → weight n ≡ weight a + weight b + 1 → Weighed n
    two_children a b la lb e w =
        let s : total (λ i. names n i * weight i) n ≡ total (λ i. field_names a i * weight i) n + total (λ i. field_names b i * weight i) n =
        total_add (λ i. field_names a i * weight i) (λ i. field_names b i * weight i) (λ i. names n i * weight i) n (λ i _. ap (λ (j : ℕ). j * weight i) (e i) ∙ add-mul (field_names a i) (field_names b i) (weight i)) in
        let pa = pick weight a n la in
        let pb = pick weight b n lb in
        record {
          later = λ i m. let ea : field_names a i ≡ 0 = rw (ne_eqb a i (λ q. omega arith)) in let eb : field_names b i ≡ 0 = rw (ne_eqb b i (λ q. omega arith)) in e i ∙ omega arith;
          children = omega arith;
        }

    atom : (k : ℕ) → x.kind ≡ k → ((i : ℕ) → fields_naming (op_of k) x.a x.b i ≡ 0) → weight n ≡ 1 → Weighed n
    atom k e z w = no_child (λ i. fields k e i ∙ z i) w

    pub weighed : Weighed n
    weighed =
        either_eq x.kind 1
        (λ e. let q = and-fields (label_count file) n x f_ok e in two_children x.a x.b q.0 q.1 (fields 1 e) (ap node_count (formula-and file p n x refl (good n h) e)))
        (λ n1. either_eq x.kind 2
        (λ e. one_child x.a (not_fields (label_count file) n x f_ok e) (fields 2 e) (ap node_count (formula_not file p n x refl (good n h) e)))
        (λ n2. either_eq x.kind 3
        (λ e. one_child x.b (some_fields (label_count file) n x f_ok e).1 (fields 3 e) (ap node_count (formula_some file p n x refl (good n h) e)))
        (λ n3.
        by_atom file p n x refl (good n h) n1 n2 n3
        (λ e. atom 4 e (λ i. refl) (ap node_count (formula-has file p n x refl (good n h) e)))
        (λ n4 f. let o = atom_fields file p n x refl (good n h) n1 n2 n3 in
        no_child (λ i. ap (λ (k : Op). fields_naming k x.a x.b i) (op_pair_lem x.kind (omega (arith, o.low)) o.high)) (ap node_count f)))))

  -- ── all nodes ──
  abbrev times : ℕ → ℕ → ℕ
  times n c = times_named file p n c

  pub not_yet : (n c : ℕ) → n ≤ count → n ≤ c + 1 → times n c ≡ 0
  unfolding times_named
  not_yet zero c h l = refl
  not_yet (suc n) c h l = let a = not_yet n c (omega arith) (omega arith) in let b = (weighed n (omega arith)).later c (omega arith) in omega arith

  grows : (n d c : ℕ) → times n c ≤ times (n + d) c
  unfolding times_named
  grows n zero c = let e : n + 0 ≡ n = omega arith in let q = ap (λ (j : ℕ). times j c) e in omega arith
  grows n (suc d) c =
      let a = grows n d c in
      let e : n + suc d ≡ suc (n + d) = omega arith in
      let q : times (n + suc d) c ≡ times (n + d) c + names (n + d) c = ap (λ (j : ℕ). times j c) e in
      omega arith

  module _ (once : (c : ℕ) → times count c ≤ 1) where
    at_most : (n c : ℕ) → n ≤ count → times n c ≤ 1
    at_most n c h = let a = grows n (count - n) c in let e : n + (count - n) ≡ count = omega arith in let b = ap (λ (j : ℕ). times j c) e in omega (arith, once c)

    -- the nodes that none of the first n names weigh n
    balance : (n : ℕ) → n ≤ count → total (λ i. (1 - times n i) * weight i) n ≡ n
    unfolding times_named
    balance zero h = refl
    balance (suc n) h =
        let w = weighed n (omega arith) in
        let a = balance n (omega arith) in
        let s : total (λ i. (1 - times n i) * weight i) n ≡ total (λ i. (1 - times (suc n) i) * weight i) n + total (λ i. names n i * weight i) n =
        total_add (λ i. (1 - times (suc n) i) * weight i) (λ i. names n i * weight i) (λ i. (1 - times n i) * weight i) n
        (λ i l. let m = at_most (suc n) i h in
        let e : 1 - times n i ≡ 1 - times (suc n) i + names n i = omega arith in
        ap (λ (j : ℕ). j * weight i) e ∙ add-mul (1 - times (suc n) i) (names n i) (weight i)) in
        let z : 1 - times (suc n) n ≡ 1 = let q = not_yet (suc n) n h (omega arith) in omega arith in
        let y : (1 - times (suc n) n) * weight n ≡ weight n = ap (λ (j : ℕ). j * weight n) z ∙ one-mul (weight n) in
        omega (arith, w.children)

    -- the root's formula has at most as many node_count as there are nodes
    pub root_light : 1 ≤ count → weight (count - 1) ≤ count
    root_light h =
        let b = balance count (omega arith) in
        let t = total_term (λ i. (1 - times count i) * weight i) count (count - 1) (omega arith) in
        let z : 1 - times count (count - 1) ≡ 1 = let q = not_yet count (count - 1) (omega arith) (omega arith) in omega arith in
        let y : (1 - times count (count - 1)) * weight (count - 1) ≡ weight (count - 1) = ap (λ (j : ℕ). j * weight (count - 1)) z ∙ one-mul (weight (count - 1)) in
        omega arith

-- ── the length of a text ──
abbrev pub Short : Formula → Type 0
Short (both f g) = Short f × Short g
Short (neg f) = Short f
Short (exists v f) = Short f
Short (has v l) = length l ≤ 24
Short (pair p v w) = Unit {0}

pair_short : (p : Pairing) (a b : ℕ) (s : List ℕ) → length (write_pair p a b s) ≤ 29 + length s
pair_short before a b s = omega arith
pair_short overlaps a b s = omega arith
pair_short includes a b s = omega arith
pair_short same a b s = omega arith

-- 64 nodes fill at most 1,856 bytes
pub write-short : (f : Formula) → Short f → (d : ℕ) (e : Levels) (s : List ℕ) → length (write d e f s) ≤ 29 * node_count f + length s
unfolding write
write-short (both f g) h d e s = omega (arith, write-short f h.0 d e (38 ∷ write d e g (41 ∷ s)), write-short g h.1 d e (41 ∷ s))
write-short (neg f) h d e s = omega (arith, write-short f h d e s)
write-short (exists v f) h d e s = omega (arith, write-short f h (suc d) (binds e v d) (41 ∷ s))
write-short (has v l) h d e s = omega (arith, length-append l (39 ∷ 41 ∷ s))
write-short (pair p v w) h d e s = pair_short p (letter (e v)) (letter (e w)) s

-- what follows stands behind
pair_append : (p : Pairing) (a b : ℕ) (s : List ℕ) → write_pair p a b s ≡ write_pair p a b [] ++ s
pair_append before a b s = refl
pair_append overlaps a b s = refl
pair_append includes a b s = refl
pair_append same a b s = refl

pub write_append : (f : Formula) (d : ℕ) (e : Levels) (s : List ℕ) → write d e f s ≡ write d e f [] ++ s
unfolding write
write_append (both f g) d e s =
    let x = write d e f [] in
    let y = write d e g [] in
    ap (λ (l : List ℕ). 40 ∷ l)
    (write_append f d e (38 ∷ write d e g (41 ∷ s))
    ∙ (ap (λ (l : List ℕ). x ++ (38 ∷ l)) (write_append g d e (41 ∷ s) ∙ (sym (append_assoc y (41 ∷ []) s) ∙ ap (λ (l : List ℕ). l ++ s) (sym (write_append g d e (41 ∷ [])))))
    ∙ (sym (append_assoc x (38 ∷ write d e g (41 ∷ [])) s) ∙ ap (λ (l : List ℕ). l ++ s) (sym (write_append f d e (38 ∷ write d e g (41 ∷ [])))))))
write_append (neg f) d e s = ap (λ (l : List ℕ). 33 ∷ l) (write_append f d e s)
write_append (exists v f) d e s =
    let y = write (suc d) (binds e v d) f [] in
    ap (λ (l : List ℕ). 40 ∷ 101 ∷ 120 ∷ 105 ∷ 115 ∷ 116 ∷ 32 ∷ letter d ∷ 46 ∷ l)
    (write_append f (suc d) (binds e v d) (41 ∷ s) ∙ (sym (append_assoc y (41 ∷ []) s) ∙ ap (λ (l : List ℕ). l ++ s) (sym (write_append f (suc d) (binds e v d) (41 ∷ [])))))
write_append (has v l) d e s = ap (λ (x : List ℕ). letter (e v) ∷ 40 ∷ 39 ∷ x) (sym (append_assoc l (39 ∷ 41 ∷ []) s))
write_append (pair p v w) d e s = pair_append p (letter (e v)) (letter (e w)) s

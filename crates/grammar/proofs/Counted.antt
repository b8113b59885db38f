-- How often a node is named, as a count over the fields of all nodes, and as a statement: the count is 1 exactly if one field of
-- one node names it. First of any count over fields; then of the count that the check of a rule file takes.
use Prim.Native.Nat.{ℕ, zero, suc, ◌+◌, ◌≤◌, ◌<◌}
use mathlib.Core.Path.{◌≡◌, refl, sym, ap, ◌∙◌, subst}
use mathlib.Core.Bool.{Bool, true, false, cond}
use mathlib.Core.List.{List}
use native.Mathlib.Omega.{arith}
use lib.Dec.{eqb}
use lib.ListN.{length}
use borrow.Author.Tests.{eqb-true, eq-eqb}
use Rattle.lists.proofs.Cases.{either_eq, either_lt, either_bool}
use Rattle.rules.specs.declared.Node.{Node}
use Rattle.rules.specs.Table.{Op, op_and, op_not, op_some, op_has, op_none, op_pair, op_of, node_at}
use Rattle.rules.specs.Checks.{field_names, fields_naming, node_names, times_named}
use Rattle.rules.proofs.Formulas.{op_pair_lem}
use Rattle.grammar.specs.Naming.{node_of, Field, first, second, Names, by_and_a, by_and_b, by_not, by_some, NamedOnce}
use Rattle.grammar.specs.Layout.{InRange, and, not, some, has_label, between, RightNodes}
use Rattle.grammar.proofs.Paths.{names_within}

-- ── a count over the fields of the first n nodes ──
abbrev total : (ℕ → Field → ℕ) → ℕ → ℕ
total g zero = 0
total g (suc n) = total g n + (g n first + g n second)

apart : first ≡ second → ⊥
apart e = let z : ◌≡◌ {A = ℕ} 0 1 = cc in omega arith

module _ (g : ℕ → Field → ℕ) where
  total_node : (n m : ℕ) → m < n → g m first + g m second ≤ total g n
  total_node zero m h = absurd (omega arith)
  total_node (suc n) m h =
      either_eq m n
      (λ e. let z : g m first + g m second ≡ g n first + g n second = ap (λ (i : ℕ). g i first + g i second) e in omega arith)
      (λ e. let z = total_node n m (omega arith) in omega arith)

  field_node : (m : ℕ) (f : Field) → g m f ≤ g m first + g m second
  field_node m first = omega arith
  field_node m second = omega arith

  total_field : (n m : ℕ) (f : Field) → m < n → g m f ≤ total g n
  total_field n m f h = omega (arith, field_node m f, total_node n m h)

  total_two : (n m k : ℕ) (f e : Field) → m < k → k < n → g m f + g k e ≤ total g n
  total_two zero m k f e l h = absurd (omega arith)
  total_two (suc n) m k f e l h =
      either_eq k n
      (λ q. let z : g k e ≡ g n e = ap (λ (i : ℕ). g i e) q in omega (arith, total_field n m f (omega arith), field_node n e))
      (λ q. let z = total_two n m k f e l (omega arith) in omega arith)

  total_found : (n : ℕ) → 1 ≤ total g n → (m : ℕ) × (f : Field) × (m < n) × (1 ≤ g m f)
  total_found zero h = absurd (omega arith)
  total_found (suc n) h =
      either_lt 0 (total g n)
      (λ l. let w = total_found n l in (w.0, w.1, omega (arith, w.2), w.3))
      (λ l. either_lt 0 (g n first) (λ a. (n, first, omega arith, a)) (λ a. (n, second, omega arith, omega arith)))

  -- a count of 1 comes from one field
  same_field : (m : ℕ) (f e : Field) → g m first + g m second ≤ 1 → 1 ≤ g m f → 1 ≤ g m e → e ≡ f
  same_field m first first h a b = refl
  same_field m first second h a b = absurd (omega arith)
  same_field m second first h a b = absurd (omega arith)
  same_field m second second h a b = refl

  one_field : (n m k : ℕ) (f e : Field) → total g n ≡ 1 → m < n → 1 ≤ g m f → k < n → 1 ≤ g k e → (k ≡ m) × (e ≡ f)
  one_field n m k f e t h a l b =
      either_lt m k (λ z. absurd (omega (arith, total_two n m k f e z l))) (λ z.
      either_lt k m (λ y. absurd (omega (arith, total_two n k m e f y h))) (λ y.
      let q : k ≡ m = omega arith in
      (q, same_field m f e (omega (arith, total_node n m h)) a (subst (λ (i : ℕ). 1 ≤ g i e) q b))))

  -- one field counts once
  module _ (N m : ℕ) (f : Field) (small : (i : ℕ) (e : Field) → g i e ≤ 1) (only : (i : ℕ) (e : Field) → i < N → 1 ≤ g i e → (i ≡ m) × (e ≡ f)) where
    none_below : (n : ℕ) → n ≤ m → n ≤ N → total g n ≡ 0
    none_below n h l =
        either_lt 0 (total g n)
        (λ z. let w = total_found n z in absurd (omega (arith, w.2, (only w.0 w.1 (omega (arith, w.2)) w.3).0)))
        (λ z. omega arith)

    node_small : (n : ℕ) → n < N → g n first + g n second ≤ 1
    node_small n l =
        either_lt 0 (g n first)
        (λ a. either_lt 0 (g n second) (λ b. absurd (apart ((only n first l a).1 ∙ sym (only n second l b).1))) (λ b. omega (arith, small n first)))
        (λ a. omega (arith, small n second))

    total_small : (n : ℕ) → n ≤ N → total g n ≤ 1
    total_small zero l = omega arith
    total_small (suc n) l =
        either_lt 0 (g n first) (λ a. here (only n first l a).0) (λ a.
        either_lt 0 (g n second) (λ b. here (only n second l b).0) (λ b. omega (arith, total_small n (omega arith))))
      where
        here : n ≡ m → total g (suc n) ≤ 1
        here e = omega (arith, none_below n (omega arith) (omega arith), node_small n l)

-- ── how often a field names a node ──
abbrev op_count : Op → Field → ℕ → ℕ → ℕ → ℕ
op_count op_and first a b c = field_names a c
op_count op_and second a b c = field_names b c
op_count op_not first a b c = field_names a c
op_count op_not second a b c = 0
op_count op_some first a b c = 0
op_count op_some second a b c = field_names b c
op_count op_has f a b c = 0
op_count (op_pair p) f a b c = 0
op_count op_none f a b c = 0

abbrev field_count : Node → ℕ → Field → ℕ
field_count x c f = op_count (op_of x.kind) f x.a x.b c

bit-small : (b : Bool) → cond b 1 0 ≤ 1
bit-small true = omega arith
bit-small false = omega arith

op_small : (o : Op) (f : Field) (a b c : ℕ) → op_count o f a b c ≤ 1
op_small op_and first a b c = bit-small (eqb a c)
op_small op_and second a b c = bit-small (eqb b c)
op_small op_not first a b c = bit-small (eqb a c)
op_small op_not second a b c = omega arith
op_small op_some first a b c = omega arith
op_small op_some second a b c = bit-small (eqb b c)
op_small op_has f a b c = omega arith
op_small (op_pair p) f a b c = omega arith
op_small op_none f a b c = omega arith

op_fields : (o : Op) (a b c : ℕ) → fields_naming o a b c ≡ op_count o first a b c + op_count o second a b c
op_fields op_and a b c = refl
op_fields op_not a b c = omega arith
op_fields op_some a b c = omega arith
op_fields op_has a b c = refl
op_fields (op_pair p) a b c = refl
op_fields op_none a b c = refl

same_counts : (a c : ℕ) → a ≡ c → 1 ≤ field_names a c
same_counts a c e = let z : field_names a c ≡ 1 = ap (λ (t : Bool). cond t 1 0) (eq-eqb a c e) in omega arith

counts_same : (a c : ℕ) → 1 ≤ field_names a c → a ≡ c
counts_same a c h =
    either_bool (eqb a c) (eqb-true a c) (λ e. let z : field_names a c ≡ 0 = ap (λ (t : Bool). cond t 1 0) e in absurd (omega arith))

module _ (xs : List Node) (m c : ℕ) where
  abbrev x : Node
  x = node_of xs m

  at_kind : (k : ℕ) (f : Field) → x.kind ≡ k → field_count x c f ≡ op_count (op_of k) f x.a x.b c
  at_kind k f e = ap (λ (i : ℕ). op_count (op_of i) f x.a x.b c) e

  at_field : (k : ℕ) (f e : Field) → x.kind ≡ k → f ≡ e → op_count (op_of k) e x.a x.b c ≡ field_count x c f
  at_field k f e q r = sym (at_kind k e q) ∙ ap (field_count x c) (sym r)

  names_counts : (f : Field) → Names xs m f c → 1 ≤ field_count x c f
  names_counts f (by_and_a k e q) = omega (arith, same_counts _ _ e, at_field 1 f first k q)
  names_counts f (by_and_b k e q) = omega (arith, same_counts _ _ e, at_field 1 f second k q)
  names_counts f (by_not k e q) = omega (arith, same_counts _ _ e, at_field 2 f first k q)
  names_counts f (by_some k e q) = omega (arith, same_counts _ _ e, at_field 3 f second k q)

  counts_names : (l : ℕ) → InRange l m x → (f : Field) → 1 ≤ field_count x c f → Names xs m f c
  counts_names l (and k a b) first h = by_and_a k (counts_same _ _ (omega (arith, at_kind 1 first k))) refl
  counts_names l (and k a b) second h = by_and_b k (counts_same _ _ (omega (arith, at_kind 1 second k))) refl
  counts_names l (not k a b) first h = by_not k (counts_same _ _ (omega (arith, at_kind 2 first k))) refl
  counts_names l (not k a b) second h = absurd (omega (arith, at_kind 2 second k))
  counts_names l (some k a b) first h = absurd (omega (arith, at_kind 3 first k))
  counts_names l (some k a b) second h = by_some k (counts_same _ _ (omega (arith, at_kind 3 second k))) refl
  counts_names l (has_label k a b) f h = absurd (omega (arith, at_kind 4 f k))
  counts_names l (between low high a b) f h = absurd (omega (arith, ap (λ (o : Op). op_count o f x.a x.b c) (op_pair_lem x.kind low high)))

-- ── the count of the check ──
module _ (file : List ℕ) (p k : ℕ) (xs : List Node) (agree : (i : ℕ) → i < length xs → node_at file p i ≡ node_of xs i) (right : RightNodes k xs) where
  module _ (c : ℕ) where
    abbrev counts : ℕ → Field → ℕ
    counts m = field_count (node_of xs m) c

    times_total : (n : ℕ) → n ≤ length xs → times_named file p n c ≡ total counts n
    unfolding times_named
    times_total zero h = refl
    times_total (suc n) h =
        let y : Node = node_of xs n in
        let z : node_names (node_at file p n) c ≡ counts n first + counts n second =
        ap (λ (x : Node). node_names x c) (agree n h) ∙ op_fields (op_of y.kind) y.a y.b c in
        omega (arith, times_total n (omega arith))

    all_times : times_named file p (length xs) c ≡ total counts (length xs)
    all_times = times_total (length xs) (omega arith)

    pub counted-named : times_named file p (length xs) c ≡ 1 → NamedOnce xs c
    counted-named e =
        let t : total counts (length xs) ≡ 1 = sym all_times ∙ e in
        let w = total_found counts (length xs) (omega arith) in
        record {
          node = w.0;
          field = w.1;
          names = counts_names xs w.0 c k (right w.0 w.2) w.1 w.3;
          only = λ m f n. one_field counts (length xs) w.0 m w.1 f t w.2 w.3 (names_within xs m f c n) (names_counts xs m c f n);
        }

    pub named-counted : NamedOnce xs c → times_named file p (length xs) c ≡ 1
    named-counted o =
        let small : total counts (length xs) ≤ 1 =
        total_small counts (length xs) o.node o.field (λ i f. op_small (op_of (node_of xs i).kind) f (node_of xs i).a (node_of xs i).b c)
        (λ i f l h. o.only i f (counts_names xs i c k (right i l) f h)) (length xs) (omega arith) in
        omega (arith, all_times, total_field counts (length xs) o.node o.field (names_within xs o.node o.field c o.names), names_counts xs o.node c o.field o.names)

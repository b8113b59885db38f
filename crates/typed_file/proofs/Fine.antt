-- The nodes of a rule that is not refused are in range.
use Prim.Native.Nat.{ℕ, zero, suc, ◌+◌, ◌-◌, ◌*◌, ◌<◌, ◌≤◌}
use mathlib.Core.Path.{◌≡◌, refl, sym, subst}
use mathlib.Core.Bool.{true, ◌&&◌}
use mathlib.Core.List.{List, []}
use native.Mathlib.Omega.{arith}
use lib.Dec.{eqb}
use lib.ListN.{length, get_or}
use borrow.Author.Tests.{lt-ltb, eqb-true}
use Rattle.lists.proofs.Cases.{either_eq, either_lt, either_bool, and_left, and_right}
use Rattle.rules.specs.Formula.{Formula, Scope, enter, scoped, shallow}
use Rattle.rules.specs.Table.{op_of, in_range}
use Rattle.rules.proofs.Scopes.{scoped_both_left, scoped_both_right, shallow-both_left, shallow-both_right, shallow_none}
use Rattle.atoms.specs.Tree.{Tree, either, both, neg, exists, has, pair, size}
use Rattle.atoms.specs.Emit.{Names, level, inside}
use Rattle.typed_formula.specs.Meaning.{label_text, formula_for}
use Rattle.typed_formula.proofs.Stands.{NodeIs, Stands, size_some}
use Rattle.typed_formula.proofs.FileSays.{Known}
use Rattle.typed_formula.proofs.Unbound.{inside_long}
use Rattle.typed_grammar.specs.File.{place_in}
use Rattle.typed_grammar.specs.File.{labels_in, labels_of}
use Rattle.typed_checks.proofs.Numbers.{Among, among_new, among_kept, Distinct, distinct_with}
use Rattle.typed_file.specs.File.{second}

-- ── the labels of a formula ──
abbrev pub AllIn : List (List ℕ) → Formula → Type 0
AllIn ls (Formula.both f g) = AllIn ls f × AllIn ls g
AllIn ls (Formula.neg f) = AllIn ls f
AllIn ls (Formula.exists v f) = AllIn ls f
AllIn ls (Formula.has v l) = Among ls l
AllIn ls (Formula.pair p v w) = Unit {0}

kept_in : (f : Formula) (ls : List (List ℕ)) (x : List ℕ) → Among ls x → Among (labels_in ls f) x
unfolding labels_in
kept_in (Formula.both f g) ls x a = kept_in g (labels_in ls f) x (kept_in f ls x a)
kept_in (Formula.neg f) ls x a = kept_in f ls x a
kept_in (Formula.exists v f) ls x a = kept_in f ls x a
kept_in (Formula.has v l) ls x a = among_kept ls l x a
kept_in (Formula.pair p v w) ls x a = a

all_kept : (f g : Formula) (ls : List (List ℕ)) → AllIn ls f → AllIn (labels_in ls g) f
all_kept (Formula.both f h) g ls a = (all_kept f g ls a.0, all_kept h g ls a.1)
all_kept (Formula.neg f) g ls a = all_kept f g ls a
all_kept (Formula.exists v f) g ls a = all_kept f g ls a
all_kept (Formula.has v l) g ls a = kept_in g ls l a
all_kept (Formula.pair p v w) g ls a = tt

pub all_in : (f : Formula) (ls : List (List ℕ)) → AllIn (labels_in ls f) f
unfolding labels_in
all_in (Formula.both f g) ls = (all_kept f g (labels_in ls f) (all_in f ls), all_in g (labels_in ls f))
all_in (Formula.neg f) ls = all_in f ls
all_in (Formula.exists v f) ls = all_in f ls
all_in (Formula.has v l) ls = among_new ls l
all_in (Formula.pair p v w) ls = tt

distinct_in : (f : Formula) (ls : List (List ℕ)) → Distinct ls → Distinct (labels_in ls f)
unfolding labels_in
distinct_in (Formula.both f g) ls d = distinct_in g (labels_in ls f) (distinct_in f ls d)
distinct_in (Formula.neg f) ls d = distinct_in f ls d
distinct_in (Formula.exists v f) ls d = distinct_in f ls d
distinct_in (Formula.has v l) ls d = distinct_with ls l d
distinct_in (Formula.pair p v w) ls d = d

pub labels_distinct : (f : Formula) → Distinct (labels_of f)
labels_distinct f = distinct_in f [] (λ i j h k. absurd (omega arith))

-- ── a node in range ──
module _ (ls : List (List ℕ)) (text tb : List ℕ) where
  pub record Fine (i : ℕ) : Type 0 where
    pub range : in_range (length ls) i (op_of (get_or tb (3 * i) 0)) (get_or tb (3 * i + 1) 0) (second ls text (get_or tb (3 * i) 0) (get_or tb (3 * i + 2) 0)) ≡ true
    pub kind : get_or tb (3 * i) 0 < 9
    pub first : get_or tb (3 * i + 1) 0 < 4 + i
    pub other : (get_or tb (3 * i) 0 ≡ 4 → ⊥) → get_or tb (3 * i + 2) 0 < 4 + i
    pub label : get_or tb (3 * i) 0 ≡ 4 → Among ls (label_text text (get_or tb (3 * i + 2) 0))

  module _ (i a b : ℕ) where
    fine_and : NodeIs tb i 1 a b → a < i → b < i → Fine i
    fine_and x h k = record {
      range = rw (x.at_kind, x.at_a, x.at_b, lt-ltb a i h, lt-ltb b i k) refl;
      kind = omega (arith, x.at_kind);
      first = omega (arith, x.at_a);
      other = λ n. omega (arith, x.at_b);
      label = λ e. absurd (omega (arith, x.at_kind));
    }

    fine_not : NodeIs tb i 2 a 0 → a < i → Fine i
    fine_not x h = record {
      range = rw (x.at_kind, x.at_a, x.at_b, lt-ltb a i h) refl;
      kind = omega (arith, x.at_kind);
      first = omega (arith, x.at_a);
      other = λ n. omega (arith, x.at_b);
      label = λ e. absurd (omega (arith, x.at_kind));
    }

    fine_some : NodeIs tb i 3 a b → a < 4 → b < i → Fine i
    fine_some x h k = record {
      range = rw (x.at_kind, x.at_a, x.at_b, lt-ltb a 4 h, lt-ltb b i k) refl;
      kind = omega (arith, x.at_kind);
      first = omega (arith, x.at_a);
      other = λ n. omega (arith, x.at_b);
      label = λ e. absurd (omega (arith, x.at_kind));
    }

    fine_has : NodeIs tb i 4 a b → a < 4 → Among ls (label_text text b) → Fine i
    fine_has x h k = record {
      range = rw (x.at_kind, x.at_a, x.at_b, lt-ltb a 4 h, lt-ltb (place_in ls (label_text text b)) (length ls) k) refl;
      kind = omega (arith, x.at_kind);
      first = omega (arith, x.at_a);
      other = λ n. absurd (n x.at_kind);
      label = λ e. subst (λ (j : ℕ). Among ls (label_text text j)) (sym x.at_b) k;
    }

    fine_pair : (q : ℕ) → 5 ≤ q → q ≤ 8 → NodeIs tb i q a b → a < 4 → b < 4 → Fine i
    fine_pair q l u x h k = record {
      range = rw (x.at_kind, x.at_a, x.at_b) in_range_lem;
      kind = omega (arith, x.at_kind);
      first = omega (arith, x.at_a);
      other = λ n. omega (arith, x.at_b);
      label = λ e. absurd (omega (arith, x.at_kind));
    }
      where
        in_range_lem : in_range (length ls) i (op_of q) a (second ls text q b) ≡ true
        in_range_lem =
            either_eq q 5 (λ e. rw (e, lt-ltb a 4 h, lt-ltb b 4 k))
            (λ n5. either_eq q 6 (λ e. rw (e, lt-ltb a 4 h, lt-ltb b 4 k))
            (λ n6. either_eq q 7 (λ e. rw (e, lt-ltb a 4 h, lt-ltb b 4 k))
            (λ n7. let e : q ≡ 8 = omega arith in rw (e, lt-ltb a 4 h, lt-ltb b 4 k))))

  fine_at : (i j : ℕ) → i ≡ j → Fine j → Fine i
  fine_at i j e f = subst Fine (sym e) f

  -- variables in scope are below four
  abbrev pub Low : Scope → Type 0
  Low c = (v : ℕ) → c v ≡ true → v < 4

  low_more : (c : Scope) (v : ℕ) → Low c → v < 4 → Low (enter c v)
  low_more c v l h w e =
      either_bool (eqb v w)
      (λ q. let z = eqb-true v w q in omega arith)
      (λ q. let b : c w ≡ true = simp q at e in l w b)

  pub fine_tree : (t : Tree) → Known t → (ns : Names) (k d : ℕ) (c : Scope) → length ns + d ≡ 4 → Low c → shallow d (formula_for text ns t) ≡ true → scoped (formula_for text ns t) c ≡ true → AllIn ls (formula_for text ns t) → Stands tb ns t k → (i : ℕ) → k ≤ i → i < k + size t → Fine i
  unfolding formula_for Stands scoped shallow
  fine_tree (either l r) w ns k d c e o s z a x i h j =
      let m = k + size l in
      let n = m + 1 + size r in
      let sl = shallow-both_left (Formula.neg (formula_for text ns l)) (Formula.neg (formula_for text ns r)) d s in
      let sr = shallow-both_right (Formula.neg (formula_for text ns l)) (Formula.neg (formula_for text ns r)) d s in
      let zl = scoped_both_left (Formula.neg (formula_for text ns l)) (Formula.neg (formula_for text ns r)) c z in
      let zr = scoped_both_right (Formula.neg (formula_for text ns l)) (Formula.neg (formula_for text ns r)) c z in
      let bl = size_some l in
      let br = size_some r in
      either_lt i m
      (λ q. fine_tree l w.0 ns k d c e o sl zl a.0 x.0 i h q)
      (λ q. either_eq i m (λ f. fine_at i m f (fine_not m (m - 1) 0 x.1 (omega arith)))
      (λ f. either_lt i n
      (λ g. fine_tree r w.1 ns (m + 1) d c e o sr zr a.1 x.2 i (omega arith) g)
      (λ g. either_eq i n (λ u. fine_at i n u (fine_not n (n - 1) 0 x.3 (omega arith)))
      (λ u. either_eq i (n + 1) (λ v. fine_at i (n + 1) v (fine_and (n + 1) m n x.4 (omega arith) (omega arith)))
      (λ v. fine_at i (n + 2) (omega arith) (fine_not (n + 2) (n + 1) 0 x.5 (omega arith)))))))
  fine_tree (both l r) w ns k d c e o s z a x i h j =
      let m = k + size l in
      let bl = size_some l in
      let br = size_some r in
      either_lt i m
      (λ q. fine_tree l w.0 ns k d c e o (shallow-both_left (formula_for text ns l) (formula_for text ns r) d s) (scoped_both_left (formula_for text ns l) (formula_for text ns r) c z) a.0 x.0 i h q)
      (λ q. either_lt i (m + size r)
      (λ g. fine_tree r w.1 ns m d c e o (shallow-both_right (formula_for text ns l) (formula_for text ns r) d s) (scoped_both_right (formula_for text ns l) (formula_for text ns r) c z) a.1 x.1 i q g)
      (λ g. fine_at i (m + size r) (omega arith) (fine_and (m + size r) (m - 1) (m + size r - 1) x.2 (omega arith) (omega arith))))
  fine_tree (neg t) w ns k d c e o s z a x i h j =
      let bt = size_some t in
      either_lt i (k + size t)
      (λ q. fine_tree t w ns k d c e o s z a x.0 i h q)
      (λ q. fine_at i (k + size t) (omega arith) (fine_not (k + size t) (k + size t - 1) 0 x.1 (omega arith)))
  fine_tree (exists v t) w ns k zero c e o s z a x i h j = absurd (shallow_none (formula_for text (inside ns v) t) (length ns) s)
  fine_tree (exists v t) w ns k (suc d) c e o s z a x i h j =
      let bt = size_some t in
      let g = inside_long ns v (omega arith) in
      either_lt i (k + size t)
      (λ q. fine_tree t w (inside ns v) k d (enter c (length ns)) (omega arith) (low_more c (length ns) o (omega arith)) s z a x.0 i h q)
      (λ q. fine_at i (k + size t) (omega arith) (fine_some (k + size t) (length ns) (k + size t - 1) x.1 (omega arith) (omega arith)))
  fine_tree (has v l) w ns k d c e o s z a x i h j = fine_at i k (omega arith) (fine_has k (level ns v) l x (o (level ns v) z) a)
  fine_tree (pair q v u) w ns k d c e o s z a x i h j =
      let y : c (level ns v) && c (level ns u) ≡ true = z in
      fine_at i k (omega arith) (fine_pair k (level ns v) (level ns u) q w.0 w.1 x (o (level ns v) (and_left (c (level ns v)) (c (level ns u)) y)) (o (level ns u) (and_right (c (level ns v)) (c (level ns u)) y)))

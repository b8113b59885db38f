-- What the tables' tests decide is what the formula's definitions say.
use Prim.Native.Nat.{ℕ, zero, suc, ◌+◌, ◌<◌, ◌≤◌}
use mathlib.Core.Path.{◌≡◌, refl, sym, ap, fun_ext, ◌∙◌}
use mathlib.Core.Bool.{Bool, true, ◌&&◌, and-true, and-false, and_assoc}
use mathlib.Core.List.{List, []}
use native.Mathlib.Omega.{arith}
use lib.ListN.{length}
use borrow.Author.Tests.{ne_eqb, lt-ltb, le-ltb}
use Rattle.lists.proofs.Cases.{either_lt}
use Rattle.rules.specs.Formula.{Formula, no_scope, scoped, shallow}
use Rattle.atoms.specs.Tree.{Tree, either, both, neg, exists, has, pair, size}
use Rattle.atoms.specs.Emit.{Names, level, inside, emit}
use Rattle.typed_formula.specs.Bound.{bound?, all_bound}
use Rattle.typed_formula.specs.Meaning.{formula_for}
use Rattle.typed_formula.proofs.Stands.{Stands, emit-stands}
use Rattle.typed_formula.proofs.FileSays.{Known}
use Rattle.typed_formula.proofs.Unbound.{below, inside_long, scoped_bound}
use Rattle.text_labels.specs.Pieces.{texts}
use Rattle.typed_checks.specs.Fold.{fold_nodes, fold_tree}
use Rattle.typed_checks.specs.Tests.{bound_step, few_step, noted, places_in, decided}
use Rattle.typed_grammar.specs.File.{labels_in, labels_of}
use Rattle.typed_checks.specs.Said.{judged}
use Rattle.typed_checks.proofs.Folds.{fold_tree_lem}
use Rattle.typed_checks.proofs.Numbers.{texts-long, noted_label, noted_other}

-- ── names ──
bound_tree : (t : Tree) → Known t → (ok : Bool) (ns : Names) → fold_tree bound_step ok ns t ≡ ok && all_bound ns t
unfolding fold_tree all_bound bound_step
bound_tree (either l r) k ok ns =
    ap (λ (b : Bool). fold_tree bound_step b ns r) (bound_tree l k.0 ok ns) ∙ (bound_tree r k.1 (ok && all_bound ns l) ns ∙ and_assoc ok (all_bound ns l) (all_bound ns r))
bound_tree (both l r) k ok ns =
    ap (λ (b : Bool). fold_tree bound_step b ns r) (bound_tree l k.0 ok ns) ∙ (bound_tree r k.1 (ok && all_bound ns l) ns ∙ and_assoc ok (all_bound ns l) (all_bound ns r))
bound_tree (neg t) k ok ns = bound_tree t k ok ns
bound_tree (exists n t) k ok ns = and-true (fold_tree bound_step ok (inside ns n) t) ∙ bound_tree t k ok (inside ns n)
bound_tree (has n l) k ok ns = ap (λ (b : Bool). ok && b) (and-true (bound? ns n))
bound_tree (pair q n m) k ok ns =
    let h : 4 ≤ q = omega (arith, k.0) in
    simp (le-ltb q 4 h, ne_eqb q 4 (λ e. omega (arith, k.0)))

-- ── nested "some" ──
few-tree : (text : List ℕ) (t : Tree) → Known t → (ok : Bool) (ns : Names) (d : ℕ) → length ns + d ≡ 4 → fold_tree few_step ok ns t ≡ ok && shallow d (formula_for text ns t)
unfolding fold_tree formula_for shallow few_step
few-tree text (either l r) k ok ns d e =
    let x = shallow d (formula_for text ns l) in
    ap (λ (b : Bool). fold_tree few_step b ns r) (few-tree text l k.0 ok ns d e) ∙ (few-tree text r k.1 (ok && x) ns d e ∙ and_assoc ok x (shallow d (formula_for text ns r)))
few-tree text (both l r) k ok ns d e =
    let x = shallow d (formula_for text ns l) in
    ap (λ (b : Bool). fold_tree few_step b ns r) (few-tree text l k.0 ok ns d e) ∙ (few-tree text r k.1 (ok && x) ns d e ∙ and_assoc ok x (shallow d (formula_for text ns r)))
few-tree text (neg t) k ok ns d e = few-tree text t k ok ns d e
few-tree text (exists n t) k ok ns zero e =
    let y = fold_tree few_step ok (inside ns n) t in
    let h : 4 ≤ length ns = omega arith in
    ap (λ (b : Bool). y && b) (le-ltb (length ns) 4 h) ∙ (and-false y ∙ sym (and-false ok))
few-tree text (exists n t) k ok ns (suc d) e =
    let y = fold_tree few_step ok (inside ns n) t in
    let h : length ns < 4 = omega arith in
    let i = inside_long ns n (omega arith) in
    ap (λ (b : Bool). y && b) (lt-ltb (length ns) 4 h) ∙ (and-true y ∙ few-tree text t k ok (inside ns n) d (omega arith))
few-tree text (has n l) k ok ns d e = refl
few-tree text (pair q n m) k ok ns d e =
    simp (ne_eqb q 3 (λ z. omega (arith, k.0)))

-- ── labels ──
labels_tree : (text : List ℕ) (t : Tree) → Known t → (ps : List ℕ) (ns : Names) → texts text (fold_tree (noted text) ps ns t) ≡ labels_in (texts text ps) (formula_for text ns t)
unfolding fold_tree formula_for labels_in
labels_tree text (either l r) k ps ns =
    labels_tree text r k.1 (fold_tree (noted text) ps ns l) ns ∙ ap (λ (x : List (List ℕ)). labels_in x (formula_for text ns r)) (labels_tree text l k.0 ps ns)
labels_tree text (both l r) k ps ns =
    labels_tree text r k.1 (fold_tree (noted text) ps ns l) ns ∙ ap (λ (x : List (List ℕ)). labels_in x (formula_for text ns r)) (labels_tree text l k.0 ps ns)
labels_tree text (neg t) k ps ns = labels_tree text t k ps ns
labels_tree text (exists n t) k ps ns =
    ap (texts text) (noted_other text (fold_tree (noted text) ps (inside ns n) t) 3 (length ns) 0 (λ e. omega arith)) ∙ labels_tree text t k ps (inside ns n)
labels_tree text (has n l) k ps ns = noted_label text ps 4 (level ns n) l refl
labels_tree text (pair q n m) k ps ns =
    ap (texts text) (noted_other text ps q (level ns n) (level ns m) (λ e. omega (arith, k.0)))

-- ── the table of a text ──
none_below : below 0 ≡ no_scope
none_below = fun_ext (λ w. le-ltb w 0 (omega arith))

module _ (text tb : List ℕ) (t : Tree) (k : Known t) (l : 192 ≤ length tb) where
  abbrev table : List ℕ
  table = emit tb 0 [] t

  abbrev said : Formula
  said = formula_for text [] t

  module _ (h : size t ≤ 64) where
    there : Stands table [] t 0
    there = emit-stands t tb 0 [] (omega arith) l

    pub table_labels : texts text (places_in text table (size t)) ≡ labels_of said
    table_labels =
        ap (texts text) (fold_tree_lem (noted text) table (λ s a b. noted_other text s 1 a b (λ e. omega arith)) (λ s a b. noted_other text s 2 a b (λ e. omega arith)) (λ s a b. noted_other text s 3 a b (λ e. omega arith) ∙ sym (noted_other text s 3 a 0 (λ e. omega arith))) t [] [] 0 there)
        ∙ labels_tree text t k [] []

    pub table_bound : fold_nodes bound_step true table 0 (size t) ≡ scoped said no_scope
    unfolding bound_step
    table_bound =
        fold_tree_lem bound_step table (λ s a b. and-true s) (λ s a b. and-true s) (λ s a b. refl) t true [] 0 there
        ∙ (bound_tree t k true [] ∙ (sym (scoped_bound text t [] (omega arith)) ∙ ap (scoped said) none_below))

    pub table_few : fold_nodes few_step true table 0 (size t) ≡ shallow 4 said
    unfolding few_step
    table_few =
        fold_tree_lem few_step table (λ s a b. and-true s) (λ s a b. and-true s) (λ s a b. refl) t true [] 0 there
        ∙ few-tree text t k true [] 4 refl

    table_count : length (places_in text table (size t)) ≡ length (labels_of said)
    table_count = sym (texts-long text (places_in text table (size t))) ∙ ap length table_labels

  pub decided-judged : decided text table (size t) ≡ judged (size t) said
  unfolding decided judged
  decided-judged =
      either_lt 64 (size t)
      (λ h. rw (lt-ltb 64 (size t) h))
      (λ h. rw (le-ltb 64 (size t) h, table_count h, table_labels h, table_bound h, table_few h))

-- The file that the code writes is the file of the formula that the text says: the table holds the nodes of the tree one after
-- another, and those are the nodes of its formula, in the same order and with the same numbers.
use Prim.Native.Nat.{ℕ, ◌+◌, ◌-◌, ◌*◌, ◌≤◌}
use mathlib.Core.Path.{◌≡◌, refl, sym, ap, ap₂, subst, ◌∙◌}
use mathlib.Core.List.{List, [], ◌∷◌, ◌++◌, append_assoc}
use native.Mathlib.Omega.{arith}
use native.Mathlib.Numerals.{add-one}
use lib.ListN.{length, get_or, replicate, length-replicate}
use borrow.Author.Tests.{eq-eqb, ne_eqb}
use Rattle.lists.proofs.Cases.{either_eq}
use Rattle.lists.proofs.Lists.{append-nil}
use Rattle.rules.specs.Formula.{Formula}
use Rattle.rules.specs.Table.{pairing_of}
use Rattle.rules.specs.declared.Node.{Node}
use Rattle.grammar.specs.Layout.{front, labels_part, nodes_part}
use Rattle.grammar.proofs.LayoutLaws.{nodes_more}
use Rattle.atoms.specs.Tree.{Tree, either, both, neg, exists, has, pair, size}
use Rattle.atoms.specs.Emit.{Names, level, inside, emit}
use Rattle.typed_formula.specs.Meaning.{label_text, formula_for}
use Rattle.typed_formula.proofs.Stands.{NodeIs, Stands, emit-stands}
use Rattle.typed_formula.proofs.FileSays.{Known}
use Rattle.typed_grammar.specs.File.{node_count, labels_of, pair_kind, nodes_from, rule_file}
use Rattle.grammar.specs.Layout.{front, labels_part}
use Rattle.typed_file.specs.File.{second, node_bytes, nodes_bytes, file_from, file_of}

-- ── how many nodes ──
pub size_count : (text : List ℕ) (u : Tree) (ns : Names) → node_count (formula_for text ns u) ≡ size u
unfolding formula_for
size_count text (either l r) ns = omega (arith, size_count text l ns, size_count text r ns)
size_count text (both l r) ns = omega (arith, size_count text l ns, size_count text r ns)
size_count text (neg t) ns = omega (arith, size_count text t ns)
size_count text (exists n t) ns = omega (arith, size_count text t (inside ns n))
size_count text (has n l) ns = refl
size_count text (pair q n m) ns = refl

-- ── the kinds of relations ──
pair_kind_lem : (q : ℕ) → 5 ≤ q → q ≤ 8 → q ≡ pair_kind (pairing_of q)
pair_kind_lem q h k =
    either_eq q 5 (λ e. e ∙ sym (simp (eq-eqb q 5 e)))
    (λ a. either_eq q 6 (λ e. e ∙ sym (simp (ne_eqb q 5 a, eq-eqb q 6 e)))
    (λ b. either_eq q 7 (λ e. e ∙ sym (simp (ne_eqb q 5 a, ne_eqb q 6 b, eq-eqb q 7 e)))
    (λ c. let e : q ≡ 8 = omega arith in e ∙ sym (simp (ne_eqb q 5 a, ne_eqb q 6 b, ne_eqb q 7 c)))))

-- ── nodes ──
nodes_append : (xs ys : List Node) → nodes_part (xs ++ ys) ≡ nodes_part xs ++ nodes_part ys
nodes_append [] ys = refl
nodes_append (x ∷ xs) ys = ap (λ (s : List ℕ). x.kind ∷ x.a ∷ x.b ∷ s) (nodes_append xs ys)

module _ (ls : List (List ℕ)) (text tb : List ℕ) where
  -- the bytes of the first n nodes of the table
  abbrev first_nodes : ℕ → List ℕ
  first_nodes n = nodes_bytes ls text tb n

  -- from node k to before node n the table has the nodes xs
  abbrev From : ℕ → ℕ → List Node → Type 0
  From k n xs = first_nodes n ≡ first_nodes k ++ nodes_part xs

  -- from node k on the table has the nodes of the formula
  abbrev HasNodes : ℕ → Formula → Type 0
  HasNodes k f = From k (k + node_count f) (nodes_from ls k f)

  -- node i of the table, in the file, is x
  abbrev Written : ℕ → Node → Type 0
  Written i x = node_bytes ls text tb i ≡ x.kind ∷ x.a ∷ x.b ∷ []

  node_written : (i q a b : ℕ) → NodeIs tb i q a b → Written i (record { kind = q; a = a; b = second ls text q b })
  node_written i q a b s = λ j. s.at_kind j ∷ s.at_a j ∷ second ls text (s.at_kind j) (s.at_b j) ∷ []

  one_more : (k n m : ℕ) (xs : List Node) (x : Node) → m ≡ n + 1 → From k n xs → Written n x → From k m (xs ++ (x ∷ []))
  unfolding nodes_bytes
  one_more k n m xs x e h w =
      let i : first_nodes m ≡ first_nodes n ++ node_bytes ls text tb n = ap first_nodes (e ∙ add-one n) in
      i
      ∙ (ap₂ (λ (s : List ℕ) (t : List ℕ). s ++ t) h w
      ∙ (append_assoc (first_nodes k) (nodes_part xs) (x.kind ∷ x.a ∷ x.b ∷ [])
      ∙ ap (λ (s : List ℕ). first_nodes k ++ s) (sym (nodes_more xs x))))

  none_yet : (k : ℕ) → From k k []
  none_yet k = sym (simp append-nil)

  -- ── the nodes of a formula, from those of its parts ──
  module _ (k : ℕ) (f : Formula) (h : HasNodes k f) where
    has-neg : NodeIs tb (k + node_count f) 2 (k + node_count f - 1) 0 → HasNodes k (Formula.neg f)
    unfolding nodes_from
    has-neg s =
        let m = k + node_count f in
        one_more k m (k + (node_count f + 1)) (nodes_from ls k f) _ (omega arith) h (node_written m 2 (m - 1) 0 s)

    has-exists : (v : ℕ) → NodeIs tb (k + node_count f) 3 v (k + node_count f - 1) → HasNodes k (Formula.exists v f)
    unfolding nodes_from
    has-exists v s =
        let m = k + node_count f in
        one_more k m (k + (node_count f + 1)) (nodes_from ls k f) _ (omega arith) h (node_written m 3 v (m - 1) s)

    has_both : (g : Formula) → HasNodes (k + node_count f) g → NodeIs tb (k + node_count f + node_count g) 1 (k + node_count f - 1) (k + node_count f + node_count g - 1) → HasNodes k (Formula.both f g)
    unfolding nodes_from
    has_both g i s =
        let m = k + node_count f in
        let n = m + node_count g in
        let xs = nodes_from ls k f in
        let ys = nodes_from ls m g in
        let j : From k n (xs ++ ys) =
        i
        ∙ (ap (λ (z : List ℕ). z ++ nodes_part ys) h
        ∙ (append_assoc (first_nodes k) (nodes_part xs) (nodes_part ys)
        ∙ ap (λ (z : List ℕ). first_nodes k ++ z) (sym (nodes_append xs ys)))) in
        one_more k n (k + (node_count f + node_count g + 1)) (xs ++ ys) _ (omega arith) j (node_written n 1 (m - 1) (n - 1) s)

  has_label : (k v n : ℕ) → NodeIs tb k 4 v n → HasNodes k (Formula.has v (label_text text n))
  unfolding nodes_from
  has_label k v n s = one_more k k (k + 1) [] _ refl (none_yet k) (node_written k 4 v n s)

  has_pair : (k q v w : ℕ) → 5 ≤ q → q ≤ 8 → NodeIs tb k q v w → HasNodes k (Formula.pair (pairing_of q) v w)
  unfolding nodes_from
  has_pair k q v w l u s =
      let a : second ls text q w ≡ w = simp (ne_eqb q 4 (λ e. omega arith)) in
      let e = pair_kind_lem q l u in
      one_more k k (k + 1) [] _ refl (none_yet k) (node_written k q v w s ∙ (λ i. e i ∷ v ∷ a i ∷ []))

  -- ── the nodes of a tree ──
  node_same : (i j q a c b d : ℕ) → i ≡ j → a ≡ c → b ≡ d → NodeIs tb i q a b → NodeIs tb j q c d
  node_same i j q a c b d e ea eb s = record {
    at_kind = ap (λ (n : ℕ). get_or tb (3 * n) 0) (sym e) ∙ s.at_kind;
    at_a = ap (λ (n : ℕ). get_or tb (3 * n + 1) 0) (sym e) ∙ (s.at_a ∙ ea);
    at_b = ap (λ (n : ℕ). get_or tb (3 * n + 2) 0) (sym e) ∙ (s.at_b ∙ eb);
  }

  has_at : (k n : ℕ) (f : Formula) → k ≡ n → HasNodes k f → HasNodes n f
  has_at k n f e h = subst (λ (i : ℕ). HasNodes i f) e h

  tree_nodes : (u : Tree) → Known u → (ns : Names) (k : ℕ) → Stands tb ns u k → HasNodes k (formula_for text ns u)
  unfolding Stands formula_for
  tree_nodes (either l r) w ns k s =
      let f = formula_for text ns l in
      let g = formula_for text ns r in
      let el = size_count text l ns in
      let er = size_count text r ns in
      let m = k + size l in
      let n = m + 1 + size r in
      let a : HasNodes k (Formula.neg f) = has-neg k f (tree_nodes l w.0 ns k s.0) (node_same m _ 2 _ _ 0 0 (omega arith) (omega arith) refl s.1) in
      let b : HasNodes (m + 1) (Formula.neg g) = has-neg (m + 1) g (tree_nodes r w.1 ns (m + 1) s.2) (node_same n _ 2 _ _ 0 0 (omega arith) (omega arith) refl s.3) in
      let c : HasNodes k (Formula.both (Formula.neg f) (Formula.neg g)) = has_both k (Formula.neg f) a (Formula.neg g) (has_at (m + 1) _ (Formula.neg g) (omega arith) b) (node_same (n + 1) _ 1 _ _ _ _ (omega arith) (omega arith) (omega arith) s.4) in
      has-neg k (Formula.both (Formula.neg f) (Formula.neg g)) c (node_same (n + 2) _ 2 _ _ 0 0 (omega arith) (omega arith) refl s.5)
  tree_nodes (both l r) w ns k s =
      let f = formula_for text ns l in
      let g = formula_for text ns r in
      let el = size_count text l ns in
      let er = size_count text r ns in
      let m = k + size l in
      has_both k f (tree_nodes l w.0 ns k s.0) g (has_at m _ g (omega arith) (tree_nodes r w.1 ns m s.1)) (node_same (m + size r) _ 1 _ _ _ _ (omega arith) (omega arith) (omega arith) s.2)
  tree_nodes (neg t) w ns k s =
      let e = size_count text t ns in
      has-neg k (formula_for text ns t) (tree_nodes t w ns k s.0) (node_same (k + size t) _ 2 _ _ 0 0 (omega arith) (omega arith) refl s.1)
  tree_nodes (exists v t) w ns k s =
      let e = size_count text t (inside ns v) in
      has-exists k (formula_for text (inside ns v) t) (tree_nodes t w (inside ns v) k s.0) (length ns) (node_same (k + size t) _ 3 _ _ _ _ (omega arith) refl (omega arith) s.1)
  tree_nodes (has v l) w ns k s = has_label k (level ns v) l s
  tree_nodes (pair q v u) w ns k s = has_pair k q (level ns v) (level ns u) w.0 w.1 s

-- the file that is written is that of the formula, "labels and nodes numbered as first completed, left before right"
pub file-numbered : (text : List ℕ) (u : Tree) → Known u → size u ≤ 64 → file_of text u ≡ rule_file (formula_for text [] u)
unfolding file_of file_from rule_file nodes_bytes
file-numbered text u w h =
    let f = formula_for text [] u in
    let ls = labels_of f in
    let tb = emit (replicate 192 0) 0 [] u in
    let c : size u ≡ node_count f = sym (size_count text u []) in
    let s = tree_nodes ls text tb u w [] 0 (emit-stands u (replicate 192 0) 0 [] (omega arith) (omega (arith, length-replicate {A = ℕ} 192 0))) in
    let e : size u ≡ 0 + node_count f = omega arith in
    let n : nodes_bytes ls text tb (size u) ≡ nodes_part (nodes_from ls 0 f) = ap (nodes_bytes ls text tb) e ∙ s in
    append_assoc (front (length ls) ++ labels_part ls) (size u ∷ []) (nodes_bytes ls text tb (size u))
    ∙ (λ i. (front (length ls) ++ labels_part ls) ++ (c i ∷ n i))

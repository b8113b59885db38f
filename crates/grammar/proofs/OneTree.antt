-- A table in which every node but the last is named once is one tree: from the root exactly one path leads down to each other
-- node. A path to a node ends with the step from the one node that names it, so that two paths agree from their end on.
use Prim.Native.Nat.{ℕ, zero, suc, ◌+◌, ◌-◌, ◌≤◌, ◌<◌}
use mathlib.Core.Path.{◌≡◌, sym, ap, ◌∙◌, subst}
use mathlib.Core.List.{List, [], ◌∷◌, ◌++◌}
use native.Mathlib.Omega.{arith}
use lib.ListN.{length}
use Rattle.rules.specs.declared.Node.{Node}
use Rattle.grammar.specs.Naming.{AllNamedOnce, Path, OnePath}
use Rattle.grammar.specs.Layout.{RightNodes}
use Rattle.grammar.proofs.Paths.{Under, here, inner, Before, at_top, lower, last_step, names_falls, path-falls, path-within, under_root}

module _ (k : ℕ) (xs : List Node) (right : RightNodes k xs) (all : AllNamedOnce xs) where
  -- two paths between the same nodes, the lower at most j from the end of the table
  same_path : (j m n : ℕ) → length xs ≤ n + j → (ns ks : List ℕ) → Path xs (m ∷ ns ++ (n ∷ [])) → Path xs (m ∷ ks ++ (n ∷ [])) → ns ≡ ks
  same_path zero m n l ns ks p q = absurd (omega (arith, path-falls k xs right m ns n p, path-within xs m ns n p))
  same_path (suc j) m n l ns ks p q =
      let a = last_step xs m ns n p in
      let b = last_step xs m ks n q in
      let o = all n (omega (arith, path-falls k xs right m ns n p, path-within xs m ns n p)) in
      let e : b.parent ≡ a.parent = (o.only _ _ b.names).0 ∙ sym (o.only _ _ a.names).0 in
      agree a.parent b.parent e (λ ms ls. same_path j m a.parent (omega (arith, names_falls k xs right _ _ n a.names)) ms ls) a.before b.before
    where
      agree : (a b : ℕ) → b ≡ a → ((ms ls : List ℕ) → Path xs (m ∷ ms ++ (a ∷ [])) → Path xs (m ∷ ls ++ (a ∷ [])) → ms ≡ ls) → Before xs m ns a → Before xs m ks b → ns ≡ ks
      agree a b e ih (at_top x y) (at_top z w) = x ∙ sym z
      agree a b e ih (at_top x y) (lower ls z r) = absurd (omega (arith, path-falls k xs right m ls b r))
      agree a b e ih (lower ms x r) (at_top z w) = absurd (omega (arith, path-falls k xs right m ms a r))
      agree a b e ih (lower ms x r) (lower ls z t) =
          let t' : Path xs (m ∷ ls ++ (a ∷ [])) = subst (λ (i : ℕ). Path xs (m ∷ ls ++ (i ∷ []))) e t in
          let q : ms ≡ ls = ih ms ls r t' in
          x ∙ (ap (λ (l : List ℕ). l ++ (a ∷ [])) q ∙ (ap (λ (i : ℕ). ls ++ (i ∷ [])) (sym e) ∙ sym z))

pub one_tree : (k : ℕ) (xs : List Node) → RightNodes k xs → AllNamedOnce xs → (n : ℕ) → suc n < length xs → OnePath xs (length xs - 1) n
one_tree k xs right all n h = go (under_root k xs right all n (omega arith))
  where
    go : Under xs (length xs - 1) n → OnePath xs (length xs - 1) n
    go (here e) = absurd (omega arith)
    go (inner i) = record { between = i.between; path = i.path; only = λ ns p. same_path k xs right all (length xs) (length xs - 1) n (omega arith) ns i.between p i.path }

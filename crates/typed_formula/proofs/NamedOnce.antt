-- Each node of a tree but its root is named once among the tree's nodes, and no other node is.
use Prim.Native.Nat.{ℕ, zero, suc, ◌+◌, ◌-◌, ◌<◌, ◌≤◌}
use mathlib.Core.Path.{◌≡◌, refl, sym, ap, ap₂, ◌∙◌}
use mathlib.Core.Bool.{true}
use mathlib.Core.List.{List}
use native.Mathlib.Omega.{arith}
use native.Mathlib.Numerals.{add-one}
use lib.ListN.{length}
use borrow.Author.Tests.{eq-eqb, ne_eqb}
use Rattle.lists.proofs.Cases.{either_eq, either_lt}
use Rattle.rules.specs.Table.{op_of, node_at}
use Rattle.rules.specs.Checks.{field_names, fields_naming, node_names, times_named, once_below, named_once}
use Rattle.atoms.specs.Tree.{Tree, either, both, neg, exists, has, pair, size}
use Rattle.atoms.specs.Emit.{Names, level, inside}
use Rattle.typed_formula.proofs.Stands.{NodeIs, Stands, size_some}
use Rattle.typed_formula.proofs.FileSays.{Laid, Known}

-- x is how often node c is named among the n nodes from k on: once if it is one of them and not the last
pub record Named (k n c x : ℕ) : Type 0 where
  pub low : c < k → x ≡ 0
  pub mid : k ≤ c → c + 1 < k + n → x ≡ 1
  pub high : k + n ≤ c + 1 → x ≡ 0

-- a field names one node
pub record Field (a c f : ℕ) : Type 0 where
  pub hit : a ≡ c → f ≡ 1
  pub miss : (a ≡ c → ⊥) → f ≡ 0

field : (a c : ℕ) → Field a c (field_names a c)
field a c = record { hit = λ e. rw (eq-eqb a c e); miss = λ e. rw (ne_eqb a c e) }

leaf_named : (k c : ℕ) → Named k 1 c 0
leaf_named k c = record { low = λ h. refl; mid = λ h l. absurd (omega arith); high = λ h. refl }

-- one node more, which names the last
up_named : (k n c x f : ℕ) → 1 ≤ n → Named k n c x → Field (k + n - 1) c f → Named k (n + 1) c (x + f)
up_named k n c x f p a b =
    record {
      low = λ h. omega (arith, a.low h, b.miss (λ e. omega arith));
      mid = λ h l. either_lt (c + 1) (k + n)
          (λ m. omega (arith, a.mid h m, b.miss (λ e. omega arith)))
          (λ m. omega (arith, a.high m, b.hit (omega arith)));
      high = λ h. omega (arith, a.high (omega arith), b.miss (λ e. omega arith));
    }

-- two trees behind one another, and one node more, which names the last of each
join-named : (k n m c x y f g : ℕ) → 1 ≤ n → 1 ≤ m → Named k n c x → Named (k + n) m c y → Field (k + n - 1) c f → Field (k + n + m - 1) c g → Named k (n + m + 1) c (x + y + (f + g))
join-named k n m c x y f g p q a b u v =
    record {
      low = λ h. omega (arith, a.low h, b.low (omega arith), u.miss (λ e. omega arith), v.miss (λ e. omega arith));
      mid = λ h l. either_lt (c + 1) (k + n)
          (λ w. omega (arith, a.mid h w, b.low (omega arith), u.miss (λ e. omega arith), v.miss (λ e. omega arith)))
          (λ w. either_lt c (k + n)
          (λ z. omega (arith, a.high w, b.low z, u.hit (omega arith), v.miss (λ e. omega arith)))
          (λ z. either_lt (c + 1) (k + n + m)
          (λ r. omega (arith, a.high w, b.mid z r, u.miss (λ e. omega arith), v.miss (λ e. omega arith)))
          (λ r. omega (arith, a.high w, b.high r, u.miss (λ e. omega arith), v.hit (omega arith)))));
      high = λ h. omega (arith, a.high (omega arith), b.high (omega arith), u.miss (λ e. omega arith), v.miss (λ e. omega arith));
    }

field_at : (a b c : ℕ) → a ≡ b → Field b c (field_names a c)
field_at a b c q = record { hit = λ e. rw (eq-eqb a c (q ∙ e)); miss = λ e. rw (ne_eqb a c (λ z. e (sym q ∙ z))) }

resized : (k n m c x : ℕ) → n ≡ m → Named k n c x → Named k m c x
resized k n m c x e a = record { low = a.low; mid = λ h l. a.mid h (omega arith); high = λ h. a.high (omega arith) }

moved : (k j n c x : ℕ) → k ≡ j → Named k n c x → Named j n c x
moved k j n c x e a = record { low = λ h. a.low (omega arith); mid = λ h l. a.mid (omega arith) (omega arith); high = λ h. a.high (omega arith) }

-- ── the nodes of a tree in a file ──
module _ (text tb file : List ℕ) (p count : ℕ) (laid : Laid text tb file p count) where
  abbrev times : ℕ → ℕ → ℕ
  times n c = times_named file p n c

  module _ (n a b c : ℕ) (h : n < count) where
    and_names : NodeIs tb n 1 a b → times (suc n) c ≡ times n c + (field_names a c + field_names b c)
    unfolding times_named
    and_names s =
        let x = node_at file p n in
        ap (λ (j : ℕ). times n c + j)
        (ap (λ (j : ℕ). fields_naming (op_of j) x.a x.b c) (laid.kinds n h ∙ s.at_kind)
        ∙ ap₂ (λ (i : ℕ) (j : ℕ). field_names i c + field_names j c) (laid.firsts n h ∙ s.at_a) (laid.seconds n h (λ e. let z = sym s.at_kind ∙ e in omega arith) ∙ s.at_b))

    not_names : NodeIs tb n 2 a b → times (suc n) c ≡ times n c + field_names a c
    unfolding times_named
    not_names s =
        let x = node_at file p n in
        ap (λ (j : ℕ). times n c + j)
        (ap (λ (j : ℕ). fields_naming (op_of j) x.a x.b c) (laid.kinds n h ∙ s.at_kind) ∙ ap (λ (i : ℕ). field_names i c) (laid.firsts n h ∙ s.at_a))

    some_names : NodeIs tb n 3 a b → times (suc n) c ≡ times n c + field_names b c
    unfolding times_named
    some_names s =
        let x = node_at file p n in
        ap (λ (j : ℕ). times n c + j)
        (ap (λ (j : ℕ). fields_naming (op_of j) x.a x.b c) (laid.kinds n h ∙ s.at_kind) ∙ ap (λ (i : ℕ). field_names i c) (laid.seconds n h (λ e. let z = sym s.at_kind ∙ e in omega arith) ∙ s.at_b))

    atom_names : (q : ℕ) → 4 ≤ q → q ≤ 8 → NodeIs tb n q a b → times (suc n) c ≡ times n c + 0
    unfolding times_named
    atom_names q l u s =
        let x = node_at file p n in
        let at : (j : ℕ) → q ≡ j → fields_naming (op_of j) x.a x.b c ≡ 0 → node_names x c ≡ 0 = λ j e z. ap (λ (i : ℕ). fields_naming (op_of i) x.a x.b c) (laid.kinds n h ∙ (s.at_kind ∙ e)) ∙ z in
        ap (λ (j : ℕ). times n c + j)
        (either_eq q 4 (λ e. at 4 e refl) (λ n4. either_eq q 5 (λ e. at 5 e refl) (λ n5. either_eq q 6 (λ e. at 6 e refl) (λ n6. either_eq q 7 (λ e. at 7 e refl) (λ n7. at 8 (omega arith) refl)))))

  pub record Counted (k n c : ℕ) : Type 0 where
    pub x : ℕ
    pub sum : times (k + n) c ≡ times k c + x
    pub named : Named k n c x

  -- one node behind n nodes
  stepped : (k n c x f m : ℕ) → times (suc (k + n)) c ≡ times (k + n) c + f → times (k + n) c ≡ times k c + x → m ≡ n + 1 → times (k + m) c ≡ times k c + (x + f)
  stepped k n c x f m s e q =
      let g : k + m ≡ suc (k + n) = omega arith in
      ap (λ (j : ℕ). times j c) g ∙ omega arith

  pub tree-counted : (t : Tree) → Known t → (ns : Names) (k : ℕ) → k + size t ≤ count → Stands tb ns t k → (c : ℕ) → Counted k (size t) c
  unfolding Stands
  tree-counted (either l r) w ns k h s c =
      let a = size l in
      let b = size r in
      let m = k + a in
      let n = m + 1 + b in
      let u = tree-counted l w.0 ns k (omega arith) s.0 c in
      let v = tree-counted r w.1 ns (m + 1) (omega arith) s.2 c in
      let f1 = field_names (m - 1) c in
      let f2 = field_names (n - 1) c in
      let f3 = field_names m c + field_names n c in
      let f4 = field_names (n + 1) c in
      let e1 : times (suc m) c ≡ times m c + f1 = not_names m (m - 1) 0 c (omega arith) s.1 in
      let e2 : times (suc n) c ≡ times n c + f2 = not_names n (n - 1) 0 c (omega arith) s.3 in
      let e3 : times (suc (n + 1)) c ≡ times (n + 1) c + f3 = and_names (n + 1) m n c (omega arith) s.4 in
      let e4 : times (suc (n + 2)) c ≡ times (n + 2) c + f4 = not_names (n + 2) (n + 1) 0 c (omega arith) s.5 in
      let q1 : times (m + 1) c ≡ times (suc m) c = ap (λ (j : ℕ). times j c) (add-one m) in
      let q2 : times (n + 1) c ≡ times (suc n) c = ap (λ (j : ℕ). times j c) (add-one n) in
      let q3 : times (n + 2) c ≡ times (suc (n + 1)) c = ap (λ (j : ℕ). times j c) (omega arith) in
      let q4 : times (k + size (either l r)) c ≡ times (suc (n + 2)) c = ap (λ (j : ℕ). times j c) (omega arith) in
      let pa = size_some l in
      let pb = size_some r in
      let n1 = up_named k a c u.x f1 pa u.named (field (m - 1) c) in
      let n2 = up_named (m + 1) b c v.x f2 pb v.named (field (n - 1) c) in
      let n3 = join-named k (a + 1) (b + 1) c (u.x + f1) (v.x + f2) (field_names m c) (field_names n c) (omega arith) (omega arith) n1 (moved (m + 1) (k + (a + 1)) (b + 1) c (v.x + f2) (omega arith) n2) (field_at m (k + (a + 1) - 1) c (omega arith)) (field_at n (k + (a + 1) + (b + 1) - 1) c (omega arith)) in
      let n4 = up_named k (a + 1 + (b + 1) + 1) c (u.x + f1 + (v.x + f2) + f3) f4 (omega arith) n3 (field_at (n + 1) (k + (a + 1 + (b + 1) + 1) - 1) c (omega arith)) in
      record {
        x = u.x + f1 + (v.x + f2) + f3 + f4;
        sum = omega (arith, u.sum, v.sum);
        named = resized k (a + 1 + (b + 1) + 1 + 1) (size (either l r)) c (u.x + f1 + (v.x + f2) + f3 + f4) (omega arith) n4;
      }
  tree-counted (both l r) w ns k h s c =
      let a = size l in
      let b = size r in
      let m = k + a in
      let n = m + b in
      let u = tree-counted l w.0 ns k (omega arith) s.0 c in
      let v = tree-counted r w.1 ns m (omega arith) s.1 c in
      let f = field_names (m - 1) c + field_names (n - 1) c in
      let e : times (suc n) c ≡ times n c + f = and_names n (m - 1) (n - 1) c (omega arith) s.2 in
      let q : times (k + size (both l r)) c ≡ times (suc n) c = ap (λ (j : ℕ). times j c) (omega arith) in
      record {
        x = u.x + v.x + f;
        sum = omega (arith, u.sum, v.sum);
        named = join-named k a b c u.x v.x (field_names (m - 1) c) (field_names (n - 1) c) (size_some l) (size_some r) u.named v.named (field (m - 1) c) (field (n - 1) c);
      }
  tree-counted (neg t) w ns k h s c =
      let u = tree-counted t w ns k (omega arith) s.0 c in
      let n = k + size t in
      record {
        x = u.x + field_names (n - 1) c;
        sum = stepped k (size t) c u.x (field_names (n - 1) c) (size t + 1) (not_names n (n - 1) 0 c (omega arith) s.1) u.sum refl;
        named = up_named k (size t) c u.x (field_names (n - 1) c) (size_some t) u.named (field (n - 1) c);
      }
  tree-counted (exists v t) w ns k h s c =
      let u = tree-counted t w (inside ns v) k (omega arith) s.0 c in
      let n = k + size t in
      record {
        x = u.x + field_names (n - 1) c;
        sum = stepped k (size t) c u.x (field_names (n - 1) c) (size t + 1) (some_names n (length ns) (n - 1) c (omega arith) s.1) u.sum refl;
        named = up_named k (size t) c u.x (field_names (n - 1) c) (size_some t) u.named (field (n - 1) c);
      }
  tree-counted (has v l) w ns k h s c =
      record { x = 0; sum = ap (λ (j : ℕ). times j c) (add-one k) ∙ atom_names k (level ns v) l c (omega arith) 4 (omega arith) (omega arith) s; named = leaf_named k c }
  tree-counted (pair q v u) w ns k h s c =
      record { x = 0; sum = ap (λ (j : ℕ). times j c) (add-one k) ∙ atom_names k (level ns v) (level ns u) c (omega arith) q (omega (arith, w.0)) w.1 s; named = leaf_named k c }

  -- "every other node is named by exactly one field of one later node"
  pub named-once : (t : Tree) → Known t → (ns : Names) → size t ≤ count → Stands tb ns t 0 → named_once file p (size t) ≡ true
  unfolding once_below times_named
  named-once t w ns h s = below (size t - 1) (omega arith)
    where
      below : (j : ℕ) → j ≤ size t - 1 → once_below file p (size t) j ≡ true
      below zero l = refl
      below (suc c) l =
          let u = tree-counted t w ns 0 (omega arith) s c in
          let e : times (size t) c ≡ 1 = let q : 0 + size t ≡ size t = omega arith in sym (ap (λ (j : ℕ). times j c) q) ∙ (u.sum ∙ omega (arith, u.named.mid (omega arith) (omega arith))) in
          rw (below c (omega arith), eq-eqb (times (size t) c) 1 e)

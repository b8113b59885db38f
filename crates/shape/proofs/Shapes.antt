-- What the shape of a formula says: of the paper's limit on "some" that lie one inside another, of the variables in scope, and of the
-- variables that a table of nodes can name.
use Prim.Native.Nat.{ℕ, zero, suc, ◌≤◌, ◌<◌, max}
use mathlib.Core.Path.{◌≡◌, refl, sym, subst, ap, ap₂, ◌∙◌}
use mathlib.Core.Bool.{Bool, true, false, not, ◌&&◌, ◌||◌}
use mathlib.Core.List.{List}
use native.Mathlib.Nat.{le-max_left, le-max_right, max-le}
use native.Mathlib.Omega.{arith}
use lib.Dec.{eqb, leb, leb-zero, leb-suc-zero, leb-suc-suc}
use borrow.Author.Tests.{eqb-true, ne_eqb, leb-true, leb-false, le-leb, lt-leb}
use Rattle.lists.proofs.Cases.{either_eq, either_bool, no_both, and_left, and_right}
use Rattle.rules.specs.Formula.{Formula, both, neg, exists, has, pair, Scope, no_scope, enter, scoped, shallow}
use Rattle.rules.specs.Limits.{variables, max_nested}
use Rattle.rules.specs.Rules.{Taken, formula_of}
use Rattle.rules.specs.Table.{node_at, Good, formula_at}
use Rattle.rules.specs.declared.Node.{Node}
use Rattle.rules.specs.declared.Rule.{Rule}
use Rattle.rules.proofs.Formulas.{formula-and, formula_not, formula_some, formula-has, atom_fields, by_atom}
use Rattle.shape.specs.Shape.{flat?, free?, height}
use Rattle.shape.proofs.Nodes.{by_node, and_left_before, and_right_before, not_before, some_before}

-- ── how deep "some" nest ──
both-within : (a b n : ℕ) → (leb a n && leb b n) ≡ leb (max a b) n
both-within a b n = go (leb a n) (leb b n) refl refl
  where
    go : (s t : Bool) → leb a n ≡ s → leb b n ≡ t → (s && t) ≡ leb (max a b) n
    go true true e f = sym (le-leb (max a b) n (max-le (leb-true a n e) (leb-true b n f)))
    go true false e f = let l = leb-false b n f in sym (lt-leb (max a b) n (omega (arith, le-max_right a b)))
    go false t e f = let l = leb-false a n e in sym (lt-leb (max a b) n (omega (arith, le-max_left a b)))

-- at most n "some" lie one inside another: the height is at most n
pub shallow-height : (f : Formula) (n : ℕ) → shallow n f ≡ leb (height f) n
unfolding shallow height
shallow-height (both f g) n = ap₂ ◌&&◌ (shallow-height f n) (shallow-height g n) ∙ both-within (height f) (height g) n
shallow-height (neg f) n = shallow-height f n
shallow-height (exists v f) zero = sym (leb-suc-zero (height f))
shallow-height (exists v f) (suc n) = shallow-height f n ∙ sym (leb-suc-suc (height f) n)
shallow-height (has v l) n = sym (leb-zero n)
shallow-height (pair p v w) n = sym (leb-zero n)

-- no "some": the height is 0
pub flat-height : (f : Formula) → flat? f ≡ leb (height f) 0
unfolding flat? height
flat-height (both f g) = ap₂ ◌&&◌ (flat-height f) (flat-height g) ∙ both-within (height f) (height g) 0
flat-height (neg f) = flat-height f
flat-height (exists v f) = sym (leb-suc-zero (height f))
flat-height (has v l) = refl
flat-height (pair p v w) = refl

-- "At most four "some" nodes lie one inside another."
pub rule_height : (file : List ℕ) (x : Rule) → Taken file x → height (formula_of file x) ≤ max_nested
rule_height file x t = leb-true (height (formula_of file x)) max_nested (sym (shallow-height (formula_of file x) max_nested) ∙ t.depth)

-- ── free variables and scope ──
one_of : (a b c : Bool) → (a ≡ true → c ≡ true) → (b ≡ true → c ≡ true) → (a || b) ≡ true → c ≡ true
one_of true b c f g e = f refl
one_of false b c f g e = g e

one_free : (s : Scope) (u w : ℕ) → s u ≡ true → eqb u w ≡ true → s w ≡ true
one_free s u w e q = subst (λ (i : ℕ). s i ≡ true) (eqb-true u w q) e

two_free : (s : Scope) (u v w : ℕ) → (s u && s v) ≡ true → (eqb u w || eqb v w) ≡ true → s w ≡ true
two_free s u v w e = one_of (eqb u w) (eqb v w) (s w) (one_free s u w (and_left (s u) (s v) e)) (one_free s v w (and_right (s u) (s v) e))

-- the variables that stand free are in scope
pub scoped_free : (f : Formula) (s : Scope) → scoped f s ≡ true → (w : ℕ) → free? f w ≡ true → s w ≡ true
unfolding scoped free?
scoped_free (both f g) s e w h =
    one_of (free? f w) (free? g w) (s w)
    (scoped_free f s (and_left (scoped f s) (scoped g s) e) w)
    (scoped_free g s (and_right (scoped f s) (scoped g s) e) w)
    h
scoped_free (neg f) s e w h = scoped_free f s e w h
scoped_free (exists v f) s e w h = go (eqb v w) (scoped_free f (enter s v) e w (and_left (free? f w) (not (eqb v w)) h)) (and_right (free? f w) (not (eqb v w)) h)
  where
    go : (b : Bool) → (b || s w) ≡ true → not b ≡ true → s w ≡ true
    go true _ q = no_both (sym q)
    go false q _ = q
scoped_free (has u l) s e w h = one_free s u w e h
scoped_free (pair p u v) s e w h = two_free s u v w e h

-- "Every variable used stands inside a "some" that binds it": none stands free
pub closed_free : (f : Formula) → scoped f no_scope ≡ true → (w : ℕ) → free? f w ≡ false
closed_free f e w = either_bool (free? f w) (λ h. no_both (sym (scoped_free f no_scope e w h))) (λ h. h)

pub rule_free : (file : List ℕ) (x : Rule) → Taken file x → (w : ℕ) → free? (formula_of file x) w ≡ false
rule_free file x t = closed_free (formula_of file x) t.closed

-- ── "Variables are 0 to 3." ──
other : (v w : ℕ) → v < variables → variables ≤ w → eqb v w ≡ false
other v w h l = ne_eqb v w (λ e. omega arith)

others : (u v w : ℕ) → u < variables → v < variables → variables ≤ w → (eqb u w || eqb v w) ≡ false
others u v w h k l = ap₂ ◌||◌ (other u w h l) (other v w k l)

module _ (file : List ℕ) (p w : ℕ) (l : variables ≤ w) where
  -- variable w does not stand free in node n
  abbrev NotIn : ℕ → Type 0
  NotIn n = free? (formula_at file p n) w ≡ false

  module _ (n : ℕ) (x : Node) (is : x ≡ node_at file p n) (good : Good file p n) (below : (c : ℕ) → c < n → NotIn c) where
    not_in_atom : (x.kind ≡ 1 → ⊥) → (x.kind ≡ 2 → ⊥) → (x.kind ≡ 3 → ⊥) → NotIn n
    unfolding free?
    not_in_atom n1 n2 n3 =
        let a = atom_fields file p n x is good n1 n2 n3 in
        by_atom file p n x is good n1 n2 n3
        (λ k. rw (formula-has file p n x is good k) (other x.a w a.first l))
        (λ n4 e. rw e (others x.a x.b w a.first (a.second n4) l))

    not_in_node : NotIn n
    unfolding free?
    not_in_node =
        either_eq x.kind 1
        (λ k. rw (formula-and file p n x is good k) (ap₂ ◌||◌ (below x.a (and_left_before file p n x is good k)) (below x.b (and_right_before file p n x is good k))))
        (λ n1. either_eq x.kind 2
        (λ k. rw (formula_not file p n x is good k) (below x.a (not_before file p n x is good k)))
        (λ n2. either_eq x.kind 3
        (λ k. rw (formula_some file p n x is good k) (ap (λ (b : Bool). b && not (eqb x.a w)) (below x.b (some_before file p n x is good k))))
        (λ n3. not_in_atom n1 n2 n3)))

-- no other variable stands free in a node
pub node_free : (file : List ℕ) (p n : ℕ) → Good file p n → (w : ℕ) → variables ≤ w → free? (formula_at file p n) w ≡ false
node_free file p n good w l =
    by_node file p (λ c. free? (formula_at file p c) w ≡ false) (λ c g below. not_in_node file p w l c (node_at file p c) refl g below) (suc n) n good (omega arith)

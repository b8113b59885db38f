-- The form of a rule, node by node: down the chain, and from the root.
use Prim.Native.Nat.{ℕ, ◌-◌, ◌<◌, ◌≤◌}
use mathlib.Core.Path.{◌≡◌, refl, sym, ap, ◌∙◌}
use mathlib.Core.Bool.{Bool, true, false, not, ◌&&◌}
use mathlib.Core.List.{List}
use native.Mathlib.Omega.{arith}
use Rattle.std.proofs.Common.{Some, None}
use borrow.Author.Tests.{eq-eqb, ne_eqb, le-leb, lt-leb, not-true, not-false}
use lib.Dec.{eqb, leb}
use lib.ListN.{get_or}
use Rattle.lists.specs.Tells.{Tells}
use Rattle.lists.proofs.Cases.{either_eq}
use Rattle.rules.specs.declared.Node.{Node}
use Rattle.rules.specs.declared.Rule.{Rule}
use Rattle.rules.specs.Formula.{Formula}
use Rattle.rules.specs.Table.{node_at, formula_at, Good}
use Rattle.rules.specs.Rules.{formula_of, Taken}
use Rattle.rules.proofs.Formulas.{formula-and, formula_not, formula_some, formula-has, some_child, not_child, by_atom}
use Rattle.shape.specs.Shape.{flat?, height}
use Rattle.shape.proofs.Shapes.{flat-height}
use Rattle.moments.specs.Shape.{Heights}
use Rattle.slip_form.specs.Form.{SlipForm}
use Rattle.slip_form.specs.Chain.{some?, part_of, slip_form?, TopOf}
use Rattle.slip_form.proofs.Forms.{plain_part, form_tells}

-- ── a node that is no "some" ──
module _ (file : List ℕ) (p n : ℕ) (x : Node) (is : x ≡ node_at file p n) (good : Good file p n) (k3 : x.kind ≡ 3 → ⊥) where
  pub not_some : some? (formula_at file p n) ≡ false
  not_some =
      either_eq x.kind 1 (λ k. ap some? (formula-and file p n x is good k))
      (λ n1. either_eq x.kind 2 (λ k. ap some? (formula_not file p n x is good k))
      (λ n2. by_atom file p n x is good n1 n2 k3 (λ k. ap some? (formula-has file p n x is good k)) (λ _ e. ap some? e)))

-- ── down the chain ──
pub record Down (file : List ℕ) (p top n : ℕ) (x : Node) : Type 0 where
  pub good : Good file p n
  pub low : n ≤ top
  pub is : x ≡ node_at file p n
  pub same_part : part_of (formula_at file p n) ≡ part_of (formula_at file p top)

module _ (file : List ℕ) (p top n : ℕ) (x : Node) (d : Down file p top n x) where
  pub child_low : x.kind ≡ 3 → x.b < n
  child_low k = (some_child file p n x d.is d.good n refl k).0

  pub child-good : x.kind ≡ 3 → Good file p x.b
  child-good k = (some_child file p n x d.is d.good n refl k).1

  pub down_next : (y : Node) → x.kind ≡ 3 → y ≡ node_at file p x.b → Down file p top x.b y
  unfolding part_of
  down_next y k e =
      record {
        good = child-good k;
        low = omega (arith, child_low k, d.low);
        is = e;
        same_part = sym (ap part_of (formula_some file p n x d.is d.good k)) ∙ d.same_part;
      }

  pub down_end : (heights : List ℕ) → Heights file p top heights → (x.kind ≡ 3 → ⊥) → eqb (get_or heights n 0) 0 ≡ flat? (part_of (formula_at file p top))
  down_end heights h k =
      let e : get_or heights n 0 ≡ height (formula_at file p n) = h.high n d.low in
      let z : eqb (get_or heights n 0) 0 ≡ leb (height (formula_at file p n)) 0 =
      either_eq (get_or heights n 0) 0
      (λ q. eq-eqb (get_or heights n 0) 0 q ∙ sym (le-leb (height (formula_at file p n)) 0 (omega (arith, q, e))))
      (λ q. ne_eqb (get_or heights n 0) 0 q ∙ sym (lt-leb (height (formula_at file p n)) 0 (omega (arith, q, e))))
      in
      z ∙ (sym (flat-height (formula_at file p n)) ∙ ap flat? (sym (plain_part (formula_at file p n) (not_some file p n x d.is d.good k)) ∙ d.same_part))

-- ── the whole rule ──
module _ (file : List ℕ) (r : Rule) (taken : Taken file r) (x : Node) (is : x ≡ node_at file r.nodes (r.count - 1)) where
  form_of : Tells (slip_form? (formula_of file r)) (SlipForm (formula_of file r))
  form_of = form_tells (formula_of file r) taken.depth

  other : slip_form? (formula_of file r) ≡ false → TopOf file r None
  other e = record { at = λ n z. absurd (cc); other = λ _. form_of.no e }

  root_not : (f : Formula) → formula_of file r ≡ f → slip_form? f ≡ false → TopOf file r None
  root_not f e h = other (ap slip_form? e ∙ h)

  pub not_not : (x.kind ≡ 2 → ⊥) → TopOf file r None
  unfolding slip_form?
  not_not n2 =
      either_eq x.kind 3 (λ k. root_not _ (formula_some file r.nodes (r.count - 1) x is taken.nodes_good k) refl)
      (λ n3. either_eq x.kind 1 (λ k. root_not _ (formula-and file r.nodes (r.count - 1) x is taken.nodes_good k) refl)
      (λ n1. by_atom file r.nodes (r.count - 1) x is taken.nodes_good n1 n2 n3
      (λ k. root_not _ (formula-has file r.nodes (r.count - 1) x is taken.nodes_good k) refl) (λ _ e. root_not _ e refl)))

  module _ (k2 : x.kind ≡ 2) where
    pub top_low : x.a < r.count
    top_low = omega (arith, (not_child file r.nodes (r.count - 1) x is taken.nodes_good (r.count - 1) refl k2).0)

    pub top_good : Good file r.nodes x.a
    top_good = (not_child file r.nodes (r.count - 1) x is taken.nodes_good (r.count - 1) refl k2).1

    form_is : slip_form? (formula_of file r) ≡ (some? (formula_at file r.nodes x.a) && flat? (part_of (formula_at file r.nodes x.a)))
    unfolding slip_form?
    form_is = ap slip_form? (formula_not file r.nodes (r.count - 1) x is taken.nodes_good k2)

    module _ (y : Node) (at_top : y ≡ node_at file r.nodes x.a) where
      pub no_chain : (y.kind ≡ 3 → ⊥) → TopOf file r None
      no_chain k =
          other (form_is ∙ ap (λ (b : Bool). b && flat? (part_of (formula_at file r.nodes x.a))) (not_some file r.nodes x.a y at_top top_good k))

      module _ (k3 : y.kind ≡ 3) (b : Bool) (e : b ≡ flat? (part_of (formula_at file r.nodes x.a))) where
        form_chain : slip_form? (formula_of file r) ≡ b
        form_chain =
            form_is
            ∙ (ap (λ (c : Bool). c && flat? (part_of (formula_at file r.nodes x.a))) (ap some? (formula_some file r.nodes x.a y at_top top_good k3))
            ∙ sym e)

        pub other_chain : not b ≡ true → TopOf file r None
        other_chain h = other (form_chain ∙ not-true b h)

        pub top_chain : not b ≡ false → TopOf file r (Some x.a)
        top_chain h =
            record {
              at = λ n q.
                  let m : x.a ≡ n = cc q in
                  record {
                    kind = sym (ap (λ (z : Node). z.kind) is) ∙ k2;
                    child = sym m ∙ ap (λ (z : Node). z.a) is;
                    form = form_of.yes (form_chain ∙ not-false b h);
                  };
              other = λ q. absurd (cc);
            }

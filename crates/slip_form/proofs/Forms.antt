-- The form as a test: it says true exactly if the formula has the form. A formula has one chain and one part below it.
use Prim.Native.Nat.{ℕ, ◌≤◌}
use mathlib.Core.Path.{◌≡◌, refl, sym, ap, ◌∙◌}
use mathlib.Core.Bool.{Bool, true, false, ◌&&◌}
use mathlib.Core.List.{List, [], ◌∷◌}
use native.Mathlib.Omega.{arith}
use borrow.Author.Tests.{leb-true}
use lib.ListN.{length}
use Rattle.lists.specs.Tells.{Tells}
use Rattle.lists.proofs.Cases.{no_both, and_left, and_right}
use Rattle.lists.proofs.Tells.{tell_no, tell_yes}
use Rattle.rules.specs.Formula.{Formula, both, neg, exists, has, pair, shallow}
use Rattle.rules.proofs.Scopes.{shallow-neg}
use Rattle.shape.specs.Shape.{flat?, height}
use Rattle.shape.proofs.Shapes.{shallow-height}
use Rattle.slip_form.specs.Form.{WithoutSome, some_of, SlipForm}
use Rattle.slip_form.specs.Chain.{some?, chain_of, part_of, slip_form?}

-- ── a part without "some" ──
flat-without : (f : Formula) → flat? f ≡ true → WithoutSome f
unfolding flat? WithoutSome
flat-without (both f g) e = (flat-without f (and_left (flat? f) (flat? g) e), flat-without g (and_right (flat? f) (flat? g) e))
flat-without (neg f) e = flat-without f e
flat-without (exists v f) e = no_both (sym e)
flat-without (has v l) e = tt
flat-without (pair p v w) e = tt

pub without-flat : (f : Formula) → WithoutSome f → flat? f ≡ true
unfolding flat? WithoutSome
without-flat (both f g) h = ap (λ (b : Bool). b && flat? g) (without-flat f h.0) ∙ without-flat g h.1
without-flat (neg f) h = without-flat f h
without-flat (exists v f) h = absurd h
without-flat (has v l) h = refl
without-flat (pair p v w) h = refl

pub without_some : (f : Formula) → WithoutSome f → some? f ≡ false
unfolding WithoutSome
without_some (both f g) h = refl
without_some (neg f) h = refl
without_some (exists v f) h = absurd h
without_some (has v l) h = refl
without_some (pair p v w) h = refl

-- ── the chain of a formula ──
chain_part : (f : Formula) → some_of (chain_of f) (part_of f) ≡ f
unfolding chain_of part_of
chain_part (both f g) = refl
chain_part (neg f) = refl
chain_part (exists v f) = ap (exists v) (chain_part f)
chain_part (has v l) = refl
chain_part (pair p v w) = refl

plain_chain : (f : Formula) → some? f ≡ false → chain_of f ≡ []
unfolding chain_of
plain_chain (both f g) e = refl
plain_chain (neg f) e = refl
plain_chain (exists v f) e = no_both e
plain_chain (has v l) e = refl
plain_chain (pair p v w) e = refl

pub plain_part : (f : Formula) → some? f ≡ false → part_of f ≡ f
unfolding part_of
plain_part (both f g) e = refl
plain_part (neg f) e = refl
plain_part (exists v f) e = no_both e
plain_part (has v l) e = refl
plain_part (pair p v w) e = refl

chain_of_lem : (vs : List ℕ) (g : Formula) → some? g ≡ false → chain_of (some_of vs g) ≡ vs
unfolding chain_of
chain_of_lem [] g e = plain_chain g e
chain_of_lem (v ∷ vs) g e = ap (λ (l : List ℕ). v ∷ l) (chain_of_lem vs g e)

part_of_lem : (vs : List ℕ) (g : Formula) → some? g ≡ false → part_of (some_of vs g) ≡ g
unfolding part_of
part_of_lem [] g e = plain_part g e
part_of_lem (v ∷ vs) g e = part_of_lem vs g e

chain_some : (f : Formula) → some? f ≡ true → 1 ≤ length (chain_of f)
unfolding chain_of
chain_some (both f g) e = no_both (sym e)
chain_some (neg f) e = no_both (sym e)
chain_some (exists v f) e = omega arith
chain_some (has v l) e = no_both (sym e)
chain_some (pair p v w) e = no_both (sym e)

some_chain : (vs : List ℕ) (g : Formula) → 1 ≤ length vs → some? (some_of vs g) ≡ true
some_chain [] g h = absurd (omega arith)
some_chain (v ∷ vs) g h = refl

chain_height : (f : Formula) → length (chain_of f) ≤ height f
unfolding chain_of height
chain_height (both f g) = omega arith
chain_height (neg f) = omega arith
chain_height (exists v f) = let h = chain_height f in omega arith
chain_height (has v l) = omega arith
chain_height (pair p v w) = omega arith

-- ── the form ──
no_slips : {f : Formula} → ((vs : List ℕ) (g : Formula) → f ≡ neg (some_of vs g) → ⊥) → Tells false (SlipForm f)
no_slips h = tell_no (λ s. h s.variables s.part s.not_over)

has_slips : (f : Formula) → height f ≤ 4 → some? f ≡ true → flat? (part_of f) ≡ true → SlipForm (neg f)
has_slips f low some flat =
    record {
      variables = chain_of f;
      part = part_of f;
      not_over = ap neg (sym (chain_part f));
      one = chain_some f some;
      four = let h = chain_height f in omega arith;
      without = flat-without (part_of f) flat;
    }

under_not : (f : Formula) (vs : List ℕ) (g : Formula) → neg f ≡ neg (some_of vs g) → f ≡ some_of vs g
under_not f vs g e = cc

slips_flat : (f : Formula) → SlipForm (neg f) → (some? f && flat? (part_of f)) ≡ true
slips_flat f s =
    let is : f ≡ some_of s.variables s.part = under_not f s.variables s.part s.not_over in
    let plain : some? s.part ≡ false = without_some s.part s.without in
    ap (λ (h : Formula). some? h && flat? (part_of h)) is
    ∙ (ap (λ (b : Bool). b && flat? (part_of (some_of s.variables s.part))) (some_chain s.variables s.part s.one)
    ∙ (ap flat? (part_of_lem s.variables s.part plain) ∙ without-flat s.part s.without))

tell_form : (f : Formula) → height f ≤ 4 → (b : Bool) → (some? f && flat? (part_of f)) ≡ b → Tells b (SlipForm (neg f))
tell_form f low true e = tell_yes (has_slips f low (and_left (some? f) (flat? (part_of f)) e) (and_right (some? f) (flat? (part_of f)) e))
tell_form f low false e = tell_no (λ s. no_both (sym (slips_flat f s) ∙ e))

low_under : (f : Formula) → shallow 4 (neg f) ≡ true → height f ≤ 4
low_under f e = leb-true (height f) 4 (sym (shallow-height f 4) ∙ shallow-neg f 4 e)

-- THE LAW: of a rule that is not too deep the test says whether it has the form
pub form_tells : (f : Formula) → shallow 4 f ≡ true → Tells (slip_form? f) (SlipForm f)
unfolding slip_form?
form_tells (both f g) e = no_slips (λ vs h z. let q : ◌≡◌ {A = ℕ} 0 1 = cc in omega arith)
form_tells (neg f) e = tell_form f (low_under f e) (some? f && flat? (part_of f)) refl
form_tells (exists v f) e = no_slips (λ vs h z. let q : ◌≡◌ {A = ℕ} 0 1 = cc in omega arith)
form_tells (has v l) e = no_slips (λ vs h z. let q : ◌≡◌ {A = ℕ} 0 1 = cc in omega arith)
form_tells (pair p v w) e = no_slips (λ vs h z. let q : ◌≡◌ {A = ℕ} 0 1 = cc in omega arith)

-- a formula has one chain and one part
pub one_chain : (f : Formula) (s : SlipForm (neg f)) → chain_of f ≡ s.variables
one_chain f s =
    ap chain_of (under_not f s.variables s.part s.not_over) ∙ chain_of_lem s.variables s.part (without_some s.part s.without)

pub one_part : (f : Formula) (s : SlipForm (neg f)) → part_of f ≡ s.part
one_part f s =
    ap part_of (under_not f s.variables s.part s.not_over) ∙ part_of_lem s.variables s.part (without_some s.part s.without)

-- A slip that is found has one to four runs, so that 0 is the number of "none" alone. The slip of up to four bytes has
-- these bytes as its runs.
use Prim.Native.Nat.{ℕ, suc, ◌≤◌}
use mathlib.Core.Path.{◌≡◌, refl, sym, ap, subst, ◌∙◌}
use mathlib.Core.Logic.{◌↔◌}
use mathlib.Core.Bool.{true, false}
use mathlib.Core.List.{List, [], ◌∷◌, ◌++◌, map}
use native.Mathlib.Omega.{arith}
use lib.ListN.{length}
use lib.Seq.{take_all}
use Rattle.lists.specs.Lists.{pad}
use Rattle.lists.proofs.Cases.{either_bool}
use Rattle.trace.specs.declared.Record.{Record}
use Rattle.trace.specs.Trace.{Trace}
use Rattle.trace.specs.declared.RunNo.{RunNo}
use Rattle.rules.specs.declared.Rule.{Rule}
use Rattle.std.specs.Prelude.{None, Result, Ok, Err, IfOk, IfSome}
use Rattle.refusals.specs.Refusal.{number, RefusedWith}
use Rattle.refusals.proofs.Numbers.{number-listed}
use Rattle.refusals.proofs.Answers.{refused_ok}
use Rattle.refusals.specs.declared.Refusal.{Refusal}
use Rattle.rules.specs.Formula.{Formula}
use Rattle.rules.specs.Rules.{rule_of, formula_of}
use Rattle.logic.specs.Satisfies.{Binding}
use Rattle.logic.specs.Model.{Model, eval, model_of}
use Rattle.slip_form.specs.declared.Slip.{Slip}
use Rattle.slip_form.specs.Form.{some_of, SlipForm}
use Rattle.slip_form.specs.Slips.{unbound, run_no, numbers, slip_runs, slip_of}
use Rattle.slip_search.proofs.Places.{length-numbers}
use Rattle.slips.specs.Answers.{Finding, Passing, with_slip, without_slip, first_runs, found_in, FindsFirst}
use Rattle.answer_numbers.specs.Numbers.{refusal, NumberedAs}
use Rattle.answer_numbers.proofs.Numbered.{TellsNumber}
use Rattle.slip_bytes.specs.InBytes.{slip_from, found_numbered, FoundAs, passing_number, passes_number}

-- ── what is found ──
length_first : (m : Model) (vs : List ℕ) (ρ : Binding) (g : Formula) → length (first_runs m ρ vs g) ≡ length vs
unfolding first_runs
length_first m [] ρ g = refl
length_first m (v ∷ vs) ρ g = ap suc (length_first m vs _ g)

found_either : {C : Type 0} (t : Trace) (vs : List ℕ) (g : Formula) → 1 ≤ length vs → length vs ≤ 4
    → ((x : Slip) → found_in t vs g ≡ with_slip x → 1 ≤ x.count → x.count ≤ 4 → C) → (found_in t vs g ≡ without_slip → C) → C
unfolding found_in
found_either t vs g one four slip none =
    either_bool (eval (model_of t) unbound (some_of vs g))
    (λ e.
    let n : length (first_runs (model_of t) unbound vs g) ≡ length vs = length_first (model_of t) vs unbound g in
    slip (slip_of (first_runs (model_of t) unbound vs g)) (simp e) (omega arith) (omega arith))
    (λ e. none (simp e))

-- what the finder answers: a refusal, that none passes, or a slip of one to four runs
by_answer_lem : {C : Type 0} (file : List ℕ) (r : Record) (a : Finding) → FindsFirst file r a → ((n : ℕ) → RefusedWith n a → C)
    → (a ≡ without_slip → C) → ((x : Slip) → a ≡ with_slip x → 1 ≤ x.count → x.count ≤ 4 → C) → C
by_answer_lem {C} file r a h refused none slip = go (rule_of file) refl
  where
    known : (x : Rule) → rule_of file ≡ Ok x → SlipForm (formula_of file x) → C
    known x e s =
        let d = h.decided x e s in
        either_bool d.0
        (λ y.
        let v = d.1.yes y in
        let w = h.known x e s v.log v.trace v.accepted v.encoded in
        found_either v.trace s.variables s.part s.one s.four (λ z q. slip z (w.answer ∙ q)) (λ q. none (w.answer ∙ q)))
        (λ n. refused 21 (h.no_record x e s (d.1.no n)))

    go : (o : Result Rule Refusal) → rule_of file ≡ o → C
    go (Err n) e = refused (number n) (h.rule n e)
    go (Ok x) e =
        let d = h.form x e in
        either_bool d.0 (λ y. known x e (d.1.yes y)) (λ n. refused 26 (h.other_form x e (d.1.no n)))

abbrev pub FewRuns : Finding → Type 0
FewRuns a = IfOk a (λ o. IfSome o (λ x. x.count ≤ 4))

pub slip_few : (file : List ℕ) (r : Record) (a : Finding) → FindsFirst file r a → FewRuns a
slip_few file r a h =
    by_answer_lem file r a h
    (λ n w. subst FewRuns (sym w.1.0) tt)
    (λ e. subst FewRuns (sym e) tt)
    (λ x e _ four. subst FewRuns (sym e) four)

-- ── the answer as a number ──
-- of errors that tell their number as a refusal does
pub found_same : (a : Finding) (b : List ℕ) (z : ℕ × List ℕ) → FoundAs TellsNumber a b z → z ≡ found_numbered a b
found_same (Ok o) b z w = w
found_same (Err e) b z (c, told, is) = is ∙ ap (λ (k : ℕ). (refusal k, b)) told

pub passing_same : (a : Passing) (n : ℕ) → NumberedAs TellsNumber passes_number a n → n ≡ passing_number a
passing_same (Ok true) n w = w
passing_same (Ok false) n w = w
passing_same (Err e) n (c, told, is) = is ∙ ap refusal told

number_of : (a : Finding) (y : List ℕ) (n : ℕ) (y' : List ℕ) → ◌≡◌ {A = ℕ × List ℕ} (n, y') (found_numbered a y) → (b : Finding) → a ≡ b
    → (n ≡ (found_numbered b y).0) × (y' ≡ (found_numbered b y).1)
number_of a y n y' q b e =
    let z = q ∙ ap (λ (c : Finding). found_numbered c y) e in
    (ap (λ (p : ℕ × List ℕ). p.0) z, ap (λ (p : ℕ × List ℕ). p.1) z)

-- 0 is the number of "none", and of nothing else
pub zero_none : (file : List ℕ) (r : Record) (a : Finding) → FindsFirst file r a → (y : List ℕ) (n : ℕ) (y' : List ℕ)
    → ◌≡◌ {A = ℕ × List ℕ} (n, y') (found_numbered a y) → (n ≡ 0) ↔ (a ≡ without_slip)
zero_none file r a h y n y' q =
    by_answer_lem file r a h
    (λ c w.
    let z = (number_of a y n y' q (Err w.0) w.1.0).0 in
    let one = (number-listed w.0).0 in
    ((λ k. absurd (omega (arith, z, k, one))), λ k. refused_ok a c None k w))
    (λ e. let z = (number_of a y n y' q without_slip e).0 in ((λ k. e), λ k. z))
    (λ x e one four.
    let z = (number_of a y n y' q (with_slip x) e).0 in
    ((λ k. absurd (omega (arith, z, k))), λ k. cc))

-- without a slip the bytes stay
pub no_slip_left : (file : List ℕ) (r : Record) (a : Finding) → FindsFirst file r a → (y : List ℕ) (n : ℕ) (y' : List ℕ)
    → ◌≡◌ {A = ℕ × List ℕ} (n, y') (found_numbered a y) → ((x : Slip) → a ≡ with_slip x → ⊥) → y' ≡ y
no_slip_left file r a h y n y' q none =
    by_answer_lem file r a h
    (λ c w. (number_of a y n y' q (Err w.0) w.1.0).1)
    (λ e. (number_of a y n y' q without_slip e).1)
    (λ x e one four. absurd (none x e))

-- ── the slip of bytes ──
numbers_back : (b : List ℕ) (d : List RunNo) → numbers (length b) (map run_no b ++ d) ≡ b
numbers_back [] d = refl
numbers_back (x ∷ b) d = ap (λ (l : List ℕ). x ∷ l) (numbers_back b d)

pub bytes_back : (b : List ℕ) → length b ≤ 4 → slip_runs (slip_from b) ≡ b
unfolding pad
bytes_back b few =
    ap (λ (l : List ℕ). numbers (length b) (pad (run_no 0) 4 (map run_no l))) (take_all 4 b few) ∙ numbers_back b _

-- a slip of bytes has as many runs as there are bytes
pub bytes_counted : (b : List ℕ) → length (slip_runs (slip_from b)) ≡ length b
bytes_counted b = length-numbers (length b) (slip_from b).run

-- What the finder answers: a slip of at most four runs, and of a rule that has slips the answer that the text is made of.
use Prim.Native.Nat.{ℕ, suc, ◌-◌, ◌≤◌}
use mathlib.Core.Path.{◌≡◌, refl, ap, sym, subst, ◌∙◌}
use mathlib.Core.List.{List, [], ◌∷◌, ◌++◌, map}
use native.Mathlib.Omega.{arith}
use lib.ListN.{length, replicate}
use Rattle.lists.specs.Lists.{pad}
use Rattle.lists.proofs.Cases.{either_bool}
use Rattle.trace.specs.declared.Record.{Record}
use Rattle.trace.specs.declared.RunNo.{RunNo}
use Rattle.trace.specs.Trace.{Trace}
use Rattle.trace.specs.Record.{record_of, Valid}
use Rattle.trace.proofs.Bounds.{accepted-bounded}
use Rattle.rules.specs.declared.Rule.{Rule}
use Rattle.std.specs.Prelude.{Result, Ok, Err, IfOk, IfSome}
use Rattle.refusals.specs.Refusal.{number, RefusedWith}
use Rattle.refusals.specs.declared.Refusal.{Refusal}
use Rattle.rules.specs.Formula.{Formula, neg}
use Rattle.rules.specs.Rules.{rule_of, formula_of}
use Rattle.logic.specs.Satisfies.{Binding, bind}
use Rattle.logic.specs.Model.{Model, eval, model_of}
use Rattle.logic.specs.Verdict.{verdict_of}
use Rattle.slip_form.specs.Form.{some_of, SlipForm}
use Rattle.slip_form.specs.Slips.{unbound, run_no, numbers, slip_runs, slip_of}
use Rattle.slips.specs.Answers.{Finding, first_runs, found_in, FindsFirst}
use Rattle.log_slips.specs.Printed.{slip_text, if_fails, fail_text}
use Rattle.log_slips.specs.Walk.{found_text}

-- the lines of a record that accepted lines leave
pub valid_lines : (r : Record) → Valid r → r.lines.0 ≤ 256
unfolding record_of
valid_lines r v = omega (arith, ap (λ (x : Record). x.lines.0) v.encoded, (accepted-bounded v.log v.trace v.accepted).lines)

-- ── a slip of at most four runs ──
first_length : (m : Model) (ρ : Binding) (vs : List ℕ) (g : Formula) → length (first_runs m ρ vs g) ≡ length vs
unfolding first_runs
first_length m ρ [] g = refl
first_length m ρ (v ∷ vs) g = ap suc (first_length m (bind ρ v _) vs g)

abbrev pub FewRuns : Finding → Type 0
FewRuns a = IfOk a (λ o. IfSome o (λ x. x.count ≤ 4))

count_in : (t : Trace) (vs : List ℕ) (g : Formula) → length vs ≤ 4 → FewRuns (found_in t vs g)
unfolding found_in
count_in t vs g h =
    either_bool (eval (model_of t) unbound (some_of vs g))
    (λ e. simp e (omega (arith, first_length (model_of t) unbound vs g)))
    (λ e. simp e tt)

refused_few : (a : Finding) (n : ℕ) → RefusedWith n a → FewRuns a
refused_few a n w = subst FewRuns (sym w.1.0) tt

module _ (file : List ℕ) (r : Record) (a : Finding) (f : FindsFirst file r a) where
  pub found_few : Valid r → FewRuns a
  found_few v = on (rule_of file) refl
    where
      formed : (x : Rule) → rule_of file ≡ Ok x → SlipForm (formula_of file x) → FewRuns a
      formed x p s =
          subst FewRuns (sym (f.known x p s v.log v.trace v.accepted v.encoded).answer)
          (count_in v.trace s.variables s.part s.four)

      on : (q : Result Rule Refusal) → rule_of file ≡ q → FewRuns a
      on (Err n) p = refused_few a (number n) (f.rule n p)
      on (Ok x) p =
          let k = f.form x p in
          either_bool k.0
          (λ e. formed x p (k.1.yes e))
          (λ e. refused_few a 26 (f.other_form x p (k.1.no e)))

-- ── its text ──
-- the runs of the slip of these numbers
runs_first : (ks : List ℕ) (rs : List RunNo) → numbers (length ks) (map run_no ks ++ rs) ≡ ks
runs_first [] rs = refl
runs_first (k ∷ ks) rs = ap (λ (l : List ℕ). k ∷ l) (runs_first ks rs)

runs_of : (ks : List ℕ) → slip_runs (slip_of ks) ≡ ks
unfolding pad
runs_of ks = runs_first ks (replicate (4 - length (map run_no ks)) (run_no 0))

fails_with : (u : Trace) (vs : List ℕ) (g : Formula) (n : ℕ)
    → found_text n (found_in u vs g) ≡ if_fails (verdict_of u (neg (some_of vs g))) (slip_text n (first_runs (model_of u) unbound vs g))
unfolding found_in verdict_of eval
fails_with u vs g n =
    either_bool (eval (model_of u) unbound (some_of vs g))
    (λ e. simp e (ap (slip_text n) (runs_of (first_runs (model_of u) unbound vs g))))
    (λ e. simp e)

-- THE LAW: what is written of the answer is the line of the first slip if the verdict is F, and nothing if it is H
pub found_text_lem : (f : Formula) (s : SlipForm f) (u : Trace) (a : Finding) → a ≡ found_in u s.variables s.part → found_text u.lines a ≡ fail_text f s u
unfolding fail_text
found_text_lem f s u a e =
    ap (found_text u.lines) e
    ∙ (fails_with u s.variables s.part u.lines
    ∙ ap (λ (h : Formula). if_fails (verdict_of u h) (slip_text u.lines (first_runs (model_of u) unbound s.variables s.part))) (sym s.not_over))

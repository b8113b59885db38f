-- Where the calls on slips refuse, and what their answers say of a rule file and the log of a record.
use Prim.Native.Nat.{ℕ}
use mathlib.Core.Path.{◌≡◌, refl, sym, ap, subst, ◌∙◌}
use mathlib.Core.Logic.{◌↔◌}
use mathlib.Core.Bool.{Bool, true, false, cond}
use mathlib.Core.List.{List}
use native.Mathlib.Omega.{arith}
use Rattle.lists.proofs.Cases.{either_bool}
use Rattle.trace.specs.declared.Record.{Record}
use Rattle.trace.specs.Trace.{Trace, Accepted}
use Rattle.trace.specs.Record.{record_of, Valid}
use Rattle.rules.specs.declared.Rule.{Rule}
use Rattle.std.specs.Prelude.{Some, None, Result, Ok, Err}
use Rattle.refusals.specs.Refusal.{number, RefusedWith}
use Rattle.refusals.specs.declared.Refusal.{Refusal}
use Rattle.refusals.specs.declared.Refusal.TheVariants.{NoFinishedRun}
use Rattle.refusals.proofs.Answers.{refused_number, refused_ok}
use Rattle.rules.specs.Formula.{Formula, neg}
use Rattle.rules.specs.Rules.{rule_of, formula_of}
use Rattle.grammar.specs.MetRule.{MetRule}
use Rattle.grammar.specs.Stands.{RuleFile}
use Rattle.grammar.proofs.RuleMet.{rule_met}
use Rattle.grammar.proofs.Stands.{rule_says, rule_file-taken}
use Rattle.logic.specs.declared.Verdict.{Verdict}
use Rattle.logic.specs.Satisfies.{Satisfies}
use Rattle.logic.specs.Model.{eval, model_of}
use Rattle.logic.specs.Verdict.{verdict_byte, Says}
use Rattle.logic.proofs.Decides.{eval_decides}
use Rattle.reading.specs.Left.{Left}
use Rattle.single.specs.Line.{judged}
use Rattle.report.specs.Calls.{LineCall}
use Rattle.slip_form.specs.declared.Slip.{Slip}
use Rattle.slip_form.specs.Form.{some_of, SlipForm}
use Rattle.slip_form.specs.Slips.{bind_each, unbound, Fits, Passes, slip_runs, slip_of}
use Rattle.slips.specs.Answers.{Finding, Passing, with_slip, without_slip, first_runs, found_in, fits?, passing_in, FindsIn, ReadsIn, SlipCall, FindsFirst, ReadsSlip}
use Rattle.slip_search.proofs.Places.{length-numbers}
use Rattle.slips.proofs.Said.{some_passes}
use Rattle.claims.specs.Demand1.{Listed}
use Rattle.claims.specs.Slips.{MetSlips, slip_rule, slip_form, slip_record, slip_then, Of, Slips}
use Rattle.claims.proofs.Refusals.{met_number, lent_nothing}
use Rattle.claims.proofs.Verdicts.{demand-2}

-- ── one call, whatever it answers ──
module _ (file : List ℕ) (r : Record) (refuses : ℕ → Type 0) (says : (t : Trace) (f : Formula) → SlipForm f → Type 0)
    (h : SlipCall file r refuses says) where
  -- what it says of a rule file and the record of a log
  of_file : Of says file r
  of_file f m s log t a e =
      let x = rule_file-taken file f m in
      subst (λ (g : Formula). (s : SlipForm g) (log : List ℕ) (t : Trace) → Accepted log t → r ≡ record_of t → says t g s)
      x.2 (h.known x.0 x.1) s log t a e

  -- it refuses, or there is a rule of the form and a log of the record
  pub data Answered : Type 0 where
    refused_by : (n : ℕ) → refuses n → MetRule file n → Answered
    other_form : (f : Formula) → RuleFile file f → (SlipForm f → ⊥) → refuses 26 → Answered
    no_record : (f : Formula) → RuleFile file f → SlipForm f → (Valid r → ⊥) → refuses 21 → Answered
    known : (f : Formula) → RuleFile file f → (s : SlipForm f) → (log : List ℕ) (t : Trace) → Accepted log t → r ≡ record_of t → says t f s → Answered

  answered : Answered
  answered = go (rule_of file) refl
    where
      known_by : (x : Rule) → rule_of file ≡ Ok x → SlipForm (formula_of file x) → Answered
      known_by x e s =
          let d = h.decided x e s in
          either_bool d.0
          (λ y.
          let v = d.1.yes y in
          known (formula_of file x) (rule_says file x e) s v.log v.trace v.accepted v.encoded (h.known x e s v.log v.trace v.accepted v.encoded))
          (λ n. no_record (formula_of file x) (rule_says file x e) s (d.1.no n) (h.no_record x e s (d.1.no n)))

      go : (o : Result Rule Refusal) → rule_of file ≡ o → Answered
      go (Err n) e = refused_by (number n) (h.rule n e) ((rule_met file (number n)).0 (n, (e, refl)))
      go (Ok x) e =
          let d = h.form x e in
          either_bool d.0 (λ y. known_by x e (d.1.yes y))
          (λ n. other_form (formula_of file x) (rule_says file x e) (d.1.no n) (h.other_form x e (d.1.no n)))

  -- where it refuses, by what it says
  module _ (A : ℕ → Type 0) (after : (t : Trace) (f : Formula) → SlipForm f → ℕ → Type 0)
      (to : (c : ℕ) → refuses c → A c) (same : (c d : ℕ) → refuses d → A c → d ≡ c)
      (met : (t : Trace) (f : Formula) (s : SlipForm f) (c : ℕ) → says t f s → A c → after t f s c)
      (back : (t : Trace) (f : Formula) (s : SlipForm f) (c : ℕ) → says t f s → after t f s c → A c) where
    there : (c : ℕ) → A c → Answered → MetSlips file r after c
    there c a (refused_by n q m) = slip_rule (subst (MetRule file) (same c n q a) m)
    there c a (other_form f m n q) = slip_form f m n (sym (same c 26 q a))
    there c a (no_record f m s n q) = slip_record f m s n (sym (same c 21 q a))
    there c a (known f m s log t acc e w) = slip_then f m s log t acc e (met t f s c w a)

    here : (c : ℕ) → MetSlips file r after c → A c
    here c (slip_rule m) = let w = (rule_met file c).1 m in to c (subst refuses w.1.1 (h.rule w.0 w.1.0))
    here c (slip_form f m n e) =
        let x = rule_file-taken file f m in
        subst A (sym e) (to 26 (h.other_form x.0 x.1 (λ s. n (subst SlipForm x.2 s))))
    here c (slip_record f m s n e) =
        let x = rule_file-taken file f m in
        subst A (sym e) (to 21 (h.no_record x.0 x.1 (subst SlipForm (sym x.2) s) n))
    here c (slip_then f m s log t acc e a) = back t f s c (of_file f m s log t acc e) a

    pub slips_met : (c : ℕ) → A c ↔ MetSlips file r after c
    slips_met c = (λ a. there c a answered, here c)

slips_listed : (file : List ℕ) (r : Record) (after : (t : Trace) (f : Formula) → SlipForm f → ℕ → Type 0) (c : ℕ)
    → ((t : Trace) (f : Formula) (s : SlipForm f) → after t f s c → Listed c) → MetSlips file r after c → Listed c
slips_listed file r after c l (slip_rule m) = met_number file c m
slips_listed file r after c l (slip_form f m n e) = omega arith
slips_listed file r after c l (slip_record f m s n e) = omega arith
slips_listed file r after c l (slip_then f m s log t acc e a) = l t f s a

-- ── the finder ──
same_refused : {A : Type 0} (a : Result A Refusal) (c d : ℕ) → RefusedWith d a → RefusedWith c a → d ≡ c
same_refused a c d p q = refused_number a d q.0 q.1.0 p ∙ q.1.1

-- what is found is a slip or nothing
found_either : {C : Type 0} (t : Trace) (f : Formula) (s : SlipForm f) (a : Finding) → FindsIn t f s a
    → ((x : Slip) → a ≡ with_slip x → C) → (a ≡ without_slip → C) → C
unfolding found_in
found_either t f s a w slip none =
    either_bool (eval (model_of t) unbound (some_of s.variables s.part))
    (λ e. slip (slip_of (first_runs (model_of t) unbound s.variables s.part)) (w.answer ∙ simp e))
    (λ e. none (w.answer ∙ simp e))

never_refused : (t : Trace) (f : Formula) (s : SlipForm f) (a : Finding) (c : ℕ) → FindsIn t f s a → RefusedWith c a → ⊥
never_refused t f s a c w q = found_either t f s a w (λ x e. refused_ok a c (Some x) e q) (λ e. refused_ok a c None e q)

-- ── the reader ──
read_number : (t : Trace) (f : Formula) (s : SlipForm f) (ks : List ℕ) (a : Passing) (n : ℕ) → ReadsIn t f s ks a → RefusedWith n a → n ≡ 22
unfolding passing_in
read_number t f s ks a n w q =
    go (fits? t s.variables ks) (eval (model_of t) (bind_each unbound s.variables ks) s.part) w.answer
  where
    go : (x y : Bool) → a ≡ cond x (Ok y) (Err NoFinishedRun) → n ≡ 22
    go true y e = refused_ok a n y e q
    go false y e = refused_number a n NoFinishedRun e q

read_met : (t : Trace) (f : Formula) (s : SlipForm f) (ks : List ℕ) (a : Passing) (n : ℕ) → ReadsIn t f s ks a → RefusedWith n a
    → (Fits t f s ks → ⊥) × (n ≡ 22)
read_met t f s ks a n w q = let e = read_number t f s ks a n w q in (w.refused.0 (subst (λ (m : ℕ). RefusedWith m a) e q), e)

-- ── the verdict ──
under_not : (t : Trace) (f g : Formula) → f ≡ neg g → Satisfies t unbound f ↔ (Satisfies t unbound g → ⊥)
unfolding Satisfies
under_not t f g e = (λ h. subst (Satisfies t unbound) e h, λ h. subst (Satisfies t unbound) (sym e) h)

fails-passes : (f : Formula) (s : SlipForm f) (t : Trace) (v : Verdict) → Says t f v → (verdict_byte v ≡ 0) ↔ ((ks : List ℕ) × Passes t f s ks)
fails-passes f s t v w =
    let chain : Formula = some_of s.variables s.part in
    let not_so = under_not t f (some_of s.variables s.part) s.not_over in
    let said = w.fails unbound in (
      λ e. (some_passes t f s).0
          (either_bool (eval (model_of t) unbound (some_of s.variables s.part))
          (λ y. (eval_decides t unbound (some_of s.variables s.part)).yes y)
          (λ n. absurd (said.0 e (not_so.1 ((eval_decides t unbound (some_of s.variables s.part)).no n))))),
      λ p. said.1 (λ h. not_so.0 h ((some_passes t f s).1 p)),
    )

fails_found : (f : Formula) (s : SlipForm f) (t : Trace) (a : Finding) → FindsIn t f s a → (v : Verdict) → Says t f v → (verdict_byte v ≡ 0) ↔ ((x : Slip) × (a ≡ with_slip x))
fails_found f s t a w v says =
    let p = fails-passes f s t v says in (
      λ e. found_either t f s a w (λ x q. (x, q)) (λ q. let k = p.0 e in absurd (w.none.0 q k.0 k.1)),
      λ e. p.1 (slip_runs e.0, ((w.slip e.0).0 e.1).passes),
    )

passes_found : (file : List ℕ) (r : Record) (a : Finding) → FindsFirst file r a → (x : Slip) → a ≡ with_slip x → (b : Passing) → ReadsSlip file r x b → b ≡ Ok true
passes_found file r a h x e b k = go (answered file r (λ n. RefusedWith n a) (λ t f s. FindsIn t f s a) h)
  where
    go : Answered file r (λ n. RefusedWith n a) (λ t f s. FindsIn t f s a) h → b ≡ Ok true
    go (refused_by n q m) = refused_ok a n (Some x) e q
    go (other_form f m n q) = refused_ok a 26 (Some x) e q
    go (no_record f m s n q) = refused_ok a 21 (Some x) e q
    go (known f m s log t acc q w) =
        (of_file file r (λ n. RefusedWith n b) (λ t f s. ReadsIn t f s (slip_runs x) b) k f m s log t acc q).passes.1 ((w.slip x).0 e).passes

fails_line : (k : LineCall) (f : Formula) → RuleFile k.file f → SlipForm f → (log : List ℕ) (t : Trace) → Left k.layout log t k.state k.work
    → (v : Verdict) → k.answer.outcome ≡ judged v → (a : Finding) → FindsFirst k.file k.answer.state a
    → (verdict_byte v ≡ 0) ↔ ((x : Slip) × (a ≡ with_slip x))
fails_line k f m s log t left v e a h =
    let x = rule_file-taken k.file f m in
    let j = demand-2.line k x.0 x.1 log t left v e in
    let u = j.settled.left in
    fails_found f s j.settled.trace a
    (of_file k.file k.answer.state (λ n. RefusedWith n a) (λ t f s. FindsIn t f s a) h f m s _ _ u.accepted u.encoded)
    v (subst (λ (g : Formula). Says j.settled.trace g v) x.2 j.verdict)

pub the_slips : Slips
the_slips =
    record {
      finding_refused = λ file r a h c.
          lent_nothing c
          (slips_met file r (λ n. RefusedWith n a) (λ t f s. FindsIn t f s a) h (λ n. RefusedWith n a) (λ t f s n. ⊥)
          (λ n e. e) (λ n d p q. same_refused a n d p q) (λ t f s n w q. never_refused t f s a n w q) (λ t f s n w x. absurd x) c)
          (slips_listed file r (λ t f s n. ⊥) c (λ t f s x. absurd x));
      passing_refused = λ file r x a h c.
          lent_nothing c
          (slips_met file r (λ n. RefusedWith n a) (λ t f s. ReadsIn t f s (slip_runs x) a) h (λ n. RefusedWith n a) (λ t f s n. (Fits t f s (slip_runs x) → ⊥) × (n ≡ 22))
          (λ n e. e) (λ n d p q. same_refused a n d p q) (λ t f s n w q. read_met t f s (slip_runs x) a n w q)
          (λ t f s n w z. subst (λ (m : ℕ). RefusedWith m a) (sym z.1) (w.refused.1 z.0)) c)
          (slips_listed file r (λ t f s n. (Fits t f s (slip_runs x) → ⊥) × (n ≡ 22)) c (λ t f s z. omega (arith, z.1)));
      passing = λ file r x a h f m s log t acc e. (of_file file r (λ n. RefusedWith n a) (λ t f s. ReadsIn t f s (slip_runs x) a) h f m s log t acc e).passes;
      verdict = λ f s log t acc v w. fails-passes f s t v w;
      first = λ file r a h f m s log t acc e. (of_file file r (λ n. RefusedWith n a) (λ t f s. FindsIn t f s a) h f m s log t acc e).slip;
      none = λ file r a h f m s log t acc e. (of_file file r (λ n. RefusedWith n a) (λ t f s. FindsIn t f s a) h f m s log t acc e).none;
      found = λ file r a h f m s log t acc e v w. fails_found f s t a (of_file file r (λ n. RefusedWith n a) (λ t f s. FindsIn t f s a) h f m s log t acc e) v w;
      line = fails_line;
      found_passes = passes_found;
      counted = λ x. length-numbers x.count x.run;
    }

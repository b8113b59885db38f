-- From the first slip, or that none passes, to what the finder's answer says; and from the truth of given runs to what the reader's says.
use Prim.Native.Nat.{ℕ}
use mathlib.Core.Path.{◌≡◌, refl, sym, ap, subst, ◌∙◌}
use mathlib.Core.Logic.{◌↔◌, ⊎_elim}
use mathlib.Core.Bool.{Bool, true, false, ◌&&◌, cond}
use mathlib.Core.List.{List, [], ◌∷◌}
use lib.Dec.{ltb}
use lib.ListN.{length}
use Rattle.lists.specs.Lists.{all?}
use Rattle.lists.specs.Tells.{Tells}
use Rattle.lists.proofs.Cases.{either_bool, no_both}
use Rattle.lists.proofs.Tells.{tell_yes, tell_by}
use Rattle.trace.specs.Trace.{Trace}
use Rattle.relations.specs.Runs.{FinishedRun, finished?}
use Rattle.rules.specs.Formula.{Formula}
use Rattle.logic.specs.Satisfies.{Satisfies}
use Rattle.logic.specs.Model.{eval, model_of}
use Rattle.logic.proofs.Decides.{eval_decides, tell_both, tell_eq}
use Rattle.slip_form.specs.declared.Slip.{Slip}
use Rattle.slip_form.specs.Form.{some_of, SlipForm}
use Rattle.slip_form.specs.Slips.{bind_each, unbound, Each, Fits, Passes, slip_runs, slip_of, FirstSlip}
use Rattle.slip_form.specs.Chain.{some?}
use Rattle.slip_form.proofs.Forms.{without_some}
use Rattle.slip_search.specs.First.{First, of_runs, Tidy}
use Rattle.std.specs.Prelude.{Ok, Err}
use Rattle.refusals.specs.declared.Refusal.TheVariants.{NoFinishedRun}
use Rattle.refusals.proofs.Answers.{refused_with, refused_ok}
use Rattle.slips.specs.Answers.{Passing, with_slip, without_slip, first_runs, found_in, fits?, passing_in, FindsIn, ReadsIn}
use Rattle.slips.proofs.Meaning.{PassesFrom, either_before, holds_of, may_of, run_of, passes_satisfies, satisfies_passes, first_passes, first_earliest, first_is}

same_slip : (x y : Slip) → with_slip x ≡ with_slip y → x ≡ y
same_slip x y e = cc

not_nothing : (x : Slip) → with_slip x ≡ without_slip → ⊥
not_nothing x e = cc

tell_all : (P : ℕ → Type 0) (p : ℕ → Bool) → ((k : ℕ) → Tells (p k) (P k)) → (ks : List ℕ) → Tells (all? p ks) (Each P ks)
unfolding Each
tell_all P p h [] = tell_yes tt
tell_all P p h (k ∷ ks) = tell_both (p k) (all? p ks) (h k) (tell_all P p h ks)

module _ (t : Trace) (f : Formula) (s : SlipForm f) where
  plain : some? s.part ≡ false
  plain = without_some s.part s.without

  to_pass : (ks : List ℕ) → PassesFrom t unbound s.variables s.part ks → Passes t f s ks
  to_pass ks h = record { fits = record { one_each = h.one_each; finished = h.finished }; true_of = h.true_of }

  from_pass : (ks : List ℕ) → Passes t f s ks → PassesFrom t unbound s.variables s.part ks
  from_pass ks h = record { one_each = h.fits.one_each; finished = h.fits.finished; true_of = h.true_of }

  -- THE LAW: the chain is true exactly if some slip passes
  pub some_passes : Satisfies t unbound (some_of s.variables s.part) ↔ ((ks : List ℕ) × Passes t f s ks)
  some_passes = (
    λ h. let w = satisfies_passes t s.variables unbound s.part h in (w.0, to_pass w.0 w.1),
    λ w. passes_satisfies t s.variables w.0 unbound s.part (from_pass w.0 w.1),
  )

  -- ── the finder ──
  first_one : (x y : Slip) → FirstSlip t f s x → FirstSlip t f s y → x ≡ y
  first_one x y p q =
      ⊎_elim (λ b. absurd (q.earliest (slip_runs x) b p.passes))
      (λ r. ⊎_elim (λ e. p.unused ∙ (ap slip_of e ∙ sym q.unused)) (λ b. absurd (p.earliest (slip_runs y) b q.passes)) r)
      (either_before (slip_runs x) (slip_runs y) (p.passes.fits.one_each ∙ sym q.passes.fits.one_each))

  pub found_in_lem : (x : Slip) → Tidy x → First (of_runs (model_of t)) unbound (some_of s.variables s.part) (slip_runs x) → FindsIn t f s (with_slip x)
  unfolding found_in
  found_in_lem x tidy h =
      let from : PassesFrom t unbound s.variables s.part (slip_runs x) = first_passes t s.part plain s.variables (slip_runs x) unbound h in
      let passes : Passes t f s (slip_runs x) = to_pass (slip_runs x) from in
      let first : FirstSlip t f s x =
      record {
        passes = passes;
        unused = tidy;
        earliest = λ js b y. first_earliest t s.part plain s.variables (slip_runs x) js unbound h (from_pass js y) b;
      }
      in
      let true-so : eval (model_of t) unbound (some_of s.variables s.part) ≡ true = holds_of t unbound (some_of s.variables s.part) (some_passes.1 (slip_runs x, passes)) in
      let is : x ≡ slip_of (first_runs (model_of t) unbound s.variables s.part) = tidy ∙ ap slip_of (first_is t s.part plain s.variables (slip_runs x) unbound h) in
      record {
        answer =
            ap with_slip is
            ∙ sym (ap (λ (b : Bool). cond b (with_slip (slip_of (first_runs (model_of t) unbound s.variables s.part))) without_slip) true-so);
        slip = λ y. (λ e. subst (FirstSlip t f s) (same_slip x y e) first, λ p. ap with_slip (first_one x y first p));
        none = (λ e. absurd (not_nothing x e), λ n. absurd (n (slip_runs x) passes));
      }

  pub none_in : ((ks : List ℕ) → Passes t f s ks → ⊥) → FindsIn t f s without_slip
  unfolding found_in
  none_in n =
      let false-so : eval (model_of t) unbound (some_of s.variables s.part) ≡ false =
      either_bool (eval (model_of t) unbound (some_of s.variables s.part))
      (λ e. let w = some_passes.0 ((eval_decides t unbound (some_of s.variables s.part)).yes e) in absurd (n w.0 w.1))
      (λ e. e)
      in
      record {
        answer = sym (ap (λ (b : Bool). cond b (with_slip (slip_of (first_runs (model_of t) unbound s.variables s.part))) without_slip) false-so);
        slip = λ y. (λ e. absurd (not_nothing y (sym e)), λ p. absurd (n (slip_runs y) p.passes));
        none = (λ _. n, λ _. refl);
      }

  pub false_none : eval (model_of t) unbound (some_of s.variables s.part) ≡ false → FindsIn t f s without_slip
  false_none e = none_in (λ ks p. (eval_decides t unbound (some_of s.variables s.part)).no e (some_passes.1 (ks, p)))

  -- ── the reader ──
  run_tells : (k : ℕ) → Tells (ltb k (length t.runs) && finished? t k) (FinishedRun t k)
  run_tells k =
      record {
        yes = run_of t k;
        no = λ e h. no_both (sym (may_of t k h) ∙ e);
      }

  fits_tells : (ks : List ℕ) → Tells (fits? t s.variables ks) (Fits t f s ks)
  unfolding fits?
  fits_tells ks =
      tell_by (λ h. record { one_each = h.0; finished = h.1 }) (λ h. (h.one_each, h.finished))
      (tell_both _ _ (tell_eq (length ks) (length s.variables)) (tell_all (FinishedRun t) (λ k. ltb k (length t.runs) && finished? t k) run_tells ks))

  fit_true : (ks : List ℕ) → Fits t f s ks → fits? t s.variables ks ≡ true
  fit_true ks h = either_bool (fits? t s.variables ks) (λ e. e) (λ e. absurd ((fits_tells ks).no e h))

  fit_false : (ks : List ℕ) → (Fits t f s ks → ⊥) → fits? t s.variables ks ≡ false
  fit_false ks h = either_bool (fits? t s.variables ks) (λ e. absurd (h ((fits_tells ks).yes e))) (λ e. e)

  module _ (ks : List ℕ) where
    abbrev answered : Bool → Bool → Passing
    answered fits b = cond fits (Ok b) (Err NoFinishedRun)

    read_in : (fits b : Bool) → Tells fits (Fits t f s ks) → Tells b (Satisfies t (bind_each unbound s.variables ks) s.part)
        → answered fits b ≡ passing_in t s.variables s.part ks → ReadsIn t f s ks (answered fits b)
    read_in true true w h e =
        record {
          answer = e;
          passes = (λ _. record { fits = w.yes refl; true_of = h.yes refl }, λ _. refl);
          does_not = (λ z. cc, λ z. absurd (z.1 (h.yes refl)));
          refused = (λ z. refused_ok (answered true true) 22 true refl z, λ n. absurd (n (w.yes refl)));
        }
    read_in true false w h e =
        record {
          answer = e;
          passes = (λ z. cc, λ p. absurd (h.no refl p.true_of));
          does_not = (λ _. (w.yes refl, h.no refl), λ _. refl);
          refused = (λ z. refused_ok (answered true false) 22 false refl z, λ n. absurd (n (w.yes refl)));
        }
    read_in false b w h e =
        record {
          answer = e;
          passes = (λ z. cc, λ p. absurd (w.no refl p.fits));
          does_not = (λ z. cc, λ z. absurd (w.no refl z.0));
          refused = (λ _. w.no refl, λ _. refused_with (answered false b) 22 NoFinishedRun refl refl);
        }

    decides : Tells (eval (model_of t) (bind_each unbound s.variables ks) s.part) (Satisfies t (bind_each unbound s.variables ks) s.part)
    decides = eval_decides t (bind_each unbound s.variables ks) s.part

    whole_in : ReadsIn t f s ks (passing_in t s.variables s.part ks)
    unfolding passing_in
    whole_in = read_in (fits? t s.variables ks) (eval (model_of t) (bind_each unbound s.variables ks) s.part) (fits_tells ks) decides refl

    pub reads_fit : Fits t f s ks → (b : Bool) → b ≡ eval (model_of t) (bind_each unbound s.variables ks) s.part
        → ReadsIn t f s ks (Ok b)
    unfolding passing_in
    reads_fit h b e =
        let is : ◌≡◌ {A = Passing} (Ok b) (passing_in t s.variables s.part ks) =
        ap (λ (c : Bool). answered true c) e ∙ sym (ap (λ (c : Bool). answered c (eval (model_of t) (bind_each unbound s.variables ks) s.part)) (fit_true ks h))
        in
        subst (ReadsIn t f s ks) (sym is) whole_in

    pub reads_not : (Fits t f s ks → ⊥) → ReadsIn t f s ks (Err NoFinishedRun)
    unfolding passing_in
    reads_not h =
        let is : ◌≡◌ {A = Passing} (Err NoFinishedRun) (passing_in t s.variables s.part ks) =
        sym (ap (λ (c : Bool). answered c (eval (model_of t) (bind_each unbound s.variables ks) s.part)) (fit_false ks h))
        in
        subst (ReadsIn t f s ks) (sym is) whole_in

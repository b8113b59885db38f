-- What the class is taught. An open run changes no verdict: "some" ranges over finished runs, and whatever a variable stands for
-- inside it has the same label and the same lines before and after a begin line. Two runs without labels are never the same. And a
-- verdict is not for good: each later line can change it.
use Prim.Native.Nat.{ℕ, zero, suc, ◌+◌, ◌<◌}
use mathlib.Core.Path.{◌≡◌, refl, sym, ap, ap₂, subst, ◌∙◌}
use mathlib.Core.Logic.{◌↔◌}
use mathlib.Core.Bool.{Bool, true, false, not, ◌&&◌, cond}
use mathlib.Core.List.{List, [], ◌∷◌, ◌++◌}
use native.Mathlib.Omega.{arith}
use lib.Dec.{eqb, ltb}
use lib.ListN.{length, get_or, length-append, get_or-append, get_or-eq_default}
use borrow.Author.Tests.{eq-eqb, ltb-true}
use Rattle.lists.specs.Lists.{bytes, pad, same?}
use Rattle.lists.proofs.Cases.{either_eq, either_lt, either_bool}
use Rattle.labels.specs.declared.Label.{Label}
use Rattle.labels.specs.Label.{label_of, text, equal_label?}
use Rattle.labels.specs.Table.{number_of, index_of, with_label, label_at}
use Rattle.labels.proofs.Table.{label_kept}
use Rattle.lines.specs.Event.{begins}
use Rattle.lines.specs.Line.{event_of}
use Rattle.trace.specs.declared.Run.{Run}
use Rattle.trace.specs.Trace.{Trace, next, no_run, new_run, run_at, begin_line, end_line, begin, end, apply, apply_to, begin_run, end_run, running?, close, step, read, Accepted}
use Rattle.trace.proofs.Examples.{run}
use Rattle.trace.proofs.Taken.{begin_taken}
use Rattle.trace.specs.Orderly.{Orderly}
use Rattle.trace.proofs.Accepted.{accepted_orderly}
use Rattle.relations.specs.Relation as Relation
use Rattle.relations.specs.Runs.{finished?}
use Rattle.rules.specs.Formula.{Formula, no_scope, scoped}
use Rattle.rules.specs.Cases.{no_evening_includes_test, no_test_without_run_after}
use Rattle.logic.specs.declared.Verdict.TheVariants.{Holds, Fails}
use Rattle.logic.specs.Satisfies.{Binding, SameLabel, Between, related, alike, between, Satisfies}
use Rattle.logic.specs.Model.{eval, number_at, has_label?, related?, same_label?, holds_between?, model_of}
use Rattle.logic.specs.Verdict.{verdict_of, After}
use Rattle.logic.proofs.Decides.{eval_decides}
use Rattle.logic.proofs.Closed.{Extends, eval_extends}
use Rattle.logic.proofs.Examples.{after, left, test_label}

-- ── an open run changes no verdict ──
-- a run that is open has no finish, as if it were not there
open_finish : (rs : List Run) (r : Run) → end_line r ≡ 0 → (j : ℕ) → end_line (get_or rs j no_run) ≡ end_line (get_or (rs ++ (r ∷ [])) j no_run)
open_finish [] r h zero = sym h
open_finish [] r h (suc j) = refl
open_finish (q ∷ rs) r h zero = refl
open_finish (q ∷ rs) r h (suc j) = open_finish rs r h j

module _ (t : Trace) (o : Orderly t) (i : ℕ) (x : Label) where
  abbrev u : Trace
  u = begin t i x

  done_same : (j : ℕ) → finished? t j ≡ finished? u j
  unfolding begin
  done_same j = ap (ltb 0) (open_finish t.runs (new_run i (t.lines + 1) (number_of t.labels x)) refl j)

  begun : (j : ℕ) → finished? t j ≡ true → j < length t.runs
  begun j e =
      either_lt j (length t.runs) (λ h. h)
      (λ h. let z : end_line (run_at t j) ≡ 0 = ap end_line (get_or-eq_default t.runs no_run h) in absurd (omega (arith, ltb-true 0 (end_line (run_at t j)) e)))

  run_same : (j : ℕ) → finished? t j ≡ true → run_at t j ≡ run_at u j
  unfolding begin
  run_same j e = sym (get_or-append t.runs _ no_run j (begun j e))

  -- what is said of a label's bytes by its number is said after the line too
  text_same : (j : ℕ) → finished? t j ≡ true → (P : List ℕ → Bool)
      → (not (eqb (number_at t j) 0) && P (text (label_at t.labels (number_at t j)))) ≡ (not (eqb (number_at u j) 0) && P (text (label_at u.labels (number_at u j))))
  unfolding begin
  text_same j e P =
      let n : number_at t j ≡ number_at u j = ap (λ (r : Run). r.label.0) (run_same j e) in
      let low = o.label_numbers j (begun j e) in
      subst (λ (k : ℕ). (not (eqb (number_at t j) 0) && P (text (label_at t.labels (number_at t j)))) ≡ (not (eqb k 0) && P (text (label_at u.labels k)))) n
      (either_eq (number_at t j) 0
      (λ z. rw (eq-eqb (number_at t j) 0 z) refl)
      (λ d. ap (λ (q : Label). not (eqb (number_at t j) 0) && P (text q)) (sym (label_kept t.labels x (number_at t j) d low))))

  label_same : (j : ℕ) (l : List ℕ) → finished? t j ≡ true → has_label? t j l ≡ has_label? u j l
  label_same j l e = text_same j e (λ s. same? s l)

  related_same : (r : Relation.Relation) (j k : ℕ) → finished? t j ≡ true → finished? t k ≡ true → related? r t j k ≡ related? r u j k
  related_same r j k d e =
      ap₂ (λ (a b : Run). ltb 0 (end_line a) && (ltb 0 (end_line b) && Relation.relates? r (begin_line a) (end_line a) (begin_line b) (end_line b))) (run_same j d) (run_same k e)

  alike_same : (j k : ℕ) → finished? t j ≡ true → finished? t k ≡ true → same_label? t j k ≡ same_label? u j k
  alike_same j k d e = text_same j d (λ s. has_label? t k s) ∙ ap (λ (b : Bool). not (eqb (number_at u j) 0) && b) (label_same k (text (label_at u.labels (number_at u j))) e)

  between_same : (b : Between) (j k : ℕ) → finished? t j ≡ true → finished? t k ≡ true → holds_between? b t j k ≡ holds_between? b u j k
  between_same (related r) = related_same r
  between_same alike = alike_same

  begin_extends : Extends (model_of t) (model_of u)
  unfolding begin
  begin_extends =
      record {
        runs = omega (arith, length-append t.runs (new_run i (t.lines + 1) (number_of t.labels x) ∷ []));
        done = done_same;
        unfinished = λ j h. sym (done_same j) ∙ ap (λ (r : Run). ltb 0 (end_line r)) (get_or-eq_default t.runs no_run h);
        labelled = label_same;
        paired = λ p. between_same (between p);
      }

module _ (log : List ℕ) (t : Trace) (a : Accepted log t) (i : ℕ) (l : List ℕ) (u : Trace) (e : apply t (begins i l) ≡ next u) (f : Formula) (c : scoped f no_scope ≡ true) where
  eval_same : (ρ : Binding) → eval (model_of t) ρ f ≡ eval (model_of u) ρ f
  unfolding apply
  eval_same ρ =
      eval_extends (model_of t) (model_of (begin t i (label_of l))) (begin_extends t (accepted_orderly log t a) i (label_of l)) f ρ c
      ∙ ap (λ (v : Trace). eval (model_of v) ρ f) (sym (begin_taken t i (label_of l) u e).is)

  -- a begin line's verdict is that of the line before
  pub begin_keeps_verdict : verdict_of t f ≡ verdict_of u f
  unfolding verdict_of
  begin_keeps_verdict = ap (λ (b : Bool). cond b Holds Fails) (eval_same (λ _. 0))

  -- a begin line makes no closed formula true and none false
  pub begin_keeps-truth : (ρ : Binding) → Satisfies t ρ f ↔ Satisfies u ρ f
  begin_keeps-truth ρ =
      either_bool (eval (model_of t) ρ f)
      (λ y. (λ _. (eval_decides u ρ f).yes (sym (eval_same ρ) ∙ y), λ _. (eval_decides t ρ f).yes y))
      (λ n. (λ h. absurd ((eval_decides t ρ f).no n h), λ h. absurd ((eval_decides u ρ f).no (sym (eval_same ρ) ∙ n) h)))

-- ── "same" ──
-- a run without a label is the same as none, "nor is one with itself"
pub no_label_no_same : (t : Trace) (j k : ℕ) → number_at t j ≡ 0 → (SameLabel t j k → ⊥) × (SameLabel t k j → ⊥)
no_label_no_same t j k e = (λ h. h.first.labelled e, λ h. h.second.labelled e)

-- ── a verdict can change with every later line ──
evening_and_test : List Label
evening_and_test = label_of (bytes "EVENING") ∷ label_of (bytes "TEST") ∷ []

-- "no TEST without a run after it" fails when a TEST ends, and holds again once a later run has finished
pub test_alone : After (bytes "B 1 TEST\nE 1\n") no_test_without_run_after Fails
unfolding eval scoped read step apply_to apply event_of begin_run with_label label_of pad index_of begin equal_label? number_of end_run running? end close
test_alone = after _ (left (run 1 1 2 1 ∷ []) test_label 2) no_test_without_run_after false (record { bytes = tt; leaves = refl }) refl refl

pub test_and-later : After (bytes "B 1 TEST\nE 1\nB 2\nE 2\n") no_test_without_run_after Holds
unfolding eval scoped read step apply_to apply event_of begin_run with_label label_of pad index_of begin equal_label? number_of end_run running? end close
test_and-later = after _ (left (run 1 1 2 1 ∷ run 2 3 4 0 ∷ []) test_label 4) no_test_without_run_after true (record { bytes = tt; leaves = refl }) refl refl

-- P1's rule holds while the EVENING is open, and fails once it is over
pub evening_open : After (bytes "B 7 EVENING\nB 9 TEST\nE 9\n") no_evening_includes_test Holds
unfolding evening_and_test eval scoped read step apply_to apply event_of begin_run with_label label_of pad index_of begin equal_label? number_of end_run running? end close
evening_open = after _ (left (run 7 1 0 1 ∷ run 9 2 3 2 ∷ []) evening_and_test 3) no_evening_includes_test true (record { bytes = tt; leaves = refl }) refl refl

pub evening_over : After (bytes "B 7 EVENING\nB 9 TEST\nE 9\nE 7\n") no_evening_includes_test Fails
unfolding evening_and_test eval scoped read step apply_to apply event_of begin_run with_label label_of pad index_of begin equal_label? number_of end_run running? end close
evening_over = after _ (left (run 7 1 4 1 ∷ run 9 2 3 2 ∷ []) evening_and_test 4) no_evening_includes_test false (record { bytes = tt; leaves = refl }) refl refl

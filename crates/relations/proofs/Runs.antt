-- Why exactly one relation relates two different finished runs of an accepted log: each starts before it finishes, and no two of
-- the four lines are the same, since every line begins or ends one run. From this follow what the relating call's answer
-- means and, since a record keeps the runs of its log, that the answer by the record is the answer by the log.
use Prim.Native.Nat.{ℕ, ◌<◌}
use mathlib.Core.Path.{◌≡◌, refl, sym, ap, subst, ◌∙◌}
use mathlib.Core.Logic.{◌≢◌}
use mathlib.Core.List.{List}
use mathlib.Core.Bool.{true, false}
use native.Mathlib.Omega.{arith}
use borrow.Author.Tests.{eq-eqb, ne_eqb, lt-ltb, le-ltb}
use lib.ListN.{length, get_or, get_or-eq_default}
use Rattle.lists.proofs.Cases.{either_lt, either_eq, no_both}
use Rattle.lists.proofs.Lists.{get_d_pad}
use Rattle.std.specs.Prelude.{Result, Ok, Err}
use Rattle.refusals.specs.declared.Refusal.{Refusal}
use Rattle.refusals.specs.declared.Refusal.TheVariants.{NoRecord, NoFinishedRun, SameRun}
use Rattle.trace.specs.declared.Record.{Record}
use Rattle.trace.specs.declared.RunNo.{RunNo}
use Rattle.trace.specs.Trace.{Trace, no_run, run_at, end_line, start, finish, Finished, Accepted}
use Rattle.trace.specs.Record.{record_of, Valid}
use Rattle.trace.proofs.Accepted.{accepted_orderly}
use Rattle.relations.specs.declared.Span.{Span}
use Rattle.relations.specs.Relation.{Relation, number, relation_of, OneHolds, Apart}
use Rattle.relations.specs.Runs.{span_of, FinishedRun, RelatesRuns, relation_in, relate_in, RelatedAs, Answers, Relating}
use Rattle.relations.proofs.Relation.{six_at, one_holds}

-- only a run of the log is finished
pub finished_run : (t : Trace) (k : ℕ) → Finished (run_at t k) → FinishedRun t k
finished_run t k f =
    either_lt k (length t.runs) (λ h. record { begun = h; ended = f })
    (λ h. let e : end_line (run_at t k) ≡ 0 = ap end_line (get_or-eq_default t.runs no_run h) in absurd (omega arith))

-- "A run has none of the three to itself", nor any of the six.
pub none_to_itself : (log : List ℕ) (t : Trace) → Accepted log t → (x : ℕ) → FinishedRun t x → (r : Relation) → RelatesRuns r t x x → ⊥
none_to_itself log t accepted x f =
    let o = (accepted_orderly log t accepted).forward x f.ended in
    six_at (λ r. RelatesRuns r t x x → ⊥) (omega arith)

-- ── two different finished runs of an accepted log ──
module _ (log : List ℕ) (t : Trace) (accepted : Accepted log t) (x y : ℕ) (differ : x ≢ y) (fx : FinishedRun t x) (fy : FinishedRun t y) where
  pub runs_apart : Apart (start t x) (finish t x) (start t y) (finish t y)
  runs_apart =
      let o = accepted_orderly log t accepted in (
        λ e.
            either_lt x y (λ h. omega (arith, o.order x y h fy.begun))
            (λ h. let l : y < x = omega arith in omega (arith, o.order y x l fx.begun)),
        λ e. o.apart x y fx.begun e,
        λ e. o.apart y x fy.begun (sym e),
        λ e. o.ends-apart x y differ fx.ended e,
      )

  -- "Between two different finished runs one of six holds"
  pub one_relation : OneHolds (start t x) (finish t x) (start t y) (finish t y) (relation_in t x y)
  one_relation =
      let o = accepted_orderly log t accepted in
      one_holds _ _ _ _ (o.forward x fx.ended) (o.forward y fy.ended) runs_apart

-- ── the answer by the log ──
module _ (t : Trace) (a b : ℕ) where
  pub not_finished : (FinishedRun t a × FinishedRun t b → ⊥) → Err NoFinishedRun ≡ relate_in t a b
  unfolding relate_in
  not_finished n =
      either_lt 0 (end_line (run_at t a))
      (λ p. either_lt 0 (end_line (run_at t b))
      (λ q. absurd (n (finished_run t a p, finished_run t b q)))
      (λ q. simp (lt-ltb _ _ p, le-ltb _ _ q)))
      (λ p. simp (le-ltb _ _ p))

  pub same_finished : FinishedRun t a → a ≡ b → Err SameRun ≡ relate_in t a b
  unfolding relate_in
  same_finished f e =
      let g : 0 < end_line (run_at t b) = subst (λ (k : ℕ). 0 < end_line (run_at t k)) e f.ended in
      simp (lt-ltb _ _ f.ended, lt-ltb _ _ g, eq-eqb _ _ e)

  pub both_finished : FinishedRun t a → FinishedRun t b → a ≢ b → Ok (relation_in t a b) ≡ relate_in t a b
  unfolding relate_in
  both_finished f g n = simp (lt-ltb _ _ f.ended, lt-ltb _ _ g.ended, ne_eqb _ _ n)

  by_runs : {C : Type 0} → ((FinishedRun t a × FinishedRun t b → ⊥) → C) → (FinishedRun t a → a ≡ b → C)
      → (FinishedRun t a → FinishedRun t b → a ≢ b → C) → C
  by_runs u s r =
      either_lt 0 (end_line (run_at t a))
      (λ p. either_lt 0 (end_line (run_at t b))
      (λ q. either_eq a b (s (finished_run t a p)) (r (finished_run t a p) (finished_run t b q)))
      (λ q. u (λ h. omega (arith, h.1.ended))))
      (λ p. u (λ h. omega (arith, h.0.ended)))

-- the variants are not the same
relation_is : (m n : ℕ) → ◌≡◌ {A = Result ℕ Refusal} (Ok m) (Ok n) → m ≡ n
relation_is m n e = cc

not_refused : {C : Type 0} (m : ℕ) (n : Refusal) → Ok m ≡ Err n → C
not_refused m n e = cc

not_both : {C : Type 0} → ◌≡◌ {A = Result ℕ Refusal} (Err SameRun) (Err NoFinishedRun) → C
not_both e = cc

-- one number only
one_number : {s f u g m n : ℕ} → OneHolds s f u g m → OneHolds s f u g n → m ≡ n
one_number h k = sym h.is ∙ (ap number (k.only h.relation h.holds) ∙ k.is)

module _ (log : List ℕ) (t : Trace) (accepted : Accepted log t) (a b : ℕ) where
  answer_relation : (n : ℕ) → relate_in t a b ≡ Ok n → RelatedAs t a b n
  answer_relation n e =
      by_runs t a b
      (λ u. not_refused n NoFinishedRun (sym (not_finished t a b u ∙ e)))
      (λ f s. not_refused n SameRun (sym (same_finished t a b f s ∙ e)))
      (λ f g d.
      record {
        first = f;
        second = g;
        different = d;
        one = subst (OneHolds _ _ _ _) (relation_is _ n (both_finished t a b f g d ∙ e)) (one_relation log t accepted a b d f g);
      })

  relation_answer : (n : ℕ) → RelatedAs t a b n → relate_in t a b ≡ Ok n
  relation_answer n w =
      sym (both_finished t a b w.first w.second w.different)
      ∙ ap Ok (one_number (one_relation log t accepted a b w.different w.first w.second) w.one)

  answer_unfinished : relate_in t a b ≡ Err NoFinishedRun → FinishedRun t a × FinishedRun t b → ⊥
  answer_unfinished e h =
      by_runs t a b (λ u. u h)
      (λ f s. not_both (same_finished t a b f s ∙ e))
      (λ f g d. not_refused _ NoFinishedRun (both_finished t a b f g d ∙ e))

  answer_same : relate_in t a b ≡ Err SameRun → FinishedRun t a × (a ≡ b)
  answer_same e =
      by_runs t a b
      (λ u. not_both (sym (not_finished t a b u ∙ e)))
      (λ f s. (f, s))
      (λ f g d. not_refused _ SameRun (both_finished t a b f g d ∙ e))

  answers_at : Answers t a b (relate_in t a b)
  answers_at =
      record {
        answer = refl;
        relation = λ n. (answer_relation n, relation_answer n);
        unfinished = (answer_unfinished, λ u. sym (not_finished t a b u));
        same = (answer_same, λ h. sym (same_finished t a b h.0 h.1));
      }

  pub answers : (w : Result ℕ Refusal) → w ≡ relate_in t a b → Answers t a b w
  answers w e = rw e answers_at

-- ── the answer by the record ──
module _ (r : Record) (a b : RunNo) where
  pub no_record : (Valid r → ⊥) → Relating r a b (Err NoRecord)
  no_record n =
      record {
        decided = (false, record { yes = λ e. no_both (sym e); no = λ _. n });
        known = λ log t h e. absurd (n (record { log = log; trace = t; accepted = h; encoded = e }));
        unknown = λ _. refl;
      }

  of_record : (w : Result ℕ Refusal) → Valid r → ((t : Trace) → r ≡ record_of t → w ≡ relate_in t a.0 b.0) → Relating r a b w
  of_record w v says =
      record {
        decided = (true, record { yes = λ _. v; no = λ e. no_both e });
        known = λ log t h e. answers log t h a.0 b.0 w (says t e);
        unknown = λ n. absurd (n v);
      }

  -- a record keeps the runs of its log
  span_in : (t : Trace) (k : ℕ) (x : Span) → x ≡ span_of (get_or r.runs.list k no_run) → r ≡ record_of t → x ≡ span_of (run_at t k)
  unfolding record_of
  span_in t k x p e =
      p ∙ (ap (λ (q : Record). span_of (get_or q.runs.list k no_run)) e ∙ ap span_of (get_d_pad no_run 128 t.runs k))

  module _ (v : Valid r) (x : Span) (p : x ≡ span_of (get_or r.runs.list a.0 no_run)) where
    finish_first : (t : Trace) → r ≡ record_of t → x.finish ≡ finish t a.0
    finish_first t e = ap (λ (s : Span). s.finish) (span_in t a.0 x p e)

    pub first_unfinished : x.finish ≡ 0 → Relating r a b (Err NoFinishedRun)
    first_unfinished z = of_record (Err NoFinishedRun) v (λ t e. not_finished t a.0 b.0 (λ h. omega (arith, h.0.ended, finish_first t e)))

    module _ (y : Span) (q : y ≡ span_of (get_or r.runs.list b.0 no_run)) where
      finish_second : (t : Trace) → r ≡ record_of t → y.finish ≡ finish t b.0
      finish_second t e = ap (λ (s : Span). s.finish) (span_in t b.0 y q e)

      pub second-unfinished : y.finish ≡ 0 → Relating r a b (Err NoFinishedRun)
      second-unfinished z =
          of_record (Err NoFinishedRun) v (λ t e. not_finished t a.0 b.0 (λ h. omega (arith, h.1.ended, finish_second t e)))

      pub same_run : x.finish ≢ 0 → a.0 ≡ b.0 → Relating r a b (Err SameRun)
      same_run n s =
          of_record (Err SameRun) v
          (λ t e. same_finished t a.0 b.0 (finished_run t a.0 (omega (arith, finish_first t e))) s)

      pub two_runs : x.finish ≢ 0 → y.finish ≢ 0 → a.0 ≢ b.0 → (n : ℕ)
          → n ≡ relation_of x.start x.finish y.start y.finish → Relating r a b (Ok n)
      two_runs m n d k s =
          of_record (Ok k) v
          (λ t e.
          let f = finished_run t a.0 (omega (arith, finish_first t e)) in
          let g = finished_run t b.0 (omega (arith, finish_second t e)) in
          let i : relation_of x.start x.finish y.start y.finish ≡ relation_in t a.0 b.0 =
          (λ j. relation_of (span_in t a.0 x p e j).start (span_in t a.0 x p e j).finish (span_in t b.0 y q e j).start (span_in t b.0 y q e j).finish) in
          ap Ok (s ∙ i) ∙ both_finished t a.0 b.0 f g d)

-- The counts of a record are those of its trace: a run counts as finished if its end line is not 0, and the loop over the runs adds
-- them up from the front.
use Prim.Native.Nat.{ℕ, ◌+◌, ◌-◌, ◌≤◌}
use mathlib.Core.Path.{◌≡◌, refl, ap, sym, ◌∙◌}
use mathlib.Core.Bool.{Bool, true, false, not, cond, ◌&&◌}
use mathlib.Core.List.{List}
use native.Mathlib.Omega.{arith}
use lib.Dec.{eqb, leb}
use lib.ListN.{length}
use borrow.Author.Tests.{eq-eqb, leb-true, eqb-true}
use Rattle.std.specs.List.{count_by}
use Rattle.std.proofs.lemmas.List.Recursion.{is_count_by}
use Rattle.lists.proofs.Cases.{and_left, and_right, either_bool}
use Rattle.trace.specs.declared.Run.{Run}
use Rattle.trace.specs.declared.RunTable.{RunTable}
use Rattle.trace.specs.declared.Record.{Record}
use Rattle.trace.specs.Trace.{Trace, end_line}
use Rattle.trace.specs.Steps.{held}
use Rattle.trace.specs.Record.{record_of, Bounded}
use Rattle.trace.specs.Orderly.{finished_runs}
use Rattle.trace.proofs.Finished.{finished_few}
use Rattle.pairs.proofs.Pairs.{length_held}
use Rattle.logic.specs.declared.Verdict.{Verdict}
use Rattle.single.specs.declared.Outcome.TheVariants.{Holds, Fails, Refused}
use Rattle.single.specs.declared.Checked.{Checked}
use Rattle.tallies.specs.declared.Tally.{Tally}
use Rattle.single.specs.Line.{judged}
use Rattle.tallies.specs.Tally.{tally_of, failed, counts?, refusing_with, CountsRecord, MatchesRecord, CountsLine}
use Rattle.pairs.proofs.Pairs.{held_trace_lem}
use Rattle.single.proofs.LineMeans.{judged_same, judged-taken}

-- ── finished runs ──
abbrev pub finished? : Run → Bool
finished? r = not (eqb (end_line r) 0)

-- they are counted
pub finished_counted : (rs : List Run) → finished_runs rs ≡ count_by finished? rs
unfolding finished_runs
finished_counted = is_count_by finished_runs finished? refl counted_one
  where
    counted_one : (r : Run) (rs : List Run) → cond (eqb (end_line r) 0) 0 1 + finished_runs rs ≡ cond (finished? r) (1 + finished_runs rs) (finished_runs rs)
    counted_one r rs = either_bool (eqb (end_line r) 0) (λ e. simp e (omega arith)) (λ e. simp e)

pub finished_table : (t : RunTable) → length t.list ≡ 128 → t.count ≤ 128 → (n : ℕ) → n ≡ finished_runs (held t) → n ≤ t.count
finished_table t long few n e = omega (arith, e, finished_few (held t), length_held t long few)

-- ── the tally of a record ──
pub counts_record : (r : Record) (n f : ℕ) → f ≡ finished_runs (held r.runs)
    → CountsRecord r n (record { lines = r.lines.0; begun = r.runs.count; finished = f; running = r.runs.count - f; failing = n })
unfolding tally_of record_of
counts_record r n f e =
    record {
      answer = λ i. record { lines = r.lines.0; begun = r.runs.count; finished = e i; running = r.runs.count - e i; failing = n };
      meaning = λ t q.
          let g : f ≡ finished_runs t.runs = e ∙ ap (λ (x : Trace). finished_runs x.runs) (held_trace_lem r t q) in
          (λ i. record { lines = (q i).lines.0; begun = (q i).runs.count; finished = g i; running = (q i).runs.count - g i; failing = n });
    }

-- ── whether a tally has the counts of a record ──
-- four tests, and a fifth
all_pass : (l b f r m : Bool) → l && (b && (f && (r && true))) ≡ true → m ≡ l && (b && (f && (r && m)))
all_pass true true true true m e = refl
all_pass true true true false m e = cc
all_pass true true false r m e = cc
all_pass true false f r m e = cc
all_pass false b f r m e = cc

one_fails : (l b f r m : Bool) → l && (b && (f && (r && true))) ≡ false → false ≡ l && (b && (f && (r && m)))
one_fails true true true true m e = cc
one_fails true true true false m e = refl
one_fails true true false r m e = refl
one_fails true false f r m e = refl
one_fails false b f r m e = refl

abbrev equal? : Tally → Tally → Bool
equal? y z =
    eqb y.lines z.lines && (eqb y.begun z.begun && (eqb y.finished z.finished && (eqb y.running z.running && eqb y.failing z.failing)))

module _ (r : Record) (y z : Tally) (k : CountsRecord r y.failing z) (d : Bool) (q : d ≡ equal? y z) where
  tests_of : (t : Trace) → r ≡ record_of t
      → eqb y.lines t.lines
      && (eqb y.begun (length t.runs) && (eqb y.finished (finished_runs t.runs) && (eqb y.running (length t.runs - finished_runs t.runs) && true)))
      ≡ d
  unfolding tally_of
  tests_of t e = sym (q ∙ (ap (equal? y) (k.meaning t e) ∙ simp (eq-eqb y.failing y.failing refl)))

  pub counts_same : d ≡ true → MatchesRecord r y (leb y.failing y.lines)
  unfolding counts?
  counts_same s t e =
      all_pass (eqb y.lines t.lines) (eqb y.begun (length t.runs)) (eqb y.finished (finished_runs t.runs))
      (eqb y.running (length t.runs - finished_runs t.runs)) (leb y.failing y.lines) (tests_of t e ∙ s)

  pub counts_differ : d ≡ false → MatchesRecord r y d
  unfolding counts?
  counts_differ s t e =
      s
      ∙ one_fails (eqb y.lines t.lines) (eqb y.begun (length t.runs)) (eqb y.finished (finished_runs t.runs))
      (eqb y.running (length t.runs - finished_runs t.runs)) (leb y.failing y.lines) (tests_of t e ∙ s)

-- ── the tally after a line ──
module _ (c : Checked) (y : Tally) where
  pub count_refused : (n : ℕ) → c.outcome ≡ Refused n → CountsLine c y (refusing_with c.state y n)
  count_refused n o =
      record {
        refuses = λ d q. (let f : Refused n ≡ Refused d = sym o ∙ q in let g : n ≡ d = cc in ap (refusing_with c.state y) g);
        takes = λ t v e q. judged-taken v n (sym q ∙ o);
      }

  counted : (v : Verdict) → c.outcome ≡ judged v → (z : Tally) → ((t : Trace) → c.state ≡ record_of t → z ≡ tally_of t (y.failing + failed v))
      → CountsLine c y (record { state = c.state; tally = z; outcome = judged v })
  counted v o z k =
      record {
        refuses = λ n q. judged-taken v n (sym o ∙ q);
        takes = λ t u e q.
            let s : v ≡ u = judged_same v u (sym o ∙ q) in
            (λ i. record { state = e i; tally = k t e i; outcome = judged v }) ∙ ap (λ (x : Verdict). record { state = record_of t; tally = tally_of t (y.failing + failed x); outcome = judged x }) s;
      }

  pub count_holds : c.outcome ≡ Holds → (z : Tally) → CountsRecord c.state y.failing z → CountsLine c y (record { state = c.state; tally = z; outcome = Holds })
  count_holds o z k = counted Verdict.Holds o z (λ t e. k.meaning t e ∙ ap (tally_of t) (let s : y.failing ≡ y.failing + 0 = omega arith in s))

  pub count_fails : c.outcome ≡ Fails → (z : Tally) → CountsRecord c.state (y.failing + 1) z → CountsLine c y (record { state = c.state; tally = z; outcome = Fails })
  count_fails o z k = counted Verdict.Fails o z k.meaning

-- a tally that has the counts of a record has few failing lines
pub failing-most : (t : Trace) (y : Tally) → Bounded t → counts? t y ≡ true → y.failing ≤ 256
unfolding counts?
failing-most t y b e =
    let L : Bool = eqb y.lines t.lines in
    let B : Bool = eqb y.begun (length t.runs) in
    let F : Bool = eqb y.finished (finished_runs t.runs) in
    let R : Bool = eqb y.running (length t.runs - finished_runs t.runs) in
    let M : Bool = leb y.failing y.lines in
    let l : y.lines ≡ t.lines = eqb-true y.lines t.lines (and_left L _ e) in
    let m : y.failing ≤ y.lines = leb-true y.failing y.lines (and_right R M (and_right F _ (and_right B _ (and_right L _ e)))) in
    omega (arith, l, m, b.lines)

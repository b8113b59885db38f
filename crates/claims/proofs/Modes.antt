-- What is read in each mode, and that what is answered is that of the part that is read.
use Prim.Native.Nat.{ℕ, suc, ◌+◌, ◌<◌, ◌≤◌}
use mathlib.Core.Path.{◌≡◌, refl, ap, sym, ◌∙◌, subst}
use mathlib.Core.List.{List, [], ◌∷◌, ◌++◌, append_assoc}
use native.Mathlib.Omega.{arith}
use native.Mathlib.Numerals.{add-one}
use lib.ListN.{length, get_or, take, drop, length-append, take-append-drop}
use lib.Seq.{take-append_seam, take-append-le, take_all, length-take-le}
use Rattle.lists.proofs.Cases.{either_lt}
use Rattle.lists.proofs.Lists.{append-nil}
use Rattle.lines.specs.Log.{lines_of, flat}
use Rattle.trace.specs.Trace.{Trace, next, no_trace, read, steps, Accepted}
use Rattle.trace.proofs.Grown.{no_bytes, flat_lines}
use Rattle.rules.specs.declared.Rule.{Rule}
use Rattle.std.specs.Prelude.{Ok}
use Rattle.rules.specs.Rules.{rule_of, formula_of}
use Rattle.rules.proofs.Rules.{rule_taken}
use Rattle.logic.specs.declared.Verdict.TheVariants as Verdict
use Rattle.logic.specs.Verdict.{verdict_byte, verdict_of, Says}
use Rattle.reading.specs.declared.LogRead.{LogRead}
use Rattle.reading.specs.declared.Ending.{Ending}
use Rattle.reading.specs.Reading.{read_from, read_answer}
use Rattle.reading.proofs.Lines.{lines_accepted, taken_lines}
use Rattle.single.proofs.LineMeans.{verdict_says}
use Rattle.whole_log.specs.declared.Mode.{Mode}
use Rattle.whole_log.specs.declared.Mode.TheVariants.{FirstFailure, Full}
use Rattle.whole_log.specs.Log.{log_of, LogMeans}
use Rattle.whole_log.specs.Part.{read_part, EndsFailing, ToFailure, shortest, all, PartOf}
use Rattle.whole_log.proofs.Lines.{from_read}
use Rattle.whole_log.proofs.WholeLog.{stopped-behind, lines_within, first_taken, taken_low}
use Rattle.whole_log.proofs.Part.{either_verdict, flat_append, flat-front, part_full, part_of_lem, same_front, one_part}
use Rattle.whole_log.proofs.Cut.{part_cut}
use Rattle.timeline.proofs.AllLines.{lines_of_lem}
use Rattle.report.specs.declared.Reported.TheVariants as Reported
use Rattle.report.specs.Text.{line_text}
use Rattle.report.specs.Report.{Result, report_of}
use Rattle.report.specs.Calls.{LogCall, log_part, ReportCall, report_part}
use Rattle.report.proofs.Cut.{first_bytes_decide_part_report}
use Rattle.claims.proofs.LinesRead.{reads}
use Rattle.claims.specs.Modes.{SameLent, SameLeft, SameLentReport, SameLeftReport, Taking, EndsReport, Modes}

-- ── the same part, the same answer ──
abbrev Whole : Type 0
Whole = LogRead × List ℕ × List ℕ

same_part : (j k : LogCall) → SameLent j k → log_part j ≡ log_part k → SameLeft j k
same_part j k s p =
    let e : ◌≡◌ {A = Whole} (j.answer, j.work', j.verdicts') (k.answer, k.work', k.verdicts') =
    j.checks.checks.answer ∙ ((λ i. log_of (s.layout i) (s.file i) (p i) (s.work i) (s.verdicts i)) ∙ sym k.checks.checks.answer) in
    record { answer = ap (λ (z : Whole). z.0) e; work = ap (λ (z : Whole). z.1) e; verdicts = ap (λ (z : Whole). z.2) e }

same_part_report : (j k : ReportCall) → SameLentReport j k → report_part j ≡ report_part k → SameLeftReport j k
same_part_report j k s p =
    let e : ◌≡◌ {A = Result} (j.answer, j.work', j.verdicts', j.text') (k.answer, k.work', k.verdicts', k.text') =
    j.reports.reports.answer ∙ ((λ i. report_of (s.layout i) (s.file i) (p i) (s.work i) (s.verdicts i) (s.text i)) ∙ sym k.reports.reports.answer) in
    record {
      answer = ap (λ (z : Result). z.0) e;
      work = ap (λ (z : Result). z.1) e;
      verdicts = ap (λ (z : Result). z.2) e;
      text = ap (λ (z : Result). z.3) e;
    }

-- in the full mode all is read
full_part : (mode : Mode) (file log : List ℕ) → mode ≡ Full → read_part mode file log ≡ log
full_part mode file log e = ap (λ (m : Mode). read_part m file log) e ∙ part_full file log

-- ── nothing behind a failing line is read ──
module _ (file : List ℕ) (x : Rule) where
  -- a front of a front
  front_of : (p q r s : List ℕ) → p ++ r ≡ q ++ s → length q ≤ length p → (m : List ℕ) × (p ≡ q ++ m)
  front_of p q r s e h =
      let t : take (length q) p ≡ q =
      sym (take-append-le (length q) p r h) ∙ (ap (take (length q)) e ∙ take-append_seam q s) in
      (drop (length q) p, sym (take-append-drop (length q) p) ∙ ap (λ (l : List ℕ). l ++ drop (length q) p) t)

  ends_with : (p q r : List ℕ) (log : List ℕ) → log ≡ p ++ r → (m : List ℕ) → p ≡ q ++ m → (l : List ℕ) → EndsFailing file x l q → EndsFailing file x log q
  ends_with p q r log d m e l f =
      record {
        rest = m ++ r;
        divides = d ∙ (ap (λ (b : List ℕ). b ++ r) e ∙ append_assoc q m r);
        some_line = f.some_line;
        trace = f.trace;
        accepted = f.accepted;
        fails = f.fails;
      }

  -- two logs with a front that ends failing have one part
  behind_part : (log other p r : List ℕ) → EndsFailing file x log p → other ≡ p ++ r → (part : List ℕ) → ToFailure file x log part → ToFailure file x other part
  behind_part log other p r f d part (all e none) = absurd (none p f)
  behind_part log other p r f d part (shortest g least) =
      let m = front_of p part f.rest g.rest (sym f.divides ∙ g.divides) (least p f) in
      shortest (ends_with p part r other d m.0 m.1 log g)
      (λ q h.
      either_lt (length q) (length part)
      (λ l.
      let n = front_of p q r h.rest (sym d ∙ h.divides) (omega (arith, least p f)) in
      absurd (omega (arith, least q (ends_with p q f.rest log f.divides n.0 n.1 other h))))
      (λ l. l))

  same_behind : rule_of file ≡ Ok x → (log other p r : List ℕ) → EndsFailing file x log p → other ≡ p ++ r
      → read_part FirstFailure file other ≡ read_part FirstFailure file log
  same_behind rule log other p r f d =
      one_part FirstFailure file x other _ _ (part_of_lem file x rule FirstFailure other) (behind_part log other p r f d _ (part_of_lem file x rule FirstFailure log))

-- ── the lines of the part ──
module _ (k : LogCall) (x : Rule) (taking : Taking k x) (mode : k.mode ≡ FirstFailure) where
  abbrev part : List ℕ
  part = log_part k

  abbrev ls : List (List ℕ)
  ls = lines_of part

  to_failure_lem : ToFailure k.file x k.log part
  to_failure_lem = subst (λ (m : Mode). PartOf m k.file x k.log part) mode (part_of_lem k.file x taking.rule k.mode k.log)

  means : LogMeans k.layout k.file x part k.work k.verdicts k.answer k.work' k.verdicts'
  means = k.checks.checks.meaning x taking.rule taking.work taking.verdicts

  -- what is answered is what is read of the part
  got : k.answer ≡ read_answer (read_from no_trace ls)
  got =
      ap (λ (z : Whole). z.0) (k.checks.checks.answer ∙ reads k.layout k.file x taking.rule part k.work k.verdicts (record { work = taking.work; verdicts = taking.verdicts }))
      ∙ ap (λ (z : LogRead × List ℕ). z.0) (from_read k.layout k.file x k.work ls no_trace k.verdicts)

  -- an accepted part is not refused
  accepted_read : (t : Trace) → Accepted part t → k.answer.ending ≡ Ending.Read
  unfolding read
  accepted_read t a = go k.answer.ending refl
    where
      go : (e : Ending) → k.answer.ending ≡ e → k.answer.ending ≡ Ending.Read
      go Ending.Read e = e
      go (Ending.Refused c n) e =
          let s = means.stops c n e in
          let f = s.first in
          let long : length ls ≡ length (lines_of f.before) + suc (length f.after) = ap length f.lines ∙ length-append (lines_of f.before) (f.line ∷ f.after) in
          stopped-behind (lines_of f.before) f.line f.after no_trace f.trace s.why.0 f.accepted.leaves s.why.1.0 (length ls) t (omega arith)
          (ap (λ (ms : List (List ℕ)). steps (next no_trace) (take (length ls) ms)) (sym f.lines) ∙ (ap (steps (next no_trace)) (take_all (length ls) ls (omega arith)) ∙ a.leaves))

  not_refused : (p : List ℕ) → EndsFailing k.file x k.log p → k.answer.ending ≡ Ending.Read
  not_refused p f = go to_failure_lem
    where
      go : ToFailure k.file x k.log part → k.answer.ending ≡ Ending.Read
      go (shortest g least) = accepted_read g.trace g.accepted
      go (all e none) = absurd (none p f)

  -- the first lines of the part, where the rule fails with them
  module _ (n : ℕ) (h : n < k.answer.state.lines.0) (u : Trace) (e : steps (next no_trace) (take (suc n) ls) ≡ next u) (fails : verdict_of u (formula_of k.file x) ≡ Verdict.Fails) where
    abbrev front : List ℕ
    front = flat (take (suc n) ls)

    more : n < length ls
    more = omega (arith, lines_within part k.answer got)

    count : length (lines_of front) ≡ suc n
    count = ap length (taken_lines (take (suc n) ls) no_trace u e) ∙ length-take-le (suc n) ls (omega (arith, more))

    front-fails : (rest : List ℕ) → k.log ≡ part ++ rest → EndsFailing k.file x k.log front
    front-fails rest d =
        record {
          rest = flat (drop (suc n) ls) ++ rest;
          divides = d ∙ (ap (λ (b : List ℕ). b ++ rest) (sym (flat_lines part) ∙ (ap flat (sym (take-append-drop (suc n) ls)) ∙ flat_append (take (suc n) ls) (drop (suc n) ls))) ∙ append_assoc front (flat (drop (suc n) ls)) rest);
          some_line = λ z. omega (arith, count, ap (λ (b : List ℕ). length (lines_of b)) z);
          trace = u;
          accepted = lines_accepted (take (suc n) ls) [] no_trace no_bytes u e;
          fails = subst (Says u (formula_of k.file x)) fails (verdict_says k.file x (rule_taken k.file x taking.rule) u);
        }

    none_before_lem : n + 1 < k.answer.state.lines.0 → ⊥
    none_before_lem below = go to_failure_lem
      where
        go : ToFailure k.file x k.log part → ⊥
        go (all d none) = none front (front-fails [] (sym d ∙ sym (append-nil part)))
        go (shortest g least) =
            let f = front-fails g.rest g.divides in
            let l : length front ≡ length part = omega (arith, least front f, flat-front (suc n) ls, ap length (flat_lines part)) in
            let same : front ≡ part = same_front k.log front part f.rest g.rest f.divides g.divides l in
            omega (arith, count, lines_within part k.answer got, ap (λ (b : List ℕ). length (lines_of b)) same)

  line_holds : (n : ℕ) → n + 1 < k.answer.state.lines.0 → get_or k.verdicts' n 0 ≡ 1
  line_holds n h =
      let f = first_taken part k.answer got (suc n) (omega arith) in
      let b = (means.verdicts n f.0 (omega (arith, lines_within part k.answer got)) f.1).byte in
      either_verdict (verdict_of f.0 (formula_of k.file x))
      (λ v. b ∙ ap verdict_byte v)
      (λ v. absurd (none_before_lem n (omega arith) f.0 f.1 v h))

  -- where no line fails
  each_holds : ((p : List ℕ) → EndsFailing k.file x k.log p → ⊥) → (n : ℕ) → n < k.answer.state.lines.0 → get_or k.verdicts' n 0 ≡ 1
  each_holds none n h =
      let f = first_taken part k.answer got (suc n) (omega arith) in
      let b = (means.verdicts n f.0 (omega (arith, lines_within part k.answer got)) f.1).byte in
      either_verdict (verdict_of f.0 (formula_of k.file x))
      (λ v. b ∙ ap verdict_byte v)
      (λ v. go n h f.0 f.1 v to_failure_lem)
    where
      go : (n : ℕ) → n < k.answer.state.lines.0 → (u : Trace) → steps (next no_trace) (take (suc n) ls) ≡ next u → verdict_of u (formula_of k.file x) ≡ Verdict.Fails
          → ToFailure k.file x k.log part → get_or k.verdicts' n 0 ≡ 1
      go n h u e v (shortest g least) = absurd (none part g)
      go n h u e v (all d nothing) = absurd (none (front n h u e v) (front-fails n h u e v [] (sym d ∙ sym (append-nil part))))

  line_fails : (p : List ℕ) → EndsFailing k.file x k.log p → (n : ℕ) → n + 1 ≡ k.answer.state.lines.0 → get_or k.verdicts' n 0 ≡ 0
  unfolding read
  line_fails p f n h = go to_failure_lem
    where
      go : ToFailure k.file x k.log part → get_or k.verdicts' n 0 ≡ 0
      go (all e none) = absurd (none p f)
      go (shortest g least) =
          let low = taken_low part k.answer got (length ls) g.trace (omega arith) (ap (steps (next no_trace)) (take_all (length ls) ls (omega arith)) ∙ g.accepted.leaves) in
          let full : suc n ≡ length ls = omega (arith, low, lines_within part k.answer got) in
          let e : steps (next no_trace) (take (suc n) ls) ≡ next g.trace =
          ap (steps (next no_trace)) (take_all (suc n) ls (omega arith)) ∙ g.accepted.leaves in
          (means.verdicts n g.trace (omega arith) e).byte ∙ ap verdict_byte (sym g.fails.answer)

-- ── the report of a log with a failing line ──
report-ends : (k : ReportCall) (n : ℕ) (x : Rule) → k.answer ≡ Reported.Length n → rule_of k.file ≡ Ok x → k.mode ≡ FirstFailure → (p : List ℕ)
    → EndsFailing k.file x k.log p → EndsReport k x n
unfolding read
report-ends k n x a rule mode p f = go (subst (λ (m : Mode). PartOf m k.file x k.log part) mode (k.reports.part x rule))
  where
    part : List ℕ
    part = report_part k

    go : ToFailure k.file x k.log part → EndsReport k x n
    go (all e none) = absurd (none p f)
    go (shortest g least) =
        let m = k.reports.reports.meaning n x a rule in
        let text : List (List ℕ) = lines_of (take n k.text') in
        let c : g.trace.lines ≡ length (lines_of part) = lines_of_lem part g.trace g.accepted in
        record {
          trace = g.trace;
          accepted = g.accepted;
          last = λ i q.
              let e : steps (next no_trace) (take (suc i) (lines_of part)) ≡ next g.trace =
              ap (steps (next no_trace)) (take_all (suc i) (lines_of part) (omega (arith, c))) ∙ g.accepted.leaves in
              let l = m.lines i g.trace (omega (arith, c)) e in
              let v : l.verdict ≡ Verdict.Fails = l.says.answer ∙ sym g.fails.answer in
              l.text ∙ (ap (line_text (suc i)) v ∙ ap (λ (j : ℕ). line_text j Verdict.Fails) (sym (add-one i)));
          rest = ap (λ (j : ℕ). drop j text) c ∙ m.whole g.trace g.accepted;
        }

by_default : (mode : Mode) (file log : List ℕ) → mode ≡ FirstFailure → read_part mode file log ≡ read_part FirstFailure file log
by_default mode file log e = ap (λ (m : Mode). read_part m file log) e

pub the_modes : Modes
the_modes =
    record {
      reads = λ mode file x log e. part_of_lem file x e mode log;
      part = λ k. k.checks.part;
      report-part = λ k. k.reports.part;
      one = one_part;
      cut = λ j k s e l. same_part j k s (full_part j.mode j.file j.log e ∙ l);
      cut-report = λ j k s e l. same_part_report j k s (full_part j.mode j.file j.log e ∙ l);
      no_refusal = λ k x t m p f. not_refused k x t m p f;
      no_refusal-report = λ k n x a e m p f. report-ends k n x a e m p f;
      behind = λ j k x rule s m o p r f d.
          same_part j k s
          (by_default j.mode j.file j.log m
          ∙ (ap (λ (a : List ℕ). read_part FirstFailure a j.log) s.file
          ∙ (same_behind k.file x rule k.log j.log p r f d ∙ sym (by_default k.mode k.file k.log o))));
      behind-report = λ j k x rule s m o p r f d.
          same_part_report j k s
          (by_default j.mode j.file j.log m
          ∙ (ap (λ (a : List ℕ). read_part FirstFailure a j.log) s.file
          ∙ (same_behind k.file x rule k.log j.log p r f d ∙ sym (by_default k.mode k.file k.log o))));
      all_hold = λ k x t m none n h. each_holds k x t m none n h;
      holds = λ k x t m n h. line_holds k x t m n h;
      fails = λ k x t m p f n h. line_fails k x t m p f n h;
      first_bytes = part_cut;
      first_bytes_report = first_bytes_decide_part_report;
    }

-- Labels in another case change no answer: lines that say the same, and rule files with one formula, are judged alike.
use Prim.Native.Nat.{ℕ, zero, suc, ◌+◌, ◌*◌}
use mathlib.Core.Path.{◌≡◌, refl, ap, ap₂, sym, subst, ◌∙◌}
use mathlib.Core.Bool.{Bool, true, false, cond, ◌||◌}
use mathlib.Core.List.{List, [], ◌∷◌, ◌++◌, map}
use mathlib.Core.Option.{Option, none, some}
use lib.Dec.{eqb, ltb}
use lib.ListN.{length, get_or, set, drop, replicate}
use Rattle.lists.specs.Lists.{none?}
use Rattle.lists.specs.Limits.{max_lines}
use Rattle.lists.specs.Tells.{Tells}
use Rattle.lists.proofs.Cases.{never}
use Rattle.lines.specs.Event.{Event}
use Rattle.lines.specs.Line.{event_of}
use Rattle.lines.specs.Log.{lines_of}
use Rattle.trace.specs.declared.Record.{Record}
use Rattle.trace.specs.Trace.{Trace, Answer, next, refused, no_trace, step, apply_to}
use Rattle.trace.specs.Record.{record_of, Valid}
use Rattle.pairs.specs.declared.Layout.{Layout}
use Rattle.pairs.specs.Layout.{work_size}
use Rattle.pairs.specs.Pairs.{work_of}
use Rattle.rules.specs.declared.Rule.{Rule}
use Rattle.std.specs.Prelude.{Result, Ok, Err}
use Rattle.refusals.specs.Refusal.{number, RefusedWith}
use Rattle.refusals.specs.declared.Refusal.{Refusal}
use Rattle.refusals.proofs.Numbers.{number-injective}
use Rattle.rules.specs.Limits.{max_file_bytes}
use Rattle.rules.specs.Formula.{Formula}
use Rattle.rules.specs.Rules.{rule_of, formula_of}
use Rattle.grammar.specs.Layout.{front, labels_part}
use Rattle.grammar.specs.MetRule.{MetRule}
use Rattle.grammar.specs.Stands.{RuleFile}
use Rattle.grammar.proofs.RuleMet.{rule_met}
use Rattle.grammar.proofs.Stands.{rule_says, rule_file-taken}
use Rattle.logic.specs.declared.Verdict.{Verdict}
use Rattle.logic.specs.Verdict.{verdict_byte, verdict_of}
use Rattle.tallies.specs.declared.Tally.{Tally}
use Rattle.tallies.specs.declared.Tallied.{Tallied}
use Rattle.tallies.specs.Tally.{counts?, failed, tally_of, refusing_with, tallied_after, tallied_state, tallied_of}
use Rattle.report.specs.declared.Reported.TheVariants as Reported
use Rattle.report.specs.Report.{Result as Made, report_size, report_of}
use Rattle.report.specs.Calls.{LineCall, TalliedCall, LogCall, log_part, ReportCall, report_part}
use Rattle.report.specs.Text.{line_text, text_from, report_text}
use Rattle.reading.specs.declared.LogRead.{LogRead}
use Rattle.reading.specs.Reading.{by_answer}
use Rattle.single.specs.declared.Checked.{Checked}
use Rattle.single.specs.Handed.{HandedBy, Reached}
use Rattle.single.specs.Line.{judged, refusing, line_after, state_of, with_rule, line_of}
use Rattle.whole_log.specs.declared.Mode.{Mode}
use Rattle.whole_log.specs.declared.Mode.TheVariants.{FirstFailure, Full}
use Rattle.whole_log.specs.Log.{not_read, lines_from, log_of}
use Rattle.whole_log.specs.Part.{behind, to_failure, lines_read, read_part}
use Rattle.whole_log.proofs.Part.{lines_of_part}
use Rattle.atoms.specs.Tree.{Tree, size}
use Rattle.atoms.specs.Emit.{emit}
use Rattle.typed.specs.Grammar.{read_text}
use Rattle.typed_formula.specs.Meaning.{formula_for}
use Rattle.typed_grammar.specs.File.{place_in, labels_of}
use Rattle.typed_grammar.specs.Text.{rule_text}
use Rattle.typed_checks.specs.Said.{judged as judged_as}
use Rattle.typed_file.specs.File.{nodes_bytes, file_from, file_of}
use Rattle.typed_file.specs.Answer.{or_refused, answer_of, bytes_of, typed_answer}
use Rattle.output.specs.declared.Written.TheVariants as Written
use Rattle.output.specs.Written.{left_by}
use Rattle.rule_text.specs.Text as Text
use Rattle.rule_text.specs.Text.{text_room, text_answer}
use Rattle.slip_form.specs.declared.Slip.{Slip}
use Rattle.slip_form.specs.Form.{SlipForm}
use Rattle.slip_form.specs.Slips.{slip_runs}
use Rattle.slips.specs.Answers.{Finding, Passing, FindsIn, ReadsIn, SlipCall, FindsFirst, ReadsSlip}
use Rattle.letter_case.specs.Recased.{RecasedLog, RecasedRule, RecasedText}
use Rattle.letter_case.proofs.Lines.{lines_recased, line_recased}
use Rattle.letter_case.proofs.Rules.{rule_recased, formula_recased, recased_back}
use Rattle.letter_case.proofs.Texts.{text_recased, label_recased, formula_text_recased}
use Rattle.claims.specs.Typed.{ReadCall, WriteCall}
use Rattle.claims.specs.Modes.{SameLeft, SameLeftReport}
use Rattle.claims.specs.LetterCase.{RecasedLine, RecasedTallied, RecasedCall, RecasedReport, NoDifference}
use Rattle.claims.proofs.Fronts.{handed}

-- ── lines that say the same ──
abbrev Alike : List (List ℕ) → List (List ℕ) → Type 0
Alike [] [] = Unit {0}
Alike [] (m ∷ ms) = ⊥
Alike (l ∷ ls) [] = ⊥
Alike (l ∷ ls) (m ∷ ms) = (event_of l ≡ event_of m) × Alike ls ms

alike : (ls ms : List (List ℕ)) → map event_of ls ≡ map event_of ms → Alike ls ms
alike [] [] e = tt
alike [] (m ∷ ms) e = never (ap (λ (x : List Event). cond (none? x) 0 1) e)
alike (l ∷ ls) [] e = never (ap (λ (x : List Event). cond (none? x) 0 1) (sym e))
alike (l ∷ ls) (m ∷ ms) e = (cc, alike ls ms (cc))

-- a line is judged by what it says
step-alike : (t : Trace) (l m : List ℕ) → event_of l ≡ event_of m → step (next t) l ≡ step (next t) m
unfolding step
step-alike t l m e = ap (apply_to (next t)) e

-- ── one rule, in two files ──
-- an answer followed by what is the same after each trace
by_answer_lem : {A : Type 0} (a b : Answer) (f g : Trace → A) (r : ℕ → A) → a ≡ b → ((u : Trace) → f u ≡ g u) → by_answer a f r ≡ by_answer b g r
unfolding by_answer
by_answer_lem {A} a b f g r e h = go a ∙ ap (λ (z : Answer). by_answer z g r) e
  where
    go : (z : Answer) → by_answer z f r ≡ by_answer z g r
    go (next u) = h u
    go (refused c) = refl

-- what a file says of a line depends on its formula only
module _ (file file' : List ℕ) (x : Rule) (f : formula_of file x ≡ formula_of file' x) where
  verdict_same : (u : Trace) → verdict_of u (formula_of file x) ≡ verdict_of u (formula_of file' x)
  verdict_same u = ap (verdict_of u) f

  lines_alike : (lay : Layout) (w : List ℕ) (ls ms : List (List ℕ)) → Alike ls ms → (t : Trace) (out : List ℕ) → lines_from lay file x t ls w out ≡ lines_from lay file' x t ms w out
  unfolding lines_from
  lines_alike lay w [] [] a t out = refl
  lines_alike lay w [] (m ∷ ms) a t out = absurd a
  lines_alike lay w (l ∷ ls) [] a t out = absurd a
  lines_alike lay w (l ∷ ls) (m ∷ ms) a t out =
      by_answer_lem (step (next t) l) (step (next t) m) _ _ _ (step-alike t l m a.0)
      (λ u. lines_alike lay w ls ms a.1 u _ ∙ ap (λ (v : Verdict). lines_from lay file' x u ms w (set out t.lines (verdict_byte v))) (verdict_same u))

  -- the lines through the first that fails
  behind-alike : (v : Verdict) (ls ms : List (List ℕ)) → Alike ls ms → Alike (behind v ls) (behind v ms)
  behind-alike Verdict.Holds ls ms a = a
  behind-alike Verdict.Fails ls ms a = tt

  rest_alike : (ls ms : List (List ℕ)) → Alike ls ms → ((u : Trace) → Alike (to_failure file x u ls) (to_failure file' x u ms)) → (b : Answer)
      → Alike (by_answer b (λ u. behind (verdict_of u (formula_of file x)) (to_failure file x u ls)) (λ c. ls)) (by_answer b (λ u. behind (verdict_of u (formula_of file' x)) (to_failure file' x u ms)) (λ c. ms))
  unfolding by_answer
  rest_alike ls ms a h (next u) =
      subst (λ (v : Verdict). Alike (behind (verdict_of u (formula_of file x)) (to_failure file x u ls)) (behind v (to_failure file' x u ms))) (verdict_same u)
      (behind-alike (verdict_of u (formula_of file x)) _ _ (h u))
  rest_alike ls ms a h (refused c) = a

  failure_alike : (ls ms : List (List ℕ)) → Alike ls ms → (t : Trace) → Alike (to_failure file x t ls) (to_failure file' x t ms)
  unfolding to_failure
  failure_alike [] [] a t = tt
  failure_alike [] (m ∷ ms) a t = absurd a
  failure_alike (l ∷ ls) [] a t = absurd a
  failure_alike (l ∷ ls) (m ∷ ms) a t = (
    a.0,
    subst (λ (b : Answer). Alike (by_answer (step (next t) l) (λ u. behind (verdict_of u (formula_of file x)) (to_failure file x u ls)) (λ c. ls)) (by_answer b (λ u. behind (verdict_of u (formula_of file' x)) (to_failure file' x u ms)) (λ c. ms)))
        (step-alike t l m a.0) (rest_alike ls ms a.1 (λ u. failure_alike ls ms a.1 u) (step (next t) l)),
  )

  text_alike : (ls ms : List (List ℕ)) → Alike ls ms → (t : Trace) (n : ℕ) → text_from file x t n ls ≡ text_from file' x t n ms
  unfolding text_from
  text_alike [] [] a t n = refl
  text_alike [] (m ∷ ms) a t n = absurd a
  text_alike (l ∷ ls) [] a t n = absurd a
  text_alike (l ∷ ls) (m ∷ ms) a t n =
      by_answer_lem (step (next t) l) (step (next t) m) _ _ _ (step-alike t l m a.0)
      (λ u.
      ap (λ (z : List ℕ). line_text u.lines (verdict_of u (formula_of file x)) ++ z) (text_alike ls ms a.1 u (n + failed (verdict_of u (formula_of file x))))
      ∙ ap (λ (v : Verdict). line_text u.lines v ++ text_from file' x u (n + failed v) ms) (verdict_same u))

-- ── rule files in another case ──
with_rule_lem : {A : Type 0} (q r : Result Rule Refusal) (f : ℕ → A) (g h : Rule → A) → q ≡ r → ((x : Rule) → q ≡ Ok x → g x ≡ h x) → with_rule q f g ≡ with_rule r f h
unfolding with_rule
with_rule_lem {A} q r f g h e s = go q s ∙ ap (λ (z : Result Rule Refusal). with_rule z f h) e
  where
    go : (z : Result Rule Refusal) → ((x : Rule) → z ≡ Ok x → g x ≡ h x) → with_rule z f g ≡ with_rule z f h
    go (Ok x) k = k x refl
    go (Err n) k = refl

module _ (file file' : List ℕ) (p : RecasedRule file file') where
  rule_same : rule_of file ≡ rule_of file'
  rule_same = rule_recased file file' p

  formula_same : (x : Rule) → rule_of file ≡ Ok x → formula_of file x ≡ formula_of file' x
  formula_same = formula_recased file file' p

  met_same : (c : ℕ) → MetRule file c → MetRule file' c
  met_same c m =
      let w = (rule_met file c).1 m in
      (rule_met file' c).0 (w.0, (sym rule_same ∙ w.1.0, w.1.1))

  file_same : (f : Formula) → RuleFile file f → RuleFile file' f
  file_same f r =
      let v = rule_file-taken file f r in
      subst (RuleFile file') (sym (formula_same v.0 v.1) ∙ v.2) (rule_says file' v.0 (sym rule_same ∙ v.1))

  -- ── a whole log ──
  module _ (log log' : List ℕ) (lines : (x : Rule) → rule_of file ≡ Ok x → Alike (lines_of log) (lines_of log')) where
    log_alike : (lay : Layout) (w out : List ℕ) → log_of lay file log w out ≡ log_of lay file' log' w out
    unfolding log_of
    log_alike lay w out =
        ap (cond (ltb (length w) (work_size lay) || ltb (length out) max_lines) (not_read 20, w, out))
        (with_rule_lem (rule_of file) (rule_of file') _ _ _ rule_same (λ x e. lines_alike file file' x (formula_same x e) lay w (lines_of log) (lines_of log') (lines x e) no_trace out))

    text_same : report_text file log ≡ report_text file' log'
    unfolding report_text
    text_same = with_rule_lem (rule_of file) (rule_of file') _ _ _ rule_same (λ x e. text_alike file file' x (formula_same x e) (lines_of log) (lines_of log') (lines x e) no_trace 0)

    report-alike : (lay : Layout) (w out text : List ℕ) → report_of lay file log w out text ≡ report_of lay file' log' w out text
    unfolding report_of
    report-alike lay w out text =
        let s = text_same in
        let l = log_alike lay w out in
        λ i. cond (ltb (length w) (work_size lay) || (ltb (length out) max_lines || ltb (length text) report_size)) (Reported.Refused 20, w, out, text)
        (Reported.Length (length (s i)), (l i).1, (l i).2, s i ++ drop (length (s i)) text)

  -- the part that is read
  part_alike : (mode : Mode) (log log' : List ℕ) → RecasedLog log log' → (x : Rule) → rule_of file ≡ Ok x → Alike (lines_of (read_part mode file log)) (lines_of (read_part mode file' log'))
  unfolding lines_read
  part_alike mode log log' q x e =
      subst (λ (ls : List (List ℕ)). Alike ls (lines_of (read_part mode file' log'))) (lines_of_part file x e mode log)
      (subst (Alike (lines_read mode file x (lines_of log))) (lines_of_part file' x (sym rule_same ∙ e) mode log') (go mode))
    where
      all : Alike (lines_of log) (lines_of log')
      all = alike (lines_of log) (lines_of log') (lines_recased log log' q)

      go : (m : Mode) → Alike (lines_read m file x (lines_of log)) (lines_read m file' x (lines_of log'))
      go Full = all
      go FirstFailure = failure_alike file file' x (formula_same x e) (lines_of log) (lines_of log') all no_trace

  -- ── one line ──
  module _ (line line' : List ℕ) (q : RecasedLog line line') where
    steps_same : (t : Trace) → step (next t) line ≡ step (next t) line'
    steps_same t = step-alike t line line' (line_recased line line' q)

    line_alike : (lay : Layout) (r : Record) (w : List ℕ) (h : Option Trace) → line_of lay file r w line h ≡ line_of lay file' r w line' h
    unfolding line_of state_of line_after
    line_alike lay r w h =
        ap (cond (ltb (length w) (work_size lay)) (refusing r 20, w))
        (with_rule_lem (rule_of file) (rule_of file') _ _ _ rule_same (λ x e. by_state x (formula_same x e) h))
      where
        by : (x : Rule) → formula_of file x ≡ formula_of file' x → (t : Trace) (a : Answer) → line_after lay file x t w a ≡ line_after lay file' x t w a
        by x f t (next u) = ap (λ (g : Formula). (record { state = record_of u; outcome = judged (verdict_of u g) }, work_of lay u w)) f
        by x f t (refused c) = refl

        by_state : (x : Rule) → formula_of file x ≡ formula_of file' x → (h : Option Trace) → state_of lay file x r w line h ≡ state_of lay file' x r w line' h
        by_state x f (some t) = by x f t (step (next t) line) ∙ ap (line_after lay file' x t w) (steps_same t)
        by_state x f none = refl

    tallied-alike : (lay : Layout) (r : Record) (y : Tally) (w : List ℕ) (h : Option Trace) → tallied_of lay file r y w line h ≡ tallied_of lay file' r y w line' h
    unfolding tallied_of tallied_state tallied_after
    tallied-alike lay r y w h =
        ap (cond (ltb (length w) (work_size lay)) (refusing_with r y 20, w))
        (with_rule_lem (rule_of file) (rule_of file') _ _ _ rule_same (λ x e. by_state x (formula_same x e) h))
      where
        by : (x : Rule) → formula_of file x ≡ formula_of file' x → (t : Trace) (a : Answer) → tallied_after lay file x t y w a ≡ tallied_after lay file' x t y w a
        by x f t (next u) =
            ap (λ (g : Formula). (record { state = record_of u; tally = tally_of u (y.failing + failed (verdict_of u g)); outcome = judged (verdict_of u g) }, work_of lay u w)) f
        by x f t (refused c) = refl

        by_state : (x : Rule) → formula_of file x ≡ formula_of file' x → (h : Option Trace) → tallied_state lay file x r y w line h ≡ tallied_state lay file' x r y w line' h
        by_state x f (some t) =
            ap (λ (z : Tallied × List ℕ). cond (counts? t y) z (refusing_with (record_of t) y 24, w)) (by x f t (step (next t) line) ∙ ap (tallied_after lay file' x t y w) (steps_same t))
        by_state x f none = refl

  reached : (lay : Layout) (w : List ℕ) → Reached lay file' w → Reached lay file w
  reached lay w q = record { long = q.long; rule = q.rule; taken = rule_same ∙ q.taken }

-- ── the calls ──
-- what one call is handed, the other is
handed_too : (lay lay' : Layout) (r r' : Record) (w w' : List ℕ) (h : Option Trace) → lay ≡ lay' → r ≡ r' → w ≡ w' → HandedBy lay r w h → HandedBy lay' r' w' h
handed_too lay lay' r r' w w' h a b c p =
    subst (λ (z : List ℕ). HandedBy lay' r' z h) c (subst (λ (z : Record). HandedBy lay' z w h) b (subst (λ (z : Layout). HandedBy z r w h) a p))

line_case : (j k : LineCall) → RecasedLine j k → (j.answer ≡ k.answer) × (j.work' ≡ k.work')
line_case j k p =
    let g = handed j.layout j.file j.state j.work j.checks.decided in
    let h = g.0 in
    let other : Reached k.layout k.file k.work → HandedBy k.layout k.state k.work h = λ q.
    handed_too j.layout k.layout j.state k.state j.work k.work h p.layout p.state p.work
    (g.1 (reached j.file k.file p.file j.layout j.work
    (subst (λ (z : List ℕ). Reached j.layout k.file z) (sym p.work) (subst (λ (z : Layout). Reached z k.file k.work) (sym p.layout) q)))) in
    let e : ◌≡◌ {A = Checked × List ℕ} (j.answer, j.work') (k.answer, k.work') =
    j.checks.answer h g.1
    ∙ ((λ i. line_of (p.layout i) j.file (p.state i) (p.work i) j.line h)
    ∙ (line_alike j.file k.file p.file j.line k.line p.line k.layout k.state k.work h ∙ sym (k.checks.answer h other))) in
    (ap (λ (z : Checked × List ℕ). z.0) e, ap (λ (z : Checked × List ℕ). z.1) e)

tallied_case : (j k : TalliedCall) → RecasedTallied j k → (j.answer ≡ k.answer) × (j.work' ≡ k.work')
tallied_case j k p =
    let g = handed j.layout j.file j.state j.work j.checks.decided in
    let h = g.0 in
    let other : Reached k.layout k.file k.work → HandedBy k.layout k.state k.work h = λ q.
    handed_too j.layout k.layout j.state k.state j.work k.work h p.layout p.state p.work
    (g.1 (reached j.file k.file p.file j.layout j.work
    (subst (λ (z : List ℕ). Reached j.layout k.file z) (sym p.work) (subst (λ (z : Layout). Reached z k.file k.work) (sym p.layout) q)))) in
    let e : ◌≡◌ {A = Tallied × List ℕ} (j.answer, j.work') (k.answer, k.work') =
    j.checks.answer h g.1
    ∙ ((λ i. tallied_of (p.layout i) j.file (p.state i) (p.tally i) (p.work i) j.line h)
    ∙ (tallied-alike j.file k.file p.file j.line k.line p.line k.layout k.state k.tally k.work h ∙ sym (k.checks.answer h other))) in
    (ap (λ (z : Tallied × List ℕ). z.0) e, ap (λ (z : Tallied × List ℕ). z.1) e)

log_case : (j k : LogCall) → RecasedCall j k → SameLeft j k
log_case j k p =
    let e : ◌≡◌ {A = LogRead × List ℕ × List ℕ} (j.answer, j.work', j.verdicts') (k.answer, k.work', k.verdicts') =
    j.checks.checks.answer
    ∙ ((λ i. log_of (p.layout i) j.file (read_part (p.mode i) j.file j.log) (p.work i) (p.verdicts i))
    ∙ (log_alike j.file k.file p.file (read_part k.mode j.file j.log) (log_part k) (part_alike j.file k.file p.file k.mode j.log k.log p.log) k.layout k.work k.verdicts
    ∙ sym k.checks.checks.answer)) in
    record {
      answer = ap (λ (z : LogRead × List ℕ × List ℕ). z.0) e;
      work = ap (λ (z : LogRead × List ℕ × List ℕ). z.1) e;
      verdicts = ap (λ (z : LogRead × List ℕ × List ℕ). z.2) e;
    }

report_case : (j k : ReportCall) → RecasedReport j k → SameLeftReport j k
report_case j k p =
    let e : ◌≡◌ {A = Made} (j.answer, j.work', j.verdicts', j.text') (k.answer, k.work', k.verdicts', k.text') =
    j.reports.reports.answer
    ∙ ((λ i. report_of (p.layout i) j.file (read_part (p.mode i) j.file j.log) (p.work i) (p.verdicts i) (p.text i))
    ∙ (report-alike j.file k.file p.file (read_part k.mode j.file j.log) (report_part k) (part_alike j.file k.file p.file k.mode j.log k.log p.log) k.layout k.work k.verdicts k.text
    ∙ sym k.reports.reports.answer)) in
    record {
      answer = ap (λ (z : Made). z.0) e;
      work = ap (λ (z : Made). z.1) e;
      verdicts = ap (λ (z : Made). z.2) e;
      text = ap (λ (z : Made). z.3) e;
    }

-- ── typed rules ──
module _ (text text' : List ℕ) (p : RecasedText text text') where
  nodes_same : (ls : List (List ℕ)) (tb : List ℕ) (n : ℕ) → nodes_bytes ls text tb n ≡ nodes_bytes ls text' tb n
  unfolding nodes_bytes
  nodes_same ls tb zero = refl
  nodes_same ls tb (suc n) =
      ap₂ ◌++◌ (nodes_same ls tb n)
      (ap (λ (l : List ℕ). get_or tb (3 * n) 0 ∷ get_or tb (3 * n + 1) 0 ∷ cond (eqb (get_or tb (3 * n) 0) 4) (place_in ls l) (get_or tb (3 * n + 2) 0) ∷ [])
      (label_recased text text' p (get_or tb (3 * n + 2) 0)))

  typed-file_same : (t : Tree) → file_of text t ≡ file_of text' t
  unfolding file_of file_from
  typed-file_same t =
      let tb : List ℕ = emit (replicate 192 0) 0 [] t in
      ap (λ (f : Formula). file_from text tb (size t) (labels_of f)) (formula_text_recased text text' p [] t)
      ∙ ap (λ (b : List ℕ). ((front (length (labels_of (formula_for text' [] t))) ++ labels_part (labels_of (formula_for text' [] t))) ++ (size t ∷ [])) ++ b) (nodes_same (labels_of (formula_for text' [] t)) tb (size t))

  answer_same : (o : Option Tree) → answer_of text o ≡ answer_of text' o
  answer_same none = refl
  answer_same (some t) = ap₂ (λ (f : Formula) (b : List ℕ). or_refused (judged_as (size t) f) (length b)) (formula_text_recased text text' p [] t) (typed-file_same t)

  bytes_same : (o : Option Tree) → bytes_of text o ≡ bytes_of text' o
  bytes_same none = refl
  bytes_same (some t) = typed-file_same t

  typed_same : (room : ℕ) → typed_answer text room ≡ typed_answer text' room
  unfolding typed_answer
  typed_same room = ap (cond (ltb room max_file_bytes) (Written.Refused 20)) (answer_same (read_text text) ∙ ap (answer_of text') (text_recased text text' p))

  left_same : bytes_of text (read_text text) ≡ bytes_of text' (read_text text')
  left_same = bytes_same (read_text text) ∙ ap (bytes_of text') (text_recased text text' p)

reading_case : (j k : ReadCall) → RecasedText j.text k.text → j.rule ≡ k.rule → (j.answer ≡ k.answer) × (j.rule' ≡ k.rule')
reading_case j k p e =
    let a : j.answer ≡ k.answer =
    j.reads.answer ∙ (ap (λ (w : List ℕ). typed_answer j.text (length w)) e ∙ (typed_same j.text k.text p (length k.rule) ∙ sym k.reads.answer)) in
    let l = left_same j.text k.text p in
    (a, j.reads.left ∙ ((λ i. left_by (a i) (l i) (e i)) ∙ sym k.reads.left))

-- ── the text of a rule file ──
module _ (file file' : List ℕ) (p : RecasedRule file file') where
  text_of_rule : (q : Result Rule Refusal) → rule_of file ≡ q → Text.bytes_of file q ≡ Text.bytes_of file' q
  text_of_rule (Ok x) e = ap rule_text (formula_same file file' p x e)
  text_of_rule (Err n) e = refl

  written_same : Text.bytes_of file (rule_of file) ≡ Text.bytes_of file' (rule_of file')
  written_same = text_of_rule (rule_of file) refl ∙ ap (Text.bytes_of file') (rule_same file file' p)

  answered : (q : Result Rule Refusal) → rule_of file ≡ q → Text.answer_of file q ≡ Text.answer_of file' q
  answered (Ok x) e = ap (λ (f : Formula). Written.Length (length (rule_text f))) (formula_same file file' p x e)
  answered (Err n) e = refl

  text_answer_same : (room : ℕ) → text_answer file room ≡ text_answer file' room
  unfolding text_answer
  text_answer_same room =
      ap (cond (ltb room text_room) (Written.Refused 20)) (answered (rule_of file) refl ∙ ap (Text.answer_of file') (rule_same file file' p))

writing_case : (j k : WriteCall) → RecasedRule j.file k.file → j.text ≡ k.text → (j.answer ≡ k.answer) × (j.text' ≡ k.text')
writing_case j k p e =
    let a : j.answer ≡ k.answer =
    j.writes.answer ∙ (ap (λ (w : List ℕ). text_answer j.file (length w)) e ∙ (text_answer_same j.file k.file p (length k.text) ∙ sym k.writes.answer)) in
    let l = written_same j.file k.file p in
    (a, j.writes.left ∙ ((λ i. left_by (a i) (l i) (e i)) ∙ sym k.writes.left))

-- ── slips ──
-- two answers that are refused with one number are one
one_refusal : {A : Type 0} (a b : Result A Refusal) (c : ℕ) → RefusedWith c a → RefusedWith c b → a ≡ b
one_refusal a b c p q = p.1.0 ∙ (ap (λ (e : Refusal). Err e) (number-injective p.0 q.0 (p.1.1 ∙ sym q.1.1)) ∙ sym q.1.0)

-- two calls on slips that refuse alike, and say of each trace what is one answer
slip_case : {A : Type 0} (file file' : List ℕ) (p : RecasedRule file file') (r : Record) (a b : Result A Refusal) (says : (c : Result A Refusal) (t : Trace) (f : Formula) → SlipForm f → Type 0)
    → ((t : Trace) (f : Formula) (s : SlipForm f) → says a t f s → says b t f s → a ≡ b)
    → SlipCall file r (λ n. RefusedWith n a) (says a) → SlipCall file' r (λ n. RefusedWith n b) (says b) → a ≡ b
slip_case {A} file file' p r a b says one j k = by_rule (rule_of file) refl
  where
    other : {q : Result Rule Refusal} → rule_of file ≡ q → rule_of file' ≡ q
    other e = sym (rule_same file file' p) ∙ e

    known : (x : Rule) (e : rule_of file ≡ Ok x) (s : SlipForm (formula_of file x)) → Valid r → a ≡ b
    known x e s v =
        one v.trace (formula_of file x) s (j.known x e s v.log v.trace v.accepted v.encoded)
        (subst (λ (f : Formula). (z : SlipForm f) → says b v.trace f z) (sym (formula_same file file' p x e)) (λ z. k.known x (other e) z v.log v.trace v.accepted v.encoded) s)

    there : (x : Rule) → rule_of file ≡ Ok x → SlipForm (formula_of file x) → SlipForm (formula_of file' x)
    there x e s = subst SlipForm (formula_same file file' p x e) s

    back : (x : Rule) → rule_of file ≡ Ok x → SlipForm (formula_of file' x) → SlipForm (formula_of file x)
    back x e s = subst SlipForm (sym (formula_same file file' p x e)) s

    by_record : (x : Rule) (e : rule_of file ≡ Ok x) (s : SlipForm (formula_of file x)) → (c : Bool) → Tells c (Valid r) → a ≡ b
    by_record x e s true d = known x e s (d.yes refl)
    by_record x e s false d = one_refusal a b 21 (j.no_record x e s (d.no refl)) (k.no_record x (other e) (there x e s) (d.no refl))

    by_form : (x : Rule) (e : rule_of file ≡ Ok x) (c : Bool) → Tells c (SlipForm (formula_of file x)) → a ≡ b
    by_form x e true d = let w = j.decided x e (d.yes refl) in by_record x e (d.yes refl) w.0 w.1
    by_form x e false d = one_refusal a b 26 (j.other_form x e (d.no refl)) (k.other_form x (other e) (λ s. d.no refl (back x e s)))

    by_rule : (q : Result Rule Refusal) → rule_of file ≡ q → a ≡ b
    by_rule (Err n) e = one_refusal a b (number n) (j.rule n e) (k.rule n (other e))
    by_rule (Ok x) e = let w = j.form x e in by_form x e w.0 w.1

finding_case : (file file' : List ℕ) → RecasedRule file file' → (r : Record) (a b : Finding) → FindsFirst file r a → FindsFirst file' r b → a ≡ b
finding_case file file' p r a b j k =
    slip_case file file' p r a b (λ c t f s. FindsIn t f s c) (λ t f s u v. u.answer ∙ sym v.answer) j k

passing_case : (file file' : List ℕ) → RecasedRule file file' → (r : Record) (x : Slip) (a b : Passing) → ReadsSlip file r x a → ReadsSlip file' r x b → a ≡ b
passing_case file file' p r x a b j k =
    slip_case file file' p r a b (λ c t f s. ReadsIn t f s (slip_runs x) c) (λ t f s u v. u.answer ∙ sym v.answer) j k

pub no_difference : NoDifference
no_difference =
    record {
      line = line_case;
      tallied = tallied_case;
      log = log_case;
      report = report_case;
      rule_refused = λ file file' p c. (met_same file file' p c, met_same file' file (recased_back file file' p) c);
      rule = λ file file' p f. (file_same file file' p f, file_same file' file (recased_back file file' p) f);
      reading = reading_case;
      writing = writing_case;
      finding = finding_case;
      passing = passing_case;
    }

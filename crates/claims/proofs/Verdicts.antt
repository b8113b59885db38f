-- Demand 2: what is noted and said after every accepted line, of what each call leaves.
use Prim.Native.Nat.{ℕ, suc, ◌+◌, ◌≤◌, ◌<◌}
use mathlib.Core.Path.{◌≡◌, refl, ap, sym, ◌∙◌, subst}
use mathlib.Core.Logic.{◌≢◌, ◌↔◌}
use mathlib.Core.List.{List, [], ◌∷◌, ◌++◌}
use mathlib.Core.Bool.{true}
use native.Mathlib.Omega.{arith}
use lib.ListN.{length, get_or, take}
use borrow.Author.Tests.{lt-ltb, le-ltb}
use Rattle.std.specs.Prelude.{Result, Ok, Err}
use Rattle.refusals.specs.declared.Refusal.{Refusal}
use Rattle.refusals.specs.declared.Refusal.TheVariants.{ShortBuffer}
use Rattle.lists.specs.Limits.{max_lines}
use Rattle.lists.proofs.Cases.{either_lt, either_bool, no_both}
use Rattle.lists.proofs.Lists.{append-nil}
use Rattle.lines.specs.Log.{lines_of}
use Rattle.trace.specs.declared.Record.{Record}
use Rattle.trace.specs.declared.Run.{Run}
use Rattle.trace.specs.Trace.{Trace, next, no_trace, read, steps, Accepted}
use Rattle.trace.specs.Record.{record_of}
use Rattle.trace.proofs.Accepted.{accepted_orderly, one_line}
use Rattle.trace.proofs.Grown.{no_bytes}
use Rattle.trace.proofs.Size.{accepted-short}
use Rattle.pairs.specs.declared.Layout.{Layout}
use Rattle.pairs.specs.Layout.{work_size}
use Rattle.pairs.specs.declared.Started.{Started}
use Rattle.pairs.specs.Pairs.{pair_byte, work_of}
use Rattle.pairs.specs.Start.{start_of}
use Rattle.pairs.proofs.Accepted.{pair_byte_names_the_order}
use Rattle.relations.specs.Relation as Relation
use Rattle.relations.specs.Runs.{FinishedRun, RelatesRuns}
use Rattle.relations.specs.Pairs.{Noted}
use Rattle.relations.proofs.Pairs.{pair_byte_noted}
use Rattle.rules.specs.declared.Rule.{Rule}
use Rattle.std.specs.Prelude.{Ok}
use Rattle.rules.specs.Rules.{rule_of, formula_of}
use Rattle.logic.specs.declared.Verdict.{Verdict}
use Rattle.logic.specs.Satisfies.{Related}
use Rattle.logic.specs.Verdict.{verdict_byte, verdict_of, Says}
use Rattle.single.specs.Line.{judged}
use Rattle.tallies.specs.Tally.{counts?, failed, tally_after, TallyCounts}
use Rattle.reading.specs.declared.Ending.{Ending}
use Rattle.reading.specs.Left.{Left}
use Rattle.pairs.proofs.Work.{work_over, work_pair, work_other}
use Rattle.reading.proofs.Standing.{pairs_long}
use Rattle.whole_log.proofs.Repeated.{left_by_lem, log_is_repeated_line}
use Rattle.whole_log.proofs.Verdicts.{verdicts_of_prefixes}
use Rattle.whole_log.proofs.Cut.{first_bytes_decide}
use Rattle.report.proofs.Cut.{first_bytes_decide_report}
use Rattle.tallies.proofs.Failing.{tally_starts, tally_taken}
use Rattle.report.specs.Calls.{LineCall, TalliedCall, LogCall, log_part}
use Rattle.claims.specs.WhereMet.{wrong, then}
use Rattle.report.specs.Settled.{Notes, Settled, Judged, Reads}
use Rattle.claims.specs.Demand2.{Demand2}
use Rattle.claims.proofs.Stops.{not_judged, same_ending}
use Rattle.grammar.specs.Stands.{RuleFile}
use Rattle.grammar.proofs.Stands.{rule_says, rule_file-taken}
use Rattle.accepted_logs.proofs.Spoken.{accepted_spoken, accepting}
use Rattle.claims.proofs.Fronts.{taken_ruled}
use Rattle.claims.proofs.WhereMet.{counts-says, tallied_met}

-- ── pair bytes ──
no_pair : (rs : List Run) (j k : ℕ) → ((j < k) × (k < length rs) → ⊥) → pair_byte rs j k ≡ 0
unfolding pair_byte
no_pair rs j k n =
    either_lt j k
    (λ h. either_lt k (length rs) (λ l. absurd (n (h, l))) (λ l. simp (lt-ltb _ _ h, le-ltb _ _ l)))
    (λ h. simp (le-ltb _ _ h))

-- what a byte notes of two runs, in the words of the logic
in_words : (t : Trace) (a b byte n : ℕ) (r : Relation.Relation) → ((byte ≡ n) ↔ (FinishedRun t a × FinishedRun t b × RelatesRuns r t a b)) → (byte ≡ n) ↔ Related r t a b
in_words t a b byte n r e = (
  (λ p. let k = e.0 p in record { first = k.0; second = k.1; relates = k.2 }),
  (λ k. e.1 (k.first, k.second, k.relates)),
)

byte_notes : (log : List ℕ) (t : Trace) → Accepted log t → (a b : ℕ) → Notes t a b (pair_byte t.runs a b)
byte_notes log t h a b =
    let n : Noted t a b = pair_byte_noted log t h a b in
    record {
      is_before = in_words t a b _ 5 Relation.before n.is_before;
      is_overlaps = in_words t a b _ 6 Relation.overlaps n.is_overlaps;
      is_includes = in_words t a b _ 7 Relation.includes n.is_includes;
      order = pair_byte_names_the_order log t h a b;
      otherwise = no_pair t.runs a b;
    }

-- what accepted lines leave is settled
pub left_settled : (lay : Layout) (log : List ℕ) (t : Trace) (r : Record) (w : List ℕ) → Left lay log t r w → Settled lay log r w
left_settled lay log t r w l =
    record {
      trace = t;
      left = l;
      notes = λ a b h k.
          subst (Notes t a b) (sym (work_pair lay t w w l.pairs a b h k)) (byte_notes log t l.accepted a b);
      others = work_other lay t w w l.pairs;
      forward = λ a b h.
          let n = byte_notes log t l.accepted a b in
          let z : pair_byte t.runs a b ≡ 0 = no_pair t.runs a b (λ p. omega (arith, p.0)) in
          ((λ r. omega (arith, z, n.is_before.1 r)), (λ r. omega (arith, z, n.is_overlaps.1 r)), (λ r. omega (arith, z, n.is_includes.1 r)));
    }

-- the pair bytes of a buffer, once written, are those of what is there
over : (lay : Layout) (log : List ℕ) (t : Trace) (r : Record) (w w' : List ℕ) → Accepted log t → r ≡ record_of t → w' ≡ work_of lay t w → Left lay log t r w'
over lay log t r w w' a s p =
    record { accepted = a; encoded = s; pairs = p ∙ (sym (work_over lay t w t) ∙ ap (work_of lay t) (sym p)) }

-- ── starting a record ──
not_ready : {C : Type 0} → ◌≡◌ {A = Result (Unit {0}) Refusal} (Err ShortBuffer) (Ok tt) → C
not_ready e = cc

started : (lay : Layout) (w : List ℕ) → (start_of lay w).0.outcome ≡ Ok tt → Settled lay [] (start_of lay w).0.state (start_of lay w).1
unfolding start_of
started lay w =
    either_lt (length w) (work_size lay)
    (λ s. simp (lt-ltb (length w) (work_size lay) s) (λ e. not_ready e))
    (λ s. simp (le-ltb (length w) (work_size lay) s) (λ e. left_settled lay [] no_trace _ _ (left_by_lem lay [] no_trace no_bytes w)))

-- ── one line ──
module _ (k : LineCall) (x : Rule) (rule : rule_of k.file ≡ Ok x) (log : List ℕ) (t : Trace) (l : Left k.layout log t k.state k.work) (v : Verdict) (o : k.answer.outcome ≡ judged v) where
  line_judged : Judged k.layout k.file x (log ++ k.line) k.answer.state k.work' v
  unfolding left_settled
  line_judged =
      let m = (k.checks.meaning x rule log t l).taken v o in
      record { settled = left_settled k.layout _ m.trace _ _ (over k.layout _ m.trace _ k.work _ m.accepted m.state m.pairs); verdict = m.verdict }

module _ (k : TalliedCall) (x : Rule) (rule : rule_of k.file ≡ Ok x) (log : List ℕ) (t : Trace) (l : Left k.layout log t k.state k.work) (v : Verdict) (o : k.answer.outcome ≡ judged v) where
  -- a line that is taken does not meet 24
  tally_right : counts? t k.tally ≡ true
  tally_right =
      either_bool (counts? t k.tally)
      (λ b. b)
      (λ b.
      let n = (tallied_met k.layout k.file k.state k.tally k.work k.line k.answer k.work' k.checks 24).1
      (then (pairs_long k.layout t k.work k.work l.pairs) (taken_ruled k.file x rule) log t l
      (wrong (λ c. no_both (sym ((counts-says t k.tally).1 c) ∙ b)) refl)) in
      not_judged v 24 (sym o ∙ n))

  tallied-judged : Judged k.layout k.file x (log ++ k.line) k.answer.state k.work' v × TallyCounts (log ++ k.line) k.answer.tally × (k.answer.tally.failing ≡ k.tally.failing + failed v)
      × (k.tally ≡ tally_after k.file x log t → (u : Trace) → Accepted (log ++ k.line) u → k.answer.tally ≡ tally_after k.file x (log ++ k.line) u)
  unfolding left_settled
  tallied-judged =
      let h = k.checks.meaning x rule log t l tally_right in
      let m = h.single.taken v o in
      (record { settled = left_settled k.layout _ m.trace _ _ (over k.layout _ m.trace _ k.work _ m.accepted m.state m.pairs); verdict = m.verdict }, h.counts v o, h.failing v o, λ p u a. h.goes_on p v o u a)

-- ── a whole log ──
some_left : (l : List ℕ) (ls : List (List ℕ)) → l ∷ ls ≢ []
some_left l ls e = absurd (let z : ◌≡◌ {A = ℕ} 0 1 = ap kept_count e in omega arith)
  where
    kept_count : List (List ℕ) → ℕ
    kept_count [] = 1
    kept_count (x ∷ xs) = 0

not_read_lem : {C : Type 0} (c n : ℕ) → Ending.Refused c n ≡ Ending.Read → C
not_read_lem c n e = absurd (let z : ◌≡◌ {A = ℕ} 0 1 = cc in omega arith)

module _ (k : LogCall) (x : Rule) (rule : rule_of k.file ≡ Ok x) (long : work_size k.layout ≤ length k.work) (room : max_lines ≤ length k.verdicts) where
  line_verdicts : (n : ℕ) (part : List ℕ) (u : Trace) → n < length (lines_of (log_part k)) → lines_of part ≡ take (suc n) (lines_of (log_part k)) → Accepted part u
      → (v : Verdict) × (get_or k.verdicts' n 0 ≡ verdict_byte v) × Says u (formula_of k.file x) v
  unfolding read
  line_verdicts n part u h e a =
      let b = (k.checks.checks.meaning x rule long room).verdicts n u h (ap (steps (next no_trace)) (sym e) ∙ a.leaves) in
      (verdict_of u (formula_of k.file x), b.byte, b.verdict)

  log_reads : (g : Ending) → k.answer.ending ≡ g → Reads k x
  log_reads Ending.Read e =
      let m = (k.checks.checks.meaning x rule long room).whole e in
      record {
        taken = log_part k;
        rest = [];
        divides = sym (append-nil (lines_of (log_part k)));
        whole = λ _. refl;
        stops = λ c n q. not_read_lem c n (sym q ∙ e);
        settled = left_settled k.layout _ m.trace _ _ (over k.layout _ m.trace _ k.work _ m.accepted m.state m.pairs);
        verdicts = line_verdicts;
      }
  log_reads (Ending.Refused c n) e =
      let m = (k.checks.checks.meaning x rule long room).stops c n e in
      record {
        taken = m.first.before;
        rest = m.first.line ∷ m.first.after;
        divides = m.first.lines;
        whole = λ q. not_read_lem c n (sym e ∙ q);
        stops = λ d i q. (some_left _ _, sym (same_ending d c i n (sym e ∙ q)).1 ∙ m.first.number);
        settled = left_settled k.layout _ m.first.trace _ _ (over k.layout _ m.first.trace _ k.work _ m.first.accepted m.state m.pairs);
        verdicts = line_verdicts;
      }

pub demand-2 : Demand2
demand-2 =
    record {
      rule = λ file f. (rule_file-taken file f, λ p. subst (RuleFile file) p.2 (rule_says file p.0 p.1));
      start = λ k e. subst (λ (z : Started × List ℕ). z.0.outcome ≡ Ok tt → Settled k.layout [] z.0.state z.1) (sym k.starts) (started k.layout k.work) e;
      line = line_judged;
      tallied = tallied-judged;
      zeros = tally_starts;
      relate = λ r a b v h log t k e. (h.known log t k e).relation;
      counts = λ file x log t a. (counts-says t _).0 (tally_taken file x log t a);
      log = λ k x e long room. log_reads k x e long room k.answer.ending refl;
      report = λ k n e. (λ x p. k.reports.reports.meaning n x e p, λ c p. k.reports.reports.unruled n c e p);
      repeats = log_is_repeated_line;
      prefixes = λ lay file w out log part n e h u a. verdicts_of_prefixes lay file w out log part n e h u a;
      first_bytes = first_bytes_decide;
      first_bytes_report = first_bytes_decide_report;
      accepted = λ log t a. let o = accepted_orderly log t a in (o, one_line t o, accepted_spoken log t a, accepted-short log t a);
      accepting = accepting;
    }

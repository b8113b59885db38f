-- From the first line to the last: the start, the way after each line, and the end.
use Prim.Native.Nat.{ℕ, ◌-◌, ◌<◌, ◌≤◌}
use mathlib.Core.Path.{◌≡◌, refl, sym, subst, ap, ◌∙◌}
use mathlib.Core.Bool.{Bool, true, true≢false}
use mathlib.Core.List.{List, []}
use native.Mathlib.Omega.{arith}
use lib.ListN.{length, take}
use lib.Seq.{length-take-le}
use borrow.Author.Tests.{le-ltb}
use Rattle.std.specs.Prelude.{Ok}
use Rattle.trace.specs.declared.Record.{Record}
use Rattle.trace.specs.Trace.{no_trace}
use Rattle.trace.specs.Record.{record_of}
use Rattle.trace.proofs.Grown.{no_bytes}
use Rattle.trace.proofs.Bounds.{accepted-bounded}
use Rattle.pairs.specs.declared.Layout.TheVariants.{Half}
use Rattle.pairs.specs.declared.Started.{Started}
use Rattle.pairs.specs.Layout.{work_size}
use Rattle.pairs.specs.Pairs.{work_of}
use Rattle.pairs.specs.Start.{start_of}
use Rattle.rules.specs.declared.Rule.{Rule}
use Rattle.std.specs.Prelude.{Result, Ok}
use Rattle.refusals.specs.declared.Refusal.{Refusal}
use Rattle.rules.specs.Rules.{rule_of, ReadsRule}
use Rattle.pairs.proofs.Work.{work_over, work_long}
use Rattle.single.specs.declared.Outcome.{Outcome}
use Rattle.single.specs.declared.Outcome.TheVariants.{Holds, Fails, Refused}
use Rattle.single.proofs.LineCall.{with_refused}
use Rattle.tallies.specs.declared.Tally.{Tally}
use Rattle.tallies.specs.Tally.{tally_of, tally_after, counts?}
use Rattle.trace.proofs.Finished.{finished_few}
use Rattle.tallies.proofs.Tallies.{failing-most}
use Rattle.tallies.proofs.Failing.{tally_starts, tally_taken}
use Rattle.text_pieces.specs.Pieces.{refused_text}
use Rattle.report.specs.Text.{tally_text, report_text}
use Rattle.text_pieces.specs.Writing.{WritesFew}
use Rattle.report.specs.RecordText.{Printable}
use Rattle.report.proofs.Printed.{text_none}
use Rattle.watch.specs.declared.Answered.{Answered}
use Rattle.watch.specs.declared.Way.{Way}
use Rattle.watch.specs.declared.Way.TheVariants.{On, End, Stop}
use Rattle.watch.specs.Watch.{way_of, Watching, AnswersLine, AnswersEnd, AnswersRule, Follows, Onward, on?}
use Rattle.watch.proofs.Texts.{stands, stands-within}

-- ── the start ──
pub rule_read : (file : List ℕ) (q : Result Rule Refusal) (x : Rule) → ReadsRule file q → q ≡ Ok x → rule_of file ≡ Ok x
rule_read file q x f e = sym f.answer ∙ e

abbrev zeros : Tally
zeros = record { lines = 0; begun = 0; finished = 0; running = 0; failing = 0 }

pub starts : (file w : List ℕ) (x : Rule) (a : Started) (w' : List ℕ) → rule_of file ≡ Ok x → work_size Half ≤ length w → ◌≡◌ {A = Started × List ℕ} (a, w') (start_of Half w)
    → Watching file a.state zeros w'
unfolding start_of
starts file w x a w' e long p =
    let all : ◌≡◌ {A = Started × List ℕ} (a, w') (record { state = record_of no_trace; outcome = Ok tt }, work_of Half no_trace w) = p ∙ simp (le-ltb (length w) (work_size Half) long) in
    let q : w' ≡ work_of Half no_trace w = ap (λ (z : Started × List ℕ). z.1) all in
    record {
      rule = x;
      taken = e;
      long = subst (λ (z : List ℕ). work_size Half ≤ length z) (sym q) (work_long Half no_trace w);
      log = [];
      trace = no_trace;
      left = record {
        accepted = no_bytes;
        encoded = ap (λ (z : Started × List ℕ). z.0.state) all;
        pairs = q ∙ (sym (work_over Half no_trace w no_trace) ∙ ap (work_of Half no_trace) (sym q));
      };
      tally = sym (tally_starts file x);
    }

-- ── the way after a line ──
own_way : (o : Outcome) → Follows (way_of o) o
own_way Holds = refl
own_way Fails = refl
own_way (Refused c) = refl

pub follows : (o : Outcome) (w : Way) → w ≡ way_of o → Follows w o
follows o w e = subst (λ (z : Way). Follows z o) (sym e) (own_way o)

pub onward_after : (file : List ℕ) (r : Record) (y : Tally) (w line : List ℕ) (a : Answered) (w' text : List ℕ) (way : Way)
    → AnswersLine file r y w line a w' text → Follows way a.outcome → Onward y.lines a.tally way
onward_after file r y w line a w' text On g f = g.more f
onward_after file r y w line a w' text End g f = tt
onward_after file r y w line a w' text Stop g f = tt

-- how many lines may still come
abbrev pub lines_left : Way → ℕ → ℕ
lines_left On n = 257 - n
lines_left End n = 0
lines_left Stop n = 0

module _ (file : List ℕ) (r : Record) (y : Tally) (w : List ℕ) (g : Watching file r y w) where
  lines_same : y.lines ≡ g.trace.lines
  unfolding tally_after tally_of
  lines_same = ap (λ (z : Tally). z.lines) g.tally

  few_lines : y.lines ≤ 256
  few_lines = omega (arith, lines_same, (accepted-bounded g.log g.trace g.left.accepted).lines)

  less_left : (v way : Way) (z : Tally) → on? v ≡ true → Onward y.lines z way → lines_left way z.lines < lines_left v y.lines
  less_left On On z e o = omega (arith, few_lines)
  less_left On End z e o = omega (arith, few_lines)
  less_left On Stop z e o = omega (arith, few_lines)
  less_left End way z e o = absurd (true≢false (sym e))
  less_left Stop way z e o = absurd (true≢false (sym e))

  pub fewer_left : (v way : Way) (z : Tally) (b : Bool) → b ≡ on? v → b ≡ true → Onward y.lines z way → lines_left way z.lines < lines_left v y.lines
  fewer_left v way z b p q o = less_left v way z (sym p ∙ q) o

  -- the counts of a tally are small enough to be printed
  pub watching_printable : Printable y
  unfolding tally_after tally_of
  watching_printable =
      let b = accepted-bounded g.log g.trace g.left.accepted in
      let f = finished_few g.trace.runs in
      let n = failing-most g.trace y b (subst (λ (z : Tally). counts? g.trace z ≡ true) (sym g.tally) (tally_taken file g.rule g.log g.trace g.left.accepted)) in
      record {
        lines = omega (arith, few_lines);
        begun = omega (arith, ap (λ (z : Tally). z.begun) g.tally, b.runs);
        finished = omega (arith, ap (λ (z : Tally). z.finished) g.tally, b.runs, f);
        running = omega (arith, ap (λ (z : Tally). z.running) g.tally, b.runs, f);
        failing = omega (arith, n);
      }

-- ── the end ──
module _ (text text' : List ℕ) (n : ℕ) where
  pub end_answers : (y : Tally) → WritesFew 22 (tally_text y) text 0 text' n → AnswersEnd y text' n
  end_answers y p =
      let s : take n text' ≡ tally_text y = stands _ text text' n p.writes in
      let h : n ≤ length text' = stands-within _ text text' n p.writes in
      record { count = h; counted = sym (length-take-le n text' h); printed = s; report = λ file x t k e. s ∙ (ap tally_text e ∙ sym (text_none file x t k)) }

  pub rule_answers : (c : ℕ) → WritesFew 9 (refused_text 0 c) text 0 text' n → AnswersRule c text' n
  unfolding report_text
  rule_answers c p =
      let s : take n text' ≡ refused_text 0 c = stands _ text text' n p.writes in
      let h : n ≤ length text' = stands-within _ text text' n p.writes in
      record { count = h; counted = sym (length-take-le n text' h); printed = s; report = λ file log e. s ∙ sym (with_refused (rule_of file) e.0 _ _ e.1.0 ∙ ap (refused_text 0) e.1.1) }

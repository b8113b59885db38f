-- One answer, from what the call on a line that is lent a tally answers: on the record of an accepted log with that log's tally it is
-- neither 20 nor 21 nor 24, so the line decides, and its text is the next piece of the report.
use Rattle.std.specs.Prelude.{Some, Err}
use Prim.Native.Nat.{ℕ, ◌+◌, ◌-◌, ◌≤◌}
use mathlib.Core.Path.{◌≡◌, refl, sym, subst, ap, ◌∙◌}
use mathlib.Core.Bool.{true, false}
use mathlib.Core.List.{List, ◌∷◌, ◌++◌}
use mathlib.Core.Logic.{⊎_elim}
use mathlib.Core.Option.{some}
use native.Mathlib.Omega.{arith}
use lib.ListN.{length, take, drop}
use lib.Seq.{length-take-le, take-append_seam}
use borrow.Author.Tests.{le-ltb}
use Rattle.lists.specs.Lists.{has?}
use Rattle.refusals.specs.declared.Refusal.TheVariants.{LineForm}
use Rattle.refusals.specs.declared.Refusal.{Refusal}
use Rattle.refusals.specs.Refusal.{number}
use Rattle.lines.specs.Line.{event_of}
use Rattle.lines.specs.Log.{lines_of, next_line, Next, handed}
use Rattle.lines.proofs.Log.{line_is_handed_out, refused_line_is_faulty}
use Rattle.trace.specs.declared.Record.{Record}
use Rattle.trace.specs.Trace.{Trace, next, refused, step}
use Rattle.trace.specs.Record.{record_of}
use Rattle.trace.proofs.Taken.{by_answer_lem, line_lines, line_said, line_faulty}
use Rattle.trace.proofs.Grown.{taken_grows, said_whole, whole_first}
use Rattle.trace.proofs.Bounds.{accepted-bounded}
use Rattle.pairs.specs.declared.Layout.TheVariants.{Half}
use Rattle.pairs.specs.Layout.{work_size}
use Rattle.pairs.specs.Pairs.{work_of}
use Rattle.rules.specs.declared.Rule.{Rule}
use Rattle.std.specs.Prelude.{Ok}
use Rattle.rules.specs.Rules.{rule_of, formula_of}
use Rattle.logic.specs.declared.Verdict.{Verdict}
use Rattle.logic.specs.Verdict.{verdict_of}
use Rattle.reading.specs.Left.{Left}
use Rattle.pairs.proofs.Work.{work_over, work_long}
use Rattle.single.specs.declared.Outcome.TheVariants.{Refused}
use Rattle.single.specs.Line.{judged}
use Rattle.single.proofs.LineCall.{with_taken}
use Rattle.tallies.specs.declared.Tally.{Tally}
use Rattle.tallies.specs.declared.Tallied.{Tallied}
use Rattle.tallies.specs.Tally.{counts?, failed, refusing_with, tally_of, tally_after, tallied_after, tallied_state, tallied_of, ChecksTallied}
use Rattle.tallies.proofs.Failing.{tally_taken, tally_goes_on}
use Rattle.text_pieces.specs.Pieces.{refused_text}
use Rattle.report.specs.Text.{line_text, tally_text, text_from}
use Rattle.text_pieces.specs.Writing.{WritesFew}
use Rattle.report.proofs.Printed.{text_taken, text_refused}
use Rattle.watch.specs.declared.Way.TheVariants.{On, End}
use Rattle.watch.specs.Watch.{outcome_text, way_of, FirstBytes, Watching, GoesOn, Ends, AnswersLine}
use Rattle.watch.proofs.Texts.{stands, stands-within}

judged_text : (n : ℕ) (v : Verdict) → outcome_text n (judged v) ≡ line_text n v
judged_text n Verdict.Holds = refl
judged_text n Verdict.Fails = refl

judged-way : (v : Verdict) → way_of (judged v) ≡ On
judged-way Verdict.Holds = refl
judged-way Verdict.Fails = refl

not_on : End ≡ On → ⊥
not_on e = let z : ◌≡◌ {A = ℕ} 0 1 = cc in omega arith

module _ (file : List ℕ) (r : Record) (y : Tally) (w line : List ℕ) (a : Tallied) (w' : List ℕ) (ck : ChecksTallied Half file r y w line a w') (long : work_size Half ≤ length w) where
  -- of a rule and a log that leave what is handed in
  module _ (x : Rule) (taken : rule_of file ≡ Ok x) (log : List ℕ) (t : Trace) (l : Left Half log t r w) (e : y ≡ tally_after file x log t) where
    verdict : Trace → Verdict
    verdict u = verdict_of u (formula_of file x)

    counted : counts? t y ≡ true
    counted = subst (λ (z : Tally). counts? t z ≡ true) (sym e) (tally_taken file x log t l.accepted)

    state_is : tallied_of Half file r y w line (some t) ≡ tallied_state Half file x r y w line (some t)
    unfolding tallied_of
    state_is = simp (le-ltb (length w) (work_size Half) long) (with_taken (rule_of file) x _ _ taken)

    line_decides : tallied_state Half file x r y w line (some t) ≡ tallied_after Half file x t y w (step (next t) line)
    unfolding tallied_state
    line_decides = simp counted

    after : ◌≡◌ {A = Tallied × List ℕ} (a, w') (tallied_after Half file x t y w (step (next t) line))
    after = ck.answer (some t) (λ _. (log, l)) ∙ (state_is ∙ line_decides)

    lines_same : y.lines ≡ t.lines
    unfolding tally_after tally_of
    lines_same = ap (λ (z : Tally). z.lines) e

    own : tally_of t y.failing ≡ y
    unfolding tally_after tally_of
    own = subst (λ (z : Tally). tally_of t z.failing ≡ z) (sym e) refl

    module _ (u : Trace) (p : step (next t) line ≡ next u) where
      all : ◌≡◌ {A = Tallied × List ℕ} (a, w') (record { state = record_of u; tally = tally_of u (y.failing + failed (verdict u)); outcome = judged (verdict u) }, work_of Half u w)
      unfolding tallied_after verdict
      all = after ∙ ap (tallied_after Half file x t y w) p

      tally_then : a.tally ≡ tally_after file x (log ++ line) u
      unfolding verdict
      tally_then =
          ap (λ (z : Tallied × List ℕ). z.0.tally) all
          ∙ (ap (λ (z : Tally). tally_of u (z.failing + failed (verdict u))) e ∙ tally_goes_on file x log t l.accepted line u p)

      failing-then : a.tally.failing ≡ y.failing + failed (verdict u)
      unfolding tally_of
      failing-then = ap (λ (z : Tallied × List ℕ). z.0.tally.failing) all

      lines_then : a.tally.lines ≡ u.lines
      unfolding tally_of
      lines_then = ap (λ (z : Tallied × List ℕ). z.0.tally.lines) all

      outcome-then : a.outcome ≡ judged (verdict u)
      outcome-then = ap (λ (z : Tallied × List ℕ). z.0.outcome) all

      work_then : w' ≡ work_of Half u w
      work_then = ap (λ (z : Tallied × List ℕ). z.1) all

      left_then : Left Half (log ++ line) u a.state w'
      left_then =
          record {
            accepted = taken_grows log t l.accepted line u p;
            encoded = ap (λ (z : Tallied × List ℕ). z.0.state) all;
            pairs = work_then ∙ (sym (work_over Half u w u) ∙ ap (work_of Half u) (sym work_then));
          }

      watching-then : Watching file a.state a.tally w'
      watching-then =
          record {
            rule = x;
            taken = taken;
            long = subst (λ (z : List ℕ). work_size Half ≤ length z) (sym work_then) (work_long Half u w);
            log = log ++ line;
            trace = u;
            left = left_then;
            tally = tally_then;
          }

      few-then : a.tally.lines ≤ 256
      few-then = omega (arith, lines_then, (accepted-bounded (log ++ line) u left_then.accepted).lines)

      goes_on : (n : ℕ) (text' : List ℕ) → take n text' ≡ outcome_text a.tally.lines a.outcome
          → GoesOn file x log t y line (record { state = a.state; tally = a.tally; outcome = a.outcome; size = n }) w' (take n text') u
      unfolding verdict
      goes_on n text' s =
          let said : take n text' ≡ line_text u.lines (verdict u) = s ∙ ((λ i. outcome_text (lines_then i) (outcome-then i)) ∙ judged_text u.lines (verdict u)) in
          record {
            text = said;
            left = left_then;
            tally = tally_then;
            way = ap way_of outcome-then ∙ judged-way (verdict u);
            report = λ rest. ap (text_from file x t y.failing) (whole_first line (said_whole line (line_said t u line p)) rest)
                ∙ (text_taken file x t y.failing line (lines_of rest) u p ∙ (λ i. sym said i ++ text_from file x u (sym failing-then i) (lines_of rest)));
          }

    module _ (c : Refusal) (p : step (next t) line ≡ refused c) where
      none : ◌≡◌ {A = Tallied × List ℕ} (a, w') (refusing_with (record_of t) y (number c), w)
      unfolding tallied_after
      none = after ∙ ap (tallied_after Half file x t y w) p

      tally_kept : a.tally ≡ y
      tally_kept = ap (λ (z : Tallied × List ℕ). z.0.tally) none

      outcome_kept : a.outcome ≡ Refused (number c)
      outcome_kept = ap (λ (z : Tallied × List ℕ). z.0.outcome) none

      work_kept : w' ≡ w
      work_kept = ap (λ (z : Tallied × List ℕ). z.1) none

      state_kept : a.state ≡ r
      state_kept = ap (λ (z : Tallied × List ℕ). z.0.state) none ∙ sym l.encoded

      watching_kept : Watching file a.state a.tally w'
      watching_kept =
          record {
            rule = x;
            taken = taken;
            long = subst (λ (z : List ℕ). work_size Half ≤ length z) (sym work_kept) long;
            log = log;
            trace = t;
            left = record { accepted = l.accepted; encoded = state_kept ∙ l.encoded; pairs = work_kept ∙ (l.pairs ∙ ap (work_of Half t) (sym work_kept)) };
            tally = tally_kept ∙ e;
          }

      few_kept : a.tally.lines ≤ 256
      few_kept = omega (arith, ap (λ (z : Tally). z.lines) tally_kept, lines_same, (accepted-bounded log t l.accepted).lines)

      -- of an input that begins with these bytes the first line is refused with the same number
      handed_refused : (k : ℕ) (rest : List ℕ) → next_line (line ++ rest) 0 ≡ handed 0 (length line)
          → text_from file x t k (lines_of (line ++ rest)) ≡ refused_text (t.lines + 1) (number c) ++ tally_text (tally_of t k)
      handed_refused k rest q =
          let h = line_is_handed_out (line ++ rest) 0 0 (length line) q in
          let n : length line - 0 ≡ length line = omega arith in
          let e' : take (length line - 0) (line ++ rest) ≡ line = ap (λ (m : ℕ). take m (line ++ rest)) n ∙ take-append_seam line rest in
          ap (text_from file x t k) (h.lines ∙ ap (λ (z : List ℕ). z ∷ lines_of (drop (length line) (line ++ rest))) e')
          ∙ text_refused file x t k line (lines_of (drop (length line) (line ++ rest))) c p

      spoilt_refused : (k : ℕ) (rest : List ℕ) → next_line (line ++ rest) 0 ≡ Some (Err LineForm) → has? 10 line ≡ false
          → text_from file x t k (lines_of (line ++ rest)) ≡ refused_text (t.lines + 1) (number c) ++ tally_text (tally_of t k)
      unfolding event_of
      spoilt_refused k rest q f =
          let sp = refused_line_is_faulty (line ++ rest) 0 LineForm q in
          let same : refused c ≡ refused LineForm = sym p ∙ line_faulty t line LineForm (simp f) in
          let n : c ≡ LineForm = cc in
          ap (text_from file x t k) sp.lines
          ∙ (text_refused file x t k sp.line sp.later LineForm (line_faulty t sp.line LineForm sp.says)
          ∙ ap (λ (m : Refusal). refused_text (t.lines + 1) (number m) ++ tally_text (tally_of t k)) (sym n))

      rest_refused : (k : ℕ) (rest : List ℕ) → FirstBytes line rest
          → text_from file x t k (lines_of (line ++ rest)) ≡ refused_text (t.lines + 1) (number c) ++ tally_text (tally_of t k)
      rest_refused k rest f = ⊎_elim (λ q. handed_refused k rest q) (λ q. spoilt_refused k rest q.0 q.1) f

      ends : (n : ℕ) (text' : List ℕ) → take n text' ≡ outcome_text a.tally.lines a.outcome
          → Ends file x t y line (record { state = a.state; tally = a.tally; outcome = a.outcome; size = n }) (take n text') (number c)
      ends n text' s =
          let m : a.tally.lines ≡ t.lines = ap (λ (z : Tally). z.lines) tally_kept ∙ lines_same in
          let said : take n text' ≡ refused_text (t.lines + 1) (number c) = s ∙ (λ i. outcome_text (m i) (outcome_kept i)) in
          record {
            text = said;
            tally = tally_kept;
            way = ap way_of outcome_kept;
            report = λ rest f. rest_refused y.failing rest f ∙ (λ i. sym said i ++ tally_text ((own ∙ sym tally_kept) i));
          }

  -- THE LAW: the answer is the contract's
  module _ (g : Watching file r y w) where
    pub answer_few : a.tally.lines ≤ 256
    answer_few =
        by_answer_lem g.trace line
        (λ u p. few-then g.rule g.taken g.log g.trace g.left g.tally u p)
        (λ c p. few_kept g.rule g.taken g.log g.trace g.left g.tally c p)

    watching_on : Watching file a.state a.tally w'
    watching_on =
        by_answer_lem g.trace line
        (λ u p. watching-then g.rule g.taken g.log g.trace g.left g.tally u p)
        (λ c p. watching_kept g.rule g.taken g.log g.trace g.left g.tally c p)

    lines_before : y.lines ≡ g.trace.lines
    lines_before = lines_same g.rule g.taken g.log g.trace g.left g.tally

    more : way_of a.outcome ≡ On → a.tally.lines ≡ y.lines + 1
    more q =
        by_answer_lem g.trace line
        (λ u p. omega (arith, lines_before, line_lines g.trace u line p, lines_then g.rule g.taken g.log g.trace g.left g.tally u p))
        (λ c p. let k = outcome_kept g.rule g.taken g.log g.trace g.left g.tally c p in absurd (not_on (sym (ap way_of k) ∙ q)))

    pub answers_line : (n : ℕ) (text text' : List ℕ) → WritesFew 9 (outcome_text a.tally.lines a.outcome) text 0 text' n
        → AnswersLine file r y w line (record { state = a.state; tally = a.tally; outcome = a.outcome; size = n }) w' text'
    answers_line n text text' p =
        let s : take n text' ≡ outcome_text a.tally.lines a.outcome = stands _ text text' n p.writes in
        let h : n ≤ length text' = stands-within _ text text' n p.writes in
        record {
          count = h;
          counted = sym (length-take-le n text' h);
          printed = s;
          watching = watching_on;
          more = more;
          meaning = λ x e log t l q. ((λ u k. goes_on x e log t l q u k n text' s), (λ c k. ends x e log t l q c k n text' s));
        }

-- The lessons hold.
use Prim.Native.Nat.{ℕ, ◌/◌, ◌%◌, ◌≤◌, ◌<◌}
use mathlib.Core.Path.{◌≡◌, refl, ap, sym, ◌∙◌}
use mathlib.Core.Bool.{true, false}
use mathlib.Core.List.{List, [], ◌∷◌}
use Rattle.lists.specs.Lists.{bytes, pad}
use Rattle.labels.specs.declared.Label.{Label}
use Rattle.labels.specs.Label.{label_of, equal_label?}
use Rattle.labels.specs.Table.{index_of, number_of, with_label}
use native.Mathlib.Omega.{arith}
use Rattle.lines.specs.Event.{begins}
use Rattle.lines.specs.Line.{event_of}
use Rattle.trace.specs.Trace.{Trace, next, begin, end, begin_run, end_run, running?, close, apply_to, read, step, apply}
use Rattle.trace.proofs.Examples.{run}
use Rattle.trace.specs.Orderly.{Orderly}
use Rattle.trace.proofs.Accepted.{accepted_orderly}
use Rattle.trace.proofs.Taken.{step_is}
use Rattle.relations.specs.Relation.{before, during, number}
use Rattle.relations.proofs.Runs.{none_to_itself}
use Rattle.relations.proofs.Demand.{demand-3}
use Rattle.relations.proofs.Examples.{examples}
use Rattle.rules.specs.Formula as Formula
use Rattle.rules.specs.Formula.{Formula, scoped}
use Rattle.rules.specs.Cases.{some_same_as_itself}
use Rattle.grammar.specs.Forms.{Begins}
use Rattle.grammar.proofs.BytesMet.{begins-says}
use Rattle.logic.specs.declared.Verdict.TheVariants.{Holds, Fails}
use Rattle.logic.specs.Satisfies.{Satisfies}
use Rattle.logic.specs.Model.{eval}
use Rattle.logic.specs.Verdict.{After}
use Rattle.logic.proofs.Examples.{after, left, test_label}
use Rattle.logic.proofs.Lessons.{begin_keeps_verdict, no_label_no_same, test_alone, test_and-later, evening_open, evening_over}
use Rattle.claims.specs.Lessons.{labelled, bound_twice, Lessons}

-- three different numbers below n
three_below : (x y z n : ℕ) → x < n → y < n → z < n → (x ≡ y → ⊥) → (y ≡ z → ⊥) → (x ≡ z → ⊥) → 3 ≤ n
three_below x y z n a b c p q r = omega arith

-- ── by computation ──
a_and_b : List Label
a_and_b = label_of (bytes "A") ∷ label_of (bytes "B") ∷ []

crossing : Trace
crossing = left (run 1 1 3 1 ∷ run 2 2 4 2 ∷ []) a_and_b 4

over_a_b : After (bytes "B 1 A\nB 2 B\nE 1\nE 2\n") (labelled Formula.overlaps "A" "B") Holds
unfolding crossing a_and_b eval scoped read step apply_to apply event_of begin_run with_label label_of pad index_of begin equal_label? number_of end_run running? end close
over_a_b = after _ crossing (labelled Formula.overlaps "A" "B") true (record { bytes = tt; leaves = refl }) refl refl

over_b_a : After (bytes "B 1 A\nB 2 B\nE 1\nE 2\n") (labelled Formula.overlaps "B" "A") Fails
unfolding crossing a_and_b eval scoped read step apply_to apply event_of begin_run with_label label_of pad index_of begin equal_label? number_of end_run running? end close
over_b_a = after _ crossing (labelled Formula.overlaps "B" "A") false (record { bytes = tt; leaves = refl }) refl refl

inner : After (bytes "B 1 A\nE 1\nB 2 B\nE 2\n") bound_twice Holds
unfolding a_and_b eval scoped read step apply_to apply event_of begin_run with_label label_of pad index_of begin equal_label? number_of end_run running? end close
inner = after _ (left (run 1 1 2 1 ∷ run 2 3 4 2 ∷ []) a_and_b 4) bound_twice true (record { bytes = tt; leaves = refl }) refl refl

itself : After (bytes "B 1 TEST\nE 1\n") some_same_as_itself Holds
unfolding eval scoped read step apply_to apply event_of begin_run with_label label_of pad index_of begin equal_label? number_of end_run running? end close
itself = after _ (left (run 1 1 2 1 ∷ []) test_label 2) some_same_as_itself true (record { bytes = tt; leaves = refl }) refl refl

pub the_lessons : Lessons
unfolding Satisfies
the_lessons =
    record {
      begin_changes_nothing = λ log line t u i l a b e f c.
          sym (begin_keeps_verdict log t a i l u (sym (begins-step line t i l b) ∙ e) f c);
      finished_serves = λ t ρ v f h. h;
      no_label = no_label_no_same;
      holds_before = evening_open;
      breaks_later = evening_over;
      fails_before = test_alone;
      holds-again = test_and-later;
      inside_includes = λ log t h a b f g p q.
          let o : Orderly t = accepted_orderly log t h in
          let w = o.forward b g.ended in
          (record { first = f; second = g; relates = (p, w, q) }, λ k. omega (arith, k.relates));
      overlaps_found = over_a_b;
      overlaps_one_way = over_b_a;
      innermost-binds = inner;
      same_as_itself = itself;
      none_to_itself = λ log t a r k h. none_to_itself log t a k h.first r h.relates;
      never_seen = λ log t a l n j low h.
          n _ (omega (arith, h.labelled)) ((accepted_orderly log t a).label_numbers j low) h.bytes;
      three_runs = λ log a b r s.
          three_below s.x s.y s.z _ s.x_finished.begun s.y_finished.begun s.z_finished.begun s.x_not_y s.y_not_z s.x_not_z;
      p5_during =
          let k = demand-3 (number before) (number during) (omega arith) (omega arith) during in
          let m = k.exactly.0 (ap (λ (c : ℕ). c / number during % 2) examples.P5) in
          k.by_three m.0 m.1;
    }
  where
    begins-step : (line : List ℕ) (t : Trace) (i : ℕ) (l : List ℕ) → Begins line i l → step (next t) line ≡ apply t (begins i l)
    begins-step line t i l b = step_is t line ∙ ap (apply t) ((begins-says line i l).1 b)

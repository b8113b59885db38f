-- The worked cases of slips, by computing.
use Prim.Native.Nat.{ℕ}
use mathlib.Core.Path.{◌≡◌, refl, sym, ap, subst, ◌∙◌}
use mathlib.Core.Logic.{inl, inr}
use mathlib.Core.List.{List, [], ◌∷◌}
use lib.ListN.{length}
use native.Mathlib.Omega.{arith}
use Rattle.lists.specs.Lists.{bytes, pad}
use Rattle.labels.specs.Label.{label_of, equal_label?}
use Rattle.labels.specs.Table.{index_of, with_label, number_of}
use Rattle.lines.specs.Line.{event_of}
use Rattle.trace.specs.Trace.{step, apply_to, apply, begin_run, begin, end_run, running?, end, close, read, Accepted}
use Rattle.trace.specs.Record.{record_of}
use Rattle.rules.specs.Formula.{Formula, both, neg, exists, has, pair, before, overlaps, includes, same, scoped, shallow}
use Rattle.rules.specs.Cases.{p10_file, p10_rule, p1_file, p1_rule, no_evening_includes_test, no_test_without_run_after, some_same_as_itself}
use Rattle.labels.specs.Label.{letter?, digit?, capital, label_form?}
use Rattle.rules.specs.Parts.{part, and_then, nothing_follows}
use Rattle.rules.specs.Labels.{label_start, listed, read_label, read_labels}
use Rattle.rules.specs.Table.{read_nodes, tree, formula_at}
use Rattle.rules.specs.Checks.{times_named, once_below, whole_table}
use Rattle.rules.specs.declared.Rule.{Rule}
use Rattle.std.specs.Prelude.{Ok, Err, true, false}
use Rattle.refusals.specs.declared.Refusal.TheVariants.{NoFinishedRun, RuleTooDeep}
use Rattle.rules.specs.Rules.{rule_of, formula_of}
use Rattle.rules.proofs.Worked.{p1-taken, p1-formula, p10-taken, p10-formula}
use Rattle.logic.specs.Model.{eval}
use Rattle.shape.specs.Shape.{flat?}
use Rattle.slip_form.specs.Form.{WithoutSome, SlipForm}
use Rattle.slip_form.specs.Slips.{bind_each, unbound, Before, run_no, slip_runs, slip_of}
use Rattle.slip_form.specs.Chain.{chain_of, part_of, slip_form?}
use Rattle.slip_form.proofs.Forms.{form_tells, one_chain}
use Rattle.slip_form.specs.declared.Slip.{Slip}
use Rattle.refusals.specs.Refusal.{RefusedWith}
use Rattle.refusals.proofs.Answers.{refused_with}
use Rattle.slips.specs.Answers.{Finding, Passing, with_slip, without_slip, least_below, first_runs, found_in, fits?, passing_in, FindsFirst, ReadsSlip}
use Rattle.whole_log.specs.Cases.{p1_log, p1_trace}
use Rattle.claims.specs.SlipCases.{bound_twice, five_some, none_before, all_other, no_test_four_times, bare_five, row_log, row_trace, three_lines, three_trace, SlipCases}

-- ── P1 ──
abbrev evening_includes_test : Formula
evening_includes_test = both (both (has 0 (bytes "EVENING")) (has 1 (bytes "TEST"))) (pair includes 0 1)

p1-accepted : Accepted p1_log p1_trace
unfolding read step apply_to apply event_of begin_run with_label label_of pad index_of begin equal_label? number_of end_run running? end close
p1-accepted = record { bytes = tt; leaves = refl }

p1_form : SlipForm (formula_of p1_file p1_rule)
unfolding WithoutSome
p1_form =
    record {
      variables = 0 ∷ 1 ∷ [];
      part = evening_includes_test;
      not_over = p1-formula;
      one = omega arith;
      four = omega arith;
      without = ((tt, tt), tt);
    }

p1_first : found_in p1_trace (0 ∷ 1 ∷ []) evening_includes_test ≡ with_slip (slip_of (0 ∷ 1 ∷ []))
unfolding found_in first_runs least_below eval label_of pad
p1_first = refl

p1_found : (a : Finding) → FindsFirst p1_file (record_of p1_trace) a → a ≡ with_slip (slip_of (0 ∷ 1 ∷ []))
unfolding p1_form
p1_found a h = (h.known p1_rule p1-taken p1_form p1_log p1_trace p1-accepted refl).answer ∙ p1_first

p1-reads : (ks : List ℕ) (a : Passing) → ReadsSlip p1_file (record_of p1_trace) (slip_of ks) a
    → a ≡ passing_in p1_trace (0 ∷ 1 ∷ []) evening_includes_test (slip_runs (slip_of ks))
unfolding p1_form
p1-reads ks a h = (h.known p1_rule p1-taken p1_form p1_log p1_trace p1-accepted refl).answer

reads_both : passing_in p1_trace (0 ∷ 1 ∷ []) evening_includes_test (slip_runs (slip_of (0 ∷ 1 ∷ []))) ≡ Ok true
unfolding passing_in fits? eval label_of pad
reads_both = refl

reads_turned : passing_in p1_trace (0 ∷ 1 ∷ []) evening_includes_test (slip_runs (slip_of (1 ∷ 0 ∷ []))) ≡ Ok false
unfolding passing_in fits? eval label_of pad
reads_turned = refl

reads_one : passing_in p1_trace (0 ∷ 1 ∷ []) evening_includes_test (slip_runs (slip_of (0 ∷ []))) ≡ Err NoFinishedRun
unfolding passing_in fits? eval label_of pad
reads_one = refl

reads_absent : passing_in p1_trace (0 ∷ 1 ∷ []) evening_includes_test (slip_runs (slip_of (0 ∷ 2 ∷ []))) ≡ Err NoFinishedRun
unfolding passing_in fits? eval label_of pad
reads_absent = refl

-- ── the form ──
evening_form : SlipForm no_evening_includes_test
unfolding slip_form? part_of flat? shallow
evening_form = (form_tells no_evening_includes_test refl).yes refl

some_below_chain : SlipForm no_test_without_run_after → ⊥
unfolding slip_form? part_of flat? shallow
some_below_chain = (form_tells no_test_without_run_after refl).no refl

bare_some : SlipForm some_same_as_itself → ⊥
unfolding slip_form? shallow
bare_some = (form_tells some_same_as_itself refl).no refl

not_twice : SlipForm (neg (neg some_same_as_itself)) → ⊥
unfolding slip_form? part_of flat? shallow
not_twice = (form_tells (neg (neg some_same_as_itself)) refl).no refl

innermost-binds : (s : SlipForm bound_twice) → bind_each unbound s.variables (3 ∷ 5 ∷ []) 0 ≡ 5
unfolding chain_of
innermost-binds s = sym (ap (λ (vs : List ℕ). bind_each unbound vs (3 ∷ 5 ∷ []) 0) (one_chain (exists 0 (exists 0 (has 0 (bytes "TEST")))) s))

outermost_first : Before (0 ∷ 5 ∷ []) (1 ∷ 0 ∷ [])
unfolding Before
outermost_first = inl (omega arith)

-- ── the other files and logs ──
abbrev none_rule : Rule
none_rule = record { labels = 0; nodes = 7; count = 4 }

abbrev other_rule : Rule
other_rule = record { labels = 1; nodes = 13; count = 4 }

abbrev four_rule : Rule
four_rule = record { labels = 1; nodes = 12; count = 6 }

none_taken : rule_of none_before ≡ Ok none_rule
unfolding rule_of part and_then nothing_follows label_start listed read_label read_labels read_nodes tree formula_at times_named once_below whole_table scoped shallow letter? digit? capital label_form?
none_taken = refl

other_taken : rule_of all_other ≡ Ok other_rule
unfolding rule_of part and_then nothing_follows label_start listed read_label read_labels read_nodes tree formula_at times_named once_below whole_table scoped shallow letter? digit? capital label_form?
other_taken = refl

four-taken : rule_of no_test_four_times ≡ Ok four_rule
unfolding rule_of part and_then nothing_follows label_start listed read_label read_labels read_nodes tree formula_at times_named once_below whole_table scoped shallow letter? digit? capital label_form?
four-taken = refl

none_form : SlipForm (formula_of none_before none_rule)
unfolding WithoutSome formula_at tree label_start capital
none_form = record { variables = 0 ∷ 1 ∷ []; part = pair before 0 1; not_over = refl; one = omega arith; four = omega arith; without = tt }

other_formed : SlipForm (formula_of all_other other_rule)
unfolding WithoutSome formula_at tree label_start capital
other_formed = record { variables = 0 ∷ []; part = neg (has 0 (bytes "OTHER")); not_over = refl; one = omega arith; four = omega arith; without = tt }

four_form : SlipForm (formula_of no_test_four_times four_rule)
unfolding WithoutSome formula_at tree label_start capital
four_form = record { variables = 0 ∷ 0 ∷ 0 ∷ 0 ∷ []; part = has 0 (bytes "TEST"); not_over = refl; one = omega arith; four = omega arith; without = tt }

row_accepted : Accepted row_log row_trace
unfolding read step apply_to apply event_of begin_run with_label label_of pad index_of begin equal_label? number_of end_run running? end close
row_accepted = record { bytes = tt; leaves = refl }

three-accepted : Accepted three_lines three_trace
unfolding read step apply_to apply event_of begin_run with_label label_of pad index_of begin equal_label? number_of end_run running? end close
three-accepted = record { bytes = tt; leaves = refl }

row_found : (a : Finding) → FindsFirst none_before (record_of row_trace) a → a ≡ with_slip (slip_of (0 ∷ 1 ∷ []))
unfolding none_form found_in first_runs least_below eval label_of pad
row_found a h = (h.known none_rule none_taken none_form row_log row_trace row_accepted refl).answer ∙ refl

row_reads : (ks : List ℕ) (a : Passing) → ReadsSlip none_before (record_of row_trace) (slip_of ks) a
    → a ≡ passing_in row_trace (0 ∷ 1 ∷ []) (pair before 0 1) (slip_runs (slip_of ks))
unfolding none_form
row_reads ks a h = (h.known none_rule none_taken none_form row_log row_trace row_accepted refl).answer

row-02 : passing_in row_trace (0 ∷ 1 ∷ []) (pair before 0 1) (slip_runs (slip_of (0 ∷ 2 ∷ []))) ≡ Ok true
unfolding passing_in fits? eval label_of pad
row-02 = refl

row-12 : passing_in row_trace (0 ∷ 1 ∷ []) (pair before 0 1) (slip_runs (slip_of (1 ∷ 2 ∷ []))) ≡ Ok true
unfolding passing_in fits? eval label_of pad
row-12 = refl

row-11 : passing_in row_trace (0 ∷ 1 ∷ []) (pair before 0 1) (slip_runs (slip_of (1 ∷ 1 ∷ []))) ≡ Ok false
unfolding passing_in fits? eval label_of pad
row-11 = refl

row-03 : passing_in row_trace (0 ∷ 1 ∷ []) (pair before 0 1) (slip_runs (slip_of (0 ∷ 3 ∷ []))) ≡ Err NoFinishedRun
unfolding passing_in fits? eval label_of pad
row-03 = refl

row-012 : passing_in row_trace (0 ∷ 1 ∷ []) (pair before 0 1) (slip_runs (slip_of (0 ∷ 1 ∷ 2 ∷ []))) ≡ Err NoFinishedRun
unfolding passing_in fits? eval label_of pad
row-012 = refl

number_found : (a : Finding) → FindsFirst all_other (record_of p1_trace) a → a ≡ with_slip (slip_of (0 ∷ []))
unfolding other_formed found_in first_runs least_below eval label_of pad
number_found a h = (h.known other_rule other_taken other_formed p1_log p1_trace p1-accepted refl).answer ∙ refl

three_found : (a : Finding) → FindsFirst p1_file (record_of three_trace) a → a ≡ without_slip
unfolding p1_form found_in first_runs least_below eval label_of pad
three_found a h = (h.known p1_rule p1-taken p1_form three_lines three_trace three-accepted refl).answer ∙ refl

three-reads : (a : Passing) → ReadsSlip p1_file (record_of three_trace) (slip_of (0 ∷ 1 ∷ [])) a → RefusedWith 22 a
unfolding p1_form passing_in fits? eval label_of pad
three-reads a h = refused_with a 22 NoFinishedRun ((h.known p1_rule p1-taken p1_form three_lines three_trace three-accepted refl).answer ∙ refl) refl

four_found : (a : Finding) → FindsFirst no_test_four_times (record_of p1_trace) a → a ≡ with_slip (slip_of (0 ∷ 0 ∷ 0 ∷ 1 ∷ []))
unfolding four_form found_in first_runs least_below eval label_of pad
four_found a h = (h.known four_rule four-taken four_form p1_log p1_trace p1-accepted refl).answer ∙ refl

four-reads : (x : Slip) (a : Passing) → ReadsSlip no_test_four_times (record_of p1_trace) x a
    → a ≡ passing_in p1_trace (0 ∷ 0 ∷ 0 ∷ 0 ∷ []) (has 0 (bytes "TEST")) (slip_runs x)
unfolding four_form
four-reads x a h = (h.known four_rule four-taken four_form p1_log p1_trace p1-accepted refl).answer

four-1000 : passing_in p1_trace (0 ∷ 0 ∷ 0 ∷ 0 ∷ []) (has 0 (bytes "TEST")) (slip_runs (slip_of (1 ∷ 0 ∷ 0 ∷ 0 ∷ []))) ≡ Ok false
unfolding passing_in fits? eval label_of pad
four-1000 = refl

four-5 : passing_in p1_trace (0 ∷ 0 ∷ 0 ∷ 0 ∷ []) (has 0 (bytes "TEST")) (slip_runs (record { count = 5; run = (slip_of (0 ∷ 0 ∷ 0 ∷ 1 ∷ [])).run })) ≡ Err NoFinishedRun
unfolding passing_in fits? eval label_of pad
four-5 = refl

places_are : slip_of (4 ∷ 5 ∷ []) ≡ record { count = 2; run = run_no 4 ∷ run_no 5 ∷ run_no 0 ∷ run_no 0 ∷ [] }
unfolding pad
places_are = refl

turned_not : Before (1 ∷ 0 ∷ []) (0 ∷ 5 ∷ []) → ⊥
unfolding Before
turned_not (inl l) = omega arith
turned_not (inr e) = omega (arith, e.0)

next_then : Before (0 ∷ 1 ∷ []) (0 ∷ 2 ∷ [])
unfolding Before
next_then = inr (refl, inl (omega arith))

five_not : SlipForm (neg five_some) → ⊥
unfolding chain_of
five_not s = omega (arith, ap length (one_chain five_some s), s.four)

one_formed : SlipForm (neg (exists 0 (neg (has 0 (bytes "TEST")))))
unfolding WithoutSome
one_formed = record { variables = 0 ∷ []; part = neg (has 0 (bytes "TEST")); not_over = refl; one = omega arith; four = omega arith; without = tt }

four_formed : SlipForm (neg (exists 0 (exists 1 (exists 2 (exists 3 (both (pair before 0 1) (neg (both (pair overlaps 1 2) (pair same 2 3)))))))))
unfolding WithoutSome
four_formed = record { variables = 0 ∷ 1 ∷ 2 ∷ 3 ∷ []; part = both (pair before 0 1) (neg (both (pair overlaps 1 2) (pair same 2 3))); not_over = refl; one = omega arith; four = omega arith; without = (tt, (tt, tt)) }

twice_formed : SlipForm bound_twice
unfolding WithoutSome
twice_formed = record { variables = 0 ∷ 0 ∷ []; part = has 0 (bytes "TEST"); not_over = refl; one = omega arith; four = omega arith; without = tt }

none_below : SlipForm (neg (has 0 (bytes "TEST"))) → ⊥
unfolding slip_form? part_of flat? shallow
none_below = (form_tells (neg (has 0 (bytes "TEST"))) refl).no refl

left_some : SlipForm (neg (exists 0 (both (exists 1 (pair before 0 1)) (has 0 (bytes "TEST"))))) → ⊥
unfolding slip_form? part_of flat? shallow
left_some = (form_tells (neg (exists 0 (both (exists 1 (pair before 0 1)) (has 0 (bytes "TEST"))))) refl).no refl

p10_other : SlipForm (formula_of p10_file p10_rule) → ⊥
p10_other s = bare_some (subst SlipForm p10-formula s)

bare_refused : rule_of bare_five ≡ Err RuleTooDeep
unfolding rule_of part and_then nothing_follows label_start listed read_label read_labels read_nodes tree formula_at times_named once_below whole_table scoped shallow letter? digit? capital label_form?
bare_refused = refl

pub slip_cases : SlipCases
slip_cases =
    record {
      p1 = p1_found;
      p1-passes = λ a h. p1-reads (0 ∷ 1 ∷ []) a h ∙ reads_both;
      p1_turned = λ a h. p1-reads (1 ∷ 0 ∷ []) a h ∙ reads_turned;
      p1_one_run = λ a h. refused_with a 22 NoFinishedRun (p1-reads (0 ∷ []) a h ∙ reads_one) refl;
      p1_absent = λ a h. refused_with a 22 NoFinishedRun (p1-reads (0 ∷ 2 ∷ []) a h ∙ reads_absent) refl;
      form = evening_form;
      some_below = some_below_chain;
      no_not = bare_some;
      two_nots = not_twice;
      innermost = innermost-binds;
      outermost = outermost_first;
      outermost-only = turned_not;
      then_next = next_then;
      row = row_found;
      row_later = λ a h. row_reads (0 ∷ 2 ∷ []) a h ∙ row-02;
      row_last = λ a h. row_reads (1 ∷ 2 ∷ []) a h ∙ row-12;
      row_twice = λ a h. row_reads (1 ∷ 1 ∷ []) a h ∙ row-11;
      row_open = λ a h. refused_with a 22 NoFinishedRun (row_reads (0 ∷ 3 ∷ []) a h ∙ row-03) refl;
      row_three = λ a h. refused_with a 22 NoFinishedRun (row_reads (0 ∷ 1 ∷ 2 ∷ []) a h ∙ row-012) refl;
      by_number = number_found;
      none = three_found;
      none_open = three-reads;
      four = four_found;
      four_turned = λ a h. four-reads (slip_of (1 ∷ 0 ∷ 0 ∷ 0 ∷ [])) a h ∙ four-1000;
      five_runs = λ a h. refused_with a 22 NoFinishedRun (four-reads (record { count = 5; run = (slip_of (0 ∷ 0 ∷ 0 ∷ 1 ∷ [])).run }) a h ∙ four-5) refl;
      places = places_are;
      behind = refl;
      one_some = one_formed;
      four-some = four_formed;
      some_twice = twice_formed;
      five-some = five_not;
      no_some = none_below;
      some_left = left_some;
      other_found = λ r a h. h.other_form p10_rule p10-taken p10_other;
      other_read = λ r x a h. h.other_form p10_rule p10-taken p10_other;
      ten_found = λ r a h. h.rule RuleTooDeep bare_refused;
      ten_read = λ r x a h. h.rule RuleTooDeep bare_refused;
      spoiled_read = λ r n x a h. h.no_record p1_rule p1-taken p1_form n;
    }

-- Worked cases of slips: that of P1, and cases that tell each sentence of the request from its misreadings.
use Rattle.std.specs.Prelude.{ℕ, ◌≡◌, List, [], ◌∷◌, ◌++◌}
use Rattle.lists.specs.Lists.{bytes}
use Rattle.labels.specs.Label.{label_of}
use Rattle.trace.specs.declared.Record.{Record}
use Rattle.trace.specs.Trace.{Trace}
use Rattle.trace.specs.Record.{record_of, Valid}
use Rattle.rules.specs.Formula.{Formula, both, neg, exists, has, pair, before, overlaps, same}
use Rattle.rules.specs.Cases.{p1_file, p10_file, no_evening_includes_test, no_test_without_run_after}
use Rattle.rules.specs.Cases.{some_same_as_itself}
use Rattle.slip_form.specs.Form.{SlipForm}
use Rattle.slip_form.specs.declared.Slip.{Slip}
use Rattle.slip_form.specs.Slips.{bind_each, unbound, Before, run_no, slip_runs, slip_of}
use Rattle.std.specs.Prelude.{Ok, true, false}
use Rattle.refusals.specs.Refusal.{RefusedWith}
use Rattle.slips.specs.Answers.{Finding, Passing, with_slip, without_slip, FindsFirst, ReadsSlip}
use Rattle.whole_log.specs.Cases.{p1_run, p1_trace}

-- two "some" of one chain that bind the same variable
abbrev pub bound_twice : Formula
bound_twice = neg (exists 0 (exists 0 (has 0 (bytes "TEST"))))

abbrev pub four_some : Formula
four_some =
    exists 0 (exists 1 (exists 2 (exists 3 (both (pair before 0 1) (neg (both (pair overlaps 1 2) (pair same 2 3)))))))

abbrev pub five_some : Formula
five_some = exists 0 (exists 0 (exists 0 (exists 0 (exists 0 (has 0 (bytes "TEST"))))))

-- no run is before another
abbrev pub none_before : List ℕ
none_before = bytes "RUL" ++ (1 ∷ 0 ∷ 0 ∷ 4 ∷ 5 ∷ 0 ∷ 1 ∷ 3 ∷ 1 ∷ 0 ∷ 3 ∷ 0 ∷ 1 ∷ 2 ∷ 2 ∷ 0 ∷ [])

-- all runs are OTHER; and a chain of four that binds one variable
abbrev pub all_other : List ℕ
all_other = bytes "RUL" ++ (1 ∷ 0 ∷ 1 ∷ 5 ∷ bytes "OTHER" ++ (4 ∷ 4 ∷ 0 ∷ 0 ∷ 2 ∷ 0 ∷ 0 ∷ 3 ∷ 0 ∷ 1 ∷ 2 ∷ 2 ∷ 0 ∷ []))

abbrev pub no_test_four_times : List ℕ
no_test_four_times =
    bytes "RUL" ++ (1 ∷ 0 ∷ 1 ∷ 4 ∷ bytes "TEST" ++ (6
    ∷ 4 ∷ 0 ∷ 0 ∷ 3 ∷ 0 ∷ 0 ∷ 3 ∷ 0 ∷ 1 ∷ 3 ∷ 0 ∷ 2 ∷ 3 ∷ 0 ∷ 3 ∷ 2 ∷ 4 ∷ 0 ∷ []))

-- a chain of five without "not": both 10 and 26 can be said of it
abbrev pub bare_five : List ℕ
bare_five =
    bytes "RUL" ++ (1 ∷ 0 ∷ 0 ∷ 6
    ∷ 8 ∷ 0 ∷ 0 ∷ 3 ∷ 0 ∷ 0 ∷ 3 ∷ 0 ∷ 1 ∷ 3 ∷ 0 ∷ 2 ∷ 3 ∷ 0 ∷ 3 ∷ 3 ∷ 0 ∷ 4 ∷ [])

-- three runs one after another, and a fourth that is open
abbrev pub row_log : List ℕ
row_log = bytes "B 1\nE 1\nB 2\nE 2\nB 3\nE 3\nB 4\n"

abbrev pub row_trace : Trace
row_trace =
    record { runs = p1_run 1 1 2 0 ∷ p1_run 2 3 4 0 ∷ p1_run 3 5 6 0 ∷ p1_run 4 7 0 0 ∷ []; labels = []; lines = 7 }

-- P1's first three lines
abbrev pub three_lines : List ℕ
three_lines = bytes "B 7 EVENING\nB 9 TEST\nE 9\n"

abbrev pub three_trace : Trace
three_trace =
    record {
      runs = p1_run 7 1 0 1 ∷ p1_run 9 2 3 2 ∷ [];
      labels = label_of (bytes "EVENING") ∷ label_of (bytes "TEST") ∷ [];
      lines = 3;
    }

pub record SlipCases : Type 0 where
  -- P1: runs 0 and 1 make the rule fail
  pub p1 : (a : Finding) → FindsFirst p1_file (record_of p1_trace) a → a ≡ with_slip (slip_of (0 ∷ 1 ∷ []))
  pub p1-passes : (a : Passing) → ReadsSlip p1_file (record_of p1_trace) (slip_of (0 ∷ 1 ∷ [])) a → a ≡ Ok true
  pub p1_turned : (a : Passing) → ReadsSlip p1_file (record_of p1_trace) (slip_of (1 ∷ 0 ∷ [])) a → a ≡ Ok false
  pub p1_one_run : (a : Passing) → ReadsSlip p1_file (record_of p1_trace) (slip_of (0 ∷ [])) a → RefusedWith 22 a
  pub p1_absent : (a : Passing) → ReadsSlip p1_file (record_of p1_trace) (slip_of (0 ∷ 2 ∷ [])) a
      → RefusedWith 22 a
  -- the form: "not" over a chain over a part without "some"; no "some" below, no bare "some", no "not" twice
  pub form : SlipForm no_evening_includes_test
  pub some_below : SlipForm no_test_without_run_after → ⊥
  pub no_not : SlipForm some_same_as_itself → ⊥
  pub two_nots : SlipForm (neg (neg some_same_as_itself)) → ⊥
  -- "the innermost binds": of runs 3 and 5 the inner part speaks of run 5
  pub innermost : (s : SlipForm bound_twice) → bind_each unbound s.variables (3 ∷ 5 ∷ []) 0 ≡ 5
  -- "outermost compared first"
  pub outermost : Before (0 ∷ 5 ∷ []) (1 ∷ 0 ∷ [])
  pub outermost-only : Before (1 ∷ 0 ∷ []) (0 ∷ 5 ∷ []) → ⊥
  -- and then the next
  pub then_next : Before (0 ∷ 1 ∷ []) (0 ∷ 2 ∷ [])
  -- several slips pass: each of them is read, and the first is found
  pub row : (a : Finding) → FindsFirst none_before (record_of row_trace) a → a ≡ with_slip (slip_of (0 ∷ 1 ∷ []))
  pub row_later : (a : Passing) → ReadsSlip none_before (record_of row_trace) (slip_of (0 ∷ 2 ∷ [])) a
      → a ≡ Ok true
  pub row_last : (a : Passing) → ReadsSlip none_before (record_of row_trace) (slip_of (1 ∷ 2 ∷ [])) a
      → a ≡ Ok true
  pub row_twice : (a : Passing) → ReadsSlip none_before (record_of row_trace) (slip_of (1 ∷ 1 ∷ [])) a
      → a ≡ Ok false
  pub row_open : (a : Passing) → ReadsSlip none_before (record_of row_trace) (slip_of (0 ∷ 3 ∷ [])) a
      → RefusedWith 22 a
  pub row_three : (a : Passing) → ReadsSlip none_before (record_of row_trace) (slip_of (0 ∷ 1 ∷ 2 ∷ [])) a
      → RefusedWith 22 a
  -- by run numbers, and not by the order in which runs finish: run 1 finishes before run 0
  pub by_number : (a : Finding) → FindsFirst all_other (record_of p1_trace) a → a ≡ with_slip (slip_of (0 ∷ []))
  -- "none", while run 0 is open
  pub none : (a : Finding) → FindsFirst p1_file (record_of three_trace) a → a ≡ without_slip
  pub none_open : (a : Passing) → ReadsSlip p1_file (record_of three_trace) (slip_of (0 ∷ 1 ∷ [])) a
      → RefusedWith 22 a
  -- a chain of four; no slip of five runs, whatever its places hold
  pub four : (a : Finding) → FindsFirst no_test_four_times (record_of p1_trace) a
      → a ≡ with_slip (slip_of (0 ∷ 0 ∷ 0 ∷ 1 ∷ []))
  pub four_turned : (a : Passing) → ReadsSlip no_test_four_times (record_of p1_trace) (slip_of (1 ∷ 0 ∷ 0 ∷ 0 ∷ [])) a
      → a ≡ Ok false
  pub five_runs : (a : Passing)
      → ReadsSlip no_test_four_times (record_of p1_trace)
      (record { count = 5; run = (slip_of (0 ∷ 0 ∷ 0 ∷ 1 ∷ [])).run }) a
      → RefusedWith 22 a
  -- the places of a slip: those behind its count have no part, and are 0 in ours
  pub places : slip_of (4 ∷ 5 ∷ []) ≡ record { count = 2; run = run_no 4 ∷ run_no 5 ∷ run_no 0 ∷ run_no 0 ∷ [] }
  pub behind : slip_runs (record { count = 2; run = run_no 4 ∷ run_no 5 ∷ run_no 6 ∷ run_no 7 ∷ [] }) ≡ 4 ∷ 5 ∷ []
  -- the form: one "some", four, a "not" in the part, a variable bound twice; not five, and no "some" on either side
  pub one_some : SlipForm (neg (exists 0 (neg (has 0 (bytes "TEST")))))
  pub four-some : SlipForm (neg four_some)
  pub some_twice : SlipForm bound_twice
  pub five-some : SlipForm (neg five_some) → ⊥
  pub no_some : SlipForm (neg (has 0 (bytes "TEST"))) → ⊥
  pub some_left : SlipForm (neg (exists 0 (both (exists 1 (pair before 0 1)) (has 0 (bytes "TEST"))))) → ⊥
  -- a rule of another form is 26 whatever the record and the slip
  pub other_found : (r : Record) (a : Finding) → FindsFirst p10_file r a → RefusedWith 26 a
  pub other_read : (r : Record) (x : Slip) (a : Passing) → ReadsSlip p10_file r x a → RefusedWith 26 a
  -- "26 for a rule of another form, after 10"; 22 "after 21"
  pub ten_found : (r : Record) (a : Finding) → FindsFirst bare_five r a → RefusedWith 10 a
  pub ten_read : (r : Record) (x : Slip) (a : Passing) → ReadsSlip bare_five r x a → RefusedWith 10 a
  pub spoiled_read : (r : Record) → (Valid r → ⊥) → (x : Slip) (a : Passing) → ReadsSlip p1_file r x a
      → RefusedWith 21 a

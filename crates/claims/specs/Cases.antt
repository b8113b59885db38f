-- The worked cases P1 to P10, of the definitions that the calls' contracts name.
use Rattle.std.specs.Prelude.{ℕ, ◌≡◌, List, ◌++◌, length, set}
use Rattle.lists.specs.Lists.{bytes}
use Rattle.lines.specs.Line.{value}
use Rattle.pairs.specs.declared.Layout.{Layout}
use Rattle.pairs.specs.declared.Layout.TheVariants.{Square, Half}
use Rattle.pairs.specs.Layout.{place}
use Rattle.pairs.specs.Pairs.{work_of}
use Rattle.relations.specs.Compose.{Examples}
use Rattle.std.specs.Prelude.{Ok}
use Rattle.rules.specs.Rules.{rule_of, formula_of}
use Rattle.rules.specs.Cases.{p1_file, p1_rule, no_evening_includes_test, p10_file, p10_rule, some_same_as_itself}
use Rattle.logic.specs.declared.Verdict.TheVariants as Verdict
use Rattle.logic.specs.Verdict.{verdict_byte}
use Rattle.single.specs.declared.Outcome.TheVariants as Outcome
use Rattle.single.specs.Line.{judged}
use Rattle.reading.specs.declared.Ending.TheVariants as Ending
use Rattle.reading.specs.Reading.{ended}
use Rattle.whole_log.specs.declared.Mode.{Mode}
use Rattle.whole_log.specs.declared.Mode.TheVariants.{FirstFailure, Full}
use Rattle.whole_log.specs.Log.{log_of}
use Rattle.whole_log.specs.Part.{read_part}
use Rattle.whole_log.specs.Cases.{Long, first_pair, p1_log, p1_trace}
use Rattle.tallies.specs.Tally.{tally_after}
use Rattle.report.specs.Text.{report_text}
use Rattle.claims.specs.TypedCases.{TypedCases}
use Rattle.claims.specs.SlipCases.{SlipCases}
use Rattle.claims.specs.IdCases.{IdCases}
use Rattle.claims.specs.LetterCases.{LetterCases}
use Rattle.claims.specs.BookCases.{BookCases}

pub record P1 : Type 0 where
  pub size : length p1_file ≡ 44
  pub rule : rule_of p1_file ≡ Ok p1_rule
  pub formula : formula_of p1_file p1_rule ≡ no_evening_includes_test
  -- H, H, H, F
  pub verdicts : (lay : Layout) (w out : List ℕ) → Long lay w out
      → log_of lay p1_file p1_log w out
      ≡ (ended p1_trace Ending.Read, work_of lay p1_trace w, set (set (set (set out 0 1) 1 1) 2 1) 3 0)
  -- "Whole output"
  pub output : report_text p1_file p1_log ≡ bytes "1 H\n2 H\n3 H\n4 F\nT 4 2 2 0 1\n"
  pub tally : tally_after p1_file p1_rule p1_log p1_trace
      ≡ record { lines = 4; begun = 2; finished = 2; running = 0; failing = 1 }
  -- "Pair byte 1 (run 0 with run 1) is 0, 1, 4, 7 after the four lines."; in the half layout it is byte 0
  pub byte-1 : (lay : Layout) (w out : List ℕ) → Long lay w out → first_pair lay (bytes "B 7 EVENING\n") w out ≡ 0
  pub byte-2 : (lay : Layout) (w out : List ℕ) → Long lay w out
      → first_pair lay (bytes "B 7 EVENING\nB 9 TEST\n") w out ≡ 1
  pub byte-3 : (lay : Layout) (w out : List ℕ) → Long lay w out
      → first_pair lay (bytes "B 7 EVENING\nB 9 TEST\nE 9\n") w out ≡ 4
  pub byte-4 : (lay : Layout) (w out : List ℕ) → Long lay w out → first_pair lay p1_log w out ≡ 7

-- "with P1's rule, `B 1 TEST`, `E 1` gives H, H"
abbrev pub P9 : Type 0
P9 = (lay : Layout) (w out : List ℕ) → Long lay w out
    → (log_of lay p1_file (bytes "B 1 TEST\nE 1\n") w out).2 ≡ set (set out 0 1) 1 1

-- "rule "some A, same A A" over `B 1`, `E 1` gives F, F", in the full mode
pub record P10 : Type 0 where
  pub rule : rule_of p10_file ≡ Ok p10_rule
  pub formula : formula_of p10_file p10_rule ≡ some_same_as_itself
  pub verdicts : (lay : Layout) (w out : List ℕ) → Long lay w out
      → (log_of lay p10_file (read_part Full p10_file (bytes "B 1\nE 1\n")) w out).2 ≡ set (set out 0 0) 1 0

-- how an id's digits are read, and how a verdict is told
pub record Numbers : Type 0 where
  pub most : value (bytes "65535") ≡ 65535
  pub in_order : value (bytes "120") ≡ 120
  pub holds : (judged Verdict.Holds ≡ Outcome.Holds) × (verdict_byte Verdict.Holds ≡ 1)
  pub fails : (judged Verdict.Fails ≡ Outcome.Fails) × (verdict_byte Verdict.Fails ≡ 0)

-- the places of some pairs in each layout
pub record LayoutCases : Type 0 where
  pub of-0-1 : (place Square 0 1 ≡ 1) × (place Half 0 1 ≡ 0)
  pub of-0-2 : (place Square 0 2 ≡ 2) × (place Half 0 2 ≡ 1)
  pub of-1-2 : (place Square 1 2 ≡ 130) × (place Half 1 2 ≡ 2)
  pub of-0-127 : (place Square 0 127 ≡ 127) × (place Half 0 127 ≡ 8001)
  pub of-126-127 : (place Square 126 127 ≡ 16255) × (place Half 126 127 ≡ 8127)

-- how much of a log is read
pub record ModeCases : Type 0 where
  -- "P1 is unchanged": its only F is its last line
  pub p1 : (mode : Mode) → read_part mode p1_file p1_log ≡ p1_log
  pub p9 : (mode : Mode) → read_part mode p1_file (bytes "B 1 TEST\nE 1\n") ≡ bytes "B 1 TEST\nE 1\n"
  -- "a line after the first F meets no refusal in the new default", not even bytes without LF
  pub ended-again : read_part FirstFailure p1_file (p1_log ++ bytes "E 7\nB 1\n") ≡ p1_log
  pub no_lf : read_part FirstFailure p1_file (p1_log ++ bytes "B 1") ≡ p1_log
  -- a line that is refused before any fails
  pub refused_first : read_part FirstFailure p1_file (bytes "B 7 EVENING\nE 9\nE 7\n") ≡ bytes "B 7 EVENING\nE 9\nE 7\n"
  -- P10 by default: the rule fails with the begin line, which is printed and counted
  pub p10 : read_part FirstFailure p10_file (bytes "B 1\nE 1\n") ≡ bytes "B 1\n"
  pub p10-output : report_text p10_file (read_part FirstFailure p10_file (bytes "B 1\nE 1\n"))
      ≡ bytes "1 F\nT 1 1 0 1 1\n"
  -- and in the full mode
  pub p10_full : report_text p10_file (read_part Full p10_file (bytes "B 1\nE 1\n")) ≡ bytes "1 F\n2 F\nT 2 1 1 0 2\n"
  pub full_refused : report_text p1_file (read_part Full p1_file (p1_log ++ bytes "E 7\nB 1\n"))
      ≡ bytes "1 H\n2 H\n3 H\n4 F\n5 R17\nT 4 2 2 0 1\n"

pub record Cases : Type 0 where
  pub p1 : P1
  -- "P2 before, before: 1. P3 before, after: 63. P4 overlaps, overlaps: 5. P5 before, during: 37. P6 overlaps,
  -- includes: 21. P7 includes, during: 60. P8 set 0 with 63: 0."
  pub p2_to_p8 : Examples
  pub p9 : P9
  pub p10 : P10
  pub numbers : Numbers
  pub typed : TypedCases
  pub slips : SlipCases
  pub ids : IdCases
  pub layouts : LayoutCases
  pub modes : ModeCases
  pub letters : LetterCases
  pub book : BookCases

-- The worked cases P1 to P10, by computation.
use Prim.Native.Nat.{ℕ}
use mathlib.Core.Path.{◌≡◌, refl, ap, ◌∙◌}
use mathlib.Core.List.{List, [], ◌∷◌}
use lib.ListN.{set}
use Rattle.lists.specs.Lists.{bytes, pad}
use Rattle.labels.specs.Label.{label_of, equal_label?}
use Rattle.labels.specs.Table.{index_of, number_of, with_label}
use Rattle.lines.specs.Line.{value, event_of}
use Rattle.lines.specs.Log.{lines_of}
use Rattle.trace.specs.Trace.{no_trace, step, apply_to, apply, begin_run, end_run, begin, end, running?, close}
use Rattle.pairs.specs.declared.Layout.{Layout}
use Rattle.pairs.specs.Pairs.{pair_set, pair_byte, work_of}
use Rattle.relations.proofs.Examples.{examples}
use Rattle.rules.specs.Labels.{label_start}
use Rattle.rules.specs.Table.{tree, formula_at}
use Rattle.rules.specs.Cases.{p1_file, p1_rule, p10_file, p10_rule}
use Rattle.rules.proofs.Worked.{p1-taken, p1-formula, p10-taken, p10-formula}
use Rattle.logic.specs.Model.{eval}
use Rattle.logic.specs.Verdict.{verdict_of}
use Rattle.reading.specs.declared.Ending.TheVariants as Ending
use Rattle.reading.specs.Reading.{by_answer, ended}
use Rattle.whole_log.specs.Log.{lines_from, log_of}
use Rattle.whole_log.proofs.Part.{part_full}
use Rattle.whole_log.specs.Repeated.{Result}
use Rattle.trace.specs.Orderly.{finished_runs}
use Rattle.tallies.specs.Tally.{tally_of, failing_from, tally_after}
use Rattle.report.proofs.Examples.{p1-output}
use Rattle.whole_log.specs.Cases.{p1_log, p1_run, p1_trace}
use Rattle.claims.specs.Cases.{P1, P9, P10, Numbers, LayoutCases, Cases}
use Rattle.claims.proofs.LinesRead.{reads, byte_of}
use Rattle.claims.proofs.TypedCases.{typed_cases}
use Rattle.claims.proofs.SlipCases.{slip_cases}
use Rattle.claims.proofs.IdCases.{id_cases}
use Rattle.claims.proofs.LetterCases.{letter_cases}
use Rattle.claims.proofs.BookCases.{book_cases}
use Rattle.claims.proofs.ModeCases.{mode_cases}

-- ── P1 ──
p1_lines : (lay : Layout) (w out : List ℕ) → lines_from lay p1_file p1_rule no_trace (lines_of p1_log) w out ≡ (ended p1_trace Ending.Read, work_of lay p1_trace w, set (set (set (set out 0 1) 1 1) 2 1) 3 0)
unfolding lines_from by_answer verdict_of eval tree formula_at label_start step apply_to apply event_of begin_run with_label label_of pad index_of begin equal_label? number_of end_run running? end close
p1_lines lay w out = refl

p1-failing : failing_from p1_file p1_rule no_trace (lines_of p1_log) ≡ 1
unfolding failing_from by_answer verdict_of eval tree formula_at label_start step apply_to apply event_of begin_run with_label label_of pad index_of begin equal_label? number_of end_run running? end close
p1-failing = refl

p1_tally : tally_after p1_file p1_rule p1_log p1_trace ≡ record { lines = 4; begun = 2; finished = 2; running = 0; failing = 1 }
unfolding tally_after tally_of finished_runs
p1_tally = ap (tally_of p1_trace) p1-failing

p1_case : P1
unfolding lines_from by_answer step apply_to apply event_of begin_run with_label label_of pad index_of begin equal_label? number_of end_run running? end close pair_byte pair_set
p1_case =
    record {
      size = refl;
      rule = p1-taken;
      formula = p1-formula;
      verdicts = λ lay w out h. reads lay p1_file p1_rule p1-taken p1_log w out h ∙ p1_lines lay w out;
      output = p1-output;
      tally = p1_tally;
      byte-1 = λ lay w out h. byte_of lay _ (p1_run 7 1 0 1 ∷ []) w out h refl;
      byte-2 = λ lay w out h. byte_of lay _ (p1_run 7 1 0 1 ∷ p1_run 9 2 0 2 ∷ []) w out h refl;
      byte-3 = λ lay w out h. byte_of lay _ (p1_run 7 1 0 1 ∷ p1_run 9 2 3 2 ∷ []) w out h refl;
      byte-4 = λ lay w out h. byte_of lay _ p1_trace.runs w out h refl;
    }

-- ── P9 and P10 ──
p9_lines : (lay : Layout) (w out : List ℕ) → (lines_from lay p1_file p1_rule no_trace (lines_of (bytes "B 1 TEST\nE 1\n")) w out).2 ≡ set (set out 0 1) 1 1
unfolding lines_from by_answer verdict_of eval tree formula_at label_start step apply_to apply event_of begin_run with_label label_of pad index_of begin equal_label? number_of end_run running? end close
p9_lines lay w out = refl

p9_case : P9
p9_case lay w out h = ap (λ (z : Result). z.2) (reads lay p1_file p1_rule p1-taken (bytes "B 1 TEST\nE 1\n") w out h) ∙ p9_lines lay w out

p10_lines : (lay : Layout) (w out : List ℕ) → (lines_from lay p10_file p10_rule no_trace (lines_of (bytes "B 1\nE 1\n")) w out).2 ≡ set (set out 0 0) 1 0
unfolding lines_from by_answer verdict_of eval tree formula_at label_start step apply_to apply event_of begin_run with_label label_of pad index_of begin equal_label? number_of end_run running? end close
p10_lines lay w out = refl

p10_case : P10
p10_case =
    record {
      rule = p10-taken;
      formula = p10-formula;
      verdicts = λ lay w out h.
          ap (λ (log : List ℕ). (log_of lay p10_file log w out).2) (part_full p10_file (bytes "B 1\nE 1\n"))
          ∙ (ap (λ (z : Result). z.2) (reads lay p10_file p10_rule p10-taken (bytes "B 1\nE 1\n") w out h) ∙ p10_lines lay w out);
    }

the_numbers : Numbers
unfolding value
the_numbers = record { most = refl; in_order = refl; holds = (refl, refl); fails = (refl, refl) }

layout_cases : LayoutCases
layout_cases = record { of-0-1 = (refl, refl); of-0-2 = (refl, refl); of-1-2 = (refl, refl); of-0-127 = (refl, refl); of-126-127 = (refl, refl) }

pub the_cases : Cases
the_cases = record { p1 = p1_case; p2_to_p8 = examples; p9 = p9_case; p10 = p10_case; numbers = the_numbers; typed = typed_cases; slips = slip_cases; ids = id_cases; layouts = layout_cases; modes = mode_cases; letters = letter_cases; book = book_cases }

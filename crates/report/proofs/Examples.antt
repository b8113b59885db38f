-- Worked cases of the paper, by computation: the whole output of P1, a refused line, and ids that are used again.
use Prim.Native.Nat.{ℕ}
use mathlib.Core.Path.{◌≡◌, refl, ◌∙◌}
use mathlib.Core.List.{List}
use Rattle.lists.specs.Lists.{bytes, pad}
use Rattle.labels.specs.Label.{label_of, equal_label?}
use Rattle.labels.specs.Table.{index_of, number_of, with_label}
use Rattle.lines.specs.Line.{event_of}
use Rattle.lines.specs.Log.{lines_of}
use Rattle.lines.specs.Render.{digits}
use Rattle.trace.specs.Trace.{no_trace, step, apply_to, apply, begin_run, end_run, begin, end, running?, close}
use Rattle.rules.specs.Labels.{label_start}
use Rattle.rules.specs.Table.{tree, formula_at}
use Rattle.rules.specs.Rules.{rule_of}
use Rattle.rules.specs.Cases.{p1_file, p1_rule}
use Rattle.rules.proofs.Worked.{p1-taken}
use Rattle.logic.specs.Model.{eval}
use Rattle.logic.specs.Verdict.{verdict_of}
use Rattle.reading.specs.Reading.{by_answer}
use Rattle.trace.specs.Orderly.{finished_runs}
use Rattle.tallies.specs.Tally.{tally_of}
use Rattle.single.proofs.LineCall.{with_taken}
use Rattle.text_pieces.specs.Pieces.{decimal, refused_text}
use Rattle.report.specs.Text.{tally_text, text_from, report_text}

-- with P1's rule
by_rule : (log s : List ℕ) → text_from p1_file p1_rule no_trace 0 (lines_of log) ≡ s → report_text p1_file log ≡ s
unfolding report_text
by_rule log s e = with_taken {A = List ℕ} (rule_of p1_file) p1_rule _ _ p1-taken ∙ e

-- "Whole output"
pub p1-output : report_text p1_file (bytes "B 7 EVENING\nB 9 TEST\nE 9\nE 7\n") ≡ bytes "1 H\n2 H\n3 H\n4 F\nT 4 2 2 0 1\n"
unfolding text_from refused_text tally_text decimal digits tally_of finished_runs by_answer verdict_of eval tree formula_at label_start step apply_to apply event_of begin_run with_label label_of pad index_of begin equal_label? number_of end_run running? end close
p1-output = by_rule _ _ refl

-- "(as `3 R15`)": "15 only while the id's run is open"
pub refused_output : report_text p1_file (bytes "B 1\nB 2\nB 1\n") ≡ bytes "1 H\n2 H\n3 R15\nT 2 2 0 2 0\n"
unfolding text_from refused_text tally_text decimal digits tally_of finished_runs by_answer verdict_of eval tree formula_at label_start step apply_to apply event_of begin_run with_label label_of pad index_of begin equal_label? number_of end_run running? end close
refused_output = by_rule _ _ refl

-- the second run of an id is another run: the EVENING of id 1 is over when its TEST comes
pub again-output : report_text p1_file (bytes "B 1 EVENING\nE 1\nB 1 TEST\nE 1\nE 1\n") ≡ bytes "1 H\n2 H\n3 H\n4 H\n5 R17\nT 4 2 2 0 0\n"
unfolding text_from refused_text tally_text decimal digits tally_of finished_runs by_answer verdict_of eval tree formula_at label_start step apply_to apply event_of begin_run with_label label_of pad index_of begin equal_label? number_of end_run running? end close
again-output = by_rule _ _ refl

-- and the second EVENING of id 1 is the one that includes the TEST
pub second-output : report_text p1_file (bytes "B 1 EVENING\nE 1\nB 1 EVENING\nB 2 TEST\nE 2\nE 1\n") ≡ bytes "1 H\n2 H\n3 H\n4 H\n5 H\n6 F\nT 6 3 3 0 1\n"
unfolding text_from refused_text tally_text decimal digits tally_of finished_runs by_answer verdict_of eval tree formula_at label_start step apply_to apply event_of begin_run with_label label_of pad index_of begin equal_label? number_of end_run running? end close
second-output = by_rule _ _ refl

-- How much of a log is read, by computation.
use Prim.Native.Nat.{ℕ}
use mathlib.Core.Path.{◌≡◌, refl, ap, ◌∙◌}
use mathlib.Core.List.{List, ◌++◌}
use Rattle.lists.specs.Lists.{bytes, pad}
use Rattle.labels.specs.Label.{label_of, equal_label?}
use Rattle.labels.specs.Table.{index_of, number_of, with_label}
use Rattle.lines.specs.Line.{event_of}
use Rattle.lines.specs.Log.{lines_of}
use Rattle.lines.specs.Render.{digits}
use Rattle.trace.specs.Trace.{no_trace, step, apply_to, apply, begin_run, end_run, begin, end, running?, close}
use Rattle.rules.specs.declared.Rule.{Rule}
use Rattle.std.specs.Prelude.{Ok}
use Rattle.rules.specs.Labels.{label_start}
use Rattle.rules.specs.Table.{tree, formula_at}
use Rattle.rules.specs.Rules.{rule_of}
use Rattle.rules.specs.Cases.{p1_file, p1_rule, p10_file, p10_rule}
use Rattle.rules.proofs.Worked.{p1-taken, p10-taken}
use Rattle.logic.specs.Model.{eval}
use Rattle.logic.specs.Verdict.{verdict_of}
use Rattle.reading.specs.Reading.{by_answer}
use Rattle.trace.specs.Orderly.{finished_runs}
use Rattle.tallies.specs.Tally.{tally_of}
use Rattle.single.proofs.LineCall.{with_taken}
use Rattle.whole_log.specs.declared.Mode.{Mode}
use Rattle.whole_log.specs.declared.Mode.TheVariants.{FirstFailure, Full}
use Rattle.whole_log.specs.Part.{to_failure, read_part}
use Rattle.whole_log.specs.Cases.{p1_log}
use Rattle.whole_log.proofs.Part.{part_full, part_ruled}
use Rattle.text_pieces.specs.Pieces.{decimal, refused_text}
use Rattle.report.specs.Text.{tally_text, text_from, report_text}
use Rattle.claims.specs.Cases.{ModeCases}

-- ── the part ──
p1_part : (mode : Mode) → read_part mode p1_file p1_log ≡ p1_log
unfolding to_failure by_answer verdict_of eval tree formula_at label_start step apply_to apply event_of begin_run with_label label_of pad index_of begin equal_label? number_of end_run running? end close
p1_part Full = part_full p1_file p1_log
p1_part FirstFailure = part_ruled p1_file p1_rule p1-taken p1_log ∙ refl

p9_part : (mode : Mode) → read_part mode p1_file (bytes "B 1 TEST\nE 1\n") ≡ bytes "B 1 TEST\nE 1\n"
unfolding to_failure by_answer verdict_of eval tree formula_at label_start step apply_to apply event_of begin_run with_label label_of pad index_of begin equal_label? number_of end_run running? end close
p9_part Full = part_full p1_file (bytes "B 1 TEST\nE 1\n")
p9_part FirstFailure = part_ruled p1_file p1_rule p1-taken (bytes "B 1 TEST\nE 1\n") ∙ refl

behind-p1 : (read_part FirstFailure p1_file (p1_log ++ bytes "E 7\nB 1\n") ≡ p1_log) × (read_part FirstFailure p1_file (p1_log ++ bytes "B 1") ≡ p1_log)
unfolding to_failure by_answer verdict_of eval tree formula_at label_start step apply_to apply event_of begin_run with_label label_of pad index_of begin equal_label? number_of end_run running? end close
behind-p1 = (part_ruled p1_file p1_rule p1-taken (p1_log ++ bytes "E 7\nB 1\n") ∙ refl, part_ruled p1_file p1_rule p1-taken (p1_log ++ bytes "B 1") ∙ refl)

refused_part : read_part FirstFailure p1_file (bytes "B 7 EVENING\nE 9\nE 7\n") ≡ bytes "B 7 EVENING\nE 9\nE 7\n"
unfolding to_failure by_answer verdict_of eval tree formula_at label_start step apply_to apply event_of begin_run with_label label_of pad index_of begin equal_label? number_of end_run running? end close
refused_part = part_ruled p1_file p1_rule p1-taken (bytes "B 7 EVENING\nE 9\nE 7\n") ∙ refl

p10_part : read_part FirstFailure p10_file (bytes "B 1\nE 1\n") ≡ bytes "B 1\n"
unfolding to_failure by_answer verdict_of eval tree formula_at label_start step apply_to apply event_of begin_run with_label label_of pad index_of begin equal_label? number_of end_run running? end close
p10_part = part_ruled p10_file p10_rule p10-taken (bytes "B 1\nE 1\n") ∙ refl

-- ── the output ──
output : (file : List ℕ) (x : Rule) → rule_of file ≡ Ok x → (log s : List ℕ) → text_from file x no_trace 0 (lines_of log) ≡ s → report_text file log ≡ s
unfolding report_text
output file x rule log s e = with_taken {A = List ℕ} (rule_of file) x _ _ rule ∙ e

p10-output : report_text p10_file (bytes "B 1\n") ≡ bytes "1 F\nT 1 1 0 1 1\n"
unfolding text_from refused_text tally_text decimal digits tally_of finished_runs by_answer verdict_of eval tree formula_at label_start step apply_to apply event_of begin_run with_label label_of pad index_of begin equal_label? number_of end_run running? end close
p10-output = output p10_file p10_rule p10-taken (bytes "B 1\n") _ refl

p10_full : report_text p10_file (bytes "B 1\nE 1\n") ≡ bytes "1 F\n2 F\nT 2 1 1 0 2\n"
unfolding text_from refused_text tally_text decimal digits tally_of finished_runs by_answer verdict_of eval tree formula_at label_start step apply_to apply event_of begin_run with_label label_of pad index_of begin equal_label? number_of end_run running? end close
p10_full = output p10_file p10_rule p10-taken (bytes "B 1\nE 1\n") _ refl

p1_refused : report_text p1_file (p1_log ++ bytes "E 7\nB 1\n") ≡ bytes "1 H\n2 H\n3 H\n4 F\n5 R17\nT 4 2 2 0 1\n"
unfolding text_from refused_text tally_text decimal digits tally_of finished_runs by_answer verdict_of eval tree formula_at label_start step apply_to apply event_of begin_run with_label label_of pad index_of begin equal_label? number_of end_run running? end close
p1_refused = output p1_file p1_rule p1-taken (p1_log ++ bytes "E 7\nB 1\n") _ refl

pub mode_cases : ModeCases
mode_cases =
    record {
      p1 = p1_part;
      p9 = p9_part;
      ended-again = behind-p1.0;
      no_lf = behind-p1.1;
      refused_first = refused_part;
      p10 = p10_part;
      p10-output = ap (report_text p10_file) p10_part ∙ p10-output;
      p10_full = ap (report_text p10_file) (part_full p10_file (bytes "B 1\nE 1\n")) ∙ p10_full;
      full_refused = ap (report_text p1_file) (part_full p1_file (p1_log ++ bytes "E 7\nB 1\n")) ∙ p1_refused;
    }

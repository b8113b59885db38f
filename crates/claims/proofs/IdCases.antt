-- Ids that are used again, by computation.
use mathlib.Core.Path.{refl}
use mathlib.Core.List.{[], ◌∷◌}
use Rattle.labels.specs.Label.{label_of}
use Rattle.labels.specs.Table.{number_of, with_label}
use Rattle.lines.specs.Line.{event_of}
use Rattle.trace.specs.Trace.{step, apply_to, apply, begin_run, end_run, begin, end, running?, close, read}
use Rattle.pairs.specs.Pairs.{pair_set, pair_byte}
use Rattle.reading.specs.Reading.{by_answer}
use Rattle.whole_log.specs.Log.{lines_from}
use Rattle.report.proofs.Examples.{again-output, second-output}
use Rattle.claims.specs.IdCases.{bare_run, IdCases}
use Rattle.claims.proofs.LinesRead.{byte_of}

pub id_cases : IdCases
unfolding read lines_from by_answer step apply_to apply event_of begin_run with_label label_of number_of begin end_run running? end close pair_byte pair_set
id_cases =
    record {
      again = refl;
      closes = refl;
      closes_own = refl;
      open_once = refl;
      open_again = refl;
      room = (_, refl);
      no_room = refl;
      ended = refl;
      ended-again = refl;
      ended-beside = refl;
      never_begun = refl;
      noted = λ lay w out h. byte_of lay _ (bare_run 1 1 2 ∷ bare_run 1 3 4 ∷ []) w out h refl;
      kept = again-output;
      broken = second-output;
    }

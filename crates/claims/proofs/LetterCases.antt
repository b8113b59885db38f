-- Labels in either case, by computation.
use Prim.Native.Nat.{ℕ}
use mathlib.Core.Path.{◌≡◌, refl, ap, ◌∙◌}
use mathlib.Core.List.{List}
use lib.ListN.{length}
use Rattle.lists.specs.Lists.{bytes, pad}
use Rattle.labels.specs.Label.{digit?, letter?, capital, label_form?, label_of, equal_label?}
use Rattle.labels.specs.Fnv.{fnv_from}
use Rattle.labels.specs.Table.{index_of, number_of, with_label, first_place}
use Rattle.lines.specs.Line.{event_of}
use Rattle.lines.specs.Render.{digits}
use Rattle.trace.specs.Trace.{read, step, apply_to, apply, begin_run, end_run, begin, end, running?, close}
use Rattle.trace.specs.Orderly.{finished_runs}
use Rattle.std.specs.Prelude.{Ok, Err}
use Rattle.refusals.specs.declared.Refusal.TheVariants.{RuleLabel}
use Rattle.rules.specs.Parts.{part, and_then, nothing_follows}
use Rattle.rules.specs.Labels.{label_start, listed, read_label, read_labels}
use Rattle.rules.specs.Table.{read_nodes, tree, formula_at}
use Rattle.rules.specs.Checks.{times_named, once_below, whole_table}
use Rattle.rules.specs.Formula.{Formula, scoped, shallow}
use Rattle.rules.specs.Rules.{rule_of, formula_of}
use Rattle.rules.specs.Cases.{p1_file, p1_rule, no_evening_includes_test}
use Rattle.rules.proofs.Worked.{p1-taken}
use Rattle.logic.specs.Model.{eval}
use Rattle.logic.specs.Verdict.{verdict_of}
use Rattle.reading.specs.Reading.{by_answer}
use Rattle.single.proofs.LineCall.{with_taken}
use Rattle.tallies.specs.Tally.{tally_of}
use Rattle.text_pieces.specs.Pieces.{decimal, refused_text}
use Rattle.report.specs.Text.{tally_text, text_from, report_text}
use Rattle.signs.specs.Signs.{blank?, skip, sign, capital?, word_byte?, name_more, name, label}
use Rattle.atoms.specs.Atoms.{relation, read_same, read_has, read_pair, read_atom}
use Rattle.atoms.specs.Emit.{level_from, inside, put, close_or, emit}
use Rattle.typed.specs.Grammar.{read_or, tree_of, read_text}
use Rattle.typed_formula.specs.Meaning.{label_text, formula_for}
use Rattle.typed_grammar.specs.File as File
use Rattle.typed_grammar.specs.File.{labels_in}
use Rattle.typed_grammar.specs.Text.{text_in, rule_text}
use Rattle.typed_checks.specs.Said.{judged}
use Rattle.typed_file.specs.File.{nodes_bytes, file_from, file_of}
use Rattle.typed_file.specs.Answer.{typed_answer, bytes_of}
use Rattle.rule_text.specs.Text as Text
use Rattle.rule_text.specs.Text.{text_answer, answer_of}
use Rattle.output.specs.declared.Written.TheVariants.{Length}
use Rattle.claims.specs.LetterCases.{p1_small, two_labels, LetterCases}

-- ── rule files ──
small-taken : rule_of p1_small ≡ Ok p1_rule
unfolding rule_of part and_then nothing_follows label_start listed read_label read_labels read_nodes tree formula_at times_named once_below whole_table scoped shallow letter? digit? capital label_form?
small-taken = refl

small-formula : formula_of p1_small p1_rule ≡ no_evening_includes_test
unfolding formula_at tree label_start capital
small-formula = refl

small_written : text_answer p1_small 4096 ≡ Length 53
unfolding text_answer text_in
small_written = ap (answer_of p1_small) small-taken ∙ ap (λ (f : Formula). Length (length (rule_text f))) small-formula

small_text : Text.bytes_of p1_small (rule_of p1_small) ≡ bytes "!(exist A.(exist B.((A('EVENING')&B('TEST'))&A i B)))"
unfolding text_in
small_text = ap (Text.bytes_of p1_small) small-taken ∙ ap rule_text small-formula

hashes : (first_place (label_of (bytes "EVENING")) ≡ 15) × (first_place (label_of (bytes "evening")) ≡ 47)
unfolding first_place label_of pad fnv_from
hashes = (refl, refl)

lists : (rule_of (two_labels 65 97) ≡ Err RuleLabel) × (rule_of (two_labels 122 90) ≡ Err RuleLabel) × (rule_of (two_labels 65 98) ≡ Ok (record { labels = 2; nodes = 11; count = 2 }))
unfolding rule_of part and_then nothing_follows label_start listed read_label read_labels read_nodes tree formula_at times_named once_below whole_table scoped shallow letter? digit? capital label_form?
lists = (refl, refl, refl)

-- ── a log ──
small_log : report_text p1_file (bytes "B 7 evening\nB 9 Test\nE 9\nE 7\n") ≡ bytes "1 H\n2 H\n3 H\n4 F\nT 4 2 2 0 1\n"
unfolding report_text text_from refused_text tally_text decimal digits tally_of finished_runs by_answer verdict_of eval tree formula_at label_start step apply_to apply event_of begin_run with_label label_of pad index_of begin equal_label? number_of end_run running? end close capital
small_log = with_taken {A = List ℕ} (rule_of p1_file) p1_rule _ _ p1-taken ∙ refl

-- ── typed rules ──
typed-p1 : bytes_of (bytes "!exist A, B . A('evening') & B('Test') & A i B") (read_text (bytes "!exist A, B . A('evening') & B('Test') & A i B")) ≡ p1_file
unfolding letter? digit? capital label_form? scoped shallow blank? skip sign capital? word_byte? name_more name label relation read_same read_has read_pair read_atom read_or tree_of read_text level_from inside put close_or emit label_text formula_for File.with_label labels_in text_in judged nodes_bytes file_from file_of typed_answer
typed-p1 = refl

pub letter_cases : LetterCases
unfolding read step apply_to apply event_of begin_run with_label label_of pad index_of begin equal_label? number_of end_run running? end close letter? digit? capital label_form? scoped shallow blank? skip sign capital? word_byte? name_more name label relation read_same read_has read_pair read_atom read_or tree_of read_text level_from inside put close_or emit label_text formula_for File.with_label labels_in text_in judged nodes_bytes file_from file_of typed_answer
letter_cases =
    record {
      counted = (refl, refl, refl, refl, refl, refl, refl, refl);
      one_label = refl;
      others_stay = refl;
      beside = (refl, refl, refl, refl);
      small_b = refl;
      small_e = refl;
      p1-log = small_log;
      p1-rule = small-taken;
      p1-formula = small-formula;
      listed = lists.0;
      listed_back = lists.1;
      different = lists.2;
      typed-p1 = typed-p1;
      typed_one = refl;
      small_word = refl;
      two_names = refl;
      typed_beside = refl;
      written = small_written;
      written_text = small_text;
      hash = hashes.0;
      hash-small = hashes.1;
    }

-- The tables of shapes make the root ready for the evaluator; the formula is closed, so its moments are the same for every binding.
use Rattle.rules.specs.Rules.{formula_of}
use Rattle.row_table.specs.Ranks.{binding}
use Rattle.timeline.proofs.Root.{from_zero, root_ready, true_among}
use Rattle.timeline.proofs.true_moments.Goals as goal

pub times-requires : goal.times-requires
times-requires c = root_ready c.args.file.now c.args.rule _ _ _ c.args.runs c.requires.taken c.requires.shaped c.requires.table_words_in_bounds.0 c.requires.table_words_in_bounds.1

pub returns : goal.returns
returns c = λ M rows.
    true_among M (formula_of c.args.file.now c.args.rule) (binding from_zero) c.args.low c.args.count _ _ _ c.requires.taken.closed c.requires.table_words_in_bounds.3
    c.below.ensures c.from-dom.ensures (c.times.ensures M rows)

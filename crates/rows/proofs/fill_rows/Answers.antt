-- The numbers by rank make the sets by line and by label, and these make the rows.
use Rattle.rows.proofs.Meaning.{rows_filled}
use Rattle.rows.proofs.fill_rows.Goals as goal

pub earlier-begun-requires : goal.earlier-begun-requires
earlier-begun-requires c = c.by_rank-p.ensures.1.starts

pub earlier-ended-requires : goal.earlier-ended-requires
earlier-ended-requires c = c.by_rank-p.ensures.1.finishes

pub numbered-labelled-requires : goal.numbered-labelled-requires
numbered-labelled-requires c = c.by_rank-p.ensures.1.numbers

pub fill_table-requires : goal.fill_table-requires
fill_table-requires c = let begun = c.earlier-begun.ensures in
    let ended = c.earlier-ended.ensures in
    let labelled = c.numbered-labelled.ensures in record {
      ranks = (c.by_rank-p.ensures.1, c.requires.1, c.requires.2);
      tables = record {
        long-begun = begun.0;
        long-ended = ended.0;
        long-labelled = labelled.0;
        begun_are = begun.1;
        ended_are = ended.1;
        labelled_are = labelled.1;
      };
    }

pub returns : goal.returns
returns c = rows_filled c.args.t c.args.o _ _ _ _ _ _ _ c.requires.1 c.by_rank-p.ensures.0 c.fill_table.ensures

-- The failing ones among the bytes are counted.
use Rattle.std.proofs.Common.{◌≡◌, not, ◌∙◌, sym, arith}
use Rattle.std.specs.List.{count_by}
use Rattle.std.proofs.lemmas.List.Sums.{count_by-le-length}
use lib.Dec.{eqb}
use borrow.Author.Rules.{rules}
use Rattle.report.proofs.Pieces.{fails_counted}
use Rattle.report.proofs.count_failing.Goals as goal

pub returns : goal.returns
returns c =
    let e : c.count.result ≡ count_by (λ b. not (eqb b 1)) c.args.verdicts.now = search rules in (
      e ∙ sym (fails_counted c.args.verdicts.now),
      omega (arith, e, count_by-le-length (λ b. not (eqb b 1)) c.args.verdicts.now),
    )

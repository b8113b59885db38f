-- The finished runs are those that the filter keeps.
use Rattle.std.proofs.Common.{rules, ◌≡◌, sym, ◌∙◌}
use Rattle.std.proofs.iter.runs.Made.{chains}
use Rattle.std.specs.List.{count_by}
use Rattle.trace.specs.Steps.{held}
use Rattle.tallies.proofs.Tallies.{finished?, finished_counted}
use Rattle.tallies.proofs.counts.finished_count.Goals as goal

pub returns : goal.returns
returns c =
    let e : c.count.result ≡ count_by finished? (held c.args.t) = search (rules, chains) in
    e ∙ sym (finished_counted (held c.args.t))

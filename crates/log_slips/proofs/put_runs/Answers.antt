-- The loop's invariant: the runs passed are written, each with at most 4 bytes.
use mathlib.Core.Path.{◌≡◌, refl}
use mathlib.Core.List.{[]}
use native.Mathlib.Omega.{arith}
use lib.ListN.{length}
use borrow.Author.Rules.{rules}
use Rattle.lists.proofs.Lists.{unmapped}
use Rattle.log_slips.proofs.Runs.{runs_none, runs_next, runs_all}
use Rattle.log_slips.proofs.put_runs.Goals as goal

pub loop-run-init : goal.loop-run-init
loop-run-init c = (search rules, refl, runs_none [] _ _ (omega arith))

pub loop-run-preserved : goal.loop-run-preserved
loop-run-preserved c = (omega (arith, c.put_count-end.ensures.few), search rules, search runs_next)

pub returns : goal.returns
returns c = let four : length c.args.slip.run ≡ 4 = search unmapped in search (runs_all, rules)

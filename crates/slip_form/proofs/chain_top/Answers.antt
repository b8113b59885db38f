use mathlib.Core.Path.{◌≡◌}
use lib.ListN.{length}
use native.Mathlib.Omega.{arith}
use Rattle.rules.proofs.Formulas.{good_room}
use Rattle.timeline.proofs.Root.{heights_at_root}
use Rattle.slip_form.proofs.Descent.{not_not, top_low, top_good, no_chain, other_chain, top_chain}
use borrow.Author.Rules.{rules}
use Rattle.slip_form.proofs.chain_top.Goals as goal

pub returns-then-x-ne2 : goal.returns-then-x-ne2
returns-then-x-ne2 c = not_not c.args.file.now c.args.rule c.requires _ c.node_at-x.ensures c.if-x-ne2.true

pub node_at-y-requires : goal.node_at-y-requires
node_at-y-requires c = good_room c.args.file.now _ _ (top_good c.args.file.now c.args.rule c.requires _ c.node_at-x.ensures c.if-x-ne2.false)

pub returns-then-y-ne3 : goal.returns-then-y-ne3
returns-then-y-ne3 c = no_chain c.args.file.now c.args.rule c.requires _ c.node_at-x.ensures c.if-x-ne2.false _ c.node_at-y.ensures c.if-y-ne3.true

pub is_chain-requires : goal.is_chain-requires
is_chain-requires c = let k2 = c.if-x-ne2.false in
    let long : length c.heights-heights.result ≡ 64 = search rules in
    let low = top_low c.args.file.now c.args.rule c.requires _ c.node_at-x.ensures k2 in
    (top_good c.args.file.now c.args.rule c.requires _ c.node_at-x.ensures k2, heights_at_root c.args.file.now _ c.args.rule.count _ _ c.heights-heights.ensures low (omega (arith, low, long, c.requires.nodes_few)))

pub returns-then-not-is_chain : goal.returns-then-not-is_chain
returns-then-not-is_chain c = other_chain c.args.file.now c.args.rule c.requires _ c.node_at-x.ensures c.if-x-ne2.false _ c.node_at-y.ensures c.if-y-ne3.false _ c.is_chain.ensures c.if-not-is_chain.true-raw

pub returns : goal.returns
returns c = top_chain c.args.file.now c.args.rule c.requires _ c.node_at-x.ensures c.if-x-ne2.false _ c.node_at-y.ensures c.if-y-ne3.false _ c.is_chain.ensures c.if-not-is_chain.false-raw

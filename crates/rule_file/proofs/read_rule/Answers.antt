-- Each part is read where the one before it ends, and the first refusal is the answer. What the answer means follows from
-- the definition.
use mathlib.Core.Path.{refl}
use native.Mathlib.Omega.{arith}
use Rattle.std.proofs.lemmas.Result.{err_from_is_err_and}
use Rattle.rules.proofs.Rules.{reads_rule, rule_head, rule_labels, rule_count, rule_nodes, rule_more, rule_whole, head_room, count_room, count_some, nodes_room, nodes_fit, nodes_good}
use Rattle.rule_file.proofs.read_rule.Goals as goal

pub returns-in_err-head : goal.returns-in_err-head
returns-in_err-head c =
    let p = err_from_is_err_and c.from_residual.result c.from_residual.ensures.1 in
    rw (p.1, p.2) (reads_rule _ _ (rule_head _ _ c.head.ensures _ c.in_err-head.was))

pub bounds-file-5 : goal.bounds-file-5
bounds-file-5 c = head_room _ _ c.head.ensures _ c.in_ok-head.was

pub labels-requires : goal.labels-requires
labels-requires c = head_room _ _ c.head.ensures _ c.in_ok-head.was

pub returns-in_err-at : goal.returns-in_err-at
returns-in_err-at c =
    let p = err_from_is_err_and c.from_residual-in_err-at.result c.from_residual-in_err-at.ensures.1 in
    rw (p.1, p.2) (reads_rule _ _ (rule_labels _ _ c.head.ensures _ c.in_ok-head.was _ c.labels.ensures _ c.in_err-at.was))

pub returns-in_err-first : goal.returns-in_err-first
returns-in_err-first c =
    let p = err_from_is_err_and c.from_residual-in_err-first.result c.from_residual-in_err-first.ensures.1 in
    rw (p.1, p.2) (reads_rule _ _ (rule_count _ _ c.head.ensures _ c.in_ok-head.was _ c.labels.ensures _ c.in_ok-at.was _ c.node_count.ensures _ c.in_err-first.was))

pub bounds-file-at : goal.bounds-file-at
bounds-file-at c = count_room _ _ _ _ c.node_count.ensures c.in_ok-first.was

pub nodes-requires : goal.nodes-requires
nodes-requires c = (refl, nodes_room _ _ _ _ c.node_count.ensures c.in_ok-first.was)

pub returns-in_err-end : goal.returns-in_err-end
returns-in_err-end c =
    let p = err_from_is_err_and c.from_residual-in_err-end.result c.from_residual-in_err-end.ensures.1 in
    rw (p.1, p.2) (reads_rule _ _ (rule_nodes _ _ c.head.ensures _ c.in_ok-head.was _ c.labels.ensures _ c.in_ok-at.was _ c.node_count.ensures _ c.in_ok-first.was _ c.nodes.ensures _ c.in_err-end.was))

pub returns-then-end-file : goal.returns-then-end-file
returns-then-end-file c = reads_rule _ _
    (rule_more _ _ c.head.ensures _ c.in_ok-head.was
    _ c.labels.ensures _ c.in_ok-at.was
    _ c.node_count.ensures _ c.in_ok-first.was
    _ c.nodes.ensures _ c.in_ok-end.was
    (λ q. omega arith))

pub whole-requires : goal.whole-requires
whole-requires c =
    record {
      labels_value = (refl, (count_some _ _ _ _ c.node_count.ensures c.in_ok-first.was, nodes_fit _ _ _ _ c.node_count.ensures c.in_ok-first.was _ _ c.nodes.ensures c.in_ok-end.was));
      good = nodes_good _ _ _ _ c.node_count.ensures c.in_ok-first.was _ _ c.nodes.ensures c.in_ok-end.was;
    }

pub returns : goal.returns
returns c = reads_rule _ _
    (rule_whole _ _ c.head.ensures _ c.in_ok-head.was
    _ c.labels.ensures _ c.in_ok-at.was
    _ c.node_count.ensures _ c.in_ok-first.was
    _ c.nodes.ensures _ c.in_ok-end.was
    _ (omega arith) c.whole.ensures)

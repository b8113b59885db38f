-- One case for each way out.
use borrow.Author.Rules.{rules}
use native.Mathlib.Omega.{arith}
use mathlib.Core.Path.{sym}
use lib.Seq.{length-take-le}
use Rattle.typed_checks.proofs.Folds.{decisions, decide_taken}
use Rattle.typed_checks.proofs.decide.Goals as goal

pub returns-then-n-gt-MAX_NODES : goal.returns-then-n-gt-MAX_NODES
returns-then-n-gt-MAX_NODES c = search decisions

pub returns-then-m-gt-MAX_LABELS : goal.returns-then-m-gt-MAX_LABELS
returns-then-m-gt-MAX_LABELS c = search decisions

pub slice_bounds-labels_ok-end-2 : goal.slice_bounds-labels_ok-end-2
slice_bounds-labels_ok-end-2 c = sym (length-take-le _ _ (omega arith))

pub returns-then-not-labels_ok : goal.returns-then-not-labels_ok
returns-then-not-labels_ok c = search decisions

pub returns-then-not-all_bound : goal.returns-then-not-all_bound
returns-then-not-all_bound c = search decisions

pub returns-then-not-few_nested : goal.returns-then-not-few_nested
returns-then-not-few_nested c = search decisions

pub returns : goal.returns
returns c = decide_taken _ _ _ _ c.if-n-gt-MAX_NODES.false _ _ c.label_places-m.ensures c.if-m-gt-MAX_LABELS.false _ c.labels_ok.ensures (search rules) _ c.all_bound.ensures (search rules) _ c.few_nested.ensures (search rules) c.requires.1

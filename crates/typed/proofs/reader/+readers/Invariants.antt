-- The unread text counts five times, and the level of the grammar once.
use Rattle.std.proofs.Common.{◌+◌, ◌*◌, ◌-◌, ◌≤◌, length}
use Rattle.typed.specs.Grammar.{more_or, more_and}
use Rattle.atoms.specs.Emit.{or_size, and_size, emit_ors, emit_ands}
use Rattle.typed.specs.Parsing.{Begins}
use Rattle.typed.proofs.Onward.{MoreFrom, ClosesFrom}
use Rattle.typed.proofs.reader.+readers.Given as goal

abbrev pub decreases-and_rest : goal.decreases-and_rest
decreases-and_rest l = 5 * (length l.text.now - l.at) + 0

abbrev pub decreases-and_rule : goal.decreases-and_rule
decreases-and_rule l = 5 * (length l.text.now - l.at) + 2

abbrev pub decreases-closes : goal.decreases-closes
decreases-closes l = 5 * (length l.text.now - l.at) + 1

abbrev pub decreases-not_rule : goal.decreases-not_rule
decreases-not_rule l = 5 * (length l.text.now - l.at) + 1

abbrev pub decreases-operand : goal.decreases-operand
decreases-operand l = 5 * (length l.text.now - l.at) + 0

abbrev pub decreases-or_rest : goal.decreases-or_rest
decreases-or_rest l = 5 * (length l.text.now - l.at) + 0

abbrev pub decreases-or_rule : goal.decreases-or_rule
decreases-or_rule l = 5 * (length l.text.now - l.at) + 3

abbrev pub decreases-scope : goal.decreases-scope
decreases-scope l = 5 * (length l.text.now - l.at) + 4

abbrev pub decreases-some_body : goal.decreases-some_body
decreases-some_body l = 5 * (length l.text.now - l.at) + 0

abbrev pub decreases-some_rule : goal.decreases-some_rule
decreases-some_rule l = 5 * (length l.text.now - l.at) + 0

-- a loop over further sides: what is read from here on is what is read from its start on
abbrev pub invariant-or_rest-loop-p : goal.invariant-or_rest-loop-p
invariant-or_rest-loop-p l =
    Begins l.text l.here l.names l.d l.count l.table × (1 ≤ l.count) × (l.at ≤ l.here)
    × MoreFrom more_or or_size emit_ors l.text l.d l.at l.initial.names l.k l.initial.table l.here l.names l.count l.table

abbrev pub decreases-or_rest-loop-p : goal.decreases-or_rest-loop-p
decreases-or_rest-loop-p l = length l.text - l.here

abbrev pub invariant-and_rest-loop-p : goal.invariant-and_rest-loop-p
invariant-and_rest-loop-p l =
    Begins l.text l.here l.names l.d l.count l.table × (1 ≤ l.count) × (l.at ≤ l.here)
    × MoreFrom more_and and_size emit_ands l.text l.d l.at l.initial.names l.k l.initial.table l.here l.names l.count l.table

abbrev pub decreases-and_rest-loop-p : goal.decreases-and_rest-loop-p
decreases-and_rest-loop-p l = length l.text - l.here

-- and over what closes brackets
abbrev pub invariant-closes-loop-shut : goal.invariant-closes-loop-shut
invariant-closes-loop-shut l =
    Begins l.text l.here l.names l.d l.count l.table × (1 ≤ l.count) × (l.at ≤ l.here)
    × ClosesFrom l.text l.d l.at l.initial.names l.k l.initial.table l.c l.here l.names l.count l.table l.open

abbrev pub decreases-closes-loop-shut : goal.decreases-closes-loop-shut
decreases-closes-loop-shut l = length l.text - l.here

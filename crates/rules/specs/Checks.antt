-- "8 a node not named exactly once; 9 an unbound variable; 10 five "some" nodes nested", each over the whole table.
use Rattle.std.specs.Prelude.{ℕ, zero, suc, ◌+◌, ◌-◌, Bool, true, false, ◌&&◌, cond, List, eqb, get_or}
use Rattle.rules.specs.Limits.{max_nested}
use Rattle.rules.specs.Formula.{Formula, Scope, no_scope, scoped, shallow}
use Rattle.rules.specs.Parts.{label_count}
use Rattle.rules.specs.Table.{Op, op_and, op_not, op_some, op_has, op_none, op_pair, op_of, node_at, formula_at}
use Rattle.rules.specs.declared.Node.{Node}
use Rattle.rules.specs.declared.Vars.{Vars}
use Rattle.std.specs.Prelude.{Result, Ok, Err}
use Rattle.refusals.specs.declared.Refusal.{Refusal}
use Rattle.rules.specs.declared.Rule.{Rule}
use Rattle.refusals.specs.declared.Refusal.TheVariants.{RuleNotATree, RuleUnbound, RuleTooDeep}

-- how often a field names node c: once if it is c
abbrev pub field_names : ℕ → ℕ → ℕ
field_names field c = cond (eqb field c) 1 0

-- how many fields of a node name node c
abbrev pub fields_naming : Op → ℕ → ℕ → ℕ → ℕ
fields_naming op_and a b c = field_names a c + field_names b c
fields_naming op_not a b c = field_names a c
fields_naming op_some a b c = field_names b c
fields_naming op_has a b c = 0
fields_naming (op_pair p) a b c = 0
fields_naming op_none a b c = 0

abbrev pub node_names : Node → ℕ → ℕ
node_names x c = fields_naming (op_of x.kind) x.a x.b c

-- how many fields of the first n nodes name node c
unfoldable pub times_named : List ℕ → ℕ → ℕ → ℕ → ℕ
times_named file p zero c = 0
times_named file p (suc n) c = times_named file p n c + node_names (node_at file p n) c

-- each of the first c nodes is named by exactly one field of the n nodes
unfoldable pub once_below : List ℕ → ℕ → ℕ → ℕ → Bool
once_below file p n zero = true
once_below file p n (suc c) = once_below file p n c && eqb (times_named file p n c) 1

-- "The last node is the root; every other node is named by exactly one field of one later node."
abbrev pub named_once : List ℕ → ℕ → ℕ → Bool
named_once file p n = once_below file p n (n - 1)

-- the scope that the code carries
abbrev pub scope_of : Vars → Scope
scope_of x v = get_or x.bound v false

-- the formula of the last of n nodes
abbrev pub root_formula : List ℕ → ℕ → ℕ → Formula
root_formula file p n = formula_at file p (n - 1)

-- a test with its refusal, and what follows if it is passed
abbrev pub unless : Bool → Refusal → Result Rule Refusal → Result Rule Refusal
unless true fault next = next
unless false fault next = Err fault

-- The rule of a table of n nodes at p, or its first fault as a whole.
unfoldable pub whole_table : List ℕ → ℕ → ℕ → Result Rule Refusal
whole_table file p n =
    unless (named_once file p n) RuleNotATree
    (unless (scoped (root_formula file p n) no_scope) RuleUnbound
    (unless (shallow max_nested (root_formula file p n)) RuleTooDeep
    (Ok (record { labels = label_count file; nodes = p; count = n }))))

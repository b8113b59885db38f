-- The parts of a rule file, and the front of it: the mark, the version, the label count.
-- "the rule from its front, each part (mark, version, count, length byte, label bytes, node) first for 1 and then for its
-- own fault"
use Rattle.std.specs.Prelude.{ℕ, ◌+◌, ◌*◌, Bool, ◌&&◌, cond, List, eqb, leb, length, get_or, Result, Ok, Err}
use Rattle.rules.specs.Limits.{max_labels, max_nodes}
use Rattle.refusals.specs.declared.Refusal.{Refusal}
use Rattle.refusals.specs.declared.Refusal.TheVariants.{RuleEndsEarly, RuleMark, RuleVersion, RuleCount, RuleTooLong}

abbrev pub byte : List ℕ → ℕ → ℕ
byte file p = get_or file p 0

-- A part of n bytes at place p. "1 the file ends before the next part is whole"; a whole part passes its test or has its fault.
unfoldable pub part : List ℕ → ℕ → ℕ → Bool → Refusal → Result ℕ Refusal
part file p n ok fault = cond (leb (p + n) (length file)) (cond ok (Ok (p + n)) (Err fault)) (Err RuleEndsEarly)

-- What follows a part, from the place after it; a refusal ends the reading. `option_and_then` of the library, for a `Result`.
unfoldable pub and_then : {A B E : Type 0} → Result A E → (A → Result B E) → Result B E
and_then (Ok x) f = f x
and_then (Err e) f = Err e

-- "the mark `RUL`"
abbrev pub read_mark : List ℕ → Result ℕ Refusal
read_mark file = part file 0 3 (eqb (byte file 0) 82 && (eqb (byte file 1) 85 && eqb (byte file 2) 76)) RuleMark

-- "version, 16 bits, low byte first, equal to 1"
abbrev pub read_version : List ℕ → Result ℕ Refusal
read_version file = part file 3 2 (eqb (byte file 3 + 256 * byte file 4) 1) RuleVersion

-- the place of the label count
abbrev pub label_count_at : ℕ
label_count_at = 5

-- the place of the first label
abbrev pub labels_at : ℕ
labels_at = 6

-- "label count 0 to 16"
abbrev pub label_count : List ℕ → ℕ
label_count file = byte file label_count_at

abbrev pub read_label_count : List ℕ → Result ℕ Refusal
read_label_count file = part file label_count_at 1 (leb (label_count file) max_labels) RuleCount

unfoldable pub read_head : List ℕ → Result ℕ Refusal
read_head file = and_then (read_mark file) (λ _. and_then (read_version file) (λ _. read_label_count file))

-- "node count 1 to 64", at p
abbrev pub read_node_count : List ℕ → ℕ → Result ℕ Refusal
read_node_count file p = part file p 1 (leb 1 (byte file p) && leb (byte file p) max_nodes) RuleCount

-- "Nothing follows."
unfoldable pub nothing_follows : List ℕ → ℕ → Result ℕ Refusal
nothing_follows file p = cond (eqb p (length file)) (Ok p) (Err RuleTooLong)

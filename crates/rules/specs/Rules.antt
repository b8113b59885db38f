-- A rule file as a whole: the rule that it holds, or its first refusal.
use Rattle.std.specs.Prelude.{ℕ, ◌+◌, ◌*◌, ◌-◌, ◌≤◌, ◌≡◌, true, List, length}
use Rattle.refusals.specs.Refusal.{number}
use Rattle.refusals.specs.declared.Refusal.{Refusal}
use Rattle.rules.specs.Limits.{max_labels, max_nodes, max_nested, max_file_bytes}
use Rattle.rules.specs.Formula.{Formula, no_scope, scoped, shallow}
use Rattle.rules.specs.Parts.{byte, label_count, and_then, read_mark, read_version, read_label_count, read_node_count, nothing_follows}
use Rattle.rules.specs.Labels.{label_start, read_labels, LabelsOk}
use Rattle.rules.specs.Table.{read_nodes, Good, formula_at}
use Rattle.rules.specs.Checks.{named_once, whole_table}
use Rattle.rules.specs.declared.Rule.{Rule}
use Rattle.std.specs.Prelude.{Result, Ok, Err}

-- "the rule from its front, each part (mark, version, count, length byte, label bytes, node) first for 1 and then for its
-- own fault, then 7, 8, 9, 10, each over the whole table"
unfoldable pub rule_of : List ℕ → Result Rule Refusal
rule_of file =
    and_then (read_mark file) λ _.
    and_then (read_version file) λ _.
    and_then (read_label_count file) λ _.
    and_then (read_labels file (label_count file)) λ p.
    and_then (read_node_count file p) λ q.
    and_then (read_nodes file q (byte file p)) λ e.
    and_then (nothing_follows file e) λ _.
    whole_table file q (byte file p)

-- "The last node is the root": the formula of a file's rule
abbrev pub formula_of : List ℕ → Rule → Formula
formula_of file x = formula_at file x.nodes (x.count - 1)

-- what holds of a file that is taken
pub record Taken (file : List ℕ) (x : Rule) : Type 0 where
  -- reading it from its front meets no refusal, and x is its rule
  pub read : rule_of file ≡ Ok x
  -- the labels: how many, each in the file and of the right form, none twice
  pub labels : x.labels ≡ label_count file
  pub labels_few : x.labels ≤ max_labels
  pub labels_ok : LabelsOk file x.labels
  -- the nodes: after the label list and their count, to the file's end, each with kind and fields in range
  pub nodes_at : x.nodes ≡ label_start file x.labels + 1
  pub nodes_some : 1 ≤ x.count
  pub nodes_few : x.count ≤ max_nodes
  pub nodes_end : x.nodes + 3 * x.count ≡ length file
  pub nodes_good : Good file x.nodes (x.count - 1)
  -- the table is one tree, and its formula is closed and shallow
  pub once : named_once file x.nodes x.count ≡ true
  pub closed : scoped (formula_of file x) no_scope ≡ true
  pub depth : shallow max_nested (formula_of file x) ≡ true
  pub size : length file ≤ max_file_bytes

-- what reading a rule file answers, and what the answer means
pub record ReadsRule (file : List ℕ) (r : Result Rule Refusal) : Type 0 where
  pub answer : r ≡ rule_of file
  pub taken : (x : Rule) → r ≡ Ok x → Taken file x
  pub refused : (e : Refusal) → r ≡ Err e → (1 ≤ number e) × (number e ≤ 10)

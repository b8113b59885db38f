-- The worked cases P1 and P10: their files are taken, and say what the paper says.
use mathlib.Core.Path.{◌≡◌, refl}
use Rattle.labels.specs.Label.{letter?, digit?, capital, label_form?}
use Rattle.rules.specs.Formula.{scoped, shallow}
use Rattle.rules.specs.Parts.{part, and_then, nothing_follows}
use Rattle.rules.specs.Labels.{label_start, listed, read_label, read_labels}
use Rattle.rules.specs.Table.{read_nodes, tree, formula_at}
use Rattle.rules.specs.Checks.{times_named, once_below, whole_table}
use Rattle.rules.specs.Rules.{rule_of, formula_of}
use Rattle.rules.specs.Cases.{p1_file, p1_rule, no_evening_includes_test, p10_file, p10_rule, some_same_as_itself}
use Rattle.std.specs.Prelude.{Ok}

pub p1-taken : rule_of p1_file ≡ Ok p1_rule
unfolding rule_of part and_then nothing_follows label_start listed read_label read_labels read_nodes tree formula_at times_named once_below whole_table scoped shallow letter? digit? label_form? capital
p1-taken = refl

pub p1-formula : formula_of p1_file p1_rule ≡ no_evening_includes_test
unfolding formula_at tree label_start capital
p1-formula = refl

pub p10-taken : rule_of p10_file ≡ Ok p10_rule
unfolding rule_of part and_then nothing_follows label_start read_labels read_nodes times_named once_below whole_table tree formula_at scoped shallow
p10-taken = refl

pub p10-formula : formula_of p10_file p10_rule ≡ some_same_as_itself
unfolding tree formula_at label_start
p10-formula = refl

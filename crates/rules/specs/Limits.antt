-- The numbers that the paper fixes for a rule file.
use Rattle.std.specs.Prelude.{ℕ}

-- "label count 0 to 16"
abbrev pub max_labels : ℕ
max_labels = 16

-- "node count 1 to 64"
abbrev pub max_nodes : ℕ
max_nodes = 64

-- the last of the paper's table of kinds
abbrev pub last_kind : ℕ
last_kind = 8

-- "Variables are 0 to 3."
abbrev pub variables : ℕ
variables = 4

-- "At most four "some" nodes lie one inside another."
abbrev pub max_nested : ℕ
max_nested = 4

-- "The longest file has 599 bytes"
abbrev pub max_file_bytes : ℕ
max_file_bytes = 599

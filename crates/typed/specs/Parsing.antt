-- What the readers of the grammar answer, and what the answers mean.
use Rattle.std.specs.Prelude.{ℕ, ◌+◌, ◌-◌, ◌*◌, ◌<◌, ◌≤◌, ◌≡◌, List, [], length, take, drop, Option, Some, None}
use Rattle.std.proofs.Math.Option.{Option as Maybe, none, some}
use Rattle.signs.specs.Signs.{Got, open_sign}
use Rattle.signs.specs.Finding.{Marked}
use Rattle.atoms.specs.Tree.{Tree, size}
use Rattle.atoms.specs.Emit.{emit}
use Rattle.atoms.specs.Readers.{Reads}
use Rattle.atoms.specs.declared.Reading.{Reading}
use Rattle.typed.specs.Grammar.{read_not, read_text}

-- What each reader asks: a place in a text of at most 4,096 bytes, 64 words of which the first d are the names bound around it, no
-- more nodes than bytes read allow, and a whole table.
pub record Begins (text : List ℕ) (at : ℕ) (ns : List ℕ) (d k : ℕ) (table : List ℕ) : Type 0 where
  pub inside : at ≤ length text
  pub short : length text ≤ 4096
  pub few : k ≤ 4 * at
  pub bound : d ≤ 64
  pub names : length ns ≡ 64
  pub whole : 192 ≤ length table

-- A reader of rules, g, and its place among the levels of the grammar: what it answers, for every bound that is large enough. The
-- first d names stay.
pub record ReadsRule (g : ℕ → List ℕ → Got Tree) (lvl : ℕ) (text : List ℕ) (at : ℕ) (ns : List ℕ) (d k : ℕ) (before : List ℕ) (r : Option Reading) (after left : List ℕ) : Type 0 where
  pub long : length after ≡ length before
  pub room : length left ≡ length ns
  pub kept : take d left ≡ take d ns
  pub reads : (f : ℕ) → 4 * (length text - at) + lvl < f → Reads size (emit before k (take d ns)) text at k (g f (drop at text)) r after

-- A reader of further operands; w nodes for each, stored by e.
pub record ReadsMore (g : ℕ → List ℕ → Got (List Tree)) (w : List Tree → ℕ) (e : List ℕ → ℕ → List ℕ → List Tree → List ℕ) (text : List ℕ) (at : ℕ) (ns : List ℕ) (d k : ℕ) (before : List ℕ) (r : Option Reading) (after left : List ℕ) : Type 0 where
  pub long : length after ≡ length before
  pub room : length left ≡ length ns
  pub kept : take d left ≡ take d ns
  pub reads : (f : ℕ) → 4 * (length text - at) < f → Reads w (e before k (take d ns)) text at k (g f (drop at text)) r after

-- A reader of what closes c brackets: for every place with c open brackets behind it, and a part read behind those up to here, it
-- answers what a reader from that place on answers.
pub record Within (text : List ℕ) (c : ℕ) (ns : List ℕ) (d k : ℕ) (before : List ℕ) (at n : ℕ) (table names : List ℕ) (from : ℕ) : Type 0 where
  pub inner : ℕ
  pub opened : Marked text open_sign from c inner
  pub part : ReadsRule read_not 1 text inner ns d k before (Some (record { at = at; count = n })) table names

pub record Closes (text : List ℕ) (at : ℕ) (names : List ℕ) (d n : ℕ) (table : List ℕ) (c : ℕ) (r : Option Reading) (after left : List ℕ) : Type 0 where
  pub long : length after ≡ length table
  pub room : length left ≡ length names
  pub closed : (ns : List ℕ) (k : ℕ) (before : List ℕ) (from : ℕ) → Within text c ns d k before at n table names from → ReadsRule read_not 1 text from ns d k before r after left

-- what reading a whole text answers: how many nodes the tree of the text takes, and the table with them; or that it has no tree
abbrev pub ParseSays : Maybe Tree → List ℕ → Option ℕ → List ℕ → Type 0
ParseSays (some t) before (Some n) after = (n ≡ size t) × (after ≡ emit before 0 [] t)
ParseSays none before None after = Unit {0}
ParseSays (some t) before None after = ⊥
ParseSays none before (Some n) after = ⊥

pub record Parses (text before : List ℕ) (r : Option ℕ) (after : List ℕ) : Type 0 where
  pub says : ParseSays (read_text text) before r after
  pub long : length after ≡ length before

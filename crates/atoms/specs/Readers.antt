-- What the readers of rules answer, and what the answers mean.
use Rattle.std.specs.Prelude.{ℕ, zero, suc, ◌+◌, ◌-◌, ◌*◌, ◌≤◌, ◌≡◌, List, length, take, drop, Option, Some, None}
use Rattle.signs.specs.Signs.{Got, read, outside}
use Rattle.atoms.specs.Tree.{Tree, size}
use Rattle.atoms.specs.Emit.{put, emit, inside as within}
use Rattle.atoms.specs.declared.Reading.{Reading}

-- A rule, or a part of one, read at a place: the place behind it, the nodes counted, and the table with them. w is how many
-- nodes it takes, and tb the table that it leaves.
pub record Done (text : List ℕ) (at k : ℕ) (s : List ℕ) (w : ℕ) (tb : List ℕ) (p n : ℕ) (left : List ℕ) : Type 0 where
  pub ahead : at ≤ p
  pub inside : p ≤ length text
  pub some : 1 ≤ n
  pub rest : s ≡ drop p text
  pub count : n ≡ k + w
  pub room : n + 4 * at ≤ k + 4 * p
  pub table : left ≡ tb

-- what a reader answers: nothing where the text is outside the grammar
abbrev pub Reads : {A : Type 0} → (A → ℕ) → (A → List ℕ) → List ℕ → ℕ → ℕ → Got A → Option Reading → List ℕ → Type 0
Reads width made text at k (read t s) (Some r) left = Done text at k s (width t) (made t) r.at r.count left
Reads width made text at k outside None left = Unit {0}
Reads width made text at k (read t s) None left = ⊥
Reads width made text at k outside (Some r) left = ⊥

-- what each reader asks: a place in a text of at most 4,096 bytes, no more nodes than bytes read allow, and a whole table
pub record Ready (text : List ℕ) (at : ℕ) (ns : List ℕ) (k : ℕ) (table : List ℕ) : Type 0 where
  pub inside : at ≤ length text
  pub short : length text ≤ 4096
  pub few : k ≤ 4 * at
  pub names : length ns ≤ 64
  pub whole : 192 ≤ length table

-- a store in a table
pub record Stored (before wanted after : List ℕ) : Type 0 where
  pub answer : after ≡ wanted
  pub long : length after ≡ length before

-- a reader of parts that have no rule inside
pub record ReadsAtom (g : List ℕ → Got Tree) (text : List ℕ) (at : ℕ) (ns : List ℕ) (k : ℕ) (before : List ℕ) (r : Option Reading) (after : List ℕ) : Type 0 where
  pub long : length after ≡ length before
  pub reads : Reads size (emit before k ns) text at k (g (drop at text)) r after

-- name x inside the first d names
pub record Enters (before : List ℕ) (d x e : ℕ) (after : List ℕ) : Type 0 where
  pub names : take e after ≡ within (take d before) x
  pub kept : take d after ≡ take d before
  pub more : d ≤ e
  pub few : e ≤ 64
  pub long : length after ≡ length before

-- c nots behind the nodes before n
unfoldable pub put_nots : List ℕ → ℕ → ℕ → List ℕ
put_nots tb n zero = tb
put_nots tb n (suc c) = put_nots (put tb n 2 (n - 1) 0) (n + 1) c

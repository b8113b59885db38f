-- How the code works, not what it means.
-- Tables of sets. A row is two words of a lent table, and a set of runs or of moments.
use Rattle.std.specs.Prelude.{ℕ, ◌+◌, ◌*◌, ◌<◌, ◌≤◌, ◌≡◌, Bool, not, ◌&&◌, List, leb, length, get_or}
use Rattle.lists.specs.Limits.{max_runs}
use Rattle.sets.specs.Sets.{mem}
use Rattle.sets.specs.declared.RunSet.{RunSet}

-- ── rows ──
abbrev pub row : List ℕ → ℕ → RunSet
row table r = record { lo = get_or table (2 * r) 0; hi = get_or table (2 * r + 1) 0 }

-- row k is s, and the others are as they were
pub record Stored (old new : List ℕ) (k : ℕ) (s : RunSet) : Type 0 where
  pub long : length new ≡ length old
  pub same : row new k ≡ s
  pub other : (i : ℕ) → (i ≡ k → ⊥) → row new i ≡ row old i

-- each of the first n rows became what Becomes says of it
abbrev pub Rowwise : (ℕ → RunSet → RunSet → Type 0) → ℕ → List ℕ → List ℕ → Type 0
Rowwise Becomes n old new = (k : ℕ) → k < n → Becomes k (row old k) (row new k)

-- the same, and the other rows are as they were
pub record RowByRow (Becomes : ℕ → RunSet → RunSet → Type 0) (n : ℕ) (old new : List ℕ) : Type 0 where
  pub long : length new ≡ length old
  pub rows : Rowwise Becomes n old new
  pub rest : (k : ℕ) → n ≤ k → row new k ≡ row old k

-- s has the moments of dom at which `holds` is true
abbrev pub Narrowed : (ℕ → Bool) → RunSet → RunSet → Type 0
Narrowed holds dom s = (j : ℕ) → j < max_runs → mem s j ≡ (mem dom j && holds j)

-- s has the moments of dom from k on; none where keep lacks k
abbrev pub StartOf : RunSet → RunSet → ℕ → RunSet → Type 0
StartOf dom keep k s = (j : ℕ) → mem s j ≡ (mem keep k && (mem dom j && leb k j))

-- s has the moments of dom from k on that are not in got; none where keep lacks k
abbrev pub LeftOf : RunSet → RunSet → RunSet → ℕ → RunSet → Type 0
LeftOf dom got keep k s = (j : ℕ) → mem s j ≡ (mem keep k && ((mem dom j && leb k j) && not (mem got j)))

-- How the code works: bytes that are stored one by one, and a comparison byte by byte. Of what a public call promises, only
-- `stored` of `Refreshes` cites it.
use Rattle.std.specs.Prelude.{ℕ, ◌<◌, ◌≤◌, ◌≡◌, ◌⊎◌, List, length, get_or}
use Rattle.labels.specs.Label.{label_no}
use Rattle.trace.specs.declared.Run.{Run}
use Rattle.trace.specs.Trace.{line}
use Rattle.lists.specs.Limits.{max_runs}
use Rattle.pairs.specs.Pairs.{pair_set}

-- a run of which only the lines matter
abbrev pub placed : ℕ → ℕ → Run
placed b e = record { id = 0; begin = line b; end = line e; label = label_no 0 }

-- the byte of two runs, by the end line of the one that begins first and both lines of the other
abbrev pub lines_set : ℕ → ℕ → ℕ → ℕ
lines_set e b f = pair_set (placed 0 e) (placed b f)

-- ── stores ──
-- The area w becomes v: the byte of each two runs that are chosen stands at their place, and every other byte is as it was.
pub record Stored (spot f : ℕ → ℕ → ℕ) (Chosen : ℕ → ℕ → Type 0) (w v : List ℕ) : Type 0 where
  pub size : length v ≡ length w
  pub pairs : (a b : ℕ) → a < b → b < max_runs → Chosen a b → get_or v (spot a b) 0 ≡ f a b
  pub others : (k : ℕ) → ((a b : ℕ) → a < b → b < max_runs → Chosen a b → spot a b ≡ k → ⊥) → get_or v k 0 ≡ get_or w k 0

-- the runs from s to below e, each with those of the first n that begin after it
abbrev pub Rows : ℕ → ℕ → ℕ → ℕ → ℕ → Type 0
Rows s e n a b = (s ≤ a) × (a < e) × (b < n)

-- the runs from s to below e, each with those that begin before it
abbrev pub Columns : ℕ → ℕ → ℕ → ℕ → Type 0
Columns s e a b = (s ≤ b) × (b < e)

-- run z with each other of the first n
abbrev pub OfRun : ℕ → ℕ → ℕ → ℕ → Type 0
OfRun z n a b = ((a ≡ z) ⊎ (b ≡ z)) × (b < n)

-- ── a comparison ──
-- the first e bytes of two areas are the same
abbrev pub SameTo : ℕ → List ℕ → List ℕ → Type 0
SameTo e w v = (k : ℕ) → k < e → get_or w k 0 ≡ get_or v k 0

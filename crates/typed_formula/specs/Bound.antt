-- How the code works, not what it means.
-- Names that something binds.
use Rattle.std.specs.Prelude.{ℕ, Bool, not, ◌&&◌, eqb}
use Rattle.atoms.specs.Tree.{Tree}
use Rattle.atoms.specs.Emit.{Names, level, inside}

-- a name outside every "exist" of it has no level
abbrev pub bound? : Names → ℕ → Bool
bound? ns n = not (eqb (level ns n) 255)

unfoldable pub all_bound : Names → Tree → Bool
all_bound ns (Tree.either l r) = all_bound ns l && all_bound ns r
all_bound ns (Tree.both l r) = all_bound ns l && all_bound ns r
all_bound ns (Tree.neg t) = all_bound ns t
all_bound ns (Tree.exists n t) = all_bound (inside ns n) t
all_bound ns (Tree.has n l) = bound? ns n
all_bound ns (Tree.pair q n m) = bound? ns n && bound? ns m

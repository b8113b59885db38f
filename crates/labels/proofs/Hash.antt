-- A hash taken byte by byte.
use Prim.Native.Nat.{ℕ, ◌+◌, ◌<◌, ◌≤◌}
use mathlib.Core.Path.{◌≡◌, sym, ◌∙◌}
use mathlib.Core.List.{List}
use native.Mathlib.Numerals.{add-one}
use lib.ListN.{length, get_or, drop, drop_of_length-le}
use lib.Seq.{drop-cons}
use Rattle.labels.specs.Fnv.{fnv_from, fnv_step}

-- one byte more
pub hash_next : (s : List ℕ) (i h g v : ℕ) → v ≡ fnv_from h (drop i s) → i < length s → g ≡ fnv_step h (get_or s i 0) → v ≡ fnv_from g (drop (i + 1) s)
unfolding fnv_from
hash_next s i h g v e k f = e ∙ rw (drop-cons s i 0 k, f, add-one)

pub hash_end : (s : List ℕ) (i h v : ℕ) → v ≡ fnv_from h (drop i s) → length s ≤ i → h ≡ v
unfolding fnv_from
hash_end s i h v e k = sym (e ∙ rw (drop_of_length-le s k))

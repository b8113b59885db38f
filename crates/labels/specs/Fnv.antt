-- 32-bit FNV-1a: "start 2166136261; for each byte, exclusive or, then multiply by 16777619 modulo 2^32".
use Rattle.std.specs.Prelude.{ℕ, ◌*◌, ◌%◌, List, [], ◌∷◌}
use Rattle.std.specs.Int.Bits.{bit_xor}

-- the byte stands first in the exclusive or: antt takes as many steps as the first argument says
abbrev pub fnv_step : ℕ → ℕ → ℕ
fnv_step h b = bit_xor b h * 16777619 % 4294967296

unfoldable pub fnv_from : ℕ → List ℕ → ℕ
fnv_from h [] = h
fnv_from h (b ∷ bs) = fnv_from (fnv_step h b) bs

abbrev pub fnv_of : List ℕ → ℕ
fnv_of bs = fnv_from 2166136261 bs

-- Tests and parts of lists that the definitions of the other crates use.
use Rattle.std.specs.Prelude.{ℕ, zero, suc, ◌-◌, Bool, true, false, ◌&&◌, ◌||◌, cond, List, [], ◌∷◌, ◌++◌, eqb, ltb, length, replicate}
use Prim.Native.String.{String, [] as none, ◌∷◌ as ◌◂◌}
use Prim.Native.Char.{code}

-- the list, filled up with d to n elements
unfoldable pub pad : {A : Type 0} → A → ℕ → List A → List A
pad d n xs = xs ++ replicate (n - length xs) d

abbrev pub none? : {A : Type 0} → List A → Bool
none? [] = true
none? (x ∷ xs) = false

abbrev pub all? : (ℕ → Bool) → List ℕ → Bool
all? f [] = true
all? f (x ∷ xs) = f x && all? f xs

-- some number below n passes
abbrev pub any_below : ℕ → (ℕ → Bool) → Bool
any_below zero p = false
any_below (suc n) p = any_below n p || p n

-- whether each number is a byte
abbrev pub bytes? : List ℕ → Bool
bytes? l = all? (λ b. ltb b 256) l

-- whether the byte b is among the bytes; what stands before the first one; what stands after it
abbrev pub has? : ℕ → List ℕ → Bool
has? b [] = false
has? b (x ∷ xs) = eqb x b || has? b xs

abbrev pub up_to : ℕ → List ℕ → List ℕ
up_to b [] = []
up_to b (x ∷ xs) = cond (eqb x b) [] (x ∷ up_to b xs)

abbrev pub past : ℕ → List ℕ → List ℕ
past b [] = []
past b (x ∷ xs) = cond (eqb x b) xs (past b xs)

-- whether two byte strings are the same
abbrev pub same? : List ℕ → List ℕ → Bool
same? [] [] = true
same? [] (y ∷ ys) = false
same? (x ∷ xs) [] = false
same? (x ∷ xs) (y ∷ ys) = eqb x y && same? xs ys

-- a text's bytes, so that worked cases can be written as one reads them
abbrev pub bytes : String → List ℕ
bytes none = []
bytes (◌◂◌ c s) = code c ∷ bytes s

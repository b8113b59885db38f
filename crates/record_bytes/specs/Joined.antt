-- Lists put one after another, the list of a function's values, and a list stored into another.
use Rattle.std.specs.Prelude.{ℕ, zero, suc, List, [], ◌∷◌, ◌++◌}
use Rattle.std.proofs.lemmas.List.Edits.{sets}

-- f 0 ++ f 1 ++ .., n of them
unfoldable pub joined : {A : Type 0} → ℕ → (ℕ → List A) → List A
joined zero f = []
joined (suc n) f = joined n f ++ f n

-- f 0, f 1, .., n of them
abbrev pub values : {A : Type 0} → ℕ → (ℕ → A) → List A
values n f = joined n (λ k. f k ∷ [])

-- the list l with the elements of xs stored from place p on
unfoldable pub stored : {A : Type 0} → List A → ℕ → List A → List A
stored l p xs = sets l p xs

-- How the code works, not what it means.
-- The parts of a typed rule without a rule inside: `A('TEST')`, `A < B`, `A o B`, `A i B`, `same(A,B)`.
use Rattle.std.specs.Prelude.{ℕ, List}
use Rattle.signs.specs.Signs.{Got, read, outside, next, if_sign, sign, name, label, open_sign, close_sign, comma_sign, less_sign, overlaps_sign, includes_sign, same_sign}
use Rattle.atoms.specs.Tree.{Tree, has, pair}

-- `same(A,B)`, behind `same`
unfoldable pub read_same : List ℕ → Got Tree
read_same s =
    if_sign (sign open_sign s)
    (λ s1. next (name s1) λ n s2. if_sign (sign comma_sign s2)
    (λ s3. next (name s3) λ m s4. if_sign (sign close_sign s4) (λ s5. read (pair 8 n m) s5) outside) outside) outside

-- `A('TEST')`, behind the bracket
unfoldable pub read_has : ℕ → List ℕ → Got Tree
read_has n s = next (label s) λ l s1. if_sign (sign close_sign s1) (λ s2. read (has n l) s2) outside

-- `A < B`, `A o B`, `A i B`, behind A: the kind of the relation, and the second name
unfoldable pub relation : List ℕ → Got ℕ
relation s =
    if_sign (sign less_sign s) (λ r. read 5 r) (if_sign (sign overlaps_sign s) (λ r. read 6 r) (if_sign (sign includes_sign s) (λ r. read 7 r) outside))

unfoldable pub read_pair : ℕ → List ℕ → Got Tree
read_pair n s = next (relation s) λ k s1. next (name s1) λ m s2. read (pair k n m) s2

unfoldable pub read_atom : List ℕ → Got Tree
read_atom s =
    if_sign (sign same_sign s) read_same (next (name s) λ n s1. if_sign (sign open_sign s1) (λ s2. read_has n s2) (read_pair n s1))

-- How the code works, not what it means.
-- The signs of a typed rule. Each definition here reads one sign from the front of the unread text and says what is left behind it.
use Rattle.std.specs.Prelude.{ℕ, ◌+◌, ◌-◌, ◌*◌, Bool, ◌&&◌, ◌||◌, cond, List, [], ◌∷◌, eqb, leb, length}
use Rattle.std.proofs.Math.Option.{Option, none, some}
use Rattle.lists.specs.Lists.{has?, past}

-- what a reader finds: a value and the text left behind it, or text outside the grammar
pub data Got (A : Type 0) : Type 0 where
  read : A → List ℕ → Got A
  outside : Got A

-- what follows a part that was read
abbrev pub next : {A B : Type 0} → Got A → (A → List ℕ → Got B) → Got B
next (read a s) f = f a s
next outside f = outside

-- one way where a sign was found, from the text behind it; the other way where it was not
abbrev pub if_sign : {A : Type 0} → Option (List ℕ) → (List ℕ → Got A) → Got A → Got A
if_sign (some s) found otherwise = found s
if_sign none found otherwise = otherwise

-- "Spaces and LFs may stand between any two signs and at both ends."
unfoldable pub blank? : ℕ → Bool
blank? b = eqb b 32 || eqb b 10

unfoldable pub skip : List ℕ → List ℕ
skip [] = []
skip (b ∷ s) = cond (blank? b) (skip s) (b ∷ s)

-- the text behind the bytes w, where it begins with them
abbrev pub behind : List ℕ → List ℕ → Option (List ℕ)
behind [] s = some s
behind (c ∷ w) [] = none
behind (c ∷ w) (b ∷ s) = cond (eqb b c) (behind w s) none

-- the sign with the bytes w
unfoldable pub sign : List ℕ → List ℕ → Option (List ℕ)
sign w s = behind w (skip s)

-- "A name is a capital and all letters or digits that follow, at most seven of them." A name is kept as a number: its bytes,
-- the first the highest.
unfoldable pub capital? : ℕ → Bool
capital? b = leb 65 b && leb b 90

unfoldable pub word_byte? : ℕ → Bool
word_byte? b = (leb 65 b && leb b 90) || ((leb 97 b && leb b 122) || (leb 48 b && leb b 57))

-- the rest of a name, of which k bytes may come and whose bytes so far are n
unfoldable pub name_more : ℕ → ℕ → List ℕ → Got ℕ
name_more k n [] = read n []
name_more k n (b ∷ s) = cond (word_byte? b) (cond (eqb k 0) outside (name_more (k - 1) (256 * n + b) s)) (read n (b ∷ s))

abbrev pub name_from : List ℕ → Got ℕ
name_from [] = outside
name_from (b ∷ s) = cond (capital? b) (name_more 7 b s) outside

unfoldable pub name : List ℕ → Got ℕ
name s = name_from (skip s)

-- "Between quotes stand any bytes but a quote." A label is kept as its place, counted from the text's end: how many bytes stand
-- behind the opening quote.
abbrev pub quoted : List ℕ → Got ℕ
quoted s = cond (has? 39 s) (read (length s) (past 39 s)) outside

unfoldable pub label : List ℕ → Got ℕ
label s = if_sign (sign (39 ∷ []) s) quoted outside

-- ── the signs ──
abbrev pub bar_sign : List ℕ
bar_sign = 124 ∷ []

abbrev pub and_sign : List ℕ
and_sign = 38 ∷ []

abbrev pub not_sign : List ℕ
not_sign = 33 ∷ []

abbrev pub open_sign : List ℕ
open_sign = 40 ∷ []

abbrev pub close_sign : List ℕ
close_sign = 41 ∷ []

abbrev pub comma_sign : List ℕ
comma_sign = 44 ∷ []

abbrev pub dot_sign : List ℕ
dot_sign = 46 ∷ []

abbrev pub less_sign : List ℕ
less_sign = 60 ∷ []

abbrev pub overlaps_sign : List ℕ
overlaps_sign = 111 ∷ []

abbrev pub includes_sign : List ℕ
includes_sign = 105 ∷ []

abbrev pub exist_sign : List ℕ
exist_sign = 101 ∷ 120 ∷ 105 ∷ 115 ∷ 116 ∷ []

abbrev pub same_sign : List ℕ
same_sign = 115 ∷ 97 ∷ 109 ∷ 101 ∷ []

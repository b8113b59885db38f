-- Labels: which byte strings are labels, their capitals, and the value that holds one.
use Rattle.std.specs.Prelude.{ℕ, zero, suc, ◌+◌, ◌-◌, ◌≤◌, ◌≡◌, Bool, true, ◌&&◌, ◌||◌, cond, List, [], ◌∷◌, map, eqb, leb, length, take, replicate}
use Rattle.lists.specs.Lists.{pad, all?, same?}
use Rattle.labels.specs.declared.Label.{Label}
use Rattle.labels.specs.declared.LabelNo.{LabelNo}

-- A decimal digit; a byte of a label in capitals: "from A to Z, 0 to 9 and underscore".
unfoldable pub digit? : ℕ → Bool
digit? b = leb 48 b && leb b 57

unfoldable pub letter? : ℕ → Bool
unfolding digit?
letter? b = (leb 65 b && leb b 90) || digit? b || eqb b 95

-- "Looking up a label must treat a to z as A to Z": the byte that a byte of a label counts as. Only the small letters change.
unfoldable pub capital : ℕ → ℕ
capital b = cond (leb 97 b && leb b 122) (b - 32) b

-- the same without computing: c is what b counts as
pub data CountsAs (b c : ℕ) : Type 0 where
  small : 97 ≤ b → b ≤ 122 → c + 32 ≡ b → CountsAs b c
  other : (97 ≤ b → b ≤ 122 → ⊥) → c ≡ b → CountsAs b c

-- The capitals of a label that is written in a log, in a rule file or in a typed rule. Two such labels are the same if their capitals
-- are. "The record and all rules written out keep the capital form": what stands behind the readers is capitals.
abbrev pub capitals : List ℕ → List ℕ
capitals s = map capital s

-- "A label is 1 to 24 bytes from A to Z, 0 to 9 and underscore.": how long one is, and the form of its capitals
abbrev pub max_label_bytes : ℕ
max_label_bytes = 24

abbrev pub label_length? : ℕ → Bool
label_length? n = leb 1 n && leb n max_label_bytes

unfoldable pub label_form? : List ℕ → Bool
unfolding letter?
label_form? l = label_length? (length l) && all? letter? l

-- "distinct labels from 1 in the order of first appearance; label 0 means none"
abbrev pub label_no : ℕ → LabelNo
label_no n = record { 0 = n }

-- A byte string of at most so many bytes as a label, and its bytes again.
unfoldable pub label_of : List ℕ → Label
unfolding pad
label_of s = record { bytes = pad 0 max_label_bytes s; length = length s }

abbrev pub text : Label → List ℕ
text x = take x.length x.bytes

abbrev pub no_label : Label
no_label = record { bytes = replicate max_label_bytes 0; length = 0 }

-- what a read past the end of a list of labels gives
abbrev pub absent : Label
absent = record { bytes = []; length = 0 }

unfoldable pub equal_label? : Label → Label → Bool
equal_label? x y = eqb x.length y.length && same? x.bytes y.bytes

-- A value that holds a label: the bytes of one to its length, and zeros behind.
unfoldable pub sound_from : ℕ → List ℕ → Bool
sound_from n [] = true
sound_from zero (b ∷ bs) = eqb b 0 && sound_from zero bs
sound_from (suc n) (b ∷ bs) = letter? b && sound_from n bs

-- a byte inside a label, or behind it
abbrev pub byte_sound : Bool → ℕ → Bool
byte_sound b x = cond b (letter? x) (eqb x 0)

unfoldable pub sound? : Label → Bool
sound? x = leb x.length max_label_bytes && sound_from x.length x.bytes

-- Which bytes are the capitals of a label, said of each byte.
use Rattle.std.specs.Prelude.{ℕ, ◌≤◌, ◌<◌, ◌≡◌, List, length, get_or}

-- each byte of s is such as P says
abbrev pub EachByte : (ℕ → Type 0) → List ℕ → Type 0
EachByte P s = (k : ℕ) → k < length s → P (get_or s k 0)

-- "0 to 9"
abbrev pub Digit : ℕ → Type 0
Digit b = (48 ≤ b) × (b ≤ 57)

-- "from A to Z, 0 to 9 and underscore"
pub data LabelByte (b : ℕ) : Type 0 where
  capital : 65 ≤ b → b ≤ 90 → LabelByte b
  digit : Digit b → LabelByte b
  underscore : b ≡ 95 → LabelByte b

-- "A label is 1 to 24 bytes from A to Z, 0 to 9 and underscore." Of a label that is written in a log, in a rule file or in a typed rule
-- this is asked of its capitals: "treat a to z as A to Z".
pub record IsLabel (s : List ℕ) : Type 0 where
  pub some : 1 ≤ length s
  pub few : length s ≤ 24
  pub bytes : EachByte LabelByte s

-- "with a wrong byte or above 24 bytes"
pub data WrongLabel (s : List ℕ) : Type 0 where
  too_long : 24 < length s → WrongLabel s
  wrong_byte : (k : ℕ) → k < length s → (LabelByte (get_or s k 0) → ⊥) → WrongLabel s

-- A typed rule as a row of signs.
use Rattle.std.specs.Prelude.{ℕ, ◌≤◌, ◌≡◌, List, [], ◌∷◌, ◌++◌, length}
use Rattle.lists.specs.Lists.{bytes}
use Rattle.grammar.specs.Written.{EachByte, Digit}

-- ── bytes ──
-- "Spaces and LFs"
pub data Blank (b : ℕ) : Type 0 where
  space : b ≡ 32 → Blank b
  line_feed : b ≡ 10 → Blank b

-- "a capital"
abbrev pub Capital : ℕ → Type 0
Capital b = (65 ≤ b) × (b ≤ 90)

-- "letters or digits"
pub data LetterOrDigit (b : ℕ) : Type 0 where
  capital : Capital b → LetterOrDigit b
  small : 97 ≤ b → b ≤ 122 → LetterOrDigit b
  digit : Digit b → LetterOrDigit b

-- ── signs ──
-- `|`, `&`, `!`, `(`, `)`, `,`, `.`, `<`, `o`, `i`, `exist`, `same`
pub data Mark : Type 0 where
  bar and not opens closes comma dot before overlaps includes exist same : Mark

abbrev pub mark_bytes : Mark → List ℕ
mark_bytes bar = bytes "|"
mark_bytes and = bytes "&"
mark_bytes not = bytes "!"
mark_bytes opens = bytes "("
mark_bytes closes = bytes ")"
mark_bytes comma = bytes ","
mark_bytes dot = bytes "."
mark_bytes before = bytes "<"
mark_bytes overlaps = bytes "o"
mark_bytes includes = bytes "i"
mark_bytes exist = bytes "exist"
mark_bytes same = bytes "same"

-- a mark, a name or a label between quotes
pub data Sign : Type 0 where
  mark : Mark → Sign
  name : List ℕ → Sign
  label : List ℕ → Sign

-- "A name is a capital and all letters or digits that follow, at most seven of them."
pub record IsName (n : List ℕ) : Type 0 where
  pub first : ℕ
  pub more : List ℕ
  pub is : n ≡ first ∷ more
  pub capital : Capital first
  pub letters : EachByte LetterOrDigit more
  pub few : length more ≤ 7

-- "all letters or digits that follow": what stands behind a name goes on with none
abbrev pub NoneFollows : List ℕ → Type 0
NoneFollows [] = Unit {0}
NoneFollows (b ∷ s) = LetterOrDigit b → ⊥

-- The text is a row of signs. "Spaces and LFs may stand between any two signs and at both ends."
pub data Signs : List ℕ → List Sign → Type 0 where
  end : Signs [] []
  blank : {b : ℕ} {s : List ℕ} {gs : List Sign} → Blank b → Signs s gs → Signs (b ∷ s) gs
  a_mark : (m : Mark) {s : List ℕ} {gs : List Sign} → Signs s gs → Signs (mark_bytes m ++ s) (mark m ∷ gs)
  a_name : {n s : List ℕ} {gs : List Sign} → IsName n → NoneFollows s → Signs s gs → Signs (n ++ s) (name n ∷ gs)
  -- "Between quotes stand any bytes but a quote."
  a_label : {l s : List ℕ} {gs : List Sign} → EachByte (λ b. b ≡ 39 → ⊥) l → Signs s gs
      → Signs (bytes "'" ++ l ++ bytes "'" ++ s) (label l ∷ gs)

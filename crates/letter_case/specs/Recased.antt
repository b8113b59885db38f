-- Logs, rule files and typed rules that differ in nothing but the case of letters, and only where labels may stand.
use Rattle.std.specs.Prelude.{ℕ, suc, ◌+◌, ◌≤◌, ◌<◌, ◌≡◌, ◌≢◌, Bool, true, false, not, cond, List, [], ◌∷◌, eqb, get_or, take}
use Rattle.labels.specs.Label.{capitals}
use Rattle.rules.specs.Parts.{byte, label_count}
use Rattle.rules.specs.Labels.{label_start}

-- byte strings whose capitals are the same, and whose bytes are the same but at some places
pub record Recased (Inside : ℕ → Type 0) (s r : List ℕ) : Type 0 where
  pub capital : capitals s ≡ capitals r
  pub others : (p : ℕ) → (Inside p → ⊥) → get_or s p 0 ≡ get_or r p 0

-- A log, or one line. Each line's first byte, its B or E, is the same; a label stands behind it, and so do an id and spaces,
-- which have no case.
abbrev pub BehindFirst : List ℕ → ℕ → Type 0
BehindFirst log p = (k : ℕ) × (p ≡ suc k) × (get_or log k 0 ≢ 10)

abbrev pub RecasedLog : List ℕ → List ℕ → Type 0
RecasedLog log log' = Recased (BehindFirst log) log log'

-- A rule file. All bytes but those of its labels are the same.
pub record InLabel (file : List ℕ) (p : ℕ) : Type 0 where
  pub label : ℕ
  pub listed : label < label_count file
  pub from : label_start file label < p
  pub to : p ≤ label_start file label + byte file (label_start file label)

abbrev pub RecasedRule : List ℕ → List ℕ → Type 0
RecasedRule file file' = Recased (InLabel file) file file'

-- A typed rule. All bytes but those between quotes are the same: there an odd number of quotes stands before.
abbrev pub quotes_open : List ℕ → Bool
quotes_open [] = false
quotes_open (b ∷ s) = cond (eqb b 39) (not (quotes_open s)) (quotes_open s)

abbrev pub InQuotes : List ℕ → ℕ → Type 0
InQuotes text p = quotes_open (take p text) ≡ true

abbrev pub RecasedText : List ℕ → List ℕ → Type 0
RecasedText text text' = Recased (InQuotes text) text text'

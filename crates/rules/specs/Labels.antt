-- The labels of a rule file: "each label as a length byte and its bytes, none listed twice". What is looked up is their capitals.
use Rattle.std.specs.Prelude.{ℕ, zero, suc, ◌+◌, ◌≤◌, ◌<◌, ◌≡◌, Bool, true, false, not, ◌&&◌, ◌||◌, List, length, take, drop, Result, Ok}
use Rattle.lists.specs.Lists.{same?}
use Rattle.labels.specs.Label.{capitals, max_label_bytes, label_length?, label_form?}
use Rattle.rules.specs.Parts.{byte, part, and_then, labels_at}
use Rattle.refusals.specs.declared.Refusal.{Refusal}
use Rattle.refusals.specs.declared.Refusal.TheVariants.{RuleLabel}

-- the place of label n, that of its length byte; behind the last label, the place after the labels
unfoldable pub label_start : List ℕ → ℕ → ℕ
label_start file zero = labels_at
label_start file (suc n) = label_start file n + 1 + byte file (label_start file n)

-- the capitals of the label whose length byte is at p; those of label n
abbrev pub label_from : List ℕ → ℕ → List ℕ
label_from file p = capitals (take (byte file p) (drop (p + 1) file))

abbrev pub label_bytes : List ℕ → ℕ → List ℕ
label_bytes file n = label_from file (label_start file n)

-- one of the first n labels has the capitals l
unfoldable pub listed : List ℕ → ℕ → List ℕ → Bool
listed file zero l = false
listed file (suc n) l = listed file n l || same? (label_bytes file n) l

-- Label n at p: its length byte, then its bytes. "5 a label of wrong length or byte, or listed twice"; "5 does for two labels in a
-- rule file's list that differ only in case"
unfoldable pub read_label : List ℕ → ℕ → ℕ → Result ℕ Refusal
read_label file n p =
    and_then (part file p 1 (label_length? (byte file p)) RuleLabel)
    (λ q. part file q (byte file p) (label_form? (label_from file p) && not (listed file n (label_from file p))) RuleLabel)

-- the first n labels
unfoldable pub read_labels : List ℕ → ℕ → Result ℕ Refusal
read_labels file zero = Ok labels_at
read_labels file (suc n) = and_then (read_labels file n) (λ p. read_label file n p)

-- label n stands in the file, is a label, and is none of those before it
pub record LabelOk (file : List ℕ) (n : ℕ) : Type 0 where
  pub low : 1 ≤ byte file (label_start file n)
  pub high : byte file (label_start file n) ≤ max_label_bytes
  pub room : label_start file n + 1 + byte file (label_start file n) ≤ length file
  pub form : label_form? (label_bytes file n) ≡ true
  pub fresh : listed file n (label_bytes file n) ≡ false

-- so are the first n
abbrev pub LabelsOk : List ℕ → ℕ → Type 0
LabelsOk file n = (i : ℕ) → i < n → LabelOk file i

-- How the code works, not what it means.
-- "Limits and numbers 4, 5, 9 and 10 carry over, met in that order after the grammar": over a table of nodes.
use Rattle.std.specs.Prelude.{ℕ, ◌+◌, ◌≤◌, ◌≡◌, Bool, true, not, ◌&&◌, ◌||◌, cond, List, [], ◌∷◌, ◌++◌, eqb, ltb, length, take, Result, Ok, Err}
use Rattle.refusals.specs.declared.Refusal.{Refusal}
use Rattle.refusals.specs.declared.Refusal.TheVariants.{RuleCount, RuleLabel, RuleUnbound, RuleTooDeep}
use Rattle.typed_formula.specs.Meaning.{label_text}
use Rattle.typed_grammar.specs.File.{place_in}
use Rattle.text_labels.specs.Pieces.{texts, good_labels?}
use Rattle.typed_checks.specs.Fold.{Step, fold_nodes}

-- the names of kinds 4 to 8; 255 stands for a name that nothing binds
unfoldable pub bound_step : Step Bool
bound_step ok kind a b = ok && cond (ltb kind 4) true (not (eqb a 255) && (eqb kind 4 || not (eqb b 255)))

-- the level of a "some" is below four
unfoldable pub few_step : Step Bool
few_step ok kind a b = ok && cond (eqb kind 3) (ltb a 4) true

-- the places of labels, with that of a "has label" where its label is none of them
unfoldable pub noted : List ℕ → Step (List ℕ)
noted text ps kind a b =
    cond (eqb kind 4) (cond (ltb (place_in (texts text ps) (label_text text b)) (length ps)) ps (ps ++ (b ∷ []))) ps

pub record Notes (text before : List ℕ) (m kind b : ℕ) (after : List ℕ) (r : ℕ) : Type 0 where
  pub list : take r after ≡ noted text (take m before) kind 0 b
  pub more : r ≤ m + 1
  pub long : length after ≡ length before

-- the places of the labels, in order of first appearance
abbrev pub places_in : List ℕ → List ℕ → ℕ → List ℕ
places_in text tb n = fold_nodes (noted text) [] tb 0 n

pub record ListsPlaces (text tb : List ℕ) (n : ℕ) (before after : List ℕ) (r : ℕ) : Type 0 where
  pub list : take r after ≡ places_in text tb n
  pub few : r ≤ n
  pub count : r ≡ length (places_in text tb n)
  pub long : length after ≡ length before

-- the first refusal, or how many labels there are
unfoldable pub decided : List ℕ → List ℕ → ℕ → Result ℕ Refusal
decided text tb n =
    cond (ltb 64 n) (Err RuleCount)
    (cond (ltb 16 (length (places_in text tb n))) (Err RuleCount)
    (cond (good_labels? (texts text (places_in text tb n)))
    (cond (fold_nodes bound_step true tb 0 n)
    (cond (fold_nodes few_step true tb 0 n) (Ok (length (places_in text tb n))) (Err RuleTooDeep))
    (Err RuleUnbound))
    (Err RuleLabel)))

pub record Decides (text tb : List ℕ) (n : ℕ) (before after : List ℕ) (r : Result ℕ Refusal) : Type 0 where
  pub answer : r ≡ decided text tb n
  pub places : (m : ℕ) → r ≡ Ok m → (take m after ≡ places_in text tb n) × (m ≤ 16) × (m ≤ length after)
  pub long : length after ≡ length before

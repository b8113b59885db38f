-- The text that a writer gives a rule: "brackets stand round each "and" and each "some" (of one name each) and round no other node,
-- one space stands after `exist` and on each side of a relation's sign, none elsewhere".
use Rattle.std.specs.Prelude.{ℕ, zero, suc, List, [], ◌∷◌, ◌++◌}
use Rattle.lists.specs.Lists.{bytes}
use Rattle.rules.specs.Formula.{Pairing, before, overlaps, includes, same, Formula, both, neg, exists, has, pair}
use Rattle.levels.specs.Levels.{Levels, no_levels, binds}

-- "naming variables A to D by level"
abbrev pub letter : ℕ → ℕ
letter zero = 65
letter (suc zero) = 66
letter (suc (suc zero)) = 67
letter (suc (suc (suc n))) = 68

abbrev pub pair_text : Pairing → ℕ → ℕ → List ℕ
pair_text before a b = (a ∷ []) ++ bytes " < " ++ (b ∷ [])
pair_text overlaps a b = (a ∷ []) ++ bytes " o " ++ (b ∷ [])
pair_text includes a b = (a ∷ []) ++ bytes " i " ++ (b ∷ [])
pair_text same a b = bytes "same(" ++ (a ∷ []) ++ bytes "," ++ (b ∷ []) ++ bytes ")"

-- the text of a formula at level d, where e gives the level of each variable
unfoldable pub text_in : ℕ → Levels → Formula → List ℕ
text_in d e (both f g) = bytes "(" ++ text_in d e f ++ bytes "&" ++ text_in d e g ++ bytes ")"
text_in d e (neg f) = bytes "!" ++ text_in d e f
text_in d e (exists v f) = bytes "(exist " ++ (letter d ∷ []) ++ bytes "." ++ text_in (suc d) (binds e v d) f ++ bytes ")"
text_in d e (has v l) = (letter (e v) ∷ []) ++ bytes "('" ++ l ++ bytes "')"
text_in d e (pair p v w) = pair_text p (letter (e v)) (letter (e w))

-- "A writer gives each rule table one text without `|`"
abbrev pub rule_text : Formula → List ℕ
rule_text f = text_in 0 no_levels f

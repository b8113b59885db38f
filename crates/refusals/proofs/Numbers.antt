-- The refusal of each number of the list: two refusals with one number are one.
use Rattle.std.proofs.Common.{◌≡◌, ℕ, ◌≤◌, refl, sym, ◌∙◌, ap, cond, eqb, arith}
use Rattle.refusals.specs.Refusal.{number}
use Rattle.refusals.specs.declared.Refusal.{Refusal}
use Rattle.refusals.specs.declared.Refusal.TheVariants.{RuleEndsEarly, RuleMark, RuleVersion, RuleCount, RuleLabel, RuleNode, RuleTooLong, RuleNotATree, RuleUnbound, RuleTooDeep, LineForm, LineId, LineLabel, NoSet, StillOpen, NeverBegun, NoneOpen, TooManyRuns, TooManyLabels, ShortBuffer, NoRecord, NoFinishedRun, SameRun, NoTally, RuleGrammar, RuleNoSlips, BookForm}

abbrev pub refusal_of : ℕ → Refusal
refusal_of c =
    cond (eqb c 1) RuleEndsEarly (
    cond (eqb c 2) RuleMark (
    cond (eqb c 3) RuleVersion (
    cond (eqb c 4) RuleCount (
    cond (eqb c 5) RuleLabel (
    cond (eqb c 6) RuleNode (
    cond (eqb c 7) RuleTooLong (
    cond (eqb c 8) RuleNotATree (
    cond (eqb c 9) RuleUnbound (
    cond (eqb c 10) RuleTooDeep (
    cond (eqb c 11) LineForm (
    cond (eqb c 12) LineId (
    cond (eqb c 13) LineLabel (
    cond (eqb c 14) NoSet (
    cond (eqb c 15) StillOpen (
    cond (eqb c 16) NeverBegun (
    cond (eqb c 17) NoneOpen (
    cond (eqb c 18) TooManyRuns (
    cond (eqb c 19) TooManyLabels (
    cond (eqb c 20) ShortBuffer (
    cond (eqb c 21) NoRecord (
    cond (eqb c 22) NoFinishedRun (
    cond (eqb c 23) SameRun (
    cond (eqb c 24) NoTally (
    cond (eqb c 25) RuleGrammar (
    cond (eqb c 26) RuleNoSlips (BookForm))))))))))))))))))))))))))

pub refusal_of-number : (e : Refusal) → refusal_of (number e) ≡ e
refusal_of-number RuleEndsEarly = refl
refusal_of-number RuleMark = refl
refusal_of-number RuleVersion = refl
refusal_of-number RuleCount = refl
refusal_of-number RuleLabel = refl
refusal_of-number RuleNode = refl
refusal_of-number RuleTooLong = refl
refusal_of-number RuleNotATree = refl
refusal_of-number RuleUnbound = refl
refusal_of-number RuleTooDeep = refl
refusal_of-number LineForm = refl
refusal_of-number LineId = refl
refusal_of-number LineLabel = refl
refusal_of-number NoSet = refl
refusal_of-number StillOpen = refl
refusal_of-number NeverBegun = refl
refusal_of-number NoneOpen = refl
refusal_of-number TooManyRuns = refl
refusal_of-number TooManyLabels = refl
refusal_of-number ShortBuffer = refl
refusal_of-number NoRecord = refl
refusal_of-number NoFinishedRun = refl
refusal_of-number SameRun = refl
refusal_of-number NoTally = refl
refusal_of-number RuleGrammar = refl
refusal_of-number RuleNoSlips = refl
refusal_of-number BookForm = refl

pub number-injective : (d e : Refusal) → number d ≡ number e → d ≡ e
number-injective d e h = sym (refusal_of-number d) ∙ ap refusal_of h ∙ refusal_of-number e

pub number-listed : (e : Refusal) → (1 ≤ number e) × (number e ≤ 27)
number-listed RuleEndsEarly = (omega arith, omega arith)
number-listed RuleMark = (omega arith, omega arith)
number-listed RuleVersion = (omega arith, omega arith)
number-listed RuleCount = (omega arith, omega arith)
number-listed RuleLabel = (omega arith, omega arith)
number-listed RuleNode = (omega arith, omega arith)
number-listed RuleTooLong = (omega arith, omega arith)
number-listed RuleNotATree = (omega arith, omega arith)
number-listed RuleUnbound = (omega arith, omega arith)
number-listed RuleTooDeep = (omega arith, omega arith)
number-listed LineForm = (omega arith, omega arith)
number-listed LineId = (omega arith, omega arith)
number-listed LineLabel = (omega arith, omega arith)
number-listed NoSet = (omega arith, omega arith)
number-listed StillOpen = (omega arith, omega arith)
number-listed NeverBegun = (omega arith, omega arith)
number-listed NoneOpen = (omega arith, omega arith)
number-listed TooManyRuns = (omega arith, omega arith)
number-listed TooManyLabels = (omega arith, omega arith)
number-listed ShortBuffer = (omega arith, omega arith)
number-listed NoRecord = (omega arith, omega arith)
number-listed NoFinishedRun = (omega arith, omega arith)
number-listed SameRun = (omega arith, omega arith)
number-listed NoTally = (omega arith, omega arith)
number-listed RuleGrammar = (omega arith, omega arith)
number-listed RuleNoSlips = (omega arith, omega arith)
number-listed BookForm = (omega arith, omega arith)

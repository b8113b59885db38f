-- The numbered list of refusals.
use Rattle.std.specs.Prelude.{◌≡◌, ℕ, Result, Ok, Err}
use Rattle.refusals.specs.declared.Refusal.{Refusal}
use Rattle.refusals.specs.declared.Refusal.TheVariants.{RuleEndsEarly, RuleMark, RuleVersion, RuleCount, RuleLabel, RuleNode, RuleTooLong, RuleNotATree, RuleUnbound, RuleTooDeep, LineForm, LineId, LineLabel, NoSet, StillOpen, NeverBegun, NoneOpen, TooManyRuns, TooManyLabels, ShortBuffer, NoRecord, NoFinishedRun, SameRun, NoTally, RuleGrammar, RuleNoSlips, BookForm}

-- the number of a refusal
abbrev pub number : Refusal → ℕ
number RuleEndsEarly = 1
number RuleMark = 2
number RuleVersion = 3
number RuleCount = 4
number RuleLabel = 5
number RuleNode = 6
number RuleTooLong = 7
number RuleNotATree = 8
number RuleUnbound = 9
number RuleTooDeep = 10
number LineForm = 11
number LineId = 12
number LineLabel = 13
number NoSet = 14
number StillOpen = 15
number NeverBegun = 16
number NoneOpen = 17
number TooManyRuns = 18
number TooManyLabels = 19
number ShortBuffer = 20
number NoRecord = 21
number NoFinishedRun = 22
number SameRun = 23
number NoTally = 24
number RuleGrammar = 25
number RuleNoSlips = 26
number BookForm = 27

-- a call answers the refusal of this number
abbrev pub RefusedWith : {A : Type 0} → ℕ → Result A Refusal → Type 0
RefusedWith c r = (e : Refusal) × ((r ≡ Err e) × (number e ≡ c))

-- an answer told with errors of another type: what a refusal gives there stands in its place
abbrev pub ToldAs : {A E : Type 0} → (Refusal → E → Type 0) → Result A Refusal → Result A E → Type 0
ToldAs gives (Ok x) (Ok y) = y ≡ x
ToldAs gives (Err e) (Err d) = gives e d
ToldAs gives (Ok x) (Err d) = ⊥
ToldAs gives (Err e) (Ok y) = ⊥

-- How the code works, not what it means: the walk over the lines of a log.
use Rattle.std.specs.Prelude.{ℕ, ◌+◌, ◌*◌, ◌<◌, ◌≤◌, ◌≡◌, Bool, true, false, List, [], ◌++◌, length, take, drop}
use Rattle.refusals.specs.declared.Refusal.{Refusal}
use Rattle.refusals.specs.Refusal.{number}
use Rattle.lines.specs.Log.{lines_of}
use Rattle.trace.specs.Trace.{Trace, no_trace, next, refused, step, Accepted}
use Rattle.trace.specs.Record.{record_of}
use Rattle.rules.specs.declared.Rule.{Rule}
use Rattle.std.specs.Prelude.{Some, None, Ok, Err}
use Rattle.rules.specs.Rules.{rule_of, formula_of}
use Rattle.rules.specs.Formula.{Formula}
use Rattle.text_pieces.specs.Pieces.{refused_text}
use Rattle.text_pieces.specs.Writing.{WritesFew}
use Rattle.slip_form.specs.Form.{SlipForm}
use Rattle.slip_form.specs.Slips.{slip_runs}
use Rattle.slips.specs.Answers.{Finding, FindsFirst}
use Rattle.log_slips.specs.declared.Walk.{Walk}
use Rattle.log_slips.specs.Printed.{slip_text, slips_from}

-- a line of the text has at most so many bytes: three of a number, four runs with a space before each, LF
abbrev pub line_room : ℕ
line_room = 20

-- the longest text: the lines of 256 accepted lines and of a refused one
abbrev pub text_size : ℕ
text_size = 5140

-- what is written of an answer of the finder: the line of a slip, or nothing where there is none
abbrev pub found_text : ℕ → Finding → List ℕ
found_text n (Ok (Some x)) = slip_text n (slip_runs x)
found_text n (Ok None) = []
found_text n (Err e) = []

-- the text of the lines that are left, if lines are read on
abbrev pub left_text : Bool → (f : Formula) → SlipForm f → Trace → List (List ℕ) → List ℕ
left_text true f s t ls = slips_from f s t ls
left_text false f s t ls = []

-- the room that the line of a refusal took
abbrev pub refused_room : Bool → ℕ
refused_room true = 0
refused_room false = 20

-- The bytes before the place are an accepted log, which leaves the record. The text so far, and then that of the lines that are left, is
-- the text of all lines.
pub record Walked (file log : List ℕ) (w : Walk) (text : List ℕ) : Type 0 where
  pub trace : Trace
  pub accepted : Accepted (take w.place log) trace
  pub encoded : w.state ≡ record_of trace
  pub within : w.place ≤ length log
  pub few : w.size ≤ line_room * trace.lines + refused_room w.more
  pub room : text_size ≤ length text
  pub shown : (x : Rule) → rule_of file ≡ Ok x → (s : SlipForm (formula_of file x))
      → take w.size text ++ left_text w.more (formula_of file x) s trace (lines_of (drop w.place log)) ≡ slips_from (formula_of file x) s no_trace (lines_of log)

-- the next line is refused: its text is written, and no later line is read
pub record Refuses (w : Walk) (c : Refusal) (text : List ℕ) (v : Walk) (text' : List ℕ) : Type 0 where
  pub state : v.state ≡ w.state
  pub place : v.place ≡ w.place
  pub more : v.more ≡ false
  pub written : WritesFew 9 (refused_text (w.state.lines.0 + 1) (number c)) text w.size text' v.size

-- the next line is accepted and leaves u: what is found then is written, and the next line starts at `after`
pub record GoesOn (file : List ℕ) (after : ℕ) (w : Walk) (text : List ℕ) (u : Trace) (v : Walk) (text' : List ℕ) : Type 0 where
  pub state : v.state ≡ record_of u
  pub place : v.place ≡ after
  pub more : v.more ≡ true
  pub found : Finding
  pub finds : FindsFirst file v.state found
  pub written : WritesFew 20 (found_text u.lines found) text w.size text' v.size

-- one line more, after every accepted log that leaves the record
pub record TakesLine (file line : List ℕ) (after : ℕ) (w : Walk) (text : List ℕ) (v : Walk) (text' : List ℕ) : Type 0 where
  pub taken : (log : List ℕ) (t u : Trace) → Accepted log t → w.state ≡ record_of t → step (next t) line ≡ next u → GoesOn file after w text u v text'
  pub refused : (log : List ℕ) (t : Trace) (c : Refusal) → Accepted log t → w.state ≡ record_of t → step (next t) line ≡ refused c → Refuses w c text v text'

-- no line is left
pub record Stops (w v : Walk) : Type 0 where
  pub state : v.state ≡ w.state
  pub place : v.place ≡ w.place
  pub size : v.size ≡ w.size
  pub more : v.more ≡ false

-- the text is that of all lines of a log, with a rule that has slips
abbrev pub ShowsLines : List ℕ → List ℕ → List ℕ → Type 0
ShowsLines file log text =
    (x : Rule) → rule_of file ≡ Ok x → (s : SlipForm (formula_of file x)) → text ≡ slips_from (formula_of file x) s no_trace (lines_of log)

-- one line more, if one is left: on goes only what moved on
pub record Steps (file log : List ℕ) (w v : Walk) (text' : List ℕ) : Type 0 where
  pub walked : Walked file log v text'
  pub onward : v.more ≡ true → w.place < v.place

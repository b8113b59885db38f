-- What the lines of an accepted log say is what they leave: its trace has a run for each begin line, an end for each
-- end line, and the labels in the order in which they first appear. And a log grows by a line just where the line
-- meets no refusal.
use Rattle.std.specs.Prelude.{ℕ, suc, ◌≤◌, ◌<◌, ◌≡◌, ◌≢◌, ◌↔◌, List, [], ◌∷◌, ◌++◌, length, get_or}
use Rattle.labels.specs.Table.{Distinct}
use Rattle.lines.specs.Log.{lines_of}
use Rattle.trace.specs.Trace.{Trace, run_at, begin_line, end_line, Accepted}
use Rattle.trace.specs.Orderly.{OpenAt}
use Rattle.grammar.specs.Forms.{Begins, Ends}
use Rattle.logic.specs.Satisfies.{HasLabel}
use Rattle.accepted_logs.specs.MetAfter.{HasId, MetAfter}

-- "Each accepted begin line makes a run": the run of line l, with the id i and a label whose
-- capitals are s. "label 0 means none"
pub record BegunAt (t : Trace) (l i : ℕ) (s : List ℕ) : Type 0 where
  pub run : ℕ
  pub named : HasId t i run
  pub line : begin_line (run_at t run) ≡ l
  pub labelled : s ≢ [] → HasLabel t run s
  pub bare : s ≡ [] → (run_at t run).label.0 ≡ 0

-- "A run is finished once its end line is among the lines read": a run with the id i, which ends at line l
pub record EndedAt (t : Trace) (l i : ℕ) : Type 0 where
  pub run : ℕ
  pub named : HasId t i run
  pub line : end_line (run_at t run) ≡ l

-- "lines from 1": the line at place n is line n + 1
pub record Spoken (log : List ℕ) (t : Trace) : Type 0 where
  pub count : t.lines ≡ length (lines_of log)
  pub begins : (n i : ℕ) (s : List ℕ) → n < length (lines_of log) → Begins (get_or (lines_of log) n []) i s
      → BegunAt t (suc n) i s
  pub ends : (n i : ℕ) → n < length (lines_of log) → Ends (get_or (lines_of log) n []) i → EndedAt t (suc n) i
  -- "15 only while the id's run is open": a line begins a run of an id where none is open after the lines before it
  pub begins_none_open : (n i : ℕ) (s : List ℕ) → n < length (lines_of log) → Begins (get_or (lines_of log) n []) i s
      → (k : ℕ) → HasId t i k → OpenAt n (run_at t k) → ⊥
  -- "An end line closes the open run of that id": just the run of the id that is open after the lines before it
  pub closes : (n i : ℕ) → n < length (lines_of log) → Ends (get_or (lines_of log) n []) i
      → (k : ℕ) → HasId t i k → OpenAt n (run_at t k) ↔ (end_line (run_at t k) ≡ suc n)
  -- "distinct labels from 1 in the order of first appearance": label m first appears at some run, and every run
  -- before that has a lower label or none
  pub distinct : Distinct t.labels
  pub appears : (m : ℕ) → 1 ≤ m → m ≤ length t.labels
      → (k : ℕ) × (k < length t.runs) × ((run_at t k).label.0 ≡ m) × ((j : ℕ) → j < k → (run_at t j).label.0 < m)

-- "A log is accepted if none of its lines, judged by its own bytes and the lines before it, meets a line's refusal":
-- an accepted log grows by a line that meets none, and not by a line that meets one
pub record Accepting : Type 0 where
  pub accepts : (log : List ℕ) (t : Trace) (line : List ℕ) → Accepted log t → ((c : ℕ) → MetAfter t line c → ⊥)
      → (u : Trace) × Accepted (log ++ line) u
  pub refuses : (log : List ℕ) (t : Trace) (line : List ℕ) (c : ℕ) → Accepted log t → lines_of line ≡ line ∷ []
      → MetAfter t line c → (u : Trace) → Accepted (log ++ line) u → ⊥

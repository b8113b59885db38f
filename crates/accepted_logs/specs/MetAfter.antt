-- Where a line meets a refusal after other lines.
use Rattle.std.specs.Prelude.{ℕ, ◌≤◌, ◌<◌, ◌≡◌, ◌≢◌, List, [], length}
use Rattle.lists.specs.Limits.{max_runs, max_log_labels}
use Rattle.labels.specs.Label.{text}
use Rattle.labels.specs.Table.{label_at}
use Rattle.trace.specs.Trace.{Trace, run_at, Finished}
use Rattle.grammar.specs.Forms.{Begins, Ends}
use Rattle.grammar.specs.MetBytes.{MetBytes}

-- After the lines that t stands for:
-- run k has the id i; no run has it
pub record HasId (t : Trace) (i k : ℕ) : Type 0 where
  pub begun : k < length t.runs
  pub named : (run_at t k).id ≡ i

abbrev pub NoRunHas : Trace → ℕ → Type 0
NoRunHas t i = (k : ℕ) → HasId t i k → ⊥

-- run k has it and is open; no run of it is open
pub record OpenRun (t : Trace) (i k : ℕ) : Type 0 where
  pub has : HasId t i k
  pub not_finished : Finished (run_at t k) → ⊥

abbrev pub NoneOpen : Trace → ℕ → Type 0
NoneOpen t i = (k : ℕ) → OpenRun t i k → ⊥

-- "11, 12, 13, then 15, 18, 19 or 16, 17"
pub data MetAfter (t : Trace) (line : List ℕ) (c : ℕ) : Type 0 where
  own_bytes : MetBytes line c → MetAfter t line c
  -- "15 only while the id's run is open"
  still_open : (i : ℕ) (l : List ℕ) → Begins line i l → (k : ℕ) → OpenRun t i k → c ≡ 15 → MetAfter t line c
  -- "18 a 129th run"
  run-129 : (i : ℕ) (l : List ℕ) → Begins line i l → NoneOpen t i → max_runs ≤ length t.runs → c ≡ 18
      → MetAfter t line c
  -- "19 a 65th label": 64 labels before it, and the line's is none of them
  label-65 : (i : ℕ) (l : List ℕ) → Begins line i l → NoneOpen t i → length t.runs < max_runs → l ≢ []
      → max_log_labels ≤ length t.labels
      → ((n : ℕ) → 1 ≤ n → n ≤ length t.labels → text (label_at t.labels n) ≢ l)
      → c ≡ 19 → MetAfter t line c
  -- "16 end with an id never begun"
  never_begun : (i : ℕ) → Ends line i → NoRunHas t i → c ≡ 16 → MetAfter t line c
  -- "17 if the id has begun and none is open"
  none_open : (i : ℕ) → Ends line i → (k : ℕ) → HasId t i k → NoneOpen t i → c ≡ 17 → MetAfter t line c

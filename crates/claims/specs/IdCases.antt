-- Ids that are used again: what some logs leave, which refusals they meet, and what is printed of them.
use Rattle.std.specs.Prelude.{ℕ, zero, suc, ◌≡◌, List, [], ◌∷◌, ◌++◌}
use Rattle.lists.specs.Lists.{bytes}
use Rattle.labels.specs.Label.{label_no}
use Rattle.refusals.specs.declared.Refusal.TheVariants.{StillOpen, NeverBegun, NoneOpen, TooManyRuns}
use Rattle.trace.specs.declared.Run.{Run}
use Rattle.trace.specs.Trace.{Trace, Answer, next, refused, line, read}
use Rattle.pairs.specs.declared.Layout.{Layout}
use Rattle.rules.specs.Cases.{p1_file}
use Rattle.whole_log.specs.Cases.{Long, first_pair}
use Rattle.report.specs.Text.{report_text}

-- a run without a label, by its id and its lines; and the answer of a log that leaves such runs after n lines
abbrev pub bare_run : ℕ → ℕ → ℕ → Run
bare_run i b e = record { id = i; begin = line b; end = line e; label = label_no 0 }

abbrev pub leaves_runs : List Run → ℕ → Answer
leaves_runs rs n = next (record { runs = rs; labels = []; lines = n })

-- n runs of one id, one after the other
abbrev pub in_turn : ℕ → List ℕ
in_turn zero = []
in_turn (suc n) = bytes "B 1\nE 1\n" ++ in_turn n

pub record IdCases : Type 0 where
  -- "The case `B 1`, `E 1`, `B 1` is now accepted."
  pub again : read (bytes "B 1\nE 1\nB 1\n") ≡ leaves_runs (bare_run 1 1 2 ∷ bare_run 1 3 0 ∷ []) 3
  -- "An end line closes the open run of that id": not the first, and not that of another id which is open too
  pub closes : read (bytes "B 1\nE 1\nB 1\nE 1\n") ≡ leaves_runs (bare_run 1 1 2 ∷ bare_run 1 3 4 ∷ []) 4
  pub closes_own : read (bytes "B 1\nB 2\nE 1\nB 1\nE 2\nE 1\n")
      ≡ leaves_runs (bare_run 1 1 3 ∷ bare_run 2 2 5 ∷ bare_run 1 4 6 ∷ []) 6
  -- "15 only while the id's run is open"; and there is room for 128 runs in all, of one id too
  pub open_once : read (bytes "B 1\nB 1\n") ≡ refused StillOpen
  pub open_again : read (bytes "B 1\nE 1\nB 1\nB 1\n") ≡ refused StillOpen
  pub room : (u : Trace) × (read (in_turn 128) ≡ next u)
  pub no_room : read (in_turn 128 ++ bytes "B 1\n") ≡ refused TooManyRuns
  -- "17 if the id has begun and none is open; 16 as before"
  pub ended : read (bytes "B 1\nE 1\nE 1\n") ≡ refused NoneOpen
  pub ended-again : read (bytes "B 1\nE 1\nB 1\nE 1\nE 1\n") ≡ refused NoneOpen
  pub ended-beside : read (bytes "B 1\nB 2\nE 1\nE 1\n") ≡ refused NoneOpen
  pub never_begun : read (bytes "B 1\nE 1\nE 2\n") ≡ refused NeverBegun
  -- "the pair relations are now about run numbers": two runs of one id, of which the first is before the second
  pub noted : (lay : Layout) (w out : List ℕ) → Long lay w out → first_pair lay (bytes "B 1\nE 1\nB 1\nE 1\n") w out ≡ 5
  -- and so is a rule. In the first log the EVENING of id 1 is over before the TEST of id 1 begins; in the second the
  -- second EVENING of id 1 includes a TEST
  pub kept : report_text p1_file (bytes "B 1 EVENING\nE 1\nB 1 TEST\nE 1\nE 1\n")
      ≡ bytes "1 H\n2 H\n3 H\n4 H\n5 R17\nT 4 2 2 0 0\n"
  pub broken : report_text p1_file (bytes "B 1 EVENING\nE 1\nB 1 EVENING\nB 2 TEST\nE 2\nE 1\n")
      ≡ bytes "1 H\n2 H\n3 H\n4 H\n5 H\n6 F\nT 6 3 3 0 1\n"

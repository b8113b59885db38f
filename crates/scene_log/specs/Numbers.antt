-- The calls that answer a number: sets of relations, a whole log, a report. `answer_numbers` has the number of each answer.
use Rattle.std.specs.Prelude.{ℕ, ◌<◌, ◌≡◌, List}
use Rattle.std.specs.Prelude.{Ok}
use Rattle.relations.specs.Sets.{conversed_of}
use Rattle.relations.specs.Runs.{Conversed}
use Rattle.relations.specs.Compose.{composed_of, CompositionLaw}
use Rattle.reading.specs.declared.LogRead.{LogRead}
use Rattle.whole_log.specs.Log.{log_of, ChecksLog}
use Rattle.whole_log.specs.Part.{read_part}
use Rattle.answer_numbers.specs.Numbers.{refusal, answer_number, log_number, report_number, ByLayout, mode_named}
use Rattle.report.specs.Report.{Result, report_of, Reports}
use Rattle.pairs.specs.declared.Layout.{Layout}

-- ── sets of relations ──
-- "takes two sets and answers a set, the composition that demand 3 calls reported, or refuses with 14"
pub record ComposesNumbers (a b n : ℕ) : Type 0 where
  pub answer : n ≡ answer_number (composed_of a b)
  pub is_set : (d : ℕ) → composed_of a b ≡ Ok d → d < 64
  pub demand-3 : CompositionLaw

pub record ConversesNumber (a n : ℕ) : Type 0 where
  pub answer : n ≡ answer_number (conversed_of a)
  pub meaning : Conversed a (conversed_of a)

-- ── a whole log ──
abbrev pub log_numbered : LogRead × List ℕ × List ℕ → ℕ × List ℕ × List ℕ
log_numbered z = (log_number z.0, z.1, z.2)

-- the answer and both buffers, for every input; and what they mean
pub record ChecksLogNumber (lay : Layout) (file log w out : List ℕ) (n : ℕ) (w' out' : List ℕ) : Type 0 where
  pub answer : ◌≡◌ {A = ℕ × List ℕ × List ℕ} (n, w', out') (log_numbered (log_of lay file log w out))
  pub meaning : ChecksLog lay file log w out (log_of lay file log w out).0 w' out'

-- by the number of a layout and that of a mode: of the part of the log that is read
abbrev pub ChecksLogFor : ℕ → ℕ → List ℕ → List ℕ → List ℕ → List ℕ → ℕ → List ℕ → List ℕ → Type 0
ChecksLogFor l m file log w out n w' out' =
    ByLayout l (λ lay. ChecksLogNumber lay file (read_part (mode_named m) file log) w out n w' out') (◌≡◌ {A = ℕ × List ℕ × List ℕ} (n, w', out') (refusal 20, w, out))

-- ── a report ──
abbrev pub report_numbered : Result → ℕ × List ℕ × List ℕ × List ℕ
report_numbered z = (report_number z.0, z.1, z.2, z.3)

-- the answer and the three buffers, for every input; and what they mean
pub record ReportsNumber (lay : Layout) (file log w out text : List ℕ) (n : ℕ) (w' out' text' : List ℕ) : Type 0 where
  pub answer : ◌≡◌ {A = ℕ × List ℕ × List ℕ × List ℕ} (n, w', out', text') (report_numbered (report_of lay file log w out text))
  pub meaning : Reports lay file log w out text (report_of lay file log w out text).0 w' out' text'

abbrev pub ReportsFor : ℕ → ℕ → List ℕ → List ℕ → List ℕ → List ℕ → List ℕ → ℕ → List ℕ → List ℕ → List ℕ → Type 0
ReportsFor l m file log w out text n w' out' text' =
    ByLayout l (λ lay. ReportsNumber lay file (read_part (mode_named m) file log) w out text n w' out' text')
    (◌≡◌ {A = ℕ × List ℕ × List ℕ × List ℕ} (n, w', out', text') (refusal 20, w, out, text))

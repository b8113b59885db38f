-- The two layouts of a work area: "give the same verdicts, refusals and relations. Both layouts remain". Where the pair
-- bytes stand in each; that what a call answers does not depend on the layout that it names, for any log; and what
-- becomes of an area of one layout in a call that names the other.
use Rattle.std.specs.Prelude.{ℕ, ◌+◌, ◌*◌, ◌-◌, ◌≤◌, ◌<◌, ◌≡◌, ◌≢◌, ◌↔◌, List, length, get_or}
use Rattle.std.proofs.Math.Option.{Option}
use Rattle.lists.specs.Limits.{max_runs}
use Rattle.trace.specs.declared.Record.{Record}
use Rattle.trace.specs.Trace.{Trace}
use Rattle.pairs.specs.declared.Layout.{Layout}
use Rattle.pairs.specs.declared.Layout.TheVariants.{Square, Half}
use Rattle.pairs.specs.Layout.{work_size, place, Places, NoPair}
use Rattle.reading.specs.Left.{Left}
use Rattle.single.specs.Handed.{HandedBy}
use Rattle.single.specs.Line.{refusing}
use Rattle.tallies.specs.Tally.{refusing_with}
use Rattle.report.specs.Calls.{StartCall, LineCall, TalliedCall, LogCall, ReportCall, LongEnough}
use Rattle.claims.specs.WhereMet.{Ruled}

-- ── what stands where ──
pub record Stands : Type 0 where
  -- "its first 16,384 bytes are pair bytes: 128 × first run + second run"; where the second did not begin later, the
  -- byte is that of no two runs
  pub square_size : work_size Square ≡ 16384
  pub square : (x y : ℕ) → place Square x y ≡ 128 * x + y
  pub square_below : (a b : ℕ) → b ≤ a → a < max_runs → NoPair (place Square) (max_runs * a + b)
  -- "The hand terminal lends 8,128 bytes. Keep one byte for each pair begun in order, at y × (y − 1) / 2 + x for runs x
  -- below y": the halving leaves no rest, and every byte is that of two runs
  pub half_size : work_size Half ≡ 8128
  pub half : (x y : ℕ) → 2 * place Half x y ≡ y * (y - 1) + 2 * x
  pub half_full : (k : ℕ) → k < work_size Half → (x y : ℕ) × (x < y) × (y < max_runs) × (place Half x y ≡ k)
  -- different pairs have different places, and these lie below the layout's size
  pub places : (lay : Layout) → Places (work_size lay) (place lay)
  -- the byte of two runs is the same in both, each at its place
  pub noted : (lay lay' : Layout) (log : List ℕ) (t : Trace) (r : Record) (w w' : List ℕ) → Left lay log t r w
      → Left lay' log t r w' → (a b : ℕ) → a < b → b < max_runs
      → get_or w (place lay a b) 0 ≡ get_or w' (place lay' a b) 0

-- ── the answers do not depend on it ──
pub record SameAnswers : Type 0 where
  pub start : (j k : StartCall) → work_size j.layout ≤ length j.work → work_size k.layout ≤ length k.work
      → j.answer ≡ k.answer
  -- one line: the record, the verdict or the refusal, and the tally, whether lines that leave the trace h left what is
  -- handed in, in each layout, or none did (21)
  pub line : (j k : LineCall) → j.file ≡ k.file → j.state ≡ k.state → j.line ≡ k.line
      → work_size j.layout ≤ length j.work → work_size k.layout ≤ length k.work → (h : Option Trace)
      → HandedBy j.layout j.state j.work h → HandedBy k.layout k.state k.work h
      → j.answer ≡ k.answer
  pub tallied : (j k : TalliedCall) → j.file ≡ k.file → j.state ≡ k.state → j.tally ≡ k.tally → j.line ≡ k.line
      → work_size j.layout ≤ length j.work → work_size k.layout ≤ length k.work → (h : Option Trace)
      → HandedBy j.layout j.state j.work h → HandedBy k.layout k.state k.work h
      → j.answer ≡ k.answer
  -- any log, in either mode: the record, the refusal with its line, and the verdict bytes
  pub log : (j k : LogCall) → j.mode ≡ k.mode → j.file ≡ k.file → j.log ≡ k.log → j.verdicts ≡ k.verdicts
      → work_size j.layout ≤ length j.work → work_size k.layout ≤ length k.work
      → (j.answer ≡ k.answer) × (j.verdicts' ≡ k.verdicts')
  pub report : (j k : ReportCall) → j.mode ≡ k.mode → j.file ≡ k.file → j.log ≡ k.log → j.verdicts ≡ k.verdicts
      → j.text ≡ k.text → LongEnough j → LongEnough k
      → (j.answer ≡ k.answer) × (j.verdicts' ≡ k.verdicts') × (j.text' ≡ k.text')

-- ── an area of the other layout ──
-- Its bytes happen to be right exactly if fewer than two runs have begun and all bytes below the other's size are 0.
-- With two runs a call on one line that names the other layout, and whose rule is taken, refuses it with 21.
pub record OtherLayout : Type 0 where
  pub right : (lay lay' : Layout) → lay ≢ lay' → (log : List ℕ) (t : Trace) (r : Record) (w : List ℕ)
      → Left lay log t r w → work_size lay' ≤ length w
      → Left lay' log t r w ↔ ((length t.runs < 2) × ((k : ℕ) → k < work_size lay' → get_or w k 0 ≡ 0))
  pub line : (k : LineCall) (lay : Layout) → lay ≢ k.layout → (log : List ℕ) (t : Trace)
      → Left lay log t k.state k.work → work_size k.layout ≤ length k.work → Ruled k.file
      → 2 ≤ length t.runs → k.answer ≡ refusing k.state 21
  pub tallied : (k : TalliedCall) (lay : Layout) → lay ≢ k.layout → (log : List ℕ) (t : Trace)
      → Left lay log t k.state k.work → work_size k.layout ≤ length k.work → Ruled k.file
      → 2 ≤ length t.runs → k.answer ≡ refusing_with k.state k.tally 21

pub record Layouts : Type 0 where
  pub stands : Stands
  pub same : SameAnswers
  pub other : OtherLayout

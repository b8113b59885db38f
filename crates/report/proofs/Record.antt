-- The text of a record: the lines of its verdict bytes, how the reading ended, and the tally. Its counts are low enough to be
-- printed, since the record is that of a trace that keeps its bounds.
use Prim.Native.Nat.{ℕ, ◌≤◌}
use mathlib.Core.Path.{◌≡◌, ap, sym, ◌∙◌, subst}
use mathlib.Core.Bool.{Bool, true, false}
use mathlib.Core.List.{List, ◌++◌}
use native.Mathlib.Omega.{arith}
use lib.ListN.{length, take, length-take}
use Rattle.lists.proofs.Lists.{append-nil}
use Rattle.trace.specs.declared.Record.{Record}
use Rattle.trace.specs.Trace.{Trace}
use Rattle.trace.specs.Record.{record_of}
use Rattle.reading.specs.declared.LogRead.{LogRead}
use Rattle.tallies.specs.declared.Tally.{Tally}
use Rattle.tallies.specs.Tally.{tally_of, CountsRecord}
use Rattle.trace.proofs.Finished.{finished_few}
use Rattle.report.specs.Text.{tally_text}
use Rattle.text_pieces.specs.Writing.{Writes, WritesFew, ending_text, unread?}
use Rattle.report.specs.RecordText.{lines_to, fails_to, record_text, Printable, OfTrace, PrintsRecord}
use Rattle.text_pieces.proofs.Writing.{then, writes_same}
use Rattle.report.proofs.Pieces.{lines_first, fails_first}

lines_of_lem : (a : LogRead) (t : Trace) → a.state ≡ record_of t → a.state.lines.0 ≡ t.lines
unfolding record_of
lines_of_lem a t e = ap (λ (r : Record). r.lines.0) e

runs_of : (a : LogRead) (t : Trace) → a.state ≡ record_of t → a.state.runs.count ≡ length t.runs
unfolding record_of
runs_of a t e = ap (λ (r : Record). r.runs.count) e

-- ── what can be printed ──
module _ (a : LogRead) (o : OfTrace a) where
  pub lines_few : a.state.lines.0 ≤ 256
  lines_few = omega (arith, lines_of_lem a o.trace o.state, o.bounded.lines)

  pub told_few : (v : List ℕ) → length (take a.state.lines.0 v) ≤ 256
  told_few v = omega (arith, length-take a.state.lines.0 v, lines_few)

  pub runs_few : a.state.runs.count ≤ 128
  runs_few = omega (arith, runs_of a o.trace o.state, o.bounded.runs)

  trace_low : (n : ℕ) → n ≤ 256 → Printable (tally_of o.trace n)
  unfolding tally_of
  trace_low n h =
      let f = finished_few o.trace.runs in
      let b = o.bounded.runs in
      let l = o.bounded.lines in
      record { lines = omega arith; begun = omega arith; finished = omega arith; running = omega arith; failing = omega arith }

  pub tally_low : (n : ℕ) (y : Tally) → CountsRecord a.state n y → n ≤ 256 → Printable y
  tally_low n y k h = subst Printable (sym (k.meaning o.trace o.state)) (trace_low n h)

-- ── what is printed ──
module _ (a : LogRead) (o : OfTrace a) (v text text₁ text₂ : List ℕ) (q r : ℕ) (z : 256 ≤ length v)
    (w : Writes (lines_to (take a.state.lines.0 v) (length (take a.state.lines.0 v))) text 0 text₁ q) (h : q ≤ 1536) (e : WritesFew 9 (ending_text a.ending) text₁ q text₂ r) (b : Bool) (u : b ≡ unread? a.ending) where
  lines_told : Writes (lines_to v a.state.lines.0) text 0 text₁ q
  lines_told = writes_same (lines_first v a.state.lines.0 (omega (arith, lines_few a o))) w

  pub printed-unread : b ≡ true → PrintsRecord a v text text₂ r
  unfolding record_text
  printed-unread p t s =
      let n = lines_of_lem a t s in
      let y : unread? a.ending ≡ true = sym u ∙ p in
      record {
        writes = writes_same (simp (y, append-nil (ending_text a.ending)) (ap (λ (k : ℕ). lines_to v k ++ ending_text a.ending) n)) (then lines_told e.writes);
        few = omega (arith, h, e.few);
      }

  pub printed_tally : b ≡ false → (text₃ : List ℕ) (n m : ℕ) (y : Tally)
      → n ≡ fails_to (take a.state.lines.0 v) (length (take a.state.lines.0 v)) → CountsRecord a.state n y → WritesFew 22 (tally_text y) text₂ r text₃ m
      → PrintsRecord a v text text₃ m
  unfolding record_text
  printed_tally p text₃ n m y f k c t s =
      let l = lines_of_lem a t s in
      let g : unread? a.ending ≡ false = sym u ∙ p in
      let d : y ≡ tally_of t (fails_to v t.lines) =
      k.meaning t s ∙ ap (tally_of t) (f ∙ fails_first v a.state.lines.0 (omega (arith, lines_few a o)) ∙ ap (fails_to v) l) in
      record {
        writes = writes_same (simp g (λ i. lines_to v (l i) ++ (ending_text a.ending ++ tally_text (d i)))) (then lines_told (then e.writes c.writes));
        few = omega (arith, h, e.few, c.few);
      }

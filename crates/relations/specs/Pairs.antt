-- The relations that the pair bytes note. "5 XXYY (before), 6 XYXY (overlaps), 7 XYYX (includes)"
use Rattle.std.specs.Prelude.{ℕ, ◌≤◌, ◌≡◌, ◌↔◌}
use Rattle.trace.specs.Trace.{Trace}
use Rattle.pairs.specs.Pairs.{pair_byte}
use Rattle.relations.specs.Relation.{before, after, overlaps, overlapped, includes, during, number}
use Rattle.relations.specs.Runs.{FinishedRun, RelatesRuns}

-- the byte of two finished runs, the number of the relation of the first to the second, and that of the second to the first
pub record Agree (byte there back : ℕ) : Type 0 where
  pub finished : (5 ≤ byte) × (byte ≤ 7)
  pub is_before : (byte ≡ 5) ↔ (there ≡ number before)
  pub is_overlaps : (byte ≡ 6) ↔ (there ≡ number overlaps)
  pub is_includes : (byte ≡ 7) ↔ (there ≡ number includes)
  pub is_after : (byte ≡ 5) ↔ (back ≡ number after)
  pub is_overlapped : (byte ≡ 6) ↔ (back ≡ number overlapped)
  pub is_during : (byte ≡ 7) ↔ (back ≡ number during)

-- the byte of any two run numbers: 5, 6 or 7 exactly where both runs are finished and the relation relates the first to the second
pub record Noted (t : Trace) (x y : ℕ) : Type 0 where
  pub is_before : (pair_byte t.runs x y ≡ 5) ↔ (FinishedRun t x × FinishedRun t y × RelatesRuns before t x y)
  pub is_overlaps : (pair_byte t.runs x y ≡ 6) ↔ (FinishedRun t x × FinishedRun t y × RelatesRuns overlaps t x y)
  pub is_includes : (pair_byte t.runs x y ≡ 7) ↔ (FinishedRun t x × FinishedRun t y × RelatesRuns includes t x y)

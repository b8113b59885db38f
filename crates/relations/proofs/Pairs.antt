-- Why the pair bytes and the relations agree. Of two finished runs the one with the smaller number begins first, so that it is
-- before, overlaps or includes the other; the byte is told apart by the same comparisons. A pair that is not finished, or read
-- backwards, has a smaller byte. "the relation noted for each pair of runs is the one that their line positions give"
use Prim.Native.Nat.{ℕ, ◌<◌, ◌≤◌}
use mathlib.Core.Path.{◌≡◌, sym, ap, ◌∙◌}
use mathlib.Core.Logic.{◌≢◌}
use mathlib.Core.List.{List}
use native.Mathlib.Omega.{arith}
use lib.ListN.{length}
use Rattle.lists.proofs.Cases.{either_lt, either_eq}
use Rattle.trace.specs.declared.Run.{Run}
use Rattle.trace.specs.Trace.{Trace, run_at, begin_line, end_line, start, Accepted}
use Rattle.trace.proofs.Accepted.{accepted_orderly}
use Rattle.pairs.specs.Pairs.{pair_set, pair_byte}
use Rattle.pairs.proofs.Pairs.{set-1, set-2, set-3, set-4, set-5, set-6, set-7, pair_in, pair_late, pair_low}
use Rattle.relations.specs.Relation.{Relation, before, after, overlaps, overlapped, includes, during, number}
use Rattle.relations.specs.Runs.{FinishedRun, RelatesRuns, relation_in}
use Rattle.relations.specs.Pairs.{Agree, Noted}
use Rattle.relations.proofs.Relation.{relation-number}
use Rattle.relations.proofs.Runs.{finished_run, runs_apart}

-- ── the byte of two runs ──
-- a pair of which one is open
open_low : (X Y : Run) → (0 < end_line X → 0 < end_line Y → ⊥) → pair_set X Y < 5
open_low X Y n =
    either_eq (end_line X) 0
    (λ p. either_eq (end_line Y) 0 (λ q. omega (arith, set-1 X Y p q)) (λ q. omega (arith, set-4 X Y p q)))
    (λ p. either_eq (end_line Y) 0
    (λ q. either_lt (end_line X) (begin_line Y) (λ l. omega (arith, set-2 X Y p l q)) (λ l. omega (arith, set-3 X Y p l q)))
    (λ q. absurd (n (omega arith) (omega arith))))

module _ (t : Trace) (x y : ℕ) where
  byte_late : y ≤ x → pair_byte t.runs x y ≡ 0
  byte_late h = pair_low t.runs x y h

  byte_none : length t.runs ≤ y → pair_byte t.runs x y ≡ 0
  byte_none h = pair_late t.runs x y h

  byte_set : x < y → y < length t.runs → pair_byte t.runs x y ≡ pair_set (run_at t x) (run_at t y)
  byte_set h k = pair_in t.runs x y h k

  byte_low : (FinishedRun t x → FinishedRun t y → ⊥) → pair_byte t.runs x y < 5
  byte_low n =
      either_lt x y
      (λ h. either_lt y (length t.runs)
      (λ k. omega (arith, byte_set h k, open_low (run_at t x) (run_at t y) (λ p q. n (finished_run t x p) (finished_run t y q))))
      (λ k. omega (arith, byte_none k)))
      (λ h. omega (arith, byte_late h))

-- ── two finished runs of an accepted log ──
module _ (log : List ℕ) (t : Trace) (accepted : Accepted log t) (x y : ℕ) where
  -- the first has the smaller number
  by_byte : {C : Type 0} → x < y → FinishedRun t x → FinishedRun t y
      → (pair_byte t.runs x y ≡ 5 → RelatesRuns before t x y → C)
      → (pair_byte t.runs x y ≡ 6 → RelatesRuns overlaps t x y → C)
      → (pair_byte t.runs x y ≡ 7 → RelatesRuns includes t x y → C) → C
  by_byte h fx fy b o i =
      let X : Run = run_at t x in
      let Y : Run = run_at t y in
      let l = accepted_orderly log t accepted in
      let e : pair_byte t.runs x y ≡ pair_set X Y = byte_set t x y h fy.begun in
      let p : end_line X ≢ 0 = λ z. omega (arith, fx.ended) in
      let q : end_line Y ≢ 0 = λ z. omega (arith, fy.ended) in
      let s : begin_line X < begin_line Y = l.order x y h fy.begun in
      let g : begin_line Y < end_line Y = l.forward y fy.ended in
      let d : x ≢ y = λ z. omega arith in
      let a = runs_apart log t accepted x y d fx fy in
      either_lt (end_line X) (begin_line Y)
      (λ m. b (e ∙ sym (set-5 X Y p m q)) m)
      (λ m.
      let k : begin_line Y < end_line X = omega (arith, a.2) in
      either_lt (end_line X) (end_line Y)
      (λ n. o (e ∙ sym (set-6 X Y p m q n)) (s, k, n))
      (λ n. i (e ∙ sym (set-7 X Y p m q n)) (s, g, omega (arith, a.3))))

  numbers : (r : Relation) → FinishedRun t x → FinishedRun t y → RelatesRuns r t x y → number r ≡ relation_in t x y
  numbers r fx fy h =
      let l = accepted_orderly log t accepted in
      relation-number _ _ _ _ r (l.forward x fx.ended) (l.forward y fy.ended) h

  backwards : (r : Relation) → FinishedRun t x → FinishedRun t y → RelatesRuns r t y x → number r ≡ relation_in t y x
  backwards r fx fy h =
      let l = accepted_orderly log t accepted in
      relation-number _ _ _ _ r (l.forward y fy.ended) (l.forward x fx.ended) h

  -- The byte of two finished runs, begun in that order, is 5, 6 or 7 exactly as the first relates to the second by 1, 4 or 16,
  -- and the second to the first by 2, 8 or 32.
  pub pair_byte_relation : x < y → FinishedRun t x → FinishedRun t y → Agree (pair_byte t.runs x y) (relation_in t x y) (relation_in t y x)
  pair_byte_relation h fx fy =
      by_byte h fx fy
      (λ e m. let p = numbers before fx fy m in let q = backwards after fx fy m in omega arith)
      (λ e m. let p = numbers overlaps fx fy m in let q = backwards overlapped fx fy m in omega arith)
      (λ e m. let p = numbers includes fx fy m in let q = backwards during fx fy m in omega arith)

  -- what begins first has the smaller number
  earlier : FinishedRun t x → start t x < start t y → x < y
  earlier fx h =
      either_lt x y (λ l. l)
      (λ l. either_eq x y
      (λ e. let z : start t x ≡ start t y = ap (λ (k : ℕ). start t k) e in absurd (omega arith))
      (λ n. let m : y < x = omega arith in absurd (omega (arith, (accepted_orderly log t accepted).order y x m fx.begun))))

  -- a byte of 5 and more is that of two finished runs
  noted_runs : {C : Type 0} → 5 ≤ pair_byte t.runs x y → (x < y → FinishedRun t x → FinishedRun t y → C) → C
  noted_runs h k =
      either_lt 0 (end_line (run_at t x))
      (λ p. either_lt 0 (end_line (run_at t y))
      (λ q. either_lt x y (λ l. k l (finished_run t x p) (finished_run t y q)) (λ l. absurd (omega (arith, byte_late t x y l))))
      (λ q. absurd (omega (arith, byte_low t x y (λ a b. omega (arith, b.ended))))))
      (λ p. absurd (omega (arith, byte_low t x y (λ a b. omega (arith, a.ended)))))

  -- The byte of any two numbers notes what holds of their runs.
  pub pair_byte_noted : Noted t x y
  pair_byte_noted =
      record {
        is_before = (
          λ e. noted_runs (omega arith)
              (λ h fx fy. by_byte h fx fy (λ _ m. (fx, fy, m)) (λ d _. absurd (omega arith)) (λ d _. absurd (omega arith))),
          λ w. by_byte (earlier w.0 (omega (arith, (accepted_orderly log t accepted).forward x w.0.ended))) w.0 w.1 (λ d _. d) (λ _ m. absurd (omega arith)) (λ _ m. absurd (omega arith)),
        );
        is_overlaps = (
          λ e. noted_runs (omega arith)
              (λ h fx fy. by_byte h fx fy (λ d _. absurd (omega arith)) (λ _ m. (fx, fy, m)) (λ d _. absurd (omega arith))),
          λ w. by_byte (earlier w.0 w.2.0) w.0 w.1 (λ _ m. absurd (omega arith)) (λ d _. d) (λ _ m. absurd (omega arith)),
        );
        is_includes = (
          λ e. noted_runs (omega arith)
              (λ h fx fy. by_byte h fx fy (λ d _. absurd (omega arith)) (λ d _. absurd (omega arith)) (λ _ m. (fx, fy, m))),
          λ w. by_byte (earlier w.0 w.2.0) w.0 w.1 (λ _ m. absurd (omega arith)) (λ _ m. absurd (omega arith)) (λ d _. d),
        );
      }

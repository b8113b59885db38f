-- A line ends at most one run, so that each number of finished runs between those of two lines is reached at a line between them.
use Prim.Native.Nat.{ℕ, zero, suc, ◌+◌, ◌<◌, ◌≤◌}
use mathlib.Core.Path.{◌≡◌, ap, ◌∙◌}
use native.Mathlib.Omega.{arith}
use lib.ListN.{length, length-append}
use Rattle.lists.proofs.Cases.{either_eq, either_lt}
use Rattle.trace.specs.Trace.{Trace}
use Rattle.trace.specs.Orderly.{Orderly}
use Rattle.order.specs.Order.{ending_at, order_to}
use Rattle.order.proofs.Counted.{order_none, order_next}
use Rattle.order.proofs.Lines.{either-ends}

-- how many runs are finished by a line
abbrev pub finished_by : Trace → ℕ → ℕ
finished_by t l = length (order_to t.runs l)

-- a line from one on, up to k, by which n runs are finished
pub record Reached (t : Trace) (line k n : ℕ) : Type 0 where
  pub at : ℕ
  pub from : line ≤ at
  pub to : at ≤ k
  pub finished : finished_by t at ≡ n

module _ (t : Trace) (o : Orderly t) where
  at_most_one : (l : ℕ) → l < t.lines → finished_by t (suc l) ≤ suc (finished_by t l)
  at_most_one l h =
      let e : finished_by t (suc l) ≡ finished_by t l + length (ending_at 0 t.runs (suc l)) =
      ap length (order_next t.runs l) ∙ length-append (order_to t.runs l) (ending_at 0 t.runs (suc l)) in
      either-ends t o (suc l) (omega arith) h (λ i low q f. omega (arith, ap length f)) (λ f. omega (arith, ap length f))

  at_first : (line k n : ℕ) → line ≡ k → finished_by t line ≤ n → n ≤ finished_by t k → Reached t line k n
  at_first line k n e least most = record { at = k; from = omega arith; to = omega arith; finished = omega (arith, ap (finished_by t) e) }

  -- THE LAW
  pub line_reached : (line k n : ℕ) → line ≤ k → k ≤ t.lines → finished_by t line ≤ n → n ≤ finished_by t k → Reached t line k n
  line_reached line zero n a b least most = at_first line 0 n (omega arith) least most
  line_reached line (suc k) n a b least most =
      either_lt (finished_by t k) n
      (λ h. record { at = suc k; from = a; to = omega arith; finished = omega (arith, at_most_one k b) })
      (λ h.
      either_eq line (suc k)
      (λ e. at_first line (suc k) n e least most)
      (λ d. longer (line_reached line k n (omega (arith, d)) (omega arith) least h)))
    where
      longer : Reached t line k n → Reached t line (suc k) n
      longer w = record { at = w.at; from = w.from; to = omega (arith, w.to); finished = w.finished }

-- line 0 reaches no number but 0, and line k none but its own
module _ (t : Trace) (line k n : ℕ) (w : Reached t line k n) where
  pub reached_late : 0 < n → 0 < w.at
  reached_late h =
      either_eq w.at 0
      (λ e. let z : finished_by t w.at ≡ 0 = ap (finished_by t) e ∙ ap length (order_none t.runs) in absurd (omega (arith, w.finished)))
      (λ d. omega (arith, d))

  pub reached_early : n < finished_by t k → w.at < k
  reached_early h = either_eq w.at k (λ e. absurd (omega (arith, ap (finished_by t) e, w.finished))) (λ d. omega (arith, d, w.to))

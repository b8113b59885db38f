-- The verdicts of all lines: as many runs are finished after the first k lines as the order has by line k, and the truth value at
-- that moment is the verdict.
use Prim.Native.Nat.{ℕ, zero, suc, ◌+◌, ◌-◌, ◌<◌, ◌≤◌}
use mathlib.Core.Path.{◌≡◌, refl, sym, ap, ◌∙◌}
use mathlib.Core.Bool.{Bool, true, false, cond}
use mathlib.Core.List.{List, []}
use native.Mathlib.Omega.{arith}
use lib.ListN.{length, get_or, take}
use lib.Seq.{length-take-le}
use Rattle.lists.proofs.Cases.{either_lt, never}
use Rattle.sets.specs.Sets.{mem}
use Rattle.sets.specs.declared.RunSet.{RunSet}
use Rattle.lines.specs.Log.{lines_of}
use Rattle.trace.specs.Trace.{Trace, next, no_trace, steps, read, Accepted}
use Rattle.trace.proofs.Taken.{line_lines}
use Rattle.trace.proofs.Induction.{steps_keep}
use Rattle.trace.proofs.Accepted.{accepted_orderly}
use Rattle.rules.specs.Formula.{Formula, no_scope, scoped}
use Rattle.logic.specs.declared.Verdict.TheVariants as Verdict
use Rattle.logic.specs.Model.{eval, model_of}
use Rattle.logic.specs.Verdict.{Says}
use Rattle.logic.proofs.Judged.{closed_says}
use Rattle.order.specs.declared.Order.{Order}
use Rattle.order.specs.Order.{order_to, finish_order}
use Rattle.order.specs.Marks.{OrderHeld}
use Rattle.order.proofs.Counted.{order_few, order_rises}
use Rattle.order.proofs.Stable.{first_count}
use Rattle.row_table.specs.Truth.{truth}
use Rattle.rows.specs.RankModel.{rank_model}
use Rattle.timeline.specs.declared.Timeline.{Timeline}
use Rattle.timeline.specs.Root.{no_runs, TrueUntil}
use Rattle.timeline.specs.AllLines.{truth_after, verdict_at, HoldsBefore}
use Rattle.timeline.proofs.Bridge.{eval_at_moment, eval_before_first}
use Rattle.timeline.proofs.Reached.{Reached, line_reached, reached_late, reached_early}

-- ── the moment of a line that holds ──
holds_true : (b : Bool) → cond b Verdict.Holds Verdict.Fails ≡ Verdict.Holds → b ≡ true
holds_true true e = refl
holds_true false e = never (let z : ◌≡◌ {A = ℕ} 0 1 = cc in z)

verdict_true : (x : Timeline) (l i : ℕ) → get_or x.done l 0 ≡ suc i → verdict_at x l ≡ Verdict.Holds → mem x.moments i ≡ true
unfolding verdict_at
verdict_true x l i n e =
    holds_true (mem x.moments i) (sym (ap (λ (m : ℕ). cond (truth_after x.first x.moments m) Verdict.Holds Verdict.Fails) n) ∙ e)

-- ── "lines from 1" ──
lines_counted : (ls : List (List ℕ)) (u : Trace) → steps (next no_trace) ls ≡ next u → u.lines ≡ length ls
lines_counted ls u e =
    let h : length {A = List ℕ} [] + u.lines ≡ length ls =
    steps_keep (λ ms v. length ms + v.lines ≡ length ls) (λ l ms t v p q. let z = line_lines t v l q in omega arith) ls no_trace u (omega arith) e in
    omega arith

module _ (log : List ℕ) (u : Trace) (a : Accepted log u) where
  pub lines_of_lem : u.lines ≡ length (lines_of log)
  unfolding read
  lines_of_lem = lines_counted (lines_of log) u a.leaves

  pub first_lines : (k : ℕ) (t : Trace) → k ≤ u.lines → steps (next no_trace) (take k (lines_of log)) ≡ next t → t.lines ≡ k
  first_lines k t l first =
      lines_counted (take k (lines_of log)) t first ∙ length-take-le k (lines_of log) (omega (arith, lines_of_lem))

  module _ (o : Order) (H : OrderHeld (order_to u.runs) u.lines o) where
    -- no line has more finished runs than there are runs
    pub done_few : (l : ℕ) → get_or o.done l 0 ≤ 128
    done_few l =
        either_lt u.lines l
        (λ h. omega (arith, H.rest l h))
        (λ h. omega (arith, H.done l h, order_few u.runs l, (accepted_orderly log u a).runs))

    module _ (f : Formula) (closed : scoped f no_scope ≡ true) (y : Timeline) (done : y.done ≡ o.done)
        (line : ℕ) (stop : Bool) (moments : TrueUntil stop (rank_model u) f (get_or o.done line 0 - 1) o.count y.moments) (before : y.first ≡ truth no_runs f (λ _. 0) 0) where
      module _ (k : ℕ) (t : Trace) (from : line ≤ k) (low : k ≤ u.lines) (hold : stop ≡ true → HoldsBefore y line k) (first : steps (next no_trace) (take k (lines_of log)) ≡ next t) where
        finished_by_lem : get_or y.done k 0 ≡ length (finish_order t)
        finished_by_lem =
            ap (λ (x : List ℕ). get_or x k 0) done
            ∙ (H.done k low ∙ (ap (λ (n : ℕ). length (order_to u.runs n)) (sym (first_lines k t low first)) ∙ sym (first_count log u a k t first)))

        -- line k is at moment m: at each moment before it the rule is true, since the line at that moment holds
        module _ (m : ℕ) (e : length (finish_order t) ≡ suc m) (holds : HoldsBefore y line k) where
          moment_true : (i : ℕ) → get_or o.done line 0 - 1 ≤ i → i < m → mem y.moments i ≡ true
          moment_true i b c =
              let n : length (order_to u.runs k) ≡ suc m = sym (H.done k low) ∙ (sym (ap (λ (x : List ℕ). get_or x k 0) done) ∙ (finished_by_lem ∙ e)) in
              let w : Reached u line k (suc i) =
              line_reached u (accepted_orderly log u a) line k (suc i) from low (omega (arith, H.done line (omega arith))) (omega arith) in
              verdict_true y w.at i
              (ap (λ (x : List ℕ). get_or x w.at 0) done ∙ (H.done w.at (omega (arith, w.to)) ∙ w.finished))
              (holds w.at (reached_late u line k (suc i) w (omega arith)) w.from (reached_early u line k (suc i) w (omega arith)))

        truth_after_lem : (n : ℕ) → length (finish_order t) ≡ n → truth_after y.first y.moments n ≡ eval (model_of t) (λ _. 0) f
        truth_after_lem zero e = before ∙ sym (eval_before_first log u a k t first no_runs refl f (λ _. 0) (λ _. 0) 0 closed e)
        truth_after_lem (suc m) e =
            let c = first_count log u a k t first in
            let r = order_rises u.runs t.lines u.lines (omega (arith, first_lines k t low first)) in
            let b = order_rises u.runs line t.lines (omega (arith, first_lines k t low first)) in
            moments m (omega (arith, H.done line (omega arith))) (omega (arith, H.count)) (λ q. moment_true m e (hold q)) (λ _. 0) ∙ sym (eval_at_moment log u a k t first f (λ _. 0) (λ _. 0) m closed e)

        -- THE LAW: the verdict at line k is that of the first k lines
        pub line_says : Says t f (verdict_at y k)
        unfolding verdict_at
        line_says = closed_says t f (λ _. 0) (truth_after y.first y.moments (get_or y.done k 0)) closed (truth_after_lem (get_or y.done k 0) (sym finished_by_lem))

-- ── the truth value by how many runs are finished ──
pub after_none : (first : Bool) (moments : RunSet) (n : ℕ) → n ≡ 0 → first ≡ truth_after first moments n
after_none first moments zero e = refl
after_none first moments (suc m) e = absurd (omega arith)

pub after_some : (first : Bool) (moments : RunSet) (n : ℕ) (b : Bool) → (n ≡ 0 → ⊥) → b ≡ mem moments (n - 1) → b ≡ truth_after first moments n
after_some first moments zero b d e = absurd (d refl)
after_some first moments (suc m) b d e = let z : suc m - 1 ≡ m = omega arith in e ∙ ap (mem moments) z

-- the verdict of the truth value at a line
pub verdict_holds : (x : Timeline) (l : ℕ) (b : Bool) → b ≡ truth_after x.first x.moments (get_or x.done l 0) → b ≡ true → Verdict.Holds ≡ verdict_at x l
unfolding verdict_at
verdict_holds x l b e t = ap (λ (c : Bool). cond c Verdict.Holds Verdict.Fails) (sym t ∙ e)

pub verdict_fails : (x : Timeline) (l : ℕ) (b : Bool) → b ≡ truth_after x.first x.moments (get_or x.done l 0) → b ≡ false → Verdict.Fails ≡ verdict_at x l
unfolding verdict_at
verdict_fails x l b e t = ap (λ (c : Bool). cond c Verdict.Holds Verdict.Fails) (sym t ∙ e)

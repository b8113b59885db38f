-- A log's verdicts are those of its prefixes: the byte of a line is what the whole-log call gives for the log that ends with it.
use Prim.Native.Nat.{ℕ, suc, ◌≤◌, ◌<◌}
use mathlib.Core.Path.{◌≡◌, refl, ap, sym, ◌∙◌}
use mathlib.Core.Bool.{true, false, ◌||◌}
use mathlib.Core.List.{List}
use native.Mathlib.Omega.{arith}
use lib.Dec.{ltb}
use lib.ListN.{length, get_or, take}
use lib.Seq.{take_all, length-take-le}
use borrow.Author.Tests.{lt-ltb, le-ltb}
use Rattle.lists.proofs.Cases.{either_lt, either_bool, no_both}
use Rattle.lines.specs.Log.{lines_of}
use Rattle.trace.specs.Trace.{Trace, next, no_trace, read, steps, Accepted}
use Rattle.pairs.specs.declared.Layout.{Layout}
use Rattle.pairs.specs.Layout.{work_size}
use Rattle.std.specs.Prelude.{Result, Ok, Err}
use Rattle.refusals.specs.declared.Refusal.{Refusal}
use Rattle.rules.specs.declared.Rule.{Rule}
use Rattle.rules.specs.Rules.{rule_of}
use Rattle.single.specs.Line.{with_rule}
use Rattle.whole_log.specs.Log.{not_read, lines_from, log_of}
use Rattle.whole_log.specs.Repeated.{Result as Whole}
use Rattle.whole_log.proofs.LogMeans.{log_means}

module _ (lay : Layout) (file w out : List ℕ) where
  -- no log is read: nothing is touched
  not_long : (log : List ℕ) → ltb (length w) (work_size lay) || ltb (length out) 256 ≡ true → (log_of lay file log w out).2 ≡ out
  unfolding log_of
  not_long log s = simp s

  not_ruled : (log : List ℕ) (n : Refusal) → ltb (length w) (work_size lay) || ltb (length out) 256 ≡ false → rule_of file ≡ Err n → (log_of lay file log w out).2 ≡ out
  unfolding log_of with_rule
  not_ruled log n s e = simp s (ap (λ (z : Result Rule Refusal). (with_rule {A = Whole} z (λ m. (not_read m, w, out)) (λ x. lines_from lay file x no_trace (lines_of log) w out)).2) e)

  long : ltb (length w) (work_size lay) || ltb (length out) 256 ≡ false → work_size lay ≤ length w
  long s = either_lt (length w) (work_size lay) (λ h. let f : true ≡ false = simp (lt-ltb _ _ h) at s in no_both f) (λ h. h)

  room : ltb (length w) (work_size lay) || ltb (length out) 256 ≡ false → 256 ≤ length out
  room s = either_lt (length out) 256 (λ h. let f : true ≡ false = simp (lt-ltb _ _ h, le-ltb _ _ (long s)) at s in no_both f) (λ h. h)

  module _ (log start : List ℕ) (k : ℕ) (first : lines_of start ≡ take (suc k) (lines_of log)) (within : k < length (lines_of log)) (u : Trace) (a : Accepted start u) where
    count : length (lines_of start) ≡ suc k
    count = ap length first ∙ length-take-le (suc k) (lines_of log) within

    leaves : steps (next no_trace) (take (suc k) (lines_of log)) ≡ next u
    unfolding read
    leaves = ap (steps (next no_trace)) (sym first) ∙ a.leaves

    leaves_start : steps (next no_trace) (take (suc k) (lines_of start)) ≡ next u
    unfolding read
    leaves_start = ap (steps (next no_trace)) (take_all (suc k) (lines_of start) (omega (arith, count))) ∙ a.leaves

    -- THE LAW: wherever the first k + 1 lines are taken, the byte of line k + 1 is that of the log of these lines alone
    pub verdicts_of_prefixes : get_or (log_of lay file log w out).2 k 0 ≡ get_or (log_of lay file start w out).2 k 0
    verdicts_of_prefixes =
        either_bool (ltb (length w) (work_size lay) || ltb (length out) 256)
        (λ s. ap (λ (z : List ℕ). get_or z k 0) (not_long log s ∙ sym (not_long start s)))
        (λ s. by_rule (rule_of file) refl s)
      where
        by_rule : (q : Result Rule Refusal) → rule_of file ≡ q → ltb (length w) (work_size lay) || ltb (length out) 256 ≡ false → get_or (log_of lay file log w out).2 k 0 ≡ get_or (log_of lay file start w out).2 k 0
        by_rule (Err n) e s = ap (λ (z : List ℕ). get_or z k 0) (not_ruled log n s e ∙ sym (not_ruled start n s e))
        by_rule (Ok x) e s =
            let b = ((log_means lay file log w out _ _ _ refl x e (long s) (room s)).verdicts k u within leaves).byte in
            let c = ((log_means lay file start w out _ _ _ refl x e (long s) (room s)).verdicts k u (omega (arith, count)) leaves_start).byte in
            b ∙ sym c

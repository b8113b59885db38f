-- Laws of the numbers by rank: one rank more, and what the numbers keep to.
use Prim.Native.Nat.{ℕ, ◌+◌, ◌<◌, ◌≤◌}
use mathlib.Core.Path.{◌≡◌, refl, sym, ap, ◌∙◌}
use mathlib.Core.List.{List}
use native.Mathlib.Omega.{arith}
use borrow.Author.Tests.{lt-ltb, le-ltb}
use lib.ListN.{length, get_or, set, replicate}
use lib.Seq.{get_or-set_same, get_or-set_other}
use Rattle.lists.proofs.Cases.{either_lt, either_eq}
use Rattle.lists.proofs.Lists.{zeros}
use Rattle.trace.specs.declared.Run.{Run}
use Rattle.trace.specs.declared.RunTable.{RunTable}
use Rattle.trace.specs.Trace.{no_run, begin_line, end_line}
use Rattle.order.specs.declared.Order.{Order}
use Rattle.rows.specs.Values.{Ranks}
use Rattle.rows.specs.ByRank.{ranked_to, OrderFits, ByRank}

module _ (t : RunTable) (o : Order) where
  abbrev pub run_of : ℕ → Run
  run_of i = get_or t.list (get_or o.run i 0) no_run

  pub ranked_in : (k i : ℕ) → i < k → ranked_to t o k i ≡ run_of i
  unfolding ranked_to
  ranked_in k i l = rw (lt-ltb i k l) refl

  pub ranked-out : (k i : ℕ) → k ≤ i → ranked_to t o k i ≡ no_run
  unfolding ranked_to
  ranked-out k i l = rw (le-ltb i k l) refl

  -- ── the loop over ranks ──
  value_none : (field : Run → ℕ) → field no_run ≡ 0 → (i : ℕ) → get_or {A = ℕ} (replicate 128 0) i 0 ≡ field (ranked_to t o 0 i)
  value_none field e i = zeros 128 i ∙ sym (ap field (ranked-out 0 i (omega arith)) ∙ e)

  value_more : (field : Run → ℕ) (vs : List ℕ) (k v : ℕ) → k < length vs → ((i : ℕ) → get_or vs i 0 ≡ field (ranked_to t o k i)) → v ≡ field (run_of k)
      → (i : ℕ) → get_or (set vs k v) i 0 ≡ field (ranked_to t o (k + 1) i)
  value_more field vs k v h d e i =
      either_eq i k
      (λ q. rw q (get_or-set_same vs k v 0 h ∙ e ∙ sym (ap field (ranked_in (k + 1) k (omega arith)))))
      (λ n.
      get_or-set_other vs k i v 0 (omega arith)
      ∙ d i
      ∙ either_lt i k (λ l. ap field (ranked_in k i l ∙ sym (ranked_in (k + 1) i (omega arith))))
      (λ l. ap field (ranked-out k i l ∙ sym (ranked-out (k + 1) i (omega arith)))))

  pub by_rank_none : ByRank t o 0 (replicate 128 0) (replicate 128 0) (replicate 128 0)
  by_rank_none = record { start_at = value_none begin_line refl; finish_at = value_none end_line refl; number_at_lem = value_none (λ r. r.label.0) refl }

  pub by_rank_more : (ss fs ns : List ℕ) (k x y z : ℕ) → k < length ss → k < length fs → k < length ns → x ≡ begin_line (run_of k) → y ≡ end_line (run_of k)
      → z ≡ (run_of k).label.0 → ByRank t o k ss fs ns → ByRank t o (k + 1) (set ss k x) (set fs k y) (set ns k z)
  by_rank_more ss fs ns k x y z ls lf ln ex ey ez d =
      record {
        start_at = value_more begin_line ss k x ls d.start_at ex;
        finish_at = value_more end_line fs k y lf d.finish_at ey;
        number_at_lem = value_more (λ r. r.label.0) ns k z ln d.number_at_lem ez;
      }

  -- ── what they keep to ──
  ranked-keeps : (P : Run → Type 0) → P no_run → ((k : ℕ) → P (get_or t.list k no_run)) → (k i : ℕ) → P (ranked_to t o k i)
  ranked-keeps P z h k i = either_lt i k (λ l. rw (ranked_in k i l) (h (get_or o.run i 0))) (λ l. rw (ranked-out k i l) z)

  pub by_rank_fits : OrderFits t o → (ss fs ns : List ℕ) (k : ℕ) → length ss ≡ 128 → length fs ≡ 128 → length ns ≡ 128 → ByRank t o k ss fs ns
      → Ranks ss fs ns
  by_rank_fits F ss fs ns k ls lf ln d =
      record {
        starts = record { long = omega arith; low = λ i h. rw (d.start_at i) (ranked-keeps (λ r. begin_line r ≤ 256) (omega arith) F.start_low k i) };
        finishes = record { long = omega arith; low = λ i h. rw (d.finish_at i) (ranked-keeps (λ r. end_line r ≤ 256) (omega arith) F.finish_low k i) };
        numbers = record { long = omega arith; low = λ i h. rw (d.number_at_lem i) (ranked-keeps (λ r. r.label.0 ≤ 64) (omega arith) F.label_low k i) };
        forward = λ i h.
            rw (d.start_at i, d.finish_at i) (ranked-keeps (λ r. 0 < end_line r → begin_line r < end_line r) (λ u. omega arith) F.forward k i);
      }

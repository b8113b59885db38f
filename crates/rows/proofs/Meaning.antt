-- What the rows mean: filled from the record of an accepted log and the order of its runs, they are the rows of the model of its ranks.
use Prim.Native.Nat.{ℕ, zero, suc, ◌+◌, ◌*◌, ◌-◌, ◌/◌, ◌%◌, ◌<◌, ◌≤◌}
use mathlib.Core.Path.{◌≡◌, refl, sym, ap, subst, ◌∙◌}
use mathlib.Core.Bool.{cond}
use mathlib.Core.List.{List, [], ◌∷◌}
use native.Mathlib.Omega.{arith}
use native.Mathlib.Nat.{le_of_suc-le-suc, not-suc-le-zero}
use borrow.Author.Tests.{lt-ltb, le-ltb}
use lib.Dec.{eqb}
use lib.ListN.{length, get_or, get_or-eq_default}
use Rattle.lists.proofs.Lists.{get_d_pad}
use Rattle.lists.proofs.Cases.{either_lt, either_eq}
use Rattle.lists.proofs.Tells.{agree}
use Rattle.labels.specs.Label.{label_of}
use Rattle.labels.specs.Table.{index_of}
use Rattle.trace.specs.declared.Run.{Run}
use Rattle.trace.specs.declared.RunTable.{RunTable}
use Rattle.trace.specs.Trace.{Trace, no_run, run_at, begin_line, end_line, start, finish, Accepted}
use Rattle.trace.specs.Record.{record_of}
use Rattle.trace.specs.Orderly.{Orderly}
use Rattle.trace.proofs.Accepted.{accepted_orderly}
use Rattle.trace.proofs.Bounds.{accepted-bounded}
use Rattle.rules.specs.Formula.{same, has, pair}
use Rattle.rules.specs.Parts.{label_count}
use Rattle.rules.specs.Labels.{label_bytes}
use Rattle.logic.specs.Satisfies.{Satisfies}
use Rattle.logic.specs.Model.{eval, number_at, has_label?, same_label?}
use Rattle.logic.specs.Shown.{same_number, number_for}
use Rattle.logic.proofs.Decides.{eval_decides}
use Rattle.logic.proofs.LabelSays.{accepted_written, label_says, same_says}
use Rattle.order.specs.declared.Order.{Order}
use Rattle.order.specs.Order.{order_to, finish_order}
use Rattle.order.specs.Marks.{OrderHeld}
use Rattle.order.proofs.Counted.{order_few}
use Rattle.order.proofs.Ranks.{ranked_finished}
use Rattle.row_table.specs.Rows.{pair_of, RowsOf}
use Rattle.rows.specs.Values.{holds, pair_value, given_value, listed_value, row_value, Wanted, Filled}
use Rattle.rows.specs.ByRank.{ranked_to, OrderFits, ByRank, RowsFilled}
use Rattle.rows.specs.RankModel.{rank_run, rank_model}
use Rattle.rows.proofs.Ranked.{ranked_in, ranked-out}

-- within a list the default has no part
pub any_default : (xs : List ℕ) (i d e : ℕ) → i < length xs → get_or xs i d ≡ get_or xs i e
any_default [] i d e h = absurd (not-suc-le-zero h)
any_default (x ∷ xs) zero d e h = refl
any_default (x ∷ xs) (suc i) d e h = any_default xs i d e (le_of_suc-le-suc h)

-- the runs of a record are those of its trace
record_run : (s : Trace) (k : ℕ) → get_or (record_of s).runs.list k no_run ≡ run_at s k
unfolding record_of
record_run s k = get_d_pad no_run 128 s.runs k

module _ (log : List ℕ) (s : Trace) (a : Accepted log s) (o : Order) (H : OrderHeld (order_to s.runs) s.lines o) where
  orderly : Orderly s
  orderly = accepted_orderly log s a

  -- ── the run of a rank ──
  rank_in : (i : ℕ) → i < o.count → get_or o.run i 0 ≡ rank_run s i
  unfolding rank_run
  rank_in i l = H.run i ∙ any_default (finish_order s) i 0 128 (omega (arith, H.count))

  no_run_lem : (i : ℕ) → o.count ≤ i → run_at s (rank_run s i) ≡ no_run
  unfolding rank_run
  no_run_lem i l =
      let e : get_or (finish_order s) i 128 ≡ 128 = get_or-eq_default (finish_order s) 128 (omega (arith, H.count)) in
      ap (run_at s) e ∙ get_or-eq_default s.runs no_run orderly.runs

  pub ranked_run : (i : ℕ) → ranked_to (record_of s).runs o o.count i ≡ run_at s (rank_run s i)
  ranked_run i =
      either_lt i o.count
      (λ l. ranked_in (record_of s).runs o o.count i l ∙ record_run s (get_or o.run i 0) ∙ ap (run_at s) (rank_in i l))
      (λ l. ranked-out (record_of s).runs o o.count i l ∙ sym (no_run_lem i l))

  -- ── the record and the order fit ──
  run_keeps : (P : Run → Type 0) → P no_run → ((k : ℕ) → k < length s.runs → P (run_at s k)) → (k : ℕ) → P (get_or (record_of s).runs.list k no_run)
  run_keeps P z h k =
      subst P (sym (record_run s k))
      (either_lt k (length s.runs) (h k) (λ l. subst P (sym (get_or-eq_default s.runs no_run l)) z))

  pub order_fits : OrderFits (record_of s).runs o
  order_fits =
      let g = orderly in
      let few : length (finish_order s) ≤ length s.runs = order_few s.runs s.lines in
      record {
        ranks = omega (arith, H.count, g.runs);
        run_low = λ i l.
            let e : get_or o.run i 0 ≡ get_or (finish_order s) i 0 = H.run i in
            let p = ranked_finished log s a i (omega (arith, H.count)) in
            omega (arith, p.low, g.runs);
        start_low = run_keeps (λ r. begin_line r ≤ 256) (omega arith) (λ k l. omega (arith, g.within k l, g.lines));
        finish_low = run_keeps (λ r. end_line r ≤ 256) (omega arith) (λ k l. omega (arith, g.within k l, g.lines));
        label_low = run_keeps (λ r. r.label.0 ≤ 64) (omega arith) (λ k l. omega (arith, g.label_numbers k l, g.labels));
        forward = run_keeps (λ r. 0 < end_line r → begin_line r < end_line r) (λ u. omega arith) (λ k l. g.forward k);
      }

  -- ── labels ──
  has-means : (k : ℕ) (l : List ℕ) (n : ℕ) → n ≡ number_for s.labels l → same_number (number_at s k) n ≡ has_label? s k l
  unfolding Satisfies eval
  has-means k l n e =
      agree _ _ (label_says s orderly (accepted_written log s a) (accepted-bounded log s a).distinct k l n e) (eval_decides s (λ v. k) (has 0 l))

  same_means : (j k : ℕ) → same_number (number_at s j) (number_at s k) ≡ same_label? s j k
  unfolding Satisfies eval
  same_means j k =
      agree _ _ (same_says s orderly (accepted_written log s a) (accepted-bounded log s a).distinct j k) (eval_decides s (λ v. cond (eqb v 0) j k) (pair same 0 1))

  -- ── the values of the rows ──
  module _ (ss fs ns : List ℕ) (d : ByRank (record_of s).runs o o.count ss fs ns) where
    start_is : (i : ℕ) → get_or ss i 0 ≡ start s (rank_run s i)
    start_is i = d.start_at i ∙ ap begin_line (ranked_run i)

    finish_is : (i : ℕ) → get_or fs i 0 ≡ finish s (rank_run s i)
    finish_is i = d.finish_at i ∙ ap end_line (ranked_run i)

    number_is : (i : ℕ) → get_or ns i 0 ≡ number_at s (rank_run s i)
    number_is i = d.number_at_lem i ∙ ap (λ (r : Run). r.label.0) (ranked_run i)

    pair_means : (k i j : ℕ) → k < 4 → pair_value ss fs ns k i j ≡ pair_of (rank_model s) k i j
    unfolding pair_value holds pair_of
    pair_means k i j l =
        rw (start_is i, start_is j, finish_is i, finish_is j, number_is i, number_is j)
        (either_eq k 0 (λ e. rw e refl)
        (λ n0.
        either_eq k 1 (λ e. rw e refl)
        (λ n1.
        either_eq k 2 (λ e. rw e refl) (λ n2. let e : k ≡ 3 = omega arith in rw e (same_means (rank_run s i) (rank_run s j))))))

    module _ (wanted file : List ℕ) (labels : ℕ) (old new : List ℕ) (f : Filled ss fs ns wanted labels old new 1092) (count : labels ≡ label_count file)
        (few : labels ≤ 64) (are : (p : ℕ) → p < label_count file → get_or wanted p 0 ≡ number_for s.labels (label_bytes file p)) where
      given_first : (k i j : ℕ) → k < 4 → i < 128 → row_value ss fs ns wanted labels (128 * k + i) j ≡ pair_value ss fs ns k i j
      unfolding row_value given_value
      given_first k i j l h =
          let q : (128 * k + i) / 128 ≡ k = omega arith in
          let m : (128 * k + i) % 128 ≡ i = omega arith in
          let z : k % 4 ≡ k = omega arith in
          rw (lt-ltb (128 * k + i) 1024 (omega arith), q, m, lt-ltb k 4 l, z) refl

      given_second : (k i j : ℕ) → k < 4 → j < 128 → row_value ss fs ns wanted labels (512 + 128 * k + j) i ≡ pair_value ss fs ns k i j
      unfolding row_value given_value
      given_second k i j l h =
          let q : (512 + 128 * k + j) / 128 ≡ 4 + k = omega arith in
          let m : (512 + 128 * k + j) % 128 ≡ j = omega arith in
          let z : (4 + k) % 4 ≡ k = omega arith in
          rw (lt-ltb (512 + 128 * k + j) 1024 (omega arith), q, m, le-ltb (4 + k) 4 (omega arith), z) refl

      listed : (p i : ℕ) → p < labels → row_value ss fs ns wanted labels (1024 + p) i ≡ same_number (get_or ns i 0) (get_or wanted p 0)
      unfolding row_value listed_value
      listed p i l =
          let q : 1024 + p - 1024 ≡ p = omega arith in
          rw (le-ltb (1024 + p) 1024 (omega arith), q, lt-ltb p 64 (omega arith), lt-ltb p labels l) refl

      itself : (k i : ℕ) → k < 4 → row_value ss fs ns wanted labels (1088 + k) i ≡ pair_value ss fs ns k i i
      unfolding row_value listed_value
      itself k i l =
          let q : 1088 + k - 1024 ≡ 64 + k = omega arith in
          let m : 64 + k - 64 ≡ k = omega arith in
          rw (le-ltb (1088 + k) 1024 (omega arith), q, le-ltb (64 + k) 64 (omega arith), m) refl

      -- THE LAW: the rows are those of the model of the ranks
      pub rows_mean : RowsOf new file o.count (rank_model s)
      rows_mean =
          record {
            runs_are = sym H.count;
            first_given = λ k i j l hi hj. f.value (128 * k + i) j (omega arith) hj ∙ given_first k i j l hi ∙ pair_means k i j l;
            second_given_lem = λ k i j l hi hj. f.value (512 + 128 * k + j) i (omega arith) hi ∙ given_second k i j l hj ∙ pair_means k i j l;
            labels_are = λ p i l h.
                f.value (1024 + p) i (omega arith) h
                ∙ listed p i (omega arith)
                ∙ ap (λ (n : ℕ). same_number n (get_or wanted p 0)) (number_is i)
                ∙ has-means (rank_run s i) (label_bytes file p) (get_or wanted p 0) (are p l);
            with_itself = λ k i l h. f.value (1088 + k) i (omega arith) h ∙ itself k i l ∙ pair_means k i i l;
          }

-- ── what the call that fills the table promises ──
pub rows_filled : (t : RunTable) (o : Order) (wanted : List ℕ) (labels : ℕ) (old new ss fs ns : List ℕ) → Wanted wanted labels
    → ByRank t o o.count ss fs ns → Filled ss fs ns wanted labels old new 1092 → RowsFilled t o wanted labels old new
rows_filled t o wanted labels old new ss fs ns W d f =
    record {
      starts = ss;
      finishes = fs;
      numbers = ns;
      by_rank = d;
      filled = f;
      meaning = λ log file s a e H count are.
          rows_mean log s a o H ss fs ns (subst (λ (u : RunTable). ByRank u o o.count ss fs ns) e d) wanted file labels old new f count W.few are;
    }

-- the number of a label in a record is at most 64
pub wanted_low : (log : List ℕ) (s : Trace) → Accepted log s → (l : List ℕ) → number_for s.labels l ≤ 64
unfolding number_for
wanted_low log s a l =
    let g = accepted_orderly log s a in
    let i = index_of s.labels (label_of l) in
    either_lt i (length s.labels) (λ h. rw (lt-ltb i (length s.labels) h) (omega (arith, g.labels)))
    (λ h. rw (le-ltb i (length s.labels) h) (omega arith))

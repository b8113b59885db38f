-- The bridge from lines to moments. After the first lines of an accepted log the truth value of a closed formula over their finished
-- runs is its truth at a moment over the ranks of the whole log: the moment of the last run that is finished by then. Where no run
-- is finished yet, it is the truth over no runs at all.
use Prim.Native.Nat.{ℕ, suc, ◌<◌, ◌≤◌}
use mathlib.Core.Path.{◌≡◌, refl, sym, ap, ap₂, subst, ◌∙◌}
use mathlib.Core.Bool.{Bool, true, not, ◌&&◌}
use mathlib.Core.List.{List}
use native.Mathlib.Omega.{arith}
use lib.Dec.{eqb, ltb}
use lib.ListN.{length, get_or, take}
use borrow.Author.Tests.{eq-eqb, ltb-true, lt-ltb, leb-true, le-leb}
use Rattle.lists.specs.Lists.{same?}
use Rattle.lists.proofs.Cases.{either_eq}
use Rattle.labels.specs.declared.Label.{Label}
use Rattle.labels.specs.Label.{text}
use Rattle.labels.specs.Table.{label_at}
use Rattle.lines.specs.Log.{lines_of}
use Rattle.trace.specs.declared.Run.{Run}
use Rattle.trace.specs.Trace.{Trace, next, no_trace, run_at, begin_line, end_line, steps, Accepted}
use Rattle.trace.proofs.Accepted.{accepted_orderly}
use Rattle.relations.specs.Relation as Relation
use Rattle.rules.specs.Formula.{Formula, no_scope, scoped}
use Rattle.logic.specs.Satisfies.{Binding, Between, related, alike, between}
use Rattle.logic.specs.Model.{Model, eval, number_at, has_label?, related?, same_label?, holds_between?, model_of}
use Rattle.order.specs.Order.{order_to, finish_order, rank_of}
use Rattle.order.proofs.Counted.{order_rises, order_front}
use Rattle.order.proofs.Ranks.{Place, Ranked, ranked_finished, finished_ranked}
use Rattle.order.proofs.Stable.{Later, first_later}
use Rattle.row_table.specs.Truth.{at_moment, truth}
use Rattle.rows.specs.RankModel.{rank_run, rank_model}
use Rattle.rows.proofs.Meaning.{any_default}
use Rattle.timeline.proofs.Mirrored.{FinishedWith, Mirrors, eval_mirrored}
use Rattle.timeline.proofs.Front.{MoreLabels, first_accepted, first_labels_lem}

-- ── atoms by what runs hold ──
-- whether label number n of t has the bytes l
abbrev named : Trace → ℕ → List ℕ → Bool
named t n l = not (eqb n 0) && same? (text (label_at t.labels n)) l

abbrev alike_by : Trace → ℕ → ℕ → Bool
alike_by t m n = not (eqb m 0) && named t n (text (label_at t.labels m))

abbrev related_by : Relation.Relation → Run → Run → Bool
related_by k q r = ltb 0 (end_line q) && (ltb 0 (end_line r) && Relation.relates? k (begin_line q) (end_line q) (begin_line r) (end_line r))

module _ (t u : Trace) (more : MoreLabels t u) where
  named_same : (n : ℕ) (l : List ℕ) → n ≤ length t.labels → named t n l ≡ named u n l
  named_same n l h =
      either_eq n 0 (λ z. simp (eq-eqb n 0 z) refl)
      (λ d. ap (λ (x : Label). not (eqb n 0) && same? (text x) l) (sym (more.kept n d h)))

  alike_same : (m n : ℕ) → m ≤ length t.labels → n ≤ length t.labels → alike_by t m n ≡ alike_by u m n
  alike_same m n g h =
      either_eq m 0 (λ z. simp (eq-eqb m 0 z) refl)
      (λ d.
      ap (λ (b : Bool). not (eqb m 0) && b) (named_same n (text (label_at t.labels m)) h)
      ∙ ap (λ (x : Label). not (eqb m 0) && named u n (text x)) (sym (more.kept m d g)))

module _ (log : List ℕ) (whole : Trace) (a : Accepted log whole) (k : ℕ) (t : Trace) (first : steps (next no_trace) (take k (lines_of log)) ≡ next t) where
  later : Later t whole
  later = first_later log whole a k t first

  -- ── the ranks of the first lines are the first ranks of the log ──
  first_ranks : length (finish_order t) ≤ length (finish_order whole)
  first_ranks =
      let e : length (order_to whole.runs t.lines) ≡ length (finish_order t) = ap length (later.order t.lines (omega arith)) in
      omega (arith, order_rises whole.runs t.lines whole.lines later.lines)

  first_run : (r : ℕ) → r < length (finish_order t) → rank_run whole r ≡ get_or (finish_order t) r 0
  unfolding rank_run
  first_run r h =
      let e : order_to whole.runs t.lines ≡ finish_order t = later.order t.lines (omega arith) in
      let c : length (order_to whole.runs t.lines) ≡ length (finish_order t) = ap length e in
      any_default (finish_order whole) r 128 0 (omega (arith, first_ranks))
      ∙ (order_front whole.runs t.lines whole.lines r later.lines (omega arith) ∙ ap (λ (x : List ℕ). get_or x r 0) e)

  -- run j of the first lines has rank r
  pub record AtRank (j r : ℕ) : Type 0 where
    pub low : r < length (finish_order t)
    pub is : rank_run whole r ≡ j

  module _ (begun : List ℕ) (b : Accepted begun t) where
    place : (j r : ℕ) → AtRank j r → Place t t.lines r j
    place j r h = subst (Place t t.lines r) (sym (first_run r h.low) ∙ h.is) (ranked_finished begun t b r h.low)

    run_same : (j r : ℕ) → AtRank j r → run_at t j ≡ run_at whole (rank_run whole r)
    run_same j r h = sym (later.run j (place j r h).finished) ∙ ap (run_at whole) (sym h.is)

    number_same : (j r : ℕ) → AtRank j r → number_at t j ≡ number_at whole (rank_run whole r)
    number_same j r h = ap (λ (q : Run). q.label.0) (run_same j r h)

    number_low : (j r : ℕ) → AtRank j r → number_at t j ≤ length t.labels
    number_low j r h = (accepted_orderly begun t b).label_numbers j (place j r h).low

    labels : MoreLabels t whole
    labels = first_labels_lem log whole a k t first

    -- ── the atoms ──
    has_same : (j r : ℕ) (l : List ℕ) → AtRank j r → has_label? t j l ≡ has_label? whole (rank_run whole r) l
    has_same j r l h = named_same t whole labels (number_at t j) l (number_low j r h) ∙ ap (λ (n : ℕ). named whole n l) (number_same j r h)

    related_same : (c : Relation.Relation) (j r i s : ℕ) → AtRank j r → AtRank i s → related? c t j i ≡ related? c whole (rank_run whole r) (rank_run whole s)
    related_same c j r i s h g = ap₂ (related_by c) (run_same j r h) (run_same i s g)

    alike_runs : (j r i s : ℕ) → AtRank j r → AtRank i s → same_label? t j i ≡ same_label? whole (rank_run whole r) (rank_run whole s)
    alike_runs j r i s h g =
        alike_same t whole labels (number_at t j) (number_at t i) (number_low j r h) (number_low i s g)
        ∙ ap₂ (alike_by whole) (number_same j r h) (number_same i s g)

    between_same : (b : Between) (j r i s : ℕ) → AtRank j r → AtRank i s → holds_between? b t j i ≡ holds_between? b whole (rank_run whole r) (rank_run whole s)
    between_same (related c) = related_same c
    between_same alike = alike_runs

    -- ── the two models ──
    finished_at : (j : ℕ) → j < length t.runs → ltb 0 (end_line (run_at t j)) ≡ true → Ranked t j
    finished_at j h d = finished_ranked begun t b j h (ltb-true 0 (end_line (run_at t j)) d)

    module _ (m : ℕ) (count : length (finish_order t) ≡ suc m) where
      to_rank : (j : ℕ) → j < length t.runs → ltb 0 (end_line (run_at t j)) ≡ true → FinishedWith (at_moment (rank_model whole) m) (λ r. AtRank j r)
      to_rank j h d =
          let q : Ranked t j = finished_at j h d in
          record {
            run = rank_of t j;
            low = omega (arith, q.low, first_ranks);
            done = le-leb (rank_of t j) m (omega (arith, q.low, count));
            with = record { low = q.low; is = first_run (rank_of t j) q.low ∙ q.at };
          }

      to_run : (r : ℕ) → r ≤ m → FinishedWith (model_of t) (λ j. AtRank j r)
      to_run r l =
          let h : AtRank (rank_run whole r) r = record { low = omega (arith, count); is = refl } in
          let p : Place t t.lines r (rank_run whole r) = place (rank_run whole r) r h in
          record { run = rank_run whole r; low = p.low; done = lt-ltb 0 _ p.finished; with = h }

      mirrors : Mirrors (model_of t) (at_moment (rank_model whole) m) AtRank
      mirrors =
          record {
            forth = to_rank;
            back = λ r h d. to_run r (leb-true r m d);
            labelled = has_same;
            paired = λ p. between_same (between p);
          }

    no_mirrors : (M : Model) (m : ℕ) → M.runs ≡ 0 → length (finish_order t) ≡ 0 → Mirrors (model_of t) (at_moment M m) (λ j r. ⊥)
    no_mirrors M m none count =
        record {
          forth = λ j h d. absurd (omega (arith, (finished_at j h d).low, count));
          back = λ r h d. absurd (omega (arith, h, none));
          labelled = λ j r l h. absurd h;
          paired = λ p j r i s h g. absurd h;
        }

  -- ── THE LAWS ──
  -- with m + 1 runs finished, at moment m over the ranks of the whole log
  pub eval_at_moment : (f : Formula) (ρ σ : Binding) (m : ℕ) → scoped f no_scope ≡ true → length (finish_order t) ≡ suc m
      → eval (model_of t) ρ f ≡ truth (rank_model whole) f σ m
  eval_at_moment f ρ σ m closed count =
      let b = first_accepted log whole a k t first in
      eval_mirrored (model_of t) (at_moment (rank_model whole) m) AtRank (mirrors b.0 b.1 m count) f ρ σ closed

  -- with no run finished, over no runs
  pub eval_before_first : (M : Model) → M.runs ≡ 0 → (f : Formula) (ρ σ : Binding) (m : ℕ) → scoped f no_scope ≡ true → length (finish_order t) ≡ 0
      → eval (model_of t) ρ f ≡ truth M f σ m
  eval_before_first M none f ρ σ m closed count =
      let b = first_accepted log whole a k t first in
      eval_mirrored (model_of t) (at_moment M m) (λ j r. ⊥) (no_mirrors b.0 b.1 M m none count) f ρ σ closed

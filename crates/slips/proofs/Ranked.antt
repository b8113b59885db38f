-- From ranks to run numbers: the first slip by ranks is the first slip of the trace.
use Prim.Native.Nat.{ℕ, ◌+◌, ◌<◌, ◌≤◌}
use mathlib.Core.Path.{◌≡◌, refl, sym, ap, ap₂, subst, ◌∙◌}
use mathlib.Core.Bool.{Bool, true, false, ◌&&◌, ◌||◌, cond}
use mathlib.Core.List.{List, [], ◌∷◌}
use native.Mathlib.Omega.{arith}
use borrow.Author.Tests.{lt-ltb, le-ltb, ltb-true, le-leb}
use lib.Dec.{eqb, ltb}
use lib.ListN.{length, get_or}
use Rattle.lists.proofs.Cases.{either_lt, no_both, and_left, and_right}
use Rattle.trace.specs.Trace.{Trace, run_at, end_line, Accepted}
use Rattle.trace.proofs.Bounds.{accepted-bounded}
use Rattle.relations.specs.Runs.{FinishedRun, finished?}
use Rattle.rules.specs.Formula.{Formula, both, neg, exists, has, pair, Scope, enter, scoped}
use Rattle.logic.specs.Satisfies.{Binding, bind, between}
use Rattle.logic.specs.Model.{eval, model_of, has_label?, holds_between?}
use Rattle.order.specs.declared.Order.{Order}
use Rattle.order.specs.Order.{order_to, finish_order, rank_of}
use Rattle.order.specs.Marks.{OrderHeld}
use Rattle.order.proofs.Counted.{order_few}
use Rattle.order.proofs.Ranks.{Place, Ranked, ranked_finished, finished_ranked, ranked-once}
use Rattle.row_table.specs.Truth.{truth, at_moment}
use Rattle.row_table.specs.Rows.{RowsOf}
use Rattle.row_table.proofs.Truth.{same_truth}
use Rattle.rows.specs.RankModel.{rank_run, rank_model}
use Rattle.rows.proofs.Meaning.{any_default}
use Rattle.timeline.proofs.Mirrored.{Mirrors, mirrored_scoped}
use Rattle.slip_form.specs.Slips.{Each}
use Rattle.slip_search.specs.First.{Asked, serves, Least, First, of_runs, of_ranks, true_for, RanksOf, AsksOf}

module _ (log : List ℕ) (u : Trace) (acc : Accepted log u) (o : Order) (H : OrderHeld (order_to u.runs) u.lines o) (ranks : List ℕ)
    (R : RanksOf o ranks) where
  -- run j has rank r
  pub record AtRank (j r : ℕ) : Type 0 where
    pub low : r < length (finish_order u)
    pub is : rank_run u r ≡ j

  place : (j r : ℕ) → AtRank j r → Place u u.lines r j
  unfolding rank_run
  place j r h = subst (Place u u.lines r) (sym (any_default (finish_order u) r 128 0 h.low) ∙ h.is) (ranked_finished log u acc r h.low)

  at_rank : (j r : ℕ) → r < o.count → get_or o.run r 0 ≡ j → AtRank j r
  unfolding rank_run
  at_rank j r l e =
      let n : r < length (finish_order u) = omega (arith, H.count) in
      record { low = n; is = any_default (finish_order u) r 128 0 n ∙ (sym (H.run r) ∙ e) }

  abbrev numbered : Asked
  numbered = of_runs (model_of u)

  -- ── a run by its rank ──
  few : o.count ≤ 128
  few = omega (arith, H.count, order_few u.runs u.lines, (accepted-bounded log u acc).runs)

  run_of_rank : (j : ℕ) → j < 128 → get_or ranks j 0 < o.count → AtRank j (get_or ranks j 0)
  run_of_rank j h l = at_rank j (get_or ranks j 0) l ((R j h).ranked (omega (arith, few))).1

  may_same : (j : ℕ) → j < 128 → numbered.may j ≡ ltb (get_or ranks j 0) o.count
  may_same j h =
      same_truth _ _
      (λ e.
      let b : j < length u.runs = ltb-true j (length u.runs) (and_left (ltb j (length u.runs)) (finished? u j) e) in
      let d : finished? u j ≡ true = and_right (ltb j (length u.runs)) (finished? u j) e in
      let w : Ranked u j = finished_ranked log u acc j b (ltb-true 0 (end_line (run_at u j)) d) in
      either_lt (get_or ranks j 0) o.count (λ l. lt-ltb (get_or ranks j 0) o.count l)
      (λ l.
      either_lt (get_or ranks j 0) 128
      (λ g. absurd (omega (arith, l, ((R j h).ranked g).0)))
      (λ g. absurd ((R j h).unfinished (omega (arith, g, (R j h).range)) (rank_of u j) (omega (arith, w.low, H.count)) (H.run (rank_of u j) ∙ w.at)))))
      (λ e.
      let p : Place u u.lines (get_or ranks j 0) j = place j (get_or ranks j 0) (run_of_rank j h (ltb-true (get_or ranks j 0) o.count e)) in
      ap₂ ◌&&◌ (lt-ltb j (length u.runs) p.low) (lt-ltb 0 (end_line (run_at u j)) p.finished))

  -- a run has a rank exactly if it is finished
  finished_of : (k : ℕ) → k < 128 → get_or ranks k 0 < o.count → FinishedRun u k
  finished_of k h l =
      let p : Place u u.lines (get_or ranks k 0) k = place k (get_or ranks k 0) (run_of_rank k h l) in
      record { begun = p.low; ended = p.finished }

  ranked_of : (k : ℕ) → FinishedRun u k → (k < 128) × (get_or ranks k 0 < o.count)
  ranked_of k h =
      let few-runs = (accepted-bounded log u acc).runs in
      let low : k < 128 = omega (arith, h.begun) in
      let may : numbered.may k ≡ true = ap₂ ◌&&◌ (lt-ltb k (length u.runs) h.begun) (lt-ltb 0 (end_line (run_at u k)) h.ended) in
      (low, ltb-true (get_or ranks k 0) o.count (sym (may_same k low) ∙ may))

  pub all_finished : (ks : List ℕ) → Each (λ k. (k < 128) × (get_or ranks k 0 < o.count)) ks → Each (FinishedRun u) ks
  unfolding Each
  all_finished [] e = tt
  all_finished (k ∷ ks) e = (finished_of k e.0.0 e.0.1, all_finished ks e.1)

  pub all_ranked : (ks : List ℕ) → Each (FinishedRun u) ks → Each (λ k. (k < 128) × (get_or ranks k 0 < o.count)) ks
  unfolding Each
  all_ranked [] e = tt
  all_ranked (k ∷ ks) e = (ranked_of k e.0, all_ranked ks e.1)

  -- ── at the last moment m ──
  module _ (m : ℕ) (last : o.count ≡ m + 1) where
    -- ── the two models ──
    mirrors : Mirrors (model_of u) (at_moment (rank_model u) m) AtRank
    unfolding rank_run
    mirrors =
        record {
          forth = λ j h d.
              let w : Ranked u j = finished_ranked log u acc j h (ltb-true 0 (end_line (run_at u j)) d) in
              record {
                run = rank_of u j;
                low = w.low;
                done = le-leb (rank_of u j) m (omega (arith, w.low, H.count, last));
                with = record { low = w.low; is = any_default (finish_order u) (rank_of u j) 128 0 w.low ∙ w.at };
              };
          back = λ r h d.
              let y : AtRank (rank_run u r) r = record { low = h; is = refl } in
              let p : Place u u.lines r (rank_run u r) = place (rank_run u r) r y in
              record { run = rank_run u r; low = p.low; done = lt-ltb 0 _ p.finished; with = y };
          labelled = λ j r l h. ap (λ (i : ℕ). has_label? u i l) (sym h.is);
          paired = λ p j r i s h g. ap₂ (holds_between? (between p) u) (sym h.is) (sym g.is);
        }

    abbrev ranked : Asked
    ranked = of_ranks (rank_model u) ranks o.count m

    abbrev MirroredOn : Scope → Binding → Binding → Type 0
    MirroredOn s ρ σ = (v : ℕ) → s v ≡ true → AtRank (ρ v) (σ v)

    enter_mirrored : (s : Scope) (ρ σ : Binding) (v j r : ℕ) → MirroredOn s ρ σ → AtRank j r → MirroredOn (enter s v) (bind ρ v j) (bind σ v r)
    enter_mirrored s ρ σ v j r h d w = go (eqb v w)
      where
        go : (b : Bool) → (b || s w) ≡ true → AtRank (cond b j (ρ w)) (cond b r (σ w))
        go true e = d
        go false e = h w e

    module _ (s : Scope) (ρ σ : Binding) (v : ℕ) (g : Formula) (closed : scoped g (enter s v) ≡ true) (mir : MirroredOn s ρ σ) where
      serves_same : (j : ℕ) → j < 128 → serves numbered g ρ v j ≡ serves ranked g σ v j
      serves_same j h =
          either_lt (get_or ranks j 0) o.count
          (λ l.
          let e : eval (model_of u) (bind ρ v j) g ≡ truth (rank_model u) g (bind σ v (get_or ranks j 0)) m =
          mirrored_scoped (model_of u) (at_moment (rank_model u) m) AtRank mirrors g (enter s v) (bind ρ v j) (bind σ v (get_or ranks j 0)) closed (enter_mirrored s ρ σ v j (get_or ranks j 0) mir (run_of_rank j h l))
          in
          ap₂ ◌&&◌ (may_same j h) e)
          (λ l.
          let x : ranked.may j ≡ false = le-ltb (get_or ranks j 0) o.count l in
          let a : serves numbered g ρ v j ≡ false = ap (λ (b : Bool). b && eval (model_of u) (bind ρ v j) g) (may_same j h ∙ x) in
          let b : serves ranked g σ v j ≡ false = ap (λ (b : Bool). b && truth (rank_model u) g (bind σ v (get_or ranks j 0)) m) x in
          a ∙ sym b)

      least_same : (k : ℕ) → Least (serves ranked g σ v) 128 k → Least (serves numbered g ρ v) 128 k
      least_same k h =
          record {
            within = h.within;
            before = λ j l. serves_same j (omega (arith, l, h.within)) ∙ h.before j l;
            found = λ l. serves_same k l ∙ h.found l;
          }

    -- THE LAW
    pub first_of_runs : (ks : List ℕ) (s : Scope) (ρ σ : Binding) (f : Formula) → scoped f s ≡ true → MirroredOn s ρ σ → First ranked σ f ks → First numbered ρ f ks
    unfolding First scoped
    first_of_runs [] s ρ σ f closed mir h = (h.0, mirrored_scoped (model_of u) (at_moment (rank_model u) m) AtRank mirrors f s ρ σ closed mir ∙ h.1)
    first_of_runs (k ∷ ks) s ρ σ f closed mir h =
        let v = h.0 in
        let g = h.1 in
        let inner : scoped g (enter s v) ≡ true = sym (ap (λ (x : Formula). scoped x s) h.2) ∙ closed in
        let l : get_or ranks k 0 < o.count = ltb-true (get_or ranks k 0) o.count (and_left (ltb (get_or ranks k 0) o.count) _ (h.4.found h.3)) in (
          v,
          g,
          h.2,
          h.3,
          least_same s ρ σ v g inner mir k h.4,
          first_of_runs ks (enter s v) (bind ρ v k) (bind σ v (get_or ranks k 0)) g inner (enter_mirrored s ρ σ v k (get_or ranks k 0) mir (run_of_rank k h.3 l)) h.5,
        )

    pub truth_same : (f : Formula) (ρ σ : Binding) → scoped f (λ _. false) ≡ true → eval (model_of u) ρ f ≡ truth (rank_model u) f σ m
    truth_same f ρ σ closed = mirrored_scoped (model_of u) (at_moment (rank_model u) m) AtRank mirrors f (λ _. false) ρ σ closed (λ v e. no_both (sym e))

    -- every rank has its run among the first 128
    pub all_named : (i : ℕ) → i < o.count → (k : ℕ) × (k < 128) × (get_or ranks k 0 ≡ i)
    all_named i h =
        let k : ℕ = get_or o.run i 0 in
        let p : Place u u.lines i (rank_run u i) = place (rank_run u i) i (record { low = omega (arith, H.count); is = refl }) in
        let y : AtRank (get_or o.run i 0) i = at_rank (get_or o.run i 0) i h refl in
        let z : get_or o.run i 0 < 128 = omega (arith, (place (get_or o.run i 0) i y).low, (accepted-bounded log u acc).runs) in
        let r = R (get_or o.run i 0) z in (
          get_or o.run i 0,
          z,
          either_lt (get_or ranks (get_or o.run i 0) 0) 128
              (λ g.
              let w = r.ranked g in
              ranked-once log u acc (get_or ranks (get_or o.run i 0) 0) i (omega (arith, w.0, H.count)) (omega (arith, H.count)) (sym (H.run (get_or ranks (get_or o.run i 0) 0)) ∙ (w.1 ∙ H.run i)))
              (λ g. absurd (r.unfinished (omega (arith, g, r.range)) i h refl)),
        )

    pub asks_of : (table file : List ℕ) → RowsOf table file o.count (rank_model u) → AsksOf table file ranks o.count m (rank_model u)
    asks_of table file rows = record { rows = rows; last = last; named = all_named }

    -- a chain is true of given runs by their numbers exactly if it is by their ranks
    pub true_of_runs : (ks : List ℕ) (s : Scope) (ρ σ : Binding) (f : Formula) → scoped f s ≡ true → MirroredOn s ρ σ
        → Each (λ k. (k < 128) × (get_or ranks k 0 < o.count)) ks → true_for numbered ρ f ks ≡ true_for ranked σ f ks
    unfolding true_for scoped Each
    true_of_runs [] s ρ σ f closed mir e = mirrored_scoped (model_of u) (at_moment (rank_model u) m) AtRank mirrors f s ρ σ closed mir
    true_of_runs (k ∷ ks) s ρ σ (both f g) closed mir e = mirrored_scoped (model_of u) (at_moment (rank_model u) m) AtRank mirrors (both f g) s ρ σ closed mir
    true_of_runs (k ∷ ks) s ρ σ (neg f) closed mir e = mirrored_scoped (model_of u) (at_moment (rank_model u) m) AtRank mirrors (neg f) s ρ σ closed mir
    true_of_runs (k ∷ ks) s ρ σ (exists v f) closed mir e =
        true_of_runs ks (enter s v) (bind ρ v k) (bind σ v (get_or ranks k 0)) f closed
        (enter_mirrored s ρ σ v k (get_or ranks k 0) mir (run_of_rank k e.0.0 e.0.1)) e.1
    true_of_runs (k ∷ ks) s ρ σ (has v l) closed mir e = mirrored_scoped (model_of u) (at_moment (rank_model u) m) AtRank mirrors (has v l) s ρ σ closed mir
    true_of_runs (k ∷ ks) s ρ σ (pair p v w) closed mir e = mirrored_scoped (model_of u) (at_moment (rank_model u) m) AtRank mirrors (pair p v w) s ρ σ closed mir

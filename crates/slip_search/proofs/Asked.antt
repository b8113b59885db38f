-- Laws of the questions that the search puts to the evaluator.
use Prim.Native.Nat.{ℕ, zero, suc, ◌+◌, ◌<◌, ◌≤◌}
use mathlib.Core.Path.{◌≡◌, refl, sym, ap, ap₂, subst, ◌∙◌}
use mathlib.Core.Logic.{◌≢◌}
use mathlib.Core.Bool.{Bool, true, false, ◌&&◌}
use mathlib.Core.List.{List}
use native.Mathlib.Omega.{arith}
use borrow.Author.Tests.{lt-ltb, le-ltb, ltb-true, le-leb}
use lib.Dec.{ltb, leb}
use lib.ListN.{length, get_or, set, replicate}
use lib.Seq.{get_or-set_same, get_or-set_other}
use Rattle.lists.proofs.Cases.{either_eq, either_lt, and_left}
use Rattle.sets.specs.Sets.{mem}
use Rattle.sets.specs.declared.RunSet.{RunSet}
use Rattle.rules.specs.Formula.{Formula}
use Rattle.logic.specs.Satisfies.{Binding, bind}
use Rattle.logic.specs.Model.{Model}
use Rattle.order.specs.declared.Order.{Order}
use Rattle.row_table.specs.Truth.{truth, Fixed, TrueAt, FalseWithout, at}
use Rattle.row_table.proofs.Marks.{at_fixed, bind-within}
use Rattle.slip_search.specs.First.{serves, Least, of_ranks, RankFor}

-- ── one question, at one moment ──
pub asked_at : (M : Model) (f : Formula) (ρ : Binding) (all dom s : RunSet) (m : ℕ) (r : Bool) → Fixed ρ → m < 128
    → ((j : ℕ) → mem all j ≡ ltb j (m + 1)) → ((j : ℕ) → mem dom j ≡ (mem all j && leb m j)) → TrueAt M f ρ dom s → r ≡ mem s m → r ≡ truth M f ρ m
asked_at M f ρ all dom s m r fx l below from h e =
    let in-dom : mem dom m ≡ true = from m ∙ ap₂ ◌&&◌ (below m ∙ lt-ltb m (m + 1) (omega arith)) (le-leb m m (omega arith)) in
    e ∙ (h m l ∙ (ap (λ (b : Bool). b && truth M f (at ρ m) m) in-dom ∙ ap (λ (σ : Binding). truth M f σ m) (at_fixed ρ m fx)))

-- ── the ranks ──
module _ (o : Order) (ranks : List ℕ) (long : length ranks ≡ 128) (i x : ℕ) (low : i < 128) (is : x ≡ get_or o.run i 0) (small : x < 128) where
  rank_here : (k r : ℕ) → k ≡ x → r ≡ i → RankFor o (i + 1) k r
  rank_here k r e q =
      record {
        ranked = λ h. (omega arith, subst (λ (j : ℕ). get_or o.run j 0 ≡ k) (sym q) (sym is ∙ sym e));
        unfinished = λ h. absurd (omega arith);
        range = omega arith;
      }

  rank_kept : (k r : ℕ) → k ≢ x → RankFor o i k r → RankFor o (i + 1) k r
  rank_kept k r d h =
      record {
        ranked = λ l. let w = h.ranked l in (omega (arith, w.0), w.1);
        unfinished = λ l j g e.
            either_eq j i
            (λ q. d (sym e ∙ (ap (λ (n : ℕ). get_or o.run n 0) q ∙ sym is)))
            (λ q. h.unfinished l j (omega (arith, g, q)) e);
        range = h.range;
      }

  pub rank_more : ((k : ℕ) → k < 128 → RankFor o i k (get_or ranks k 0)) → (k : ℕ) → k < 128 → RankFor o (i + 1) k (get_or (set ranks x i) k 0)
  rank_more h k l =
      either_eq k x
      (λ q. rank_here k _ q (ap (λ (j : ℕ). get_or (set ranks x i) j 0) q ∙ get_or-set_same ranks x i 0 (omega arith)))
      (λ d. subst (RankFor o (i + 1) k) (sym (get_or-set_other ranks x k i 0 d)) (rank_kept k (get_or ranks k 0) d (h k l)))

-- ── the first run ──
pub kept_low : (r runs : ℕ) (keep : RunSet) (b : Bool) → b ≡ (ltb r runs && mem keep r) → b ≡ true → r < runs
kept_low r runs keep b e t = ltb-true r runs (and_left (ltb r runs) (mem keep r) (sym e ∙ t))

module _ (M : Model) (ranks : List ℕ) (runs m : ℕ) (g : Formula) (ρ : Binding) (v : ℕ) where
  abbrev p : ℕ → Bool
  p = serves (of_ranks M ranks runs m) g ρ v

  no_rank : (k : ℕ) → runs ≤ get_or ranks k 0 → p k ≡ false
  no_rank k h = simp (le-ltb (get_or ranks k 0) runs h)

  -- a run that is not kept does not serve
  pub left_out : (keep : RunSet) → FalseWithout M g ρ v keep → Fixed ρ → runs ≡ M.runs → (k : ℕ)
      → (ltb (get_or ranks k 0) runs && mem keep (get_or ranks k 0)) ≡ false → p k ≡ false
  left_out keep h fx few k e =
      either_lt (get_or ranks k 0) runs
      (λ l.
      let out : mem keep (get_or ranks k 0) ≡ false = sym (ap (λ (b : Bool). b && mem keep (get_or ranks k 0)) (lt-ltb (get_or ranks k 0) runs l)) ∙ e in
      let no : truth M g (bind (at ρ m) v (get_or ranks k 0)) m ≡ false = h (get_or ranks k 0) (omega arith) out m m in
      let q : truth M g (bind ρ v (get_or ranks k 0)) m ≡ false = sym (ap (λ (σ : Binding). truth M g (bind σ v (get_or ranks k 0)) m) (at_fixed ρ m fx)) ∙ no in
      ap (λ (b : Bool). b && truth M g (bind ρ v (get_or ranks k 0)) m) (lt-ltb (get_or ranks k 0) runs l) ∙ q)
      (λ l. no_rank k l)

  module _ (k : ℕ) (h : get_or ranks k 0 < runs) (σ : Binding) (e : σ ≡ bind ρ v (get_or ranks k 0)) (r : Bool) (q : r ≡ truth M g σ m) where
    answer_is : p k ≡ r
    answer_is = simp (lt-ltb (get_or ranks k 0) runs h) (sym (q ∙ ap (λ (τ : Binding). truth M g τ m) e))

    pub not_so : r ≡ false → p k ≡ false
    not_so z = answer_is ∙ z

    pub is_so : r ≡ true → p k ≡ true
    is_so z = answer_is ∙ z

  pub one_further : (k : ℕ) → ((j : ℕ) → j < k → p j ≡ false) → p k ≡ false → (j : ℕ) → j < k + 1 → p j ≡ false
  one_further k h e j l = either_eq j k (λ q. subst (λ (i : ℕ). p i ≡ false) (sym q) e) (λ d. h j (omega (arith, l, d)))

  pub least_here : (k : ℕ) → k < 128 → ((j : ℕ) → j < k → p j ≡ false) → p k ≡ true → Least p 128 k
  least_here k l h e = record { within = omega arith; before = h; found = λ _. e }

  pub least_none : (k : ℕ) → 128 ≤ k → ((j : ℕ) → j < k → p j ≡ false) → Least p 128 128
  least_none k l h = record { within = omega arith; before = λ j i. h j (omega (arith, i)); found = λ i. absurd (omega (arith, i)) }

get_d_replicate : (n k : ℕ) → k < n → ◌≡◌ {A = ℕ} (get_or (replicate n 128) k 0) 128
get_d_replicate zero k h = absurd (omega arith)
get_d_replicate (suc n) zero h = refl
get_d_replicate (suc n) (suc k) h = get_d_replicate n k (omega arith)

pub rank_none : (o : Order) (k : ℕ) → k < 128 → RankFor o 0 k (get_or (replicate 128 128) k 0)
rank_none o k h =
    record {
      ranked = λ l. absurd (omega (arith, l, get_d_replicate 128 k h));
      unfinished = λ l j g. absurd (omega (arith, g));
      range = omega (arith, get_d_replicate 128 k h);
    }

pub fixed_bound : (ρ σ : Binding) (v r : ℕ) → Fixed ρ → r < 128 → σ ≡ bind ρ v r → Fixed σ
fixed_bound ρ σ v r fx l e w =
    let h : bind ρ v r w ≤ 127 = bind-within ρ v r 127 (λ u. omega (arith, fx u)) (omega arith) w in
    let q : σ w ≡ bind ρ v r w = ap (λ (τ : Binding). τ w) e in
    omega arith

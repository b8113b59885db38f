-- A chain of given runs: what each level keeps on the way down to the part below it.
use Prim.Native.Nat.{ℕ, suc, ◌+◌, ◌<◌}
use mathlib.Core.Path.{◌≡◌, refl, sym, ap, ◌∙◌}
use mathlib.Core.Bool.{Bool, false}
use mathlib.Core.List.{List, [], ◌∷◌}
use native.Mathlib.Omega.{arith}
use native.Mathlib.Numerals.{add-one}
use lib.ListN.{length, get_or, drop}
use lib.Seq.{drop-cons}
use Rattle.lists.proofs.Cases.{no_both}
use Rattle.rules.specs.declared.Node.{Node}
use Rattle.rules.specs.Formula.{Formula, both, neg, exists, has, pair}
use Rattle.rules.specs.Table.{node_at, formula_at}
use Rattle.rules.proofs.Formulas.{formula_some, some_variable}
use Rattle.logic.specs.Satisfies.{Binding, bind}
use Rattle.logic.specs.Model.{Model}
use Rattle.shape.specs.Shape.{height}
use Rattle.row_table.specs.declared.Bindings.{Bindings}
use Rattle.row_table.specs.Truth.{truth, Fixed}
use Rattle.row_table.specs.Rows.{RowsOf}
use Rattle.row_table.specs.Ranks.{binding}
use Rattle.moments.specs.Ready.{Ready}
use Rattle.moments.proofs.Ready.{some_ready, rebound_ready}
use Rattle.timeline.proofs.Root.{from_zero}
use Rattle.slip_form.specs.declared.Slip.{Slip}
use Rattle.slip_form.specs.Slips.{run_no, slip_runs}
use Rattle.slip_form.specs.Chain.{some?}
use Rattle.slip_form.proofs.Descent.{not_some}
use Rattle.slip_search.specs.First.{Asked, of_ranks, true_for, Whole}
use Rattle.slip_search.proofs.Places.{length-numbers, each_at, number_at_lem}
use Rattle.slip_search.proofs.Asked.{fixed_bound}
use Rattle.slip_search.proofs.Levels.{zeros_fixed}

-- a formula that is no "some" asks for no run
plain_true : (q : Asked) (ρ : Binding) (f : Formula) (ks : List ℕ) → some? f ≡ false → true_for q ρ f ks ≡ q.holds f ρ
unfolding true_for
plain_true q ρ f [] e = refl
plain_true q ρ (both f g) (k ∷ ks) e = refl
plain_true q ρ (neg f) (k ∷ ks) e = refl
plain_true q ρ (exists v f) (k ∷ ks) e = no_both e
plain_true q ρ (has v l) (k ∷ ks) e = refl
plain_true q ρ (pair p v w) (k ∷ ks) e = refl

some_true : (q : Asked) (ρ σ : Binding) (f g : Formula) (v k : ℕ) (ks : List ℕ) → f ≡ exists v g → σ ≡ bind ρ v (q.value k)
    → true_for q ρ f (k ∷ ks) ≡ true_for q σ g ks
unfolding true_for
some_true q ρ σ f g v k ks e s = ap (λ (h : Formula). true_for q ρ h (k ∷ ks)) e ∙ ap (λ (τ : Binding). true_for q τ g ks) (sym s)

module _ (file : List ℕ) (first : ℕ) (heights frees table : List ℕ) (runs top : ℕ) (ranks : List ℕ) (moment : ℕ) (slip : Slip) where
  pub record Going (i : ℕ) (b : Bindings) (node : ℕ) (x : Node) : Type 0 where
    pub ready : Ready file first heights frees table runs node b
    pub fixed : Fixed (binding b)
    pub is : x ≡ node_at file first node
    pub depth : i + height (formula_at file first node) ≡ height (formula_at file first top)
    pub same : (M : Model) → RowsOf table file runs M
        → true_for (of_ranks M ranks runs moment) (binding from_zero) (formula_at file first top) (slip_runs slip)
        ≡ true_for (of_ranks M ranks runs moment) (binding b) (formula_at file first node) (drop i (slip_runs slip))

  pub going_start : (x : Node) → Ready file first heights frees table runs top from_zero → x ≡ node_at file first top → Going 0 from_zero top x
  going_start x h e = record { ready = h; fixed = zeros_fixed; is = e; depth = omega arith; same = λ M a. refl }

  module _ (i : ℕ) (b : Bindings) (node : ℕ) (x : Node) (y : Going i b node x) (k3 : x.kind ≡ 3) where
    some_is : formula_at file first node ≡ exists x.a (formula_at file first x.b)
    some_is = formula_some file first node x y.is y.ready.good k3

    one_down : height (formula_at file first node) ≡ suc (height (formula_at file first x.b))
    unfolding height
    one_down = ap height some_is

    pub place_low : i < height (formula_at file first top)
    place_low = let e = one_down in omega (arith, y.depth)

    pub child_ready : (x.b < node) × Ready file first heights frees table runs x.b b
    child_ready = some_ready file first heights frees table runs node b y.ready x y.is k3

    pub variable_low : x.a < 4
    variable_low = some_variable file first node x y.is y.ready.good k3

    module _ (whole : Whole slip (height (formula_at file first top)) ranks runs) where
      abbrev run : ℕ
      run = (get_or slip.run i (run_no 0)).0

      pub run_ranked : (run < 128) × (get_or ranks run 0 < runs)
      run_ranked =
          each_at (λ k. (k < 128) × (get_or ranks k 0 < runs)) slip.count slip.run i (omega (arith, place_low, whole.count)) whole.ranked

      pub going_next : (c : Bindings) (z : Node) → binding c ≡ bind (binding b) x.a (get_or ranks run 0) → z ≡ node_at file first x.b
          → Going (i + 1) c x.b z
      going_next c z e is =
          let few = y.ready.runs_few in
          let low : get_or ranks (get_or slip.run i (run_no 0)).0 0 < runs = run_ranked.1 in
          let at : i < slip.count = omega (arith, place_low, whole.count) in
          let k-is : get_or (slip_runs slip) i 0 ≡ (get_or slip.run i (run_no 0)).0 = number_at_lem slip.count slip.run i at in
          let long : length (slip_runs slip) ≡ slip.count = length-numbers slip.count slip.run in
          let split : drop i (slip_runs slip) ≡ get_or (slip_runs slip) i 0 ∷ drop (i + 1) (slip_runs slip) =
          drop-cons (slip_runs slip) i 0 (omega (arith, at, long)) ∙ rw (add-one) refl
          in
          record {
            ready = rebound_ready file first heights frees table runs x.b b child_ready.1 c x.a (get_or ranks (get_or slip.run i (run_no 0)).0 0) (omega arith) e;
            fixed = fixed_bound (binding b) (binding c) x.a (get_or ranks (get_or slip.run i (run_no 0)).0 0) y.fixed (omega arith) e;
            is = is;
            depth = let h = one_down in omega (arith, y.depth);
            same = λ M a.
                let q : Asked = of_ranks M ranks runs moment in
                y.same M a
                ∙ (ap (true_for (of_ranks M ranks runs moment) (binding b) (formula_at file first node)) split
                ∙ some_true (of_ranks M ranks runs moment) (binding b) (binding c) (formula_at file first node) (formula_at file first x.b) x.a (get_or (slip_runs slip) i 0) (drop (i + 1) (slip_runs slip)) some_is
                (e ∙ ap (λ (k : ℕ). bind (binding b) x.a (get_or ranks k 0)) (sym k-is)));
          }

  pub going_end : (i : ℕ) (b : Bindings) (node : ℕ) (x : Node) → Going i b node x → (x.kind ≡ 3 → ⊥) → (r : Bool) (M : Model) → RowsOf table file runs M
      → r ≡ truth M (formula_at file first node) (binding b) moment
      → r ≡ true_for (of_ranks M ranks runs moment) (binding from_zero) (formula_at file first top) (slip_runs slip)
  going_end i b node x y k3 r M a e =
      e ∙ (sym (plain_true (of_ranks M ranks runs moment) (binding b) (formula_at file first node) (drop i (slip_runs slip)) (not_some file first node x y.is y.ready.good k3)) ∙ sym (y.same M a))

-- Laws of the search: what each level keeps.
use Prim.Native.Nat.{ℕ, zero, suc, ◌+◌, ◌<◌, ◌≤◌}
use mathlib.Core.Path.{◌≡◌, refl, sym, ap, ap₂, subst, ◌∙◌}
use mathlib.Core.Bool.{Bool, true, false, ◌&&◌}
use mathlib.Core.List.{List, [], ◌∷◌, ◌++◌, append_assoc}
use native.Mathlib.Omega.{arith}
use Rattle.std.proofs.Common.{Option, Some, None}
use borrow.Author.Tests.{lt-ltb, ltb-true, le-leb}
use lib.Dec.{ltb, leb}
use lib.ListN.{length, get_or, set, replicate, length-set}
use Rattle.lists.proofs.Cases.{either_bool, no_both, and_left, and_right}
use Rattle.lists.proofs.Lists.{append-nil}
use Rattle.rules.specs.declared.Node.{Node}
use Rattle.rules.specs.Formula.{Formula, exists}
use Rattle.rules.specs.Table.{node_at, formula_at, Good}
use Rattle.rules.proofs.Formulas.{formula_some, some_variable}
use Rattle.logic.specs.Satisfies.{Binding, bind}
use Rattle.logic.specs.Model.{Model, eval}
use Rattle.lists.proofs.Below.{found_yes, found_at}
use Rattle.shape.specs.Shape.{height}
use Rattle.row_table.specs.Rows.{RowsOf}
use Rattle.row_table.specs.declared.Bindings.{Bindings}
use Rattle.row_table.specs.Ranks.{binding}
use Rattle.moments.specs.Ready.{Ready}
use Rattle.row_table.specs.Truth.{truth, at_moment, Fixed}
use Rattle.moments.proofs.Ready.{some_ready, rebound_ready}
use Rattle.timeline.proofs.Root.{from_zero}
use Rattle.slip_search.proofs.Asked.{fixed_bound}
use Rattle.slip_form.specs.declared.Slip.{Slip}
use Rattle.slip_form.specs.Slips.{run_no, slip_runs}
use Rattle.slip_form.proofs.Descent.{not_some}
use Rattle.slip_form.specs.Chain.{some?}
use Rattle.slip_search.specs.First.{Asked, serves, Least, FirstOf, First, of_ranks, AsksOf, Seeks, Tidy}
use Rattle.slip_search.proofs.Places.{tidy_none, slip_more, tidy_more}

-- what the search keeps: whoever finishes the chain from here has finished it from the top, and the truth value is that of the top
pub record Keeps (q : Asked) (ρ₀ : Binding) (f₀ : Formula) (done : List ℕ) (ρ : Binding) (f : Formula) : Type 0 where
  pub finishes : (ks : List ℕ) → First q ρ f ks → First q ρ₀ f₀ (done ++ ks)
  pub true_too : q.holds f₀ ρ₀ ≡ q.holds f ρ

pub keeps_start : (q : Asked) (ρ : Binding) (f : Formula) → Keeps q ρ f [] ρ f
keeps_start q ρ f = record { finishes = λ ks h. h; true_too = refl }

module _ (table file ranks : List ℕ) (runs m : ℕ) (M : Model) (a : AsksOf table file ranks runs m M) (v : ℕ) (g : Formula) (ρ : Binding) where
  abbrev q : Asked
  q = of_ranks M ranks runs m

  -- a run that serves makes the "some" true
  served : (k : ℕ) → serves q g ρ v k ≡ true → truth M (exists v g) ρ m ≡ true
  unfolding eval
  served k e =
      let l : get_or ranks k 0 < runs = ltb-true (get_or ranks k 0) runs (and_left (ltb (get_or ranks k 0) runs) _ e) in
      let h : truth M g (bind ρ v (get_or ranks k 0)) m ≡ true = and_right (ltb (get_or ranks k 0) runs) _ e in
      found_yes (λ j. leb j m && eval (at_moment M m) (bind ρ v j) g) M.runs (get_or ranks k 0) (omega (arith, a.rows.runs_are))
      (ap₂ ◌&&◌ (le-leb (get_or ranks k 0) m (omega (arith, a.last))) h)

  -- where none serves it is false
  unserved : ((k : ℕ) → k < 128 → serves q g ρ v k ≡ false) → truth M (exists v g) ρ m ≡ false
  unfolding eval
  unserved h =
      either_bool (truth M (exists v g) ρ m)
      (λ e.
      let w = found_at (λ j. leb j m && eval (at_moment M m) (bind ρ v j) g) M.runs e in
      let i : w.0 < runs = omega (arith, w.1, a.rows.runs_are) in
      let n = a.named w.0 i in
      let y : truth M g (bind ρ v w.0) m ≡ true = and_right (leb w.0 m) _ w.2 in
      let z : serves q g ρ v n.0 ≡ true =
      ap₂ ◌&&◌ (lt-ltb (get_or ranks n.0 0) runs (omega (arith, i, n.2))) (ap (λ (r : ℕ). truth M g (bind ρ v r) m) n.2 ∙ y)
      in
      no_both (sym z ∙ h n.0 n.1))
      (λ e. e)

  module _ (ρ₀ : Binding) (f₀ f : Formula) (done : List ℕ) (is : f ≡ exists v g) (keeps : Keeps q ρ₀ f₀ done ρ f) where
    top_is : truth M f₀ ρ₀ m ≡ truth M (exists v g) ρ m
    top_is = keeps.true_too ∙ ap (λ (x : Formula). truth M x ρ m) is

    pub none_found : Least (serves q g ρ v) 128 128 → truth M f₀ ρ₀ m ≡ false
    none_found h = top_is ∙ unserved h.before

    pub keeps_next : (k : ℕ) (σ : Binding) (next : List ℕ) → k < 128 → Least (serves q g ρ v) 128 k → σ ≡ bind ρ v (get_or ranks k 0) → next ≡ done ++ (k ∷ [])
        → Keeps q ρ₀ f₀ next σ g
    unfolding First
    keeps_next k σ next l h e n =
        let s : serves q g ρ v k ≡ true = h.found l in
        record {
          finishes = λ ks y.
              let z : First q (bind ρ v (get_or ranks k 0)) g ks = subst (λ (τ : Binding). First q τ g ks) e y in
              let t : next ++ ks ≡ done ++ (k ∷ ks) = ap (λ (r : List ℕ). r ++ ks) n ∙ append_assoc done (k ∷ []) ks in
              subst (First q ρ₀ f₀) (sym t) (keeps.finishes (k ∷ ks) (v, g, is, l, h, z));
          true_too =
              top_is ∙ (served k s ∙ sym (ap (λ (τ : Binding). truth M g τ m) e ∙ and_right (ltb (get_or ranks k 0) runs) _ s));
        }

-- where none serves, and at the end of the chain
pub seeks_none : (q : Asked) (ρ₀ : Binding) (f₀ : Formula) → q.holds f₀ ρ₀ ≡ false → Seeks q ρ₀ f₀ None
seeks_none q ρ₀ f₀ h = record { first = λ x p. absurd (cc); none = λ p. h }

pub seeks_end : (q : Asked) (ρ₀ ρ : Binding) (f₀ f : Formula) (s : Slip) (b : Bool) → Keeps q ρ₀ f₀ (slip_runs s) ρ f → some? f ≡ false → b ≡ q.holds f ρ
    → (b ≡ true → Seeks q ρ₀ f₀ (Some s)) × (b ≡ false → Seeks q ρ₀ f₀ None)
unfolding First
seeks_end q ρ₀ ρ f₀ f s b keeps plain e = (
  (λ h. record {
    first = λ x p. subst (λ (y : Slip). First q ρ₀ f₀ (slip_runs y)) (cc p) (subst (First q ρ₀ f₀) (append-nil (slip_runs s)) (keeps.finishes [] (plain, sym e ∙ h)));
    none = λ p. absurd (cc);
  }),
  λ h. seeks_none q ρ₀ f₀ (keeps.true_too ∙ (sym e ∙ h)),
)

-- ── the loop ──
pub zeros_fixed : Fixed (binding from_zero)
zeros_fixed zero = omega arith
zeros_fixed (suc zero) = omega arith
zeros_fixed (suc (suc zero)) = omega arith
zeros_fixed (suc (suc (suc zero))) = omega arith
zeros_fixed (suc (suc (suc (suc v)))) = omega arith

module _ (file : List ℕ) (first : ℕ) (heights frees table : List ℕ) (runs top : ℕ) (ranks : List ℕ) (moment : ℕ) where
  pub record Level (slip : Slip) (b : Bindings) (node : ℕ) (x : Node) : Type 0 where
    pub ready : Ready file first heights frees table runs node b
    pub fixed : Fixed (binding b)
    pub is : x ≡ node_at file first node
    pub room : slip.count + height (formula_at file first node) ≤ 4
    pub long : length slip.run ≡ 4
    pub tidy : Tidy slip
    pub keeps : (M : Model) → AsksOf table file ranks runs moment M → Keeps (of_ranks M ranks runs moment) (binding from_zero) (formula_at file first top) (slip_runs slip) (binding b) (formula_at file first node)

  pub level_start : (x : Node) → Ready file first heights frees table runs top from_zero → height (formula_at file first top) ≤ 4 → x ≡ node_at file first top
      → Level (record { count = 0; run = replicate 4 (run_no 0) }) from_zero top x
  level_start x h l e =
      record { ready = h; fixed = zeros_fixed; is = e; room = omega arith; long = refl; tidy = tidy_none; keeps = λ M a. keeps_start (of_ranks M ranks runs moment) (binding from_zero) (formula_at file first top) }

  module _ (slip : Slip) (b : Bindings) (node : ℕ) (x : Node) (y : Level slip b node x) (k3 : x.kind ≡ 3) where
    some_is : formula_at file first node ≡ exists x.a (formula_at file first x.b)
    some_is = formula_some file first node x y.is y.ready.good k3

    pub child_ready : (x.b < node) × Ready file first heights frees table runs x.b b
    child_ready = some_ready file first heights frees table runs node b y.ready x y.is k3

    pub variable_low : x.a < 4
    variable_low = some_variable file first node x y.is y.ready.good k3

    pub room_left : slip.count + 1 + height (formula_at file first x.b) ≤ 4
    unfolding height
    room_left = let e : height (formula_at file first node) ≡ suc (height (formula_at file first x.b)) = ap height some_is in omega (arith, y.room)

    abbrev AtChild : Option ℕ → Type 0
    AtChild r = (M : Model) → RowsOf table file runs M → FirstOf (serves (of_ranks M ranks runs moment) (formula_at file first x.b) (binding b) x.a) 128 r

    pub level_none : AtChild None → (M : Model) → AsksOf table file ranks runs moment M
        → Seeks (of_ranks M ranks runs moment) (binding from_zero) (formula_at file first top) None
    level_none h M a =
        seeks_none (of_ranks M ranks runs moment) (binding from_zero) (formula_at file first top)
        (none_found table file ranks runs moment M a x.a (formula_at file first x.b) (binding b) (binding from_zero) (formula_at file first top) (formula_at file first node) (slip_runs slip) some_is (y.keeps M a) (h M a.rows))

    pub level_next : (k : ℕ) (c : Bindings) (z : Node) → k < 128 → get_or ranks k 0 < runs → AtChild (Some k) → binding c ≡ bind (binding b) x.a (get_or ranks k 0)
        → z ≡ node_at file first x.b → Level (record { count = slip.count + 1; run = set slip.run slip.count (run_no k) }) c x.b z
    level_next k c z l low h e is =
        let few = y.ready.runs_few in
        record {
          ready = rebound_ready file first heights frees table runs x.b b child_ready.1 c x.a (get_or ranks k 0) (omega arith) e;
          fixed = fixed_bound (binding b) (binding c) x.a (get_or ranks k 0) y.fixed (omega arith) e;
          is = is;
          room = room_left;
          long = length-set slip.run slip.count (run_no k) ∙ y.long;
          tidy = tidy_more slip k y.tidy (omega (arith, room_left)) y.long;
          keeps = λ M a.
              keeps_next table file ranks runs moment M a x.a (formula_at file first x.b) (binding b) (binding from_zero) (formula_at file first top) (formula_at file first node) (slip_runs slip) some_is (y.keeps M a)
              k (binding c) _ l (h M a.rows).1 e (slip_more slip.count slip.run k (omega (arith, room_left, y.long)));
        }

  module _ (slip : Slip) (b : Bindings) (node : ℕ) (x : Node) (y : Level slip b node x) (k3 : x.kind ≡ 3 → ⊥) where
    good : Good file first node
    good = y.ready.good

    plain : some? (formula_at file first node) ≡ false
    plain = not_some file first node x y.is good k3

    pub level_end : (r : Bool) → ((M : Model) → RowsOf table file runs M → r ≡ truth M (formula_at file first node) (binding b) moment)
        → (M : Model) → AsksOf table file ranks runs moment M
        → (r ≡ true → Seeks (of_ranks M ranks runs moment) (binding from_zero) (formula_at file first top) (Some slip))
        × (r ≡ false → Seeks (of_ranks M ranks runs moment) (binding from_zero) (formula_at file first top) None)
    level_end r h M a =
        seeks_end (of_ranks M ranks runs moment) (binding from_zero) (binding b) (formula_at file first top) (formula_at file first node) slip r (y.keeps M a) plain (h M a.rows)

-- The chain of a rule that has the form: what the search needs there, and what its answers say of the runs of a record.
use Prim.Native.Nat.{ℕ, suc, ◌+◌, ◌-◌, ◌<◌, ◌≤◌}
use mathlib.Core.Path.{◌≡◌, refl, sym, ap, subst, ◌∙◌}
use mathlib.Core.Bool.{Bool, true}
use mathlib.Core.List.{List, [], ◌∷◌}
use native.Mathlib.Omega.{arith}
use Rattle.std.proofs.Common.{Option, Some, None, IfSome}
use borrow.Author.Tests.{leb-true}
use lib.ListN.{length, get_or}
use Rattle.lists.proofs.Cases.{no_both}
use Rattle.trace.specs.declared.Record.{Record}
use Rattle.trace.specs.Trace.{Trace, Accepted}
use Rattle.trace.specs.Record.{record_of}
use Rattle.relations.specs.Runs.{FinishedRun}
use Rattle.rules.specs.declared.Rule.{Rule}
use Rattle.rules.specs.Formula.{Formula, neg, no_scope, scoped}
use Rattle.rules.specs.Table.{node_at, formula_at}
use Rattle.rules.specs.Rules.{formula_of, Taken}
use Rattle.rules.proofs.Formulas.{formula_not}
use Rattle.logic.specs.Model.{Model, eval, model_of}
use Rattle.shape.specs.Shape.{flat?, height}
use Rattle.shape.proofs.Shapes.{flat-height}
use Rattle.row_table.specs.Rows.{RowsOf}
use Rattle.row_table.specs.Ranks.{binding}
use Rattle.moments.specs.Ready.{Ready}
use Rattle.moments.proofs.Ready.{not_ready}
use Rattle.rows.specs.RankModel.{rank_model}
use Rattle.timeline.proofs.Root.{from_zero, root_ready}
use Rattle.slip_form.specs.declared.Slip.{Slip}
use Rattle.slip_form.specs.Form.{some_of, SlipForm}
use Rattle.slip_form.specs.Slips.{bind_each, unbound, Each, Fits, slip_runs}
use Rattle.slip_form.specs.Chain.{ChainAt}
use Rattle.slip_form.proofs.Forms.{without-flat}
use Rattle.slip_form.proofs.Descent.{top_low}
use Rattle.slip_search.specs.First.{First, true_for, of_runs, of_ranks, AsksOf, Seeks, Tidy, Whole}
use Rattle.slip_search.proofs.Places.{length-numbers}
use Rattle.slips.specs.declared.Prepared.{Prepared}
use Rattle.std.specs.Prelude.{Ok, Err}
use Rattle.refusals.specs.declared.Refusal.TheVariants.{NoFinishedRun}
use Rattle.slips.specs.Answers.{without_slip, FindsIn, ReadsIn}
use Rattle.slips.specs.Parts.{Ranked, PreparedFor, FindsOf, ReadsOf}
use Rattle.slips.proofs.Ranked.{first_of_runs, truth_same, asks_of, true_of_runs, all_finished, all_ranked}
use Rattle.slips.proofs.Meaning.{true_of_each}
use Rattle.slips.proofs.Said.{found_in_lem, none_in, false_none, reads_fit, reads_not}

flat_low : (g : Formula) → flat? g ≡ true → height g ≡ 0
flat_low g e = let h : height g ≤ 0 = leb-true (height g) 0 (sym (flat-height g) ∙ e) in omega arith

-- as many "some" as the chain has variables
chain_height : (vs : List ℕ) (g : Formula) → flat? g ≡ true → height (some_of vs g) ≡ length vs
unfolding height
chain_height [] g e = flat_low g e
chain_height (v ∷ vs) g e = ap suc (chain_height vs g e)

-- where some runs have ranks below a number it is not 0
some_run : (ranks : List ℕ) (runs : ℕ) (ks : List ℕ) → 1 ≤ length ks → Each (λ k. (k < 128) × (get_or ranks k 0 < runs)) ks → 1 ≤ runs
unfolding Each
some_run ranks runs [] l e = absurd (omega arith)
some_run ranks runs (k ∷ ks) l e = omega (arith, e.0.1)

one_child : (f g : Formula) → neg f ≡ neg g → f ≡ g
one_child f g e = cc

module _ (file : List ℕ) (x : Rule) (top : ℕ) (taken : Taken file x) (at : ChainAt file x top) where
  rule_is : formula_of file x ≡ neg (formula_at file x.nodes top)
  rule_is =
      formula_not file x.nodes (x.count - 1) (node_at file x.nodes (x.count - 1)) refl taken.nodes_good at.kind
      ∙ ap (λ (n : ℕ). neg (formula_at file x.nodes n)) (sym at.child)

  chain_is : (s : SlipForm (formula_of file x)) → formula_at file x.nodes top ≡ some_of s.variables s.part
  chain_is s = one_child (formula_at file x.nodes top) (some_of s.variables s.part) (sym rule_is ∙ s.not_over)

  height_is : (s : SlipForm (formula_of file x)) → height (formula_at file x.nodes top) ≡ length s.variables
  height_is s = ap height (chain_is s) ∙ chain_height s.variables s.part (without-flat s.part s.without)

  chain_closed : scoped (formula_at file x.nodes top) no_scope ≡ true
  unfolding scoped
  chain_closed = sym (ap (λ (f : Formula). scoped f no_scope) rule_is) ∙ taken.closed

  pub chain_low : height (formula_at file x.nodes top) ≤ 4
  chain_low = let h = height_is at.form in omega (arith, at.form.four)

  pub chain_some : 1 ≤ height (formula_at file x.nodes top)
  chain_some = let h = height_is at.form in omega (arith, at.form.one)

  pub top_small : top < 64
  top_small =
      omega (arith, at.child, top_low file x taken (node_at file x.nodes (x.count - 1)) refl at.kind, taken.nodes_few)

  module _ (r : Record) (p : Prepared) (h : PreparedFor file x r p) where
    pub chain_ready : Ready file x.nodes p.heights p.frees p.table p.runs top from_zero
    chain_ready =
        let root = root_ready file x p.heights p.frees p.table p.runs taken h.shaped h.table_long h.runs_few in
        subst (λ (n : ℕ). Ready file x.nodes p.heights p.frees p.table p.runs n from_zero) (sym at.child)
        (not_ready file x.nodes p.heights p.frees p.table p.runs (x.count - 1) from_zero root (node_at file x.nodes (x.count - 1)) refl at.kind).1

    -- the byte of the chain's node says how many "some" it has
    pub chain_byte : get_or p.heights top 0 ≡ height (formula_at file x.nodes top)
    chain_byte = chain_ready.heights_are.high top (omega arith)

    module _ (log : List ℕ) (u : Trace) (acc : Accepted log u) (e : r ≡ record_of u) (s : SlipForm (formula_of file x)) where
      abbrev f : Formula
      f = formula_at file x.nodes top

      all_of : Ranked file u p
      all_of = h.ranked log u acc e

      -- a slip that fits has runs with ranks, so that some run is finished
      fits_ranked : (ks : List ℕ) → Each (FinishedRun u) ks → Each (λ k. (k < 128) × (get_or p.ranks k 0 < p.runs)) ks
      fits_ranked ks e =
          subst (λ (n : ℕ). Each (λ k. (k < 128) × (get_or p.ranks k 0 < n)) ks) (sym all_of.count)
          (all_ranked log u acc all_of.order all_of.held p.ranks all_of.ranks ks e)

      fits_some : (ks : List ℕ) → Fits u (formula_of file x) s ks → 1 ≤ p.runs
      fits_some ks w = some_run p.ranks p.runs ks (omega (arith, w.one_each, s.one)) (fits_ranked ks w.finished)

      -- with no run finished no slip passes
      no_runs_lem : p.runs ≡ 0 → FindsIn u (formula_of file x) s without_slip
      no_runs_lem z = none_in u (formula_of file x) s (λ ks w. let n = fits_some ks w.fits in omega arith)

      module _ (some : 1 ≤ p.runs) where
        last : all_of.order.count ≡ p.runs - 1 + 1
        last = omega (arith, all_of.count)

        asks : AsksOf p.table file p.ranks all_of.order.count (p.runs - 1) (rank_model u)
        asks =
            asks_of log u acc all_of.order all_of.held p.ranks all_of.ranks (p.runs - 1) last p.table file
            (subst (λ (n : ℕ). RowsOf p.table file n (rank_model u)) all_of.count all_of.rows)

        module _ (y : Option Slip) (tidy : IfSome y Tidy)
            (seeks : (M : Model) → AsksOf p.table file p.ranks p.runs (p.runs - 1) M
            → Seeks (of_ranks M p.ranks p.runs (p.runs - 1)) (binding from_zero) (formula_at file x.nodes top) y) where
          sought : Seeks (of_ranks (rank_model u) p.ranks all_of.order.count (p.runs - 1)) (binding from_zero) (formula_at file x.nodes top) y
          sought =
              subst (λ (n : ℕ). AsksOf p.table file p.ranks n (p.runs - 1) (rank_model u) → Seeks (of_ranks (rank_model u) p.ranks n (p.runs - 1)) (binding from_zero) (formula_at file x.nodes top) y)
              all_of.count (seeks (rank_model u)) asks

          finds_by : (z : Option Slip) → y ≡ z → FindsIn u (formula_of file x) s (Ok z)
          finds_by (Some w) e =
              found_in_lem u (formula_of file x) s w (subst (λ (o : Option Slip). IfSome o Tidy) e tidy)
              (subst (λ (c : Formula). First (of_runs (model_of u)) unbound c (slip_runs w)) (chain_is s)
              (first_of_runs log u acc all_of.order all_of.held p.ranks all_of.ranks (p.runs - 1) last (slip_runs w) no_scope unbound (binding from_zero) (formula_at file x.nodes top) chain_closed (λ v z. no_both (sym z)) (sought.first w e)))
          finds_by None e =
              false_none u (formula_of file x) s
              (ap (eval (model_of u) unbound) (sym (chain_is s))
              ∙ (truth_same log u acc all_of.order all_of.held p.ranks all_of.ranks (p.runs - 1) last (formula_at file x.nodes top) unbound (binding from_zero) chain_closed ∙ sought.none e))

        module _ (y : Slip) (whole : Whole y (height (formula_at file x.nodes top)) p.ranks p.runs) (b : Bool)
            (is : (M : Model) → RowsOf p.table file p.runs M
            → b ≡ true_for (of_ranks M p.ranks p.runs (p.runs - 1)) (binding from_zero) (formula_at file x.nodes top) (slip_runs y)) where
          whole_ranked : Each (λ k. (k < 128) × (get_or p.ranks k 0 < all_of.order.count)) (slip_runs y)
          whole_ranked = subst (λ (n : ℕ). Each (λ k. (k < 128) × (get_or p.ranks k 0 < n)) (slip_runs y)) all_of.count whole.ranked

          one_each : length (slip_runs y) ≡ length s.variables
          one_each = length-numbers y.count y.run ∙ (whole.count ∙ height_is s)

          true_is : b ≡ eval (model_of u) (bind_each unbound s.variables (slip_runs y)) s.part
          true_is =
              is (rank_model u) all_of.rows
              ∙ (ap (λ (n : ℕ). true_for (of_ranks (rank_model u) p.ranks n (p.runs - 1)) (binding from_zero) (formula_at file x.nodes top) (slip_runs y)) all_of.count
              ∙ (sym (true_of_runs log u acc all_of.order all_of.held p.ranks all_of.ranks (p.runs - 1) last (slip_runs y) no_scope unbound (binding from_zero) (formula_at file x.nodes top) chain_closed (λ v z. no_both (sym z)) whole_ranked)
              ∙ (ap (λ (c : Formula). true_for (of_runs (model_of u)) unbound c (slip_runs y)) (chain_is s)
              ∙ true_of_each u s.variables (slip_runs y) unbound s.part one_each)))

          reads_by : ReadsIn u (formula_of file x) s (slip_runs y) (Ok b)
          reads_by =
              reads_fit u (formula_of file x) s (slip_runs y)
              (record { one_each = one_each; finished = all_finished log u acc all_of.order all_of.held p.ranks all_of.ranks (slip_runs y) whole_ranked })
              b true_is

      -- a slip that is not whole does not fit
      reads_none : (y : Slip) → (Whole y (height (formula_at file x.nodes top)) p.ranks p.runs → ⊥)
          → ReadsIn u (formula_of file x) s (slip_runs y) (Err NoFinishedRun)
      reads_none y n =
          reads_not u (formula_of file x) s (slip_runs y)
          (λ w. n (record {
            count = sym (length-numbers y.count y.run) ∙ (w.one_each ∙ sym (height_is s));
            ranked = fits_ranked (slip_runs y) w.finished;
          }))

    -- a slip is whole by the byte of the chain's node exactly if it is by the chain
    pub whole_chain : (y : Slip) → Whole y (get_or p.heights top 0) p.ranks p.runs → Whole y (height (formula_at file x.nodes top)) p.ranks p.runs
    whole_chain y = subst (λ (n : ℕ). Whole y n p.ranks p.runs) chain_byte

    whole_byte : (y : Slip) → Whole y (height (formula_at file x.nodes top)) p.ranks p.runs → Whole y (get_or p.heights top 0) p.ranks p.runs
    whole_byte y = subst (λ (n : ℕ). Whole y n p.ranks p.runs) (sym chain_byte)

    -- ── the answers ──
    pub finds-nothing : p.runs ≡ 0 → FindsOf file x r without_slip
    finds-nothing z s log u acc e = no_runs_lem log u acc e s z

    pub finds_sought : (y : Option Slip) → (p.runs ≡ 0 → ⊥) → IfSome y Tidy
        → ((M : Model) → AsksOf p.table file p.ranks p.runs (p.runs - 1) M
        → Seeks (of_ranks M p.ranks p.runs (p.runs - 1)) (binding from_zero) (formula_at file x.nodes top) y)
        → FindsOf file x r (Ok y)
    finds_sought y some tidy seeks s log u acc e = finds_by log u acc e s (omega (arith, some)) y tidy seeks y refl

    pub whole_some : (y : Slip) → Whole y (height (formula_at file x.nodes top)) p.ranks p.runs → 1 ≤ p.runs
    whole_some y w = some_run p.ranks p.runs (slip_runs y) (omega (arith, length-numbers y.count y.run, w.count, chain_some)) w.ranked

    pub reads_refused : (y : Slip) → (Whole y (get_or p.heights top 0) p.ranks p.runs → ⊥) → ReadsOf file x r y (Err NoFinishedRun)
    reads_refused y n s log u acc e = reads_none log u acc e s y (λ w. n (whole_byte y w))

    pub reads_true : (y : Slip) (b : Bool) → Whole y (height (formula_at file x.nodes top)) p.ranks p.runs
        → ((M : Model) → RowsOf p.table file p.runs M
        → b ≡ true_for (of_ranks M p.ranks p.runs (p.runs - 1)) (binding from_zero) (formula_at file x.nodes top) (slip_runs y))
        → ReadsOf file x r y (Ok b)
    reads_true y b w is s log u acc e = reads_by log u acc e s (whole_some y w) y w b is

-- A search that may stop. At a moment below n only the first n runs are finished, so that an answer by the first n runs is right at
-- these moments. It has all of them, or a moment at which the rule is false, and behind that one it need not be right.
use Prim.Native.Nat.{ℕ, ◌+◌, ◌<◌, ◌≤◌}
use mathlib.Core.Path.{◌≡◌, refl, sym, ap, ap₂, ◌∙◌}
use mathlib.Core.Bool.{Bool, true, false, not, ◌&&◌}
use mathlib.Core.List.{List}
use native.Mathlib.Omega.{arith}
use lib.Dec.{ltb, leb}
use borrow.Author.Tests.{not-false, lt-ltb, le-ltb, le-leb, lt-leb}
use Rattle.lists.specs.Tells.{Tells}
use Rattle.lists.proofs.Tells.{tell_by}
use Rattle.lists.proofs.Cases.{either_lt, either_bool, no_both}
use Rattle.sets.specs.Sets.{mem}
use Rattle.sets.specs.declared.RunSet.{RunSet}
use Rattle.rules.specs.Formula.{Formula, no_scope, scoped}
use Rattle.logic.specs.Satisfies.{Binding}
use Rattle.logic.specs.Model.{Model}
use Rattle.logic.proofs.Closed.{Extends, eval_extends}
use Rattle.row_table.specs.Truth.{at_moment, truth}
use Rattle.row_table.specs.Rows.{pair_of, RowsOf}
use Rattle.timeline.specs.Root.{TrueAmong, TrueUntil, SearchEnd}

-- ── the first runs of a model ──
-- the model with n runs only
abbrev fewer : Model → ℕ → Model
fewer M n = record { runs = n; done = M.done; labelled = M.labelled; paired = M.paired }

fewer_extends : (M : Model) (n j : ℕ) → n ≤ M.runs → j < n → Extends (at_moment (fewer M n) j) (at_moment M j)
fewer_extends M n j few low =
    record {
      runs = few;
      done = λ i. refl;
      unfinished = λ i h. lt-leb i j (omega arith);
      labelled = λ i l d. refl;
      paired = λ p i k d e. refl;
    }

-- at a moment that they reach, a closed formula has the same truth value as over all runs
truth_fewer : (M : Model) (f : Formula) (ρ : Binding) (n j : ℕ) → scoped f no_scope ≡ true → n ≤ M.runs → j < n → truth (fewer M n) f ρ j ≡ truth M f ρ j
truth_fewer M f ρ n j closed few low = eval_extends (at_moment (fewer M n) j) (at_moment M j) (fewer_extends M n j few low) f ρ closed

-- the rows of all runs are theirs
rows_fewer : (table file : List ℕ) (count n : ℕ) (M : Model) → RowsOf table file count M → RowsOf table file n (fewer M n)
unfolding pair_of
rows_fewer table file count n M r =
    record { runs_are = refl; first_given = r.first_given; second_given_lem = r.second_given_lem; labels_are = r.labels_are; with_itself = r.with_itself }

-- ── an answer by the first runs ──
-- s has of the moments from low to below n those at which f is true of the runs of a table of n
abbrev pub TrueOfRows : List ℕ → List ℕ → Formula → ℕ → ℕ → RunSet → Type 0
TrueOfRows table file f low n s = (M : Model) → RowsOf table file n M → TrueAmong M f low n s

-- s has all moments from low to below n
abbrev pub HasAll : RunSet → ℕ → ℕ → Type 0
HasAll s low n = (j : ℕ) → low ≤ j → j < n → mem s j ≡ true

module _ (table file : List ℕ) (f : Formula) (closed : scoped f no_scope ≡ true) (low count e : ℕ) (stop : Bool) (s : RunSet)
    (end : SearchEnd count stop e) (found : TrueOfRows table file f low e s) (M : Model) (rows : RowsOf table file count M) where
  true_first : TrueAmong M f low e s
  true_first j k l ρ =
      found (fewer M e) (rows_fewer table file count e M rows) j k l ρ ∙ truth_fewer M f ρ e j closed (omega (arith, rows.runs_are, end.few)) l

  -- by all runs
  pub until_all : count ≤ e → TrueUntil stop M f low count s
  until_all h j k l _ ρ = true_first j k (omega arith) ρ

  -- by those up to a moment that s lacks
  pub until_lacking : (HasAll s low e → ⊥) → TrueUntil stop M f low count s
  until_lacking lacks j k l before ρ =
      either_lt j e
      (λ h. true_first j k h ρ)
      (λ h. either_bool stop
      (λ b. absurd (lacks (λ i p q. before b i p (omega arith))))
      (λ b. absurd (omega (arith, end.all b))))

-- ── parts of a search ──
pub end_more : (count : ℕ) (stop : Bool) (e n : ℕ) → SearchEnd count stop e → e < count → e < n → n ≤ count → SearchEnd count stop n
end_more count stop e n end below more few =
    record { few = few; all = λ b. absurd (omega (arith, end.all b)); some = λ h. omega arith }

pub end_few : (low count : ℕ) (stop : Bool) → stop ≡ true → low < count → SearchEnd count stop (low + 1)
end_few low count stop b h = record { few = omega arith; all = λ n. no_both (sym b ∙ n); some = λ _. omega arith }

pub until_from : (stop : Bool) (M : Model) (f : Formula) (low m n : ℕ) (s : RunSet) → low ≡ m → TrueUntil stop M f low n s → TrueUntil stop M f m n s
until_from stop M f low m n s e h j k l before ρ = h j (omega arith) l (λ b i p q. before b i (omega arith) q) ρ

-- ── a set that has all moments of a part ──
module _ (s all dom rest : RunSet) (low e : ℕ) (below : (j : ℕ) → mem all j ≡ ltb j e) (from : (j : ℕ) → mem dom j ≡ (mem all j && leb low j))
    (lacks : (j : ℕ) → mem rest j ≡ (mem dom j && not (mem s j))) where
  lacks_in : (j : ℕ) → low ≤ j → j < e → mem rest j ≡ not (mem s j)
  lacks_in j k l = lacks j ∙ ap (λ (b : Bool). b && not (mem s j)) (from j ∙ ap₂ ◌&&◌ (below j ∙ lt-ltb j e l) (le-leb low j k))

  lacks_behind : (j : ℕ) → e ≤ j → mem rest j ≡ false
  lacks_behind j l = lacks j ∙ ap (λ (b : Bool). b && not (mem s j)) (from j ∙ ap (λ (b : Bool). b && leb low j) (below j ∙ le-ltb j e l))

  lacks_before : (j : ℕ) → j < low → j < e → mem rest j ≡ false
  lacks_before j k l = lacks j ∙ ap (λ (b : Bool). b && not (mem s j)) (from j ∙ ap₂ ◌&&◌ (below j ∙ lt-ltb j e l) (lt-leb low j k))

  none_lacks : HasAll s low e → (j : ℕ) → mem rest j ≡ false
  none_lacks h j =
      either_lt j e
      (λ l. either_lt j low (λ k. lacks_before j k l) (λ k. lacks_in j k l ∙ ap not (h j k l)))
      (λ l. lacks_behind j l)

  pub tells_all : (b : Bool) → Tells b ((j : ℕ) → mem rest j ≡ false) → Tells b (HasAll s low e)
  tells_all b = tell_by (λ h j k l. not-false (mem s j) (sym (lacks_in j k l) ∙ h j)) none_lacks

-- Pair bytes 5, 6 and 7 of an accepted log say before, overlaps and includes of two finished runs.
use Prim.Native.Nat.{ℕ}
use mathlib.Core.Path.{◌≡◌}
use mathlib.Core.Logic.{◌↔◌}
use mathlib.Core.List.{List}
use lib.Dec.{eqb}
use Rattle.lists.specs.Tells.{Tells}
use Rattle.lists.proofs.Tells.{tell_by, agree}
use Rattle.trace.specs.Trace.{Trace, Accepted}
use Rattle.pairs.specs.Pairs.{pair_byte}
use Rattle.relations.specs.Relation as Relation
use Rattle.relations.specs.Runs.{FinishedRun, RelatesRuns}
use Rattle.relations.proofs.Pairs.{pair_byte_noted}
use Rattle.rules.specs.Formula.{before, overlaps, includes}
use Rattle.logic.specs.Satisfies.{Related}
use Rattle.logic.specs.Model.{model_of}
use Rattle.logic.proofs.Decides.{tell_eq, tell_related}

module _ (log : List ℕ) (t : Trace) (accepted : Accepted log t) (x y : ℕ) where
  -- a byte that notes a relation tells it
  noted_tells : (r : Relation.Relation) (n : ℕ) → (pair_byte t.runs x y ≡ n) ↔ (FinishedRun t x × FinishedRun t y × RelatesRuns r t x y) → Tells (eqb (pair_byte t.runs x y) n) (Related r t x y)
  noted_tells r n f =
      tell_by
      (λ e. let h = f.0 e in record { first = h.0; second = h.1; relates = h.2 })
      (λ h. f.1 (h.first, h.second, h.relates))
      (tell_eq (pair_byte t.runs x y) n)

  pub byte-5 : Tells (eqb (pair_byte t.runs x y) 5) (Related Relation.before t x y)
  byte-5 = noted_tells Relation.before 5 (pair_byte_noted log t accepted x y).is_before

  pub byte-6 : Tells (eqb (pair_byte t.runs x y) 6) (Related Relation.overlaps t x y)
  byte-6 = noted_tells Relation.overlaps 6 (pair_byte_noted log t accepted x y).is_overlaps

  pub byte-7 : Tells (eqb (pair_byte t.runs x y) 7) (Related Relation.includes t x y)
  byte-7 = noted_tells Relation.includes 7 (pair_byte_noted log t accepted x y).is_includes

  -- THE LAW: a pair byte is 5, 6 or 7 exactly where the two runs, both finished, are so related
  pub before_byte : (model_of t).paired before x y ≡ eqb (pair_byte t.runs x y) 5
  before_byte = agree _ _ (tell_related t Relation.before x y) byte-5

  pub overlaps_byte : (model_of t).paired overlaps x y ≡ eqb (pair_byte t.runs x y) 6
  overlaps_byte = agree _ _ (tell_related t Relation.overlaps x y) byte-6

  pub includes_byte : (model_of t).paired includes x y ≡ eqb (pair_byte t.runs x y) 7
  includes_byte = agree _ _ (tell_related t Relation.includes x y) byte-7

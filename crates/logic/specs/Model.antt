-- How the code works, not what it means.
-- The logic as a test, over what a formula's truth depends on: how many runs there are, which are finished, which have a label,
-- and what holds between two.
use Rattle.std.specs.Prelude.{ℕ, Bool, not, ◌&&◌, List, eqb, length}
use Rattle.lists.specs.Lists.{any_below, same?}
use Rattle.labels.specs.Label.{text}
use Rattle.labels.specs.Table.{label_at}
use Rattle.trace.specs.Trace.{Trace, run_at, start, finish}
use Rattle.relations.specs.Relation as Relation
use Rattle.relations.specs.Runs.{finished?}
use Rattle.rules.specs.Formula.{Pairing, Formula, both, neg, exists, has, pair}
use Rattle.logic.specs.Satisfies.{Binding, bind, Between, related, alike, between}

pub record Model : Type 0 where
  pub runs : ℕ
  pub done : ℕ → Bool
  pub labelled : ℕ → List ℕ → Bool
  pub paired : Pairing → ℕ → ℕ → Bool

unfoldable pub eval : Model → Binding → Formula → Bool
eval m ρ (both f g) = eval m ρ f && eval m ρ g
eval m ρ (neg f) = not (eval m ρ f)
eval m ρ (has v l) = m.labelled (ρ v) l
eval m ρ (pair p v w) = m.paired p (ρ v) (ρ w)
eval m ρ (exists v f) = any_below m.runs (λ j. m.done j && eval m (bind ρ v j) f)

-- ── the runs of a trace ──
abbrev pub number_at : Trace → ℕ → ℕ
number_at t j = (run_at t j).label.0

-- whether run j has the label with the bytes l
abbrev pub has_label? : Trace → ℕ → List ℕ → Bool
has_label? t j l = not (eqb (number_at t j) 0) && same? (text (label_at t.labels (number_at t j))) l

abbrev pub related? : Relation.Relation → Trace → ℕ → ℕ → Bool
related? r t j k =
    finished? t j && (finished? t k && Relation.relates? r (start t j) (finish t j) (start t k) (finish t k))

abbrev pub same_label? : Trace → ℕ → ℕ → Bool
same_label? t j k = not (eqb (number_at t j) 0) && has_label? t k (text (label_at t.labels (number_at t j)))

abbrev pub holds_between? : Between → Trace → ℕ → ℕ → Bool
holds_between? (related r) t j k = related? r t j k
holds_between? alike t j k = same_label? t j k

abbrev pub model_of : Trace → Model
model_of t = record { runs = length t.runs; done = finished? t; labelled = has_label? t; paired = λ p. holds_between? (between p) t }

-- A verdict after a log, by computation.
use Prim.Native.Nat.{ℕ}
use mathlib.Core.Path.{◌≡◌}
use mathlib.Core.Bool.{Bool, true, cond}
use mathlib.Core.List.{List, [], ◌∷◌}
use Rattle.lists.specs.Lists.{bytes}
use Rattle.labels.specs.declared.Label.{Label}
use Rattle.labels.specs.Label.{label_of}
use Rattle.trace.specs.declared.Run.{Run}
use Rattle.trace.specs.Trace.{Trace, Accepted}
use Rattle.rules.specs.Formula.{Formula, no_scope, scoped}
use Rattle.logic.specs.declared.Verdict.TheVariants.{Holds, Fails}
use Rattle.logic.specs.Model.{eval, model_of}
use Rattle.logic.specs.Verdict.{After}
use Rattle.logic.proofs.Judged.{closed_says}

pub after : (log : List ℕ) (t : Trace) (f : Formula) (b : Bool) → Accepted log t → scoped f no_scope ≡ true → b ≡ eval (model_of t) (λ _. 0) f → After log f (cond b Holds Fails)
after log t f b a c e = record { trace = t; accepted = a; says = closed_says t f (λ _. 0) b c e }

abbrev pub left : List Run → List Label → ℕ → Trace
left rs ls n = record { runs = rs; labels = ls; lines = n }

abbrev pub test_label : List Label
test_label = label_of (bytes "TEST") ∷ []

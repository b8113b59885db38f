-- Tests that decide: made, and carried from one claim to another.
use mathlib.Core.Path.{◌≡◌, refl, sym, ◌∙◌}
use mathlib.Core.Bool.{Bool, true, false}
use Rattle.std.specs.Bool.{Decides}
use Rattle.lists.specs.Tells.{Tells}
use Rattle.lists.proofs.Cases.{no_both}

pub tell_no : {P : Type 0} → (P → ⊥) → Tells false P
tell_no f = record { yes = λ e. no_both (sym e); no = λ _ p. f p }

pub tell_yes : {P : Type 0} → P → Tells true P
tell_yes p = record { yes = λ _. p; no = λ e _. no_both e }

pub tell_by : {P Q : Type 0} {b : Bool} → (P → Q) → (Q → P) → Tells b P → Tells b Q
tell_by f g t = record { yes = λ e. f (t.yes e); no = λ e q. t.no e (g q) }

-- two tests of one claim are the same
pub agree : {P : Type 0} (a b : Bool) → Tells a P → Tells b P → a ≡ b
agree true true p q = refl
agree true false p q = absurd (q.no refl (p.yes refl))
agree false true p q = absurd (p.no refl (q.yes refl))
agree false false p q = refl

-- the library's word for such a test
pub tells : {P : Type 0} {b : Bool} → Decides b P → Tells b P
tells d = record { yes = d.0; no = λ e p. no_both (sym (d.1 p) ∙ e) }

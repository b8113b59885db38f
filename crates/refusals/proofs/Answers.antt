-- A call that answers the refusal of a number: with which refusal it does.
use Prim.Native.Nat.{ℕ}
use mathlib.Core.Path.{◌≡◌, ap, sym, ◌∙◌}
use Rattle.std.specs.Prelude.{Result, Ok, Err}
use Rattle.refusals.specs.Refusal.{number, RefusedWith}
use Rattle.refusals.specs.declared.Refusal.{Refusal}

module _ {A : Type 0} (r : Result A Refusal) (c : ℕ) where
  pub refused_with : (e : Refusal) → r ≡ Err e → c ≡ number e → RefusedWith c r
  refused_with e q n = (e, (q, sym n))

  pub refused_number : (e : Refusal) → r ≡ Err e → RefusedWith c r → c ≡ number e
  refused_number e q w = let p = w.1.0 in
      let same : w.0 ≡ e = cc in
      sym w.1.1 ∙ ap number same

  pub refused_ok : {C : Type 0} (x : A) → r ≡ Ok x → RefusedWith c r → C
  refused_ok x q w = let p = w.1.0 in cc

-- Behind a rule no blank is left: what stands there is a sign, or nothing.
use Prim.Native.Nat.{ℕ, zero, suc, ◌+◌, ◌-◌, ◌*◌}
use mathlib.Core.Path.{◌≡◌, sym, ap, subst, ◌∙◌}
use mathlib.Core.Option.{Option as Maybe, none, some}
use mathlib.Core.List.{List}
use native.Mathlib.Omega.{arith}
use lib.ListN.{length, take, drop}
use Rattle.std.specs.Prelude.{Some}
use Rattle.signs.specs.Signs.{Got, read, outside, next, if_sign, skip, sign, name, bar_sign, and_sign, comma_sign, dot_sign}
use Rattle.signs.specs.Finding.{Behind}
use Rattle.signs.proofs.Blanks.{skip-again}
use Rattle.atoms.specs.Tree.{Tree, size}
use Rattle.atoms.specs.Emit.{emit}
use Rattle.atoms.specs.declared.Reading.{Reading}
use Rattle.atoms.proofs.Taken.{took}
use Rattle.typed.specs.Grammar.{read_or, more_or, read_and, more_and, read_not, read_some, read_body}
use Rattle.typed.specs.Parsing.{ReadsRule}

-- no blank is next in what is left
abbrev Passed : {A : Type 0} → Got A → Type 0
Passed (read a s) = skip s ≡ s
Passed outside = Unit {0}

passed_next : {A B : Type 0} (g : Got A) (h : A → List ℕ → Got B) → ((a : A) (s : List ℕ) → Passed (h a s)) → Passed (next g h)
passed_next (read a s) h f = f a s
passed_next outside h f = tt

passed_if : {A : Type 0} (o : Maybe (List ℕ)) (k : List ℕ → Got A) (z : Got A) → ((s : List ℕ) → Passed (k s)) → Passed z → Passed (if_sign o k z)
passed_if (some s) k z f g = f s
passed_if none k z f g = g

-- what is left behind further parts is handed on
passed_on : {A B : Type 0} (g : Got A) (h : A → B) → Passed g → Passed (next g (λ a s. read (h a) s))
passed_on (read a s) h p = p
passed_on outside h p = tt

mutual
  unfolding read_or

  ors_passed : (f : ℕ) (s : List ℕ) → Passed (more_or f s)
  ors_passed zero s = tt
  ors_passed (suc f) s = passed_if (sign bar_sign s) _ _ (λ s1. passed_next (read_and f s1) _ (λ t s2. passed_on (more_or f s2) _ (ors_passed f s2))) (skip-again s)

  ands_passed : (f : ℕ) (s : List ℕ) → Passed (more_and f s)
  ands_passed zero s = tt
  ands_passed (suc f) s = passed_if (sign and_sign s) _ _ (λ s1. passed_next (read_not f s1) _ (λ t s2. passed_on (more_and f s2) _ (ands_passed f s2))) (skip-again s)

  and_passed : (f : ℕ) (s : List ℕ) → Passed (read_and f s)
  and_passed zero s = tt
  and_passed (suc f) s = passed_next (read_not f s) _ (λ t s1. passed_on (more_and f s1) _ (ands_passed f s1))

  or_passed : (f : ℕ) (s : List ℕ) → Passed (read_or f s)
  or_passed zero s = tt
  or_passed (suc f) s = passed_next (read_and f s) _ (λ t s1. passed_on (more_or f s1) _ (ors_passed f s1))

  some_passed : (f : ℕ) (s : List ℕ) → Passed (read_some f s)
  some_passed zero s = tt
  some_passed (suc f) s = passed_next (name s) _ (λ n s1. passed_on (read_body f s1) _ (body_passed f s1))

  body_passed : (f : ℕ) (s : List ℕ) → Passed (read_body f s)
  body_passed zero s = tt
  body_passed (suc f) s = passed_if (sign comma_sign s) _ _ (λ s1. some_passed f s1) (passed_if (sign dot_sign s) _ outside (λ s1. or_passed f s1) tt)

-- the place behind a part, of a reader that leaves no blank
module _ (text : List ℕ) (at : ℕ) (ns : List ℕ) (d k : ℕ) (b : List ℕ) (r : Reading) (m l : List ℕ) (g : ℕ → List ℕ → Got Tree) (lvl : ℕ) (h : (f : ℕ) (s : List ℕ) → Passed (g f s)) where
  pub no_blank : ReadsRule g lvl text at ns d k b (Some r) m l → Behind text r.at r.at
  no_blank x =
      let f = suc (4 * (length text - at) + lvl) in
      let u = took size (emit b k (take d ns)) text at k (g f (drop at text)) r m (x.reads f (omega arith)) in
      let p : skip u.1 ≡ u.1 = subst Passed u.2 (h f (drop at text)) in
      record { answer = ap skip (sym u.3.rest) ∙ (p ∙ u.3.rest); ahead = omega arith; inside = u.3.inside }

module _ (text : List ℕ) (at : ℕ) (ns : List ℕ) (d k : ℕ) (b : List ℕ) (r : Reading) (m l : List ℕ) where
  pub behind-and : ReadsRule read_and 2 text at ns d k b (Some r) m l → Behind text r.at r.at
  behind-and = no_blank text at ns d k b r m l read_and 2 and_passed

  pub behind_names : ReadsRule read_some 0 text at ns d k b (Some r) m l → Behind text r.at r.at
  behind_names = no_blank text at ns d k b r m l read_some 0 some_passed

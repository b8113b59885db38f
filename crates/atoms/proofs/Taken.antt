-- What an answer of a reader says of the definition: the two agree, so that the one tells the other.
use Prim.Native.Nat.{ℕ, ◌≤◌}
use mathlib.Core.Path.{◌≡◌, refl}
use mathlib.Core.List.{List}
use native.Mathlib.Omega.{arith}
use Rattle.std.specs.Prelude.{Option, Some, None}
use Rattle.signs.specs.Signs.{Got, read, outside, next}
use Rattle.atoms.specs.Readers.{Done, Reads}
use Rattle.atoms.specs.declared.Reading.{Reading}

module _ {A : Type 0} (w : A → ℕ) (mk : A → List ℕ) (text : List ℕ) (at k : ℕ) where
  pub took : (g : Got A) (r : Reading) (left : List ℕ) → Reads w mk text at k g (Some r) left → (t : A) × (s : List ℕ) × (g ≡ read t s) × Done text at k s (w t) (mk t) r.at r.count left
  took (read t s) r left d = (t, s, refl, d)
  took outside r left d = absurd d

  pub lost : (g : Got A) (left : List ℕ) → Reads w mk text at k g None left → g ≡ outside
  lost outside left d = refl
  lost (read t s) left d = absurd d

  -- an answer handed on: for a reader that begins earlier and makes more of what was read
  pub carry : {B : Type 0} (w2 : B → ℕ) (mk2 : B → List ℕ) (at2 k2 : ℕ) (h : A → B) (g : Got A) (o : Option Reading) (left : List ℕ) → Reads w mk text at k g o left
      → ((t : A) (s : List ℕ) (r : Reading) → Done text at k s (w t) (mk t) r.at r.count left → Done text at2 k2 s (w2 (h t)) (mk2 (h t)) r.at r.count left)
      → Reads w2 mk2 text at2 k2 (next g (λ t s. read (h t) s)) o left
  carry w2 mk2 at2 k2 h (read t s) (Some r) left d f = f t s r d
  carry w2 mk2 at2 k2 h outside None left d f = d
  carry w2 mk2 at2 k2 h (read t s) None left d f = d
  carry w2 mk2 at2 k2 h outside (Some r) left d f = d

  pub earlier : (at2 : ℕ) → at2 ≤ at → (g : Got A) (o : Option Reading) (left : List ℕ) → Reads w mk text at k g o left → Reads w mk text at2 k g o left
  earlier at2 h (read t s) (Some r) left d =
      record { ahead = omega (arith, d.ahead); inside = d.inside; some = d.some; rest = d.rest; count = d.count; room = omega (arith, d.room); table = d.table }
  earlier at2 h outside None left d = d
  earlier at2 h (read t s) None left d = d
  earlier at2 h outside (Some r) left d = d

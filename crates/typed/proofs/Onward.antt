-- A loop of a reader: what is read from where it stands on is what is read from its start on.
use Prim.Native.Nat.{ℕ, ◌+◌, ◌-◌, ◌<◌, ◌≤◌}
use mathlib.Core.Path.{◌≡◌, ◌∙◌}
use mathlib.Core.List.{List}
use native.Mathlib.Omega.{arith}
use lib.ListN.{length, drop}
use Rattle.std.specs.Prelude.{Option, Some}
use Rattle.signs.specs.Signs.{Got, sign, bar_sign, and_sign}
use Rattle.signs.specs.Finding.{FindsSign}
use Rattle.atoms.specs.Tree.{Tree}
use Rattle.atoms.specs.Emit.{put, close_or}
use Rattle.atoms.specs.Readers.{Stored}
use Rattle.typed.specs.Grammar.{read_and, read_not}
use Rattle.typed.specs.Parsing.{Begins, ReadsRule, ReadsMore, Closes}
use Rattle.atoms.specs.declared.Reading.{Reading}
use Rattle.signs.proofs.Told.{found_sign}
use Rattle.typed.proofs.Answers.{rule_place}
use Rattle.typed.proofs.Calls.{Next}

abbrev pub MoreFrom : (ℕ → List ℕ → Got (List Tree)) → (List Tree → ℕ) → (List ℕ → ℕ → List ℕ → List Tree → List ℕ) → List ℕ → ℕ → ℕ → List ℕ → ℕ → List ℕ → ℕ → List ℕ → ℕ → List ℕ → Type 0
MoreFrom g w e text d at ns k b here ms n c =
    (r : Option Reading) (a l : List ℕ) → ReadsMore g w e text here ms d n c r a l → ReadsMore g w e text at ns d k b r a l

abbrev pub ClosesFrom : List ℕ → ℕ → ℕ → List ℕ → ℕ → List ℕ → ℕ → ℕ → List ℕ → ℕ → List ℕ → ℕ → Type 0
ClosesFrom text d at ns k b c here ms n m left =
    (r : Option Reading) (a l : List ℕ) → Closes text here ms d n m left r a l → Closes text at ns d k b c r a l

-- below a measure is below a higher one
pub sooner : {text : List ℕ} {p : ℕ} {ns : List ℕ} {d n : ℕ} {m : List ℕ} {j t : ℕ} (u : ℕ) → Next text p ns d n m j t → t ≤ u → Next text p ns d n m j u
sooner u z h = record { less = omega (arith, z.less); begins = z.begins; many = z.many }

-- where the next side of an or, or of an and, begins
module _ (text : List ℕ) (at : ℕ) (ns : List ℕ) (d k : ℕ) (b : List ℕ) (y : Begins text at ns d k b) (p : ℕ) (r : Reading) (m l m2 : List ℕ) where
  pub or_onward : (b1 : List ℕ) → FindsSign text at (sign bar_sign (drop at text)) (Some p) → Stored b (put b k 2 (k - 1) 0) b1 → ReadsRule read_and 2 text p ns d (k + 1) b1 (Some r) m l → Stored m (close_or m k r.count) m2
      → Begins text r.at l d (r.count + 3) m2 × (at < r.at)
  or_onward b1 x w z v =
      let g = found_sign text at (sign bar_sign (drop at text)) p x in
      let o = rule_place text p ns d (k + 1) b1 r m l read_and 2 z in (
        record {
          inside = o.inside;
          short = y.short;
          few = omega (arith, o.room, y.few, g.1);
          bound = y.bound;
          names = z.room ∙ y.names;
          whole = omega (arith, y.whole, w.long, z.long, v.long);
        },
        omega (arith, g.1, o.ahead),
      )

  pub and_onward : FindsSign text at (sign and_sign (drop at text)) (Some p) → ReadsRule read_not 1 text p ns d k b (Some r) m l → Stored m (put m r.count 1 (k - 1) (r.count - 1)) m2
      → Begins text r.at l d (r.count + 1) m2 × (at < r.at)
  and_onward x z v =
      let g = found_sign text at (sign and_sign (drop at text)) p x in
      let o = rule_place text p ns d k b r m l read_not 1 z in (
        record {
          inside = o.inside;
          short = y.short;
          few = omega (arith, o.room, y.few, g.1);
          bound = y.bound;
          names = z.room ∙ y.names;
          whole = omega (arith, y.whole, z.long, v.long);
        },
        omega (arith, g.1, o.ahead),
      )

-- What an answer of the code says of the definition: the two agree, so that the one tells the other.
use Prim.Native.Nat.{ℕ, zero, suc, ◌+◌, ◌-◌, ◌*◌, ◌<◌, ◌≤◌}
use mathlib.Core.Path.{◌≡◌, subst, ◌∙◌}
use mathlib.Core.List.{List}
use native.Mathlib.Omega.{arith}
use lib.ListN.{length, take, drop}
use Rattle.std.specs.Prelude.{Option, Some}
use Rattle.signs.specs.Signs.{Got}
use Rattle.atoms.specs.Tree.{Tree, size}
use Rattle.atoms.specs.Emit.{emit}
use Rattle.atoms.specs.Readers.{Reads}
use Rattle.typed.specs.Parsing.{ReadsRule, ReadsMore}
use Rattle.atoms.specs.declared.Reading.{Reading}
use Rattle.atoms.proofs.Taken.{took}

-- ── where a reader stands afterwards ──
pub record Place (text : List ℕ) (at k : ℕ) (r : Reading) : Type 0 where
  pub ahead : at ≤ r.at
  pub inside : r.at ≤ length text
  pub some : 1 ≤ r.count
  pub room : r.count + 4 * at ≤ k + 4 * r.at

module _ (text : List ℕ) (at : ℕ) (ns : List ℕ) (d k : ℕ) (b : List ℕ) (r : Reading) (a l : List ℕ) where
  pub rule_place : (g : ℕ → List ℕ → Got Tree) (lvl : ℕ) → ReadsRule g lvl text at ns d k b (Some r) a l → Place text at k r
  rule_place g lvl x =
      let f = suc (4 * (length text - at) + lvl) in
      let o = (took size (emit b k (take d ns)) text at k (g f (drop at text)) r a (x.reads f (omega arith))).3 in
      record { ahead = o.ahead; inside = o.inside; some = o.some; room = o.room }

  pub more_place : (g : ℕ → List ℕ → Got (List Tree)) (w : List Tree → ℕ) (e : List ℕ → ℕ → List ℕ → List Tree → List ℕ) → ReadsMore g w e text at ns d k b (Some r) a l → Place text at k r
  more_place g w e x =
      let f = suc (4 * (length text - at)) in
      let o = (took w (e b k (take d ns)) text at k (g f (drop at text)) r a (x.reads f (omega arith))).3 in
      record { ahead = o.ahead; inside = o.inside; some = o.some; room = o.room }

module _ (text : List ℕ) (at : ℕ) (ns : List ℕ) (d k : ℕ) (b : List ℕ) (r : Option Reading) (a l : List ℕ) where
  module _ (g : ℕ → List ℕ → Got Tree) (lvl : ℕ) where
    -- a bound is never 0
    pub rule_by : length a ≡ length b → length l ≡ length ns → take d l ≡ take d ns
        → ((f : ℕ) → 4 * (length text - at) + lvl ≤ f → Reads size (emit b k (take d ns)) text at k (g (suc f) (drop at text)) r a) → ReadsRule g lvl text at ns d k b r a l
    rule_by h1 h2 h3 h = record { long = h1; room = h2; kept = h3; reads = go }
      where
        go : (f : ℕ) → 4 * (length text - at) + lvl < f → Reads size (emit b k (take d ns)) text at k (g f (drop at text)) r a
        go zero q = absurd (omega arith)
        go (suc f) q = h f (omega arith)

    -- from other words whose first d are the same
    pub rule_named : (ns0 : List ℕ) → length ns ≡ length ns0 → take d ns ≡ take d ns0 → ReadsRule g lvl text at ns d k b r a l → ReadsRule g lvl text at ns0 d k b r a l
    rule_named ns0 h e x =
        record {
          long = x.long;
          room = x.room ∙ h;
          kept = x.kept ∙ e;
          reads = λ f q. subst (λ (y : List ℕ). Reads size (emit b k y) text at k (g f (drop at text)) r a) e (x.reads f q);
        }

  module _ (g : ℕ → List ℕ → Got (List Tree)) (w : List Tree → ℕ) (e : List ℕ → ℕ → List ℕ → List Tree → List ℕ) where
    pub more_by : length a ≡ length b → length l ≡ length ns → take d l ≡ take d ns
        → ((f : ℕ) → 4 * (length text - at) ≤ f → Reads w (e b k (take d ns)) text at k (g (suc f) (drop at text)) r a) → ReadsMore g w e text at ns d k b r a l
    more_by h1 h2 h3 h = record { long = h1; room = h2; kept = h3; reads = go }
      where
        go : (f : ℕ) → 4 * (length text - at) < f → Reads w (e b k (take d ns)) text at k (g f (drop at text)) r a
        go zero q = absurd (omega arith)
        go (suc f) q = h f (omega arith)

    pub more-named : (ns0 : List ℕ) → length ns ≡ length ns0 → take d ns ≡ take d ns0 → ReadsMore g w e text at ns d k b r a l → ReadsMore g w e text at ns0 d k b r a l
    more-named ns0 h i x =
        record {
          long = x.long;
          room = x.room ∙ h;
          kept = x.kept ∙ i;
          reads = λ f q. subst (λ (y : List ℕ). Reads w (e b k y) text at k (g f (drop at text)) r a) i (x.reads f q);
        }

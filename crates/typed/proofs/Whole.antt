-- A whole text: one rule, and nothing but spaces and LFs behind it.
use Prim.Native.Nat.{ℕ, ◌+◌, ◌*◌, ◌<◌, ◌≤◌}
use mathlib.Core.Path.{◌≡◌, refl}
use mathlib.Core.List.{List, []}
use native.Mathlib.Omega.{arith}
use lib.ListN.{length, drop_of_length-le}
use borrow.Author.Tests.{lt-ltb, le-ltb}
use Rattle.std.specs.Prelude.{Some, None}
use Rattle.signs.specs.Signs.{outside}
use Rattle.atoms.specs.Tree.{size}
use Rattle.typed.specs.Grammar.{read_or, tree_of, read_text}
use Rattle.atoms.specs.Emit.{emit}
use Rattle.signs.specs.Finding.{Behind}
use Rattle.typed.specs.Parsing.{ReadsRule, Parses}
use Rattle.atoms.specs.declared.Reading.{Reading}
use Rattle.signs.proofs.Places.{step}
use Rattle.atoms.proofs.Taken.{took, lost}

pub text_long : (text b : List ℕ) → 4096 < length text → Parses text b None b
unfolding read_text
text_long text b h = record { says = rw (lt-ltb 4096 (length text) h) tt; long = refl }

module _ (text ns b : List ℕ) (h : length text ≤ 4096) where
  pub text_lost : (a l : List ℕ) → ReadsRule read_or 3 text 0 ns 0 0 b None a l → Parses text b None a
  unfolding read_text tree_of
  text_lost a l x =
      let g : read_or (4 * length text + 4) text ≡ outside = lost size (emit b 0 []) text 0 0 (read_or (4 * length text + 4) text) a (x.reads (4 * length text + 4) (omega arith)) in
      record { says = rw (le-ltb 4096 (length text) h, g) tt; long = x.long }

  module _ (r : Reading) (a l : List ℕ) (x : ReadsRule read_or 3 text 0 ns 0 0 b (Some r) a l) where
    module _ (q : ℕ) (y : Behind text r.at q) where
      pub text_more : q < length text → Parses text b None a
      unfolding read_text tree_of
      text_more i =
          let u = took size (emit b 0 []) text 0 0 (read_or (4 * length text + 4) text) r a (x.reads (4 * length text + 4) (omega arith)) in
          record { says = rw (le-ltb 4096 (length text) h, u.2, u.3.rest, y.answer, step text q i) tt; long = x.long }

      pub text_read : length text ≤ q → Parses text b (Some r.count) a
      unfolding read_text tree_of
      text_read i =
          let u = took size (emit b 0 []) text 0 0 (read_or (4 * length text + 4) text) r a (x.reads (4 * length text + 4) (omega arith)) in
          record { says = rw (le-ltb 4096 (length text) h, u.2, u.3.rest, y.answer, drop_of_length-le text i) (omega (arith, u.3.count), u.3.table); long = x.long }

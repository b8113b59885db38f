-- Label tests, relations and `same`.
use Prim.Native.Nat.{ℕ, ◌+◌, ◌≤◌}
use mathlib.Core.Path.{◌≡◌, refl, ap, ◌∙◌}
use mathlib.Core.List.{List}
use native.Mathlib.Omega.{arith}
use lib.ListN.{drop}
use Rattle.std.specs.Prelude.{Option, Some, None}
use Rattle.signs.specs.Signs.{sign, name, label}
use Rattle.atoms.specs.Tree.{size}
use Rattle.signs.specs.Signs.{open_sign, close_sign, comma_sign, less_sign, overlaps_sign, includes_sign, same_sign}
use Rattle.atoms.specs.Atoms.{relation, read_same, read_has, read_pair, read_atom}
use Rattle.atoms.specs.Emit.{level, put, emit}
use Rattle.signs.specs.Finding.{FindsSign, ReadsWord}
use Rattle.atoms.specs.Readers.{ReadsAtom, Stored}
use Rattle.signs.specs.declared.Word.{Word}
use Rattle.atoms.specs.declared.Reading.{Reading}
use Rattle.signs.proofs.Told.{found_sign, no_sign, found_word, no_word}
use Rattle.atoms.proofs.Taken.{earlier}

-- ── relations ──
module _ (s : List ℕ) (at : ℕ) where
  pub relation_before : (p : ℕ) → FindsSign s at (sign less_sign (drop at s)) (Some p) → ReadsWord s at (relation (drop at s)) (Some (record { value = 5; at = p }))
  unfolding relation
  relation_before p x = let g = found_sign s at (sign less_sign (drop at s)) p x in record { says = rw g.0 (refl, refl, g.1, g.2) }

  module _ (x : FindsSign s at (sign less_sign (drop at s)) None) where
    pub relation_overlaps : (p : ℕ) → FindsSign s at (sign overlaps_sign (drop at s)) (Some p) → ReadsWord s at (relation (drop at s)) (Some (record { value = 6; at = p }))
    unfolding relation
    relation_overlaps p y =
        let g = found_sign s at (sign overlaps_sign (drop at s)) p y in
        record { says = rw (no_sign s at (sign less_sign (drop at s)) x, g.0) (refl, refl, g.1, g.2) }

    module _ (y : FindsSign s at (sign overlaps_sign (drop at s)) None) where
      pub relation_includes : (p : ℕ) → FindsSign s at (sign includes_sign (drop at s)) (Some p) → ReadsWord s at (relation (drop at s)) (Some (record { value = 7; at = p }))
      unfolding relation
      relation_includes p z =
          let g = found_sign s at (sign includes_sign (drop at s)) p z in
          record { says = rw (no_sign s at (sign less_sign (drop at s)) x, no_sign s at (sign overlaps_sign (drop at s)) y, g.0) (refl, refl, g.1, g.2) }

      pub relation_none : FindsSign s at (sign includes_sign (drop at s)) None → ReadsWord s at (relation (drop at s)) None
      unfolding relation
      relation_none z =
          record { says = rw (no_sign s at (sign less_sign (drop at s)) x, no_sign s at (sign overlaps_sign (drop at s)) y, no_sign s at (sign includes_sign (drop at s)) z) tt }

-- ── A('..') ──
module _ (s : List ℕ) (at v : ℕ) (ns : List ℕ) (k : ℕ) (b : List ℕ) where
  pub has_none : ReadsWord s at (label (drop at s)) None → ReadsAtom (read_has v) s at ns k b None b
  unfolding read_has
  has_none x = record { long = refl; reads = rw (no_word s at (label (drop at s)) x) tt }

  module _ (l : Word) (x : ReadsWord s at (label (drop at s)) (Some l)) where
    pub has_open : FindsSign s l.at (sign close_sign (drop l.at s)) None → ReadsAtom (read_has v) s at ns k b None b
    unfolding read_has
    has_open y =
        let g = found_word s at (label (drop at s)) l x in
        record { long = refl; reads = rw (g.0, no_sign s l.at (sign close_sign (drop l.at s)) y) tt }

    pub has_read : (q : ℕ) → FindsSign s l.at (sign close_sign (drop l.at s)) (Some q) → (d : ℕ) → d ≡ level ns v → (a : List ℕ) → Stored b (put b k 4 d l.value) a → ReadsAtom (read_has v) s at ns k b (Some (record { at = q; count = k + 1 })) a
    unfolding read_has emit
    has_read q y d o a w =
        let g = found_word s at (label (drop at s)) l x in
        let h = found_sign s l.at (sign close_sign (drop l.at s)) q y in
        record {
          long = w.long;
          reads =
              rw (g.0, h.0)
              (record { ahead = omega (arith, g.1, h.1); inside = h.2; some = omega arith; rest = refl; count = omega arith; room = omega (arith, g.1, h.1); table = w.answer ∙ ap (λ (j : ℕ). put b k 4 j l.value) o });
        }

-- ── A < B ──
module _ (s : List ℕ) (at v : ℕ) (ns : List ℕ) (k : ℕ) (b : List ℕ) where
  pub pair_none : ReadsWord s at (relation (drop at s)) None → ReadsAtom (read_pair v) s at ns k b None b
  unfolding read_pair
  pair_none x = record { long = refl; reads = rw (no_word s at (relation (drop at s)) x) tt }

  module _ (c : Word) (x : ReadsWord s at (relation (drop at s)) (Some c)) where
    pub pair_half : ReadsWord s c.at (name (drop c.at s)) None → ReadsAtom (read_pair v) s at ns k b None b
    unfolding read_pair
    pair_half y =
        let g = found_word s at (relation (drop at s)) c x in
        record { long = refl; reads = rw (g.0, no_word s c.at (name (drop c.at s)) y) tt }

    pub pair_read : (u : Word) → ReadsWord s c.at (name (drop c.at s)) (Some u) → (a : List ℕ) → Stored b (put b k c.value (level ns v) (level ns u.value)) a → ReadsAtom (read_pair v) s at ns k b (Some (record { at = u.at; count = k + 1 })) a
    unfolding read_pair emit
    pair_read u y a w =
        let g = found_word s at (relation (drop at s)) c x in
        let h = found_word s c.at (name (drop c.at s)) u y in
        record {
          long = w.long;
          reads =
              rw (g.0, h.0)
              (record { ahead = omega (arith, g.1, h.1); inside = h.2; some = omega arith; rest = refl; count = omega arith; room = omega (arith, g.1, h.1); table = w.answer });
        }

-- ── same(A,B) ──
module _ (s : List ℕ) (at : ℕ) (ns : List ℕ) (k : ℕ) (b : List ℕ) where
  pub same-0 : FindsSign s at (sign open_sign (drop at s)) None → ReadsAtom read_same s at ns k b None b
  unfolding read_same
  same-0 x0 = record { long = refl; reads = rw (no_sign s at (sign open_sign (drop at s)) x0) tt }

  module _ (p : ℕ) (x0 : FindsSign s at (sign open_sign (drop at s)) (Some p)) where
    pub same-1 : ReadsWord s p (name (drop p s)) None → ReadsAtom read_same s at ns k b None b
    unfolding read_same
    same-1 x1 =
        record { long = refl; reads = rw ((found_sign s at (sign open_sign (drop at s)) p x0).0, no_word s p (name (drop p s)) x1) tt }

    module _ (v : Word) (x1 : ReadsWord s p (name (drop p s)) (Some v)) where
      pub same-2 : FindsSign s v.at (sign comma_sign (drop v.at s)) None → ReadsAtom read_same s at ns k b None b
      unfolding read_same
      same-2 x2 =
          record {
            long = refl;
            reads = rw ((found_sign s at (sign open_sign (drop at s)) p x0).0, (found_word s p (name (drop p s)) v x1).0, no_sign s v.at (sign comma_sign (drop v.at s)) x2) tt;
          }

      module _ (m : ℕ) (x2 : FindsSign s v.at (sign comma_sign (drop v.at s)) (Some m)) where
        pub same-3 : ReadsWord s m (name (drop m s)) None → ReadsAtom read_same s at ns k b None b
        unfolding read_same
        same-3 x3 =
            record {
              long = refl;
              reads = rw ((found_sign s at (sign open_sign (drop at s)) p x0).0, (found_word s p (name (drop p s)) v x1).0, (found_sign s v.at (sign comma_sign (drop v.at s)) m x2).0, no_word s m (name (drop m s)) x3) tt;
            }

        module _ (u : Word) (x3 : ReadsWord s m (name (drop m s)) (Some u)) where
          pub same-4 : FindsSign s u.at (sign close_sign (drop u.at s)) None → ReadsAtom read_same s at ns k b None b
          unfolding read_same
          same-4 x4 =
              record {
                long = refl;
                reads = rw ((found_sign s at (sign open_sign (drop at s)) p x0).0, (found_word s p (name (drop p s)) v x1).0, (found_sign s v.at (sign comma_sign (drop v.at s)) m x2).0, (found_word s m (name (drop m s)) u x3).0, no_sign s u.at (sign close_sign (drop u.at s)) x4) tt;
              }

          pub same_read : (c : ℕ) → FindsSign s u.at (sign close_sign (drop u.at s)) (Some c) → (a : List ℕ) → Stored b (put b k 8 (level ns v.value) (level ns u.value)) a → ReadsAtom read_same s at ns k b (Some (record { at = c; count = k + 1 })) a
          unfolding read_same emit
          same_read c x4 a w =
              let g0 = found_sign s at (sign open_sign (drop at s)) p x0 in
              let g1 = found_word s p (name (drop p s)) v x1 in
              let g2 = found_sign s v.at (sign comma_sign (drop v.at s)) m x2 in
              let g3 = found_word s m (name (drop m s)) u x3 in
              let g4 = found_sign s u.at (sign close_sign (drop u.at s)) c x4 in
              let l : at + 1 ≤ c = omega (arith, g0.1, g1.1, g2.1, g3.1, g4.1) in
              record {
                long = w.long;
                reads =
                    rw (g0.0, g1.0, g2.0, g3.0, g4.0)
                    (record { ahead = omega arith; inside = g4.2; some = omega arith; rest = refl; count = omega arith; room = omega arith; table = w.answer });
              }

-- ── any of them ──
module _ (s : List ℕ) (at : ℕ) (ns : List ℕ) (k : ℕ) (b : List ℕ) where
  pub atom_same : (r : Option Reading) (a : List ℕ) (p : ℕ) → FindsSign s at (sign same_sign (drop at s)) (Some p) → ReadsAtom read_same s p ns k b r a → ReadsAtom read_atom s at ns k b r a
  unfolding read_atom
  atom_same r a p x0 z =
      let g = found_sign s at (sign same_sign (drop at s)) p x0 in
      record { long = z.long; reads = rw g.0 (earlier size (emit b k ns) s p k at (omega (arith, g.1)) (read_same (drop p s)) r a z.reads) }

  module _ (x0 : FindsSign s at (sign same_sign (drop at s)) None) where
    pub atom_none : ReadsWord s at (name (drop at s)) None → ReadsAtom read_atom s at ns k b None b
    unfolding read_atom
    atom_none x1 = record { long = refl; reads = rw (no_sign s at (sign same_sign (drop at s)) x0, no_word s at (name (drop at s)) x1) tt }

    module _ (v : Word) (x1 : ReadsWord s at (name (drop at s)) (Some v)) (r : Option Reading) (a : List ℕ) where
      pub atom_pair : FindsSign s v.at (sign open_sign (drop v.at s)) None → ReadsAtom (read_pair v.value) s v.at ns k b r a → ReadsAtom read_atom s at ns k b r a
      unfolding read_atom
      atom_pair x2 z =
          let g = found_word s at (name (drop at s)) v x1 in
          record { long = z.long; reads = rw (no_sign s at (sign same_sign (drop at s)) x0, g.0, no_sign s v.at (sign open_sign (drop v.at s)) x2) (earlier size (emit b k ns) s v.at k at (omega (arith, g.1)) (read_pair v.value (drop v.at s)) r a z.reads) }

      pub atom_has : (q : ℕ) → FindsSign s v.at (sign open_sign (drop v.at s)) (Some q) → ReadsAtom (read_has v.value) s q ns k b r a → ReadsAtom read_atom s at ns k b r a
      unfolding read_atom
      atom_has q x2 z =
          let g = found_word s at (name (drop at s)) v x1 in
          let h = found_sign s v.at (sign open_sign (drop v.at s)) q x2 in
          record { long = z.long; reads = rw (no_sign s at (sign same_sign (drop at s)) x0, g.0, h.0) (earlier size (emit b k ns) s q k at (omega (arith, g.1, h.1)) (read_has v.value (drop q s)) r a z.reads) }

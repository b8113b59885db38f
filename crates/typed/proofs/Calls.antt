-- What each call in the cycle asks: that the unread text is shorter or the level lower, and that there is room.
use Prim.Native.Nat.{ℕ, zero, suc, ◌+◌, ◌-◌, ◌*◌, ◌<◌, ◌≤◌}
use mathlib.Core.Path.{◌≡◌, refl, ◌∙◌}
use mathlib.Core.Option.{Option as Maybe, none}
use mathlib.Core.List.{List}
use native.Mathlib.Omega.{arith}
use lib.ListN.{length, drop}
use Rattle.std.specs.Prelude.{Some}
use Rattle.signs.specs.Signs.{Got, sign}
use Rattle.atoms.specs.Tree.{Tree}
use Rattle.signs.specs.Finding.{FindsSign, Behind, Repeated, Runs}
use Rattle.typed.specs.Parsing.{Begins, ReadsRule, ReadsMore}
use Rattle.signs.specs.declared.Run.{Run}
use Rattle.atoms.specs.declared.Reading.{Reading}
use Rattle.signs.proofs.Told.{found_sign}
use Rattle.signs.proofs.Repeats.{marked_far}
use Rattle.typed.proofs.Answers.{rule_place, more_place}

-- a reader that goes on at place p with n nodes, at level j of the grammar, below the measure t
pub record Next (text : List ℕ) (p : ℕ) (ns : List ℕ) (d n : ℕ) (m : List ℕ) (j t : ℕ) : Type 0 where
  pub less : 5 * (length text - p) + j < t
  pub begins : Begins text p ns d n m
  pub many : n ≤ 16384

module _ {text : List ℕ} {p : ℕ} {ns : List ℕ} {d n : ℕ} {m : List ℕ} {j t : ℕ} (z : Next text p ns d n m j t) where
  pub asks : (5 * (length text - p) + j < t) × Begins text p ns d n m
  asks = (z.less, z.begins)

  pub asks_some : 1 ≤ n → (5 * (length text - p) + j < t) × (Begins text p ns d n m × (1 ≤ n))
  asks_some h = (z.less, (z.begins, h))

go_on : (text : List ℕ) (at : ℕ) (ns : List ℕ) (d k : ℕ) (b : List ℕ) → Begins text at ns d k b → (j t p n : ℕ) (l m : List ℕ) → 5 * (length text - p) + j < t → p ≤ length text → n ≤ 4 * p → length l ≡ length ns → length m ≡ length b → Next text p l d n m j t
go_on text at ns d k b y j t p n l m h i f e g =
    record {
      less = h;
      begins = record { inside = i; short = y.short; few = f; bound = y.bound; names = e ∙ y.names; whole = omega (arith, y.whole) };
      many = omega (arith, y.short);
    }

run_inside : (text w : List ℕ) (at c p : ℕ) → at ≤ length text → Repeated text w at c p → p ≤ length text
run_inside text w at zero p h s = omega (arith, s)
run_inside text w at (suc c) p h s = s.4

pub rule_some : (text : List ℕ) (at : ℕ) (ns : List ℕ) (d k : ℕ) (b : List ℕ) (r : Reading) (a l : List ℕ) (g : ℕ → List ℕ → Got Tree) (lvl : ℕ) → ReadsRule g lvl text at ns d k b (Some r) a l → 1 ≤ r.count
rule_some text at ns d k b r a l g lvl x = (rule_place text at ns d k b r a l g lvl x).some

module _ (text : List ℕ) (at : ℕ) (ns : List ℕ) (d k : ℕ) (b : List ℕ) (y : Begins text at ns d k b) where
  -- behind spaces and LFs
  pub skipped : (p : ℕ) → Behind text at p → Begins text p ns d k b
  skipped p x =
      record { inside = x.inside; short = y.short; few = omega (arith, x.ahead, y.few); bound = y.bound; names = y.names; whole = y.whole }

  -- behind a sign that is repeated
  module _ (w : List ℕ) (most : ℕ) (run : Run) (s : Runs text w at most run) where
    pub behind_run : (at + run.count ≤ run.at) × (run.at ≤ length text)
    behind_run = (marked_far text w at run.count run.at s.marked, run_inside text w at run.count run.at y.inside s.marked.marks)

    pub run_over : 4097 ≤ most → sign w (drop run.at text) ≡ none
    run_over h = s.ended (omega (arith, behind_run.0, behind_run.1, y.short))

  module _ (l t : ℕ) (e : 5 * (length text - at) + l ≡ t) where
    pub after_run : (w : List ℕ) (most : ℕ) (run : Run) → Runs text w at most run → (j : ℕ) → j < l → Next text run.at ns d k b j t
    after_run w most run s j h =
        let g = behind_run w most run s in
        go_on text at ns d k b y j t run.at k ns b (omega (arith, g.0, g.1)) g.1 (omega (arith, g.0, y.few)) refl refl

    pub after_skip : (q : ℕ) → Behind text at q → (w : List ℕ) (most : ℕ) (run : Run) → Runs text w q most run → (j : ℕ) → j < l → Next text run.at ns d k b j t
    after_skip q x w most run s j h =
        let f : q + run.count ≤ run.at = marked_far text w q run.count run.at s.marked in
        let i : run.at ≤ length text = run_inside text w q run.count run.at x.inside s.marked.marks in
        go_on text at ns d k b y j t run.at k ns b (omega (arith, x.ahead)) i (omega (arith, x.ahead, y.few)) refl refl

    pub in_run : (w : List ℕ) (most : ℕ) (run : Run) → Runs text w at most run → (run.count ≡ 0 → ⊥) → (j : ℕ) → j < 5 → Next text run.at ns d k b j t
    in_run w most run s i j h =
        let g = behind_run w most run s in
        go_on text at ns d k b y j t run.at k ns b (omega (arith, g.0, g.1, i)) g.1 (omega (arith, g.0, y.few)) refl refl

    -- behind signs and an operand
    module _ (w : List ℕ) (most : ℕ) (run : Run) (s : Runs text w at most run) where
      module _ (g : ℕ → List ℕ → Got Tree) (lvl : ℕ) (r : Reading) (m l1 : List ℕ) (x : ReadsRule g lvl text run.at ns d k b (Some r) m l1) where
        pub behind_part : (run.count ≡ 0 → ⊥) → (j : ℕ) → j < 5 → Next text r.at l1 d r.count m j t
        behind_part o j h =
            let f = behind_run w most run s in
            let z = rule_place text run.at ns d k b r m l1 g lvl x in
            go_on text at ns d k b y j t r.at r.count l1 m (omega (arith, z.ahead, z.inside, f.0, o)) z.inside (omega (arith, z.room, y.few, f.0)) x.room x.long

      module _ (g : ℕ → List ℕ → Got (List Tree)) (ww : List Tree → ℕ) (ee : List ℕ → ℕ → List ℕ → List Tree → List ℕ) (r1 : Reading) (m1 l1 : List ℕ) (x1 : ReadsMore g ww ee text run.at ns d k b (Some r1) m1 l1) where
        pub behind_ands : 1 ≤ l → Next text r1.at l1 d r1.count m1 0 t
        behind_ands h =
            let f = behind_run w most run s in
            let z = more_place text run.at ns d k b r1 m1 l1 g ww ee x1 in
            go_on text at ns d k b y 0 t r1.at r1.count l1 m1 (omega (arith, z.ahead, z.inside, f.0)) z.inside (omega (arith, z.room, y.few, f.0)) x1.room x1.long

        module _ (g2 : ℕ → List ℕ → Got (List Tree)) (w2 : List Tree → ℕ) (e2 : List ℕ → ℕ → List ℕ → List Tree → List ℕ) (r2 : Reading) (m2 l2 : List ℕ) (x2 : ReadsMore g2 w2 e2 text r1.at l1 d r1.count m1 (Some r2) m2 l2) where
          pub behind_closed : (o2 : Maybe (List ℕ)) (p : ℕ) → FindsSign text r2.at o2 (Some p) → (j : ℕ) → j < 5 → Next text p l2 d r2.count m2 j t
          behind_closed o2 p x3 j h =
              let f = behind_run w most run s in
              let z1 = more_place text run.at ns d k b r1 m1 l1 g ww ee x1 in
              let z2 = more_place text r1.at l1 d r1.count m1 r2 m2 l2 g2 w2 e2 x2 in
              let q = found_sign text r2.at o2 p x3 in
              go_on text at ns d k b y j t p r2.count l2 m2 (omega (arith, z1.ahead, z2.ahead, q.1, q.2, f.0)) q.2 (omega (arith, z1.room, z2.room, y.few, f.0, q.1)) (x2.room ∙ x1.room) (x2.long ∙ x1.long)

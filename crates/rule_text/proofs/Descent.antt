-- The text of a node from those of its children.
use Prim.Native.Nat.{ℕ, suc, ◌+◌, ◌*◌, ◌<◌, ◌≤◌}
use mathlib.Core.Path.{◌≡◌, refl, sym, ap, ap₂, ◌∙◌}
use mathlib.Core.List.{List, [], ◌∷◌, ◌++◌}
use native.Mathlib.Omega.{arith}
use native.Mathlib.Numerals.{add-one}
use lib.ListN.{length, length-append}
use Rattle.output.specs.Output.{Appends}
use Rattle.output.proofs.Output.{appends_more, appends_same}
use Rattle.rules.specs.Formula.{Formula}
use Rattle.rules.specs.Parts.{label_count}
use Rattle.rules.specs.Labels.{LabelsOk}
use Rattle.rules.specs.Table.{node_at, formula_at, AtomOk}
use Rattle.rules.specs.declared.Node.{Node}
use Rattle.rules.proofs.Formulas.{good_room, and_left_child, and_right_child, not_child, some_child, some_variable, atom_fields, by_atom, op_pair_lem, formula-and, formula_not, formula_some, formula-has}
use Rattle.levels.specs.Levels.{Levels, binds}
use Rattle.levels.specs.Carried.{levels_of}
use Rattle.levels.specs.declared.VarLevels.{VarLevels}
use Rattle.spelling.specs.Written.{write}
use Rattle.spelling.proofs.Weights.{write_append}
use Rattle.rule_text.specs.Text.{atom_of, some_text, Ready}
use Rattle.rule_text.proofs.Spelling.{atom_has, atom_op}

-- ── texts in parts ──
module _ (d : ℕ) (e : Levels) where
  both_text : (f g : Formula) → (40 ∷ []) ++ (write d e f [] ++ ((38 ∷ []) ++ (write d e g [] ++ (41 ∷ [])))) ≡ write d e (Formula.both f g) []
  unfolding write
  both_text f g =
      sym (ap (λ (l : List ℕ). 40 ∷ l)
      (write_append f d e (38 ∷ write d e g (41 ∷ [])) ∙ ap (λ (l : List ℕ). write d e f [] ++ (38 ∷ l)) (write_append g d e (41 ∷ []))))

  neg_text : (f : Formula) → (33 ∷ []) ++ write d e f [] ≡ write d e (Formula.neg f) []
  unfolding write
  neg_text f = refl

  some_text_lem : (v : ℕ) (f : Formula) → some_text d ++ (write (suc d) (binds e v d) f [] ++ (41 ∷ [])) ≡ write d e (Formula.exists v f) []
  unfolding write
  some_text_lem v f = sym (ap (λ (l : List ℕ). some_text d ++ l) (write_append f (suc d) (binds e v d) (41 ∷ [])))

-- ── a node that was looked up ──
module _ (file : List ℕ) (p n d : ℕ) (lv : VarLevels) (out : List ℕ) (at : ℕ) (r : Ready file p n d lv out at) (x : Node) (e : x ≡ node_at file p n) where
  abbrev text : ℕ → List ℕ
  text c = write d (levels_of lv) (formula_at file p c) []

  pub node_inside : p + 3 * n + 2 < length file
  node_inside = good_room file p n r.good

  module _ (k : x.kind ≡ 1) where
    and_is : (40 ∷ []) ++ (text x.a ++ ((38 ∷ []) ++ (text x.b ++ (41 ∷ [])))) ≡ text n
    and_is = both_text d (levels_of lv) (formula_at file p x.a) (formula_at file p x.b) ∙ ap (λ (f : Formula). write d (levels_of lv) f []) (sym (formula-and file p n x e r.good k))

    and-long : length (text n) ≡ 3 + length (text x.a) + length (text x.b)
    and-long =
        let a = length-append (text x.a) ((38 ∷ []) ++ (text x.b ++ (41 ∷ []))) in
        let b = length-append (text x.b) (41 ∷ []) in
        omega (arith, ap length and_is)

    pub and_open : at + 1 ≤ length out
    and_open = omega (arith, and-long, r.room)

    module _ (o1 : List ℕ) (p1 : ℕ) (w1 : Appends out at (40 ∷ []) o1 p1) where
      pub and_left : (t : ℕ) → n ≡ t → (x.a < t) × Ready file p x.a d lv o1 p1
      and_left t q =
          let c = and_left_child file p n x e r.good t q k in
          (c.0, record { good = c.1; labels = r.labels; deep = omega (arith, r.deep, c.0); room = omega (arith, and-long, r.room, w1.end, w1.long) })

      module _ (o2 : List ℕ) (p2 : ℕ) (w2 : Appends o1 p1 (text x.a) o2 p2) where
        pub and_sign_lem : p2 + 1 ≤ length o2
        and_sign_lem = omega (arith, and-long, r.room, w1.end, w1.long, w2.end, w2.long)

        module _ (o3 : List ℕ) (p3 : ℕ) (w3 : Appends o2 p2 (38 ∷ []) o3 p3) where
          pub and_right : (t : ℕ) → n ≡ t → (x.b < t) × Ready file p x.b d lv o3 p3
          and_right t q =
              let c = and_right_child file p n x e r.good t q k in
              (c.0, record { good = c.1; labels = r.labels; deep = omega (arith, r.deep, c.0); room = omega (arith, and-long, r.room, w1.end, w1.long, w2.end, w2.long, w3.end, w3.long) })

          module _ (o4 : List ℕ) (p4 : ℕ) (w4 : Appends o3 p3 (text x.b) o4 p4) where
            pub and_close : p4 + 1 ≤ length o4
            and_close = omega (arith, and-long, r.room, w1.end, w1.long, w2.end, w2.long, w3.end, w3.long, w4.end, w4.long)

            pub and_written : (o5 : List ℕ) (p5 : ℕ) → Appends o4 p4 (41 ∷ []) o5 p5 → Appends out at (text n) o5 p5
            and_written o5 p5 w5 =
                appends_same out o5 _ _ at p5 and_is
                (appends_more out o1 o5 (40 ∷ []) (text x.a ++ ((38 ∷ []) ++ (text x.b ++ (41 ∷ [])))) at p1 p5 w1
                (appends_more o1 o2 o5 (text x.a) ((38 ∷ []) ++ (text x.b ++ (41 ∷ []))) p1 p2 p5 w2
                (appends_more o2 o3 o5 (38 ∷ []) (text x.b ++ (41 ∷ [])) p2 p3 p5 w3 (appends_more o3 o4 o5 (text x.b) (41 ∷ []) p3 p4 p5 w4 w5))))

  module _ (k : x.kind ≡ 2) where
    not_is : (33 ∷ []) ++ text x.a ≡ text n
    not_is = neg_text d (levels_of lv) (formula_at file p x.a) ∙ ap (λ (f : Formula). write d (levels_of lv) f []) (sym (formula_not file p n x e r.good k))

    pub not_open : at + 1 ≤ length out
    not_open = omega (arith, ap length not_is, r.room)

    module _ (o1 : List ℕ) (p1 : ℕ) (w1 : Appends out at (33 ∷ []) o1 p1) where
      pub not_inner : (t : ℕ) → n ≡ t → (x.a < t) × Ready file p x.a d lv o1 p1
      not_inner t q =
          let c = not_child file p n x e r.good t q k in
          (c.0, record { good = c.1; labels = r.labels; deep = omega (arith, r.deep, c.0); room = omega (arith, ap length not_is, r.room, w1.end, w1.long) })

      pub not_written : (o2 : List ℕ) (p2 : ℕ) → Appends o1 p1 (text x.a) o2 p2 → Appends out at (text n) o2 p2
      not_written o2 p2 w2 = appends_same out o2 _ _ at p2 not_is (appends_more out o1 o2 (33 ∷ []) (text x.a) at p1 p2 w1 w2)

  module _ (k : x.kind ≡ 3) where
    abbrev inner : List ℕ
    inner = write (suc d) (binds (levels_of lv) x.a d) (formula_at file p x.b) []

    some_is : some_text d ++ (inner ++ (41 ∷ [])) ≡ text n
    some_is = some_text_lem d (levels_of lv) x.a (formula_at file p x.b) ∙ ap (λ (f : Formula). write d (levels_of lv) f []) (sym (formula_some file p n x e r.good k))

    some_long : length (text n) ≡ 10 + length inner
    some_long = let a = length-append inner (41 ∷ []) in omega (arith, ap length some_is)

    pub some_open : at + 9 ≤ length out
    some_open = omega (arith, some_long, r.room)

    pub some_bound : x.a < 4
    some_bound = some_variable file p n x e r.good k

    module _ (o1 : List ℕ) (p1 : ℕ) (w1 : Appends out at (some_text d) o1 p1) (lv2 : VarLevels) (el : levels_of lv2 ≡ binds (levels_of lv) x.a d) where
      same_inner : write (d + 1) (levels_of lv2) (formula_at file p x.b) [] ≡ inner
      same_inner = ap₂ (λ (i : ℕ) (l : Levels). write i l (formula_at file p x.b) []) (add-one d) el

      pub some_inner : (t : ℕ) → n ≡ t → (x.b < t) × Ready file p x.b (d + 1) lv2 o1 p1
      some_inner t q =
          let c = some_child file p n x e r.good t q k in
          (c.0, record { good = c.1; labels = r.labels; deep = omega (arith, r.deep, c.0); room = omega (arith, some_long, ap length same_inner, r.room, w1.end, w1.long) })

      module _ (o2 : List ℕ) (p2 : ℕ) (w2 : Appends o1 p1 (write (d + 1) (levels_of lv2) (formula_at file p x.b) []) o2 p2) where
        pub some_close : p2 + 1 ≤ length o2
        some_close = omega (arith, some_long, ap length same_inner, r.room, w1.end, w1.long, w2.end, w2.long)

        pub some_written : (o3 : List ℕ) (p3 : ℕ) → Appends o2 p2 (41 ∷ []) o3 p3 → Appends out at (text n) o3 p3
        some_written o3 p3 w3 =
            appends_same out o3 _ _ at p3 some_is
            (appends_more out o1 o3 (some_text d) (inner ++ (41 ∷ [])) at p1 p3 w1
            (appends_more o1 o2 o3 inner (41 ∷ []) p1 p2 p3 (appends_same o1 o2 _ _ p1 p2 same_inner w2) w3))

  module _ (n1 : x.kind ≡ 1 → ⊥) (n2 : x.kind ≡ 2 → ⊥) (n3 : x.kind ≡ 3 → ⊥) where
    atom_is : write 0 (levels_of lv) (atom_of file x) [] ≡ text n
    unfolding write
    atom_is =
        let o = atom_fields file p n x e r.good n1 n2 n3 in
        let w : Formula → List ℕ = λ f. write d (levels_of lv) f [] in
        by_atom file p n x e r.good n1 n2 n3
        (λ k. atom_has file x (levels_of lv) k ∙ ap w (sym (formula-has file p n x e r.good k)))
        (λ n4 f. atom_op file x (levels_of lv) _ (op_pair_lem x.kind (omega (arith, o.low)) o.high) ∙ ap w (sym f))

    pub atom_ready : (AtomOk (label_count file) x × LabelsOk file (label_count file)) × (at + length (write 0 (levels_of lv) (atom_of file x) []) ≤ length out)
    atom_ready = ((atom_fields file p n x e r.good n1 n2 n3, r.labels), omega (arith, ap length atom_is, r.room))

    pub atom_written : (o : List ℕ) (q : ℕ) → Appends out at (write 0 (levels_of lv) (atom_of file x) []) o q → Appends out at (text n) o q
    atom_written o q w = appends_same out o _ _ at q atom_is w

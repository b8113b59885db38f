-- The texts of names and of nodes without children.
use Prim.Native.Nat.{ℕ, zero, suc, ◌+◌, ◌≤◌}
use mathlib.Core.Path.{◌≡◌, refl, sym, ap, ap₂, ◌∙◌}
use mathlib.Core.List.{List, [], ◌∷◌, ◌++◌}
use native.Mathlib.Omega.{arith}
use lib.ListN.{length, length-append}
use Rattle.output.specs.Output.{Appends}
use Rattle.output.proofs.Output.{appends_more, appends_same}
use Rattle.labels.specs.Label.{label_of, text}
use Rattle.labels.specs.declared.Label.{Label}
use Rattle.labels.proofs.Same.{text_of}
use Rattle.rules.specs.Formula as Formula
use Rattle.rules.specs.Parts.{label_count}
use Rattle.rules.specs.Labels.{label_bytes, LabelsOk}
use Rattle.rules.specs.Table.{Op, op_of, shape, AtomOk}
use Rattle.rules.specs.declared.Node.{Node}
use Rattle.levels.specs.Levels.{Levels}
use Rattle.typed_grammar.specs.Text.{letter}
use Rattle.spelling.specs.Written.{write}
use Rattle.rule_text.specs.Text.{atom_of, has_text, same_text, sign_text, some_text}

-- ── names ──
pub letter_else : (d : ℕ) → (d ≡ 0 → ⊥) → (d ≡ 1 → ⊥) → (d ≡ 2 → ⊥) → 68 ≡ letter d
letter_else zero a b c = absurd (a refl)
letter_else (suc zero) a b c = absurd (b refl)
letter_else (suc (suc zero)) a b c = absurd (c refl)
letter_else (suc (suc (suc d))) a b c = refl

pub some_written : (a b : List ℕ) (at r d c : ℕ) → c ≡ letter d → Appends a at (40 ∷ 101 ∷ 120 ∷ 105 ∷ 115 ∷ 116 ∷ 32 ∷ c ∷ 46 ∷ []) b r → Appends a at (some_text d) b r
some_written a b at r d c e x = appends_same a b _ _ at r (ap (λ (i : ℕ). 40 ∷ 101 ∷ 120 ∷ 105 ∷ 115 ∷ 116 ∷ 32 ∷ i ∷ 46 ∷ []) e) x

-- ── `A('TEST')` ──
module _ (file : List ℕ) (n : ℕ) (l : Label) (e : l ≡ label_of (label_bytes file n)) where
  bytes_said : text l ≡ label_bytes file n
  bytes_said = ap text e ∙ text_of (label_bytes file n)

  pub has_written : (a b c o : List ℕ) (at q r s x : ℕ) → Appends a at (x ∷ 40 ∷ 39 ∷ []) b q → Appends b q (text l) c r → Appends c r (39 ∷ 41 ∷ []) o s → Appends a at (has_text x (label_bytes file n)) o s
  has_written a b c o at q r s x u v w =
      appends_more a b o (x ∷ 40 ∷ 39 ∷ []) (label_bytes file n ++ (39 ∷ 41 ∷ [])) at q s u
      (appends_more b c o (label_bytes file n) (39 ∷ 41 ∷ []) q r s (appends_same b c _ _ q r bytes_said v) w)

  pub has_inside : (a b : List ℕ) (at q x : ℕ) → at + length (has_text x (label_bytes file n)) ≤ length a → Appends a at (x ∷ 40 ∷ 39 ∷ []) b q → q + length (text l) ≤ length b
  has_inside a b at q x h u =
      let k = length-append (label_bytes file n) (39 ∷ 41 ∷ []) in
      let m = ap length bytes_said in
      omega (arith, u.end, u.long)

  pub has_end : (a b c : List ℕ) (at q r x : ℕ) → at + length (has_text x (label_bytes file n)) ≤ length a → Appends a at (x ∷ 40 ∷ 39 ∷ []) b q → Appends b q (text l) c r → r + 2 ≤ length c
  has_end a b c at q r x h u v =
      let k = length-append (label_bytes file n) (39 ∷ 41 ∷ []) in
      let m = ap length bytes_said in
      omega (arith, u.end, u.long, v.end, v.long)

-- ── a node without children ──
module _ (file : List ℕ) (x : Node) (e : Levels) where
  pub atom_op : (o : Op) → op_of x.kind ≡ o → write 0 e (atom_of file x) [] ≡ write 0 e (shape file o x.a x.b (λ c. Formula.pair Formula.same 0 0)) []
  atom_op o q = ap (λ (i : Op). write 0 e (shape file i x.a x.b (λ c. Formula.pair Formula.same 0 0)) []) q

  by_op : (k : ℕ) → x.kind ≡ k → write 0 e (atom_of file x) [] ≡ write 0 e (shape file (op_of k) x.a x.b (λ c. Formula.pair Formula.same 0 0)) []
  by_op k q = atom_op (op_of k) (ap op_of q)

  pub atom_has : x.kind ≡ 4 → write 0 e (atom_of file x) [] ≡ has_text (letter (e x.a)) (label_bytes file x.b)
  unfolding write
  atom_has q = by_op 4 q

  pub atom_before : x.kind ≡ 5 → write 0 e (atom_of file x) [] ≡ sign_text 60 (letter (e x.a)) (letter (e x.b))
  unfolding write
  atom_before q = by_op 5 q

  pub atom_overlaps : x.kind ≡ 6 → write 0 e (atom_of file x) [] ≡ sign_text 111 (letter (e x.a)) (letter (e x.b))
  unfolding write
  atom_overlaps q = by_op 6 q

  pub atom_includes : x.kind ≡ 7 → write 0 e (atom_of file x) [] ≡ sign_text 105 (letter (e x.a)) (letter (e x.b))
  unfolding write
  atom_includes q = by_op 7 q

  pub atom_same : AtomOk (label_count file) x → (x.kind ≡ 4 → ⊥) → (x.kind ≡ 5 → ⊥) → (x.kind ≡ 6 → ⊥) → (x.kind ≡ 7 → ⊥) → write 0 e (atom_of file x) [] ≡ same_text (letter (e x.a)) (letter (e x.b))
  unfolding write
  atom_same o n4 n5 n6 n7 = by_op 8 (omega (arith, o.low, o.high))

  module _ (out after : List ℕ) (at r a : ℕ) (ea : a ≡ letter (e x.a)) where
    pub wrote_has : x.kind ≡ 4 → Appends out at (has_text a (label_bytes file x.b)) after r → Appends out at (write 0 e (atom_of file x) []) after r
    wrote_has q w = appends_same out after _ _ at r (ap (λ (i : ℕ). has_text i (label_bytes file x.b)) ea ∙ sym (atom_has q)) w

    module _ (b : ℕ) (eb : b ≡ letter (e x.b)) where
      pub wrote_before : x.kind ≡ 5 → Appends out at (sign_text 60 a b) after r → Appends out at (write 0 e (atom_of file x) []) after r
      wrote_before q w = appends_same out after _ _ at r (ap₂ (λ (i : ℕ) (j : ℕ). sign_text 60 i j) ea eb ∙ sym (atom_before q)) w

      pub wrote_overlaps : x.kind ≡ 6 → Appends out at (sign_text 111 a b) after r → Appends out at (write 0 e (atom_of file x) []) after r
      wrote_overlaps q w = appends_same out after _ _ at r (ap₂ (λ (i : ℕ) (j : ℕ). sign_text 111 i j) ea eb ∙ sym (atom_overlaps q)) w

      pub wrote_includes : x.kind ≡ 7 → Appends out at (sign_text 105 a b) after r → Appends out at (write 0 e (atom_of file x) []) after r
      wrote_includes q w = appends_same out after _ _ at r (ap₂ (λ (i : ℕ) (j : ℕ). sign_text 105 i j) ea eb ∙ sym (atom_includes q)) w

      pub wrote_same : AtomOk (label_count file) x → (x.kind ≡ 4 → ⊥) → (x.kind ≡ 5 → ⊥) → (x.kind ≡ 6 → ⊥) → (x.kind ≡ 7 → ⊥) → Appends out at (same_text a b) after r → Appends out at (write 0 e (atom_of file x) []) after r
      wrote_same o n4 n5 n6 n7 w = appends_same out after _ _ at r (ap₂ same_text ea eb ∙ sym (atom_same o n4 n5 n6 n7)) w

  -- room for each
  module _ (out : List ℕ) (at : ℕ) (h : at + length (write 0 e (atom_of file x) []) ≤ length out) where
    pub room_has : (a : ℕ) → AtomOk (label_count file) x → LabelsOk file (label_count file) → x.kind ≡ 4 → LabelsOk file (x.b + 1) × (at + length (has_text a (label_bytes file x.b)) ≤ length out)
    room_has a o l q = (λ i k. l i (omega (arith, o.place q)), omega (arith, ap length (atom_has q)))

    pub room_before : x.kind ≡ 5 → at + 5 ≤ length out
    room_before q = omega (arith, ap length (atom_before q))

    pub room_overlaps : x.kind ≡ 6 → at + 5 ≤ length out
    room_overlaps q = omega (arith, ap length (atom_overlaps q))

    pub room_includes : x.kind ≡ 7 → at + 5 ≤ length out
    room_includes q = omega (arith, ap length (atom_includes q))

    pub room_same : AtomOk (label_count file) x → (x.kind ≡ 4 → ⊥) → (x.kind ≡ 5 → ⊥) → (x.kind ≡ 6 → ⊥) → (x.kind ≡ 7 → ⊥) → at + 9 ≤ length out
    room_same o n4 n5 n6 n7 = omega (arith, ap length (atom_same o n4 n5 n6 n7))

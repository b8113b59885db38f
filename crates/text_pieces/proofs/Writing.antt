-- Writing into a buffer: nothing, one byte, and two pieces in a row, which are one piece.
use Prim.Native.Nat.{ℕ, ◌+◌, ◌<◌, ◌≤◌}
use mathlib.Core.Path.{◌≡◌, refl, ap, sym, ◌∙◌, subst}
use mathlib.Core.List.{List, [], ◌∷◌, ◌++◌, append_assoc}
use native.Mathlib.Omega.{arith}
use native.Mathlib.Numerals.{add-one}
use lib.ListN.{length, take, drop, set, length-append, take-append-drop}
use lib.Seq.{length-take-le, take_at, drop-append-add, drop-drop, set_split}
use Rattle.text_pieces.specs.Writing.{put, Writes}

pub wrote_nothing : (text : List ℕ) (p : ℕ) → p ≤ length text → Writes [] text p text p
unfolding put
wrote_nothing text p h =
    let e : p + 0 ≡ p = omega arith in
    record {
      within = h;
      after = sym e;
      bytes = sym (ap (λ (k : ℕ). take p text ++ drop k text) e ∙ take-append-drop p text);
    }

pub wrote_byte : (text : List ℕ) (p b : ℕ) → p < length text → Writes (b ∷ []) text p (set text p b) (p + 1)
unfolding put
wrote_byte text p b h =
    record {
      within = omega arith;
      after = refl;
      bytes = set_split text p b h ∙ ap (λ (k : ℕ). take p text ++ (b ∷ drop k text)) (sym (add-one p));
    }

put-more : (s s' text : List ℕ) (p : ℕ) → p ≤ length text → put (put text p s) (p + length s) s' ≡ put text p (s ++ s')
unfolding put
put-more s s' text p h =
    let a : List ℕ = take p text in
    let q : ℕ = p + length s in
    let d : List ℕ = drop q text in
    let n : length (a ++ s) ≡ q = length-append a s ∙ ap (λ (k : ℕ). k + length s) (length-take-le p text h) in
    let m : q + length s' ≡ p + length (s ++ s') = omega (arith, length-append s s') in
    let e : a ++ (s ++ d) ≡ (a ++ s) ++ d = sym (append_assoc a s d) in
    let f : take q (a ++ (s ++ d)) ≡ a ++ s = ap (take q) e ∙ take_at (a ++ s) d q n in
    let g : drop (q + length s') (a ++ (s ++ d)) ≡ drop (p + length (s ++ s')) text =
    ap (drop (q + length s')) e
    ∙ (ap (λ (k : ℕ). drop (k + length s') ((a ++ s) ++ d)) (sym n)
    ∙ (drop-append-add (a ++ s) d (length s') ∙ (drop-drop (length s') q text ∙ ap (λ (k : ℕ). drop k text) m))) in
    (λ i. f i ++ (s' ++ g i)) ∙ (append_assoc a s _ ∙ ap (λ (z : List ℕ). a ++ z) (sym (append_assoc s s' _)))

module _ {s text text₁ : List ℕ} {p q : ℕ} where
  -- THE LAW: two pieces in a row are one piece
  pub then : {s' text₂ : List ℕ} {r : ℕ} → Writes s text p text₁ q → Writes s' text₁ q text₂ r → Writes (s ++ s') text p text₂ r
  then {s'} {text₂} {r} a b =
      record {
        within = a.within;
        after = omega (arith, a.after, b.after, length-append s s');
        bytes = b.bytes ∙ ((λ i. put (a.bytes i) (a.after i) s') ∙ put-more s s' text p a.within);
      }

  pub writes_same : {s' : List ℕ} → s ≡ s' → Writes s text p text₁ q → Writes s' text p text₁ q
  writes_same e a = subst (λ (x : List ℕ). Writes x text p text₁ q) e a

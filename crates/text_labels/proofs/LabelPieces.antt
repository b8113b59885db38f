-- Labels as pieces of the text: where one ends, two compared, one looked for in a list.
use Prim.Native.Nat.{ℕ, zero, suc, ◌+◌, ◌-◌, ◌<◌, ◌≤◌}
use mathlib.Core.Path.{◌≡◌, refl, sym, ap, ap₂, subst, ◌∙◌}
use mathlib.Core.Bool.{Bool, true, false, not, ◌&&◌, cond}
use mathlib.Core.List.{List, [], ◌∷◌, ◌++◌, append_assoc}
use native.Mathlib.Omega.{arith}
use native.Mathlib.Numerals.{add-one, one-add}
use lib.Dec.{eqb}
use lib.ListN.{length, get_or, take, drop, length-drop, length-take, length-map, drop_of_length-le, get_or-eq_default}
use lib.Seq.{take-suc, drop-cons, get_or-drop}
use borrow.Author.Tests.{eq-eqb, ne_eqb, lt-ltb, le-ltb}
use Rattle.std.specs.Prelude.{Option, position, unwrap_or}
use Rattle.std.specs.List.{list_all, position_or_len}
use Rattle.std.proofs.lemmas.List.Recursion.{is_position_or_len}
use Rattle.std.proofs.lemmas.List.Sums.{prefix_len-le-length}
use Rattle.lists.specs.Lists.{same?, up_to}
use Rattle.lists.proofs.Lists.{append-nil}
use Rattle.lists.proofs.Cases.{either_eq, either_bool, either_lt}
use Rattle.labels.specs.Label.{capital, capitals, label_form?}
use Rattle.labels.proofs.Capitals.{capital_sign}
use Rattle.typed_formula.specs.Meaning.{label_text}
use Rattle.typed_grammar.specs.File.{place_in}
use Rattle.text_labels.specs.Pieces.{EndsLabel, CutAt, Cut, texts, Finds, good_labels?}

-- ── where a label ends ──
pub record Scanned (text : List ℕ) (at p : ℕ) : Type 0 where
  pub same : up_to 39 (drop at text) ≡ take (p - at) (drop at text) ++ up_to 39 (drop p text)
  pub ahead : at ≤ p
  pub inside : p ≤ length text

pub scan_first : (text : List ℕ) (at : ℕ) → at ≤ length text → Scanned text at at
scan_first text at h = record {
  same = (let e : 0 ≡ at - at = omega arith in ap (λ (k : ℕ). take k (drop at text) ++ up_to 39 (drop at text)) e);
  ahead = omega arith;
  inside = h;
}

module _ (text : List ℕ) (at p : ℕ) (s : Scanned text at p) where
  ended : up_to 39 (drop p text) ≡ [] → EndsLabel text at p
  ended e = record {
    bytes = sym (s.same ∙ (ap (λ (l : List ℕ). take (p - at) (drop at text) ++ l) e ∙ append-nil (take (p - at) (drop at text))));
    ahead = s.ahead;
    inside = s.inside;
  }

  pub scan_end : length text ≤ p → EndsLabel text at (length text)
  scan_end h =
      let e : p ≡ length text = omega (arith, s.inside) in
      subst (EndsLabel text at) e (ended (ap (up_to 39) (drop_of_length-le text h)))

  module _ (h : p < length text) where
    pub scan-stop : get_or text p 0 ≡ 39 → EndsLabel text at p
    scan-stop e = ended (ap (up_to 39) (drop-cons text p 0 h) ∙ simp (eq-eqb (get_or text p 0) 39 e))

    pub scan_next : (get_or text p 0 ≡ 39 → ⊥) → Scanned text at (p + 1)
    scan_next n =
        let d : List ℕ = drop at text in
        let x : List ℕ = take (p - at) d in
        let b : ℕ = get_or text p 0 in
        let v : up_to 39 (b ∷ drop (suc p) text) ≡ b ∷ up_to 39 (drop (suc p) text) = simp (ne_eqb b 39 n) in
        let u : up_to 39 (drop p text) ≡ b ∷ up_to 39 (drop (p + 1) text) =
        ap (up_to 39) (drop-cons text p 0 h) ∙ (v ∙ ap (λ (k : ℕ). b ∷ up_to 39 (drop k text)) (sym (add-one p))) in
        let l : p - at < length d = omega (arith, length-drop at text, s.ahead) in
        let g : get_or d (p - at) 0 ≡ b = get_or-drop at text (p - at) 0 ∙ (let z : at + (p - at) ≡ p = omega (arith, s.ahead) in ap (λ (k : ℕ). get_or text k 0) z) in
        let k : suc (p - at) ≡ p + 1 - at = omega (arith, s.ahead) in
        let t : x ++ (b ∷ []) ≡ take (p + 1 - at) d =
        ap (λ (y : ℕ). x ++ (y ∷ [])) (sym g) ∙ (sym (take-suc d (p - at) 0 l) ∙ ap (λ (j : ℕ). take j d) k) in
        record {
          same =
              s.same ∙ (ap (λ (y : List ℕ). x ++ y) u
              ∙ (sym (append_assoc x (b ∷ []) (up_to 39 (drop (p + 1) text))) ∙ ap (λ (y : List ℕ). y ++ up_to 39 (drop (p + 1) text)) t));
          ahead = omega (arith, s.ahead);
          inside = omega arith;
        }

stands : (text : List ℕ) (from end : ℕ) → EndsLabel text from end → CutAt text (take (end - from) (drop from text)) from
stands text from end e =
    let l : length (take (end - from) (drop from text)) ≡ end - from = rw length-take (omega (arith, length-drop from text, e.ahead, e.inside)) in
    record { inside = omega (arith, l, e.ahead, e.inside); piece = ap (λ (k : ℕ). take k (drop from text)) (sym l) }

pub cut : (text : List ℕ) (n from end : ℕ) → (from ≡ length text - n) × (from ≤ length text) → EndsLabel text from end → Cut text n (take (end - from) (drop from text))
unfolding label_text
cut text n from end f e =
    let b : capitals (take (end - from) (drop from text)) ≡ label_text text n = ap capitals e.bytes ∙ ap (λ (k : ℕ). capitals (up_to 39 (drop k text))) f.0 in
    record { bytes = b; size = sym (length-map (take (end - from) (drop from text)) capital) ∙ ap length b; stands = subst (CutAt text (take (end - from) (drop from text))) f.0 (stands text from end e) }

-- ── two labels ──
pub byte_inside : (text : List ℕ) (p r : ℕ) → r ≡ capital (get_or text p 0) → p < length text → r ≡ get_or (capitals text) p 39
byte_inside [] p r e h = absurd (omega arith)
byte_inside (b ∷ s) zero r e h = e
byte_inside (b ∷ s) (suc p) r e h = byte_inside s p r e (omega arith)

pub byte_behind : (text : List ℕ) (p : ℕ) → length text ≤ p → get_or (capitals text) p 39 ≡ 39
byte_behind text p h = get_or-eq_default (capitals text) 39 (rw (length-map text capital) h)

-- none at a quote, else the byte and what follows
abbrev headed : ℕ → List ℕ → List ℕ
headed x s = cond (eqb x 39) [] (x ∷ s)

-- a label from a place on, in capitals; behind the end there is none
label_step : (text : List ℕ) (p : ℕ) → capitals (up_to 39 (drop p text)) ≡ headed (get_or (capitals text) p 39) (capitals (up_to 39 (drop (suc p) text)))
label_step [] zero = refl
label_step [] (suc p) = refl
label_step (b ∷ s) zero = rw (capital_sign b 39 (omega arith)) (either_bool (eqb b 39) (λ e. simp e) (λ e. simp e))
label_step (b ∷ s) (suc p) = label_step s p

heads_differ : (x y : ℕ) (s u : List ℕ) → (x ≡ y → ⊥) → same? (headed x s) (headed y u) ≡ false
heads_differ x y s u n =
    either_eq x 39
    (λ e. rw (eq-eqb x 39 e, ne_eqb y 39 (λ f. n (e ∙ sym f))))
    (λ m. either_eq y 39
    (λ f. rw (ne_eqb x 39 m, eq-eqb y 39 f))
    (λ k. rw (ne_eqb x 39 m, ne_eqb y 39 k, ne_eqb x y n)))

heads_end : (x y : ℕ) (s u : List ℕ) → x ≡ y → x ≡ 39 → same? (headed x s) (headed y u) ≡ true
heads_end x y s u e f = rw (eq-eqb x 39 f, eq-eqb y 39 (sym e ∙ f))

heads_same : (x y : ℕ) (s u : List ℕ) → x ≡ y → (x ≡ 39 → ⊥) → same? (headed x s) (headed y u) ≡ same? s u
heads_same x y s u e n = rw (ne_eqb x 39 n, ne_eqb y 39 (λ f. n (e ∙ f)), eq-eqb x y e)

module _ (text : List ℕ) (a b i : ℕ) where
  -- what is left of a label from a place on
  abbrev rest : ℕ → List ℕ
  rest p = capitals (up_to 39 (drop p text))

  -- the first i capitals of the two labels are the same
  pub record SameFrom : Type 0 where
    pub same : same? (rest a) (rest b) ≡ same? (rest (a + i)) (rest (b + i))

  module _ (v : SameFrom) (x y : ℕ) (ex : x ≡ get_or (capitals text) (a + i) 39) (ey : y ≡ get_or (capitals text) (b + i) 39) where
    opened_same : same? (rest a) (rest b) ≡ same? (headed x (rest (suc (a + i)))) (headed y (rest (suc (b + i))))
    opened_same =
        v.same
        ∙ ap₂ same?
        (label_step text (a + i) ∙ ap (λ (k : ℕ). headed k (rest (suc (a + i)))) (sym ex))
        (label_step text (b + i) ∙ ap (λ (k : ℕ). headed k (rest (suc (b + i)))) (sym ey))

    pub same_differ : (x ≡ y → ⊥) → false ≡ same? (rest a) (rest b)
    same_differ n = sym (opened_same ∙ heads_differ x y (rest (suc (a + i))) (rest (suc (b + i))) n)

    pub same_end : x ≡ y → x ≡ 39 → true ≡ same? (rest a) (rest b)
    same_end e f = sym (opened_same ∙ heads_end x y (rest (suc (a + i))) (rest (suc (b + i))) e f)

    same_step : x ≡ y → (x ≡ 39 → ⊥) → same? (rest a) (rest b) ≡ same? (rest (suc (a + i))) (rest (suc (b + i)))
    same_step e n = opened_same ∙ heads_same x y (rest (suc (a + i))) (rest (suc (b + i))) e n

pub same_first : (text : List ℕ) (a b : ℕ) → SameFrom text a b 0
same_first text a b =
    let e : a + 0 ≡ a = omega arith in
    let f : b + 0 ≡ b = omega arith in
    record {
      same = ap₂ (λ (j : ℕ) (k : ℕ). same? (capitals (up_to 39 (drop j text))) (capitals (up_to 39 (drop k text)))) (sym e) (sym f);
    }

pub same_next : (text : List ℕ) (a b i : ℕ) → SameFrom text a b i → (x y : ℕ) → x ≡ get_or (capitals text) (a + i) 39 → y ≡ get_or (capitals text) (b + i) 39 → x ≡ y → (x ≡ 39 → ⊥) → SameFrom text a b (i + 1)
same_next text a b i v x y ex ey e n =
    let j : suc (a + i) ≡ a + (i + 1) = omega arith in
    let k : suc (b + i) ≡ b + (i + 1) = omega arith in
    record {
      same = same_step text a b i v x y ex ey e n ∙ ap₂ (λ (p : ℕ) (q : ℕ). same? (capitals (up_to 39 (drop p text))) (capitals (up_to 39 (drop q text)))) j k;
    }

-- behind the last byte a label is at its end
pub same_out : (text : List ℕ) (a b i : ℕ) → a ≤ length text → SameFrom text a b i → length text - a ≤ i → i ≤ length text - a → (y : ℕ) → y ≡ get_or (capitals text) (b + (length text - a)) 39 → eqb y 39 ≡ same? (capitals (up_to 39 (drop a text))) (capitals (up_to 39 (drop b text)))
same_out text a b i l v h k y ey =
    let x = byte_behind text (a + i) (omega arith) in
    let q : length text - a ≡ i = omega arith in
    let z : y ≡ get_or (capitals text) (b + i) 39 = ey ∙ ap (λ (j : ℕ). get_or (capitals text) (b + j) 39) q in
    either_eq y 39
    (λ f. rw (eq-eqb y 39 f) (same_end text a b i v 39 y (sym x) z (sym f) refl))
    (λ n. rw (ne_eqb y 39 n) (same_differ text a b i v 39 y (sym x) z (λ f. n (sym f))))

pub labels_same : (text : List ℕ) (m n a b : ℕ) (r : Bool) → (a ≡ length text - m) × (a ≤ length text) → (b ≡ length text - n) × (b ≤ length text) → r ≡ same? (capitals (up_to 39 (drop a text))) (capitals (up_to 39 (drop b text))) → r ≡ same? (label_text text m) (label_text text n)
unfolding label_text
labels_same text m n a b r f g e = e ∙ ap₂ (λ (j : ℕ) (k : ℕ). same? (capitals (up_to 39 (drop j text))) (capitals (up_to 39 (drop k text)))) f.0 g.0

-- ── one label looked for ──
module _ (text : List ℕ) (x : List ℕ) where
  abbrev pub same_as : ℕ → Bool
  same_as p = same? (label_text text p) x

  number_is : (places : List ℕ) → place_in (texts text places) x ≡ position_or_len same_as places
  number_is = is_position_or_len (λ (ps : List ℕ). place_in (texts text ps) x) same_as refl (λ p ps. ap (cond (same_as p) 0) (sym (one-add (place_in (texts text ps) x))))

pub found_number : (text places : List ℕ) (n : ℕ) (o : Option ℕ) (r : ℕ) → o ≡ position (same_as text (label_text text n)) places → r ≡ unwrap_or o (length places) → Finds text places n r
found_number text places n o r e f =
    let k : ℕ = position_or_len (same_as text (label_text text n)) places in
    let g : k ≤ length places = prefix_len-le-length (λ y. not (same_as text (label_text text n) y)) places in
    let q : unwrap_or (position (same_as text (label_text text n)) places) (length places) ≡ k = either_lt k (length places) (λ h. rw (lt-ltb k (length places) h)) (λ h. rw (le-ltb k (length places) h) (omega arith)) in
    let z : r ≡ k = f ∙ (ap (λ (m : Option ℕ). unwrap_or m (length places)) e ∙ q) in
    record { number = z ∙ sym (number_is text (label_text text n) places); few = omega arith }

-- ── the form of a label ──
pub label_form : (text : List ℕ) (n : ℕ) (x : List ℕ) (r : Bool) → Cut text n x → r ≡ label_form? (capitals x) → r ≡ label_form? (label_text text n)
label_form text n x r c e = e ∙ ap label_form? c.bytes

abbrev pub label_good : List ℕ → ℕ → Bool
label_good text p = label_form? (label_text text p)

pub all_good : (text places : List ℕ) → good_labels? (texts text places) ≡ list_all (label_good text) places
all_good text [] = refl
all_good text (p ∷ ps) = ap (λ (b : Bool). label_good text p && b) (all_good text ps)

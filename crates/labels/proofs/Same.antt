-- Laws of labels: equality, and the values that hold one.
use Prim.Native.Nat.{ℕ, zero, suc, ◌+◌, ◌-◌, ◌<◌, ◌≤◌}
use mathlib.Core.Path.{◌≡◌, refl, ap, ap₂, sym, ◌∙◌}
use mathlib.Core.List.{List, [], ◌∷◌, ◌++◌}
use mathlib.Core.Bool.{Bool, true, false, ◌&&◌}
use native.Mathlib.Omega.{arith}
use native.Mathlib.Numerals.{add-one}
use lib.Dec.{eqb, leb, ltb}
use lib.ListN.{length, get_or, set, take, drop, replicate, drop_of_length-le, length-take, length-map}
use lib.Seq.{drop-cons, length-take-le, take-append_seam, take-suc, take_all}
use lib.Pointwise.{pointwise}
use borrow.Author.Tests.{eq-eqb, ne_eqb, eqb-true, le-leb, lt-leb, leb-true, lt-ltb, le-ltb}
use Rattle.std.specs.Bool.{Decides}
use Rattle.std.proofs.lemmas.Bool.Decides.{Decides-eqb}
use Rattle.std.proofs.lemmas.Slice.Eq.{slice_eq-Decides}
use Rattle.lists.specs.Lists.{pad, all?, same?}
use Rattle.lists.specs.Tells.{Tells}
use Rattle.lists.proofs.Cases.{either_eq, either_lt, either_bool, no_both, and_left, and_right}
use Rattle.lists.proofs.Lists.{same_refl, same_eq, set-pad}
use Rattle.lists.proofs.Tells.{tells}
use Rattle.labels.specs.declared.Label.{Label}
use Rattle.labels.specs.declared.LabelNo.{LabelNo}
use Rattle.labels.specs.declared.LabelTable.{LabelTable}
use Rattle.labels.specs.Label.{letter?, capital, capitals, label_no, label_of, text, no_label, equal_label?, sound_from, byte_sound, sound?}
use Rattle.labels.proofs.Capitals.{capitals_at_lem}
use Rattle.labels.proofs.Form.{label?}

-- ── equality ──
pub label_eq : (x y : Label) → equal_label? x y ≡ true → x ≡ y
unfolding equal_label?
label_eq x y e =
    either_eq x.length y.length
    (λ p. let f : same? x.bytes y.bytes ≡ true = simp (eq-eqb _ _ p) at e in
    let g = same_eq x.bytes y.bytes f in
    λ i. record { bytes = g i; length = p i })
    (λ p. let f : false ≡ true = simp (ne_eqb _ _ p) at e in no_both (sym f))

pub label_refl : (x : Label) → equal_label? x x ≡ true
unfolding equal_label?
label_refl x = simp (eq-eqb x.length x.length refl) (same_refl x.bytes)

-- what `==` computes of two labels, and of two tables
abbrev pub label_same : Label → Label → Bool
label_same x y = pointwise eqb x.bytes y.bytes && eqb x.length y.length

pub label_decides : (x y : Label) → Decides (label_same x y) (x ≡ y)
label_decides x y =
    let bytes = slice_eq-Decides Decides-eqb x.bytes y.bytes (pointwise eqb x.bytes y.bytes) refl in (
      λ e.
          let p = bytes.0 (and_left (pointwise eqb x.bytes y.bytes) (eqb x.length y.length) e) in
          let q = eqb-true _ _ (and_right (pointwise eqb x.bytes y.bytes) (eqb x.length y.length) e) in
          λ i. record { bytes = p i; length = q i },
      λ e. ap₂ ◌&&◌ (bytes.1 (ap (λ (z : Label). z.bytes) e)) (eq-eqb _ _ (ap (λ (z : Label). z.length) e)),
    )

abbrev pub place_same : LabelNo → LabelNo → Bool
place_same p q = eqb p.0 q.0

place_decides : (p q : LabelNo) → Decides (place_same p q) (p ≡ q)
place_decides p q = (λ e. ap label_no (eqb-true _ _ e), λ e. eq-eqb _ _ (ap (λ (z : LabelNo). z.0) e))

pub table_tells : (t u : LabelTable) (b : Bool) → b ≡ (pointwise label_same t.labels u.labels && (pointwise place_same t.places u.places && eqb t.count u.count))
    → Tells b (t ≡ u)
table_tells t u b e =
    let same_labels = pointwise label_same t.labels u.labels in
    let same_places = pointwise place_same t.places u.places in
    let same_count = eqb t.count u.count in
    let labels = slice_eq-Decides label_decides t.labels u.labels same_labels refl in
    let places = slice_eq-Decides place_decides t.places u.places same_places refl in
    tells (
      λ y.
          let all = sym e ∙ y in
          let rest = and_right same_labels (same_places && same_count) all in
          let p = labels.0 (and_left same_labels (same_places && same_count) all) in
          let q = places.0 (and_left same_places same_count rest) in
          let r = eqb-true _ _ (and_right same_places same_count rest) in
          λ i. record { labels = p i; places = q i; count = r i },
      λ f. e
          ∙ ap₂ ◌&&◌ (labels.1 (ap (λ (z : LabelTable). z.labels) f))
          (ap₂ ◌&&◌ (places.1 (ap (λ (z : LabelTable). z.places) f)) (eq-eqb _ _ (ap (λ (z : LabelTable). z.count) f))),
    )

-- what a comparison says of the test in the definitions
pub same_yes : (x y : Label) (b : Bool) → Tells b (x ≡ y) → b ≡ true → equal_label? x y ≡ true
same_yes x y b t e = ap (equal_label? x) (sym (t.yes e)) ∙ label_refl x

pub same_no : (x y : Label) (b : Bool) → Tells b (x ≡ y) → b ≡ false → equal_label? x y ≡ false
same_no x y b t e = either_bool (equal_label? x y) (λ q. absurd (t.no e (label_eq x y q))) (λ q. q)

-- ── values that hold a label ──
-- a label's form, byte by byte
sound_step : (n i : ℕ) (b : ℕ) (bs : List ℕ) → sound_from (n - i) (b ∷ bs) ≡ byte_sound (ltb i n) b && sound_from (n - (i + 1)) bs
unfolding sound_from
sound_step n i b bs =
    either_lt i n
    (λ h. let a : n - i ≡ suc (n - (i + 1)) = omega arith in rw a (simp (lt-ltb _ _ h)))
    (λ h.
    let a : n - i ≡ 0 = omega arith in
    let a' : n - (i + 1) ≡ 0 = omega arith in
    rw (a, a') (simp (le-ltb _ _ h)))

module _ (bs : List ℕ) (n i m : ℕ) (v l : Bool) where
  pub sound_next : v ≡ sound_from (n - i) (drop i bs) → length bs ≡ m → i < m → l ≡ byte_sound (ltb i n) (get_or bs i 0) → l ≡ true → v ≡ sound_from (n - (i + 1)) (drop (i + 1) bs)
  sound_next e long h f t =
      let h' : i < length bs = omega arith in
      let g : byte_sound (ltb i n) (get_or bs i 0) ≡ true = sym f ∙ t in
      e ∙ (ap (sound_from (n - i)) (drop-cons bs i 0 h') ∙ (sound_step n i (get_or bs i 0) (drop (suc i) bs) ∙ (ap (λ (z : Bool). z && sound_from (n - (i + 1)) (drop (suc i) bs)) g ∙ rw add-one refl)))

  pub sound_not : v ≡ sound_from (n - i) (drop i bs) → length bs ≡ m → i < m → l ≡ byte_sound (ltb i n) (get_or bs i 0) → l ≡ false → false ≡ v
  sound_not e long h f t =
      let h' : i < length bs = omega arith in
      let g : byte_sound (ltb i n) (get_or bs i 0) ≡ false = sym f ∙ t in
      sym (e ∙ (ap (sound_from (n - i)) (drop-cons bs i 0 h') ∙ (sound_step n i (get_or bs i 0) (drop (suc i) bs) ∙ ap (λ (z : Bool). z && sound_from (n - (i + 1)) (drop (suc i) bs)) g)))

  pub sound_end : v ≡ sound_from (n - i) (drop i bs) → length bs ≡ m → m ≤ i → true ≡ v
  unfolding sound_from
  sound_end e long h = let h' : length bs ≤ i = omega arith in sym (e ∙ rw (drop_of_length-le bs h'))

pub sound_start : (x : Label) → x.length ≤ 24 → sound? x ≡ sound_from (x.length - 0) x.bytes
unfolding sound?
sound_start x h = let z : x.length ≡ x.length - 0 = omega arith in simp (le-leb _ _ h) (ap (λ (n : ℕ). sound_from n x.bytes) z)

pub sound_long : (x : Label) → 24 < x.length → false ≡ sound? x
unfolding sound?
sound_long x h = simp (lt-leb _ _ h)

pub sound_is : (x : Label) → x.length ≤ 24 → sound_from x.length x.bytes ≡ sound? x
unfolding sound?
sound_is x h = simp (le-leb _ _ h)

pub sound_short : (x : Label) (s : Bool) → s ≡ sound? x → s ≡ true → x.length ≤ 24
unfolding sound?
sound_short x s e t = go (leb x.length 24) refl (sym e ∙ t)
  where
    go : (b : Bool) → leb x.length 24 ≡ b → b && sound_from x.length x.bytes ≡ true → x.length ≤ 24
    go true p q = leb-true _ _ p
    go false p q = no_both (sym q)

-- zeros are as many zeros
zeros : (bs : List ℕ) → sound_from 0 bs ≡ true → bs ≡ replicate (length bs) 0
unfolding sound_from
zeros [] e = refl
zeros (b ∷ bs) e =
    either_eq b 0
    (λ p. let f : sound_from 0 bs ≡ true = simp (eq-eqb _ _ p) at e in λ i. p i ∷ zeros bs f i)
    (λ p. let f : false ≡ true = simp (ne_eqb _ _ p) at e in no_both (sym f))

padded : (n : ℕ) (bs : List ℕ) → n ≤ length bs → sound_from n bs ≡ true → bs ≡ take n bs ++ replicate (length bs - n) 0
unfolding sound_from
padded zero bs h e = let z : length bs ≡ length bs - 0 = omega arith in zeros bs e ∙ ap (λ (n : ℕ). replicate n 0) z
padded (suc n) [] h e = absurd (omega arith)
padded (suc n) (b ∷ bs) h e =
    either_bool (letter? b)
    (λ p. let f : sound_from n bs ≡ true = simp p at e in
    let z : length bs - n ≡ length (b ∷ bs) - suc n = omega arith in
    ap (λ (l : List ℕ). b ∷ l) (padded n bs (omega arith) f) ∙ ap (λ (m : ℕ). b ∷ (take n bs ++ replicate m 0)) z)
    (λ p. let f : false ≡ true = simp p at e in no_both (sym f))

pub sound_label : (x : Label) (s : Bool) → s ≡ sound? x → s ≡ true → length x.bytes ≡ 24 → x ≡ label_of (text x)
unfolding label_of pad sound?
sound_label x s e t l =
    let h : x.length ≤ 24 = sound_short x s e t in
    let k : length (take x.length x.bytes) ≡ x.length = length-take-le x.length x.bytes (omega arith) in
    let f : sound_from x.length x.bytes ≡ true = sound_is x h ∙ (sym e ∙ t) in
    let p : x.bytes ≡ take x.length x.bytes ++ replicate (24 - length (take x.length x.bytes)) 0 =
    padded x.length x.bytes (omega arith) f ∙ ap (λ (n : ℕ). take x.length x.bytes ++ replicate n 0) (let z : length x.bytes - x.length ≡ 24 - length (take x.length x.bytes) = omega arith in z) in
    let k' : x.length ≡ length (take x.length x.bytes) = sym k in
    λ i. record { bytes = p i; length = k' i }

-- a label's bytes make such a value, and come back from it
zeros_sound : (k : ℕ) → sound_from 0 (replicate k 0) ≡ true
unfolding sound_from
zeros_sound zero = refl
zeros_sound (suc k) = zeros_sound k

letters_sound : (l : List ℕ) (k : ℕ) → all? letter? l ≡ true → sound_from (length l) (l ++ replicate k 0) ≡ true
unfolding sound_from
letters_sound [] k e = zeros_sound k
letters_sound (b ∷ l) k e =
    let p : letter? b ≡ true = and_left (letter? b) (all? letter? l) e in
    let q : all? letter? l ≡ true = and_right (letter? b) (all? letter? l) e in
    simp p (letters_sound l k q)

pub none_is_no_label : (l : List ℕ) → (label_of l).length ≡ 0 → label_of l ≡ no_label
unfolding label_of pad
none_is_no_label [] e = refl
none_is_no_label (b ∷ l) e = absurd (omega arith)

pub label_sound : (l : List ℕ) → label? l ≡ true → sound? (label_of l) ≡ true
unfolding label_of pad sound? label?
label_sound l e =
    let h : leb (length l) 24 ≡ true = and_left (leb (length l) 24) (all? letter? l) e in
    simp h (letters_sound l (24 - length l) (and_right (leb (length l) 24) (all? letter? l) e))

pub text_of : (l : List ℕ) → text (label_of l) ≡ l
unfolding label_of pad
text_of l = take-append_seam l (replicate (24 - length l) 0)

sound_letters : (n : ℕ) (bs : List ℕ) → sound_from n bs ≡ true → all? letter? (take n bs) ≡ true
unfolding sound_from
sound_letters zero bs e = refl
sound_letters (suc n) [] e = refl
sound_letters (suc n) (b ∷ bs) e = simp (and_left (letter? b) (sound_from n bs) e) (sound_letters n bs (and_right (letter? b) (sound_from n bs) e))

pub sound_text : (x : Label) → sound? x ≡ true → label? (text x) ≡ true
unfolding sound? label?
sound_text x e =
    let h : x.length ≤ 24 = leb-true x.length 24 (and_left (leb x.length 24) (sound_from x.length x.bytes) e) in
    let k : length (text x) ≤ 24 = simp length-take (omega arith) in
    simp (le-leb (length (text x)) 24 k) (sound_letters x.length x.bytes (and_right (leb x.length 24) (sound_from x.length x.bytes) e))

-- ── a byte string copied in capitals ──
pub copy_next : (s t : List ℕ) (i c : ℕ) → t ≡ pad 0 24 (take i (capitals s)) → i < length s → length s ≤ 24 → c ≡ capital (get_or s i 0) → set t i c ≡ pad 0 24 (take (i + 1) (capitals s))
copy_next s t i c e h k q =
    let u : List ℕ = capitals s in
    let m : length u ≡ length s = length-map s capital in
    let l : length (take i u) ≡ i = length-take-le i u (omega arith) in
    let g : c ≡ get_or u i 0 = q ∙ sym (capitals_at_lem s i) in
    let f : set (pad 0 24 (take i u)) (length (take i u)) (get_or u i 0) ≡ pad 0 24 (take i u ++ (get_or u i 0 ∷ [])) = set-pad 0 24 (take i u) (get_or u i 0) (omega arith) in
    ap₂ (λ (x : List ℕ) (b : ℕ). set x i b) e g
    ∙ (ap (λ (n : ℕ). set (pad 0 24 (take i u)) n (get_or u i 0)) (sym l)
    ∙ (f ∙ (ap (pad 0 24) (sym (take-suc u i 0 (omega arith))) ∙ ap (λ (n : ℕ). pad 0 24 (take n u)) (sym (add-one i)))))

pub copy_end : (s t : List ℕ) (i : ℕ) → t ≡ pad 0 24 (take i (capitals s)) → length s ≤ i → ◌≡◌ {A = Label} (record { bytes = t; length = length s }) (label_of (capitals s))
unfolding label_of
copy_end s t i e h =
    let m : length (capitals s) ≡ length s = length-map s capital in
    let f : t ≡ pad 0 24 (capitals s) = e ∙ ap (pad 0 24) (take_all i (capitals s) (omega arith)) in
    λ j. record { bytes = f j; length = sym m j }

-- A text that is a row of signs: what reading finds at its front, and what it does not find there.
use Prim.Native.Nat.{ℕ, suc, ◌+◌, ◌-◌, ◌*◌, ◌<◌, ◌≤◌}
use mathlib.Core.Path.{◌≡◌, refl, sym, ap, ap₂, subst, ◌∙◌}
use mathlib.Core.Bool.{Bool, true, false, not, ◌&&◌, ◌||◌}
use mathlib.Core.Option.{none, some}
use mathlib.Core.List.{List, [], ◌∷◌, ◌++◌, append_assoc}
use native.Mathlib.Omega.{arith}
use lib.Dec.{eqb, leb}
use lib.ListN.{length, get_or, drop, length-append}
use lib.Seq.{drop-append_seam}
use borrow.Author.Tests.{eq-eqb, ne_eqb, leb-true, le-leb, not-true}
use Rattle.lists.specs.Lists.{up_to}
use Rattle.lists.proofs.Cases.{either_bool, no_both, and_left, and_right}
use Rattle.lists.proofs.Lists.{Free, has_seam, up_seam, past_seam}
use Rattle.labels.specs.Label.{capitals}
use Rattle.grammar.specs.Written.{EachByte}
use Rattle.signs.specs.Signs.{read, blank?, skip, behind, sign, capital?, word_byte?, name_more, name, label}
use Rattle.typed_formula.specs.Meaning.{label_text}
use Rattle.typed_grammar.specs.Words as Words
use Rattle.typed_grammar.specs.Words.{Blank, space, line_feed, Capital, LetterOrDigit, capital, small, digit, Mark, mark_bytes, Sign, IsName, NoneFollows, Signs, end, blank, a_mark, a_name, a_label}
use Rattle.typed_grammar.proofs.Codes.{number_from, name_number}

-- ── the end of a text ──
-- the text s ends in e
abbrev pub EndsIn : List ℕ → List ℕ → Type 0
EndsIn s e = (before : List ℕ) × (s ≡ before ++ e)

-- an end of an end is an end
pub ends_on : {a b c : List ℕ} → EndsIn a b → EndsIn b c → EndsIn a c
ends_on {a} {b} {c} p q = (p.0 ++ q.0, p.1 ∙ (ap (λ (l : List ℕ). p.0 ++ l) q.1 ∙ sym (append_assoc p.0 q.0 c)))

-- Behind a part of the text s stands e, its signs are gs.
pub record After (gs : List Sign) (s e : List ℕ) : Type 0 where
  pub row : Signs e gs
  pub ends : EndsIn s e
  pub less : length e < length s

-- behind a part, and behind a further part
pub after_on : {gs hs : List Sign} {s e d : List ℕ} → After gs s e → After hs e d → After hs s d
after_on a b = record { row = b.row; ends = ends_on a.ends b.ends; less = omega (arith, a.less, b.less) }

-- behind some bytes
after_bytes : (b : ℕ) (w : List ℕ) {gs : List Sign} {e : List ℕ} → Signs e gs → After gs (b ∷ (w ++ e)) e
after_bytes b w {e = e} r = record { row = r; ends = (b ∷ w, refl); less = omega (arith, length-append w e) }

-- behind a blank and a part
after_blank : (b : ℕ) {gs : List Sign} {s e : List ℕ} → After gs s e → After gs (b ∷ s) e
after_blank b a = record { row = a.row; ends = ends_on (b ∷ [], refl) a.ends; less = omega (arith, a.less) }

-- ── blanks ──
-- a blank is passed over
skip_blank : (b : ℕ) (s : List ℕ) → Blank b → skip (b ∷ s) ≡ skip s
unfolding skip blank?
skip_blank b s (space e) = simp (eq-eqb b 32 e)
skip_blank b s (line_feed e) = either_bool (eqb b 32) (λ p. simp p) (λ p. simp (p, eq-eqb b 10 e))

-- any other byte is not
skip_sign : (b : ℕ) (s : List ℕ) → blank? b ≡ false → skip (b ∷ s) ≡ b ∷ s
unfolding skip
skip_sign b s e = simp e

-- a sign is looked for behind a blank
sign_blank : (w : List ℕ) (b : ℕ) (s : List ℕ) → Blank b → sign w (b ∷ s) ≡ sign w s
unfolding sign
sign_blank w b s h = ap (behind w) (skip_blank b s h)

-- a byte that is another than the first of a sign
sign_other : (c : ℕ) (w : List ℕ) (b : ℕ) (s : List ℕ) → blank? b ≡ false → eqb b c ≡ false → sign (c ∷ w) (b ∷ s) ≡ none
unfolding sign
sign_other c w b s h e = rw (skip_sign b s h) (simp e)

-- ── marks ──
-- the first byte of a mark
abbrev first : Mark → ℕ
first m = get_or (mark_bytes m) 0 0

-- no mark begins with a blank
mark_front : (m : Mark) → (blank? (first m) ≡ false) × (mark_bytes m ≡ first m ∷ drop 1 (mark_bytes m))
unfolding blank?
mark_front Words.bar = (refl, refl)
mark_front Words.and = (refl, refl)
mark_front Words.not = (refl, refl)
mark_front Words.opens = (refl, refl)
mark_front Words.closes = (refl, refl)
mark_front Words.comma = (refl, refl)
mark_front Words.dot = (refl, refl)
mark_front Words.before = (refl, refl)
mark_front Words.overlaps = (refl, refl)
mark_front Words.includes = (refl, refl)
mark_front Words.exist = (refl, refl)
mark_front Words.same = (refl, refl)

-- behind the bytes w, where they stand first
behind_all : (w s : List ℕ) → behind w (w ++ s) ≡ some s
behind_all [] s = refl
behind_all (b ∷ w) s = simp (eq-eqb b b refl) (behind_all w s)

-- a sign that stands first is found
sign_front : (b : ℕ) (w s : List ℕ) → blank? b ≡ false → sign (b ∷ w) (b ∷ (w ++ s)) ≡ some s
unfolding sign
sign_front b w s h = ap (behind (b ∷ w)) (skip_sign b (w ++ s) h) ∙ behind_all (b ∷ w) s

-- A mark is found, and behind it stand the signs gs.
pub record MarkFound (w : List ℕ) (gs : List Sign) (s : List ℕ) : Type 0 where
  pub rest : List ℕ
  pub found : sign w s ≡ some rest
  pub after : After gs s rest

-- a mark that stands first
mark_here : (b : ℕ) (w : List ℕ) {gs : List Sign} (s : List ℕ) → blank? b ≡ false → Signs s gs → MarkFound (b ∷ w) gs (b ∷ (w ++ s))
mark_here b w s h r = record { rest = s; found = sign_front b w s h; after = after_bytes b w r }

-- a row of signs that begins with a mark
pub mark_found : {m : Mark} {gs : List Sign} {s : List ℕ} → Signs s (Words.mark m ∷ gs) → MarkFound (mark_bytes m) gs s
mark_found {m} (blank {b = b} {s = s} h r) =
    let f = mark_found r in
    record { rest = f.rest; found = sign_blank (mark_bytes m) b s h ∙ f.found; after = after_blank b f.after }
mark_found (a_mark m {s = s} r) =
    let f = mark_front m in
    rw f.1 (mark_here (first m) (drop 1 (mark_bytes m)) s f.0 r)

-- ── names ──
last_true : (x : Bool) → x || true ≡ true
last_true true = refl
last_true false = refl

-- a letter or a digit passes the test
word_yes : (b : ℕ) → LetterOrDigit b → word_byte? b ≡ true
unfolding word_byte?
word_yes b (capital c) = simp (le-leb 65 b c.0, le-leb b 90 c.1)
word_yes b (small l h) = simp (le-leb 97 b l, le-leb b 122 h, last_true)
word_yes b (digit d) = simp (le-leb 48 b d.0, le-leb b 57 d.1, last_true)

-- what passes the test is a letter or a digit
word_says : (b : ℕ) → word_byte? b ≡ true → LetterOrDigit b
unfolding word_byte?
word_says b e = go (leb 65 b && leb b 90) refl (leb 97 b && leb b 122) refl e
  where
    go : (x : Bool) → leb 65 b && leb b 90 ≡ x → (y : Bool) → leb 97 b && leb b 122 ≡ y → x || (y || (leb 48 b && leb b 57)) ≡ true → LetterOrDigit b
    go true p y q e = capital (leb-true 65 b (and_left (leb 65 b) (leb b 90) p), leb-true b 90 (and_right (leb 65 b) (leb b 90) p))
    go false p true q e = small (leb-true 97 b (and_left (leb 97 b) (leb b 122) q)) (leb-true b 122 (and_right (leb 97 b) (leb b 122) q))
    go false p false q e = digit (leb-true 48 b (and_left (leb 48 b) (leb b 57) e), leb-true b 57 (and_right (leb 48 b) (leb b 57) e))

-- any other byte fails it
word_no : (b : ℕ) → (LetterOrDigit b → ⊥) → word_byte? b ≡ false
word_no b n = either_bool (word_byte? b) (λ e. absurd (n (word_says b e))) (λ e. e)

-- a capital passes its test
capital_yes : (b : ℕ) → Capital b → capital? b ≡ true
unfolding capital?
capital_yes b c = simp (le-leb 65 b c.0, le-leb b 90 c.1)

-- a capital is no blank
capital_sign : (b : ℕ) → Capital b → blank? b ≡ false
unfolding blank?
capital_sign b c = simp (ne_eqb b 32 (λ e. omega (arith, c.0)), ne_eqb b 10 (λ e. omega (arith, c.0)))

-- no byte of a name follows
letters_end : (k n : ℕ) (s : List ℕ) → NoneFollows s → name_more k n s ≡ read n s
unfolding name_more
letters_end k n [] h = refl
letters_end k n (b ∷ s) h = simp (word_no b h)

-- one more byte of a name
letters_on : (k n b : ℕ) (s : List ℕ) → LetterOrDigit b → (k ≡ 0 → ⊥) → name_more k n (b ∷ s) ≡ name_more (k - 1) (256 * n + b) s
unfolding name_more
letters_on k n b s h l = simp (word_yes b h, ne_eqb k 0 l)

-- all bytes of a name behind its first
letters_read : (k n : ℕ) (more s : List ℕ) → EachByte LetterOrDigit more → length more ≤ k → NoneFollows s → name_more k n (more ++ s) ≡ read (number_from n more) s
letters_read k n [] s each few h = letters_end k n s h
letters_read k n (b ∷ more) s each few h =
    letters_on k n b (more ++ s) (each 0 (omega arith)) (λ e. omega arith)
    ∙ letters_read (k - 1) (256 * n + b) more s (λ i l. each (suc i) (omega arith)) (omega arith) h

-- a name that stands first is read
name-front : (b : ℕ) (more s : List ℕ) → Capital b → EachByte LetterOrDigit more → length more ≤ 7 → NoneFollows s → name (b ∷ (more ++ s)) ≡ read (name_number (b ∷ more)) s
unfolding name
name-front b more s c each few h =
    let z : 256 * 0 + b ≡ b = omega arith in
    rw (skip_sign b (more ++ s) (capital_sign b c), capital_yes b c, z) (letters_read 7 b more s each few h)

-- A name is found and read, and behind it stand the signs gs.
pub record NameFound (n : List ℕ) (gs : List Sign) (s : List ℕ) : Type 0 where
  pub rest : List ℕ
  pub found : name s ≡ read (name_number n) rest
  pub after : After gs s rest
  pub is_name : IsName n

-- a name is looked for behind a blank
name_blank : (b : ℕ) (s : List ℕ) → Blank b → name (b ∷ s) ≡ name s
unfolding name
name_blank b s h = rw (skip_blank b s h)

-- a name that stands first
name_here : (n : List ℕ) {gs : List Sign} (s : List ℕ) → IsName n → NoneFollows s → Signs s gs → NameFound n gs (n ++ s)
name_here n {gs} s i h r =
    record {
      rest = s;
      found = rw i.is (name-front i.first i.more s i.capital i.letters i.few h);
      after = rw i.is (after_bytes i.first i.more r);
      is_name = i;
    }

-- a row of signs that begins with a name
pub name_found : {n : List ℕ} {gs : List Sign} {s : List ℕ} → Signs s (Words.name n ∷ gs) → NameFound n gs s
name_found (blank {b = b} {s = s} h r) =
    let f = name_found r in
    record { rest = f.rest; found = name_blank b s h ∙ f.found; after = after_blank b f.after; is_name = f.is_name }
name_found (a_name {n = n} {s = s} i h r) = name_here n s i h r

-- ── labels ──
-- no quote stands in a label
each_free : (l : List ℕ) → EachByte (λ b. b ≡ 39 → ⊥) l → Free 39 l
each_free [] h = tt
each_free (b ∷ l) h = (h 0 (omega arith), each_free l (λ i k. h (suc i) (omega arith)))

-- a label is looked for behind a blank
label_blank : (b : ℕ) (s : List ℕ) → Blank b → label (b ∷ s) ≡ label s
unfolding label
label_blank b s h = rw (sign_blank (39 ∷ []) b s h)

-- a label that stands first is read
label_front : (l s : List ℕ) → Free 39 l → label (39 ∷ (l ++ (39 ∷ s))) ≡ read (length (l ++ (39 ∷ s))) s
unfolding label sign skip blank?
label_front l s h = rw (has_seam 39 l s, past_seam 39 l s h)

-- the place of a label tells its capitals
pub label_said_lem : (text l s : List ℕ) → Free 39 l → EndsIn text (l ++ (39 ∷ s)) → label_text text (length (l ++ (39 ∷ s))) ≡ capitals l
unfolding label_text
label_said_lem text l s h e =
    let x : List ℕ = l ++ (39 ∷ s) in
    let k : length text ≡ length e.0 + length x = ap length e.1 ∙ length-append e.0 x in
    let p : length text - length x ≡ length e.0 = omega arith in
    let d : drop (length text - length x) text ≡ x =
    ap (λ (i : ℕ). drop i text) p ∙ (ap (drop (length e.0)) e.1 ∙ drop-append_seam e.0 x) in
    ap capitals (ap (up_to 39) d ∙ up_seam 39 l s h)

-- A label is found, its place in every text that ends in s says its capitals, and behind it stand the signs gs.
pub record LabelFound (l : List ℕ) (gs : List Sign) (s : List ℕ) : Type 0 where
  pub place : ℕ
  pub rest : List ℕ
  pub found : label s ≡ read place rest
  pub after : After gs s rest
  pub said : (text : List ℕ) → EndsIn text s → label_text text place ≡ capitals l

-- a label that stands first
label_here : (l : List ℕ) {gs : List Sign} (s : List ℕ) → Free 39 l → Signs s gs → LabelFound l gs (39 ∷ (l ++ (39 ∷ s)))
label_here l s h r =
    record {
      place = length (l ++ (39 ∷ s));
      rest = s;
      found = label_front l s h;
      after = record { row = r; ends = (39 ∷ (l ++ (39 ∷ [])), ap (λ (x : List ℕ). 39 ∷ x) (sym (append_assoc l (39 ∷ []) s))); less = omega (arith, length-append l (39 ∷ s)) };
      said = λ text e. label_said_lem text l s h (ends_on e (39 ∷ [], refl));
    }

-- a row of signs that begins with a label
pub label_found : {l : List ℕ} {gs : List Sign} {s : List ℕ} → Signs s (Words.label l ∷ gs) → LabelFound l gs s
label_found (blank {b = b} {s = s} h r) =
    let f = label_found r in
    record {
      place = f.place;
      rest = f.rest;
      found = label_blank b s h ∙ f.found;
      after = after_blank b f.after;
      said = λ text e. f.said text (ends_on e (b ∷ [], refl));
    }
label_found (a_label {l = l} {s = s} h r) = rw (append_assoc l (39 ∷ []) s) (label_here l s (each_free l h) r)

-- ── what is not found ──
-- the first of the signs does not begin with the byte c
abbrev pub other? : ℕ → List Sign → Bool
other? c [] = true
other? c (Words.mark m ∷ gs) = not (eqb (get_or (mark_bytes m) 0 0) c)
other? c (Words.name n ∷ gs) = not (leb 65 c && leb c 90)
other? c (Words.label l ∷ gs) = not (eqb 39 c)

-- a capital is another byte than one that is none
other_name : (b c : ℕ) → Capital b → not (leb 65 c && leb c 90) ≡ true → eqb b c ≡ false
other_name b c h e =
    ne_eqb b c (λ p. no_both (sym (ap₂ ◌&&◌ (le-leb 65 c (omega (arith, h.0))) (le-leb c 90 (omega (arith, h.1)))) ∙ not-true (leb 65 c && leb c 90) e))

-- a sign that begins with no capital is not found at a name
none_name : (n : List ℕ) (s : List ℕ) → IsName n → (c : ℕ) (w : List ℕ) → not (leb 65 c && leb c 90) ≡ true → sign (c ∷ w) (n ++ s) ≡ none
none_name n s i c w e = rw i.is (sign_other c w i.first (i.more ++ s) (capital_sign i.first i.capital) (other_name i.first c i.capital e))

-- a sign that begins otherwise than a mark is not found at the mark
none_mark : (m : Mark) (s : List ℕ) (c : ℕ) (w : List ℕ) → not (eqb (first m) c) ≡ true → sign (c ∷ w) (mark_bytes m ++ s) ≡ none
none_mark m s c w e = let f = mark_front m in rw f.1 (sign_other c w (first m) (drop 1 (mark_bytes m) ++ s) f.0 (not-true (eqb (first m) c) e))

-- a sign that begins with no quote is not found at a label
none_label : (x : List ℕ) (c : ℕ) (w : List ℕ) → not (eqb 39 c) ≡ true → sign (c ∷ w) (39 ∷ x) ≡ none
unfolding blank?
none_label x c w e = sign_other c w 39 x refl (not-true (eqb 39 c) e)

-- no sign is found where nothing is left
none_end : (c : ℕ) (w : List ℕ) → sign (c ∷ w) [] ≡ none
unfolding sign skip
none_end c w = refl

-- a sign that begins with another byte is not found
pub none_found : {gs : List Sign} {s : List ℕ} → Signs s gs → (c : ℕ) (w : List ℕ) → other? c gs ≡ true → sign (c ∷ w) s ≡ none
none_found end c w e = none_end c w
none_found (blank {b = b} {s = s} h r) c w e = sign_blank (c ∷ w) b s h ∙ none_found r c w e
none_found (a_mark m {s = s} r) c w e = none_mark m s c w e
none_found (a_name {n = n} {s = s} i h r) c w e = none_name n s i c w e
none_found (a_label {l = l} {s = s} h r) c w e = none_label (l ++ (39 ∷ []) ++ s) c w e

-- nothing is left of nothing
skip_end : skip [] ≡ []
unfolding skip
skip_end = refl

-- at the end only blanks are left
pub end_found_lem : {s : List ℕ} → Signs s [] → skip s ≡ []
end_found_lem end = skip_end
end_found_lem (blank {b = b} {s = s} h r) = skip_blank b s h ∙ end_found_lem r

-- ── behind the blanks ──
skip_mark : (m : Mark) (s : List ℕ) → skip (mark_bytes m ++ s) ≡ mark_bytes m ++ s
skip_mark m s = let f = mark_front m in rw f.1 (skip_sign (first m) (drop 1 (mark_bytes m) ++ s) f.0)

skip-name : (n s : List ℕ) → IsName n → skip (n ++ s) ≡ n ++ s
skip-name n s i = rw i.is (skip_sign i.first (i.more ++ s) (capital_sign i.first i.capital))

skip_label : (x : List ℕ) → skip (39 ∷ x) ≡ 39 ∷ x
unfolding blank?
skip_label x = skip_sign 39 x refl

-- the signs are the same
skip_row : {gs : List Sign} {s : List ℕ} → Signs s gs → Signs (skip s) gs
skip_row end = subst (λ (l : List ℕ). Signs l []) (sym skip_end) end
skip_row {gs} (blank {b = b} {s = s} h r) = subst (λ (l : List ℕ). Signs l gs) (sym (skip_blank b s h)) (skip_row r)
skip_row {gs} (a_mark m {s = s} r) = subst (λ (l : List ℕ). Signs l gs) (sym (skip_mark m s)) (a_mark m r)
skip_row {gs} (a_name {n = n} {s = s} i h r) = subst (λ (l : List ℕ). Signs l gs) (sym (skip-name n s i)) (a_name i h r)
skip_row {gs} (a_label {l = l} {s = s} h r) = subst (λ (x : List ℕ). Signs x gs) (sym (skip_label (l ++ (39 ∷ []) ++ s))) (a_label h r)

-- and it is an end of the text
ends-skip : (s : List ℕ) → EndsIn s (skip s)
unfolding skip
ends-skip [] = ([], refl)
ends-skip (b ∷ s) = either_bool (blank? b) (λ e. simp e (ends_on (b ∷ [], refl) (ends-skip s))) (λ e. simp e ([], refl))

pub after_skip : {gs : List Sign} {s e : List ℕ} → After gs s e → After gs s (skip e)
after_skip {e = e} a =
    let x = ends-skip e in
    record { row = skip_row a.row; ends = ends_on a.ends x; less = omega (arith, a.less, ap length x.1, length-append x.0 (skip e)) }

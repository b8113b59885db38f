-- Each reader of a sign takes a sign of the text: with it before them, the signs behind it are a row again.
use Prim.Native.Nat.{ℕ, zero, suc, ◌+◌, ◌-◌, ◌*◌, ◌≤◌}
use mathlib.Core.Path.{◌≡◌, refl, sym, ap, subst, ◌∙◌}
use mathlib.Core.Bool.{Bool, true, false, ◌&&◌, ◌||◌}
use mathlib.Core.Option.{Option, none, some}
use mathlib.Core.List.{List, [], ◌∷◌, ◌++◌, append_assoc}
use native.Mathlib.Omega.{arith}
use lib.Dec.{eqb, leb}
use lib.ListN.{length, drop, length-append}
use lib.Seq.{drop-append_seam}
use borrow.Author.Tests.{leb-true, le-leb, eqb-true, eqb-false, eq-eqb}
use Rattle.lists.specs.Lists.{has?, up_to, past}
use Rattle.lists.proofs.Cases.{either_bool, no_both, never, and_left, and_right}
use Rattle.labels.specs.Label.{capitals}
use Rattle.grammar.specs.Written.{EachByte}
use Rattle.signs.specs.Signs.{Got, read, outside, blank?, skip, behind, sign, capital?, word_byte?, name_more, name_from, quoted}
use Rattle.signs.proofs.Blanks.{skip-again}
use Rattle.signs.specs.Signs as Reader
use Rattle.typed_formula.specs.Meaning.{label_text}
use Rattle.typed_grammar.specs.Words.{Blank, space, line_feed, Capital, LetterOrDigit, capital, small, digit, Mark, mark_bytes, Sign, mark, name, label, IsName, NoneFollows, Signs, end, blank, a_mark, a_name, a_label}
use Rattle.typed_grammar.specs.Words as Words
use Rattle.typed_grammar.proofs.Codes.{number_from, name_number}

-- ── the tests of one byte ──
-- a test of two ways that passes
module _ {C : Type 0} where
  pub either-or : (a b : Bool) → a || b ≡ true → (a ≡ true → C) → (b ≡ true → C) → C
  either-or true b e f g = f refl
  either-or false b e f g = g e

module _ (b : ℕ) where
  -- a byte between two others
  between : (l h : ℕ) → leb l b && leb b h ≡ true → (l ≤ b) × (b ≤ h)
  between l h e = (leb-true l b (and_left (leb l b) (leb b h) e), leb-true b h (and_right (leb l b) (leb b h) e))

  -- what the tests of a byte say: a blank
  pub blank_byte : blank? b ≡ true → Blank b
  unfolding blank?
  blank_byte e = either-or (eqb b 32) (eqb b 10) e (λ p. space (eqb-true b 32 p)) (λ p. line_feed (eqb-true b 10 p))

  -- a capital
  pub capital_byte : capital? b ≡ true → Capital b
  unfolding capital?
  capital_byte e = between 65 90 e

  -- a letter or a digit
  pub word_byte : word_byte? b ≡ true → LetterOrDigit b
  unfolding word_byte?
  word_byte e =
      either-or (leb 65 b && leb b 90) (leb 97 b && leb b 122 || leb 48 b && leb b 57) e
      (λ p. capital (between 65 90 p))
      (λ q. either-or (leb 97 b && leb b 122) (leb 48 b && leb b 57) q
      (λ p. small (between 97 122 p).0 (between 97 122 p).1)
      (λ p. digit (between 48 57 p)))

  -- and a letter or a digit passes
  pub byte_word : LetterOrDigit b → word_byte? b ≡ true
  unfolding word_byte?
  byte_word (capital c) = simp (le-leb 65 b c.0, le-leb b 90 c.1)
  byte_word (small l h) = either_bool (leb 65 b && leb b 90) (λ e. simp e) (λ e. simp (e, le-leb 97 b l, le-leb b 122 h))
  byte_word (digit d) =
      either_bool (leb 65 b && leb b 90) (λ e. simp e)
      (λ e. either_bool (leb 97 b && leb b 122) (λ f. simp (e, f)) (λ f. simp (e, f, le-leb 48 b d.0, le-leb b 57 d.1)))

-- ── ends of a text ──
-- s is an end of the text
pub record EndOf (text s : List ℕ) : Type 0 where
  pub before : List ℕ
  pub is : text ≡ before ++ s

-- the whole text is
pub whole_end : (text : List ℕ) → EndOf text text
whole_end text = record { before = []; is = refl }

module _ (text : List ℕ) where
  -- what stands behind the first bytes of an end is an end
  pub end_behind : (s w r : List ℕ) → s ≡ w ++ r → EndOf text s → EndOf text r
  end_behind s w r e d =
      record { before = d.before ++ w; is = d.is ∙ (ap (λ (l : List ℕ). d.before ++ l) e ∙ sym (append_assoc d.before w r)) }

  -- what stands behind blanks is one
  pub end_skip : (s : List ℕ) → EndOf text s → EndOf text (skip s)
  unfolding skip
  end_skip [] d = d
  end_skip (b ∷ s) d = either_bool (blank? b) (λ e. simp e (end_skip s (end_behind (b ∷ s) (b ∷ []) s refl d))) (λ e. simp e d)

-- ── blanks and marks ──
-- a sign that is not there is not there behind the blanks
pub skip_none : (w s : List ℕ) → sign w s ≡ none → sign w (skip s) ≡ none
unfolding sign
skip_none w s e = ap (behind w) (skip-again s) ∙ e

-- blanks before the signs
pub row_skip : (s : List ℕ) (gs : List Sign) → Signs (skip s) gs → Signs s gs
unfolding skip
row_skip [] gs g = g
row_skip (b ∷ s) gs g =
    either_bool (blank? b)
    (λ e. let h : Signs (skip s) gs = simp e at g in blank (blank_byte b e) (row_skip s gs h))
    (λ e. let h : Signs (b ∷ s) gs = simp e at g in h)

-- only blanks are left
pub row_none : (s : List ℕ) → skip s ≡ [] → Signs s []
row_none s e = row_skip s [] (subst (λ (l : List ℕ). Signs l []) (sym e) end)

-- answers told apart
some_is : (a b : List ℕ) → some a ≡ some b → a ≡ b
some_is a b e = cc

no_some : {C : Type 0} (b : List ℕ) → none ≡ some b → C
no_some b e = never (let z : ◌≡◌ {A = ℕ} 0 1 = cc in z)

-- where bytes were found, they stand
pub behind_is : (w s r : List ℕ) → behind w s ≡ some r → s ≡ w ++ r
behind_is [] s r e = some_is s r e
behind_is (c ∷ w) [] r e = no_some r e
behind_is (c ∷ w) (b ∷ s) r e =
    either_bool (eqb b c)
    (λ p. let f : behind w s ≡ some r = simp p at e in
    (λ i. eqb-true b c p i ∷ behind_is w s r f i))
    (λ p. let f : none ≡ some r = simp p at e in no_some r f)

-- a mark that was found
pub record Past (text s : List ℕ) (m : Mark) (r : List ℕ) : Type 0 where
  pub tail : EndOf text r
  pub row : (gs : List Sign) → Signs r gs → Signs s (mark m ∷ gs)

-- the reader of a mark finds one
pub mark_found : (text s : List ℕ) (m : Mark) (r : List ℕ) → EndOf text s → sign (mark_bytes m) s ≡ some r → Past text s m r
unfolding sign
mark_found text s m r d e =
    let f : skip s ≡ mark_bytes m ++ r = behind_is (mark_bytes m) (skip s) r e in
    record {
      tail = end_behind text (skip s) (mark_bytes m) r f (end_skip text s d);
      row = λ gs g. row_skip s (mark m ∷ gs) (subst (λ (l : List ℕ). Signs l (mark m ∷ gs)) (sym f) (a_mark m g));
    }

-- ── names ──
-- a property of each byte, one byte more
pub each_more : (P : ℕ → Type 0) (b : ℕ) (s : List ℕ) → P b → EachByte P s → EachByte P (b ∷ s)
each_more P b s p h zero k = p
each_more P b s p h (suc j) k = h j (omega arith)

-- what `name_more` took: the bytes, and that the name stops behind them
pub record Letters (k n : ℕ) (s : List ℕ) (v : ℕ) (r : List ℕ) : Type 0 where
  pub taken : List ℕ
  pub is : s ≡ taken ++ r
  pub letters : EachByte LetterOrDigit taken
  pub few : length taken ≤ k
  pub number : v ≡ number_from n taken
  pub stops : NoneFollows r

abbrev pub TakesMore : ℕ → ℕ → List ℕ → Got ℕ → Type 0
TakesMore k n s (read v r) = Letters k n s v r
TakesMore k n s outside = Unit {0}

-- no byte more
letters_none : (k n : ℕ) (s : List ℕ) → NoneFollows s → Letters k n s n s
letters_none k n s f = record { taken = []; is = refl; letters = λ j h. absurd (omega arith); few = omega arith; number = refl; stops = f }

-- one byte more
letters-more : (k n b : ℕ) (s : List ℕ) → LetterOrDigit b → (k ≡ 0 → ⊥) → (g : Got ℕ) → TakesMore (k - 1) (256 * n + b) s g → TakesMore k n (b ∷ s) g
letters-more k n b s l z (read v r) x =
    record {
      taken = b ∷ x.taken;
      is = ap (λ (m : List ℕ). b ∷ m) x.is;
      letters = each_more LetterOrDigit b x.taken l x.letters;
      few = omega (arith, x.few);
      number = x.number;
      stops = x.stops;
    }
letters-more k n b s l z outside x = tt

-- the reader of a name's rest takes letters and digits
pub takes-more : (k n : ℕ) (s : List ℕ) → TakesMore k n s (name_more k n s)
unfolding name_more
takes-more k n [] = letters_none k n [] tt
takes-more k n (b ∷ s) =
    either_bool (word_byte? b)
    (λ e. either_bool (eqb k 0) (λ z. simp (e, z) tt) (λ z. simp (e, z) (letters-more k n b s (word_byte b e) (eqb-false k 0 z) (name_more (k - 1) (256 * n + b) s) (takes-more (k - 1) (256 * n + b) s))))
    (λ e. simp e (letters_none k n (b ∷ s) (λ l. no_both (sym (byte_word b l) ∙ e))))

-- a name that was read
pub record Named (text s : List ℕ) (v : ℕ) (r : List ℕ) : Type 0 where
  pub word : List ℕ
  pub good : IsName word
  pub number : v ≡ name_number word
  pub tail : EndOf text r
  pub row : (gs : List Sign) → Signs r gs → Signs s (name word ∷ gs)

abbrev pub ReadsName : List ℕ → List ℕ → Got ℕ → Type 0
ReadsName text s (read v r) = Named text s v r
ReadsName text s outside = Unit {0}

module _ (text : List ℕ) where
  -- a capital and the bytes behind it
  named-from : (b : ℕ) (s : List ℕ) → EndOf text (b ∷ s) → Capital b → (g : Got ℕ) → TakesMore 7 b s g → ReadsName text (b ∷ s) g
  named-from b s d c (read v r) x =
      let good : IsName (b ∷ x.taken) = record { first = b; more = x.taken; is = refl; capital = c; letters = x.letters; few = x.few } in
      let e : b ∷ s ≡ (b ∷ x.taken) ++ r = ap (λ (m : List ℕ). b ∷ m) x.is in
      record {
        word = b ∷ x.taken;
        good = good;
        number = x.number ∙ ap (λ (n : ℕ). number_from n x.taken) (let z : b ≡ 256 * 0 + b = omega arith in z);
        tail = end_behind text (b ∷ s) (b ∷ x.taken) r e d;
        row = λ gs g. subst (λ (l : List ℕ). Signs l (name (b ∷ x.taken) ∷ gs)) (sym e) (a_name good x.stops g);
      }
  named-from b s d c outside x = tt

  -- a name with no blank before it
  reads-from : (s : List ℕ) → EndOf text s → ReadsName text s (name_from s)
  reads-from [] d = tt
  reads-from (b ∷ s) d = either_bool (capital? b) (λ e. simp e (named-from b s d (capital_byte b e) (name_more 7 b s) (takes-more 7 b s))) (λ e. simp e tt)

  -- blanks before a name
  named-skip : (s : List ℕ) (g : Got ℕ) → ReadsName text (skip s) g → ReadsName text s g
  named-skip s (read v r) x = record { word = x.word; good = x.good; number = x.number; tail = x.tail; row = λ gs g. row_skip s (name x.word ∷ gs) (x.row gs g) }
  named-skip s outside x = tt

  -- the reader of a name reads one
  pub reads-name : (s : List ℕ) → EndOf text s → ReadsName text s (Reader.name s)
  unfolding Reader.name
  reads-name s d = named-skip s (name_from (skip s)) (reads-from (skip s) (end_skip text s d))

-- ── labels ──
-- up to a byte that is there, it, and what stands past it
pub split_at : (c : ℕ) (s : List ℕ) → has? c s ≡ true → s ≡ up_to c s ++ (c ∷ past c s)
split_at c [] e = no_both (sym e)
split_at c (b ∷ s) e =
    either_bool (eqb b c)
    (λ p. simp p (ap (λ (x : ℕ). x ∷ s) (eqb-true b c p)))
    (λ p. let f : has? c s ≡ true = simp p at e in simp p (ap (λ (l : List ℕ). b ∷ l) (split_at c s f)))

-- none of them stands before it
pub up_free : (c : ℕ) (s : List ℕ) → EachByte (λ b. b ≡ c → ⊥) (up_to c s)
up_free c [] = λ j h. absurd (omega arith)
up_free c (b ∷ s) =
    either_bool (eqb b c) (λ p. simp p (λ j h. absurd (omega arith))) (λ p. simp p (each_more (λ b. b ≡ c → ⊥) b (up_to c s) (eqb-false b c p) (up_free c s)))

-- the capitals of a label from its place
pub label_at : (text s : List ℕ) → EndOf text s → label_text text (length s) ≡ capitals (up_to 39 s)
unfolding label_text
label_at text s d =
    let n : length text - length s ≡ length d.before = omega (arith, ap length d.is, length-append d.before s) in
    let e : drop (length text - length s) text ≡ s = ap (λ (k : ℕ). drop k text) n ∙ (ap (λ (l : List ℕ). drop (length d.before) l) d.is ∙ drop-append_seam d.before s) in
    ap (λ (l : List ℕ). capitals (up_to 39 l)) e

-- a label that was read
pub record Labelled (text s : List ℕ) (q : ℕ) (r : List ℕ) : Type 0 where
  pub word : List ℕ
  pub place : label_text text q ≡ capitals word
  pub tail : EndOf text r
  pub row : (gs : List Sign) → Signs r gs → Signs s (label word ∷ gs)

abbrev pub ReadsLabel : List ℕ → List ℕ → Got ℕ → Type 0
ReadsLabel text s (read q r) = Labelled text s q r
ReadsLabel text s outside = Unit {0}

module _ (text s : List ℕ) (d : EndOf text s) where
  -- a label behind its quote
  labelled : (x : List ℕ) → skip s ≡ 39 ∷ x → has? 39 x ≡ true → Labelled text s (length x) (past 39 x)
  labelled x e h =
      let at : EndOf text x = end_behind text (skip s) (39 ∷ []) x e (end_skip text s d) in
      let f : x ≡ (up_to 39 x ++ (39 ∷ [])) ++ past 39 x = split_at 39 x h ∙ sym (append_assoc (up_to 39 x) (39 ∷ []) (past 39 x)) in
      let k : skip s ≡ 39 ∷ ((up_to 39 x ++ (39 ∷ [])) ++ past 39 x) = e ∙ ap (λ (l : List ℕ). 39 ∷ l) f in
      record {
        word = up_to 39 x;
        place = label_at text x at;
        tail = end_behind text x (up_to 39 x ++ (39 ∷ [])) (past 39 x) f at;
        row = λ gs g. row_skip s (label (up_to 39 x) ∷ gs) (subst (λ (l : List ℕ). Signs l (label (up_to 39 x) ∷ gs)) (sym k) (a_label (up_free 39 x) g));
      }

  -- the rest of a label, if it ends
  reads-quoted : (x : List ℕ) → skip s ≡ 39 ∷ x → ReadsLabel text s (quoted x)
  reads-quoted x e = either_bool (has? 39 x) (λ h. simp h (labelled x e h)) (λ h. simp h tt)

  -- the reader of a label reads one
  pub reads_label : ReadsLabel text s (Reader.label s)
  unfolding Reader.label sign
  reads_label = go (behind (39 ∷ []) (skip s)) refl
    where
      go : (o : Option (List ℕ)) → behind (39 ∷ []) (skip s) ≡ o → ReadsLabel text s (Reader.if_sign o quoted outside)
      go (some x) e = reads-quoted x (behind_is (39 ∷ []) (skip s) x e)
      go none e = tt

-- ── what does not follow ──
-- a blank before a sign
sign_blank : (w : List ℕ) (b : ℕ) (s : List ℕ) → Blank b → sign w (b ∷ s) ≡ sign w s
unfolding sign skip blank?
sign_blank w b s (space e) = simp (eq-eqb b 32 e)
sign_blank w b s (line_feed e) = either_bool (eqb b 32) (λ f. simp f) (λ f. simp (f, eq-eqb b 10 e))

-- a mark is found where it stands
sign_there : (m : Mark) (s : List ℕ) → sign (mark_bytes m) (mark_bytes m ++ s) ≡ some s
unfolding sign skip blank?
sign_there Words.bar s = refl
sign_there Words.and s = refl
sign_there Words.not s = refl
sign_there Words.opens s = refl
sign_there Words.closes s = refl
sign_there Words.comma s = refl
sign_there Words.dot s = refl
sign_there Words.before s = refl
sign_there Words.overlaps s = refl
sign_there Words.includes s = refl
sign_there Words.exist s = refl
sign_there Words.same s = refl

-- a row that begins with a mark has that mark
pub mark_there : (s : List ℕ) (m : Mark) (gs : List Sign) → Signs s (mark m ∷ gs) → sign (mark_bytes m) s ≡ none → ⊥
mark_there s m gs (blank {b = b} {s = r} x g) e = mark_there r m gs g (sym (sign_blank (mark_bytes m) b r x) ∙ e)
mark_there s m gs (a_mark n {s = r} g) e = no_some r (sym e ∙ sign_there n r)

-- "All rules written out keep the capital form": in the text that a rule file is written out as, every byte between quotes is from A to Z,
-- 0 to 9 and underscore. The text is read from its front, with whether a quote is open: outside quotes stand only bytes of the writer's
-- own, none of them a quote but those round a label, and a label has no quote.
use Prim.Native.Nat.{ℕ, zero, suc, ◌<◌}
use mathlib.Core.Path.{◌≡◌, refl, sym, subst, ◌∙◌}
use mathlib.Core.Bool.{Bool, true, false, cond}
use mathlib.Core.List.{List, [], ◌∷◌, ◌++◌}
use native.Mathlib.Omega.{arith}
use lib.Dec.{eqb}
use lib.ListN.{get_or, take}
use borrow.Author.Tests.{ne_eqb}
use Rattle.lists.specs.Lists.{bytes, has?}
use Rattle.lists.proofs.Cases.{either_bool, no_both}
use Rattle.rules.specs.Formula.{Pairing, before, overlaps, includes, same, Formula, both, neg, exists, has, pair}
use Rattle.levels.specs.Levels.{Levels, no_levels, binds}
use Rattle.grammar.specs.Written.{EachByte, LabelByte, capital, digit, underscore, IsLabel}
use Rattle.typed_grammar.specs.Text.{letter, rule_text}
use Rattle.spelling.specs.Written.{write_pair, write}
use Rattle.spelling.proofs.Texts.{write_text}
use Rattle.output.specs.declared.Written.TheVariants.{Length}
use Rattle.letter_case.specs.Recased.{InQuotes}
use Rattle.letter_case.proofs.Texts.{flips, open_after, open_count}
use Rattle.claims.specs.LetterCase.{EachLabel}
use Rattle.claims.specs.Typed.{WriteCall}
use Rattle.claims.proofs.CaseLabels.{rule_names}

-- ── texts with capitals between quotes ──
-- o says whether a quote is open before the text; none is open behind it
abbrev Clean : Bool → List ℕ → Type 0
Clean o [] = o ≡ false
Clean o (b ∷ s) = (o ≡ true → (b ≡ 39 → ⊥) → LabelByte b) × Clean (flips o b) s

clean_at : (o : Bool) (s : List ℕ) → Clean o s → (p : ℕ) → open_after o (take p s) ≡ true → (get_or s p 0 ≡ 39 → ⊥) → LabelByte (get_or s p 0)
clean_at o [] c zero e n = no_both (sym e ∙ c)
clean_at o [] c (suc p) e n = no_both (sym e ∙ c)
clean_at o (b ∷ s) c zero e n = c.0 e n
clean_at o (b ∷ s) c (suc p) e n = clean_at (flips o b) s c.1 p e n

-- ── a label, and bytes outside quotes ──
label_no_quote : (b : ℕ) → LabelByte b → b ≡ 39 → ⊥
label_no_quote b (capital low high) e = omega arith
label_no_quote b (digit d) e = omega (arith, d.0)
label_no_quote b (underscore u) e = omega arith

clean_label : (l s : List ℕ) → EachByte LabelByte l → Clean false s → Clean true (l ++ (39 ∷ s))
clean_label [] s h c = ((λ o n. absurd (n refl)), c)
clean_label (b ∷ l) s h c =
    let y : LabelByte b = h 0 (omega arith) in
    let q : eqb b 39 ≡ false = ne_eqb b 39 (label_no_quote b y) in (
      (λ o n. y),
      subst (λ (t : Bool). Clean (cond t false true) (l ++ (39 ∷ s))) (sym q) (clean_label l s (λ k i. h (suc k) (omega arith)) c),
    )

clean_byte : (b : ℕ) (s : List ℕ) → eqb b 39 ≡ false → Clean false s → Clean false (b ∷ s)
clean_byte b s q c = ((λ o. no_both (sym o)), subst (λ (t : Bool). Clean (cond t true false) s) (sym q) c)

letter_no_quote : (n : ℕ) → eqb (letter n) 39 ≡ false
letter_no_quote zero = refl
letter_no_quote (suc zero) = refl
letter_no_quote (suc (suc zero)) = refl
letter_no_quote (suc (suc (suc n))) = refl

clean_letter : (n : ℕ) (s : List ℕ) → Clean false s → Clean false (letter n ∷ s)
clean_letter n s c = clean_byte (letter n) s (letter_no_quote n) c

-- bytes of the writer's own
clean_own : (w s : List ℕ) → has? 39 w ≡ false → Clean false s → Clean false (w ++ s)
clean_own [] s n c = c
clean_own (b ∷ w) s n c =
    either_bool (eqb b 39)
    (λ q. no_both (simp q at n))
    (λ q. clean_byte b (w ++ s) q (clean_own w s (simp q at n) c))

-- ── the text of a formula ──
clean_sign : (w : List ℕ) → has? 39 w ≡ false → (a b : ℕ) (s : List ℕ) → Clean false s → Clean false (letter a ∷ (w ++ (letter b ∷ s)))
clean_sign w n a b s c = clean_letter a (w ++ (letter b ∷ s)) (clean_own w (letter b ∷ s) n (clean_letter b s c))

clean_pair : (p : Pairing) (a b : ℕ) (s : List ℕ) → Clean false s → Clean false (write_pair p (letter a) (letter b) s)
clean_pair before a b s c = clean_sign (bytes " < ") refl a b s c
clean_pair overlaps a b s c = clean_sign (bytes " o ") refl a b s c
clean_pair includes a b s c = clean_sign (bytes " i ") refl a b s c
clean_pair same a b s c =
    let t : List ℕ = 41 ∷ s in
    clean_own (bytes "same(") (letter a ∷ 44 ∷ letter b ∷ t) refl
    (clean_sign (bytes ",") refl a b t (clean_byte 41 s refl c))

clean_write : (f : Formula) → EachLabel IsLabel f → (d : ℕ) (e : Levels) (s : List ℕ) → Clean false s → Clean false (write d e f s)
unfolding write
clean_write (both f g) h d e s c =
    let t = write d e g (41 ∷ s) in
    let r : Clean false t = clean_write g h.1 d e (41 ∷ s) (clean_byte 41 s refl c) in
    clean_byte 40 (write d e f (38 ∷ t)) refl (clean_write f h.0 d e (38 ∷ t) (clean_byte 38 t refl r))
clean_write (neg f) h d e s c = clean_byte 33 (write d e f s) refl (clean_write f h d e s c)
clean_write (exists v f) h d e s c =
    let t = write (suc d) (binds e v d) f (41 ∷ s) in
    let r : Clean false t = clean_write f h (suc d) (binds e v d) (41 ∷ s) (clean_byte 41 s refl c) in
    clean_own (bytes "(exist ") (letter d ∷ 46 ∷ t) refl (clean_letter d (46 ∷ t) (clean_byte 46 t refl r))
clean_write (has v l) h d e s c =
    let t : List ℕ = l ++ (39 ∷ 41 ∷ s) in
    let r : Clean true t = clean_label l (41 ∷ s) h.bytes (clean_byte 41 s refl c) in
    clean_letter (e v) (40 ∷ 39 ∷ t) (clean_byte 40 (39 ∷ t) refl ((λ o n. absurd (n refl)), r))
clean_write (pair p v w) h d e s c = clean_pair p (e v) (e w) s c

clean_text : (f : Formula) → EachLabel IsLabel f → Clean false (rule_text f)
clean_text f h = subst (Clean false) (write_text f) (clean_write f h 0 no_levels [] refl)

-- ── the claim ──
pub text_capitals : (k : WriteCall) (n : ℕ) → k.answer ≡ Length n → (p : ℕ) → InQuotes (take n k.text') p → p < n → (get_or (take n k.text') p 0 ≡ 39 → ⊥) → LabelByte (get_or (take n k.text') p 0)
text_capitals k n a p q within =
    let m = k.writes.means n a in
    let c : Clean false (take n k.text') = subst (Clean false) (sym m.2) (clean_text m.0 (rule_names k.file m.0 m.1)) in
    clean_at false (take n k.text') c p (open_count (take p (take n k.text')) ∙ q)

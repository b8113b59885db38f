-- Typed rules that differ only in the case of letters between quotes are read into the same tree, and it says the same formula.
-- A text is raised: its bytes between quotes become capitals. Recased texts are the same once raised, and no reader tells a text from
-- its raised one, as a label is kept as its place.
use Prim.Native.Nat.{ℕ, zero, suc, ◌+◌, ◌-◌, ◌*◌}
use mathlib.Core.Path.{◌≡◌, refl, sym, ap, ap₂, ◌∙◌}
use mathlib.Core.Bool.{Bool, true, false, not, cond}
use mathlib.Core.Option.{Option, none, some, map}
use mathlib.Core.List.{List, [], ◌∷◌}
use native.Mathlib.Omega.{arith}
use lib.Dec.{eqb, ltb}
use lib.ListN.{length, get_or, take, drop, length-map}
use borrow.Author.Tests.{eq-eqb, ne_eqb}
use Rattle.lists.specs.Lists.{has?, past, up_to}
use Rattle.lists.proofs.Cases.{either_eq, either_bool, no_both, never}
use Rattle.labels.specs.Label.{capital, capitals}
use Rattle.labels.proofs.Capitals.{capital_sign, capitals-drop, capitals_up}
use Rattle.rules.specs.Formula.{Formula}
use Rattle.signs.specs.Signs.{Got, read, outside, next, if_sign, blank?, skip, behind, sign, capital?, word_byte?, name_more, name_from, name, quoted, label, bar_sign, and_sign, not_sign, open_sign, close_sign, comma_sign, dot_sign, less_sign, overlaps_sign, includes_sign, exist_sign, same_sign}
use Rattle.atoms.specs.Tree.{Tree, either, both, neg, exists, has, pair, either_all, both_all}
use Rattle.atoms.specs.Atoms.{read_same, read_has, relation, read_pair, read_atom}
use Rattle.atoms.specs.Emit.{Names, level, inside}
use Rattle.typed.specs.Grammar.{read_or, more_or, read_and, more_and, read_not, read_some, read_body, read_operand, wholly, whole, tree_of, read_text}
use Rattle.typed_formula.specs.Meaning.{label_text, formula_for}
use Rattle.letter_case.specs.Recased.{quotes_open, RecasedText}

-- ── a text with capitals between its quotes ──
-- whether a quote is open behind a byte, and behind a text; o says whether one was open before
abbrev pub flips : Bool → ℕ → Bool
flips o b = cond (eqb b 39) (not o) o

abbrev pub open_after : Bool → List ℕ → Bool
open_after o [] = o
open_after o (b ∷ s) = open_after (flips o b) s

-- the text with capitals where a quote is open
abbrev raised : Bool → List ℕ → List ℕ
raised o [] = []
raised o (b ∷ s) = cond o (capital b) b ∷ raised (flips o b) s

raised_length : (o : Bool) (s : List ℕ) → length (raised o s) ≡ length s
raised_length o [] = refl
raised_length o (b ∷ s) = ap suc (raised_length (flips o b) s)

-- ── recased texts are the same once raised ──
-- quotes counted from the front, and from the back
open_not : (o : Bool) (s : List ℕ) → open_after (not o) s ≡ not (open_after o s)
open_not o [] = refl
open_not o (b ∷ s) = either_bool (eqb b 39) (λ e. simp e (open_not (not o) s)) (λ e. simp e (open_not o s))

pub open_count : (s : List ℕ) → open_after false s ≡ quotes_open s
open_count [] = refl
open_count (b ∷ s) =
    either_bool (eqb b 39) (λ e. simp e (open_not false s ∙ ap not (open_count s))) (λ e. simp e (open_count s))

flips_same : (o : Bool) (b c : ℕ) → capital b ≡ capital c → flips o b ≡ flips o c
flips_same o b c e =
    ap (λ (q : Bool). cond q (not o) o) (sym (capital_sign b 39 (omega arith)) ∙ (ap (λ (x : ℕ). eqb x 39) e ∙ capital_sign c 39 (omega arith)))

first_same : (o : Bool) (b c : ℕ) → capital b ≡ capital c → (o ≡ false → b ≡ c) → cond o (capital b) b ≡ cond o (capital c) c
first_same true b c e f = e
first_same false b c e f = f refl

raised_same : (o : Bool) (s r : List ℕ) → capitals s ≡ capitals r → ((p : ℕ) → open_after o (take p s) ≡ false → get_or s p 0 ≡ get_or r p 0) → raised o s ≡ raised o r
raised_same o [] [] e f = refl
raised_same o [] (c ∷ r) e f = never cc
raised_same o (b ∷ s) [] e f = never cc
raised_same o (b ∷ s) (c ∷ r) e f =
    let h : capital b ≡ capital c = cc in
    let t : capitals s ≡ capitals r = cc in
    ap₂ ◌∷◌ (first_same o b c h (f 0))
    (raised_same (flips o b) s r t (λ p. f (suc p)) ∙ ap (λ (q : Bool). raised q r) (flips_same o b c h))

recased_raised : (text text' : List ℕ) → RecasedText text text' → raised false text ≡ raised false text'
recased_raised text text' z =
    raised_same false text text' z.capital λ p e. z.others p λ q. no_both (sym q ∙ (sym (open_count (take p text)) ∙ e))

-- ── no reader tells a text from its raised one ──
abbrev raised_got : {A : Type 0} → Got A → Got A
raised_got (read a s) = read a (raised false s)
raised_got outside = outside

-- a reader of bytes outside quotes that reads the same of the raised text
record Keeps {A : Type 0} (g : List ℕ → Got A) : Type 0 where
  at : (s : List ℕ) → g (raised false s) ≡ raised_got (g s)

read_keeps : {A : Type 0} (a : A) → Keeps (read a)
read_keeps a = record { at = λ s. refl }

outside-keeps : {A : Type 0} → Keeps {A = A} (λ s. outside)
outside-keeps = record { at = λ s. refl }

next_raised : {A B : Type 0} (g : Got A) (k : A → List ℕ → Got B) → ((a : A) → Keeps (k a)) → next (raised_got g) k ≡ raised_got (next g k)
next_raised (read a s) k h = (h a).at s
next_raised outside k h = refl

next_keeps : {A B : Type 0} {g : List ℕ → Got A} {k : A → List ℕ → Got B} → Keeps g → ((a : A) → Keeps (k a)) → Keeps (λ s. next (g s) k)
next_keeps {g = g} {k = k} x h = record { at = λ s. ap (λ (y : Got _). next y k) (x.at s) ∙ next_raised (g s) k h }

-- ── signs ──
-- a byte that passes a test that no quote passes is no quote
no_quote : (f : ℕ → Bool) → f 39 ≡ false → (b : ℕ) → f b ≡ true → eqb b 39 ≡ false
no_quote f n b e = ne_eqb b 39 λ q. no_both (sym e ∙ (ap f q ∙ n))

blank_no_quote : (b : ℕ) → blank? b ≡ true → eqb b 39 ≡ false
unfolding blank?
blank_no_quote = no_quote blank? refl

word_no_quote : (b : ℕ) → word_byte? b ≡ true → eqb b 39 ≡ false
unfolding word_byte?
word_no_quote = no_quote word_byte? refl

capital_no_quote : (b : ℕ) → capital? b ≡ true → eqb b 39 ≡ false
unfolding capital?
capital_no_quote = no_quote capital? refl

skip_raised : (s : List ℕ) → skip (raised false s) ≡ raised false (skip s)
unfolding skip
skip_raised [] = refl
skip_raised (b ∷ s) =
    either_bool (blank? b) (λ e. simp (e, blank_no_quote b e) (skip_raised s)) (λ e. simp e)

behind_raised : (w : List ℕ) → has? 39 w ≡ false → (s : List ℕ) → behind w (raised false s) ≡ map (raised false) (behind w s)
behind_raised [] n s = refl
behind_raised (c ∷ w) n [] = refl
behind_raised (c ∷ w) n (b ∷ s) =
    either_bool (eqb c 39)
    (λ q. no_both (simp q at n))
    (λ q. either_eq b c
    (λ e. let r : eqb b 39 ≡ false = ap (λ (x : ℕ). eqb x 39) e ∙ q in simp (eq-eqb b c e, r) (behind_raised w (simp q at n) s))
    (λ e. simp (ne_eqb b c e)))

sign_raised : (w : List ℕ) → has? 39 w ≡ false → (s : List ℕ) → sign w (raised false s) ≡ map (raised false) (sign w s)
unfolding sign
sign_raised w n s = ap (behind w) (skip_raised s) ∙ behind_raised w n (skip s)

if_raised : {A : Type 0} (o : Option (List ℕ)) (k : List ℕ → Got A) (g g' : Got A) → Keeps k → g' ≡ raised_got g → if_sign (map (raised false) o) k g' ≡ raised_got (if_sign o k g)
if_raised (some s) k g g' x e = x.at s
if_raised none k g g' x e = e

sign_keeps : {A : Type 0} (w : List ℕ) → has? 39 w ≡ false → {k g : List ℕ → Got A} → Keeps k → Keeps g → Keeps (λ s. if_sign (sign w s) k (g s))
sign_keeps w n {k = k} {g = g} x y =
    record {
      at =
          λ s. ap (λ (o : Option (List ℕ)). if_sign o k (g (raised false s))) (sign_raised w n s)
          ∙ if_raised (sign w s) k (g s) (g (raised false s)) x (y.at s);
    }

-- nothing more, and the blanks behind it
end_keeps : {A : Type 0} → Keeps {A = List A} (λ s. read [] (skip s))
end_keeps = record { at = λ s. ap (read []) (skip_raised s) }

-- ── names ──
more_raised : (k n : ℕ) (s : List ℕ) → name_more k n (raised false s) ≡ raised_got (name_more k n s)
unfolding name_more
more_raised k n [] = refl
more_raised k n (b ∷ s) =
    either_bool (word_byte? b)
    (λ e. either_bool (eqb k 0)
    (λ q. simp (e, q))
    (λ q. simp (e, q, word_no_quote b e) (more_raised (k - 1) (256 * n + b) s)))
    (λ e. simp e)

from_raised : (s : List ℕ) → name_from (raised false s) ≡ raised_got (name_from s)
from_raised [] = refl
from_raised (b ∷ s) = either_bool (capital? b) (λ e. simp (e, capital_no_quote b e) (more_raised 7 b s)) (λ e. simp e)

name-keeps : Keeps name
unfolding name
name-keeps = record { at = λ s. ap name_from (skip_raised s) ∙ from_raised (skip s) }

-- ── labels ──
has_raised : (s : List ℕ) → has? 39 (raised true s) ≡ has? 39 s
has_raised [] = refl
has_raised (b ∷ s) =
    either_bool (eqb b 39)
    (λ e. simp (capital_sign b 39 (omega arith), e))
    (λ e. simp (capital_sign b 39 (omega arith), e) (has_raised s))

past_raised : (s : List ℕ) → past 39 (raised true s) ≡ raised false (past 39 s)
past_raised [] = refl
past_raised (b ∷ s) =
    either_bool (eqb b 39)
    (λ e. simp (capital_sign b 39 (omega arith), e))
    (λ e. simp (capital_sign b 39 (omega arith), e) (past_raised s))

quoted_raised : (s : List ℕ) → quoted (raised true s) ≡ raised_got (quoted s)
quoted_raised s = rw (has_raised s, raised_length true s, past_raised s) (go (has? 39 s))
  where
    go : (q : Bool) → cond q (read (length s) (raised false (past 39 s))) outside ≡ raised_got (cond q (read (length s) (past 39 s)) outside)
    go true = refl
    go false = refl

-- behind the opening quote a label begins
quote_raised : (s : List ℕ) → behind (39 ∷ []) (raised false s) ≡ map (raised true) (behind (39 ∷ []) s)
quote_raised [] = refl
quote_raised (b ∷ s) = either_bool (eqb b 39) (λ e. simp e) (λ e. simp e)

label_keeps : Keeps label
unfolding label sign
label_keeps =
    record {
      at =
          λ s. ap (λ (z : List ℕ). if_sign (behind (39 ∷ []) z) quoted outside) (skip_raised s)
          ∙ (ap (λ (o : Option (List ℕ)). if_sign o quoted outside) (quote_raised (skip s)) ∙ go (behind (39 ∷ []) (skip s)));
    }
  where
    go : (o : Option (List ℕ)) → if_sign (map (raised true) o) quoted outside ≡ raised_got (if_sign o quoted outside)
    go (some s) = quoted_raised s
    go none = refl

-- ── parts without a rule inside ──
same_keeps : Keeps read_same
unfolding read_same
same_keeps =
    sign_keeps open_sign refl
    (next_keeps name-keeps λ n. sign_keeps comma_sign refl
    (next_keeps name-keeps λ m. sign_keeps close_sign refl (read_keeps (pair 8 n m)) outside-keeps) outside-keeps) outside-keeps

has-keeps : (n : ℕ) → Keeps (read_has n)
unfolding read_has
has-keeps n = next_keeps label_keeps λ l. sign_keeps close_sign refl (read_keeps (has n l)) outside-keeps

relation-keeps : Keeps relation
unfolding relation
relation-keeps =
    sign_keeps less_sign refl (read_keeps 5)
    (sign_keeps overlaps_sign refl (read_keeps 6) (sign_keeps includes_sign refl (read_keeps 7) outside-keeps))

pair_keeps : (n : ℕ) → Keeps (read_pair n)
unfolding read_pair
pair_keeps n = next_keeps relation-keeps λ k. next_keeps name-keeps λ m. read_keeps (pair k n m)

atom_keeps : Keeps read_atom
unfolding read_atom
atom_keeps =
    sign_keeps same_sign refl same_keeps (next_keeps name-keeps λ n. sign_keeps open_sign refl (has-keeps n) (pair_keeps n))

-- ── rules ──
-- each law mirrors its reader; f is the bound on how deep the readers call each other
mutual
  unfolding read_or

  or-keeps : (f : ℕ) → Keeps (read_or f)
  or-keeps zero = outside-keeps
  or-keeps (suc f) = next_keeps (and_keeps f) λ t. next_keeps (more-or-keeps f) λ ts. read_keeps (either_all t ts)

  more-or-keeps : (f : ℕ) → Keeps (more_or f)
  more-or-keeps zero = outside-keeps
  more-or-keeps (suc f) =
      sign_keeps bar_sign refl (next_keeps (and_keeps f) λ t. next_keeps (more-or-keeps f) λ ts. read_keeps (t ∷ ts)) end_keeps

  and_keeps : (f : ℕ) → Keeps (read_and f)
  and_keeps zero = outside-keeps
  and_keeps (suc f) = next_keeps (not_keeps f) λ t. next_keeps (more-and-keeps f) λ ts. read_keeps (both_all t ts)

  more-and-keeps : (f : ℕ) → Keeps (more_and f)
  more-and-keeps zero = outside-keeps
  more-and-keeps (suc f) =
      sign_keeps and_sign refl (next_keeps (not_keeps f) λ t. next_keeps (more-and-keeps f) λ ts. read_keeps (t ∷ ts)) end_keeps

  not_keeps : (f : ℕ) → Keeps (read_not f)
  not_keeps zero = outside-keeps
  not_keeps (suc f) =
      sign_keeps not_sign refl (next_keeps (not_keeps f) λ t. read_keeps (neg t)) (sign_keeps exist_sign refl (some_keeps f) (operand_keeps f))

  some_keeps : (f : ℕ) → Keeps (read_some f)
  some_keeps zero = outside-keeps
  some_keeps (suc f) = next_keeps name-keeps λ n. next_keeps (body_keeps f) λ t. read_keeps (exists n t)

  body_keeps : (f : ℕ) → Keeps (read_body f)
  body_keeps zero = outside-keeps
  body_keeps (suc f) = sign_keeps comma_sign refl (some_keeps f) (sign_keeps dot_sign refl (or-keeps f) outside-keeps)

  operand_keeps : (f : ℕ) → Keeps (read_operand f)
  operand_keeps zero = outside-keeps
  operand_keeps (suc f) =
      sign_keeps open_sign refl (next_keeps (or-keeps f) λ t. sign_keeps close_sign refl (read_keeps t) outside-keeps) atom_keeps

-- ── a whole text ──
wholly_raised : (t : Tree) (s : List ℕ) → wholly t (raised false s) ≡ wholly t s
wholly_raised t [] = refl
wholly_raised t (b ∷ s) = refl

whole_raised : (g : Got Tree) → whole (raised_got g) ≡ whole g
whole_raised (read t s) = ap (wholly t) (skip_raised s) ∙ wholly_raised t (skip s)
whole_raised outside = refl

tree_raised : (text : List ℕ) → tree_of (raised false text) ≡ tree_of text
unfolding tree_of
tree_raised text =
    let n = 4 * length text + 4 in
    ap (λ (m : ℕ). whole (read_or (4 * m + 4) (raised false text))) (raised_length false text)
    ∙ (ap whole ((or-keeps n).at text) ∙ whole_raised (read_or n text))

text_raised : (text : List ℕ) → read_text (raised false text) ≡ read_text text
unfolding read_text
text_raised text = ap₂ (λ (n : ℕ) (t : Option Tree). cond (ltb 4096 n) none t) (raised_length false text) (tree_raised text)

-- ── the claims ──
pub text_recased : (text text' : List ℕ) → RecasedText text text' → read_text text ≡ read_text text'
text_recased text text' z = sym (text_raised text) ∙ (ap read_text (recased_raised text text' z) ∙ text_raised text')

-- a label's capitals, from the capitals of the text
label_capitals : (text : List ℕ) (n : ℕ) → label_text text n ≡ up_to 39 (drop (length (capitals text) - n) (capitals text))
unfolding label_text
label_capitals text n =
    sym (capitals_up 39 (omega arith) (drop (length text - n) text))
    ∙ (ap (up_to 39) (sym (capitals-drop (length text - n) text))
    ∙ ap (λ (m : ℕ). up_to 39 (drop (m - n) (capitals text))) (sym (length-map text capital)))

pub label_recased : (text text' : List ℕ) → RecasedText text text' → (n : ℕ) → label_text text n ≡ label_text text' n
label_recased text text' z n =
    label_capitals text n ∙ (ap (λ (s : List ℕ). up_to 39 (drop (length s - n) s)) z.capital ∙ sym (label_capitals text' n))

pub formula_text_recased : (text text' : List ℕ) → RecasedText text text' → (ns : Names) (t : Tree) → formula_for text ns t ≡ formula_for text' ns t
unfolding formula_for
formula_text_recased text text' z ns (either l r) =
    ap₂ (λ (f : Formula) (g : Formula). Formula.neg (Formula.both (Formula.neg f) (Formula.neg g)))
    (formula_text_recased text text' z ns l) (formula_text_recased text text' z ns r)
formula_text_recased text text' z ns (both l r) =
    ap₂ Formula.both (formula_text_recased text text' z ns l) (formula_text_recased text text' z ns r)
formula_text_recased text text' z ns (neg t) = ap Formula.neg (formula_text_recased text text' z ns t)
formula_text_recased text text' z ns (exists n t) = ap (Formula.exists (length ns)) (formula_text_recased text text' z (inside ns n) t)
formula_text_recased text text' z ns (has n l) = ap (Formula.has (level ns n)) (label_recased text text' z l)
formula_text_recased text text' z ns (pair q n m) = refl

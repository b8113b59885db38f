-- The labels of a rule file's formula are the file's: so they are of the right form, and at most as many as the file lists. The
-- renamed formula and the tree that says a formula have no other labels.
use Prim.Native.Nat.{ℕ, zero, suc, ◌+◌, ◌<◌, ◌≤◌}
use mathlib.Core.Path.{◌≡◌, refl, sym, subst}
use mathlib.Core.Logic.{◌≢◌}
use mathlib.Core.Bool.{true}
use mathlib.Core.List.{List, [], ◌∷◌}
use native.Mathlib.Omega.{arith}
use lib.ListN.{length, length-append}
use borrow.Author.Tests.{lt-ltb, le-ltb}
use Rattle.lists.specs.Lists.{all?}
use Rattle.lists.proofs.Lists.{Free}
use Rattle.lists.proofs.Cases.{either_eq, either_lt, and_left, and_right, no_both}
use Rattle.labels.specs.Label.{digit?, letter?, capitals, label_length?, label_form?}
use Rattle.labels.proofs.Capitals.{capitals-letters}
use Rattle.rules.specs.Formula.{Formula}
use Rattle.rules.specs.Parts.{label_count}
use Rattle.rules.specs.Labels.{label_bytes}
use Rattle.rules.specs.Table.{node_at, Good, formula_at}
use Rattle.rules.proofs.Formulas.{and_left_child, and_right_child, not_child, some_child, label_number, by_atom, formula-and, formula_not, formula_some, formula-has}
use Rattle.levels.specs.Levels.{Levels, binds, renamed}
use Rattle.spelling.proofs.RoundTrip.{Plain}
use Rattle.typed_grammar.specs.Grammar.{Tree}
use Rattle.typed_grammar.specs.Formula.{Names, formula_in}
use Rattle.typed_grammar.specs.File.{place_in, with_label}
use Rattle.typed_grammar.specs.Met.{LabelIn, in_left, in_right, in_first, in_second, in_not, in_some, here}
use Rattle.typed_checks.proofs.Numbers.{Among, among_new, among_kept}

-- each label of the formula is such as P says
abbrev pub Labelled : (List ℕ → Type 0) → Formula → Type 0
Labelled P (Formula.both f g) = Labelled P f × Labelled P g
Labelled P (Formula.neg f) = Labelled P f
Labelled P (Formula.exists v f) = Labelled P f
Labelled P (Formula.has v l) = P l
Labelled P (Formula.pair p v w) = Unit {0}

module _ (P : List ℕ → Type 0) where
  -- what holds for each label of the file holds for each label of the formula of a node
  pub labelled_below : (file : List ℕ) (p : ℕ) → ((i : ℕ) → i < label_count file → P (label_bytes file i)) → (m n : ℕ) → n < m → Good file p n
      → Labelled P (formula_at file p n)
  labelled_below file p l zero n h g = absurd (omega arith)
  labelled_below file p l (suc m) n h g =
      let x = node_at file p n in
      either_eq x.kind 1
      (λ k.
      let a = and_left_child file p n x refl g n refl k in
      let b = and_right_child file p n x refl g n refl k in
      subst (Labelled P) (sym (formula-and file p n x refl g k))
      (labelled_below file p l m x.a (omega (arith, a.0)) a.1, labelled_below file p l m x.b (omega (arith, b.0)) b.1))
      (λ n1. either_eq x.kind 2
      (λ k.
      let a = not_child file p n x refl g n refl k in
      subst (Labelled P) (sym (formula_not file p n x refl g k)) (labelled_below file p l m x.a (omega (arith, a.0)) a.1))
      (λ n2. either_eq x.kind 3
      (λ k.
      let a = some_child file p n x refl g n refl k in
      subst (Labelled P) (sym (formula_some file p n x refl g k)) (labelled_below file p l m x.b (omega (arith, a.0)) a.1))
      (λ n3.
      by_atom file p n x refl g n1 n2 n3
      (λ k. subst (Labelled P) (sym (formula-has file p n x refl g k)) (l x.b (label_number file p n x refl g n1 n2 n3 k)))
      (λ n4 f. subst (Labelled P) (sym f) tt))))

  -- renaming keeps the labels
  pub renamed-labelled : (f : Formula) (d : ℕ) (e : Levels) → Labelled P f → Labelled P (renamed d e f)
  unfolding renamed
  renamed-labelled (Formula.both f g) d e a = (renamed-labelled f d e a.0, renamed-labelled g d e a.1)
  renamed-labelled (Formula.neg f) d e a = renamed-labelled f d e a
  renamed-labelled (Formula.exists v f) d e a = renamed-labelled f (suc d) (binds e v d) a
  renamed-labelled (Formula.has v l) d e a = a
  renamed-labelled (Formula.pair p v w) d e a = tt

  -- a label of the tree is one of the formula that it says
  pub said_labelled : (t : Tree) (ns : Names) → Labelled P (formula_in ns t) → (l : List ℕ) → LabelIn l t → P l
  unfolding formula_in
  said_labelled (Tree.either t u) ns a l (in_left i) = said_labelled t ns a.0 l i
  said_labelled (Tree.either t u) ns a l (in_right i) = said_labelled u ns a.1 l i
  said_labelled (Tree.both t u) ns a l (in_first i) = said_labelled t ns a.0 l i
  said_labelled (Tree.both t u) ns a l (in_second i) = said_labelled u ns a.1 l i
  said_labelled (Tree.neg t) ns a l (in_not i) = said_labelled t ns a l i
  said_labelled (Tree.exists n t) ns a l (in_some i) = said_labelled t (n ∷ ns) a l i
  said_labelled (Tree.has n m) ns a l here = a
  said_labelled (Tree.pair _ _ _) ns a l x = elim x [ ]

  -- a formula whose labels are in capitals and have no quote
  pub labelled_plain : ((l : List ℕ) → P l → Free 39 l × (capitals l ≡ l)) → (f : Formula) → Labelled P f → Plain f
  labelled_plain q (Formula.both f g) a = (labelled_plain q f a.0, labelled_plain q g a.1)
  labelled_plain q (Formula.neg f) a = labelled_plain q f a
  labelled_plain q (Formula.exists v f) a = labelled_plain q f a
  labelled_plain q (Formula.has v l) a = q l a
  labelled_plain q (Formula.pair p v w) a = tt

-- ── no quote ──
-- a byte of a label is no quote
letter_other : (b : ℕ) → letter? b ≡ true → b ≢ 39
unfolding letter? digit?
letter_other b e q = no_both (sym (subst (λ (x : ℕ). letter? x ≡ true) q e))

-- so none of several is
letters_free : (l : List ℕ) → all? letter? l ≡ true → Free 39 l
letters_free [] e = tt
letters_free (b ∷ l) e =
    (letter_other b (and_left (letter? b) (all? letter? l) e), letters_free l (and_right (letter? b) (all? letter? l) e))

-- a label has no quote and is in capitals
pub label_plain : (l : List ℕ) → label_form? l ≡ true → Free 39 l × (capitals l ≡ l)
unfolding label_form?
label_plain l e =
    let f = and_right (label_length? (length l)) (all? letter? l) e in
    (letters_free l f, capitals-letters l f)

-- ── the list of a file's labels ──
-- the first n labels of the file
abbrev pub first_labels : List ℕ → ℕ → List (List ℕ)
first_labels file zero = []
first_labels file (suc n) = with_label (first_labels file n) (label_bytes file n)

-- one label more is at most one more
with_long : (ls : List (List ℕ)) (x : List ℕ) → length (with_label ls x) ≤ length ls + 1
unfolding with_label
with_long ls x =
    either_lt (place_in ls x) (length ls)
    (λ h. rw (lt-ltb (place_in ls x) (length ls) h) (omega arith))
    (λ h. rw (le-ltb (place_in ls x) (length ls) h) (omega (arith, length-append ls (x ∷ []))))

-- the list has at most n
pub first_long : (file : List ℕ) (n : ℕ) → length (first_labels file n) ≤ n
first_long file zero = omega arith
first_long file (suc n) = omega (arith, with_long (first_labels file n) (label_bytes file n), first_long file n)

-- each of them is in the list
pub first_has : (file : List ℕ) (n i : ℕ) → i < n → Among (first_labels file n) (label_bytes file i)
first_has file zero i h = absurd (omega arith)
first_has file (suc n) i h =
    either_eq i n
    (λ e. subst (λ (k : ℕ). Among (first_labels file (suc n)) (label_bytes file k)) (sym e) (among_new (first_labels file n) (label_bytes file n)))
    (λ e. among_kept (first_labels file n) (label_bytes file n) (label_bytes file i) (first_has file n i (omega arith)))

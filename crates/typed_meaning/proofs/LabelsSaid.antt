-- The labels that a typed rule lists are the labels that stand in it: each one once, and none else. So a rule has more than 16
-- different labels just where its list is longer than 16, and a wrong label just where its list has one.
use Prim.Native.Nat.{ℕ, zero, suc, ◌<◌, ◌≤◌}
use mathlib.Core.Path.{◌≡◌, sym, ap, subst, ◌∙◌}
use mathlib.Core.Bool.{true, false}
use mathlib.Core.List.{List, [], ◌∷◌, ◌++◌}
use native.Mathlib.Omega.{arith}
use lib.ListN.{length, get_or, length-append, get_or-append}
use lib.Seq.{get_or-append_seam}
use borrow.Author.Tests.{lt-ltb, le-ltb}
use Rattle.lists.specs.Lists.{same?}
use Rattle.lists.proofs.Lists.{same_refl}
use Rattle.lists.proofs.Cases.{either_lt, either_bool, and_left, and_right, no_both}
use Rattle.labels.specs.Label.{label_form?}
use Rattle.grammar.specs.Written.{IsLabel}
use Rattle.grammar.proofs.Written.{form_is_label}
use Rattle.atoms.specs.Tree as Kept
use Rattle.atoms.specs.Emit.{Names}
use Rattle.typed_formula.specs.Meaning.{label_text, formula_for}
use Rattle.typed_grammar.specs.Grammar.{Tree}
use Rattle.typed_grammar.specs.File.{place_in, with_label, labels_in, labels_of}
use Rattle.typed_grammar.specs.Met.{LabelIn, in_left, in_right, in_first, in_second, in_not, in_some, here, Different}
use Rattle.typed_grammar.proofs.Codes.{Codes, of_or, of_and, of_not, of_some, of_label, of_pair}
use Rattle.text_labels.specs.Pieces.{good_labels?}
use Rattle.typed_checks.proofs.Numbers.{Among, number_at_lem}
use Rattle.typed_file.proofs.Fine.{AllIn, all_in, labels_distinct}
use Rattle.typed_meaning.proofs.Pigeonhole.{NoneTwice, few-within}

-- ── what each label of a list is ──
-- each label of the list is such as P says
abbrev pub EachLabel : (List ℕ → Type 0) → List (List ℕ) → Type 0
EachLabel P ls = (i : ℕ) → i < length ls → P (get_or ls i [])

module _ (P : List ℕ → Type 0) where
  -- an empty list; one label more; a label more where it is new
  each_none : EachLabel P []
  each_none i h = absurd (omega arith)

  each_more : (ls : List (List ℕ)) (x : List ℕ) → EachLabel P ls → P x → EachLabel P (ls ++ (x ∷ []))
  each_more ls x a p i h =
      either_lt i (length ls)
      (λ k. subst P (sym (get_or-append ls (x ∷ []) [] i k)) (a i k))
      (λ k.
      let e : i ≡ length ls = omega (arith, length-append ls (x ∷ [])) in
      subst P (sym (ap (λ (j : ℕ). get_or (ls ++ (x ∷ [])) j []) e ∙ get_or-append_seam ls x [] [])) p)

  each_with : (ls : List (List ℕ)) (x : List ℕ) → EachLabel P ls → P x → EachLabel P (with_label ls x)
  unfolding with_label
  each_with ls x a p =
      either_lt (place_in ls x) (length ls)
      (λ h. rw (lt-ltb (place_in ls x) (length ls) h) a)
      (λ h. rw (le-ltb (place_in ls x) (length ls) h) (each_more ls x a p))

  -- what holds for each label of the tree holds for each label that the list gets from it
  each-listed : {text : List ℕ} {t : Tree} {u : Kept.Tree} → Codes text t u → (ns : Names) (ls : List (List ℕ))
      → ((l : List ℕ) → LabelIn l t → P l) → EachLabel P ls → EachLabel P (labels_in ls (formula_for text ns u))
  unfolding labels_in formula_for
  each-listed (of_or x y) ns ls p a = each-listed y ns _ (λ l i. p l (in_right i)) (each-listed x ns ls (λ l i. p l (in_left i)) a)
  each-listed (of_and x y) ns ls p a = each-listed y ns _ (λ l i. p l (in_second i)) (each-listed x ns ls (λ l i. p l (in_first i)) a)
  each-listed (of_not x) ns ls p a = each-listed x ns ls (λ l i. p l (in_not i)) a
  each-listed (of_some n x) ns ls p a = each-listed x _ ls (λ l i. p l (in_some i)) a
  each-listed {text} (of_label {q = q} n e) ns ls p a = each_with ls (label_text text q) a (subst P (sym e) (p _ here))
  each-listed (of_pair e low high n m) ns ls p a = a

-- a list that has the labels of the formula has each label of the tree
among_all : {text : List ℕ} {t : Tree} {u : Kept.Tree} → Codes text t u → (ns : Names) (ls : List (List ℕ)) → AllIn ls (formula_for text ns u) → (l : List ℕ) → LabelIn l t → Among ls l
unfolding formula_for
among_all (of_or x y) ns ls a l (in_left i) = among_all x ns ls a.0 l i
among_all (of_or x y) ns ls a l (in_right i) = among_all y ns ls a.1 l i
among_all (of_and x y) ns ls a l (in_first i) = among_all x ns ls a.0 l i
among_all (of_and x y) ns ls a l (in_second i) = among_all y ns ls a.1 l i
among_all (of_not x) ns ls a l (in_not i) = among_all x ns ls a l i
among_all (of_some n x) ns ls a l (in_some i) = among_all x _ ls a l i
among_all (of_label n e) ns ls a l here = subst (Among ls) e a
among_all (of_pair _ _ _ _ _) ns ls a l x = elim x [ ]

-- ── the form of labels ──
-- good labels are labels
good-each : (ls : List (List ℕ)) → good_labels? ls ≡ true → EachLabel IsLabel ls
good-each [] g i h = absurd (omega arith)
good-each (x ∷ ls) g zero h = (form_is_label x).0 (and_left (label_form? x) (good_labels? ls) g)
good-each (x ∷ ls) g (suc i) h = good-each ls (and_right (label_form? x) (good_labels? ls) g) i (omega arith)

-- of labels that are not all good, one that is no label
bad_one : (ls : List (List ℕ)) → good_labels? ls ≡ false → (i : ℕ) × (i < length ls) × (IsLabel (get_or ls i []) → ⊥)
bad_one [] g = no_both g
bad_one (x ∷ ls) g =
    either_bool (label_form? x)
    (λ p. let q : good_labels? ls ≡ false = simp p at g in let w = bad_one ls q in (suc w.0, omega (arith, w.1), w.2))
    (λ p. (0, omega arith, λ l. no_both (sym ((form_is_label x).1 l) ∙ p)))

-- ── the labels of a whole rule ──
module _ {text : List ℕ} {t : Tree} {u : Kept.Tree} (codes : Codes text t u) where
  -- a listed label stands in the tree
  pub listed_in : (i : ℕ) → i < length (labels_of (formula_for text [] u)) → LabelIn (get_or (labels_of (formula_for text [] u)) i []) t
  listed_in = each-listed (λ l. LabelIn l t) codes [] [] (λ l i. i) (each_none (λ l. LabelIn l t))

  -- a label of the tree is listed
  pub in_listed : (l : List ℕ) → LabelIn l t → place_in (labels_of (formula_for text [] u)) l < length (labels_of (formula_for text [] u))
  in_listed = among_all codes [] (labels_of (formula_for text [] u)) (all_in (formula_for text [] u) [])

  -- no label is listed twice
  none_twice : NoneTwice (labels_of (formula_for text [] u))
  none_twice i j h k e =
      let x = get_or (labels_of (formula_for text [] u)) j [] in
      no_both (sym (same_refl x) ∙ (ap (λ (y : List ℕ). same? y x) (sym e) ∙ labels_distinct (formula_for text [] u) i j h k))

  -- the listed labels are different labels of the tree
  pub listed-different : Different t (labels_of (formula_for text [] u))
  listed-different = record { among = listed_in; none_twice = none_twice }

  -- different labels of the tree are no more than the listed ones
  pub different-few : (ls : List (List ℕ)) → Different t ls → length ls ≤ length (labels_of (formula_for text [] u))
  different-few ls d = few-within ls (labels_of (formula_for text [] u)) d.none_twice (λ i h. in_listed (get_or ls i []) (d.among i h))

  -- where all listed labels are good, each label of the tree is a label
  pub good_labels : good_labels? (labels_of (formula_for text [] u)) ≡ true → (l : List ℕ) → LabelIn l t → IsLabel l
  good_labels g l i =
      let ls = labels_of (formula_for text [] u) in
      let a = in_listed l i in
      subst IsLabel (number_at_lem ls l a) (good-each ls g (place_in ls l) a)

  -- where not, some label of the tree is none
  pub bad_label : good_labels? (labels_of (formula_for text [] u)) ≡ false → (l : List ℕ) × LabelIn l t × (IsLabel l → ⊥)
  bad_label g =
      let ls = labels_of (formula_for text [] u) in
      let w = bad_one ls g in
      (get_or ls w.0 [], listed_in w.0 w.1, w.2)

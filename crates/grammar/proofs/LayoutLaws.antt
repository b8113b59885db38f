-- What stands at a place of a file, and how a file as a concatenation grows: by one label at the end of its labels, by one node at
-- the end of its nodes. So the parts that reading takes one after another are the parts that the file is made of.
use Prim.Native.Nat.{ℕ, suc, ◌+◌, ◌<◌}
use mathlib.Core.Path.{◌≡◌, refl, sym, subst, ap, ◌∙◌}
use mathlib.Core.Logic.{◌≢◌}
use mathlib.Core.Bool.{true, ◌&&◌}
use mathlib.Core.List.{List, [], ◌∷◌, ◌++◌, append_assoc}
use native.Mathlib.Omega.{arith}
use lib.Dec.{ltb}
use lib.ListN.{length, get_or, take, drop, length-append, get_or-append}
use lib.Seq.{get_or-drop, drop-drop, drop-append_seam, take-append_seam, get_or-append_seam}
use borrow.Author.Tests.{ltb-true, lt-ltb}
use Rattle.lists.proofs.Cases.{either_eq, either_lt, no_both, and_left, and_right}
use Rattle.lists.proofs.Lists.{append-nil}
use Rattle.rules.specs.Parts.{byte}
use Rattle.rules.specs.Limits.{variables}
use Rattle.rules.specs.Table.{fields_ok}
use Rattle.rules.specs.declared.Node.{Node}
use Rattle.rules.proofs.Nodes.{fields-and, fields_not, fields_some, fields-has, fields_pair, fields_zero, fields_none}
use Rattle.labels.specs.Label.{capitals}
use Rattle.grammar.specs.Written.{IsLabel}
use Rattle.grammar.specs.Layout.{labels_part, nodes_part, RightLabels, InRange, and, not, some, has_label, between}

-- ── what stands at a place ──
-- from place p on the file is rest
pub record Stands (file : List ℕ) (p : ℕ) (rest : List ℕ) : Type 0 where
  pub size : length file ≡ p + length rest
  pub from : drop p file ≡ rest

module _ {file : List ℕ} {p : ℕ} where
  pub stands_byte : {y : ℕ} {ys : List ℕ} → Stands file p (y ∷ ys) → byte file p ≡ y
  stands_byte {y} {ys} s =
      let z : p ≡ p + 0 = omega arith in
      ap (byte file) z ∙ (sym (get_or-drop p file 0 0) ∙ ap (λ (l : List ℕ). get_or l 0 0) s.from)

  pub stands_next : {y : ℕ} {ys : List ℕ} → Stands file p (y ∷ ys) → Stands file (p + 1) ys
  stands_next {y} {ys} s =
      record {
        size = omega (arith, s.size);
        from = sym (drop-drop 1 p file) ∙ ap (drop 1) s.from;
      }

  -- the first bytes, and what stands behind them
  pub stands_first : (l ys : List ℕ) → Stands file p (l ++ ys) → take (length l) (drop p file) ≡ l
  stands_first l ys s = ap (take (length l)) s.from ∙ take-append_seam l ys

  pub stands-past : (l ys : List ℕ) → Stands file p (l ++ ys) → Stands file (p + length l) ys
  stands-past l ys s =
      record {
        size = omega (arith, s.size, length-append l ys);
        from = sym (drop-drop (length l) p file) ∙ (ap (drop (length l)) s.from ∙ drop-append_seam l ys);
      }

pub stands_at : {file rest : List ℕ} {p : ℕ} (q : ℕ) → p ≡ q → Stands file p rest → Stands file q rest
stands_at {file} {rest} q e s = subst (λ (k : ℕ). Stands file k rest) e s

-- ── one label more ──
pub labels_more : (ls : List (List ℕ)) (l : List ℕ) → labels_part (ls ++ (l ∷ [])) ≡ labels_part ls ++ (length l ∷ l)
labels_more [] l = ap (λ (s : List ℕ). length l ∷ s) (append-nil l)
labels_more (x ∷ ls) l = ap (λ (s : List ℕ). (length x ∷ x) ++ s) (labels_more ls l) ∙ sym (append_assoc (length x ∷ x) (labels_part ls) (length l ∷ l))

-- what a list with one more at its end has at each place
module _ {A : Type 0} (d : A) (xs : List A) (x : A) where
  pub more-length : length (xs ++ (x ∷ [])) ≡ suc (length xs)
  more-length = omega (arith, length-append xs (x ∷ []))

  pub more_before : (i : ℕ) → i < length xs → get_or (xs ++ (x ∷ [])) i d ≡ get_or xs i d
  more_before i h = get_or-append xs (x ∷ []) d i h

  pub more_last : get_or (xs ++ (x ∷ [])) (length xs) d ≡ x
  more_last = get_or-append_seam xs x [] d

  -- so that what holds of each and of the last holds of all
  pub more-each : (P : ℕ → A → Type 0) → ((i : ℕ) → i < length xs → P i (get_or xs i d)) → P (length xs) x
      → (i : ℕ) → i < length (xs ++ (x ∷ [])) → P i (get_or (xs ++ (x ∷ [])) i d)
  more-each P each last i h =
      either_eq i (length xs)
      (λ e. subst (λ (k : ℕ). P k (get_or (xs ++ (x ∷ [])) k d)) (sym e) (subst (P (length xs)) (sym more_last) last))
      (λ n. let k : i < length xs = omega (arith, more-length) in subst (P i) (sym (more_before i k)) (each i k))

pub right_more : (ls : List (List ℕ)) (l : List ℕ) → RightLabels ls → IsLabel (capitals l) → ((i : ℕ) → i < length ls → capitals (get_or ls i []) ≢ capitals l) → RightLabels (ls ++ (l ∷ []))
right_more ls l r o new =
    record {
      each = more-each [] ls l (λ _ x. IsLabel (capitals x)) r.each o;
      none_twice = λ i j h k.
          more-each [] ls l (λ j x. i < j → capitals (get_or (ls ++ (l ∷ [])) i []) ≢ capitals x)
          (λ j k h e. r.none_twice i j h k (ap capitals (sym (more_before [] ls l i (omega arith))) ∙ e))
          (λ h e. new i h (ap capitals (sym (more_before [] ls l i h)) ∙ e)) j k h;
    }

-- of labels that are right, the one behind ls is a label and none of ls
module _ (ls : List (List ℕ)) (l : List ℕ) (more : List (List ℕ)) (r : RightLabels (ls ++ (l ∷ more))) where
  here : length ls < length (ls ++ (l ∷ more))
  here = omega (arith, length-append ls (l ∷ more))

  pub right_next : IsLabel (capitals l)
  right_next = subst (λ (x : List ℕ). IsLabel (capitals x)) (get_or-append_seam ls l more []) (r.each (length ls) here)

  pub right_new : (i : ℕ) → i < length ls → capitals (get_or ls i []) ≢ capitals l
  right_new i h e = r.none_twice i (length ls) h here (ap capitals (get_or-append ls (l ∷ more) [] i h) ∙ (e ∙ ap capitals (sym (get_or-append_seam ls l more []))))

-- ── one node more ──
pub nodes_more : (xs : List Node) (x : Node) → nodes_part (xs ++ (x ∷ [])) ≡ nodes_part xs ++ (x.kind ∷ x.a ∷ x.b ∷ [])
nodes_more [] x = refl
nodes_more (y ∷ xs) x = ap (λ (s : List ℕ). y.kind ∷ y.a ∷ y.b ∷ s) (nodes_more xs x)

-- ── the table of kinds ──
two_below : (a b m n : ℕ) → (ltb a m && ltb b n) ≡ true → (a < m) × (b < n)
two_below a b m n e = (ltb-true a m (and_left (ltb a m) (ltb b n) e), ltb-true b n (and_right (ltb a m) (ltb b n) e))

both_below : (a b m n : ℕ) → a < m → b < n → true ≡ (ltb a m && ltb b n)
both_below a b m n h k = simp (lt-ltb a m h, lt-ltb b n k)

-- the test of a node's kind and fields says what the table of kinds says
module _ (l n : ℕ) (x : Node) where
  pub range_ok : InRange l n x → fields_ok l n x ≡ true
  range_ok (and k a b) = sym (fields-and l n x true (both_below _ _ _ _ a b) k)
  range_ok (not k a b) = sym (fields_not l n x true (both_below x.a x.b n 1 a (omega arith)) k)
  range_ok (some k a b) = sym (fields_some l n x true (both_below x.a x.b variables n (omega arith) b) k)
  range_ok (has_label k a b) = sym (fields-has l n x true (both_below x.a x.b variables l (omega arith) b) k)
  range_ok (between k m a b) = sym (fields_pair l n x true (both_below x.a x.b variables variables (omega arith) (omega arith)) (omega arith) m)

  pub ok_range : fields_ok l n x ≡ true → InRange l n x
  ok_range h =
      either_eq x.kind 1
      (λ k. let f = two_below x.a x.b n n (fields-and l n x _ refl k ∙ h) in and k f.0 f.1)
      λ n1.
      either_eq x.kind 2
      (λ k. let f = two_below x.a x.b n 1 (fields_not l n x _ refl k ∙ h) in not k f.0 (omega (arith, f.1)))
      λ n2.
      either_eq x.kind 3
      (λ k. let f = two_below x.a x.b variables n (fields_some l n x _ refl k ∙ h) in some k (omega (arith, f.0)) f.1)
      λ n3.
      either_eq x.kind 4
      (λ k. let f = two_below x.a x.b variables l (fields-has l n x _ refl k ∙ h) in has_label k (omega (arith, f.0)) f.1)
      λ n4.
      either_eq x.kind 0
      (λ k. no_both (sym (fields_zero l n x k ∙ h)))
      λ n0.
      either_lt 8 x.kind
      (λ k. no_both (sym (fields_none l n x k ∙ h)))
      (λ k. let f = two_below x.a x.b variables variables (fields_pair l n x _ refl (omega arith) k ∙ h) in between (omega arith) k (omega (arith, f.0)) (omega (arith, f.1)))

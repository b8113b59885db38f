-- The relations of a tree that a text has are of kinds 5 to 8.
use Prim.Native.Nat.{ℕ, zero, suc, ◌≤◌}
use mathlib.Core.Option.{Option, none, some}
use mathlib.Core.List.{List, [], ◌∷◌}
use native.Mathlib.Omega.{arith}
use Rattle.signs.specs.Signs.{Got, read, outside, next, if_sign, sign, name, label, skip}
use Rattle.atoms.specs.Tree.{Tree, either, both, either_all, both_all}
use Rattle.signs.specs.Signs.{bar_sign, and_sign, not_sign, exist_sign, open_sign, close_sign, comma_sign, dot_sign, same_sign, less_sign, overlaps_sign, includes_sign}
use Rattle.atoms.specs.Atoms.{relation, read_same, read_has, read_pair, read_atom}
use Rattle.typed.specs.Grammar.{read_or, more_or, read_and, more_and, read_not, read_some, read_body, read_operand}
use Rattle.typed_formula.proofs.FileSays.{Known}

abbrev pub Every : {A : Type 0} → (A → Type 0) → Got A → Type 0
Every P (read a s) = P a
Every P outside = Unit {0}

abbrev Any : {A : Type 0} → A → Type 0
Any a = Unit {0}

every_any : {A : Type 0} (g : Got A) → Every (λ (a : A). Unit {0}) g
every_any (read a s) = tt
every_any outside = tt

module _ {A B : Type 0} (P : A → Type 0) (Q : B → Type 0) where
  every_next : (g : Got A) (h : A → List ℕ → Got B) → Every P g → ((a : A) (s : List ℕ) → P a → Every Q (h a s)) → Every Q (next g h)
  every_next (read a s) h e f = f a s e
  every_next outside h e f = tt

every_if : {A : Type 0} (P : A → Type 0) (o : Option (List ℕ)) (f : List ℕ → Got A) (z : Got A) → ((s : List ℕ) → Every P (f s)) → Every P z → Every P (if_sign o f z)
every_if P (some s) f z a b = a s
every_if P none f z a b = b

abbrev AllKnown : List Tree → Type 0
AllKnown [] = Unit {0}
AllKnown (t ∷ ts) = Known t × AllKnown ts

either_known : (t : Tree) (ts : List Tree) → Known t → AllKnown ts → Known (either_all t ts)
either_known t [] a b = a
either_known t (u ∷ ts) a b = either_known (either t u) ts (a, b.0) b.1

both_known : (t : Tree) (ts : List Tree) → Known t → AllKnown ts → Known (both_all t ts)
both_known t [] a b = a
both_known t (u ∷ ts) a b = both_known (both t u) ts (a, b.0) b.1

abbrev Kind : ℕ → Type 0
Kind q = (5 ≤ q) × (q ≤ 8)

relation-kind : (s : List ℕ) → Every Kind (relation s)
unfolding relation
relation-kind s =
    every_if Kind (sign less_sign s) (λ r. read 5 r) (if_sign (sign overlaps_sign s) (λ r. read 6 r) (if_sign (sign includes_sign s) (λ r. read 7 r) outside)) (λ r. (omega arith, omega arith))
    (every_if Kind (sign overlaps_sign s) (λ r. read 6 r) (if_sign (sign includes_sign s) (λ r. read 7 r) outside) (λ r. (omega arith, omega arith))
    (every_if Kind (sign includes_sign s) (λ r. read 7 r) outside (λ r. (omega arith, omega arith)) tt))

same_known : (s : List ℕ) → Every Known (read_same s)
unfolding read_same
same_known s =
    every_if Known (sign open_sign s) _ outside
    (λ s1. every_next Any Known (name s1) _ (every_any (name s1)) λ n s2 _. every_if Known (sign comma_sign s2) _ outside
    (λ s3. every_next Any Known (name s3) _ (every_any (name s3)) λ m s4 _. every_if Known (sign close_sign s4) _ outside (λ s5. (omega arith, omega arith)) tt) tt) tt

has_known : (n : ℕ) (s : List ℕ) → Every Known (read_has n s)
unfolding read_has
has_known n s = every_next Any Known (label s) _ (every_any (label s)) λ l s1 _. every_if Known (sign close_sign s1) _ outside (λ s2. tt) tt

pair_known : (n : ℕ) (s : List ℕ) → Every Known (read_pair n s)
unfolding read_pair
pair_known n s = every_next Kind Known (relation s) _ (relation-kind s) λ q s1 k. every_next Any Known (name s1) _ (every_any (name s1)) λ m s2 _. k

atom_known : (s : List ℕ) → Every Known (read_atom s)
unfolding read_atom
atom_known s =
    every_if Known (sign same_sign s) read_same _ same_known
    (every_next Any Known (name s) _ (every_any (name s)) λ n s1 _. every_if Known (sign open_sign s1) _ (read_pair n s1) (λ s2. has_known n s2) (pair_known n s1))

mutual
  unfolding read_or

  pub or_known : (f : ℕ) (s : List ℕ) → Every Known (read_or f s)
  or_known zero s = tt
  or_known (suc f) s =
      every_next Known Known (read_and f s) _ (and_known f s) λ t s1 k. every_next AllKnown Known (more_or f s1) _ (ors_known f s1) λ ts s2 ks. either_known t ts k ks

  ors_known : (f : ℕ) (s : List ℕ) → Every AllKnown (more_or f s)
  ors_known zero s = tt
  ors_known (suc f) s =
      every_if AllKnown (sign bar_sign s) _ (read [] (skip s))
      (λ s1. every_next Known AllKnown (read_and f s1) _ (and_known f s1) λ t s2 k. every_next AllKnown AllKnown (more_or f s2) _ (ors_known f s2) λ ts s3 ks. (k, ks)) tt

  and_known : (f : ℕ) (s : List ℕ) → Every Known (read_and f s)
  and_known zero s = tt
  and_known (suc f) s =
      every_next Known Known (read_not f s) _ (not_known f s) λ t s1 k. every_next AllKnown Known (more_and f s1) _ (ands_known f s1) λ ts s2 ks. both_known t ts k ks

  ands_known : (f : ℕ) (s : List ℕ) → Every AllKnown (more_and f s)
  ands_known zero s = tt
  ands_known (suc f) s =
      every_if AllKnown (sign and_sign s) _ (read [] (skip s))
      (λ s1. every_next Known AllKnown (read_not f s1) _ (not_known f s1) λ t s2 k. every_next AllKnown AllKnown (more_and f s2) _ (ands_known f s2) λ ts s3 ks. (k, ks)) tt

  not_known : (f : ℕ) (s : List ℕ) → Every Known (read_not f s)
  not_known zero s = tt
  not_known (suc f) s =
      every_if Known (sign not_sign s) _ _ (λ s1. every_next Known Known (read_not f s1) _ (not_known f s1) λ t s2 k. k)
      (every_if Known (sign exist_sign s) _ (read_operand f s) (λ s1. some_known f s1) (operand_known f s))

  some_known : (f : ℕ) (s : List ℕ) → Every Known (read_some f s)
  some_known zero s = tt
  some_known (suc f) s = every_next Any Known (name s) _ (every_any (name s)) λ n s1 _. every_next Known Known (read_body f s1) _ (body_known f s1) λ t s2 k. k

  body_known : (f : ℕ) (s : List ℕ) → Every Known (read_body f s)
  body_known zero s = tt
  body_known (suc f) s =
      every_if Known (sign comma_sign s) _ _ (λ s1. some_known f s1) (every_if Known (sign dot_sign s) _ outside (λ s1. or_known f s1) tt)

  operand_known : (f : ℕ) (s : List ℕ) → Every Known (read_operand f s)
  operand_known zero s = tt
  operand_known (suc f) s =
      every_if Known (sign open_sign s) _ (read_atom s)
      (λ s1. every_next Known Known (read_or f s1) _ (or_known f s1) λ t s2 k. every_if Known (sign close_sign s2) _ outside (λ s3. k) tt) (atom_known s)

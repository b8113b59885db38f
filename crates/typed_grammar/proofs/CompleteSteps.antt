-- One step of each reader of the grammar, by what is found at the front of the text. These laws alone look at how the readers count their
-- bound down: a reader with the bound f + 1 finds a sign and leaves the rest to readers with the bound f.
use Prim.Native.Nat.{ℕ, suc, ◌+◌, ◌*◌, ◌≤◌}
use mathlib.Core.Path.{◌≡◌}
use mathlib.Core.Option.{none, some}
use mathlib.Core.List.{List, [], ◌∷◌}
use lib.ListN.{length}
use borrow.Author.Tests.{le-ltb}
use Rattle.signs.specs.Signs.{read, skip, sign, name, label, bar_sign, and_sign, not_sign, open_sign, close_sign, comma_sign, dot_sign, less_sign, overlaps_sign, includes_sign, exist_sign, same_sign}
use Rattle.atoms.specs.Tree as Kept
use Rattle.atoms.specs.Atoms.{read_same, read_has, relation, read_pair, read_atom}
use Rattle.typed.specs.Grammar.{read_or, more_or, read_and, more_and, read_not, read_some, tree_of, read_text}

-- ── one step of each reader ──
module _ (f : ℕ) (s : List ℕ) where
  -- `!`, then an operand
  pub not_step : (a b : List ℕ) (t : Kept.Tree) → sign not_sign s ≡ some a → read_not f a ≡ read t b → read_not (suc f) s ≡ read (Kept.neg t) b
  unfolding read_or
  not_step a b t p q = rw (p, q)

  -- "exist", then names
  pub exist_step : (a b : List ℕ) (t : Kept.Tree) → sign not_sign s ≡ none → sign exist_sign s ≡ some a → read_some f a ≡ read t b → read_not (suc f) s ≡ read t b
  unfolding read_or
  exist_step a b t p q h = rw (p, q, h)

  -- a rule in brackets
  pub bracket_step : (a b c : List ℕ) (t : Kept.Tree) → sign not_sign s ≡ none → sign exist_sign s ≡ none → sign open_sign s ≡ some a
      → read_or f a ≡ read t b → sign close_sign b ≡ some c → read_not (suc (suc f)) s ≡ read t c
  unfolding read_or
  bracket_step a b c t p q o h i = rw (p, q, o, h, i)

  -- a part without a rule inside
  pub atom_step : (a : List ℕ) (t : Kept.Tree) → sign not_sign s ≡ none → sign exist_sign s ≡ none → sign open_sign s ≡ none
      → read_atom s ≡ read t a → read_not (suc (suc f)) s ≡ read t a
  unfolding read_or
  atom_step a t p q o h = rw (p, q, o) h

  -- the last name, and the rule behind it
  pub last_step : (a b c : List ℕ) (n : ℕ) (t : Kept.Tree) → name s ≡ read n a → sign comma_sign a ≡ none → sign dot_sign a ≡ some b
      → read_or f b ≡ read t c → read_some (suc (suc f)) s ≡ read (Kept.exists n t) c
  unfolding read_or
  last_step a b c n t p q h i = rw (p, q, h, i)

  -- a name, and more names behind it
  pub next_step : (a b c : List ℕ) (n : ℕ) (t : Kept.Tree) → name s ≡ read n a → sign comma_sign a ≡ some b
      → read_some f b ≡ read t c → read_some (suc (suc f)) s ≡ read (Kept.exists n t) c
  unfolding read_or
  next_step a b c n t p q h = rw (p, q, h)

  -- an operand, and more behind it
  pub and_first : (a b : List ℕ) (t : Kept.Tree) (ts : List Kept.Tree) → read_not f s ≡ read t a → more_and f a ≡ read ts b
      → read_and (suc f) s ≡ read (Kept.both_all t ts) b
  unfolding read_or
  and_first a b t ts p q = rw (p, q)

  -- a further operand, and more behind it
  pub and-more : (a b c : List ℕ) (t : Kept.Tree) (ts : List Kept.Tree) → sign and_sign s ≡ some a → read_not f a ≡ read t b
      → more_and f b ≡ read ts c → more_and (suc f) s ≡ read (t ∷ ts) c
  unfolding read_or
  and-more a b c t ts p q h = rw (p, q, h)

  -- no further operand
  pub and_end : sign and_sign s ≡ none → more_and (suc f) s ≡ read [] (skip s)
  unfolding read_or
  and_end p = rw p

  -- a side, and more behind it
  pub or_first : (a b : List ℕ) (t : Kept.Tree) (ts : List Kept.Tree) → read_and f s ≡ read t a → more_or f a ≡ read ts b
      → read_or (suc f) s ≡ read (Kept.either_all t ts) b
  unfolding read_or
  or_first a b t ts p q = rw (p, q)

  -- a further side, and more behind it
  pub or-more : (a b c : List ℕ) (t : Kept.Tree) (ts : List Kept.Tree) → sign bar_sign s ≡ some a → read_and f a ≡ read t b
      → more_or f b ≡ read ts c → more_or (suc f) s ≡ read (t ∷ ts) c
  unfolding read_or
  or-more a b c t ts p q h = rw (p, q, h)

  -- no further side
  pub or_end : sign bar_sign s ≡ none → more_or (suc f) s ≡ read [] (skip s)
  unfolding read_or
  or_end p = rw p

-- ── parts without a rule inside ──
module _ (s : List ℕ) where
  -- `A('TEST')`
  pub has-step : (a b c d : List ℕ) (n q : ℕ) → sign same_sign s ≡ none → name s ≡ read n a → sign open_sign a ≡ some b → label b ≡ read q c
      → sign close_sign c ≡ some d → read_atom s ≡ read (Kept.has n q) d
  unfolding read_atom read_has
  has-step a b c d n q p h i j k = rw (p, h, i, j, k)

  -- `same(A,B)`
  pub same_step : (a b c d e g : List ℕ) (n m : ℕ) → sign same_sign s ≡ some a → sign open_sign a ≡ some b → name b ≡ read n c → sign comma_sign c ≡ some d
      → name d ≡ read m e → sign close_sign e ≡ some g → read_atom s ≡ read (Kept.pair 8 n m) g
  unfolding read_atom read_same
  same_step a b c d e g n m p h i j k l = rw (p, h, i, j, k, l)

  -- `A < B`, `A o B`, `A i B`
  pub pair_step : (a b c : List ℕ) (n k m : ℕ) → sign same_sign s ≡ none → name s ≡ read n a → sign open_sign a ≡ none → relation a ≡ read k b
      → name b ≡ read m c → read_atom s ≡ read (Kept.pair k n m) c
  unfolding read_atom read_pair
  pair_step a b c n k m p h i j l = rw (p, h, i, j, l)

  -- `<`
  pub before_step : (a : List ℕ) → sign less_sign s ≡ some a → relation s ≡ read 5 a
  unfolding relation
  before_step a p = rw p

  -- `o`
  pub overlaps_step : (a : List ℕ) → sign less_sign s ≡ none → sign overlaps_sign s ≡ some a → relation s ≡ read 6 a
  unfolding relation
  overlaps_step a p q = rw (p, q)

  -- `i`
  pub includes_step : (a : List ℕ) → sign less_sign s ≡ none → sign overlaps_sign s ≡ none → sign includes_sign s ≡ some a → relation s ≡ read 7 a
  unfolding relation
  includes_step a p q h = rw (p, q, h)

-- ── a whole text ──
-- one rule, and only blanks behind it
pub text_read : (text e : List ℕ) (u : Kept.Tree) → length text ≤ 4096 → read_or (4 * length text + 4) text ≡ read u e → skip e ≡ [] → read_text text ≡ some u
unfolding read_text tree_of
text_read text e u h p q = rw (le-ltb 4096 (length text) h, p, q)

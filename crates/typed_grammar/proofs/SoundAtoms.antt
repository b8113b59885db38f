-- What a reader of rules answers says a tree of the grammar: what that means, and the parts without a rule inside.
use Prim.Native.Nat.{ℕ, ◌≤◌}
use mathlib.Core.Path.{◌≡◌, refl, sym, subst}
use mathlib.Core.Option.{Option, none, some}
use mathlib.Core.List.{List, ◌∷◌}
use native.Mathlib.Omega.{arith}
use Rattle.rules.specs.Formula.{Pairing}
use Rattle.rules.specs.Table.{pairing_of}
use Rattle.signs.specs.Signs.{Got, read, outside, next, if_sign, sign, open_sign, close_sign, comma_sign, less_sign, overlaps_sign, includes_sign, same_sign, and_sign, bar_sign}
use Rattle.signs.specs.Signs as Reader
use Rattle.atoms.specs.Tree as Kept
use Rattle.atoms.specs.Atoms.{read_same, read_has, relation, read_pair, read_atom}
use Rattle.labels.specs.Label.{capitals}
use Rattle.typed_formula.specs.Meaning.{label_text}
use Rattle.typed_grammar.specs.Words.{Mark, mark_bytes, opens, closes, comma, before, overlaps, includes, same, Sign, mark, name, label, IsName, Signs}
use Rattle.typed_grammar.specs.Grammar.{Tree, exists, has, pair, Relation, is_before, is_overlaps, is_includes, Part, rule, side, operand, names, Begins, has_label, same_label}
use Rattle.typed_grammar.specs.Grammar as Grammar
use Rattle.typed_grammar.proofs.Codes.{name_number, Codes, of_some, of_label, of_pair}
use Rattle.typed_grammar.proofs.SoundSigns.{EndOf, Past, mark_found, Named, ReadsName, reads-name, Labelled, ReadsLabel, reads_label}

-- ── going on behind a part, and by whether a sign is there ──
module _ {A B : Type 0} (P : Got A → Type 0) (Q : Got B → Type 0) (z : Q outside) where
  -- what holds of the part that was read makes hold what follows
  pub next_by : (g : Got A) (k : A → List ℕ → Got B) → P g → ((a : A) (r : List ℕ) → P (read a r) → Q (k a r)) → Q (next g k)
  next_by (read a r) k p f = f a r p
  next_by outside k p f = z

-- a sign is there, or is not
pub sign_by : {B : Type 0} (Q : Got B → Type 0) (o : Option (List ℕ)) (k : List ℕ → Got B) (z : Got B) → ((r : List ℕ) → o ≡ some r → Q (k r)) → (o ≡ none → Q z) → Q (if_sign o k z)
sign_by Q (some r) k z f g = f r refl
sign_by Q none k z f g = g refl

-- ── what an answer says ──
-- what was read of s, before the signs that are left, says a tree of this part, and the kept tree is its
pub record Sense (text s : List ℕ) (p : Part) (u : Kept.Tree) (rest : List Sign) : Type 0 where
  pub signs : List Sign
  pub tree : Tree
  pub row : Signs s signs
  pub reads : Begins p signs tree rest
  pub codes : Codes text tree u

-- neither `&` nor `|` follows
pub record Ended (r : List ℕ) : Type 0 where
  pub no_and : sign and_sign r ≡ none
  pub no_bar : sign bar_sign r ≡ none

-- what follows a part does not go on with it
abbrev pub Stops : Part → List ℕ → Type 0
Stops rule r = Ended r
Stops side r = sign and_sign r ≡ none
Stops operand r = Unit {0}
Stops names r = Ended r

-- a part that was read: what is left is an end of the text, does not go on with the part, and its signs follow the part's
pub record ReadOf (text s : List ℕ) (p : Part) (u : Kept.Tree) (r : List ℕ) : Type 0 where
  pub tail : EndOf text r
  pub stops : Stops p r
  pub sense : (rest : List Sign) → Signs r rest → Sense text s p u rest

abbrev pub Reads : List ℕ → List ℕ → Part → Got Kept.Tree → Type 0
Reads text s p (read u r) = ReadOf text s p u r
Reads text s p outside = Unit {0}

-- ── the sign of a relation ──
-- the mark, what it says, and its number
pub record Related (text s : List ℕ) (k : ℕ) (r : List ℕ) : Type 0 where
  pub by : Mark
  pub pairing : Pairing
  pub is : Relation by pairing
  pub kind : pairing_of k ≡ pairing
  pub low : 5 ≤ k
  pub high : k ≤ 8
  pub past : Past text s by r

abbrev pub Relates : List ℕ → List ℕ → Got ℕ → Type 0
Relates text s (read k r) = Related text s k r
Relates text s outside = Unit {0}

module _ (text s : List ℕ) (d : EndOf text s) where
  -- a mark of a relation that was found
  related : (m : Mark) (p : Pairing) (k : ℕ) (r : List ℕ) → Relation m p → pairing_of k ≡ p → 5 ≤ k → k ≤ 8 → sign (mark_bytes m) s ≡ some r → Related text s k r
  related m p k r i q l h e = record { by = m; pairing = p; is = i; kind = q; low = l; high = h; past = mark_found text s m r d e }

  -- the reader of a relation's mark
  reads-relation : Relates text s (relation s)
  unfolding relation
  reads-relation =
      sign_by (Relates text s) (sign less_sign s) _ _ (λ r e. related before Pairing.before 5 r is_before refl (omega arith) (omega arith) e)
      (λ _. sign_by (Relates text s) (sign overlaps_sign s) _ _ (λ r e. related overlaps Pairing.overlaps 6 r is_overlaps refl (omega arith) (omega arith) e)
      (λ _. sign_by (Relates text s) (sign includes_sign s) _ outside (λ r e. related includes Pairing.includes 7 r is_includes refl (omega arith) (omega arith) e) (λ _. tt)))

-- ── codes of names that were read ──
module _ (text : List ℕ) where
  -- of a name that "exist" binds
  pub coded_some : (n : List ℕ) (t : Tree) (v : ℕ) (u : Kept.Tree) → IsName n → v ≡ name_number n → Codes text t u → Codes text (exists n t) (Kept.exists v u)
  coded_some n t v u g e c = subst (λ (x : ℕ). Codes text (exists n t) (Kept.exists x u)) (sym e) (of_some g c)

  -- of a name with a label
  coded_label : (n l : List ℕ) (v q : ℕ) → IsName n → v ≡ name_number n → label_text text q ≡ l → Codes text (has n l) (Kept.has v q)
  coded_label n l v q g e c = subst (λ (x : ℕ). Codes text (has n l) (Kept.has x q)) (sym e) (of_label g c)

  -- of two names
  coded_pair : (p : Pairing) (k : ℕ) (n m : List ℕ) (v w : ℕ) → pairing_of k ≡ p → 5 ≤ k → k ≤ 8 → IsName n → v ≡ name_number n → IsName m → w ≡ name_number m
      → Codes text (pair p n m) (Kept.pair k v w)
  coded_pair p k n m v w q l h a e b f =
      subst (λ (x : ℕ). Codes text (pair p n m) (Kept.pair k x w)) (sym e)
      (subst (λ (y : ℕ). Codes text (pair p n m) (Kept.pair k (name_number n) y)) (sym f) (of_pair q l h a b))

-- ── atoms ──
module _ (text s : List ℕ) where
  -- `same(A,B)`, all read
  same_all : (s0 s1 s2 s3 s4 s5 : List ℕ) (n m : ℕ) → Past text s same s0 → Past text s0 opens s1 → Named text s1 n s2 → Past text s2 comma s3 → Named text s3 m s4 → Past text s4 closes s5
      → ReadOf text s operand (Kept.pair 8 n m) s5
  same_all s0 s1 s2 s3 s4 s5 n m w o a c b z =
      record {
        tail = z.tail;
        stops = tt;
        sense = λ hs g.
            record {
              signs = mark same ∷ mark opens ∷ name a.word ∷ mark comma ∷ name b.word ∷ mark closes ∷ hs;
              tree = pair Pairing.same a.word b.word;
              row = w.row _ (o.row _ (a.row _ (c.row _ (b.row _ (z.row hs g)))));
              reads = same_label;
              codes = coded_pair text Pairing.same 8 a.word b.word n m refl (omega arith) (omega arith) a.good a.number b.good b.number;
            };
      }

  -- the reader behind `same`
  reads_same : (s0 : List ℕ) → Past text s same s0 → Reads text s operand (read_same s0)
  unfolding read_same
  reads_same s0 w =
      sign_by (Reads text s operand) (sign open_sign s0) _ outside
      (λ s1 e1. let o = mark_found text s0 opens s1 w.tail e1 in
      next_by (ReadsName text s1) (Reads text s operand) tt (Reader.name s1) _ (reads-name text s1 o.tail)
      (λ n s2 a. sign_by (Reads text s operand) (sign comma_sign s2) _ outside
      (λ s3 e3. let c = mark_found text s2 comma s3 a.tail e3 in
      next_by (ReadsName text s3) (Reads text s operand) tt (Reader.name s3) _ (reads-name text s3 c.tail)
      (λ m s4 b. sign_by (Reads text s operand) (sign close_sign s4) _ outside
      (λ s5 e5. same_all s0 s1 s2 s3 s4 s5 n m w o a c b (mark_found text s4 closes s5 b.tail e5))
      (λ _. tt)))
      (λ _. tt)))
      (λ _. tt)

  module _ (n : ℕ) (s1 : List ℕ) (a : Named text s n s1) where
    -- `A('TEST')`, all read
    has_all : (s2 s3 s4 : List ℕ) (q : ℕ) → Past text s1 opens s2 → Labelled text s2 q s3 → Past text s3 closes s4 → ReadOf text s operand (Kept.has n q) s4
    has_all s2 s3 s4 q o l z =
        record {
          tail = z.tail;
          stops = tt;
          sense = λ hs g.
              record {
                signs = name a.word ∷ mark opens ∷ label l.word ∷ mark closes ∷ hs;
                tree = has a.word (capitals l.word);
                row = a.row _ (o.row _ (l.row _ (z.row hs g)));
                reads = has_label;
                codes = coded_label text a.word (capitals l.word) n q a.good a.number l.place;
              };
        }

    -- the reader behind the bracket
    reads-has : (s2 : List ℕ) → Past text s1 opens s2 → Reads text s operand (read_has n s2)
    unfolding read_has
    reads-has s2 o =
        next_by (ReadsLabel text s2) (Reads text s operand) tt (Reader.label s2) _ (reads_label text s2 o.tail)
        (λ q s3 l. sign_by (Reads text s operand) (sign close_sign s3) _ outside (λ s4 e4. has_all s2 s3 s4 q o l (mark_found text s3 closes s4 l.tail e4)) (λ _. tt))

    -- `A < B`, `A o B`, `A i B`, all read
    pair_all : (k m : ℕ) (s2 s3 : List ℕ) → Related text s1 k s2 → Named text s2 m s3 → ReadOf text s operand (Kept.pair k n m) s3
    pair_all k m s2 s3 c b =
        record {
          tail = b.tail;
          stops = tt;
          sense = λ hs g.
              record {
                signs = name a.word ∷ mark c.by ∷ name b.word ∷ hs;
                tree = pair c.pairing a.word b.word;
                row = a.row _ (c.past.row _ (b.row hs g));
                reads = Grammar.relation c.is;
                codes = coded_pair text c.pairing k a.word b.word n m c.kind c.low c.high a.good a.number b.good b.number;
              };
        }

    -- the reader behind the first name
    reads_pair : Reads text s operand (read_pair n s1)
    unfolding read_pair
    reads_pair =
        next_by (Relates text s1) (Reads text s operand) tt (relation s1) _ (reads-relation text s1 a.tail)
        (λ k s2 c. next_by (ReadsName text s2) (Reads text s operand) tt (Reader.name s2) _ (reads-name text s2 c.past.tail) (λ m s3 b. pair_all k m s2 s3 c b))

  -- the reader of an atom
  pub reads_atom : EndOf text s → Reads text s operand (read_atom s)
  unfolding read_atom
  reads_atom d =
      sign_by (Reads text s operand) (sign same_sign s) read_same _
      (λ s0 e. reads_same s0 (mark_found text s same s0 d e))
      (λ _. next_by (ReadsName text s) (Reads text s operand) tt (Reader.name s) _ (reads-name text s d)
      (λ n s1 a. sign_by (Reads text s operand) (sign open_sign s1) _ _ (λ s2 e. reads-has n s1 a s2 (mark_found text s1 opens s2 a.tail e)) (λ _. reads_pair n s1 a)))

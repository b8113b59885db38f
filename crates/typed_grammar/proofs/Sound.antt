-- A text that is read is inside the grammar, and what is kept of it is what it says.
use Prim.Native.Nat.{ℕ, zero, suc, ◌+◌, ◌*◌, ◌≤◌}
use mathlib.Core.Path.{◌≡◌, refl, subst}
use mathlib.Core.Option.{none, some}
use mathlib.Core.List.{List, [], ◌∷◌}
use lib.Dec.{ltb}
use lib.ListN.{length}
use borrow.Author.Tests.{ltb-false}
use Rattle.lists.proofs.Cases.{either_bool, never}
use Rattle.signs.specs.Signs.{Got, read, outside, skip, sign, bar_sign, and_sign, not_sign, open_sign, close_sign, comma_sign, dot_sign, exist_sign}
use Rattle.signs.specs.Signs as Reader
use Rattle.atoms.specs.Tree as Kept
use Rattle.atoms.specs.Tree.{either_all, both_all}
use Rattle.typed.specs.Grammar.{read_or, more_or, read_and, more_and, read_not, read_some, read_body, read_operand, wholly, whole, tree_of, read_text}
use Rattle.typed_grammar.specs.Words.{bar, and, not, opens, closes, comma, dot, exist, Sign, mark, name, Signs}
use Rattle.typed_grammar.specs.Grammar.{Tree, either, both, neg, exists, GoesOn, by_and, by_bar, Part, rule, side, operand, names, Begins, one_side, or, one_operand, conjunction, negation, brackets, existence, last_name, next_name, Says}
use Rattle.typed_grammar.proofs.Codes.{Codes, of_or, of_and, of_not}
use Rattle.typed_grammar.proofs.SoundSigns.{EndOf, whole_end, row_none, Past, mark_found, mark_there, Named, ReadsName, reads-name, end_skip, row_skip, skip_none}
use Rattle.typed_grammar.proofs.SoundAtoms.{next_by, sign_by, Ended, Stops, ReadOf, Reads, coded_some, reads_atom}

-- ── what the readers of more parts answer ──
-- the signs gs begin with a part whose kept tree is u, and the last signs are left
pub record Joined (text : List ℕ) (p : Part) (gs : List Sign) (u : Kept.Tree) (rest : List Sign) : Type 0 where
  pub tree : Tree
  pub reads : Begins p gs tree rest
  pub codes : Codes text tree u

-- what was read of s makes a part before it longer
pub record Further (text s : List ℕ) (p : Part) (join : Kept.Tree → Kept.Tree) (rest : List Sign) : Type 0 where
  pub signs : List Sign
  pub row : Signs s signs
  pub joins : (gs : List Sign) (l : Tree) (a : Kept.Tree) → Begins p gs l signs → Codes text l a → Joined text p gs (join a) rest

-- more parts that were read
pub record MoreOf (text s : List ℕ) (p : Part) (join : Kept.Tree → Kept.Tree) (r : List ℕ) : Type 0 where
  pub tail : EndOf text r
  pub stops : Stops p r
  pub sense : (rest : List Sign) → Signs r rest → Further text s p join rest

abbrev pub ReadsMore : List ℕ → List ℕ → Part → (Kept.Tree → List Kept.Tree → Kept.Tree) → Got (List Kept.Tree) → Type 0
ReadsMore text s p all (read us r) = MoreOf text s p (λ a. all a us) r
ReadsMore text s p all outside = Unit {0}

-- what stands behind a name that "exist" binds
pub record Body (text s : List ℕ) (u : Kept.Tree) (rest : List Sign) : Type 0 where
  pub signs : List Sign
  pub tree : Tree
  pub row : Signs s signs
  pub reads : (n : List ℕ) → Begins names (name n ∷ signs) (exists n tree) rest
  pub codes : Codes text tree u

-- it, as it was read
pub record BodyOf (text s : List ℕ) (u : Kept.Tree) (r : List ℕ) : Type 0 where
  pub tail : EndOf text r
  pub stops : Ended r
  pub sense : (rest : List Sign) → Signs r rest → Body text s u rest

abbrev pub ReadsBody : List ℕ → List ℕ → Got Kept.Tree → Type 0
ReadsBody text s (read u r) = BodyOf text s u r
ReadsBody text s outside = Unit {0}

-- all that the readers answer, with the bound f
pub record Sound (text : List ℕ) (f : ℕ) : Type 0 where
  pub for_or : (s : List ℕ) → EndOf text s → Reads text s rule (read_or f s)
  pub for_more-or : (s : List ℕ) → EndOf text s → sign and_sign s ≡ none → ReadsMore text s rule either_all (more_or f s)
  pub for_and : (s : List ℕ) → EndOf text s → Reads text s side (read_and f s)
  pub for_more-and : (s : List ℕ) → EndOf text s → ReadsMore text s side both_all (more_and f s)
  pub for_not : (s : List ℕ) → EndOf text s → Reads text s operand (read_not f s)
  pub for_some : (s : List ℕ) → EndOf text s → Reads text s names (read_some f s)
  pub for_body : (s : List ℕ) → EndOf text s → ReadsBody text s (read_body f s)
  pub for_operand : (s : List ℕ) → EndOf text s → Reads text s operand (read_operand f s)

-- what `exist` reached does not go on
pub not_on : (r : List ℕ) (rest : List Sign) → Ended r → GoesOn rest → Signs r rest → ⊥
not_on r rest e (by_and {gs = gs}) g = mark_there r and gs g e.no_and
not_on r rest e (by_bar {gs = gs}) g = mark_there r bar gs g e.no_bar

module _ (text s : List ℕ) where
  -- ── ors ──
  -- a side, and more of them
  or_all : (t : Kept.Tree) (ts : List Kept.Tree) (s1 s2 : List ℕ) → ReadOf text s side t s1 → MoreOf text s1 rule (λ a. either_all a ts) s2 → ReadOf text s rule (either_all t ts) s2
  or_all t ts s1 s2 a b =
      record {
        tail = b.tail;
        stops = b.stops;
        sense = λ hs g.
            let y = b.sense hs g in
            let x = a.sense y.signs y.row in
            let j = y.joins x.signs x.tree t (one_side x.reads) x.codes in
            record { signs = x.signs; tree = j.tree; row = x.row; reads = j.reads; codes = j.codes };
      }

  -- `|`, a side, and more of them
  more-or_all : (t : Kept.Tree) (ts : List Kept.Tree) (s1 s2 s3 : List ℕ) → Past text s bar s1 → ReadOf text s1 side t s2 → MoreOf text s2 rule (λ a. either_all a ts) s3
      → MoreOf text s rule (λ a. either_all a (t ∷ ts)) s3
  more-or_all t ts s1 s2 s3 w a b =
      record {
        tail = b.tail;
        stops = b.stops;
        sense = λ hs g.
            let y = b.sense hs g in
            let x = a.sense y.signs y.row in
            record {
              signs = mark bar ∷ x.signs;
              row = w.row x.signs x.row;
              joins = λ gs l c p q. y.joins gs (either l x.tree) (Kept.either c t) (or p x.reads) (of_or q x.codes);
            };
      }

  -- none more
  more-or_none : EndOf text s → Ended s → MoreOf text s rule (λ a. either_all a []) (skip s)
  more-or_none d e = record { tail = end_skip text s d; stops = record { no_and = skip_none and_sign s e.no_and; no_bar = skip_none bar_sign s e.no_bar }; sense = λ hs g. record { signs = hs; row = row_skip s hs g; joins = λ gs l a p q. record { tree = l; reads = p; codes = q } } }

  -- ── ands ──
  -- an operand, and more of them
  and_all : (t : Kept.Tree) (ts : List Kept.Tree) (s1 s2 : List ℕ) → ReadOf text s operand t s1 → MoreOf text s1 side (λ a. both_all a ts) s2 → ReadOf text s side (both_all t ts) s2
  and_all t ts s1 s2 a b =
      record {
        tail = b.tail;
        stops = b.stops;
        sense = λ hs g.
            let y = b.sense hs g in
            let x = a.sense y.signs y.row in
            let j = y.joins x.signs x.tree t (one_operand x.reads) x.codes in
            record { signs = x.signs; tree = j.tree; row = x.row; reads = j.reads; codes = j.codes };
      }

  -- `&`, an operand, and more of them
  more-and_all : (t : Kept.Tree) (ts : List Kept.Tree) (s1 s2 s3 : List ℕ) → Past text s and s1 → ReadOf text s1 operand t s2 → MoreOf text s2 side (λ a. both_all a ts) s3
      → MoreOf text s side (λ a. both_all a (t ∷ ts)) s3
  more-and_all t ts s1 s2 s3 w a b =
      record {
        tail = b.tail;
        stops = b.stops;
        sense = λ hs g.
            let y = b.sense hs g in
            let x = a.sense y.signs y.row in
            record {
              signs = mark and ∷ x.signs;
              row = w.row x.signs x.row;
              joins = λ gs l c p q. y.joins gs (both l x.tree) (Kept.both c t) (conjunction p x.reads) (of_and q x.codes);
            };
      }

  -- none more
  more-and_none : EndOf text s → sign and_sign s ≡ none → MoreOf text s side (λ a. both_all a []) (skip s)
  more-and_none d e = record { tail = end_skip text s d; stops = skip_none and_sign s e; sense = λ hs g. record { signs = hs; row = row_skip s hs g; joins = λ gs l a p q. record { tree = l; reads = p; codes = q } } }

  -- ── operands ──
  -- `!` and an operand
  not_all : (t : Kept.Tree) (s1 s2 : List ℕ) → Past text s not s1 → ReadOf text s1 operand t s2 → ReadOf text s operand (Kept.neg t) s2
  not_all t s1 s2 w a =
      record {
        tail = a.tail;
        stops = tt;
        sense = λ hs g.
            let x = a.sense hs g in
            record { signs = mark not ∷ x.signs; tree = neg x.tree; row = w.row x.signs x.row; reads = negation x.reads; codes = of_not x.codes };
      }

  -- "exist", names and what they are bound in
  exist_all : (t : Kept.Tree) (s1 s2 : List ℕ) → Past text s exist s1 → ReadOf text s1 names t s2 → ReadOf text s operand t s2
  exist_all t s1 s2 w a =
      record {
        tail = a.tail;
        stops = tt;
        sense = λ hs g.
            let x = a.sense hs g in
            record {
              signs = mark exist ∷ x.signs;
              tree = x.tree;
              row = w.row x.signs x.row;
              reads = existence x.reads (λ k. not_on s2 hs a.stops k g);
              codes = x.codes;
            };
      }

  -- the same of what the reader behind "exist" answers
  exist_read : (s1 : List ℕ) → Past text s exist s1 → (g : Got Kept.Tree) → Reads text s1 names g → Reads text s operand g
  exist_read s1 w (read t s2) a = exist_all t s1 s2 w a
  exist_read s1 w outside a = tt

  -- brackets around a rule
  brackets_all : (t : Kept.Tree) (s1 s2 s3 : List ℕ) → Past text s opens s1 → ReadOf text s1 rule t s2 → Past text s2 closes s3 → ReadOf text s operand t s3
  brackets_all t s1 s2 s3 w a z =
      record {
        tail = z.tail;
        stops = tt;
        sense = λ hs g.
            let x = a.sense (mark closes ∷ hs) (z.row hs g) in
            record { signs = mark opens ∷ x.signs; tree = x.tree; row = w.row x.signs x.row; reads = brackets x.reads; codes = x.codes };
      }

  -- ── names that "exist" binds ──
  -- a name, and what stands behind it
  some_all : (n : ℕ) (t : Kept.Tree) (s1 s2 : List ℕ) → Named text s n s1 → BodyOf text s1 t s2 → ReadOf text s names (Kept.exists n t) s2
  some_all n t s1 s2 a b =
      record {
        tail = b.tail;
        stops = b.stops;
        sense = λ hs g.
            let x = b.sense hs g in
            record {
              signs = name a.word ∷ x.signs;
              tree = exists a.word x.tree;
              row = a.row x.signs x.row;
              reads = x.reads a.word;
              codes = coded_some text a.word x.tree n t a.good a.number x.codes;
            };
      }

  -- `,` and more names
  comma_read : (s1 : List ℕ) → Past text s comma s1 → (g : Got Kept.Tree) → Reads text s1 names g → ReadsBody text s g
  comma_read s1 w (read t s2) a =
      record {
        tail = a.tail;
        stops = a.stops;
        sense = λ hs g.
            let x = a.sense hs g in
            record { signs = mark comma ∷ x.signs; tree = x.tree; row = w.row x.signs x.row; reads = λ n. next_name x.reads; codes = x.codes };
      }
  comma_read s1 w outside a = tt

  -- `.` and a rule
  dot_read : (s1 : List ℕ) → Past text s dot s1 → (g : Got Kept.Tree) → Reads text s1 rule g → ReadsBody text s g
  dot_read s1 w (read t s2) a =
      record {
        tail = a.tail;
        stops = a.stops;
        sense = λ hs g.
            let x = a.sense hs g in
            record { signs = mark dot ∷ x.signs; tree = x.tree; row = w.row x.signs x.row; reads = λ n. last_name x.reads; codes = x.codes };
      }
  dot_read s1 w outside a = tt

  -- ── the readers, one call deeper ──
  module _ (f : ℕ) (h : Sound text f) (d : EndOf text s) where
    -- sides with `|` between them
    or_next : Reads text s rule (read_or (suc f) s)
    unfolding read_or
    or_next =
        next_by (Reads text s side) (Reads text s rule) tt (read_and f s) _ (h.for_and s d)
        (λ t s1 a. next_by (ReadsMore text s1 rule either_all) (Reads text s rule) tt (more_or f s1) _ (h.for_more-or s1 a.tail a.stops) (λ ts s2 b. or_all t ts s1 s2 a b))

    -- more sides
    more-or_next : sign and_sign s ≡ none → ReadsMore text s rule either_all (more_or (suc f) s)
    unfolding read_or
    more-or_next e =
        sign_by (ReadsMore text s rule either_all) (sign bar_sign s) _ _
        (λ s1 e1. let w = mark_found text s bar s1 d e1 in
        next_by (Reads text s1 side) (ReadsMore text s rule either_all) tt (read_and f s1) _ (h.for_and s1 w.tail)
        (λ t s2 a. next_by (ReadsMore text s2 rule either_all) (ReadsMore text s rule either_all) tt (more_or f s2) _ (h.for_more-or s2 a.tail a.stops)
        (λ ts s3 b. more-or_all t ts s1 s2 s3 w a b)))
        (λ e1. more-or_none d (record { no_and = e; no_bar = e1 }))

    -- operands with `&` between them
    and_next : Reads text s side (read_and (suc f) s)
    unfolding read_or
    and_next =
        next_by (Reads text s operand) (Reads text s side) tt (read_not f s) _ (h.for_not s d)
        (λ t s1 a. next_by (ReadsMore text s1 side both_all) (Reads text s side) tt (more_and f s1) _ (h.for_more-and s1 a.tail) (λ ts s2 b. and_all t ts s1 s2 a b))

    -- more operands
    more-and_next : ReadsMore text s side both_all (more_and (suc f) s)
    unfolding read_or
    more-and_next =
        sign_by (ReadsMore text s side both_all) (sign and_sign s) _ _
        (λ s1 e1. let w = mark_found text s and s1 d e1 in
        next_by (Reads text s1 operand) (ReadsMore text s side both_all) tt (read_not f s1) _ (h.for_not s1 w.tail)
        (λ t s2 a. next_by (ReadsMore text s2 side both_all) (ReadsMore text s side both_all) tt (more_and f s2) _ (h.for_more-and s2 a.tail)
        (λ ts s3 b. more-and_all t ts s1 s2 s3 w a b)))
        (λ e1. more-and_none d e1)

    -- `!`, "exist" or another operand
    not_next : Reads text s operand (read_not (suc f) s)
    unfolding read_or
    not_next =
        sign_by (Reads text s operand) (sign not_sign s) _ _
        (λ s1 e1. let w = mark_found text s not s1 d e1 in
        next_by (Reads text s1 operand) (Reads text s operand) tt (read_not f s1) _ (h.for_not s1 w.tail) (λ t s2 a. not_all t s1 s2 w a))
        (λ _. sign_by (Reads text s operand) (sign exist_sign s) _ _
        (λ s1 e1. let w = mark_found text s exist s1 d e1 in exist_read s1 w (read_some f s1) (h.for_some s1 w.tail))
        (λ _. h.for_operand s d))

    -- a name that "exist" binds
    some_next : Reads text s names (read_some (suc f) s)
    unfolding read_or
    some_next =
        next_by (ReadsName text s) (Reads text s names) tt (Reader.name s) _ (reads-name text s d)
        (λ n s1 a. next_by (ReadsBody text s1) (Reads text s names) tt (read_body f s1) _ (h.for_body s1 a.tail) (λ t s2 b. some_all n t s1 s2 a b))

    -- what stands behind it
    body_next : ReadsBody text s (read_body (suc f) s)
    unfolding read_or
    body_next =
        sign_by (ReadsBody text s) (sign comma_sign s) _ _
        (λ s1 e1. let w = mark_found text s comma s1 d e1 in comma_read s1 w (read_some f s1) (h.for_some s1 w.tail))
        (λ _. sign_by (ReadsBody text s) (sign dot_sign s) _ outside
        (λ s1 e1. let w = mark_found text s dot s1 d e1 in dot_read s1 w (read_or f s1) (h.for_or s1 w.tail))
        (λ _. tt))

    -- brackets or an atom
    operand_next : Reads text s operand (read_operand (suc f) s)
    unfolding read_or
    operand_next =
        sign_by (Reads text s operand) (sign open_sign s) _ _
        (λ s1 e1. let w = mark_found text s opens s1 d e1 in
        next_by (Reads text s1 rule) (Reads text s operand) tt (read_or f s1) _ (h.for_or s1 w.tail)
        (λ t s2 a. sign_by (Reads text s operand) (sign close_sign s2) _ outside (λ s3 e3. brackets_all t s1 s2 s3 w a (mark_found text s2 closes s3 a.tail e3)) (λ _. tt)))
        (λ _. reads_atom text s d)

-- ── all the readers, with any bound ──
-- with none they answer nothing
no_bound : (text : List ℕ) → Sound text zero
unfolding read_or
no_bound text =
    record {
      for_or = λ s d. tt;
      for_more-or = λ s d e. tt;
      for_and = λ s d. tt;
      for_more-and = λ s d. tt;
      for_not = λ s d. tt;
      for_some = λ s d. tt;
      for_body = λ s d. tt;
      for_operand = λ s d. tt;
    }

-- by one call deeper at a time
pub all_sound : (text : List ℕ) (f : ℕ) → Sound text f
all_sound text zero = no_bound text
all_sound text (suc f) =
    let h = all_sound text f in
    record {
      for_or = λ s d. or_next text s f h d;
      for_more-or = λ s d e. more-or_next text s f h d e;
      for_and = λ s d. and_next text s f h d;
      for_more-and = λ s d. more-and_next text s f h d;
      for_not = λ s d. not_next text s f h d;
      for_some = λ s d. some_next text s f h d;
      for_body = λ s d. body_next text s f h d;
      for_operand = λ s d. operand_next text s f h d;
    }

-- ── a whole text ──
-- answers told apart
no_tree : {C : Type 0} (u : Kept.Tree) → none ≡ some u → C
no_tree u e = never (let z : ◌≡◌ {A = ℕ} 0 1 = cc in z)

-- nothing is left behind a whole text
wholly_none : (t u : Kept.Tree) (s : List ℕ) → wholly t s ≡ some u → (t ≡ u) × (s ≡ [])
wholly_none t u [] e = (cc, refl)
wholly_none t u (b ∷ s) e = no_tree u e

module _ (text : List ℕ) (u : Kept.Tree) (short : length text ≤ 4096) where
  -- a rule with only blanks behind it
  whole_says : (g : Got Kept.Tree) → Reads text text rule g → whole g ≡ some u → (t : Tree) × Says text t × Codes text t u
  whole_says (read v s) a e =
      let k = wholly_none v u (skip s) e in
      let x = a.sense [] (row_none s k.1) in
      (x.tree, record { short = short; signs = x.signs; row = x.row; reads = x.reads }, subst (λ (w : Kept.Tree). Codes text x.tree w) k.0 x.codes)
  whole_says outside a e = no_tree u e

  -- a text that has a tree
  tree-says : tree_of text ≡ some u → (t : Tree) × Says text t × Codes text t u
  unfolding tree_of
  tree-says e = whole_says (read_or (4 * length text + 4) text) ((all_sound text (4 * length text + 4)).for_or text (whole_end text)) e

-- a text that is read is inside the grammar, and what is kept of it is what it says
pub reads-says : (text : List ℕ) (u : Kept.Tree) → read_text text ≡ some u → (t : Tree) × Says text t × Codes text t u
unfolding read_text
reads-says text u e =
    either_bool (ltb 4096 (length text))
    (λ h. let f : none ≡ some u = simp h at e in no_tree u f)
    (λ h. let f : tree_of text ≡ some u = simp h at e in tree-says text u (ltb-false 4096 (length text) h) f)

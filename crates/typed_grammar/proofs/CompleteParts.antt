-- The parts of a rule as the grammar words them, read one by one: operands, the names that "exist" binds, sides and rules. The grammar
-- says where a part may end, and reading goes on as far as it can; so of a side and of a rule, which further parts may follow, the laws
-- say what is read together with all that follow.
use Prim.Native.Nat.{ℕ, zero, suc, ◌+◌, ◌*◌, ◌<◌, ◌≤◌}
use mathlib.Core.Path.{◌≡◌, refl}
use mathlib.Core.Bool.{true}
use mathlib.Core.List.{List, [], ◌∷◌}
use native.Mathlib.Omega.{arith}
use lib.ListN.{length}
use Rattle.labels.specs.Label.{capitals}
use Rattle.rules.specs.Formula.{Pairing}
use Rattle.rules.specs.Table.{pairing_of}
use Rattle.signs.specs.Signs.{Got, read, bar_sign, and_sign, not_sign, open_sign, close_sign, comma_sign, dot_sign, exist_sign, skip}
use Rattle.atoms.specs.Tree as Kept
use Rattle.atoms.specs.Atoms.{relation, read_atom}
use Rattle.typed.specs.Grammar.{read_or, more_or, read_and, more_and, read_not, read_some}
use Rattle.typed_grammar.specs.Words as Words
use Rattle.typed_grammar.specs.Words.{Mark, Sign, Signs}
use Rattle.typed_grammar.specs.Grammar.{Tree, either, both, neg, exists, has, pair, Relation, is_before, is_overlaps, is_includes, GoesOn, by_and, by_bar}
use Rattle.typed_grammar.proofs.Codes.{name_number, Codes, of_or, of_and, of_not, of_some, of_label, of_pair}
use Rattle.typed_grammar.proofs.CompleteSigns.{EndsIn, ends_on, After, after_on, after_skip, MarkFound, mark_found, NameFound, name_found, label_found, other?, none_found}
use Rattle.typed_grammar.proofs.CompleteSteps.{not_step, exist_step, bracket_step, atom_step, last_step, next_step, and_first, and-more, and_end, or_first, or-more, or_end, has-step, same_step, pair_step, before_step, overlaps_step, includes_step}

-- ── bounds ──
-- a number above n is one more than a number from n on
above : (P : ℕ → Type 0) (n f : ℕ) → n < f → ((g : ℕ) → n ≤ g → P (suc g)) → P f
above P n zero h k = absurd (omega arith)
above P n (suc f) h k = k f (omega arith)

-- a number above n + 1 is two more than a number from n on
above_two : (P : ℕ → Type 0) (n f : ℕ) → n + 1 < f → ((g : ℕ) → n ≤ g → P (suc (suc g))) → P f
above_two P n f h k = above P (n + 1) f h (λ g l. above (λ (i : ℕ). P (suc i)) n g (omega arith) k)

-- ── what a part of a rule is read as ──
-- The part says the tree t, and behind it stand the signs gs: for every bound that is large enough the reader g reads it to there.
pub record PartRead (g : ℕ → List ℕ → Got Kept.Tree) (level : ℕ) (text : List ℕ) (t : Tree) (gs : List Sign) (s : List ℕ) : Type 0 where
  pub tree : Kept.Tree
  pub rest : List ℕ
  pub codes : Codes text t tree
  pub after : After gs s rest
  pub reads : (f : ℕ) → 4 * length s + level < f → g f s ≡ read tree rest

-- The same of a part that further ones may follow, read by more and joined by all: the reader g reads it with all that follow.
pub record FirstRead (g : ℕ → List ℕ → Got Kept.Tree) (more : ℕ → List ℕ → Got (List Kept.Tree)) (all : Kept.Tree → List Kept.Tree → Kept.Tree) (level : ℕ) (text : List ℕ) (t : Tree) (gs : List Sign) (s : List ℕ) : Type 0 where
  pub tree : Kept.Tree
  pub rest : List ℕ
  pub codes : Codes text t tree
  pub after : After gs s rest
  pub reads : (ts : List Kept.Tree) (e : List ℕ) → ((f : ℕ) → 4 * length rest < f → more f rest ≡ read ts e)
      → (f : ℕ) → 4 * length s + level < f → g f s ≡ read (all tree ts) e

-- one operand; the levels are those of the readers, which call one another from a rule down to an operand before a sign is taken
abbrev pub OperandRead : List ℕ → Tree → List Sign → List ℕ → Type 0
OperandRead = PartRead read_not 1

-- the names behind "exist", with what they are bound in
abbrev pub NamesRead : List ℕ → Tree → List Sign → List ℕ → Type 0
NamesRead = PartRead read_some 0

-- operands with `&` between them
abbrev pub SideRead : List ℕ → Tree → List Sign → List ℕ → Type 0
SideRead = FirstRead read_and more_and Kept.both_all 2

-- sides with `|` between them
abbrev pub RuleRead : List ℕ → Tree → List Sign → List ℕ → Type 0
RuleRead = FirstRead read_or more_or Kept.either_all 3

-- ── what does not follow ──
-- signs that do not go on with a rule begin neither with `&`, the byte 38, nor with `|`, the byte 124
pub stops : (gs : List Sign) → (GoesOn gs → ⊥) → (other? 38 gs ≡ true) × (other? 124 gs ≡ true)
stops [] h = (refl, refl)
stops (Words.mark Words.bar ∷ gs) h = absurd (h by_bar)
stops (Words.mark Words.and ∷ gs) h = absurd (h by_and)
stops (Words.mark Words.not ∷ gs) h = (refl, refl)
stops (Words.mark Words.opens ∷ gs) h = (refl, refl)
stops (Words.mark Words.closes ∷ gs) h = (refl, refl)
stops (Words.mark Words.comma ∷ gs) h = (refl, refl)
stops (Words.mark Words.dot ∷ gs) h = (refl, refl)
stops (Words.mark Words.before ∷ gs) h = (refl, refl)
stops (Words.mark Words.overlaps ∷ gs) h = (refl, refl)
stops (Words.mark Words.includes ∷ gs) h = (refl, refl)
stops (Words.mark Words.exist ∷ gs) h = (refl, refl)
stops (Words.mark Words.same ∷ gs) h = (refl, refl)
stops (Words.name n ∷ gs) h = (refl, refl)
stops (Words.label l ∷ gs) h = (refl, refl)

-- behind a part stands no further operand
no_more-and : {gs : List Sign} {s : List ℕ} → Signs s gs → other? 38 gs ≡ true → (f : ℕ) → 4 * length s < f → more_and f s ≡ read [] (skip s)
no_more-and {s = s} r o f l = above (λ (i : ℕ). more_and i s ≡ read [] (skip s)) (4 * length s) f l (λ g h. and_end g s (none_found r 38 [] o))

-- behind a part stands no further side
no_more-or : {gs : List Sign} {s : List ℕ} → Signs s gs → other? 124 gs ≡ true → (f : ℕ) → 4 * length s < f → more_or f s ≡ read [] (skip s)
no_more-or {s = s} r o f l = above (λ (i : ℕ). more_or i s ≡ read [] (skip s)) (4 * length s) f l (λ g h. or_end g s (none_found r 124 [] o))

-- ── the forms of an operand ──
module _ (text : List ℕ) {gs : List Sign} (s : List ℕ) where
  -- `!` and an operand
  pub negation_read : {hs : List Sign} {t : Tree} (m : MarkFound not_sign hs s) → OperandRead text t gs m.rest → OperandRead text (neg t) gs s
  negation_read m o =
      record {
        tree = Kept.neg o.tree;
        rest = o.rest;
        codes = of_not o.codes;
        after = after_on m.after o.after;
        reads = λ f l.
            above (λ (i : ℕ). read_not i s ≡ read (Kept.neg o.tree) o.rest) (4 * length s + 1) f l
            (λ g h. not_step g s m.rest o.rest o.tree m.found (o.reads g (omega (arith, m.after.less))));
      }

  -- a rule in brackets
  pub brackets_read : {hs : List Sign} {t : Tree} → Signs s (Words.mark Words.opens ∷ hs) → (m : MarkFound open_sign hs s)
      → (o : PartRead read_or 3 text t (Words.mark Words.closes ∷ gs) m.rest) → MarkFound close_sign gs o.rest → OperandRead text t gs s
  brackets_read r m o c =
      record {
        tree = o.tree;
        rest = c.rest;
        codes = o.codes;
        after = after_on m.after (after_on o.after c.after);
        reads = λ f l.
            above_two (λ (i : ℕ). read_not i s ≡ read o.tree c.rest) (4 * length s) f l
            (λ g h.
            bracket_step g s m.rest o.rest c.rest o.tree (none_found r 33 [] refl) (none_found r 101 _ refl) m.found
            (o.reads g (omega (arith, m.after.less))) c.found);
      }

  -- "exist" and names
  pub existence_read : {hs : List Sign} {t : Tree} → Signs s (Words.mark Words.exist ∷ hs) → (m : MarkFound exist_sign hs s)
      → NamesRead text t gs m.rest → OperandRead text t gs s
  existence_read r m o =
      record {
        tree = o.tree;
        rest = o.rest;
        codes = o.codes;
        after = after_on m.after o.after;
        reads = λ f l.
            above (λ (i : ℕ). read_not i s ≡ read o.tree o.rest) (4 * length s + 1) f l
            (λ g h. exist_step g s m.rest o.rest o.tree (none_found r 33 [] refl) m.found (o.reads g (omega (arith, m.after.less))));
      }

  -- a part without a rule inside
  atom_read : {hs : List Sign} {t : Tree} (u : Kept.Tree) (e : List ℕ) → Signs s hs → other? 33 hs ≡ true → other? 101 hs ≡ true → other? 40 hs ≡ true
      → Codes text t u → After gs s e → read_atom s ≡ read u e → OperandRead text t gs s
  atom_read u e r p q o c a h =
      record {
        tree = u;
        rest = e;
        codes = c;
        after = a;
        reads = λ f l.
            above_two (λ (i : ℕ). read_not i s ≡ read u e) (4 * length s) f l
            (λ g k. atom_step g s e u (none_found r 33 [] p) (none_found r 101 _ q) (none_found r 40 [] o) h);
      }

  -- `A('TEST')`
  pub has_read : (n l : List ℕ) → EndsIn text s → Signs s (Words.name n ∷ Words.mark Words.opens ∷ Words.label l ∷ Words.mark Words.closes ∷ gs) → OperandRead text (has n (capitals l)) gs s
  has_read n l ends r =
      let a = name_found r in
      let b = mark_found a.after.row in
      let c = label_found b.after.row in
      let d = mark_found c.after.row in
      let x = after_on a.after b.after in
      atom_read (Kept.has (name_number n) c.place) d.rest r refl refl refl
      (of_label a.is_name (c.said text (ends_on ends x.ends)))
      (after_on x (after_on c.after d.after))
      (has-step s a.rest b.rest c.rest d.rest (name_number n) c.place (none_found r 115 _ refl) a.found b.found c.found d.found)

  -- `same(A,B)`
  pub same_read : (n o : List ℕ) → Signs s (Words.mark Words.same ∷ Words.mark Words.opens ∷ Words.name n ∷ Words.mark Words.comma ∷ Words.name o ∷ Words.mark Words.closes ∷ gs)
      → OperandRead text (pair Pairing.same n o) gs s
  same_read n o r =
      let a = mark_found r in
      let b = mark_found a.after.row in
      let c = name_found b.after.row in
      let d = mark_found c.after.row in
      let e = name_found d.after.row in
      let g = mark_found e.after.row in
      atom_read (Kept.pair 8 (name_number n) (name_number o)) g.rest r refl refl refl
      (of_pair refl (omega arith) (omega arith) c.is_name e.is_name)
      (after_on a.after (after_on b.after (after_on c.after (after_on d.after (after_on e.after g.after)))))
      (same_step s a.rest b.rest c.rest d.rest e.rest g.rest (name_number n) (name_number o) a.found b.found c.found d.found e.found g.found)

  -- two names with a relation between them that has the kind k
  pair_read : (m : Mark) (p : Pairing) (n o : List ℕ) (k : ℕ) → pairing_of k ≡ p → 5 ≤ k → k ≤ 8
      → ((e : List ℕ) → Signs e (Words.mark m ∷ Words.name o ∷ gs) → (b : List ℕ) × (relation e ≡ read k b) × After (Words.name o ∷ gs) e b)
      → other? 40 (Words.mark m ∷ gs) ≡ true
      → Signs s (Words.name n ∷ Words.mark m ∷ Words.name o ∷ gs) → OperandRead text (pair p n o) gs s
  pair_read m p n o k is low high between q r =
      let a = name_found r in
      let b = between a.rest a.after.row in
      let c = name_found b.2.row in
      atom_read (Kept.pair k (name_number n) (name_number o)) c.rest r refl refl refl
      (of_pair is low high a.is_name c.is_name)
      (after_on a.after (after_on b.2 c.after))
      (pair_step s a.rest b.0 c.rest (name_number n) k (name_number o) (none_found r 115 _ refl) a.found (none_found a.after.row 40 [] q) b.1 c.found)

  -- `A < B`, `A o B`, `A i B`
  pub relation_read : {m : Mark} {p : Pairing} (n o : List ℕ) → Relation m p → Signs s (Words.name n ∷ Words.mark m ∷ Words.name o ∷ gs) → OperandRead text (pair p n o) gs s
  relation_read n o is_before r =
      pair_read Words.before Pairing.before n o 5 refl (omega arith) (omega arith)
      (λ e h. let m = mark_found h in (m.rest, before_step e m.rest m.found, m.after)) refl r
  relation_read n o is_overlaps r =
      pair_read Words.overlaps Pairing.overlaps n o 6 refl (omega arith) (omega arith)
      (λ e h. let m = mark_found h in (m.rest, overlaps_step e m.rest (none_found h 60 [] refl) m.found, m.after)) refl r
  relation_read n o is_includes r =
      pair_read Words.includes Pairing.includes n o 7 refl (omega arith) (omega arith)
      (λ e h. let m = mark_found h in (m.rest, includes_step e m.rest (none_found h 60 [] refl) (none_found h 111 [] refl) m.found, m.after)) refl r

-- ── the names that "exist" binds ──
module _ (text : List ℕ) {gs : List Sign} (s : List ℕ) {t : Tree} (n : List ℕ) where
  -- the last name, and the rule behind it
  pub last_read : {hs : List Sign} → (a : NameFound n (Words.mark Words.dot ∷ hs) s) (b : MarkFound dot_sign hs a.rest)
      → PartRead read_or 3 text t gs b.rest → NamesRead text (exists n t) gs s
  last_read a b o =
      record {
        tree = Kept.exists (name_number n) o.tree;
        rest = o.rest;
        codes = of_some a.is_name o.codes;
        after = after_on a.after (after_on b.after o.after);
        reads = λ f l.
            above_two (λ (i : ℕ). read_some i s ≡ read (Kept.exists (name_number n) o.tree) o.rest) (4 * length b.rest + 4) f
            (omega (arith, a.after.less, b.after.less))
            (λ g h.
            last_step g s a.rest b.rest o.rest (name_number n) o.tree a.found (none_found a.after.row 44 [] refl) b.found (o.reads g (omega arith)));
      }

  -- a name, and more names behind it
  pub next_read : {hs : List Sign} → (a : NameFound n (Words.mark Words.comma ∷ hs) s) (b : MarkFound comma_sign hs a.rest)
      → NamesRead text t gs b.rest → NamesRead text (exists n t) gs s
  next_read a b o =
      record {
        tree = Kept.exists (name_number n) o.tree;
        rest = o.rest;
        codes = of_some a.is_name o.codes;
        after = after_on a.after (after_on b.after o.after);
        reads = λ f l.
            above_two (λ (i : ℕ). read_some i s ≡ read (Kept.exists (name_number n) o.tree) o.rest) (4 * length b.rest + 4) f
            (omega (arith, a.after.less, b.after.less))
            (λ g h. next_step g s a.rest b.rest o.rest (name_number n) o.tree a.found b.found (o.reads g (omega arith)));
      }

-- ── sides: operands with `&` between them ──
module _ (text : List ℕ) {gs : List Sign} (s : List ℕ) where
  -- one operand
  pub operand_first : {t : Tree} → OperandRead text t gs s → SideRead text t gs s
  operand_first o =
      record {
        tree = o.tree;
        rest = o.rest;
        codes = o.codes;
        after = o.after;
        reads = λ ts e more f l.
            above (λ (i : ℕ). read_and i s ≡ read (Kept.both_all o.tree ts) e) (4 * length s + 2) f l
            (λ g h. and_first g s o.rest e o.tree ts (o.reads g (omega arith)) (more g (omega (arith, o.after.less))));
      }

  -- operands, and one more
  pub operand_next : {hs ks : List Sign} {l r : Tree} (a : SideRead text l ks s) (m : MarkFound and_sign hs a.rest) → OperandRead text r gs m.rest
      → SideRead text (both l r) gs s
  operand_next a m o =
      record {
        tree = Kept.both a.tree o.tree;
        rest = o.rest;
        codes = of_and a.codes o.codes;
        after = after_on a.after (after_on m.after o.after);
        reads = λ ts e more.
            a.reads (o.tree ∷ ts) e (λ f l.
            above (λ (i : ℕ). more_and i a.rest ≡ read (o.tree ∷ ts) e) (4 * length a.rest) f l
            (λ g h.
            and-more g a.rest m.rest o.rest e o.tree ts m.found
            (o.reads g (omega (arith, m.after.less))) (more g (omega (arith, m.after.less, o.after.less)))));
      }

  -- a side that no `&` follows is read whole
  pub side_whole : {t : Tree} → SideRead text t gs s → other? 38 gs ≡ true → PartRead read_and 2 text t gs s
  side_whole a q =
      record { tree = a.tree; rest = skip a.rest; codes = a.codes; after = after_skip a.after; reads = a.reads [] (skip a.rest) (no_more-and a.after.row q) }

-- ── rules: sides with `|` between them ──
module _ (text : List ℕ) {gs : List Sign} (s : List ℕ) where
  -- one side
  pub side_first : {t : Tree} → PartRead read_and 2 text t gs s → RuleRead text t gs s
  side_first o =
      record {
        tree = o.tree;
        rest = o.rest;
        codes = o.codes;
        after = o.after;
        reads = λ ts e more f l.
            above (λ (i : ℕ). read_or i s ≡ read (Kept.either_all o.tree ts) e) (4 * length s + 3) f l
            (λ g h. or_first g s o.rest e o.tree ts (o.reads g (omega arith)) (more g (omega (arith, o.after.less))));
      }

  -- sides, and one more
  pub side_next : {hs ks : List Sign} {l r : Tree} (a : RuleRead text l ks s) (m : MarkFound bar_sign hs a.rest) → PartRead read_and 2 text r gs m.rest
      → RuleRead text (either l r) gs s
  side_next a m o =
      record {
        tree = Kept.either a.tree o.tree;
        rest = o.rest;
        codes = of_or a.codes o.codes;
        after = after_on a.after (after_on m.after o.after);
        reads = λ ts e more.
            a.reads (o.tree ∷ ts) e (λ f l.
            above (λ (i : ℕ). more_or i a.rest ≡ read (o.tree ∷ ts) e) (4 * length a.rest) f l
            (λ g h.
            or-more g a.rest m.rest o.rest e o.tree ts m.found
            (o.reads g (omega (arith, m.after.less))) (more g (omega (arith, m.after.less, o.after.less)))));
      }

  -- a rule that no `|` follows is read whole
  pub rule_whole : {t : Tree} → RuleRead text t gs s → other? 124 gs ≡ true → PartRead read_or 3 text t gs s
  rule_whole a q =
      record { tree = a.tree; rest = skip a.rest; codes = a.codes; after = after_skip a.after; reads = a.reads [] (skip a.rest) (no_more-or a.after.row q) }

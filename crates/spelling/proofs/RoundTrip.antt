-- Reading the text of a formula gives back what the text says.
use Prim.Native.Nat.{ℕ, zero, suc, ◌+◌, ◌-◌, ◌*◌, ◌≤◌}
use mathlib.Core.Path.{◌≡◌, refl, sym, ap, subst, ◌∙◌}
use mathlib.Core.Bool.{false}
use mathlib.Core.Option.{none, some}
use mathlib.Core.List.{List, [], ◌∷◌, ◌++◌}
use native.Mathlib.Omega.{arith}
use lib.ListN.{length, length-append}
use borrow.Author.Tests.{ne_eqb, le-leb}
use Rattle.lists.proofs.Lists.{Free, has_seam, past_seam}
use Rattle.labels.specs.Label.{capitals}
use Rattle.rules.specs.Formula as Formula
use Rattle.rules.specs.Formula.{Pairing, Formula}
use Rattle.signs.specs.Signs.{read, blank?, skip, sign, capital?, word_byte?, name_more, name, label}
use Rattle.atoms.specs.Tree.{Tree}
use Rattle.signs.specs.Signs.{not_sign, exist_sign, open_sign, and_sign, bar_sign}
use Rattle.atoms.specs.Atoms.{relation, read_same, read_has, read_pair, read_atom}
use Rattle.typed.specs.Grammar.{read_or, read_and, read_not, tree_of, whole}
use Rattle.typed_grammar.specs.Text.{letter}
use Rattle.typed_grammar.specs.File.{pair_kind}
use Rattle.spelling.specs.Written.{write_pair, write, said, deep}
use Rattle.levels.specs.Levels.{Levels, binds}

-- labels in capitals and without a quote
abbrev pub Plain : Formula → Type 0
Plain (Formula.both f g) = Plain f × Plain g
Plain (Formula.neg f) = Plain f
Plain (Formula.exists v f) = Plain f
Plain (Formula.has v l) = Free 39 l × (capitals l ≡ l)
Plain (Formula.pair p v w) = Unit {0}

-- a text that no name goes on with
abbrev pub Stops : List ℕ → Type 0
Stops [] = Unit {0}
Stops (b ∷ s) = word_byte? b ≡ false

-- ── letters ──
letter_range : (k : ℕ) → (65 ≤ letter k) × (letter k ≤ 68)
letter_range zero = (omega arith, omega arith)
letter_range (suc zero) = (omega arith, omega arith)
letter_range (suc (suc zero)) = (omega arith, omega arith)
letter_range (suc (suc (suc n))) = (omega arith, omega arith)

module _ (b : ℕ) (l : 65 ≤ b) (h : b ≤ 68) where
  sign_miss : (c : ℕ) (w s : List ℕ) → (b ≡ c → ⊥) → sign (c ∷ w) (b ∷ s) ≡ none
  unfolding sign skip blank?
  sign_miss c w s n = simp (ne_eqb b 32 (λ e. omega arith), ne_eqb b 10 (λ e. omega arith), ne_eqb b c n)

  name_letter : (s : List ℕ) → Stops s → name (b ∷ s) ≡ read b s
  unfolding name skip blank? capital? name_more
  name_letter [] y = simp (ne_eqb b 32 (λ e. omega arith), ne_eqb b 10 (λ e. omega arith), le-leb 65 b l, le-leb b 90 (omega arith))
  name_letter (c ∷ s) y = simp (ne_eqb b 32 (λ e. omega arith), ne_eqb b 10 (λ e. omega arith), le-leb 65 b l, le-leb b 90 (omega arith), y)

-- a space before a name or a sign
name-space : (s : List ℕ) → name (32 ∷ s) ≡ name s
unfolding name skip blank?
name-space s = refl

-- ── atoms ──
-- an atom is read as an operand, and as a not
module _ (n : ℕ) (s : List ℕ) (t : Tree) (r : List ℕ) where
  as_not : sign not_sign s ≡ none → sign exist_sign s ≡ none → sign open_sign s ≡ none → read_atom s ≡ read t r → read_not (suc (suc n)) s ≡ read t r
  unfolding read_or
  as_not a b c e = rw (a, b, c) e

module _ (a b : ℕ) (la : 65 ≤ a) (ha : a ≤ 68) where
  from_letter : (n : ℕ) (s : List ℕ) (t : Tree) (r : List ℕ) → read_atom (a ∷ s) ≡ read t r → read_not (suc (suc n)) (a ∷ s) ≡ read t r
  from_letter n s t r e =
      as_not n (a ∷ s) t r (sign_miss a la ha 33 [] s (λ q. omega arith)) (sign_miss a la ha 101 _ s (λ q. omega arith)) (sign_miss a la ha 40 [] s (λ q. omega arith)) e

  pub has_back : (l s : List ℕ) → Free 39 l → read_atom (a ∷ 40 ∷ 39 ∷ (l ++ (39 ∷ 41 ∷ s))) ≡ read (Tree.has a (length (l ++ (39 ∷ 41 ∷ s)))) s
  unfolding read_atom read_has label sign skip blank? word_byte?
  has_back l s p =
      rw (
        sign_miss a la ha 115 (97 ∷ 109 ∷ 101 ∷ []) (40 ∷ 39 ∷ (l ++ (39 ∷ 41 ∷ s))) (λ q. omega arith),
        name_letter a la ha (40 ∷ 39 ∷ (l ++ (39 ∷ 41 ∷ s))) refl,
        has_seam 39 l (41 ∷ s),
        past_seam 39 l (41 ∷ s) p,
      )

  module _ (lb : 65 ≤ b) (hb : b ≤ 68) (s : List ℕ) where
    pub before_back : Stops s → read_atom (write_pair Formula.before a b s) ≡ read (Tree.pair 5 a b) s
    unfolding read_atom read_pair relation sign skip blank? word_byte?
    before_back y =
        rw (sign_miss a la ha 115 (97 ∷ 109 ∷ 101 ∷ []) (32 ∷ 60 ∷ 32 ∷ b ∷ s) (λ q. omega arith), name_letter a la ha (32 ∷ 60 ∷ 32 ∷ b ∷ s) refl, name-space (b ∷ s), name_letter b lb hb s y)

    pub overlaps_back : Stops s → read_atom (write_pair Formula.overlaps a b s) ≡ read (Tree.pair 6 a b) s
    unfolding read_atom read_pair relation sign skip blank? word_byte?
    overlaps_back y =
        rw (sign_miss a la ha 115 (97 ∷ 109 ∷ 101 ∷ []) (32 ∷ 111 ∷ 32 ∷ b ∷ s) (λ q. omega arith), name_letter a la ha (32 ∷ 111 ∷ 32 ∷ b ∷ s) refl, name-space (b ∷ s), name_letter b lb hb s y)

    pub includes_back : Stops s → read_atom (write_pair Formula.includes a b s) ≡ read (Tree.pair 7 a b) s
    unfolding read_atom read_pair relation sign skip blank? word_byte?
    includes_back y =
        rw (sign_miss a la ha 115 (97 ∷ 109 ∷ 101 ∷ []) (32 ∷ 105 ∷ 32 ∷ b ∷ s) (λ q. omega arith), name_letter a la ha (32 ∷ 105 ∷ 32 ∷ b ∷ s) refl, name-space (b ∷ s), name_letter b lb hb s y)

    pub same_back : read_atom (115 ∷ 97 ∷ 109 ∷ 101 ∷ 40 ∷ a ∷ 44 ∷ b ∷ 41 ∷ s) ≡ read (Tree.pair 8 a b) s
    unfolding read_atom read_same sign skip blank? word_byte?
    same_back = rw (name_letter a la ha (44 ∷ b ∷ 41 ∷ s) refl, name_letter b lb hb (41 ∷ s) refl)

same_not : (m : ℕ) (x : List ℕ) (t : Tree) (r : List ℕ) → read_atom (115 ∷ x) ≡ read t r → read_not (suc (suc m)) (115 ∷ x) ≡ read t r
unfolding read_or sign skip blank?
same_not m x t r e = e

-- ── a rule with nothing more behind it, and in brackets ──
module _ (m : ℕ) (x : List ℕ) (t : Tree) (r : List ℕ) where
  pub or_one : sign and_sign r ≡ none → sign bar_sign r ≡ none → skip r ≡ r → read_not (suc m) x ≡ read t r → read_or (suc (suc (suc m))) x ≡ read t r
  unfolding read_or
  or_one a b h e = rw (e, a, h, b, h)

  pub bracketed : read_and (suc m) x ≡ read t (41 ∷ r) → read_not (suc (suc (suc (suc m)))) (40 ∷ x) ≡ read t r
  unfolding read_or sign skip blank?
  bracketed e = rw e

  pub and_one : read_not (suc m) x ≡ read t (41 ∷ r) → read_and (suc (suc m)) x ≡ read t (41 ∷ r)
  unfolding read_or sign skip blank?
  and_one e = rw e

pub and_two : (m : ℕ) (x y : List ℕ) (t u : Tree) (r : List ℕ) → read_not (suc (suc m)) x ≡ read t (38 ∷ y) → read_not (suc m) y ≡ read u (41 ∷ r) → read_and (suc (suc (suc m))) x ≡ read (Tree.both t u) (41 ∷ r)
unfolding read_or sign skip blank?
and_two m x y t u r e f = rw (e, f)

pub some_one : (m b : ℕ) (z : List ℕ) (t : Tree) (r : List ℕ) → 65 ≤ b → b ≤ 68 → read_or m z ≡ read t r → read_not (suc (suc (suc m))) (101 ∷ 120 ∷ 105 ∷ 115 ∷ 116 ∷ 32 ∷ b ∷ 46 ∷ z) ≡ read (Tree.exists b t) r
unfolding read_or sign skip blank? word_byte?
some_one m b z t r l h e = rw (name-space (b ∷ 46 ∷ z), name_letter b l h (46 ∷ z) refl, e)

pub negated : (m : ℕ) (x : List ℕ) (t : Tree) (r : List ℕ) → read_not m x ≡ read t r → read_not (suc m) (33 ∷ x) ≡ read (Tree.neg t) r
unfolding read_or sign skip blank?
negated m x t r e = rw e

none_and : (s : List ℕ) → sign and_sign (41 ∷ s) ≡ none
unfolding sign skip blank?
none_and s = refl

closed_skip : (s : List ℕ) → skip (41 ∷ s) ≡ 41 ∷ s
unfolding skip blank?
closed_skip s = refl

none_bar : (s : List ℕ) → sign bar_sign (41 ∷ s) ≡ none
unfolding sign skip blank?
none_bar s = refl

-- an atom is read at any depth from 2 on
at_depth : (n : ℕ) (x : List ℕ) (t : Tree) (r : List ℕ) → 2 ≤ n → ((m : ℕ) → read_not (suc (suc m)) x ≡ read t r) → read_not n x ≡ read t r
at_depth n x t r h f = let q : n ≡ suc (suc (n - 2)) = omega arith in subst (λ (j : ℕ). read_not j x ≡ read t r) (sym q) (f (n - 2))

-- what holds between two letters, read at any depth from 2 on
pair_back : (q : Pairing) (v w : ℕ) (s : List ℕ) → Stops s → (n : ℕ) → 2 ≤ n → read_not n (write_pair q (letter v) (letter w) s) ≡ read (Tree.pair (pair_kind q) (letter v) (letter w)) s
pair_back q v w s y n h = go q
  where
    lv : (65 ≤ letter v) × (letter v ≤ 68)
    lv = letter_range v

    lw : (65 ≤ letter w) × (letter w ≤ 68)
    lw = letter_range w

    from : (x : List ℕ) (t : Tree) → read_atom (letter v ∷ x) ≡ read t s → read_not n (letter v ∷ x) ≡ read t s
    from x t g = at_depth n _ _ s h (λ m. from_letter (letter v) 0 lv.0 lv.1 m _ _ s g)

    go : (q : Pairing) → read_not n (write_pair q (letter v) (letter w) s) ≡ read (Tree.pair (pair_kind q) (letter v) (letter w)) s
    go Formula.before = from _ _ (before_back (letter v) (letter w) lv.0 lv.1 lw.0 lw.1 s y)
    go Formula.overlaps = from _ _ (overlaps_back (letter v) (letter w) lv.0 lv.1 lw.0 lw.1 s y)
    go Formula.includes = from _ _ (includes_back (letter v) (letter w) lv.0 lv.1 lw.0 lw.1 s y)
    go Formula.same = at_depth n _ _ s h (λ m. same_not m _ _ s (same_back (letter v) (letter w) lv.0 lv.1 lw.0 lw.1 s))

-- ── the whole ──
pub not_reads : (f : Formula) → Plain f → (d : ℕ) (e : Levels) (s : List ℕ) → Stops s → (n : ℕ) → deep f ≤ n → read_not n (write d e f s) ≡ read (said d e f s) s
unfolding write said word_byte?
not_reads (Formula.both f g) p d e s y n h =
    let q : n ≡ suc (suc (suc (suc (suc (suc (n - 6)))))) = omega arith in
    let x = write d e f (38 ∷ write d e g (41 ∷ s)) in
    let a = not_reads f p.0 d e (38 ∷ write d e g (41 ∷ s)) refl (suc (suc (n - 6))) (omega arith) in
    let b = not_reads g p.1 d e (41 ∷ s) refl (suc (n - 6)) (omega arith) in
    subst (λ (j : ℕ). read_not j (40 ∷ x) ≡ read (said d e (Formula.both f g) s) s) (sym q)
    (bracketed (suc (suc (n - 6))) x (said d e (Formula.both f g) s) s
    (and_two (n - 6) x (write d e g (41 ∷ s)) (said d e f (38 ∷ write d e g (41 ∷ s))) (said d e g (41 ∷ s)) s a b))
not_reads (Formula.neg f) p d e s y n h =
    let q : n ≡ suc (n - 1) = omega arith in
    subst (λ (j : ℕ). read_not j (33 ∷ write d e f s) ≡ read (Tree.neg (said d e f s)) s) (sym q) (negated (n - 1) (write d e f s) (said d e f s) s (not_reads f p d e s y (n - 1) (omega arith)))
not_reads (Formula.exists v f) p d e s y n h =
    let q : n ≡ suc (suc (suc (suc (suc (suc (suc (suc (suc (suc (n - 10)))))))))) = omega arith in
    let z = write (suc d) (binds e v d) f (41 ∷ s) in
    let t = said (suc d) (binds e v d) f (41 ∷ s) in
    let a = not_reads f p (suc d) (binds e v d) (41 ∷ s) refl (suc (n - 10)) (omega arith) in
    let x : List ℕ = 101 ∷ 120 ∷ 105 ∷ 115 ∷ 116 ∷ 32 ∷ letter d ∷ 46 ∷ z in
    subst (λ (j : ℕ). read_not j (40 ∷ x) ≡ read (Tree.exists (letter d) t) s) (sym q)
    (bracketed (suc (suc (suc (suc (suc (suc (n - 10))))))) x (Tree.exists (letter d) t) s
    (and_one (suc (suc (suc (suc (suc (n - 10)))))) x (Tree.exists (letter d) t) s
    (some_one (suc (suc (suc (n - 10)))) (letter d) z t (41 ∷ s) (letter_range d).0 (letter_range d).1 (or_one (n - 10) z t (41 ∷ s) (none_and s) (none_bar s) (closed_skip s) a))))
not_reads (Formula.has v l) p d e s y n h =
    at_depth n _ _ s h (λ m. from_letter (letter (e v)) 0 (letter_range (e v)).0 (letter_range (e v)).1 m _ _ s (has_back (letter (e v)) 0 (letter_range (e v)).0 (letter_range (e v)).1 l s p.0))
not_reads (Formula.pair q v w) p d e s y n h = pair_back q (e v) (e w) s y n h

-- ── the text is long enough for its depth ──
pair_fits : (p : Pairing) (a b : ℕ) (s : List ℕ) → 2 + 4 * length s ≤ 4 * length (write_pair p a b s)
pair_fits Formula.before a b s = omega arith
pair_fits Formula.overlaps a b s = omega arith
pair_fits Formula.includes a b s = omega arith
pair_fits Formula.same a b s = omega arith

pub deep_fits : (f : Formula) (d : ℕ) (e : Levels) (s : List ℕ) → deep f + 4 * length s ≤ 4 * length (write d e f s)
unfolding write
deep_fits (Formula.both f g) d e s = omega (arith, deep_fits f d e (38 ∷ write d e g (41 ∷ s)), deep_fits g d e (41 ∷ s))
deep_fits (Formula.neg f) d e s = omega (arith, deep_fits f d e s)
deep_fits (Formula.exists v f) d e s = omega (arith, deep_fits f (suc d) (binds e v d) (41 ∷ s))
deep_fits (Formula.has v l) d e s = omega (arith, length-append l (39 ∷ 41 ∷ s))
deep_fits (Formula.pair p v w) d e s = pair_fits p (letter (e v)) (letter (e w)) s

-- Reading the text of a formula gives the tree that it says, whatever the levels.
pub read_written : (f : Formula) → Plain f → (d : ℕ) (e : Levels) → tree_of (write d e f []) ≡ some (said d e f [])
unfolding tree_of sign skip blank?
read_written f p d e =
    let x = write d e f [] in
    let k = deep_fits f d e [] in
    let q : 4 * length x + 4 ≡ suc (suc (suc (4 * length x + 1))) = omega arith in
    let a = or_one (4 * length x + 1) x (said d e f []) [] refl refl refl (not_reads f p d e [] tt (suc (4 * length x + 1)) (omega arith)) in
    ap whole (ap (λ (j : ℕ). read_or j x) q ∙ a)

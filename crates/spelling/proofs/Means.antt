-- What the text of a formula says is the formula, with each variable the level of its "some"; and its text is the same.
use Prim.Native.Nat.{ℕ, zero, suc, ◌+◌, ◌<◌, ◌≤◌}
use mathlib.Core.Path.{◌≡◌, refl, sym, ap, ap₂, ◌∙◌}
use mathlib.Core.Bool.{true}
use mathlib.Core.List.{List, [], ◌∷◌, ◌++◌, append_assoc}
use native.Mathlib.Omega.{arith}
use lib.Dec.{eqb}
use lib.ListN.{length, length-append}
use borrow.Author.Tests.{eq-eqb, eqb-true}
use Rattle.lists.proofs.Cases.{either_bool, and_left, and_right}
use Rattle.rules.specs.Formula as Formula
use Rattle.rules.specs.Table.{pairing_of}
use Rattle.rules.specs.Formula.{Pairing, Formula, Scope, enter, scoped, shallow}
use Rattle.rules.proofs.Scopes.{scoped_both_left, scoped_both_right, shallow-both_left, shallow-both_right, shallow_none}
use Rattle.atoms.specs.Emit.{level_from, level, inside}
use Rattle.typed_grammar.specs.Text.{letter}
use Rattle.typed_grammar.proofs.CompleteSigns.{EndsIn, ends_on, label_said_lem}
use Rattle.typed_grammar.specs.File.{pair_kind}
use Rattle.spelling.specs.Written.{write_pair, write, said}
use Rattle.levels.specs.Levels.{Levels, binds}
use Rattle.typed_formula.specs.Meaning.{formula_for}
use Rattle.levels.specs.Levels.{renamed}
use Rattle.spelling.specs.Written.{letters}
use Rattle.spelling.proofs.RoundTrip.{Plain}

-- ── four levels ──
by_four : (P : ℕ → Type 0) → P 0 → P 1 → P 2 → P 3 → (k : ℕ) → k < 4 → P k
by_four P a b c d zero h = a
by_four P a b c d (suc zero) h = b
by_four P a b c d (suc (suc zero)) h = c
by_four P a b c d (suc (suc (suc zero))) h = d
by_four P a b c d (suc (suc (suc (suc k)))) h = absurd (omega arith)

pub level_letter : (d k : ℕ) → k < d → d ≤ 4 → level (letters d) (letter k) ≡ k
unfolding level_from
level_letter zero k h l = absurd (omega arith)
level_letter (suc d) k h l =
    by_four (λ (i : ℕ). (j : ℕ) → j ≤ i → level (letters (suc i)) (letter j) ≡ j)
    (λ j g. by_four (λ (x : ℕ). x ≤ 0 → level (letters 1) (letter x) ≡ x) (λ q. refl) (λ q. absurd (omega arith)) (λ q. absurd (omega arith)) (λ q. absurd (omega arith)) j (omega arith) g)
    (λ j g. by_four (λ (x : ℕ). x ≤ 1 → level (letters 2) (letter x) ≡ x) (λ q. refl) (λ q. refl) (λ q. absurd (omega arith)) (λ q. absurd (omega arith)) j (omega arith) g)
    (λ j g. by_four (λ (x : ℕ). x ≤ 2 → level (letters 3) (letter x) ≡ x) (λ q. refl) (λ q. refl) (λ q. refl) (λ q. absurd (omega arith)) j (omega arith) g)
    (λ j g. by_four (λ (x : ℕ). x ≤ 3 → level (letters 4) (letter x) ≡ x) (λ q. refl) (λ q. refl) (λ q. refl) (λ q. refl) j (omega arith) g)
    d (omega arith) k (omega arith)

inside_letters : (d : ℕ) → d < 4 → inside (letters d) (letter d) ≡ letters (suc d)
unfolding inside
inside_letters d h = by_four (λ (i : ℕ). inside (letters i) (letter i) ≡ letters (suc i)) refl refl refl refl d h

length-letters : (d : ℕ) → length (letters d) ≡ d
length-letters zero = refl
length-letters (suc d) = length-append (letters d) (letter d ∷ []) ∙ omega (arith, length-letters d)

-- ── what stands at a text's end ──
ends-behind : (text : List ℕ) (b : ℕ) (z : List ℕ) → EndsIn text (b ∷ z) → EndsIn text z
ends-behind text b z x = (x.0 ++ (b ∷ []), x.1 ∙ sym (append_assoc x.0 (b ∷ []) z))

ends_cons : (b : ℕ) (y z : List ℕ) → EndsIn y z → EndsIn (b ∷ y) z
ends_cons b y z x = (b ∷ x.0, ap (λ (l : List ℕ). b ∷ l) x.1)

pair_ends : (p : Pairing) (a b : ℕ) (s : List ℕ) → EndsIn (write_pair p a b s) s
pair_ends Formula.before a b s = (a ∷ 32 ∷ 60 ∷ 32 ∷ b ∷ [], refl)
pair_ends Formula.overlaps a b s = (a ∷ 32 ∷ 111 ∷ 32 ∷ b ∷ [], refl)
pair_ends Formula.includes a b s = (a ∷ 32 ∷ 105 ∷ 32 ∷ b ∷ [], refl)
pair_ends Formula.same a b s = (115 ∷ 97 ∷ 109 ∷ 101 ∷ 40 ∷ a ∷ 44 ∷ b ∷ 41 ∷ [], refl)

pub write-ends : (f : Formula) (d : ℕ) (e : Levels) (s : List ℕ) → EndsIn (write d e f s) s
unfolding write
write-ends (Formula.both f g) d e s =
    let y = write d e g (41 ∷ s) in
    let a = ends-behind y 41 s (write-ends g d e (41 ∷ s)) in
    let b = ends-behind (write d e f (38 ∷ y)) 38 y (write-ends f d e (38 ∷ y)) in
    ends_cons 40 (write d e f (38 ∷ y)) s (ends_on b a)
write-ends (Formula.neg f) d e s = ends_cons 33 (write d e f s) s (write-ends f d e s)
write-ends (Formula.exists v f) d e s =
    let y = write (suc d) (binds e v d) f (41 ∷ s) in
    let a = ends-behind y 41 s (write-ends f (suc d) (binds e v d) (41 ∷ s)) in
    (40 ∷ 101 ∷ 120 ∷ 105 ∷ 115 ∷ 116 ∷ 32 ∷ letter d ∷ 46 ∷ a.0, ap (λ (l : List ℕ). 40 ∷ 101 ∷ 120 ∷ 105 ∷ 115 ∷ 116 ∷ 32 ∷ letter d ∷ 46 ∷ l) a.1)
write-ends (Formula.has v l) d e s =
    (letter (e v) ∷ 40 ∷ 39 ∷ (l ++ (39 ∷ 41 ∷ [])), ap (λ (x : List ℕ). letter (e v) ∷ 40 ∷ 39 ∷ x) (sym (append_assoc l (39 ∷ 41 ∷ []) s)))
write-ends (Formula.pair p v w) d e s = pair_ends p (letter (e v)) (letter (e w)) s

-- ── what the text says ──
pub kind_pairing : (p : Pairing) → pairing_of (pair_kind p) ≡ p
kind_pairing Formula.before = refl
kind_pairing Formula.overlaps = refl
kind_pairing Formula.includes = refl
kind_pairing Formula.same = refl

-- the variables in scope have levels below d
abbrev pub Inner : Scope → Levels → ℕ → Type 0
Inner c e d = (v : ℕ) → c v ≡ true → e v < d

pub inner-more : (c : Scope) (e : Levels) (d v : ℕ) → Inner c e d → Inner (enter c v) (binds e v d) (suc d)
inner-more c e d v i w h =
    either_bool (eqb v w)
    (λ q. let a : binds e v d w ≡ d = rw q in omega arith)
    (λ q. let a : binds e v d w ≡ e w = rw q in let b : c w ≡ true = simp q at h in omega (arith, i w b))

module _ (text : List ℕ) where
  atom_levels : (c : Scope) (e : Levels) (d v : ℕ) → Inner c e d → d ≤ 4 → c v ≡ true → level (letters d) (letter (e v)) ≡ e v
  atom_levels c e d v i l h = level_letter d (e v) (i v h) l

  pub said_means : (f : Formula) → Plain f → (d n : ℕ) → d + n ≡ 4 → shallow n f ≡ true → (c : Scope) (e : Levels) → Inner c e d → scoped f c ≡ true → (s : List ℕ) → EndsIn text (write d e f s) → formula_for text (letters d) (said d e f s) ≡ renamed d e f
  unfolding write said formula_for renamed scoped shallow
  said_means (Formula.both f g) p d n k h c e i o s x =
      let y = write d e g (41 ∷ s) in
      let xf = ends-behind text 40 (write d e f (38 ∷ y)) x in
      let xg = ends-behind text 38 y (ends_on xf (write-ends f d e (38 ∷ y))) in
      ap₂ Formula.both
      (said_means f p.0 d n k (shallow-both_left f g n h) c e i (scoped_both_left f g c o) (38 ∷ y) xf)
      (said_means g p.1 d n k (shallow-both_right f g n h) c e i (scoped_both_right f g c o) (41 ∷ s) xg)
  said_means (Formula.neg f) p d n k h c e i o s x =
      ap Formula.neg (said_means f p d n k h c e i o s (ends-behind text 33 (write d e f s) x))
  said_means (Formula.exists v f) p d zero k h c e i o s x = absurd (shallow_none f v h)
  said_means (Formula.exists v f) p d (suc n) k h c e i o s x =
      let z = write (suc d) (binds e v d) f (41 ∷ s) in
      let t = said (suc d) (binds e v d) f (41 ∷ s) in
      let x1 : EndsIn text z = (x.0 ++ (40 ∷ 101 ∷ 120 ∷ 105 ∷ 115 ∷ 116 ∷ 32 ∷ letter d ∷ 46 ∷ []), x.1 ∙ sym (append_assoc x.0 (40 ∷ 101 ∷ 120 ∷ 105 ∷ 115 ∷ 116 ∷ 32 ∷ letter d ∷ 46 ∷ []) z)) in
      ap₂ Formula.exists (length-letters d)
      (ap (λ (ns : List ℕ). formula_for text ns t) (inside_letters d (omega arith))
      ∙ said_means f p (suc d) n (omega arith) h (enter c v) (binds e v d) (inner-more c e d v i) o (41 ∷ s) x1)
  said_means (Formula.has v l) p d n k h c e i o s x =
      ap₂ Formula.has (atom_levels c e d v i (omega arith) o)
      (label_said_lem text l (41 ∷ s) p.0 (ends-behind text 39 _ (ends-behind text 40 _ (ends-behind text (letter (e v)) _ x))) ∙ p.1)
  said_means (Formula.pair q v w) p d n k h c e i o s x =
      let a = atom_levels c e d v i (omega arith) (and_left (c v) (c w) o) in
      let b = atom_levels c e d w i (omega arith) (and_right (c v) (c w) o) in
      λ z. Formula.pair (kind_pairing q z) (a z) (b z)

-- ── writing again ──
-- e2 keeps what e gives to the variables in scope
abbrev pub Keeps : Scope → Levels → Levels → Type 0
Keeps c e e2 = (v : ℕ) → c v ≡ true → e2 (e v) ≡ e v

keeps-more : (c : Scope) (e e2 : Levels) (d v : ℕ) → Keeps c e e2 → Keeps (enter c v) (binds e v d) (binds e2 d d)
keeps-more c e e2 d v i w h =
    either_bool (eqb v w)
    (λ q. simp (q, eq-eqb d d refl))
    (λ q.
    let b : c w ≡ true = simp q at h in
    simp q (either_bool (eqb d (e w)) (λ r. simp r (eqb-true d (e w) r)) (λ r. simp r (i w b))))

pub write_again : (f : Formula) (d : ℕ) (c : Scope) (e e2 : Levels) → Keeps c e e2 → scoped f c ≡ true → (s : List ℕ) → write d e2 (renamed d e f) s ≡ write d e f s
unfolding write renamed scoped
write_again (Formula.both f g) d c e e2 i o s =
    ap (λ (l : List ℕ). 40 ∷ l)
    (ap (λ (l : List ℕ). write d e2 (renamed d e f) (38 ∷ l)) (write_again g d c e e2 i (scoped_both_right f g c o) (41 ∷ s))
    ∙ write_again f d c e e2 i (scoped_both_left f g c o) (38 ∷ write d e g (41 ∷ s)))
write_again (Formula.neg f) d c e e2 i o s = ap (λ (l : List ℕ). 33 ∷ l) (write_again f d c e e2 i o s)
write_again (Formula.exists v f) d c e e2 i o s =
    ap (λ (l : List ℕ). 40 ∷ 101 ∷ 120 ∷ 105 ∷ 115 ∷ 116 ∷ 32 ∷ letter d ∷ 46 ∷ l)
    (write_again f (suc d) (enter c v) (binds e v d) (binds e2 d d) (keeps-more c e e2 d v i) o (41 ∷ s))
write_again (Formula.has v l) d c e e2 i o s = ap (λ (x : ℕ). letter x ∷ 40 ∷ 39 ∷ (l ++ (39 ∷ 41 ∷ s))) (i v o)
write_again (Formula.pair p v w) d c e e2 i o s =
    ap₂ (λ (x : ℕ) (y : ℕ). write_pair p (letter x) (letter y) s) (i v (and_left (c v) (c w) o)) (i w (and_right (c v) (c w) o))

-- A text says at most one tree: what reading keeps of it is one tree, and a kept tree is what is kept of one tree only.
use Prim.Native.Nat.{ℕ}
use mathlib.Core.Path.{◌≡◌, refl, sym, ap, ap₂, subst, ◌∙◌}
use mathlib.Core.Option.{some}
use mathlib.Core.List.{List}
use Rattle.rules.specs.Formula.{Pairing}
use Rattle.rules.specs.Table.{pairing_of}
use Rattle.atoms.specs.Tree as Kept
use Rattle.typed.specs.Grammar.{read_text}
use Rattle.typed_formula.specs.Meaning.{label_text}
use Rattle.typed_grammar.specs.Words.{IsName}
use Rattle.typed_grammar.specs.Grammar.{Tree, either, both, neg, exists, has, pair, Says}
use Rattle.typed_grammar.proofs.Codes.{name_number, Codes, of_or, of_and, of_not, of_some, of_label, of_pair}
use Rattle.typed_grammar.proofs.Complete.{says-reads}
use Rattle.typed_meaning.proofs.NameNumber.{name-number}

-- ── what a kept tree is kept of ──
-- the name has the number that is kept
abbrev Named : ℕ → List ℕ → Type 0
Named v n = IsName n × (name_number n ≡ v)

-- two names of one number are the same
one_name : {v : ℕ} (n m : List ℕ) → Named v n → Named v m → n ≡ m
one_name n m i j = name-number n m i.0 j.0 (i.1 ∙ sym j.1)

-- what the tree is, by what is kept of it
abbrev KeptOf : List ℕ → Kept.Tree → Tree → Type 0
KeptOf text (Kept.either a b) t = (l : Tree) × (r : Tree) × (t ≡ either l r) × Codes text l a × Codes text r b
KeptOf text (Kept.both a b) t = (l : Tree) × (r : Tree) × (t ≡ both l r) × Codes text l a × Codes text r b
KeptOf text (Kept.neg a) t = (s : Tree) × (t ≡ neg s) × Codes text s a
KeptOf text (Kept.exists v a) t = (n : List ℕ) × (s : Tree) × (t ≡ exists n s) × Named v n × Codes text s a
KeptOf text (Kept.has v q) t = (n : List ℕ) × (t ≡ has n (label_text text q)) × Named v n
KeptOf text (Kept.pair k v w) t = (n : List ℕ) × (m : List ℕ) × (t ≡ pair (pairing_of k) n m) × Named v n × Named w m

kept_of : {text : List ℕ} {t : Tree} {u : Kept.Tree} → Codes text t u → KeptOf text u t
kept_of (of_or x y) = (_, _, refl, x, y)
kept_of (of_and x y) = (_, _, refl, x, y)
kept_of (of_not x) = (_, refl, x)
kept_of (of_some {n = n} i x) = (n, _, refl, (i, refl), x)
kept_of (of_label {n = n} i e) = (n, ap (has n) (sym e), (i, refl))
kept_of (of_pair {n = n} {m = m} e low high i j) = (n, m, ap (λ (p : Pairing). pair p n m) (sym e), (i, refl), (j, refl))

-- a kept tree is kept of one tree only
pub codes_one : (text : List ℕ) (u : Kept.Tree) (t s : Tree) → Codes text t u → Codes text s u → t ≡ s
codes_one text (Kept.either a b) t s x y =
    let (l, r, e, c, d) = kept_of x in
    let (m, n, f, g, h) = kept_of y in
    e ∙ (ap₂ either (codes_one text a l m c g) (codes_one text b r n d h) ∙ sym f)
codes_one text (Kept.both a b) t s x y =
    let (l, r, e, c, d) = kept_of x in
    let (m, n, f, g, h) = kept_of y in
    e ∙ (ap₂ both (codes_one text a l m c g) (codes_one text b r n d h) ∙ sym f)
codes_one text (Kept.neg a) t s x y =
    let (l, e, c) = kept_of x in
    let (m, f, g) = kept_of y in
    e ∙ (ap neg (codes_one text a l m c g) ∙ sym f)
codes_one text (Kept.exists v a) t s x y =
    let (n, l, e, i, c) = kept_of x in
    let (o, m, f, j, g) = kept_of y in
    e ∙ (ap₂ exists (one_name n o i j) (codes_one text a l m c g) ∙ sym f)
codes_one text (Kept.has v q) t s x y =
    let (n, e, i) = kept_of x in
    let (o, f, j) = kept_of y in
    e ∙ (ap (λ (z : List ℕ). has z (label_text text q)) (one_name n o i j) ∙ sym f)
codes_one text (Kept.pair k v w) t s x y =
    let (n, m, e, i, c) = kept_of x in
    let (o, p, f, j, g) = kept_of y in
    e ∙ (ap₂ (pair (pairing_of k)) (one_name n o i j) (one_name m p c g) ∙ sym f)

-- ── a text ──
-- reading keeps one tree
same_kept : (text : List ℕ) (u v : Kept.Tree) → read_text text ≡ some u → read_text text ≡ some v → u ≡ v
same_kept text u v e f = cc

-- a text says at most one tree
pub says_one : (text : List ℕ) (t u : Tree) → Says text t → Says text u → t ≡ u
says_one text t u p q =
    let (a, e, c) = says-reads text t p in
    let (b, f, d) = says-reads text u q in
    codes_one text a t u c (subst (Codes text u) (same_kept text b a f e) d)

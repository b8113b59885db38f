-- Lists of labels: a label's number, and one label more.
use Prim.Native.Nat.{ℕ, zero, suc, ◌<◌, ◌≤◌}
use mathlib.Core.Path.{◌≡◌, refl, ap, ap₂, ◌∙◌}
use mathlib.Core.Bool.{false}
use mathlib.Core.List.{List, [], ◌∷◌, ◌++◌}
use native.Mathlib.Omega.{arith}
use lib.ListN.{length, get_or, length-append, get_or-append}
use lib.Seq.{get_or-append_seam}
use borrow.Author.Tests.{eq-eqb, ne_eqb, lt-ltb, le-ltb}
use Rattle.lists.specs.Lists.{same?}
use Rattle.lists.proofs.Lists.{same_refl, same_eq}
use Rattle.lists.proofs.Cases.{either_bool, either_lt}
use Rattle.typed_formula.specs.Meaning.{label_text}
use Rattle.typed_grammar.specs.File.{place_in}
use Rattle.text_labels.specs.Pieces.{texts}
use Rattle.typed_checks.specs.Tests.{noted}
use Rattle.typed_grammar.specs.File.{with_label}

pub texts-long : (text ps : List ℕ) → length (texts text ps) ≡ length ps
texts-long text [] = refl
texts-long text (p ∷ ps) = ap suc (texts-long text ps)

pub texts_append : (text ps qs : List ℕ) → texts text (ps ++ qs) ≡ texts text ps ++ texts text qs
texts_append text [] qs = refl
texts_append text (p ∷ ps) qs = ap (λ (l : List (List ℕ)). label_text text p ∷ l) (texts_append text ps qs)

pub noted_label : (text ps : List ℕ) (kind a b : ℕ) → kind ≡ 4 → texts text (noted text ps kind a b) ≡ with_label (texts text ps) (label_text text b)
unfolding noted with_label
noted_label text ps kind a b e =
    let ls = texts text ps in
    let l = texts-long text ps in
    either_lt (place_in ls (label_text text b)) (length ps)
    (λ h. let g : place_in ls (label_text text b) < length ls = omega arith in rw (eq-eqb kind 4 e, lt-ltb (place_in ls (label_text text b)) (length ps) h, lt-ltb (place_in ls (label_text text b)) (length ls) g))
    (λ h. let g : length ls ≤ place_in ls (label_text text b) = omega arith in rw (eq-eqb kind 4 e, le-ltb (place_in ls (label_text text b)) (length ps) h, le-ltb (place_in ls (label_text text b)) (length ls) g) (texts_append text ps (b ∷ [])))

pub noted_other : (text ps : List ℕ) (kind a b : ℕ) → (kind ≡ 4 → ⊥) → noted text ps kind a b ≡ ps
unfolding noted
noted_other text ps kind a b n = simp (ne_eqb kind 4 n)

-- ── numbers ──
pub number-few : (ls : List (List ℕ)) (x : List ℕ) → place_in ls x ≤ length ls
number-few [] x = omega arith
number-few (l ∷ ls) x = either_bool (same? l x) (λ e. rw e (omega arith)) (λ e. rw e (omega (arith, number-few ls x)))

-- the label that a number stands for
pub number_at_lem : (ls : List (List ℕ)) (x : List ℕ) → place_in ls x < length ls → get_or ls (place_in ls x) [] ≡ x
number_at_lem [] x h = absurd (omega arith)
number_at_lem (l ∷ ls) x h =
    either_bool (same? l x)
    (λ e. rw e (same_eq l x e))
    (λ e. let k : suc (place_in ls x) < length (l ∷ ls) = rw e at h in rw e (number_at_lem ls x (omega arith)))

pub number_kept : (ls xs : List (List ℕ)) (x : List ℕ) → place_in ls x < length ls → place_in (ls ++ xs) x ≡ place_in ls x
number_kept [] xs x h = absurd (omega arith)
number_kept (l ∷ ls) xs x h =
    either_bool (same? l x)
    (λ e. rw e)
    (λ e. let k : suc (place_in ls x) < length (l ∷ ls) = rw e at h in rw e (ap suc (number_kept ls xs x (omega arith))))

number_new : (ls : List (List ℕ)) (x : List ℕ) → place_in (ls ++ (x ∷ [])) x ≤ length ls
number_new [] x = rw (same_refl x) (omega arith)
number_new (l ∷ ls) x = either_bool (same? l x) (λ e. rw e (omega arith)) (λ e. rw e (omega (arith, number_new ls x)))

-- no listed label is one that has no number
pub number-apart : (ls : List (List ℕ)) (x : List ℕ) (i : ℕ) → length ls ≤ place_in ls x → i < length ls → same? (get_or ls i []) x ≡ false
number-apart [] x i h k = absurd (omega arith)
number-apart (l ∷ ls) x zero h k =
    either_bool (same? l x)
    (λ e. absurd (let z : length (l ∷ ls) ≤ 0 = rw e at h in omega arith))
    (λ e. e)
number-apart (l ∷ ls) x (suc i) h k =
    either_bool (same? l x)
    (λ e. absurd (let z : length (l ∷ ls) ≤ 0 = rw e at h in omega arith))
    (λ e. let z : length (l ∷ ls) ≤ suc (place_in ls x) = rw e at h in number-apart ls x i (omega arith) (omega arith))

-- ── one label more ──
abbrev pub Among : List (List ℕ) → List ℕ → Type 0
Among ls x = place_in ls x < length ls

pub among_new : (ls : List (List ℕ)) (x : List ℕ) → Among (with_label ls x) x
unfolding with_label
among_new ls x =
    either_lt (place_in ls x) (length ls)
    (λ h. rw (lt-ltb (place_in ls x) (length ls) h) h)
    (λ h. rw (le-ltb (place_in ls x) (length ls) h) (omega (arith, number_new ls x, length-append ls (x ∷ []))))

pub among_kept : (ls : List (List ℕ)) (x y : List ℕ) → Among ls y → Among (with_label ls x) y
unfolding with_label
among_kept ls x y a =
    either_lt (place_in ls x) (length ls)
    (λ h. rw (lt-ltb (place_in ls x) (length ls) h) a)
    (λ h. rw (le-ltb (place_in ls x) (length ls) h) (omega (arith, number_kept ls (x ∷ []) y a, length-append ls (x ∷ []))))

-- no label twice
abbrev pub Distinct : List (List ℕ) → Type 0
Distinct ls = (i j : ℕ) → i < j → j < length ls → same? (get_or ls i []) (get_or ls j []) ≡ false

pub distinct_with : (ls : List (List ℕ)) (x : List ℕ) → Distinct ls → Distinct (with_label ls x)
unfolding with_label
distinct_with ls x d =
    either_lt (place_in ls x) (length ls)
    (λ h. rw (lt-ltb (place_in ls x) (length ls) h) d)
    (λ h. rw (le-ltb (place_in ls x) (length ls) h) (more h))
  where
    more : length ls ≤ place_in ls x → Distinct (ls ++ (x ∷ []))
    more h i j l k =
        let n = length-append ls (x ∷ []) in
        let a : get_or (ls ++ (x ∷ [])) i [] ≡ get_or ls i [] = get_or-append ls (x ∷ []) [] i (omega arith) in
        either_lt j (length ls)
        (λ g. ap₂ same? a (get_or-append ls (x ∷ []) [] j g) ∙ d i j l g)
        (λ g.
        let e : j ≡ length ls = omega arith in
        let b : get_or (ls ++ (x ∷ [])) j [] ≡ x = ap (λ (m : ℕ). get_or (ls ++ (x ∷ [])) m []) e ∙ get_or-append_seam ls x [] [] in
        ap₂ same? a b ∙ number-apart ls x i h (omega arith))

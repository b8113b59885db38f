-- Names, nesting and the formula of a typed rule: what the kept tree says in numbers, the worded tree says in bytes.
use Prim.Native.Nat.{ℕ, zero, suc, ◌+◌, ◌≤◌}
use mathlib.Core.Path.{◌≡◌, refl, sym, ap, ap₂, fun_ext, ◌∙◌}
use mathlib.Core.Bool.{Bool, true, false, ◌&&◌}
use mathlib.Core.List.{List, [], ◌∷◌}
use native.Mathlib.Omega.{arith}
use lib.ListN.{length}
use borrow.Author.Tests.{le-ltb}
use Rattle.lists.proofs.Cases.{no_both, and_left, and_right}
use Rattle.rules.specs.Formula.{Formula, no_scope, scoped, shallow}
use Rattle.atoms.specs.Tree as Kept
use Rattle.atoms.specs.Tree.{size}
use Rattle.atoms.specs.Emit as Emit
use Rattle.atoms.specs.Emit.{inside}
use Rattle.typed_formula.specs.Meaning.{formula_for}
use Rattle.typed_formula.specs.Bound.{bound?, all_bound}
use Rattle.typed_formula.proofs.FileSays.{Known}
use Rattle.typed_formula.proofs.Unbound.{below, scoped_bound}
use Rattle.typed_grammar.specs.Grammar.{Tree}
use Rattle.typed_grammar.specs.Formula.{Names, formula_in, formula_said}
use Rattle.typed_grammar.specs.File.{node_count}
use Rattle.typed_grammar.specs.Met as Met
use Rattle.typed_grammar.specs.Met.{Free, Nested}
use Rattle.typed_grammar.proofs.Codes.{name_number, Codes, of_or, of_and, of_not, of_some, of_label, of_pair}
use Rattle.typed_meaning.proofs.NameNumber.{AllNames, numbers, among?, numbers-long, inside_numbers, level-among, bound_among, among_other, not_among}
pub use Rattle.typed_meaning.proofs.NameNumber.{name-number}

-- ── nodes and kinds ──
-- the formula takes the nodes of the kept tree, whatever names are around
pub codes_nodes : (text : List ℕ) (t : Tree) (u : Kept.Tree) → Codes text t u → (ns : Names) → node_count (formula_in ns t) ≡ size u
unfolding formula_in
codes_nodes text t u (of_or a b) ns = let e = codes_nodes text _ _ a ns in let f = codes_nodes text _ _ b ns in omega arith
codes_nodes text t u (of_and a b) ns = let e = codes_nodes text _ _ a ns in let f = codes_nodes text _ _ b ns in omega arith
codes_nodes text t u (of_not a) ns = let e = codes_nodes text _ _ a ns in omega arith
codes_nodes text t u (of_some {n = n} i a) ns = let e = codes_nodes text _ _ a (n ∷ ns) in omega arith
codes_nodes text t u (of_label i q) ns = refl
codes_nodes text t u (of_pair q l h i j) ns = refl

pub codes_size : (text : List ℕ) (t : Tree) (u : Kept.Tree) → Codes text t u → node_count (formula_said t) ≡ size u
codes_size text t u c = codes_nodes text t u c []

pub codes_known : (text : List ℕ) (t : Tree) (u : Kept.Tree) → Codes text t u → Known u
codes_known text t u (of_or a b) = (codes_known text _ _ a, codes_known text _ _ b)
codes_known text t u (of_and a b) = (codes_known text _ _ a, codes_known text _ _ b)
codes_known text t u (of_not a) = codes_known text _ _ a
codes_known text t u (of_some i a) = codes_known text _ _ a
codes_known text t u (of_label i q) = tt
codes_known text t u (of_pair q l h i j) = (l, h)

-- ── free names ──
-- within the names around, a tree whose names are bound has no other name free
bound_around : (text : List ℕ) (t : Tree) (u : Kept.Tree) → Codes text t u → (ms : Names) → AllNames ms → length ms + size u ≤ 64
    → all_bound (numbers ms) u ≡ true → (n : List ℕ) → Free n t → among? ms n ≡ true
unfolding all_bound
bound_around text t u (of_or {a = x} {b = y} a b) ms w h e n (Met.Free.in_left f) =
    bound_around text _ _ a ms w (omega arith) (and_left (all_bound (numbers ms) x) (all_bound (numbers ms) y) e) n f
bound_around text t u (of_or {a = x} {b = y} a b) ms w h e n (Met.Free.in_right f) =
    bound_around text _ _ b ms w (omega arith) (and_right (all_bound (numbers ms) x) (all_bound (numbers ms) y) e) n f
bound_around text t u (of_and {a = x} {b = y} a b) ms w h e n (Met.Free.in_first f) =
    bound_around text _ _ a ms w (omega arith) (and_left (all_bound (numbers ms) x) (all_bound (numbers ms) y) e) n f
bound_around text t u (of_and {a = x} {b = y} a b) ms w h e n (Met.Free.in_second f) =
    bound_around text _ _ b ms w (omega arith) (and_right (all_bound (numbers ms) x) (all_bound (numbers ms) y) e) n f
bound_around text t u (of_not a) ms w h e n (Met.Free.in_not f) = bound_around text _ _ a ms w (omega arith) e n f
bound_around text t u (of_some {n = m} {a = x} i a) ms w h e n (Met.Free.in_some d f) =
    let q = ap (λ (l : List ℕ). all_bound l x) (inside_numbers ms m (omega arith)) in
    among_other m ms n d (bound_around text _ _ a (m ∷ ms) (i, w) (omega arith) (sym q ∙ e) n f)
bound_around text t u (of_label i q) ms w h e n Met.Free.has_it = sym (bound_among ms n w i (omega arith)) ∙ e
bound_around text t u (of_pair {n = x} {m = y} q l g i j) ms w h e n Met.Free.is_first =
    sym (bound_among ms x w i (omega arith)) ∙ and_left (bound? (numbers ms) (name_number x)) (bound? (numbers ms) (name_number y)) e
bound_around text t u (of_pair {n = x} {m = y} q l g i j) ms w h e n Met.Free.is_second =
    sym (bound_among ms y w j (omega arith)) ∙ and_right (bound? (numbers ms) (name_number x)) (bound? (numbers ms) (name_number y)) e

-- of two tests that do not both pass, one fails
one_fails : {C : Type 0} (a b : Bool) → a && b ≡ false → (a ≡ false → C) → (b ≡ false → C) → C
one_fails true b e f g = g e
one_fails false b e f g = f refl

-- a tree with a name that is not bound has one free that is not among the names around
unbound_around : (text : List ℕ) (t : Tree) (u : Kept.Tree) → Codes text t u → (ms : Names) → AllNames ms → length ms + size u ≤ 64
    → all_bound (numbers ms) u ≡ false → (n : List ℕ) × Free n t × (among? ms n ≡ false)
unfolding all_bound
unbound_around text t u (of_or {a = x} {b = y} a b) ms w h e =
    one_fails (all_bound (numbers ms) x) (all_bound (numbers ms) y) e
    (λ q. let r = unbound_around text _ _ a ms w (omega arith) q in (r.0, Met.Free.in_left r.1, r.2))
    (λ q. let r = unbound_around text _ _ b ms w (omega arith) q in (r.0, Met.Free.in_right r.1, r.2))
unbound_around text t u (of_and {a = x} {b = y} a b) ms w h e =
    one_fails (all_bound (numbers ms) x) (all_bound (numbers ms) y) e
    (λ q. let r = unbound_around text _ _ a ms w (omega arith) q in (r.0, Met.Free.in_first r.1, r.2))
    (λ q. let r = unbound_around text _ _ b ms w (omega arith) q in (r.0, Met.Free.in_second r.1, r.2))
unbound_around text t u (of_not a) ms w h e =
    let r = unbound_around text _ _ a ms w (omega arith) e in
    (r.0, Met.Free.in_not r.1, r.2)
unbound_around text t u (of_some {n = m} {a = x} i a) ms w h e =
    let q = ap (λ (l : List ℕ). all_bound l x) (inside_numbers ms m (omega arith)) in
    let r = unbound_around text _ _ a (m ∷ ms) (i, w) (omega arith) (sym q ∙ e) in
    let d = not_among m ms r.0 r.2 in
    (r.0, Met.Free.in_some d.0 r.1, d.1)
unbound_around text t u (of_label {n = x} i q) ms w h e = (x, Met.Free.has_it, sym (bound_among ms x w i (omega arith)) ∙ e)
unbound_around text t u (of_pair {n = x} {m = y} q l g i j) ms w h e =
    one_fails (bound? (numbers ms) (name_number x)) (bound? (numbers ms) (name_number y)) e
    (λ z. (x, Met.Free.is_first, sym (bound_among ms x w i (omega arith)) ∙ z))
    (λ z. (y, Met.Free.is_second, sym (bound_among ms y w j (omega arith)) ∙ z))

-- a whole rule is in scope exactly if its names are bound
none_below : no_scope ≡ below 0
none_below = fun_ext (λ v. sym (le-ltb v 0 (omega arith)))

rule_bound : (text : List ℕ) (u : Kept.Tree) → size u ≤ 64 → scoped (formula_for text [] u) no_scope ≡ all_bound [] u
rule_bound text u h = ap (scoped (formula_for text [] u)) none_below ∙ scoped_bound text u [] (omega arith)

pub scoped_no_free : (text : List ℕ) (t : Tree) (u : Kept.Tree) → Codes text t u → size u ≤ 64
    → scoped (formula_for text [] u) no_scope ≡ true → (n : List ℕ) → Free n t → ⊥
scoped_no_free text t u c h e n f =
    no_both (sym (bound_around text t u c [] tt (omega arith) (sym (rule_bound text u h) ∙ e) n f))

pub unscoped_free : (text : List ℕ) (t : Tree) (u : Kept.Tree) → Codes text t u → size u ≤ 64
    → scoped (formula_for text [] u) no_scope ≡ false → (n : List ℕ) × Free n t
unscoped_free text t u c h e =
    let r = unbound_around text t u c [] tt (omega arith) (sym (rule_bound text u h) ∙ e) in
    (r.0, r.1)

-- ── nesting ──
-- a tree nests no more names than its formula has "some" one inside another
nested_low : (text : List ℕ) (t : Tree) (u : Kept.Tree) → Codes text t u → (ns : Emit.Names) (k j : ℕ)
    → shallow k (formula_for text ns u) ≡ true → Nested j t → j ≤ k
unfolding formula_for shallow
nested_low text t u (of_or a b) ns k j e Met.Nested.none = omega arith
nested_low text t u (of_or {a = x} {b = y} a b) ns k j e (Met.Nested.in_left f) =
    nested_low text _ _ a ns k j (and_left (shallow k (formula_for text ns x)) (shallow k (formula_for text ns y)) e) f
nested_low text t u (of_or {a = x} {b = y} a b) ns k j e (Met.Nested.in_right f) =
    nested_low text _ _ b ns k j (and_right (shallow k (formula_for text ns x)) (shallow k (formula_for text ns y)) e) f
nested_low text t u (of_and a b) ns k j e Met.Nested.none = omega arith
nested_low text t u (of_and {a = x} {b = y} a b) ns k j e (Met.Nested.in_first f) =
    nested_low text _ _ a ns k j (and_left (shallow k (formula_for text ns x)) (shallow k (formula_for text ns y)) e) f
nested_low text t u (of_and {a = x} {b = y} a b) ns k j e (Met.Nested.in_second f) =
    nested_low text _ _ b ns k j (and_right (shallow k (formula_for text ns x)) (shallow k (formula_for text ns y)) e) f
nested_low text t u (of_not a) ns k j e Met.Nested.none = omega arith
nested_low text t u (of_not a) ns k j e (Met.Nested.in_not f) = nested_low text _ _ a ns k j e f
nested_low text t u (of_some i a) ns zero j e f = no_both (sym e)
nested_low text t u (of_some i a) ns (suc k) j e Met.Nested.none = omega arith
nested_low text t u (of_some {n = m} i a) ns (suc k) j e (Met.Nested.skipped f) =
    let l = nested_low text _ _ a (inside ns (name_number m)) k j e f in
    omega arith
nested_low text t u (of_some {n = m} i a) ns (suc k) j e (Met.Nested.one_more f) =
    let l = nested_low text _ _ a (inside ns (name_number m)) k _ e f in
    omega arith
nested_low text t u (of_label i q) ns k j e Met.Nested.none = omega arith
nested_low text t u (of_pair q l g i j) ns k v e Met.Nested.none = omega arith

-- a tree whose formula has more nests one name more
nested-more : (text : List ℕ) (t : Tree) (u : Kept.Tree) → Codes text t u → (ns : Emit.Names) (k : ℕ)
    → shallow k (formula_for text ns u) ≡ false → Nested (suc k) t
unfolding formula_for shallow
nested-more text t u (of_or {a = x} {b = y} a b) ns k e =
    one_fails (shallow k (formula_for text ns x)) (shallow k (formula_for text ns y)) e
    (λ q. Met.Nested.in_left (nested-more text _ _ a ns k q))
    (λ q. Met.Nested.in_right (nested-more text _ _ b ns k q))
nested-more text t u (of_and {a = x} {b = y} a b) ns k e =
    one_fails (shallow k (formula_for text ns x)) (shallow k (formula_for text ns y)) e
    (λ q. Met.Nested.in_first (nested-more text _ _ a ns k q))
    (λ q. Met.Nested.in_second (nested-more text _ _ b ns k q))
nested-more text t u (of_not a) ns k e = Met.Nested.in_not (nested-more text _ _ a ns k e)
nested-more text t u (of_some i a) ns zero e = Met.Nested.one_more Met.Nested.none
nested-more text t u (of_some {n = m} i a) ns (suc k) e = Met.Nested.one_more (nested-more text _ _ a (inside ns (name_number m)) k e)
nested-more text t u (of_label i q) ns k e = no_both e
nested-more text t u (of_pair q l g i j) ns k e = no_both e

pub shallow_not_nested : (text : List ℕ) (t : Tree) (u : Kept.Tree) → Codes text t u
    → shallow 4 (formula_for text [] u) ≡ true → Nested 5 t → ⊥
shallow_not_nested text t u c e f = let l : 5 ≤ 4 = nested_low text t u c [] 4 5 e f in omega arith

pub deep-nested : (text : List ℕ) (t : Tree) (u : Kept.Tree) → Codes text t u → shallow 4 (formula_for text [] u) ≡ false → Nested 5 t
deep-nested text t u c e = nested-more text t u c [] 4 e

-- ── the formula ──
-- within the names around, a tree whose names are bound says one formula in numbers and in bytes
formula_around : (text : List ℕ) (t : Tree) (u : Kept.Tree) → Codes text t u → (ms : Names) → AllNames ms → length ms + size u ≤ 64
    → all_bound (numbers ms) u ≡ true → formula_for text (numbers ms) u ≡ formula_in ms t
unfolding all_bound formula_for formula_in
formula_around text t u (of_or {a = x} {b = y} a b) ms w h e =
    let p = all_bound (numbers ms) x in
    let q = all_bound (numbers ms) y in
    ap₂ (λ (f : Formula) (g : Formula). Formula.neg (Formula.both (Formula.neg f) (Formula.neg g)))
    (formula_around text _ _ a ms w (omega arith) (and_left p q e))
    (formula_around text _ _ b ms w (omega arith) (and_right p q e))
formula_around text t u (of_and {a = x} {b = y} a b) ms w h e =
    let p = all_bound (numbers ms) x in
    let q = all_bound (numbers ms) y in
    ap₂ Formula.both
    (formula_around text _ _ a ms w (omega arith) (and_left p q e))
    (formula_around text _ _ b ms w (omega arith) (and_right p q e))
formula_around text t u (of_not a) ms w h e = ap Formula.neg (formula_around text _ _ a ms w (omega arith) e)
formula_around text t u (of_some {n = m} {a = x} i a) ms w h e =
    let s = inside_numbers ms m (omega arith) in
    let q = ap (λ (l : List ℕ). all_bound l x) s in
    ap₂ Formula.exists (numbers-long ms)
    (ap (λ (l : List ℕ). formula_for text l x) s ∙ formula_around text _ _ a (m ∷ ms) (i, w) (omega arith) (sym q ∙ e))
formula_around text t u (of_label {n = x} i q) ms w h e =
    ap₂ Formula.has (level-among ms x w i (sym (bound_among ms x w i (omega arith)) ∙ e)) q
formula_around text t u (of_pair {n = x} {m = y} q l g i j) ms w h e =
    let bx = bound? (numbers ms) (name_number x) in
    let by = bound? (numbers ms) (name_number y) in
    let ex = level-among ms x w i (sym (bound_among ms x w i (omega arith)) ∙ and_left bx by e) in
    let ey = level-among ms y w j (sym (bound_among ms y w j (omega arith)) ∙ and_right bx by e) in
    λ k. Formula.pair (q k) (ex k) (ey k)

pub formula_said_lem : (text : List ℕ) (t : Tree) (u : Kept.Tree) → Codes text t u → size u ≤ 64
    → scoped (formula_for text [] u) no_scope ≡ true → formula_for text [] u ≡ formula_said t
formula_said_lem text t u c h e = formula_around text t u c [] tt (omega arith) (sym (rule_bound text u h) ∙ e)

-- The checks of a whole table: each function's answer from those of its callees.
use Prim.Native.Nat.{ℕ, zero, suc, ◌+◌, ◌-◌, ◌<◌, ◌≤◌}
use mathlib.Core.Path.{◌≡◌, refl, sym, subst, ap, ap₂, fun_ext, ◌∙◌}
use mathlib.Core.Bool.{Bool, true, false, not, ◌&&◌, ◌||◌, cond, and-true}
use mathlib.Core.List.{List, [], ◌∷◌, map}
use native.Mathlib.Omega.{arith}
use native.Mathlib.Numerals.{add-one}
use Rattle.std.specs.List.{list_all, range_with_len}
use Rattle.std.proofs.lemmas.List.Folds.{list_all-append, list_all-map}
use Rattle.std.proofs.lemmas.List.FromFn.{map-range_with_len_more}
use lib.Dec.{eqb, leb, ltb}
use lib.ListN.{length, get_or, set}
use lib.Seq.{get_or-set_same, get_or-set_other}
use borrow.Author.Tests.{eq-eqb, ne_eqb, eqb-true, eqb-false, not-true, not-false}
use Rattle.rules.specs.Limits.{last_kind, max_nested}
use Rattle.rules.specs.Formula.{Formula, Scope, no_scope, enter, scoped, one_less, shallow}
use Rattle.rules.specs.Parts.{label_count}
use Rattle.rules.specs.Table.{Op, op_has, op_none, op_pair, pairing_of, op_of, node_at, Good, formula_at}
use Rattle.rules.specs.Checks.{field_names, fields_naming, node_names, times_named, once_below, named_once, scope_of, root_formula, whole_table}
use Rattle.rules.specs.declared.Node.{Node}
use Rattle.rules.specs.declared.Vars.{Vars}
use Rattle.std.specs.Prelude.{Ok, Err}
use Rattle.refusals.specs.declared.Refusal.TheVariants.{RuleNotATree, RuleUnbound, RuleTooDeep}
use Rattle.rules.proofs.Formulas.{formula-and, formula_not, formula_some, formula-has, by_atom}

-- ── 8: how often a node is named ──
module _ (field c : ℕ) where
  pub field_yes : field ≡ c → 1 ≡ field_names field c
  field_yes e = simp (eq-eqb field c e)

  pub field_no : (field ≡ c → ⊥) → 0 ≡ field_names field c
  field_no n = simp (ne_eqb field c n)

module _ (x : Node) (c : ℕ) where
  names_kind : (k m : ℕ) → x.kind ≡ k → m ≡ fields_naming (op_of k) x.a x.b c → m ≡ node_names x c
  names_kind k m e h = h ∙ ap (λ (i : ℕ). fields_naming (op_of i) x.a x.b c) (sym e)

  pub names_and : (m n : ℕ) → x.kind ≡ 1 → m ≡ field_names x.a c → n ≡ field_names x.b c → m + n ≡ node_names x c
  names_and m n e f g = names_kind 1 (m + n) e (ap₂ ◌+◌ f g)

  pub names_not : (m : ℕ) → x.kind ≡ 2 → m ≡ field_names x.a c → m ≡ node_names x c
  names_not m e f = names_kind 2 m e f

  pub names_some : (m : ℕ) → x.kind ≡ 3 → m ≡ field_names x.b c → m ≡ node_names x c
  names_some m e f = names_kind 3 m e f

  either : (t : Bool) (o q : Op) → 0 ≡ fields_naming o x.a x.b c → 0 ≡ fields_naming q x.a x.b c → 0 ≡ fields_naming (cond t o q) x.a x.b c
  either true o q e f = e
  either false o q e f = f

  pub names_none : (x.kind ≡ 1 → ⊥) → (x.kind ≡ 2 → ⊥) → (x.kind ≡ 3 → ⊥) → 0 ≡ node_names x c
  names_none n1 n2 n3 =
      rw (ne_eqb x.kind 1 n1, ne_eqb x.kind 2 n2, ne_eqb x.kind 3 n3)
      (either (eqb x.kind 4) op_has _ refl
      (either (ltb 4 x.kind && leb x.kind last_kind) (op_pair (pairing_of x.kind)) op_none refl refl))

pub named_first : (file : List ℕ) (p c : ℕ) → 0 ≡ times_named file p 0 c
unfolding times_named
named_first file p c = refl

pub named_next : (file : List ℕ) (p i c n m : ℕ) (x : Node) → n ≡ times_named file p i c → x ≡ node_at file p i → m ≡ node_names x c → n + m ≡ times_named file p (i + 1) c
unfolding times_named
named_next file p i c n m x e f g = rw (add-one i) (ap₂ ◌+◌ e (g ∙ ap (λ (y : Node). node_names y c) f))

pub named_end : (file : List ℕ) (p i k c n : ℕ) → n ≡ times_named file p i c → i ≤ k → k ≤ i → n ≡ times_named file p k c
named_end file p i k c n e h l = let q : i ≡ k = omega arith in subst (λ (j : ℕ). n ≡ times_named file p j c) q e

-- a test of the numbers below c + 1: of those below c, and of c
all_more : (t : ℕ → Bool) (c : ℕ) → list_all t (range_with_len 0 (c + 1)) ≡ (list_all t (range_with_len 0 c) && t c)
all_more t c =
    sym (list_all-map (λ b. b) t (range_with_len 0 (c + 1)))
    ∙ ap (list_all (λ b. b)) (map-range_with_len_more t 0 c c (omega arith))
    ∙ list_all-append (λ b. b) (map t (range_with_len 0 c)) (t c ∷ [])
    ∙ ap₂ ◌&&◌ (list_all-map (λ b. b) t (range_with_len 0 c)) (and-true (t c))

-- one test for each of the first c nodes
pub once_all : (file : List ℕ) (p n c : ℕ) → once_below file p n c ≡ list_all (λ m. eqb (times_named file p n m) 1) (range_with_len 0 c)
unfolding once_below
once_all file p n zero = refl
once_all file p n (suc c) =
    let once : ℕ → Bool = λ m. eqb (times_named file p n m) 1 in
    ap (λ t. t && once c) (once_all file p n c) ∙ sym (all_more once c) ∙ ap (λ m. list_all once (range_with_len 0 m)) (add-one c)

-- ── 9: variables in scope ──
pub enter-set : (l : List Bool) (v : ℕ) → v < length l → (λ (w : ℕ). get_or (set l v true) w false) ≡ enter (λ (w : ℕ). get_or l w false) v
enter-set l v h = fun_ext (λ w. go w (eqb v w) refl)
  where
    go : (w : ℕ) (x : Bool) → eqb v w ≡ x → get_or (set l v true) w false ≡ (x || get_or l w false)
    go w true e = subst (λ (u : ℕ). get_or (set l v true) u false ≡ true) (eqb-true v w e) (get_or-set_same l v true false h)
    go w false e = get_or-set_other l v w true false (λ q. eqb-false v w e (sym q))

-- the variables at first: none
abbrev pub none_bound : Vars
none_bound = record { bound = false ∷ false ∷ false ∷ false ∷ [] }

pub none_bound_lem : scope_of none_bound ≡ no_scope
none_bound_lem = fun_ext go
  where
    go : (v : ℕ) → scope_of none_bound v ≡ false
    go zero = refl
    go (suc zero) = refl
    go (suc (suc zero)) = refl
    go (suc (suc (suc zero))) = refl
    go (suc (suc (suc (suc v)))) = refl

pub closed_from : (f : Formula) (r : Bool) → r ≡ scoped f (scope_of none_bound) → r ≡ scoped f no_scope
closed_from f r e = e ∙ ap (scoped f) none_bound_lem

module _ (file : List ℕ) (p n : ℕ) (x : Node) (node : x ≡ node_at file p n) (good : Good file p n) where
  module _ (s : Scope) where
    pub scoped_and : (r t : Bool) → x.kind ≡ 1 → r ≡ scoped (formula_at file p x.a) s → r ≡ true → t ≡ scoped (formula_at file p x.b) s → t ≡ scoped (formula_at file p n) s
    unfolding scoped
    scoped_and r t k e f g = rw (formula-and file p n x node good k) (ap₂ ◌&&◌ (sym f ∙ e) g)

    pub scoped_and_not : (r : Bool) → x.kind ≡ 1 → r ≡ scoped (formula_at file p x.a) s → r ≡ false → r ≡ scoped (formula_at file p n) s
    unfolding scoped
    scoped_and_not r k e f = rw (formula-and file p n x node good k) (f ∙ ap₂ ◌&&◌ (sym f ∙ e) refl)

    pub scoped_not : (r : Bool) → x.kind ≡ 2 → r ≡ scoped (formula_at file p x.a) s → r ≡ scoped (formula_at file p n) s
    unfolding scoped
    scoped_not r k e = rw (formula_not file p n x node good k) e

    pub scoped_some : (r : Bool) (v : Vars) → x.kind ≡ 3 → r ≡ scoped (formula_at file p x.b) (scope_of v) → scope_of v ≡ enter s x.a → r ≡ scoped (formula_at file p n) s
    unfolding scoped
    scoped_some r v k e f = rw (formula_some file p n x node good k) (e ∙ ap (scoped (formula_at file p x.b)) f)

    pub scoped_has : (r : Bool) → x.kind ≡ 4 → r ≡ s x.a → r ≡ scoped (formula_at file p n) s
    unfolding scoped
    scoped_has r k e = rw (formula-has file p n x node good k) e

    module _ (n1 : x.kind ≡ 1 → ⊥) (n2 : x.kind ≡ 2 → ⊥) (n3 : x.kind ≡ 3 → ⊥) (n4 : x.kind ≡ 4 → ⊥) where
      scoped_two : (s x.a && s x.b) ≡ scoped (formula_at file p n) s
      unfolding scoped
      scoped_two = by_atom file p n x node good n1 n2 n3 (λ k. absurd (n4 k)) (λ _ e. rw e refl)

      pub scoped_pair : (r t : Bool) → r ≡ s x.a → r ≡ true → t ≡ s x.b → t ≡ scoped (formula_at file p n) s
      scoped_pair r t e f g = ap₂ ◌&&◌ (sym f ∙ e) g ∙ scoped_two

      pub scoped_pair_not : (r : Bool) → r ≡ s x.a → r ≡ false → r ≡ scoped (formula_at file p n) s
      scoped_pair_not r e f = f ∙ ap₂ ◌&&◌ (sym f ∙ e) refl ∙ scoped_two

  -- ── 10: how deep "some" nodes nest ──
  module _ (left : ℕ) where
    pub shallow-and : (r t : Bool) → x.kind ≡ 1 → r ≡ shallow left (formula_at file p x.a) → r ≡ true → t ≡ shallow left (formula_at file p x.b) → t ≡ shallow left (formula_at file p n)
    unfolding shallow
    shallow-and r t k e f g = rw (formula-and file p n x node good k) (ap₂ ◌&&◌ (sym f ∙ e) g)

    pub shallow-and_not : (r : Bool) → x.kind ≡ 1 → r ≡ shallow left (formula_at file p x.a) → r ≡ false → r ≡ shallow left (formula_at file p n)
    unfolding shallow
    shallow-and_not r k e f = rw (formula-and file p n x node good k) (f ∙ ap₂ ◌&&◌ (sym f ∙ e) refl)

    pub shallow_not : (r : Bool) → x.kind ≡ 2 → r ≡ shallow left (formula_at file p x.a) → r ≡ shallow left (formula_at file p n)
    unfolding shallow
    shallow_not r k e = rw (formula_not file p n x node good k) e

    pub shallow-deep : x.kind ≡ 3 → left ≤ 0 → ltb 0 left ≡ shallow left (formula_at file p n)
    unfolding shallow
    shallow-deep k z = let e : left ≡ 0 = omega arith in rw (formula_some file p n x node good k, e) refl

    pub shallow_some : (r : Bool) → x.kind ≡ 3 → 0 < left → r ≡ shallow (left - 1) (formula_at file p x.b) → r ≡ shallow left (formula_at file p n)
    unfolding shallow
    shallow_some r k z e =
        let q : left ≡ suc (left - 1) = omega arith in
        rw (formula_some file p n x node good k) (e ∙ ap (λ (m : ℕ). one_less m (λ i. shallow i (formula_at file p x.b))) (sym q))

    pub shallow_atom : (x.kind ≡ 1 → ⊥) → (x.kind ≡ 2 → ⊥) → (x.kind ≡ 3 → ⊥) → true ≡ shallow left (formula_at file p n)
    unfolding shallow
    shallow_atom n1 n2 n3 = by_atom file p n x node good n1 n2 n3 (λ k. rw (formula-has file p n x node good k) refl) (λ _ e. rw e refl)

pub ruleset scopes = (scoped_and, scoped_and_not, scoped_not, scoped_some, scoped_has, scoped_pair, scoped_pair_not)

pub ruleset depths = (shallow-and, shallow-and_not, shallow_not, shallow-deep, shallow_some, shallow_atom)

-- ── the three checks in order ──
module _ (file : List ℕ) (p n : ℕ) (a b d : Bool) (once : a ≡ named_once file p n) where
  pub whole-8 : not a ≡ true → Err RuleNotATree ≡ whole_table file p n
  unfolding whole_table
  whole-8 h = rw (sym once ∙ not-true a h) refl

  module _ (h : not a ≡ false) (bound : b ≡ scoped (root_formula file p n) no_scope) where
    pub whole-9 : not b ≡ true → Err RuleUnbound ≡ whole_table file p n
    unfolding whole_table
    whole-9 i = rw (sym once ∙ not-false a h, sym bound ∙ not-true b i) refl

    pub whole-10 : not b ≡ false → d ≡ shallow max_nested (root_formula file p n) → not d ≡ true → Err RuleTooDeep ≡ whole_table file p n
    unfolding whole_table
    whole-10 i deep j = rw (sym once ∙ not-false a h, sym bound ∙ not-false b i, sym deep ∙ not-true d j) refl

    pub whole_ok : (l : ℕ) → l ≡ label_count file → not b ≡ false → d ≡ shallow max_nested (root_formula file p n) → not d ≡ false → Ok (record { labels = l; nodes = p; count = n }) ≡ whole_table file p n
    unfolding whole_table
    whole_ok l e i deep j = rw (sym once ∙ not-false a h, sym bound ∙ not-false b i, sym deep ∙ not-false d j) (ap (λ (k : ℕ). Ok (record { labels = k; nodes = p; count = n })) e)

pub ruleset wholes = (whole-8, whole-9, whole-10, whole_ok)

-- Refusal 9: the scope that the check carries down to a node has just the variables that a "some" around the node binds. A node is
-- named once, so that a "some" around it is the node that names it or lies around that node.
use Prim.Native.Nat.{ℕ, zero, suc, ◌-◌, ◌≤◌, ◌<◌}
use mathlib.Core.Path.{◌≡◌, refl, sym, ap, ◌∙◌, subst}
use mathlib.Core.Logic.{◌↔◌, ◌⊎◌, inl, inr, ⊎_elim}
use mathlib.Core.Bool.{Bool, true, false, ◌&&◌}
use mathlib.Core.List.{List}
use native.Mathlib.Omega.{arith}
use lib.Dec.{eqb}
use lib.ListN.{length}
use borrow.Author.Tests.{eqb-true, eq-eqb}
use Rattle.lists.proofs.Cases.{either_eq, either_bool, and_left, and_right, no_both}
use Rattle.rules.specs.declared.Node.{Node}
use Rattle.rules.specs.Formula.{Formula, Scope, no_scope, enter, scoped}
use Rattle.rules.specs.Table.{node_at, formula_at}
use Rattle.rules.proofs.Scopes.{scoped_both_left, scoped_both_right, scoped_neg, scoped_exists}
use Rattle.grammar.specs.Naming.{node_of, Field, first, second, Names, by_and_a, by_and_b, by_not, by_some, AllNamedOnce, Binds, Uses, in_a, in_b, Bound, AllBound}
use Rattle.grammar.specs.Layout.{InRange, and, not, some, has_label, between, RightNodes}
use Rattle.grammar.proofs.Paths.{Under, here, inner, one_step, then-step, up_step, kept, names_within, uses_within, names_falls, path-falls, path-within, under_root}
use Rattle.grammar.proofs.NodeFormulas.{of_and, of_not, of_some, of_has, of_pair}

-- ── what binds at a node, and at the node that names it ──
module _ (k : ℕ) (xs : List Node) (right : RightNodes k xs) (all : AllNamedOnce xs) where
  -- the scope s has the variables that are bound at node n
  abbrev ScopeOf : ℕ → Scope → Type 0
  ScopeOf n s = (v : ℕ) → (s v ≡ true) ↔ Bound xs n v

  module _ (n : ℕ) (f : Field) (c : ℕ) (names : Names xs n f c) where
    still_bound : (v : ℕ) → Bound xs n v → Bound xs c v
    still_bound v b = record { binder = b.binder; binds = b.binds; inside = then-step xs f names (inner b.inside) }

    now_bound : (v : ℕ) → Binds xs n v → Bound xs c v
    now_bound v b = record { binder = n; binds = b; inside = one_step xs f names }

    where_bound : (v : ℕ) → Bound xs c v → Binds xs n v ⊎ Bound xs n v
    where_bound v b =
        let w = up_step xs b.inside in
        let o = all c (omega (arith, names_within xs n f c names, names_falls k xs right n f c names)) in
        let e : w.0 ≡ n = (o.only _ _ w.2).0 ∙ sym (o.only _ _ names).0 in
        go (subst (λ (i : ℕ). Under xs b.binder i) e w.3)
      where
        go : Under xs b.binder n → Binds xs n v ⊎ Bound xs n v
        go (here e) = inl (subst (λ (i : ℕ). Binds xs i v) (sym e) b.binds)
        go (inner i) = inr (record { binder = b.binder; binds = b.binds; inside = i })

    fits_plain : (s : Scope) → ((node_of xs n).kind ≡ 3 → ⊥) → ScopeOf n s → ScopeOf c s
    fits_plain s other fit v = (λ e. still_bound v ((fit v).0 e), λ b. ⊎_elim (λ z. absurd (other z.0)) (λ z. (fit v).1 z) (where_bound v b))

    fits_some : (s : Scope) → (node_of xs n).kind ≡ 3 → ScopeOf n s → ScopeOf c (enter s (node_of xs n).a)
    fits_some s kind fit v = (forth, λ b. ⊎_elim (λ z. simp (eq-eqb _ _ z.1)) back (where_bound v b))
      where
        forth : enter s (node_of xs n).a v ≡ true → Bound xs c v
        forth e =
            either_bool (eqb (node_of xs n).a v)
            (λ q. now_bound v (kind, eqb-true _ v q))
            (λ q. let z : s v ≡ true = simp q at e in still_bound v ((fit v).0 z))

        back : Bound xs n v → enter s (node_of xs n).a v ≡ true
        back b = let z = (fit v).1 b in either_bool (eqb (node_of xs n).a v) (λ q. simp q) (λ q. simp (q, z))

  -- no "some" stands around the root
  fits_root : ScopeOf (length xs - 1) no_scope
  fits_root v = (
    λ e. no_both (sym e),
    λ b.
        let i = b.inside in
        absurd (omega (arith, path-falls k xs right b.binder i.between (length xs - 1) i.path, path-within xs b.binder i.between (length xs - 1) i.path)),
  )

-- ── the scope on the way down ──
module _ (file : List ℕ) (p k : ℕ) (xs : List Node) (agree : (i : ℕ) → i < length xs → node_at file p i ≡ node_of xs i) (right : RightNodes k xs) (all : AllNamedOnce xs) where
  abbrev at : ℕ → Formula
  at = formula_at file p

  -- a node is reached with a scope that fits it, and its formula is in scope
  record InScope (n : ℕ) : Type 0 where
    scope : Scope
    fits : ScopeOf k xs right all n scope
    passes : scoped (at n) scope ≡ true

  shown : {f g : Formula} (s : Scope) (b : Bool) → f ≡ g → scoped f s ≡ b → scoped g s ≡ b
  shown s b e h = subst (λ (f : Formula). scoped f s ≡ b) e h

  scope_kept : (n : ℕ) (f : Field) (c : ℕ) → Names xs n f c → InScope n → InScope c
  scope_kept n f c q r = go q
    where
      h : n < length xs
      h = names_within xs n f c q

      plain : ((node_of xs n).kind ≡ 3 → ⊥) → scoped (at c) r.scope ≡ true → InScope c
      plain other e = record { scope = r.scope; fits = fits_plain k xs right all n f c q r.scope other r.fits; passes = e }

      child : (d : ℕ) → d ≡ c → (s : Scope) → scoped (at d) s ≡ true → scoped (at c) s ≡ true
      child d e s t = subst (λ (i : ℕ). scoped (at i) s ≡ true) e t

      go : Names xs n f c → InScope c
      go (by_and_a e a _) = plain (λ z. omega arith) (child _ a _ (scoped_both_left _ _ _ (shown _ true (of_and file p k xs agree right n h e) r.passes)))
      go (by_and_b e b _) = plain (λ z. omega arith) (child _ b _ (scoped_both_right _ _ _ (shown _ true (of_and file p k xs agree right n h e) r.passes)))
      go (by_not e a _) = plain (λ z. omega arith) (child _ a _ (scoped_neg _ _ (shown _ true (of_not file p k xs agree right n h e) r.passes)))
      go (by_some e b _) =
          record {
            scope = enter r.scope (node_of xs n).a;
            fits = fits_some k xs right all n f c q r.scope e r.fits;
            passes = child _ b _ (scoped_exists _ _ _ (shown _ true (of_some file p k xs agree right n h e) r.passes));
          }

  used_bound : (n v : ℕ) → Uses xs n v → InScope n → Bound xs n v
  unfolding scoped
  used_bound n v u r = (r.fits v).0 (go u)
    where
      h : n < length xs
      h = uses_within xs n v u

      two : 5 ≤ (node_of xs n).kind → (node_of xs n).kind ≤ 8 → (r.scope (node_of xs n).a && r.scope (node_of xs n).b) ≡ true
      two low high = shown _ true (of_pair file p k xs agree right n h low high) r.passes

      go : Uses xs n v → r.scope v ≡ true
      go (in_a low high e) =
          ap r.scope (sym e)
          ∙ either_eq (node_of xs n).kind 4
          (λ q. shown _ true (of_has file p k xs agree right n h q) r.passes)
          (λ q. and_left _ _ (two (omega arith) high))
      go (in_b low high e) = ap r.scope (sym e) ∙ and_right (r.scope (node_of xs n).a) _ (two low high)

  -- a formula that is not in scope uses a variable that nothing binds
  abbrev Unbound : Type 0
  Unbound = (n : ℕ) × (v : ℕ) × Uses xs n v × (Bound xs n v → ⊥)

  not_bound : (n : ℕ) (s : Scope) → ScopeOf k xs right all n s → (v : ℕ) → s v ≡ false → Bound xs n v → ⊥
  not_bound n s fit v e b = no_both (sym ((fit v).1 b) ∙ e)

  found : (j n : ℕ) → n < j → n < length xs → (s : Scope) → ScopeOf k xs right all n s → scoped (at n) s ≡ false → Unbound
  unfolding scoped
  found zero n l h s fit e = absurd (omega arith)
  found (suc j) n l h s fit e =
      go (right n h) (λ f c q t. found j c (omega (arith, names_falls k xs right n f c q)) (omega (arith, names_falls k xs right n f c q)) t)
    where
      plain : (f : Field) (c : ℕ) → Names xs n f c → ((node_of xs n).kind ≡ 3 → ⊥) → ScopeOf k xs right all c s
      plain f c q other = fits_plain k xs right all n f c q s other fit

      go : InRange k n (node_of xs n) → ((f : Field) (c : ℕ) → Names xs n f c → (t : Scope) → ScopeOf k xs right all c t → scoped (at c) t ≡ false → Unbound) → Unbound
      go (and i a b) ih =
          let q : (scoped (at (node_of xs n).a) s && scoped (at (node_of xs n).b) s) ≡ false = shown s false (of_and file p k xs agree right n h i) e in
          let first-names : Names xs n first (node_of xs n).a = by_and_a i refl refl in
          let second-names : Names xs n second (node_of xs n).b = by_and_b i refl refl in
          either_bool (scoped (at (node_of xs n).a) s)
          (λ t. ih second _ second-names s (plain _ _ second-names (λ z. omega arith)) (simp t at q))
          (λ t. ih first _ first-names s (plain _ _ first-names (λ z. omega arith)) t)
      go (not i a b) ih =
          let names : Names xs n first (node_of xs n).a = by_not i refl refl in
          ih first _ names s (plain _ _ names (λ z. omega arith)) (shown s false (of_not file p k xs agree right n h i) e)
      go (some i a b) ih =
          let names : Names xs n second (node_of xs n).b = by_some i refl refl in
          ih second _ names _ (fits_some k xs right all n second _ names s i fit) (shown s false (of_some file p k xs agree right n h i) e)
      go (has_label i a b) ih =
          (n, (node_of xs n).a, in_a (omega arith) (omega arith) refl, not_bound n s fit _ (shown s false (of_has file p k xs agree right n h i) e))
      go (between low high a b) ih =
          let q : (s (node_of xs n).a && s (node_of xs n).b) ≡ false = shown s false (of_pair file p k xs agree right n h low high) e in
          either_bool (s (node_of xs n).a)
          (λ t. (n, (node_of xs n).b, in_b low high refl, not_bound n s fit _ (simp t at q)))
          (λ t. (n, (node_of xs n).a, in_a (omega arith) high refl, not_bound n s fit _ t))

  pub all_bound_lem : scoped (at (length xs - 1)) no_scope ≡ true → AllBound xs
  all_bound_lem e n v u =
      used_bound n v u
      (kept xs InScope scope_kept (under_root k xs right all n (uses_within xs n v u))
      (record { scope = no_scope; fits = fits_root k xs right all; passes = e }))

  pub one_unbound : 1 ≤ length xs → scoped (at (length xs - 1)) no_scope ≡ false → (n : ℕ) × (v : ℕ) × Uses xs n v × (Bound xs n v → ⊥)
  one_unbound h e = found (length xs) (length xs - 1) (omega arith) (omega arith) no_scope (fits_root k xs right all) e

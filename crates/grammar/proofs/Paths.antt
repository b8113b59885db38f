-- Paths in a table of nodes: a node that names another stands in the table, and above it. A node that lies inside another is
-- reached by a first step and by a last; what a step keeps, a path keeps.
use Prim.Native.Nat.{ℕ, zero, suc, ◌+◌, ◌-◌, ◌≤◌, ◌<◌}
use mathlib.Core.Path.{◌≡◌, refl, sym, ap, subst}
use mathlib.Core.List.{List, [], ◌∷◌, ◌++◌}
use native.Mathlib.Omega.{arith}
use lib.ListN.{length, get_or-eq_default}
use Rattle.lists.proofs.Cases.{either_eq, either_lt}
use Rattle.rules.specs.declared.Node.{Node}
use Rattle.grammar.specs.Naming.{node_of, Field, Names, by_and_a, by_and_b, by_not, by_some, AllNamedOnce, Path, Inside, Uses, in_a, in_b}
use Rattle.grammar.specs.Layout.{InRange, and, not, some, has_label, between, RightNodes}

module _ (xs : List Node) where
  -- what stands past the last node has no kind
  pub kind-within : (n : ℕ) → ((node_of xs n).kind ≡ 0 → ⊥) → n < length xs
  kind-within n h = either_lt n (length xs) (λ l. l) (λ l. absurd (h (ap (λ (x : Node). x.kind) (get_or-eq_default xs _ l))))

  pub names_within : (m : ℕ) (f : Field) (c : ℕ) → Names xs m f c → m < length xs
  names_within m f c (by_and_a k e q) = kind-within m (λ z. omega arith)
  names_within m f c (by_and_b k e q) = kind-within m (λ z. omega arith)
  names_within m f c (by_not k e q) = kind-within m (λ z. omega arith)
  names_within m f c (by_some k e q) = kind-within m (λ z. omega arith)

  pub uses_within : (n v : ℕ) → Uses xs n v → n < length xs
  uses_within n v (in_a low high e) = kind-within n (λ z. omega arith)
  uses_within n v (in_b low high e) = kind-within n (λ z. omega arith)

  -- ── steps and paths ──
  -- node u is node n, or lies inside it
  pub data Under (n u : ℕ) : Type 0 where
    here : u ≡ n → Under n u
    inner : Inside xs n u → Under n u

  pub one_step : {m n : ℕ} (f : Field) → Names xs m f n → Inside xs m n
  one_step f q = record { between = []; path = ((f, q), tt) }

  -- a step, then a path
  pub step_down : {m c n : ℕ} (f : Field) → Names xs m f c → Under c n → Inside xs m n
  step_down {m} f q (here e) = one_step f (subst (λ (i : ℕ). Names xs m f i) (sym e) q)
  step_down {c = c} f q (inner i) = record { between = c ∷ i.between; path = ((f, q), i.path) }

  -- a path, then a step
  longer : (m : ℕ) (ns : List ℕ) (k : ℕ) (f : Field) (n : ℕ) → Path xs (m ∷ ns ++ (k ∷ [])) → Names xs k f n → Path xs (m ∷ (ns ++ (k ∷ [])) ++ (n ∷ []))
  longer m [] k f n p q = (p.0, ((f, q), tt))
  longer m (j ∷ ns) k f n p q = (p.0, longer j ns k f n p.1 q)

  pub then-step : {m k n : ℕ} (f : Field) → Names xs k f n → Under m k → Inside xs m n
  then-step {n = n} f q (here e) = one_step f (subst (λ (i : ℕ). Names xs i f n) e q)
  then-step {m} {k} {n} f q (inner i) = record { between = i.between ++ (k ∷ []); path = longer m i.between k f n i.path q }

  pub path-within : (m : ℕ) (ns : List ℕ) (n : ℕ) → Path xs (m ∷ ns ++ (n ∷ [])) → m < length xs
  path-within m [] n p = names_within m p.0.0 n p.0.1
  path-within m (c ∷ ns) n p = names_within m p.0.0 c p.0.1

  -- the first step of a path
  pub record FirstStep (m n : ℕ) : Type 0 where
    pub field : Field
    pub child : ℕ
    pub names : Names xs m field child
    pub rest : Under child n

  pub first_step : {m n : ℕ} → Inside xs m n → FirstStep m n
  first_step {m} {n} i = go i.between i.path
    where
      go : (ns : List ℕ) → Path xs (m ∷ ns ++ (n ∷ [])) → FirstStep m n
      go [] p = record { field = p.0.0; child = n; names = p.0.1; rest = here refl }
      go (c ∷ ns) p = record { field = p.0.0; child = c; names = p.0.1; rest = inner (record { between = ns; path = p.1 }) }

  -- the last step of a path, and what is before it
  pub data Before (m : ℕ) (ns : List ℕ) (k : ℕ) : Type 0 where
    at_top : ns ≡ [] → m ≡ k → Before m ns k
    lower : (ks : List ℕ) → ns ≡ ks ++ (k ∷ []) → Path xs (m ∷ ks ++ (k ∷ [])) → Before m ns k

  pub record LastStep (m : ℕ) (ns : List ℕ) (n : ℕ) : Type 0 where
    pub parent : ℕ
    pub field : Field
    pub names : Names xs parent field n
    pub before : Before m ns parent

  pub last_step : (m : ℕ) (ns : List ℕ) (n : ℕ) → Path xs (m ∷ ns ++ (n ∷ [])) → LastStep m ns n
  last_step m [] n p = record { parent = m; field = p.0.0; names = p.0.1; before = at_top refl refl }
  last_step m (c ∷ ns) n p =
      let w = last_step c ns n p.1 in
      record { parent = w.parent; field = w.field; names = w.names; before = go w.parent w.before }
    where
      go : (k : ℕ) → Before c ns k → Before m (c ∷ ns) k
      go k (at_top e q) = lower [] (simp (e, q)) (subst (λ (i : ℕ). Path xs (m ∷ i ∷ [])) q (p.0, tt))
      go k (lower ks e r) = lower (c ∷ ks) (ap (λ (l : List ℕ). c ∷ l) e) (p.0, r)

  pub up_step : {m n : ℕ} → Inside xs m n → (k : ℕ) × (f : Field) × Names xs k f n × Under m k
  up_step {m} {n} i = let w = last_step m i.between n i.path in (w.parent, w.field, w.names, go w.parent w.before)
    where
      go : (k : ℕ) → Before m i.between k → Under m k
      go k (at_top e q) = here (sym q)
      go k (lower ks e r) = inner (record { between = ks; path = r })

  -- what each step keeps, a path keeps
  module _ (P : ℕ → Type 0) (keeps : (m : ℕ) (f : Field) (c : ℕ) → Names xs m f c → P m → P c) where
    along : (m : ℕ) (ns : List ℕ) (n : ℕ) → Path xs (m ∷ ns ++ (n ∷ [])) → P m → P n
    along m [] n p h = keeps m p.0.0 n p.0.1 h
    along m (c ∷ ns) n p h = along c ns n p.1 (keeps m p.0.0 c p.0.1 h)

    pub kept : {m n : ℕ} → Under m n → P m → P n
    kept (here e) h = subst P (sym e) h
    kept {m} {n} (inner i) h = along m i.between n i.path h

-- ── children have smaller numbers ──
pub children : {k n : ℕ} {x : Node} → InRange k n x → (x.kind ≡ 1 → (x.a < n) × (x.b < n)) × (x.kind ≡ 2 → x.a < n) × (x.kind ≡ 3 → x.b < n)
children (and e a b) = omega arith
children (not e a b) = omega arith
children (some e a b) = omega arith
children (has_label e a b) = omega arith
children (between low high a b) = omega arith

module _ (k : ℕ) (xs : List Node) (right : RightNodes k xs) where
  pub names_falls : (m : ℕ) (f : Field) (c : ℕ) → Names xs m f c → c < m
  names_falls m f c q = go q (children (right m (names_within xs m f c q)))
    where
      go : Names xs m f c → ((node_of xs m).kind ≡ 1 → ((node_of xs m).a < m) × ((node_of xs m).b < m)) × ((node_of xs m).kind ≡ 2 → (node_of xs m).a < m) × ((node_of xs m).kind ≡ 3 → (node_of xs m).b < m) → c < m
      go (by_and_a e a _) w = omega (arith, w.0 e)
      go (by_and_b e b _) w = omega (arith, w.0 e)
      go (by_not e a _) w = omega (arith, w.1 e)
      go (by_some e b _) w = omega (arith, w.2 e)

  pub path-falls : (m : ℕ) (ns : List ℕ) (n : ℕ) → Path xs (m ∷ ns ++ (n ∷ [])) → n < m
  path-falls m [] n p = names_falls m p.0.0 n p.0.1
  path-falls m (c ∷ ns) n p = omega (arith, names_falls m p.0.0 c p.0.1, path-falls c ns n p.1)

  -- ── every node is under the root ──
  module _ (all : AllNamedOnce xs) where
    climb : (j n : ℕ) → n < length xs → length xs ≤ n + j → Under xs (length xs - 1) n
    climb zero n h l = absurd (omega arith)
    climb (suc j) n h l =
        either_eq (suc n) (length xs)
        (λ e. here (omega arith))
        (λ e.
        let o = all n (omega arith) in
        inner (then-step xs o.field o.names
        (climb j o.node (names_within xs o.node o.field n o.names) (omega (arith, names_falls o.node o.field n o.names)))))

    pub under_root : (n : ℕ) → n < length xs → Under xs (length xs - 1) n
    under_root n h = climb (length xs) n h (omega arith)

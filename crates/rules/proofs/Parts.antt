-- Parts of a file: what a part that is read, cut short or faulty answers, and what is known after one that is read.
use Prim.Native.Nat.{ℕ, ◌+◌, ◌*◌, ◌<◌, ◌≤◌}
use mathlib.Core.Path.{◌≡◌, refl, sym, ap, ◌∙◌}
use mathlib.Core.Bool.{Bool, true, false, ◌&&◌, cond, and-true}
use mathlib.Core.List.{List, [], ◌∷◌}
use native.Mathlib.Omega.{arith}
use Rattle.std.specs.List.{starts_with}
use Rattle.lists.specs.Lists.{bytes}
use lib.Dec.{eqb, leb}
use lib.ListN.{length}
use borrow.Author.Tests.{eq-eqb, ne_eqb, le-leb, lt-leb, leb-true}
use Rattle.lists.proofs.Cases.{either_eq, and_left, and_right}
use Rattle.rules.specs.Limits.{max_labels, max_nodes}
use Rattle.rules.specs.Parts.{byte, part, and_then, read_mark, read_version, label_count, read_label_count, read_head, read_node_count, nothing_follows}
use Rattle.std.specs.Prelude.{Result, Ok, Err}
use Rattle.refusals.specs.Refusal.{number, RefusedWith}
use Rattle.refusals.specs.declared.Refusal.{Refusal}
use Rattle.refusals.specs.declared.Refusal.TheVariants.{RuleEndsEarly, RuleMark, RuleVersion, RuleCount, RuleTooLong}

pub ok_inj : {A : Type 0} (p q : A) → ◌≡◌ {A = Result A Refusal} (Ok p) (Ok q) → p ≡ q
ok_inj p q e = cc

pub not_ok : {A X : Type 0} (e : Refusal) (q : A) → ◌≡◌ {A = Result A Refusal} (Err e) (Ok q) → X
not_ok e q h = absurd (let z : ◌≡◌ {A = ℕ} 0 1 = cc in omega arith)

pub err_inj : {A : Type 0} (d e : Refusal) → ◌≡◌ {A = Result A Refusal} (Err d) (Err e) → d ≡ e
err_inj d e h = cc

-- a call has one answer
pub one_number : {A : Type 0} (r : Result A Refusal) (c d : ℕ) → RefusedWith c r → RefusedWith d r → c ≡ d
one_number r c d p q = sym p.1.1 ∙ ap number (err_inj p.0 q.0 (sym p.1.0 ∙ q.1.0)) ∙ q.1.1

pub taken_or_refused : {A X : Type 0} (r : Result A Refusal) (x : A) (c : ℕ) → r ≡ Ok x → RefusedWith c r → X
taken_or_refused r x c e p = not_ok p.0 x (sym p.1.0 ∙ e)

-- ── one part ──
module _ (file : List ℕ) (p n : ℕ) (ok : Bool) (fault : Refusal) where
  pub part_short : length file < p + n → Err RuleEndsEarly ≡ part file p n ok fault
  unfolding part
  part_short h = rw (lt-leb (p + n) (length file) h) refl

  pub part_bad : p + n ≤ length file → ok ≡ false → Err fault ≡ part file p n ok fault
  unfolding part
  part_bad h e = rw (le-leb (p + n) (length file) h, e) refl

  pub part_ok : p + n ≤ length file → ok ≡ true → Ok (p + n) ≡ part file p n ok fault
  unfolding part
  part_ok h e = rw (le-leb (p + n) (length file) h, e) refl

-- a part that is read is whole, passes its test, and ends where it should
pub part_read : (file : List ℕ) (p n : ℕ) (ok : Bool) (fault : Refusal) (q : ℕ) → part file p n ok fault ≡ Ok q → (q ≡ p + n) × ((p + n ≤ length file) × (ok ≡ true))
unfolding part
part_read file p n ok fault q e = go (leb (p + n) (length file)) ok refl e
  where
    go : (x y : Bool) → leb (p + n) (length file) ≡ x → cond x (cond y (Ok (p + n)) (Err fault)) (Err RuleEndsEarly) ≡ Ok q → (q ≡ p + n) × ((p + n ≤ length file) × (y ≡ true))
    go true true h f = (sym (ok_inj (p + n) q f), (leb-true (p + n) (length file) h, refl))
    go true false h f = not_ok fault q f
    go false y h f = not_ok RuleEndsEarly q f

-- ── one part after another ──
module _ {A B : Type 0} where
  -- equal parts, and what follows is equal where they are read
  pub then_same : (r s : Result A Refusal) (f g : A → Result B Refusal) → r ≡ s → ((p : A) → s ≡ Ok p → f p ≡ g p) → and_then r f ≡ and_then s g
  unfolding and_then
  then_same r s f g e h = ap (λ (k : Result A Refusal). and_then k f) e ∙ go s h
    where
      go : (k : Result A Refusal) → ((p : A) → k ≡ Ok p → f p ≡ g p) → and_then k f ≡ and_then k g
      go (Ok p) l = l p refl
      go (Err n) l = refl

  pub then-stop : (r : Result A Refusal) (n : Refusal) (f : A → Result B Refusal) → r ≡ Err n → Err n ≡ and_then r f
  unfolding and_then
  then-stop r n f e = sym (ap (λ (q : Result A Refusal). and_then q f) e)

  pub then_at : (r : Result A Refusal) (p : A) (f : A → Result B Refusal) (x : Result B Refusal) → r ≡ Ok p → x ≡ f p → x ≡ and_then r f
  unfolding and_then
  then_at r p f x e h = h ∙ sym (ap (λ (q : Result A Refusal). and_then q f) e)

  pub then_read : (r : Result A Refusal) (f : A → Result B Refusal) (x : B) → and_then r f ≡ Ok x → (p : A) × (r ≡ Ok p) × (f p ≡ Ok x)
  unfolding and_then
  then_read (Ok p) f x e = (p, refl, e)
  then_read (Err n) f x e = not_ok n x e

  -- two parts read as one
  pub then-then : {C : Type 0} (r : Result A Refusal) (f : A → Result B Refusal) (g : B → Result C Refusal) → and_then (and_then r f) g ≡ and_then r (λ p. and_then (f p) g)
  unfolding and_then
  then-then (Ok p) f g = refl
  then-then (Err n) f g = refl

-- ── the mark ──
turned : (a b : ℕ) → eqb a b ≡ eqb b a
turned a b = either_eq a b (λ e. simp (eq-eqb a b e, eq-eqb b a (sym e))) (λ n. simp (ne_eqb a b n, ne_eqb b a (λ e. n (sym e))))

mark_is : (file : List ℕ) → 3 ≤ length file → starts_with eqb file (bytes "RUL") ≡ (eqb (byte file 0) 82 && (eqb (byte file 1) 85 && eqb (byte file 2) 76))
mark_is [] h = absurd (omega arith)
mark_is (a ∷ []) h = absurd (omega arith)
mark_is (a ∷ b ∷ []) h = absurd (omega arith)
mark_is (a ∷ b ∷ c ∷ file) h = rw (turned 82 a, turned 85 b, turned 76 c) (ap (λ (t : Bool). eqb a 82 && (eqb b 85 && t)) (and-true (eqb c 76)))

module _ (file : List ℕ) where
  pub mark_short : length file < 3 → Err RuleEndsEarly ≡ read_mark file
  mark_short h = part_short file 0 3 _ RuleMark h

  pub mark_r : 3 ≤ length file → (byte file 0 ≡ 82 → ⊥) → Err RuleMark ≡ read_mark file
  mark_r h n = part_bad file 0 3 _ RuleMark h (simp (ne_eqb _ _ n))

  pub mark_u : 3 ≤ length file → byte file 0 ≡ 82 → (byte file 1 ≡ 85 → ⊥) → Err RuleMark ≡ read_mark file
  mark_u h r n = part_bad file 0 3 _ RuleMark h (simp (eq-eqb _ _ r, ne_eqb _ _ n))

  pub mark_l : 3 ≤ length file → byte file 0 ≡ 82 → byte file 1 ≡ 85 → (byte file 2 ≡ 76 → ⊥) → Err RuleMark ≡ read_mark file
  mark_l h r u n = part_bad file 0 3 _ RuleMark h (simp (eq-eqb _ _ r, eq-eqb _ _ u, ne_eqb _ _ n))

  pub mark_ok : 3 ≤ length file → byte file 0 ≡ 82 → byte file 1 ≡ 85 → byte file 2 ≡ 76 → Ok 3 ≡ read_mark file
  mark_ok h r u l = part_ok file 0 3 _ RuleMark h (simp (eq-eqb _ _ r, eq-eqb _ _ u, eq-eqb _ _ l))

  -- the three bytes at once
  pub unmarked : 3 ≤ length file → starts_with eqb file (bytes "RUL") ≡ false → Err RuleMark ≡ read_mark file
  unmarked h e = part_bad file 0 3 _ RuleMark h (sym (mark_is file h) ∙ e)

  pub marked : 3 ≤ length file → starts_with eqb file (bytes "RUL") ≡ true → Ok 3 ≡ read_mark file
  marked h e = part_ok file 0 3 _ RuleMark h (sym (mark_is file h) ∙ e)

  -- ── the version ──
  pub version-short : length file < 5 → Err RuleEndsEarly ≡ read_version file
  version-short h = part_short file 3 2 _ RuleVersion h

  pub version_bad : 5 ≤ length file → (byte file 3 + 256 * byte file 4 ≡ 1 → ⊥) → Err RuleVersion ≡ read_version file
  version_bad h n = part_bad file 3 2 _ RuleVersion h (ne_eqb _ _ n)

  pub version_ok : 5 ≤ length file → byte file 3 + 256 * byte file 4 ≡ 1 → Ok 5 ≡ read_version file
  version_ok h e = part_ok file 3 2 _ RuleVersion h (eq-eqb _ _ e)

  -- ── the label count ──
  pub labels_short : length file < 6 → Err RuleEndsEarly ≡ read_label_count file
  labels_short h = part_short file 5 1 _ RuleCount h

  pub labels_many : 6 ≤ length file → max_labels < byte file 5 → Err RuleCount ≡ read_label_count file
  labels_many h k = part_bad file 5 1 _ RuleCount h (lt-leb _ _ k)

  pub labels_ok : 6 ≤ length file → byte file 5 ≤ max_labels → Ok 6 ≡ read_label_count file
  labels_ok h k = part_ok file 5 1 _ RuleCount h (le-leb _ _ k)

  -- ── the three together ──
  module _ (m : Result ℕ Refusal) where
    pub head_mark : (n : Refusal) → m ≡ read_mark file → m ≡ Err n → Err n ≡ read_head file
    unfolding read_head
    head_mark n e f = then-stop _ n _ (sym e ∙ f)

  module _ (m v : Result ℕ Refusal) where
    pub head_version : (n : Refusal) (p : ℕ) → m ≡ read_mark file → m ≡ Ok p → v ≡ read_version file → v ≡ Err n → Err n ≡ read_head file
    unfolding read_head
    head_version n p e f g h = then_at _ p _ _ (sym e ∙ f) (then-stop _ n _ (sym g ∙ h))

    pub head_count : (p q : ℕ) (r : Result ℕ Refusal) → m ≡ read_mark file → m ≡ Ok p → v ≡ read_version file → v ≡ Ok q → r ≡ read_label_count file → r ≡ read_head file
    unfolding read_head
    head_count p q r e f g h i = then_at _ p _ _ (sym e ∙ f) (then_at _ q _ _ (sym g ∙ h) i)

  pub head_read : (q : ℕ) → read_head file ≡ Ok q → (6 ≤ length file) × (label_count file ≤ max_labels)
  unfolding read_head
  head_read q e =
      let t = then_read (read_mark file) (λ _. and_then (read_version file) (λ _. read_label_count file)) q e in
      let u = then_read (read_version file) (λ _. read_label_count file) q t.2 in
      let v = part_read file 5 1 _ RuleCount q u.2 in
      (v.1.0, leb-true _ _ v.1.1)

  -- ── the node count, at p ──
  module _ (p : ℕ) where
    pub count_short : length file ≤ p → Err RuleEndsEarly ≡ read_node_count file p
    count_short h = part_short file p 1 _ RuleCount (omega arith)

    pub count_none : p < length file → byte file p < 1 → Err RuleCount ≡ read_node_count file p
    count_none h k = part_bad file p 1 _ RuleCount (omega arith) (simp (lt-leb 1 (byte file p) k))

    pub count_many : p < length file → 1 ≤ byte file p → max_nodes < byte file p → Err RuleCount ≡ read_node_count file p
    count_many h i k = part_bad file p 1 _ RuleCount (omega arith) (simp (le-leb 1 (byte file p) i, lt-leb (byte file p) max_nodes k))

    pub count_ok : p < length file → 1 ≤ byte file p → byte file p ≤ max_nodes → Ok (p + 1) ≡ read_node_count file p
    count_ok h i k = part_ok file p 1 _ RuleCount (omega arith) (simp (le-leb 1 (byte file p) i, le-leb (byte file p) max_nodes k))

    pub count_read : (q : ℕ) → read_node_count file p ≡ Ok q → (q ≡ p + 1) × ((p + 1 ≤ length file) × ((1 ≤ byte file p) × (byte file p ≤ max_nodes)))
    count_read q e =
        let v = part_read file p 1 _ RuleCount q e in
        (v.0, (v.1.0, (leb-true _ _ (and_left (leb 1 (byte file p)) (leb (byte file p) max_nodes) v.1.1), leb-true _ _ (and_right (leb 1 (byte file p)) (leb (byte file p) max_nodes) v.1.1))))

    -- ── nothing follows ──
    pub more-follows : (p ≡ length file → ⊥) → nothing_follows file p ≡ Err RuleTooLong
    unfolding nothing_follows
    more-follows n = rw (ne_eqb p (length file) n) refl

    pub none_follows : p ≡ length file → nothing_follows file p ≡ Ok p
    unfolding nothing_follows
    none_follows e = rw (eq-eqb p (length file) e) refl

pub ruleset marks = (mark_short, unmarked, marked)

pub ruleset versions = (version-short, version_bad, version_ok)

pub ruleset label-counts = (labels_short, labels_many, labels_ok)

pub ruleset heads = (head_mark, head_version, head_count)

pub ruleset Node-Counts = (count_short, count_none, count_many, count_ok)

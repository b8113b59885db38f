-- The turns of a search through the places.
use Prim.Native.Nat.{ℕ, zero, suc, ◌+◌, ◌-◌, ◌<◌, ◌≤◌, ◌%◌}
use mathlib.Core.Path.{◌≡◌, refl, ap, sym, ◌∙◌}
use mathlib.Core.Bool.{Bool, true, false}
use native.Mathlib.Omega.{arith}
use borrow.Author.Tests.{eq-eqb, ne_eqb}
use lib.ListN.{get_or}
use Rattle.lists.specs.Tells.{Tells}
use Rattle.lists.proofs.Cases.{either_eq, either_bool}
use Rattle.labels.specs.declared.Label.{Label}
use Rattle.labels.specs.declared.LabelTable.{LabelTable}
use Rattle.labels.specs.declared.Slot.{Slot}
use Rattle.labels.specs.declared.Slot.TheVariants.{Seen, Free, Full}
use Rattle.labels.specs.Label.{label_no, equal_label?}
use Rattle.labels.specs.Table.{place_at, label_at, first_place, free_from}
use Rattle.labels.specs.Search.{probe, lookup}
use Rattle.labels.proofs.Same.{same_yes, same_no}

-- the turns of a probe
module _ (pl : ℕ → ℕ) (lb : ℕ → Label) (x : Label) where
  pub probe_free : (p left : ℕ) → 0 < left → pl p ≡ 0 → probe pl lb x p left ≡ Free p
  unfolding probe
  probe_free p zero h e = absurd (omega arith)
  probe_free p (suc k) h e = simp (eq-eqb _ _ e)

  pub probe_seen : (p left : ℕ) → 0 < left → (pl p ≡ 0 → ⊥) → equal_label? (lb (pl p)) x ≡ true → probe pl lb x p left ≡ Seen (label_no (pl p))
  unfolding probe
  probe_seen p zero h e f = absurd (omega arith)
  probe_seen p (suc k) h e f = simp (ne_eqb _ _ e, f)

  pub probe_next : (p left : ℕ) → 0 < left → (pl p ≡ 0 → ⊥) → equal_label? (lb (pl p)) x ≡ false → probe pl lb x p left ≡ probe pl lb x ((p + 1) % 128) (left - 1)
  unfolding probe
  probe_next p zero h e f = absurd (omega arith)
  probe_next p (suc k) h e f =
      let j : k ≡ suc k - 1 = omega arith in
      simp (ne_eqb _ _ e, f) (ap (probe pl lb x ((p + 1) % 128)) j)

  pub probe_full : (p left : ℕ) → left ≤ 0 → probe pl lb x p left ≡ Full
  unfolding probe
  probe_full p zero h = refl
  probe_full p (suc k) h = absurd (omega arith)

  -- an empty place that a probe meets is the first one, and is one of the 128
  pub probe_first : (p left q : ℕ) → probe pl lb x p left ≡ Free q → q ≡ free_from pl p left
  unfolding probe free_from
  probe_first p zero q e = absurd (let z : ◌≡◌ {A = ℕ} 0 1 = cc in omega arith)
  probe_first p (suc k) q e =
      either_eq (pl p) 0
      (λ n. let f : Free p ≡ Free q = simp (eq-eqb _ _ n) at e in simp (eq-eqb _ _ n) (let g : q ≡ p = cc in g))
      (λ n. either_bool (equal_label? (lb (pl p)) x)
      (λ t. let f : Seen (label_no (pl p)) ≡ Free q = simp (ne_eqb _ _ n, t) at e in absurd (let z : ◌≡◌ {A = ℕ} 0 1 = cc in omega arith))
      (λ t. let f : probe pl lb x ((p + 1) % 128) k ≡ Free q = simp (ne_eqb _ _ n, t) at e in simp (ne_eqb _ _ n) (probe_first ((p + 1) % 128) k q f)))

  pub probe_low : (p left q : ℕ) → p < 128 → probe pl lb x p left ≡ Free q → q < 128
  unfolding probe
  probe_low p zero q h e = absurd (let z : ◌≡◌ {A = ℕ} 0 1 = cc in omega arith)
  probe_low p (suc k) q h e =
      either_eq (pl p) 0
      (λ n. let f : Free p ≡ Free q = simp (eq-eqb _ _ n) at e in let g : q ≡ p = cc in omega arith)
      (λ n. either_bool (equal_label? (lb (pl p)) x)
      (λ t. let f : Seen (label_no (pl p)) ≡ Free q = simp (ne_eqb _ _ n, t) at e in absurd (let z : ◌≡◌ {A = ℕ} 0 1 = cc in omega arith))
      (λ t. let f : probe pl lb x ((p + 1) % 128) k ≡ Free q = simp (ne_eqb _ _ n, t) at e in probe_low ((p + 1) % 128) k q (omega arith) f))

pub lookup_low : (t : LabelTable) (x : Label) (f : Slot) (q : ℕ) → f ≡ lookup t x → f ≡ Free q → q < 128
unfolding first_place
lookup_low t x f q e g = probe_low (place_at t.places) (label_at t.labels) x (first_place x) 128 q (omega arith) (sym e ∙ g)

pub first_low : (x : Label) → first_place x < 128
unfolding first_place
first_low x = omega arith

module _ (t : LabelTable) (x y : Label) (v : Slot) (p left : ℕ) (b : Bool) where
  pub turn_seen : v ≡ probe (place_at t.places) (label_at t.labels) x p left → 0 < left → (place_at t.places p ≡ 0 → ⊥) → y ≡ label_at t.labels (place_at t.places p) → Tells b (y ≡ x) → b ≡ true
      → Seen (get_or t.places p (label_no 0)) ≡ v
  turn_seen e h m g s k = sym (e ∙ probe_seen _ _ x p left h m (ap (λ (z : Label). equal_label? z x) (sym g) ∙ same_yes y x b s k))

  pub turn_next : (q : ℕ) → v ≡ probe (place_at t.places) (label_at t.labels) x p left → 0 < left → (place_at t.places p ≡ 0 → ⊥)
      → y ≡ label_at t.labels (place_at t.places p) → Tells b (y ≡ x) → b ≡ false → (p + 1) % 128 ≡ q
      → v ≡ probe (place_at t.places) (label_at t.labels) x q (left - 1)
  turn_next q e h m g s k w =
      e ∙ (probe_next _ _ x p left h m (ap (λ (z : Label). equal_label? z x) (sym g) ∙ same_no y x b s k)
      ∙ ap (λ (z : ℕ). probe (place_at t.places) (label_at t.labels) x z (left - 1)) w)

-- ── the search of any table, turn by turn ──
module _ (t : LabelTable) (x : Label) (p left : ℕ) (e : lookup t x ≡ probe (place_at t.places) (label_at t.labels) x p left) where
  pub turn_free : 0 < left → place_at t.places p ≡ 0 → Free p ≡ lookup t x
  turn_free h z = sym (e ∙ probe_free _ _ x p left h z)

  pub turn_full : left ≤ 0 → Full ≡ lookup t x
  turn_full h = sym (e ∙ probe_full _ _ x p left h)

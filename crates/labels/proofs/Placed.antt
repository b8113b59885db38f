-- Open addressing over 128 places finds a label exactly where it is among the labels.
-- `h` is the first place of a label (below 128), `lb i` the label of number i (from 1), `pl p` the number at place p (0: empty).
use Prim.Native.Nat.{ℕ, zero, suc, ◌+◌, ◌-◌, ◌%◌, ◌<◌, ◌≤◌}
use mathlib.Core.Path.{◌≡◌, refl, ap, sym, ◌∙◌}
use mathlib.Core.Bool.{false, cond}
use native.Mathlib.Omega.{arith}
use lib.Dec.{eqb}
use borrow.Author.Tests.{eq-eqb, ne_eqb}
use Rattle.labels.specs.declared.Label.{Label}
use Rattle.labels.specs.declared.Slot.TheVariants.{Seen, Free}
use Rattle.labels.specs.Label.{equal_label?}
use Rattle.labels.specs.Search.{probe}
use Rattle.lists.proofs.Cases.{either_eq, either_bool}
use Rattle.labels.proofs.Same.{label_refl, label_eq}
use Rattle.labels.proofs.Probe.{probe_free, probe_seen, probe_next}

-- ── a probe that meets what it looks for ──

module _ (pl : ℕ → ℕ) (lb : ℕ → Label) (s : Label) where
  pub meets : (d p left i : ℕ) → d < left → p < 128 → (i ≡ 0 → ⊥) → pl ((p + d) % 128) ≡ i → ((e : ℕ) → e < d → pl ((p + e) % 128) ≡ 0 → ⊥)
      → lb i ≡ s → ((j : ℕ) → (j ≡ 0 → ⊥) → lb j ≡ s → (q : ℕ) → pl q ≡ j → j ≡ i)
      → probe pl lb s p left ≡ Seen (record { 0 = i })
  meets zero p left i h k n here full e one =
      let a : (p + 0) % 128 ≡ p = omega arith in
      let at : pl p ≡ i = ap pl (sym a) ∙ here in
      probe_seen pl lb s p left h (λ z. n (sym at ∙ z)) (ap (λ (j : ℕ). equal_label? (lb j) s) at ∙ (ap (λ (l : Label). equal_label? l s) e ∙ label_refl s))
      ∙ ap (λ (j : ℕ). Seen (record { 0 = j })) at
  meets (suc d) p left i h k n here full e one =
      let a : (p + 0) % 128 ≡ p = omega arith in
      let m : (pl p ≡ 0 → ⊥) = λ z. full 0 (omega arith) (ap pl a ∙ z) in
      either_bool (equal_label? (lb (pl p)) s)
      (λ t. probe_seen pl lb s p left (omega arith) m t ∙ ap (λ (j : ℕ). Seen (record { 0 = j })) (one (pl p) m (label_eq (lb (pl p)) s t) p refl))
      (λ f. probe_next pl lb s p left (omega arith) m f
      ∙ meets d ((p + 1) % 128) (left - 1) i (omega arith) (omega arith) n
      (let b : ((p + 1) % 128 + d) % 128 ≡ (p + suc d) % 128 = omega arith in ap pl b ∙ here)
      (λ j g z. let b : ((p + 1) % 128 + j) % 128 ≡ (p + suc j) % 128 = omega arith in full (suc j) (omega arith) (ap pl (sym b) ∙ z))
      e one)

  -- where the probe stops: the first empty place
  pub record Stops (p left : ℕ) : Type 0 where
    pub far : ℕ
    pub near : far < left
    pub found : probe pl lb s p left ≡ Free ((p + far) % 128)
    pub empty : pl ((p + far) % 128) ≡ 0
    pub full : (e : ℕ) → e < far → pl ((p + e) % 128) ≡ 0 → ⊥

  at_once : (p left : ℕ) → p < 128 → 0 < left → pl p ≡ 0 → Stops p left
  at_once p left k h e =
      let a : (p + 0) % 128 ≡ p = omega arith in
      record {
        far = 0;
        near = h;
        found = probe_free pl lb s p left h e ∙ ap Free (sym a);
        empty = ap pl a ∙ e;
        full = λ j g _. omega arith;
      }

  past : (p left : ℕ) (r : Stops ((p + 1) % 128) left) → (pl p ≡ 0 → ⊥) → p < 128 → (j : ℕ) → j < suc r.far → pl ((p + j) % 128) ≡ 0 → ⊥
  past p left r m k zero g w =
      let a : (p + 0) % 128 ≡ p = omega arith in
      m (ap pl (sym a) ∙ w)
  past p left r m k (suc j) g w =
      let b : ((p + 1) % 128 + j) % 128 ≡ (p + suc j) % 128 = omega arith in
      r.full j (omega arith) (ap pl b ∙ w)

  pub stops : (z left p : ℕ) → p < 128 → z < left → pl ((p + z) % 128) ≡ 0 → ((j : ℕ) → (j ≡ 0 → ⊥) → lb j ≡ s → (q : ℕ) → pl q ≡ j → ⊥) → Stops p left
  stops zero left p k h e none =
      let a : (p + 0) % 128 ≡ p = omega arith in
      at_once p left k h (ap pl (sym a) ∙ e)
  stops (suc z) left p k h e none =
      either_eq (pl p) 0
      (λ c. at_once p left k (omega arith) c)
      (λ m.
      let f : equal_label? (lb (pl p)) s ≡ false =
      either_bool (equal_label? (lb (pl p)) s) (λ t. absurd (none (pl p) m (label_eq (lb (pl p)) s t) p refl)) (λ g. g) in
      let b : (j : ℕ) → ((p + 1) % 128 + j) % 128 ≡ (p + suc j) % 128 = λ j. omega arith in
      let r : Stops ((p + 1) % 128) (left - 1) = stops z (left - 1) ((p + 1) % 128) (omega arith) (omega arith) (ap pl (b z) ∙ e) none in
      record {
        far = suc r.far;
        near = omega (arith, r.near);
        found = probe_next pl lb s p left (omega arith) m f ∙ (r.found ∙ ap Free (b r.far));
        empty = ap pl (sym (b r.far)) ∙ r.empty;
        full = past p (left - 1) r m k;
      })

-- ── how many places are taken ──

abbrev pub taken : ℕ → ℕ
taken x = cond (eqb x 0) 0 1

unfoldable pub count : ℕ → (ℕ → ℕ) → ℕ
count zero pl = 0
count (suc k) pl = count k pl + taken (pl k)

-- pl, with v at q
abbrev pub upd : (ℕ → ℕ) → ℕ → ℕ → ℕ → ℕ
upd pl q v p = cond (eqb p q) v (pl p)

pub upd_here : (pl : ℕ → ℕ) (q v p : ℕ) → p ≡ q → upd pl q v p ≡ v
upd_here pl q v p e = simp (eq-eqb _ _ e)

pub upd_else : (pl : ℕ → ℕ) (q v p : ℕ) → (p ≡ q → ⊥) → upd pl q v p ≡ pl p
upd_else pl q v p e = simp (ne_eqb _ _ e)

-- fewer taken than there are: an empty one
record Empty (k : ℕ) (pl : ℕ → ℕ) : Type 0 where
  pub place : ℕ
  pub below : place < k
  pub empty : pl place ≡ 0

room : (k : ℕ) (pl : ℕ → ℕ) → count k pl < k → Empty k pl
unfolding count
room zero pl h = absurd (omega arith)
room (suc k) pl h =
    either_eq (pl k) 0
    (λ e. record { place = k; below = omega arith; empty = e })
    (λ n.
    let h' : count k pl + 1 < suc k = simp (ne_eqb _ _ n) at h in
    let r : Empty k pl = room k pl (omega arith) in
    record { place = r.place; below = omega (arith, r.below); empty = r.empty })

count_past : (k : ℕ) (pl : ℕ → ℕ) (q v : ℕ) → k ≤ q → count k (upd pl q v) ≡ count k pl
unfolding count
count_past zero pl q v h = refl
count_past (suc k) pl q v h = rw (count_past k pl q v (omega arith)) (ap (λ (x : ℕ). count k pl + taken x) (upd_else pl q v k (λ e. omega arith)))

count_more : (k : ℕ) (pl : ℕ → ℕ) (q v : ℕ) → q < k → pl q ≡ 0 → (v ≡ 0 → ⊥) → count k (upd pl q v) ≡ count k pl + 1
unfolding count
count_more zero pl q v h e n = absurd (omega arith)
count_more (suc k) pl q v h e n =
    either_eq k q
    (λ p.
    let a : upd pl q v k ≡ v = upd_here pl q v k p in
    let b : pl k ≡ 0 = ap pl p ∙ e in
    let x : taken (upd pl q v k) ≡ 1 = ap taken a ∙ simp (ne_eqb _ _ n) in
    let y : taken (pl k) ≡ 0 = simp (eq-eqb _ _ b) in
    let c : count k (upd pl q v) ≡ count k pl = count_past k pl q v (omega arith) in
    omega (arith, x, y, c))
    (λ p.
    let x : taken (upd pl q v k) ≡ taken (pl k) = ap taken (upd_else pl q v k p) in
    let c : count k (upd pl q v) ≡ count k pl + 1 = count_more k pl q v (omega arith) e n in
    omega (arith, x, c))

-- ── the table's invariant ──

pub record Way (pl : ℕ → ℕ) (p i : ℕ) : Type 0 where
  pub far : ℕ
  pub near : far < 128
  pub here : pl ((p + far) % 128) ≡ i
  pub full : (e : ℕ) → e < far → pl ((p + e) % 128) ≡ 0 → ⊥

pub record Placed (h : Label → ℕ) (n : ℕ) (lb : ℕ → Label) (pl : ℕ → ℕ) : Type 0 where
  pub low : (p : ℕ) → pl p ≤ n
  pub used : count 128 pl ≡ n
  pub way : (i : ℕ) → (i ≡ 0 → ⊥) → i ≤ n → Way pl (h (lb i)) i

pub none_placed : (h : Label → ℕ) (lb : ℕ → Label) → Placed h 0 lb (λ (p : ℕ). 0)
unfolding count
none_placed h lb = record { low = λ p. omega arith; used = refl; way = λ i m k. absurd (m (omega arith)) }

module _ (h : Label → ℕ) (in_range_lem : (s : Label) → h s < 128) (n : ℕ) (lb : ℕ → Label) (pl : ℕ → ℕ) (placed : Placed h n lb pl)
    (apart : (i j : ℕ) → (i ≡ 0 → ⊥) → i ≤ n → (j ≡ 0 → ⊥) → j ≤ n → lb i ≡ lb j → i ≡ j) where
  -- a label of the list is seen, under its own number
  pub lookup_seen : (i : ℕ) → (i ≡ 0 → ⊥) → i ≤ n → probe pl lb (lb i) (h (lb i)) 128 ≡ Seen (record { 0 = i })
  lookup_seen i m k =
      let w : Way pl (h (lb i)) i = placed.way i m k in
      meets pl lb (lb i) w.far (h (lb i)) 128 i w.near (in_range_lem (lb i)) m w.here w.full refl
      (λ j a e q b. apart j i a (omega (arith, placed.low q, b)) m k e)

  -- any other stops at an empty place
  pub lookup_free : (s : Label) → n < 128 → ((i : ℕ) → (i ≡ 0 → ⊥) → i ≤ n → lb i ≡ s → ⊥) → Stops pl lb s (h s) 128
  lookup_free s r none =
      let e : Empty 128 pl = room 128 pl (omega (arith, placed.used)) in
      let z : ℕ = (e.place + 128 - h s) % 128 in
      let b : (h s + z) % 128 ≡ e.place = omega (arith, e.below, in_range_lem s) in
      stops pl lb s z 128 (h s) (in_range_lem s) (omega arith) (ap pl b ∙ e.empty)
      (λ j a f q g. none j a (omega (arith, placed.low q, g)) f)

  -- and put there, all are placed
  module _ (s : Label) (lb' : ℕ → Label) (old : (i : ℕ) → (i ≡ 0 → ⊥) → i ≤ n → lb' i ≡ lb i) (new : lb' (suc n) ≡ s) (t : Stops pl lb s (h s) 128) where
    kept : (p : ℕ) → (pl p ≡ 0 → ⊥) → upd pl ((h s + t.far) % 128) (suc n) p ≡ pl p
    kept p m = upd_else pl ((h s + t.far) % 128) (suc n) p (λ e. m (ap pl e ∙ t.empty))

    at_most : (p : ℕ) → upd pl ((h s + t.far) % 128) (suc n) p ≤ suc n
    at_most p =
        either_eq p ((h s + t.far) % 128)
        (λ e. omega (arith, upd_here pl ((h s + t.far) % 128) (suc n) p e))
        (λ m. omega (arith, upd_else pl ((h s + t.far) % 128) (suc n) p m, placed.low p))

    way_new : Way (upd pl ((h s + t.far) % 128) (suc n)) (h s) (suc n)
    way_new =
        record {
          far = t.far;
          near = t.near;
          here = upd_here pl ((h s + t.far) % 128) (suc n) _ refl;
          full = λ e k z. t.full e k (sym (kept ((h s + e) % 128) (t.full e k)) ∙ z);
        }

    way_old : (i : ℕ) → (i ≡ 0 → ⊥) → i ≤ n → Way (upd pl ((h s + t.far) % 128) (suc n)) (h (lb i)) i
    way_old i m k =
        let w : Way pl (h (lb i)) i = placed.way i m k in
        record {
          far = w.far;
          near = w.near;
          here = kept ((h (lb i) + w.far) % 128) (λ z. m (sym w.here ∙ z)) ∙ w.here;
          full = λ e j z. w.full e j (sym (kept ((h (lb i) + e) % 128) (w.full e j)) ∙ z);
        }

    pub insert-placed : Placed h (suc n) lb' (upd pl ((h s + t.far) % 128) (suc n))
    insert-placed =
        record {
          low = at_most;
          used = count_more 128 pl ((h s + t.far) % 128) (suc n) (omega arith) t.empty (λ e. omega arith) ∙ (let z : count 128 pl + 1 ≡ suc n = omega (arith, placed.used) in z);
          way = λ i m k. either_eq i (suc n)
              (λ e. rw (e, new) way_new)
              (λ d. rw (old i m (omega arith)) (way_old i m (omega arith)));
        }

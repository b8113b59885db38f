-- Bytes of pairs that are stored one by one: none, one more, and two such parts one after the other.
use Prim.Native.Nat.{ℕ, ◌<◌, ◌≤◌}
use mathlib.Core.Path.{◌≡◌, refl, sym, ◌∙◌, subst}
use mathlib.Core.Logic.{◌⊎◌, ⊎_elim}
use mathlib.Core.List.{List}
use native.Mathlib.Omega.{arith}
use lib.ListN.{length, set, length-set}
use lib.Seq.{get_or-set_same, get_or-set_other}
use Rattle.lists.specs.Limits.{max_runs}
use Rattle.lists.proofs.Cases.{either_eq}
use Rattle.pairs.specs.Layout.{Places}
use Rattle.pairs.specs.Code.{Stored}

module _ (spot f : ℕ → ℕ → ℕ) where
  -- nothing is chosen
  pub stored_none : (Chosen : ℕ → ℕ → Type 0) (w : List ℕ) → ((a b : ℕ) → a < b → Chosen a b → ⊥) → Stored spot f Chosen w w
  stored_none Chosen w none = record { size = refl; pairs = λ a b h _ c. absurd (none a b h c); others = λ k _. refl }

  -- the byte of x and y is stored too
  module _ (n : ℕ) (p : Places n spot) where
    pub stored_more : (P Q : ℕ → ℕ → Type 0) (w v : List ℕ) (x y value : ℕ) → n ≤ length v → x < y → y < max_runs → value ≡ f x y
        → ((a b : ℕ) → P a b → Q a b) → Q x y → ((a b : ℕ) → Q a b → ((a ≡ x) × (b ≡ y) → ⊥) → P a b)
        → Stored spot f P w v → Stored spot f Q w (set v (spot x y) value)
    stored_more P Q w v x y value long hx hy e to new of s =
        record {
          size = length-set v (spot x y) value ∙ s.size;
          pairs = λ a b h k c.
              either_eq (spot a b) (spot x y)
              (λ q.
              let r = p.apart a b x y h k hx hy q in
              rw q (get_or-set_same v (spot x y) value 0 (omega (arith, p.low x y hx hy))) ∙ (e ∙ (λ i. f (sym r.0 i) (sym r.1 i))))
              (λ q.
              get_or-set_other v (spot x y) (spot a b) value 0 q
              ∙ s.pairs a b h k (of a b c (λ r. q (λ i. spot (r.0 i) (r.1 i)))));
          others = λ k none.
              get_or-set_other v (spot x y) k value 0 (λ q. none x y hx hy new (sym q))
              ∙ s.others k (λ a b h j c. none a b h j (to a b c));
        }

    -- one part, and then another
    pub stored_then : (P Q R : ℕ → ℕ → Type 0) (w v u : List ℕ) → ((a b : ℕ) → P a b → R a b) → ((a b : ℕ) → Q a b → R a b)
        → ((a b : ℕ) → a < b → R a b → Q a b ⊎ (P a b × (Q a b → ⊥))) → Stored spot f P w v → Stored spot f Q v u → Stored spot f R w u
    stored_then P Q R w v u one two of s r =
        record {
          size = r.size ∙ s.size;
          pairs = λ a b h k c.
              ⊎_elim (r.pairs a b h k)
              (λ m. r.others (spot a b) (λ x y i j q e. let z = p.apart a b x y h k i j (sym e) in m.1 (subst (λ (d : ℕ). Q a d) (sym z.1) (subst (λ (d : ℕ). Q d y) (sym z.0) q)))
              ∙ s.pairs a b h k m.0)
              (of a b h c);
          others = λ k none.
              r.others k (λ a b h j q. none a b h j (two a b q)) ∙ s.others k (λ a b h j q. none a b h j (one a b q));
        }

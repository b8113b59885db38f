-- The labels of an accepted log and the label of one line more: the line makes a 65th label exactly where there are 64
-- and the text of none of them is the line's.
use Prim.Native.Nat.{ℕ, suc, ◌-◌, ◌≤◌, ◌<◌}
use mathlib.Core.Path.{◌≡◌, refl, ap, sym, ◌∙◌, subst}
use mathlib.Core.Logic.{◌≢◌}
use mathlib.Core.List.{List, [], ◌∷◌, ◌++◌}
use native.Mathlib.Omega.{arith}
use lib.ListN.{length, length-append}
use lib.Seq.{get_or_at}
use Rattle.lists.proofs.Cases.{either_eq, either_lt}
use Rattle.labels.specs.declared.Label.{Label}
use Rattle.labels.specs.Label.{label_of, text, absent}
use Rattle.labels.specs.Table.{index_of, with_label, label_at}
use Rattle.labels.proofs.Same.{text_of}
use Rattle.labels.proofs.Table.{with_none, with_few, with_new, index_has, index_none, label_kept}
use Rattle.trace.specs.Trace.{Trace, next, begin, end, step, Accepted}
use Rattle.trace.proofs.Taken.{line_taken}
use Rattle.trace.proofs.Induction.{accepted-keeps}

-- ── one label more ──
-- the labels with x among them are the same, or one more
pub data Grows (ls : List Label) (x : Label) : Type 0 where
  same : with_label ls x ≡ ls → Grows ls x
  more : x.length ≢ 0 → length ls ≤ index_of ls x → with_label ls x ≡ ls ++ (x ∷ []) → Grows ls x

pub grows : (ls : List Label) (x : Label) → Grows ls x
grows ls x =
    either_eq x.length 0
    (λ e. same (with_none ls x e))
    (λ n. either_lt (index_of ls x) (length ls) (λ h. same (with_few ls x h n)) (λ h. more n h (with_new ls x h n)))

pub one_more : (ls : List Label) (x : Label) → length (ls ++ (x ∷ [])) ≡ suc (length ls)
one_more ls x = simp length-append (omega arith)

-- a label past the old ones is x
new_is : (ls : List Label) (x : Label) (n : ℕ) → length ls < n → n ≤ length (with_label ls x) → label_at (with_label ls x) n ≡ x
new_is ls x n low high = go (grows ls x)
  where
    go : Grows ls x → label_at (with_label ls x) n ≡ x
    go (same e) = absurd (omega (arith, ap length e))
    go (more d h e) =
        let m : n ≤ suc (length ls) = omega (arith, ap length e, one_more ls x) in
        ap (λ (y : List Label). label_at y n) e ∙ get_or_at ls x [] absent (n - 1) (omega arith)

-- ── labels are made of their texts ──
abbrev Texts : List Label → Type 0
Texts ls = (n : ℕ) → 1 ≤ n → n ≤ length ls → label_at ls n ≡ label_of (text (label_at ls n))

texts_with : (ls : List Label) (s : List ℕ) → Texts ls → Texts (with_label ls (label_of s))
texts_with ls s f n low high =
    either_lt (length ls) n
    (λ new. subst (λ (x : Label). x ≡ label_of (text x)) (sym (new_is ls (label_of s) n new high)) (ap label_of (sym (text_of s))))
    (λ old. subst (λ (x : Label). x ≡ label_of (text x)) (sym (label_kept ls (label_of s) n (λ z. omega arith) old)) (f n low old))

texts-step : (t u : Trace) (l : List ℕ) → Texts t.labels → step (next t) l ≡ next u → Texts u.labels
unfolding begin end
texts-step t u l f =
    line_taken (λ _. Texts u.labels) t u
    (λ i s b. subst (λ (v : Trace). Texts v.labels) (sym b.is) (texts_with t.labels s f))
    (λ i b. subst (λ (v : Trace). Texts v.labels) (sym b.is) f)
    l

accepted-texts : (log : List ℕ) (t : Trace) → Accepted log t → Texts t.labels
accepted-texts log t a = accepted-keeps (λ _ t. Texts t.labels) (λ l ls t u f e. texts-step t u l f e) log t a (λ n low high. absurd (omega arith))

-- ── the 65th label ──
pub record New (ls : List Label) (s : List ℕ) : Type 0 where
  pub some : s ≢ []
  pub full : 64 ≤ length ls
  pub apart : (n : ℕ) → 1 ≤ n → n ≤ length ls → text (label_at ls n) ≢ s

pub no_length : (s : List ℕ) → (label_of s).length ≡ 0 → s ≡ []
unfolding label_of
no_length [] e = refl
no_length (b ∷ s) e = absurd (omega arith)

some_length : (s : List ℕ) → (label_of s).length ≢ 0 → s ≢ []
unfolding label_of
some_length s n e = n (ap length e)

pub new_grows : (ls : List Label) (s : List ℕ) → New ls s → 64 < length (with_label ls (label_of s))
new_grows ls s n =
    either_lt (index_of ls (label_of s)) (length ls)
    (λ h. absurd (n.apart (suc (index_of ls (label_of s))) (omega arith) h (ap text (index_has ls (label_of s) h) ∙ text_of s)))
    (λ h. omega (arith, n.full, ap length (with_new ls (label_of s) h (λ z. n.some (no_length s z))), one_more ls (label_of s)))

pub grows_new : (log : List ℕ) (t : Trace) → Accepted log t → length t.labels ≤ 64
    → (s : List ℕ) → 64 < length (with_label t.labels (label_of s)) → New t.labels s
grows_new log t a few s long = go (grows t.labels (label_of s))
  where
    go : Grows t.labels (label_of s) → New t.labels s
    go (same e) = absurd (omega (arith, ap length e))
    go (more d h e) =
        record {
          some = some_length s d;
          full = omega (arith, ap length e, one_more t.labels (label_of s));
          apart = λ n low high q.
              index_none t.labels (label_of s) h n (λ z. omega arith) high (accepted-texts log t a n low high ∙ ap label_of q);
        }

-- Labels by their numbers: two runs of an accepted log have the same label exactly if their label numbers are equal and not 0,
-- and a run has a given label exactly if its number is that label's.
use Prim.Native.Nat.{ℕ, suc, ◌-◌, ◌<◌, ◌≤◌}
use mathlib.Core.Path.{◌≡◌, refl, ap, sym, ◌∙◌, subst}
use mathlib.Core.Logic.{◌≢◌}
use mathlib.Core.Bool.{not, ◌&&◌}
use mathlib.Core.List.{List, [], ◌∷◌}
use native.Mathlib.Omega.{arith}
use lib.Dec.{eqb}
use lib.ListN.{length, get_or, length-append, get_or-append, get_or-eq_default}
use lib.Seq.{get_or_at}
use borrow.Author.Tests.{lt-ltb, le-ltb}
use Rattle.lists.specs.Tells.{Tells}
use Rattle.lists.proofs.Cases.{either_eq, either_lt}
use Rattle.lists.proofs.Tells.{tell_by}
use Rattle.labels.specs.declared.Label.{Label}
use Rattle.labels.specs.Label.{label_of, text, absent}
use Rattle.labels.specs.Table.{index_of, with_label, label_at, Distinct}
use Rattle.labels.proofs.Same.{text_of}
use Rattle.labels.proofs.Table.{index_has, index_none, with_few, with_new, with_none}
use Rattle.lines.specs.Event.{Event}
use Rattle.lines.specs.Line.{event_of}
use Rattle.trace.specs.Trace.{Trace, next, no_run, begin, end, apply, Accepted}
use Rattle.trace.proofs.Taken.{event_taken, line_event}
use Rattle.trace.proofs.Induction.{accepted-keeps}
use Rattle.trace.specs.Orderly.{Orderly}
use Rattle.logic.specs.Satisfies.{HasLabel, SameLabel}
use Rattle.logic.specs.Model.{number_at}
use Rattle.logic.specs.Shown.{number_for}
use Rattle.logic.proofs.Decides.{tell_both, tell_not, tell_eq}

-- ── each label of an accepted log is that of some bytes ──
abbrev Written : List Label → Type 0
Written ls = (k : ℕ) → k < length ls → (s : List ℕ) × (get_or ls k absent ≡ label_of s)

written_more : (ls : List Label) (s : List ℕ) → Written ls → Written (with_label ls (label_of s))
written_more ls s w =
    let x : Label = label_of s in
    either_eq x.length 0
    (λ e. subst Written (sym (with_none ls x e)) w)
    (λ n. either_lt (index_of ls x) (length ls)
    (λ h. subst Written (sym (with_few ls x h n)) w)
    (λ h. subst Written (sym (with_new ls x h n)) (λ k l.
    either_lt k (length ls)
    (λ old. let o = w k old in (o.0, get_or-append ls (x ∷ []) absent k old ∙ o.1))
    (λ new. (s, get_or_at ls x [] absent k (omega (arith, l, length-append ls (x ∷ []))))))))

written_step : (t u : Trace) (e : Event) → Written t.labels → apply t e ≡ next u → Written u.labels
unfolding begin end
written_step t u e w =
    event_taken (λ _. Written u.labels) t u
    (λ i s b. subst (λ (v : Trace). Written v.labels) (sym b.is) (written_more t.labels s w))
    (λ i b. subst (λ (v : Trace). Written v.labels) (sym b.is) w)
    e

pub accepted_written : (log : List ℕ) (t : Trace) → Accepted log t → Written t.labels
accepted_written log t a = accepted-keeps (λ _ t. Written t.labels) (λ l ls t u w e. written_step t u (event_of l) w (line_event t u l e)) log t a (λ k h. absurd (omega arith))

-- ── numbers ──
module _ (ls : List Label) (written : Written ls) (distinct : Distinct ls) where
  -- a label of the list with the bytes l is the label of these bytes
  label_text_lem : (n : ℕ) → n ≢ 0 → n ≤ length ls → (l : List ℕ) → text (label_at ls n) ≡ l → label_at ls n ≡ label_of l
  label_text_lem n m h l e =
      let w = written (n - 1) (omega (arith, m)) in
      let f : w.0 ≡ l = sym (text_of w.0) ∙ (ap text (sym w.1) ∙ e) in
      w.1 ∙ ap label_of f

  number_is : (n : ℕ) → n ≢ 0 → n ≤ length ls → (l : List ℕ) → text (label_at ls n) ≡ l → n ≡ number_for ls l
  unfolding number_for Distinct
  number_is n m h l e =
      let x : label_at ls n ≡ label_of l = label_text_lem n m h l e in
      either_lt (index_of ls (label_of l)) (length ls)
      (λ k. simp (lt-ltb _ _ k) (distinct n (suc (index_of ls (label_of l))) m h (λ z. omega arith) k (x ∙ sym (index_has ls (label_of l) k))))
      (λ k. absurd (index_none ls (label_of l) k n m h x))

  number-has : (n : ℕ) → n ≢ 0 → (l : List ℕ) → n ≡ number_for ls l → text (label_at ls n) ≡ l
  unfolding number_for
  number-has n m l e =
      either_lt (index_of ls (label_of l)) (length ls)
      (λ k. let f : n ≡ suc (index_of ls (label_of l)) = simp (lt-ltb _ _ k) at e in
      ap (λ (j : ℕ). text (label_at ls j)) f ∙ (ap text (index_has ls (label_of l) k) ∙ text_of l))
      (λ k. let f : n ≡ 0 = simp (le-ltb _ _ k) at e in absurd (m f))

-- ── what the numbers of an accepted log say ──
module _ (t : Trace) (o : Orderly t) (written : Written t.labels) (distinct : Distinct t.labels) where
  -- a run's label number is that of a label, or 0
  number_low : (j : ℕ) → number_at t j ≤ length t.labels
  number_low j =
      either_lt j (length t.runs) (λ h. o.label_numbers j h)
      (λ h. let z : number_at t j ≡ 0 = ap (λ r. r.label.0) (get_or-eq_default t.runs no_run h) in omega arith)

  pub label_says : (j : ℕ) (l : List ℕ) (n : ℕ) → n ≡ number_for t.labels l → Tells (eqb (number_at t j) n && not (eqb (number_at t j) 0)) (HasLabel t j l)
  label_says j l n e =
      tell_by
      (λ h. record { labelled = h.1; bytes = number-has t.labels written distinct (number_at t j) h.1 l (h.0 ∙ e) })
      (λ h. (number_is t.labels written distinct (number_at t j) h.labelled (number_low j) l h.bytes ∙ sym e, h.labelled))
      (tell_both _ _ (tell_eq (number_at t j) n) (tell_not _ (tell_eq (number_at t j) 0)))

  pub same_says : (j k : ℕ) → Tells (eqb (number_at t j) (number_at t k) && not (eqb (number_at t j) 0)) (SameLabel t j k)
  same_says j k =
      tell_by
      (λ h. record {
        label = text (label_at t.labels (number_at t j));
        first = record { labelled = h.1; bytes = refl };
        second = record { labelled = λ z. h.1 (h.0 ∙ z); bytes = ap (λ (n : ℕ). text (label_at t.labels n)) (sym h.0) };
      })
      (λ h. (
        number_is t.labels written distinct (number_at t j) h.first.labelled (number_low j) h.label h.first.bytes
            ∙ sym (number_is t.labels written distinct (number_at t k) h.second.labelled (number_low k) h.label h.second.bytes),
        h.first.labelled,
      ))
      (tell_both _ _ (tell_eq (number_at t j) (number_at t k)) (tell_not _ (tell_eq (number_at t j) 0)))

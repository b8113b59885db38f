-- What "has label" says of the lines: the run of a begin line has the line's label, or none if the line has none, and no later line
-- changes it.
use Prim.Native.Nat.{ℕ, suc, ◌+◌, ◌<◌}
use mathlib.Core.Path.{◌≡◌, refl, sym, ap, subst, ◌∙◌}
use mathlib.Core.Logic.{◌↔◌, ◌≢◌}
use mathlib.Core.List.{List, []}
use native.Mathlib.Omega.{arith}
use lib.ListN.{length, get_or-append}
use lib.Seq.{get_or_at}
use borrow.Author.Tests.{eq-eqb, ne_eqb}
use Rattle.labels.specs.Label.{label_of, text}
use Rattle.labels.specs.Table.{number_of, index_of, label_at}
use Rattle.labels.proofs.Same.{text_of}
use Rattle.labels.proofs.Table.{label_kept, number_names}
use Rattle.lines.specs.Event.{Event, begins}
use Rattle.trace.specs.declared.Run.{Run}
use Rattle.trace.specs.Trace.{Trace, next, no_run, new_run, begin, end, apply, Accepted}
use Rattle.trace.proofs.Taken.{begin_taken, event_taken}
use Rattle.trace.proofs.Closed.{close_keeps}
use Rattle.trace.specs.Orderly.{Orderly}
use Rattle.trace.proofs.Accepted.{accepted_orderly}
use Rattle.logic.specs.Satisfies.{HasLabel}
use Rattle.logic.specs.Model.{number_at}

module _ (t u : Trace) (i : ℕ) (l : List ℕ) (e : apply t (begins i l) ≡ next u) where
  begun_is : u ≡ begin t i (label_of l)
  unfolding apply
  begun_is = (begin_taken t i (label_of l) u e).is

  number_given : number_at u (length t.runs) ≡ number_of t.labels (label_of l)
  unfolding begin
  number_given =
      ap (λ (v : Trace). number_at v (length t.runs)) begun_is
      ∙ ap (λ (r : Run). r.label.0) (get_or_at t.runs (new_run i (t.lines + 1) (number_of t.labels (label_of l))) [] no_run (length t.runs) refl)

  -- the run of a begin line has the line's label
  pub begin_has_label : length l ≢ 0 → HasLabel u (length t.runs) l
  unfolding number_of label_of begin
  begin_has_label n =
      let s : number_of t.labels (label_of l) ≡ suc (index_of t.labels (label_of l)) = simp (ne_eqb (length l) 0 n) in
      record {
        labelled = λ z. omega (arith, number_given, s);
        bytes =
            ap (λ (k : ℕ). text (label_at u.labels k)) number_given
            ∙ (ap (λ (v : Trace). text (label_at v.labels (number_of t.labels (label_of l)))) begun_is
            ∙ (ap text (number_names t.labels (label_of l) n) ∙ text_of l));
      }

  -- the run of a begin line without a label has none
  pub begin_has_none : length l ≡ 0 → (m : List ℕ) → HasLabel u (length t.runs) m → ⊥
  unfolding number_of label_of
  begin_has_none n m h =
      let s : number_of t.labels (label_of l) ≡ 0 = simp (eq-eqb (length l) 0 n) in
      h.labelled (number_given ∙ s)

-- ── later lines ──
record Stays (t u : Trace) (j : ℕ) : Type 0 where
  pub number : number_at u j ≡ number_at t j
  pub label : number_at t j ≢ 0 → label_at u.labels (number_at t j) ≡ label_at t.labels (number_at t j)

stays : (t u : Trace) → Orderly t → (j : ℕ) → j < length t.runs → (v : Event) → apply t v ≡ next u → Stays t u j
unfolding begin end
stays t u o j h =
    event_taken (λ _. Stays t u j) t u
    (λ i l b. subst (λ (w : Trace). Stays t w j) (sym b.is) (record {
      number = ap (λ (r : Run). r.label.0) (get_or-append t.runs _ no_run j h);
      label = λ n. label_kept t.labels (label_of l) (number_at t j) n (o.label_numbers j h);
    }))
    (λ i b. subst (λ (w : Trace). Stays t w j) (sym b.is) (record { number = close_keeps (λ r. r.label.0) (λ r n. refl) i (t.lines + 1) t.runs j; label = λ n. refl }))

-- a run keeps its label, or stays without one
pub label_stays : (log : List ℕ) (t u : Trace) → Accepted log t → (v : Event) → apply t v ≡ next u → (j : ℕ) → j < length t.runs → (l : List ℕ) → HasLabel t j l ↔ HasLabel u j l
label_stays log t u a v e j h l =
    let s = stays t u (accepted_orderly log t a) j h v e in (
      (λ k. record {
        labelled = λ z. k.labelled (sym s.number ∙ z);
        bytes = ap (λ (n : ℕ). text (label_at u.labels n)) s.number ∙ (ap text (s.label k.labelled) ∙ k.bytes);
      }),
      (λ k. let d : number_at t j ≢ 0 = λ z. k.labelled (s.number ∙ z) in
          record {
            labelled = d;
            bytes = ap text (sym (s.label d)) ∙ (ap (λ (n : ℕ). text (label_at u.labels n)) (sym s.number) ∙ k.bytes);
          }),
    )

-- The first lines of an accepted log: they are an accepted log themselves, and their labels are the first labels of the whole log.
use Prim.Native.Nat.{ℕ, ◌≤◌}
use mathlib.Core.Path.{◌≡◌, refl, sym, subst, ◌∙◌}
use mathlib.Core.List.{List, [], ◌++◌}
use native.Mathlib.Omega.{arith}
use lib.ListN.{length, take, drop}
use Rattle.labels.specs.Label.{label_of}
use Rattle.labels.specs.Table.{label_at}
use Rattle.labels.proofs.Table.{label_kept, number_low}
use Rattle.lines.specs.Event.{Event}
use Rattle.lines.specs.Line.{event_of}
use Rattle.lines.specs.Log.{lines_of}
use Rattle.trace.specs.Trace.{Trace, next, no_trace, begin, end, apply, steps, Accepted}
use Rattle.trace.proofs.Taken.{event_taken, line_event}
use Rattle.trace.proofs.Grown.{no_bytes, taken_grows}
use Rattle.trace.proofs.Induction.{steps_keep}
use Rattle.order.proofs.Stable.{first_rest}

-- ── labels ──
-- u has the labels of t first, under the same numbers
pub record MoreLabels (t u : Trace) : Type 0 where
  pub few : length t.labels ≤ length u.labels
  pub kept : (n : ℕ) → (n ≡ 0 → ⊥) → n ≤ length t.labels → label_at u.labels n ≡ label_at t.labels n

labels_refl : (t : Trace) → MoreLabels t t
labels_refl t = record { few = omega arith; kept = λ n z h. refl }

labels_step : (s t u : Trace) → MoreLabels s t → (v : Event) → apply t v ≡ next u → MoreLabels s u
unfolding begin end
labels_step s t u m =
    event_taken (λ _. MoreLabels s u) t u
    (λ i l b. subst (MoreLabels s) (sym b.is) (record {
      few = omega (arith, m.few, number_low t.labels (label_of l));
      kept = λ n z h. label_kept t.labels (label_of l) n z (omega (arith, m.few)) ∙ m.kept n z h;
    }))
    (λ i b. subst (MoreLabels s) (sym b.is) (record { few = m.few; kept = m.kept }))

-- ── the first lines ──
module _ (log : List ℕ) (whole : Trace) (a : Accepted log whole) (k : ℕ) (t : Trace) (first : steps (next no_trace) (take k (lines_of log)) ≡ next t) where
  -- they are an accepted log
  pub first_accepted : (start : List ℕ) × Accepted start t
  first_accepted =
      steps_keep (λ _ u. (start : List ℕ) × Accepted start u) (λ l ls u v p e. (p.0 ++ l, taken_grows p.0 u p.1 l v e))
      (take k (lines_of log)) no_trace t ([], no_bytes) first

  pub first_labels_lem : MoreLabels t whole
  first_labels_lem =
      steps_keep (λ _. MoreLabels t) (λ l ls u v m q. labels_step t u v m (event_of l) (line_event u v l q)) (drop k (lines_of log)) t whole (labels_refl t)
      (first_rest log whole a k t first)

-- From the record of an accepted log to the answer: the record meets what the parts of the evaluation need, and what they promise
-- together is the verdict of each line.
use Prim.Native.Nat.{ℕ, ◌-◌, ◌<◌, ◌≤◌}
use mathlib.Core.Path.{◌≡◌, refl, sym, ap, subst, ◌∙◌}
use mathlib.Core.Bool.{Bool}
use mathlib.Core.List.{List}
use native.Mathlib.Omega.{arith}
use lib.ListN.{length, get_or}
use Rattle.sets.specs.declared.RunSet.{RunSet}
use Rattle.labels.specs.Label.{label_of}
use Rattle.labels.specs.Search.{lookup}
use Rattle.trace.specs.declared.Record.{Record}
use Rattle.trace.specs.Trace.{Trace, Accepted}
use Rattle.trace.specs.Record.{record_of, Valid}
use Rattle.trace.proofs.Accepted.{accepted_orderly}
use Rattle.trace.proofs.Bounds.{accepted-bounded}
use Rattle.rules.specs.declared.Rule.{Rule}
use Rattle.rules.specs.Labels.{label_bytes}
use Rattle.rules.specs.Rules.{formula_of, Taken}
use Rattle.logic.specs.Shown.{slot_number}
use Rattle.logic.proofs.Judged.{label_found}
use Rattle.order.specs.declared.Order.{Order}
use Rattle.order.specs.Order.{order_to}
use Rattle.order.specs.Marks.{EndsFit, OrderHeld, Orders}
use Rattle.order.proofs.Meaning.{accepted-ends_fit}
use Rattle.row_table.specs.Truth.{truth}
use Rattle.rows.specs.Values.{Wanted}
use Rattle.rows.specs.ByRank.{OrderFits}
use Rattle.rows.proofs.Meaning.{order_fits, wanted_low}
use Rattle.timeline.specs.Root.{no_runs, WantedIn, TrueOfRanks}
use Rattle.timeline.specs.AllLines.{JudgesFrom}
use Rattle.timeline.proofs.AllLines.{done_few, line_says}

-- a number for each label of a rule file, as searches in a record find them
abbrev pub Found : List ℕ → Rule → Record → List ℕ → Type 0
Found file x r wanted = (p : ℕ) → p < x.labels → get_or wanted p 0 ≡ slot_number (lookup r.labels (label_of (label_bytes file p)))

lines_are : (r : Record) (u : Trace) → r ≡ record_of u → r.lines.0 ≡ u.lines
unfolding record_of
lines_are r u e = ap (λ (q : Record). q.lines.0) e

module _ (log : List ℕ) (u : Trace) (a : Accepted log u) (r : Record) (e : r ≡ record_of u) where
  pub order_holds : (o : Order) → Orders r.runs r.lines.0 o → OrderHeld (order_to u.runs) u.lines o
  order_holds o h =
      subst (λ (n : ℕ). OrderHeld (order_to u.runs) n o) (lines_are r u e) (h.meaning log u a (ap (λ (q : Record). q.runs) e) (lines_are r u e))

  pub wanted_in : (file : List ℕ) (x : Rule) (wanted : List ℕ) → Taken file x → Found file x r wanted → WantedIn u file wanted
  wanted_in file x wanted taken found p h =
      found p (omega (arith, taken.labels))
      ∙ (ap (λ (q : Record). slot_number (lookup q.labels (label_of (label_bytes file p)))) e ∙ label_found u (accepted-bounded log u a) (label_bytes file p))

-- ── what the parts need ──
module _ (r : Record) (v : Valid r) where
  pub ends_fit : EndsFit r.runs × (r.lines.0 ≤ 256)
  ends_fit = (
    subst (λ (q : Record). EndsFit q.runs) (sym v.encoded) (accepted-ends_fit v.log v.trace v.accepted),
    omega (arith, lines_are r v.trace v.encoded, (accepted_orderly v.log v.trace v.accepted).lines),
  )

  pub ranks_fit : (o : Order) → Orders r.runs r.lines.0 o → OrderFits r.runs o
  ranks_fit o h =
      subst (λ (q : Record). OrderFits q.runs o) (sym v.encoded)
      (order_fits v.log v.trace v.accepted o (order_holds v.log v.trace v.accepted r v.encoded o h))

  pub wanted_fit : (file : List ℕ) (x : Rule) (wanted : List ℕ) → Taken file x → length wanted ≡ 16 → Found file x r wanted → Wanted wanted x.labels
  wanted_fit file x wanted taken long found =
      record {
        few = omega (arith, taken.labels_few);
        long = omega (arith, taken.labels_few);
        low = λ p h.
            let n = wanted_in v.log v.trace v.accepted r v.encoded file x wanted taken found p (omega (arith, taken.labels)) in
            omega (arith, wanted_low v.log v.trace v.accepted (label_bytes file p));
      }

  -- ── what they promise together ──
  pub done_low : (o : Order) → Orders r.runs r.lines.0 o → (l : ℕ) → get_or o.done l 0 ≤ 128
  done_low o h = done_few v.log v.trace v.accepted o (order_holds v.log v.trace v.accepted r v.encoded o h)

  pub judges_from : (file : List ℕ) (x : Rule) (line : ℕ) (stop : Bool) (wanted : List ℕ) (o : Order) (first : Bool) (s : RunSet) → Taken file x
      → Orders r.runs r.lines.0 o → Found file x r wanted → first ≡ truth no_runs (formula_of file x) (λ _. 0) 0
      → TrueOfRanks stop file x wanted r.runs o (get_or o.done line 0 - 1) s → JudgesFrom file x r line stop (record { moments = s; first = first; done = o.done })
  judges_from file x line stop wanted o first s taken h found before ranks =
      record {
        fits = done_low o h;
        says = λ log u a e.
            let H : OrderHeld (order_to u.runs) u.lines o = order_holds log u a r e o h in
            line_says log u a o H (formula_of file x) taken.closed (record { moments = s; first = first; done = o.done }) refl line stop
            (ranks log u a (ap (λ (q : Record). q.runs) e) H (wanted_in log u a r e file x wanted taken found)) before;
      }

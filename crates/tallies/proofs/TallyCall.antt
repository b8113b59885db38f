-- The single-line call with a tally, by its ways out: those of the single-line call, a tally that has not the record's counts, and
-- the inner step with the counts of the record that it leaves.
use Prim.Native.Nat.{ℕ, ◌<◌, ◌≤◌}
use mathlib.Core.Path.{◌≡◌, ap, sym, ◌∙◌}
use mathlib.Core.Bool.{Bool, true, false, not}
use mathlib.Core.List.{List}
use mathlib.Core.Option.{Option, none, some}
use native.Mathlib.Omega.{arith}
use lib.ListN.{length}
use borrow.Author.Tests.{lt-ltb, le-ltb, not-true, not-false}
use Rattle.lists.specs.Tells.{Tells}
use Rattle.refusals.specs.Refusal.{number}
use Rattle.trace.specs.declared.Record.{Record}
use Rattle.trace.specs.Trace.{Trace}
use Rattle.trace.proofs.Bounds.{accepted-bounded}
use Rattle.pairs.specs.declared.Layout.{Layout}
use Rattle.pairs.specs.Layout.{work_size}
use Rattle.rules.specs.declared.Rule.{Rule}
use Rattle.std.specs.Prelude.{Result, Ok, Err}
use Rattle.refusals.specs.Refusal.{number}
use Rattle.refusals.specs.declared.Refusal.{Refusal}
use Rattle.rules.specs.Rules.{rule_of, formula_of, ReadsRule}
use Rattle.logic.specs.Verdict.{verdict_of}
use Rattle.single.specs.declared.Checked.{Checked}
use Rattle.tallies.specs.declared.Tally.{Tally}
use Rattle.tallies.specs.declared.Tallied.{Tallied}
use Rattle.reading.specs.Left.{Standing}
use Rattle.single.specs.Handed.{HandedBy, Reached}
use Rattle.single.specs.Step.{Advances}
use Rattle.tallies.specs.Tally.{counts?, refusing_with, MatchesRecord, CountsLine, AdvancesTallied, tallied_after, tallied_state, tallied_of, ChecksTallied}
use Rattle.reading.proofs.Standing.{standing_fits}
use Rattle.single.proofs.LineMeans.{by_line_lem}
use Rattle.single.proofs.LineCall.{with_refused, with_taken, no_rule, standing_of, not_reached}
use Rattle.tallies.proofs.Tallies.{failing-most}
use Rattle.tallies.proofs.TallyLaws.{checks-tallied}

-- ── on what accepted lines leave ──
module _ (lay : Layout) (r : Record) (w : List ℕ) (s : Standing lay r w) where
  pub standing_runs : r.runs.count ≤ 128
  standing_runs = (standing_fits lay r w s).runs

  pub failing-few : (y : Tally) (m : Bool) → MatchesRecord r y m → not m ≡ false → y.failing ≤ 256
  failing-few y m f e =
      let t : Trace = s.trace in
      failing-most t y (accepted-bounded s.log t s.left.accepted) (sym (f t s.left.encoded) ∙ not-false m e)

module _ (lay : Layout) (file : List ℕ) (x : Rule) (r : Record) (y : Tally) (w line : List ℕ) (m : Bool) (c : MatchesRecord r y m) (a : Tallied) where
  pub advances_uncounted : not m ≡ true → a ≡ refusing_with r y 24 → AdvancesTallied lay file x r y w line a w
  unfolding tallied_state
  advances_uncounted n s log t l =
      let p : counts? t y ≡ false = sym (c t l.encoded) ∙ not-true m n in
      simp p ((λ i. (s i, w)) ∙ (λ i. (refusing_with (l.encoded i) y 24, w)))

  pub advances_counted : not m ≡ false → (u : Checked) (v : List ℕ) → Advances lay file x r w line u v → CountsLine u y a → AdvancesTallied lay file x r y w line a v
  unfolding tallied_state tallied_after
  advances_counted n u v g f log t l =
      let p : counts? t y ≡ true = sym (c t l.encoded) ∙ not-false m n in
      simp p
      (by_line_lem lay file x t w line u v (g log t l)
      (λ z j o.
      let b = f.takes z (verdict_of z (formula_of file x)) o.state o.outcome in
      (λ i. (b i, o.pairs i)) ∙ ap (tallied_after lay file x t y w) (sym j))
      (λ z j o.
      let b = f.refuses (number z) o.outcome in
      (λ i. (b i, o.pairs i)) ∙ ((λ i. (refusing_with (o.state i) y (number z), w)) ∙ ap (tallied_after lay file x t y w) (sym j))))

-- ── the ways out ──
module _ (lay : Layout) (file : List ℕ) (r : Record) (y : Tally) (w line : List ℕ) (a : Tallied) where
  abbrev Out : Type 0
  Out = Tallied × List ℕ

  same : (n : ℕ) → a ≡ refusing_with r y n → ◌≡◌ {A = Out} (a, w) (refusing_with r y n, w)
  same n e i = (e i, w)

  pub tallied-short : (m : ℕ) → m ≡ work_size lay → length w < m → a ≡ refusing_with r y 20 → ChecksTallied lay file r y w line a w
  unfolding tallied_of
  tallied-short m size l e =
      let h : length w < work_size lay = omega arith in
      checks-tallied lay file r y w line a w (λ k f. simp (lt-ltb (length w) (work_size lay) h) (same 20 e)) (not_reached lay file w h)

  module _ (m : ℕ) (size : m ≡ work_size lay) (room : m ≤ length w) (q : Result Rule Refusal) (rd : ReadsRule file q) where
    long : work_size lay ≤ length w
    long = omega arith

    pub tallied-unruled : (n : Refusal) (m : ℕ) → q ≡ Err n → m ≡ number n → a ≡ refusing_with r y m → ChecksTallied lay file r y w line a w
    unfolding tallied_of
    tallied-unruled n m e g s =
        let p : rule_of file ≡ Err n = sym rd.answer ∙ e in
        checks-tallied lay file r y w line a w
        (λ k f. simp (le-ltb (length w) (work_size lay) long) (same (number n) (s ∙ ap (refusing_with r y) g) ∙ sym (with_refused (rule_of file) n _ _ p)))
        (λ k. no_rule (rule_of file) n k.rule p k.taken)

    module _ (x : Rule) (e : q ≡ Ok x) (b : Bool) (k : Tells b (Standing lay r w)) where
      rule_here : rule_of file ≡ Ok x
      rule_here = sym rd.answer ∙ e

      reached : Reached lay file w
      reached = record { long = long; rule = x; taken = rule_here }

      tallied-state : (h : Option Trace) → tallied_of lay file r y w line h ≡ tallied_state lay file x r y w line h
      unfolding tallied_of
      tallied-state h = simp (le-ltb (length w) (work_size lay) long) (with_taken (rule_of file) x _ _ rule_here)

      pub tallied-unknown : not b ≡ true → a ≡ refusing_with r y 21 → ChecksTallied lay file r y w line a w
      unfolding tallied_state
      tallied-unknown d s =
          let never : Standing lay r w → ⊥ = k.no (not-true b d) in
          checks-tallied lay file r y w line a w (λ h f. by_handed h (f reached) never) (λ _. (none, λ log t l. never (standing_of lay log t r w l)))
        where
          by_handed : (h : Option Trace) → HandedBy lay r w h → (Standing lay r w → ⊥) → ◌≡◌ {A = Out} (a, w) (tallied_of lay file r y w line h)
          by_handed none f never = same 21 s ∙ sym (tallied-state none)
          by_handed (some t) f never = absurd (never (standing_of lay f.0 t r w f.1))

      pub tallied_known : not b ≡ false → (v : List ℕ) → AdvancesTallied lay file x r y w line a v → ChecksTallied lay file r y w line a v
      tallied_known d v g =
          let s : Standing lay r w = k.yes (not-false b d) in
          checks-tallied lay file r y w line a v (λ h f. by_handed h (f reached) s) (λ _. (some s.trace, (s.log, s.left)))
        where
          by_handed : (h : Option Trace) → HandedBy lay r w h → Standing lay r w → ◌≡◌ {A = Out} (a, v) (tallied_of lay file r y w line h)
          by_handed none f s = absurd (f s.log s.trace s.left)
          by_handed (some t) f s = g f.0 t f.1 ∙ sym (tallied-state (some t))

-- What an answer of the inner step means, from its equation: a taken line makes the log longer by that line, and the verdict says
-- whether the rule is true of the longer log; a refused line changes nothing. A rule that is taken is closed, so its verdict does
-- not depend on a binding.
use Prim.Native.Nat.{ℕ}
use mathlib.Core.Path.{◌≡◌, refl, ap, sym, ◌∙◌, subst}
use mathlib.Core.List.{List}
use native.Mathlib.Omega.{arith}
use Rattle.refusals.specs.declared.Refusal.{Refusal}
use Rattle.refusals.specs.Refusal.{number}
use Rattle.trace.specs.declared.Record.{Record}
use Rattle.trace.specs.Trace.{Trace, Answer, next, refused, Accepted, step}
use Rattle.trace.specs.Record.{record_of}
use Rattle.trace.proofs.Grown.{taken_grows}
use Rattle.pairs.specs.declared.Layout.{Layout}
use Rattle.pairs.specs.Pairs.{work_of}
use Rattle.rules.specs.declared.Rule.{Rule}
use Rattle.rules.specs.Rules.{formula_of, Taken}
use Rattle.logic.specs.declared.Verdict.{Verdict}
use Rattle.logic.specs.Model.{eval, model_of}
use Rattle.logic.specs.Verdict.{verdict_of, Says}
use Rattle.logic.proofs.Judged.{closed_says}
use Rattle.single.specs.declared.Outcome.TheVariants.{Refused}
use Rattle.single.specs.declared.Checked.{Checked}
use Rattle.single.specs.Line.{judged, line_after, advance_of, LineMeans}

-- ── outcomes ──
pub judged_same : (v y : Verdict) → judged v ≡ judged y → v ≡ y
judged_same Verdict.Holds Verdict.Holds e = refl
judged_same Verdict.Holds Verdict.Fails e = absurd (let z : ◌≡◌ {A = ℕ} 0 1 = cc in omega arith)
judged_same Verdict.Fails Verdict.Holds e = absurd (let z : ◌≡◌ {A = ℕ} 0 1 = cc in omega arith)
judged_same Verdict.Fails Verdict.Fails e = refl

pub judged-taken : {C : Type 0} (v : Verdict) (c : ℕ) → judged v ≡ Refused c → C
judged-taken Verdict.Holds c e = absurd (let z : ◌≡◌ {A = ℕ} 0 1 = cc in omega arith)
judged-taken Verdict.Fails c e = absurd (let z : ◌≡◌ {A = ℕ} 0 1 = cc in omega arith)

-- the verdict of a rule that is taken, and what it says
pub verdict_says : (file : List ℕ) (x : Rule) → Taken file x → (u : Trace) → Says u (formula_of file x) (verdict_of u (formula_of file x))
unfolding verdict_of
verdict_says file x k u = closed_says u (formula_of file x) (λ _. 0) (eval (model_of u) (λ _. 0) (formula_of file x)) k.closed refl

-- ── the two ways out, read backwards ──
module _ (lay : Layout) (file : List ℕ) (x : Rule) (t : Trace) (w line : List ℕ) (c : Checked) (v : List ℕ) (q : ◌≡◌ {A = Checked × List ℕ} (c, v) (advance_of lay file x t w line)) where
  pub record TakenOut (u : Trace) : Type 0 where
    pub state : c.state ≡ record_of u
    pub outcome : c.outcome ≡ judged (verdict_of u (formula_of file x))
    pub pairs : v ≡ work_of lay u w

  pub taken_out : (u : Trace) → step (next t) line ≡ next u → TakenOut u
  unfolding line_after
  taken_out u p =
      let e : ◌≡◌ {A = Checked × List ℕ} (c, v) (line_after lay file x t w (next u)) = q ∙ ap (line_after lay file x t w) p in
      record {
        state = ap (λ (z : Checked × List ℕ). z.0.state) e;
        outcome = ap (λ (z : Checked × List ℕ). z.0.outcome) e;
        pairs = ap (λ (z : Checked × List ℕ). z.1) e;
      }

  pub record RefusedOut (d : Refusal) : Type 0 where
    pub state : c.state ≡ record_of t
    pub outcome : c.outcome ≡ Refused (number d)
    pub pairs : v ≡ w

  pub refused_out : (d : Refusal) → step (next t) line ≡ refused d → RefusedOut d
  unfolding line_after
  refused_out d p =
      let e : ◌≡◌ {A = Checked × List ℕ} (c, v) (line_after lay file x t w (refused d)) = q ∙ ap (line_after lay file x t w) p in
      record {
        state = ap (λ (z : Checked × List ℕ). z.0.state) e;
        outcome = ap (λ (z : Checked × List ℕ). z.0.outcome) e;
        pairs = ap (λ (z : Checked × List ℕ). z.1) e;
      }

  -- by what the line leaves
  pub by_line_lem : {C : Type 0} → ((u : Trace) → step (next t) line ≡ next u → TakenOut u → C)
      → ((d : Refusal) → step (next t) line ≡ refused d → RefusedOut d → C) → C
  by_line_lem {C} f g = go (step (next t) line) refl
    where
      go : (a : Answer) → step (next t) line ≡ a → C
      go (next u) p = f u p (taken_out u p)
      go (refused d) p = g d p (refused_out d p)

  pub line_means : Taken file x → (log : List ℕ) (r : Record) → Accepted log t → r ≡ record_of t → LineMeans lay file x log t r w line c v
  line_means k log r acc e =
      by_line_lem
      (λ u p o. record {
        taken = λ y m. record {
          trace = u;
          accepted = taken_grows log t acc line u p;
          state = o.state;
          pairs = o.pairs;
          verdict = subst (Says u (formula_of file x)) (judged_same (verdict_of u (formula_of file x)) y (sym o.outcome ∙ m)) (verdict_says file x k u);
        };
        refuses = λ d m. judged-taken (verdict_of u (formula_of file x)) d (sym o.outcome ∙ m);
      })
      (λ d p o. record {
        taken = λ y m. judged-taken y (number d) (sym m ∙ o.outcome);
        refuses = λ b m.
            let f : Refused (number d) ≡ Refused b = sym o.outcome ∙ m in
            let g : number d ≡ b = cc in
            record { why = (d, (p, g)); state = o.state ∙ sym e; pairs = o.pairs };
      })

-- The single-line call, by its ways out: a short work area, a refused rule, a record or pair bytes that no accepted lines leave,
-- and the inner step.
use Prim.Native.Nat.{ℕ, ◌<◌, ◌≤◌}
use mathlib.Core.Path.{◌≡◌, ap, sym, ◌∙◌, subst}
use mathlib.Core.Bool.{Bool, true, false, not}
use mathlib.Core.List.{List}
use mathlib.Core.Option.{Option, none, some}
use native.Mathlib.Omega.{arith}
use lib.ListN.{length}
use borrow.Author.Tests.{lt-ltb, le-ltb, not-true, not-false}
use Rattle.lists.specs.Tells.{Tells}
use Rattle.trace.specs.declared.Record.{Record}
use Rattle.trace.specs.Trace.{Trace}
use Rattle.pairs.specs.declared.Layout.{Layout}
use Rattle.pairs.specs.Layout.{work_size}
use Rattle.rules.specs.declared.Rule.{Rule}
use Rattle.std.specs.Prelude.{Result, Ok, Err}
use Rattle.refusals.specs.Refusal.{number}
use Rattle.refusals.specs.declared.Refusal.{Refusal}
use Rattle.rules.specs.Rules.{rule_of, Taken, ReadsRule}
use Rattle.single.specs.declared.Checked.{Checked}
use Rattle.reading.specs.Left.{Left, Standing}
use Rattle.single.specs.Handed.{HandedBy, Reached}
use Rattle.single.specs.Line.{refusing, state_of, with_rule, line_of, LineMeans, ChecksLine}
use Rattle.single.specs.Step.{Advances}
use Rattle.rules.proofs.Parts.{not_ok}
use Rattle.reading.proofs.Standing.{pairs_long}
use Rattle.single.proofs.LineMeans.{line_means}

-- ── rules ──
pub with_refused : {A : Type 0} (q : Result Rule Refusal) (n : Refusal) (f : ℕ → A) (g : Rule → A) → q ≡ Err n → with_rule q f g ≡ f (number n)
unfolding with_rule
with_refused {A} q n f g e = ap (λ (y : Result Rule Refusal). with_rule y f g) e

pub with_taken : {A : Type 0} (q : Result Rule Refusal) (x : Rule) (f : ℕ → A) (g : Rule → A) → q ≡ Ok x → with_rule q f g ≡ g x
unfolding with_rule
with_taken {A} q x f g e = ap (λ (y : Result Rule Refusal). with_rule y f g) e

pub no_rule : {C : Type 0} (q : Result Rule Refusal) (n : Refusal) (x : Rule) → q ≡ Err n → q ≡ Ok x → C
no_rule q n x e f = not_ok n x (sym e ∙ f)

pub one_rule : (q : Result Rule Refusal) (x y : Rule) → q ≡ Ok x → q ≡ Ok y → x ≡ y
one_rule q x y e f = cc

pub rule_taken : (file : List ℕ) (q : Result Rule Refusal) (x : Rule) → ReadsRule file q → q ≡ Ok x → Taken file x
rule_taken file q x rd e = rd.taken x e

-- ── what is handed in ──
pub standing_known : (lay : Layout) (r : Record) (w : List ℕ) (b : Bool) → Tells b (Standing lay r w) → not b ≡ false → Standing lay r w
standing_known lay r w b k d = k.yes (not-false b d)

-- accepted lines leave it or they do not, and only one of the two can be said
pub standing_of : (lay : Layout) (log : List ℕ) (t : Trace) (r : Record) (w : List ℕ) → Left lay log t r w → Standing lay r w
standing_of lay log t r w l = record { log = log; trace = t; left = l }

pub not_reached : (lay : Layout) {C : Type 0} (file w : List ℕ) → length w < work_size lay → Reached lay file w → C
not_reached lay file w h k = absurd (omega (arith, k.long))

module _ (lay : Layout) (file : List ℕ) (r : Record) (w line : List ℕ) where
  pub line_short : (m : ℕ) → m ≡ work_size lay → length w < m → ChecksLine lay file r w line (refusing r 20) w
  unfolding line_of
  line_short m size l =
      let h : length w < work_size lay = omega arith in
      record {
        decided = not_reached lay file w h;
        answer = λ k f. simp (lt-ltb (length w) (work_size lay) h);
        meaning = λ x e log t l. absurd (omega (arith, pairs_long lay t w w l.pairs));
      }

  module _ (m : ℕ) (size : m ≡ work_size lay) (room : m ≤ length w) (q : Result Rule Refusal) (rd : ReadsRule file q) where
    long : work_size lay ≤ length w
    long = omega arith

    pub line_unruled : (n : Refusal) → q ≡ Err n → ChecksLine lay file r w line (refusing r (number n)) w
    unfolding line_of
    line_unruled n e =
        let p : rule_of file ≡ Err n = sym rd.answer ∙ e in
        record {
          decided = λ k. no_rule (rule_of file) n k.rule p k.taken;
          answer = λ k f. simp (le-ltb (length w) (work_size lay) long) (sym (with_refused (rule_of file) n _ _ p));
          meaning = λ x g log t l. no_rule (rule_of file) n x p g;
        }

    module _ (x : Rule) (e : q ≡ Ok x) (b : Bool) (k : Tells b (Standing lay r w)) where
      pub rule_here : rule_of file ≡ Ok x
      rule_here = sym rd.answer ∙ e

      pub reached : Reached lay file w
      reached = record { long = long; rule = x; taken = rule_here }

      line_state : (h : Option Trace) → line_of lay file r w line h ≡ state_of lay file x r w line h
      unfolding line_of
      line_state h = simp (le-ltb (length w) (work_size lay) long) (with_taken (rule_of file) x _ _ rule_here)

      pub line_unknown : not b ≡ true → ChecksLine lay file r w line (refusing r 21) w
      unfolding state_of
      line_unknown d =
          let never : Standing lay r w → ⊥ = k.no (not-true b d) in
          record {
            decided = λ _. (none, λ log t l. never (standing_of lay log t r w l));
            answer = λ h f. by_handed h (f reached) never;
            meaning = λ y g log t l. absurd (never (standing_of lay log t r w l));
          }
        where
          by_handed : (h : Option Trace) → HandedBy lay r w h → (Standing lay r w → ⊥) → ◌≡◌ {A = Checked × List ℕ} (refusing r 21, w) (line_of lay file r w line h)
          by_handed none f never = sym (line_state none)
          by_handed (some t) f never = absurd (never (standing_of lay f.0 t r w f.1))

      pub line_known : not b ≡ false → (c : Checked) (v : List ℕ) → Advances lay file x r w line c v → ChecksLine lay file r w line c v
      unfolding state_of
      line_known d c v a =
          let s : Standing lay r w = k.yes (not-false b d) in
          record {
            decided = λ _. (some s.trace, (s.log, s.left));
            answer = λ h f. by_handed h (f reached) s;
            meaning = λ y g log t l.
                subst (λ (z : Rule). LineMeans lay file z log t r w line c v) (one_rule (rule_of file) x y rule_here g)
                (line_means lay file x t w line c v (a log t l) (rd.taken x e) log r l.accepted l.encoded);
          }
        where
          by_handed : (h : Option Trace) → HandedBy lay r w h → Standing lay r w → ◌≡◌ {A = Checked × List ℕ} (c, v) (line_of lay file r w line h)
          by_handed none f s = absurd (f s.log s.trace s.left)
          by_handed (some t) f s = a f.0 t f.1 ∙ sym (line_state (some t))

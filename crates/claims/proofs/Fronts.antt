-- What the two calls on one line share: 20, then the rule, then 21, then what follows after the lines that leave the record. A record that is
-- handed in stands for one trace at most (`one_trace`), so that it makes no difference which lines have left it.
use Prim.Native.Nat.{ℕ, ◌≤◌, ◌<◌}
use mathlib.Core.Path.{◌≡◌, refl, ap, sym, ◌∙◌, subst}
use mathlib.Core.Logic.{◌↔◌}
use mathlib.Core.List.{List}
use mathlib.Core.Option.{Option, none, some}
use mathlib.Core.Bool.{cond}
use native.Mathlib.Omega.{arith}
use lib.Dec.{ltb}
use lib.ListN.{length}
use borrow.Author.Tests.{lt-ltb, le-ltb}
use Rattle.lists.proofs.Cases.{either_lt}
use Rattle.trace.specs.declared.Record.{Record}
use Rattle.trace.specs.Trace.{Trace}
use Rattle.pairs.specs.declared.Layout.{Layout}
use Rattle.pairs.specs.Layout.{work_size}
use Rattle.rules.specs.declared.Rule.{Rule}
use Rattle.std.specs.Prelude.{Result, Ok, Err}
use Rattle.refusals.specs.Refusal.{number}
use Rattle.refusals.specs.declared.Refusal.{Refusal}
use Rattle.rules.specs.Rules.{rule_of}
use Rattle.grammar.proofs.RuleMet.{rule_met}
use Rattle.reading.specs.Left.{Left, Unknown}
use Rattle.reading.proofs.Standing.{one_trace}
use Rattle.single.specs.declared.Outcome.{Outcome}
use Rattle.single.specs.declared.Outcome.TheVariants.{Refused}
use Rattle.single.specs.Handed.{HandedBy, Reached}
use Rattle.single.specs.Line.{with_rule}
use Rattle.refusals.proofs.Answers.{refused_ok}
use Rattle.single.proofs.LineCall.{no_rule}
use Rattle.claims.specs.WhereMet.{Ruled, Met, short, rule, unknown, then}
use Rattle.claims.proofs.Stops.{same_refusal}

-- ── the rule ──
module _ (file : List ℕ) where
  -- a file that is taken meets no refusal, and one that meets none is taken
  pub taken_ruled : (x : Rule) → rule_of file ≡ Ok x → Ruled file
  taken_ruled x e c m = refused_ok (rule_of file) c x e ((rule_met file c).1 m)

  pub ruled_taken : Ruled file → (x : Rule) × (rule_of file ≡ Ok x)
  ruled_taken g = go (rule_of file) refl
    where
      go : (q : Result Rule Refusal) → rule_of file ≡ q → (x : Rule) × (rule_of file ≡ Ok x)
      go (Ok x) e = (x, e)
      go (Err c) e = absurd (g (number c) ((rule_met file (number c)).0 (c, (e, refl))))

-- 21 is decided where it is looked for; elsewhere it makes no difference
pub handed : (lay : Layout) (file : List ℕ) (r : Record) (w : List ℕ) → (Reached lay file w → (k : Option Trace) × HandedBy lay r w k) → (k : Option Trace) × (Reached lay file w → HandedBy lay r w k)
handed lay file r w d = either_lt (length w) (work_size lay) (λ s. (none, λ q. absurd (omega (arith, q.long)))) (λ s. go (rule_of file) refl s)
  where
    go : (q : Result Rule Refusal) → rule_of file ≡ q → work_size lay ≤ length w → (k : Option Trace) × (Reached lay file w → HandedBy lay r w k)
    go (Err n) p s = (none, λ q. no_rule (rule_of file) n q.rule p q.taken)
    go (Ok x) p s = let g = d (record { long = s; rule = x; taken = p }) in (g.0, λ _. g.1)

-- ── the order ──
module _ {A : Type 0} (lay : Layout) (file : List ℕ) (r : Record) (w : List ℕ) (refuse : ℕ → A) (after : Rule → Trace → A) where
  abbrev pub state_by : Option Trace → Rule → A
  state_by none x = refuse 21
  state_by (some t) x = after x t

  abbrev pub answer_by : Option Trace → A
  answer_by k = cond (ltb (length w) (work_size lay)) (refuse 20) (with_rule (rule_of file) refuse (state_by k))

  by_short : (k : Option Trace) → length w < work_size lay → answer_by k ≡ refuse 20
  by_short k s = simp (lt-ltb (length w) (work_size lay) s)

  by_rule : (k : Option Trace) → work_size lay ≤ length w → (q : Result Rule Refusal) → rule_of file ≡ q → answer_by k ≡ with_rule q refuse (state_by k)
  by_rule k s q e = simp (le-ltb (length w) (work_size lay) s) (ap (λ (z : Result Rule Refusal). with_rule z refuse (state_by k)) e)

  -- what holds of every refusal and of all that follows holds of the answer
  module _ (P : A → Type 0) (refusals : (n : ℕ) → P (refuse n)) (lines : (x : Rule) (log : List ℕ) (t : Trace) → Left lay log t r w → P (after x t)) where
    by_state : (k : Option Trace) → HandedBy lay r w k → (x : Rule) → P (state_by k x)
    by_state none h x = refusals 21
    by_state (some t) h x = lines x h.0 t h.1

    pub every : (k : Option Trace) → (Reached lay file w → HandedBy lay r w k) → P (answer_by k)
    unfolding with_rule
    every k h =
        either_lt (length w) (work_size lay)
        (λ s. subst P (sym (by_short k s)) (refusals 20))
        (λ s. go (rule_of file) refl s)
      where
        go : (q : Result Rule Refusal) → rule_of file ≡ q → work_size lay ≤ length w → P (answer_by k)
        go (Err n) e s = subst P (sym (by_rule k s _ e)) (refusals (number n))
        go (Ok x) e s = subst P (sym (by_rule k s _ e)) (by_state k (h (record { long = s; rule = x; taken = e })) x)

  module _ (out : A → Outcome) (says : (n : ℕ) → out (refuse n) ≡ Refused n) (met : Trace → ℕ → Type 0)
      (line_met : (x : Rule) (log : List ℕ) (t : Trace) → Left lay log t r w → (c : ℕ) → (out (after x t) ≡ Refused c) ↔ met t c) where
    same : (n c : ℕ) → out (refuse n) ≡ Refused c → n ≡ c
    same n c e = same_refusal c n (sym (says n) ∙ e)

    module _ (c : ℕ) where
      state_met : (k : Option Trace) → work_size lay ≤ length w → Ruled file → HandedBy lay r w k → (x : Rule) → out (state_by k x) ≡ Refused c → Met lay file r w met c
      state_met none s g h x e = unknown s g h (sym (same 21 c e))
      state_met (some t) s g h x e = then s g h.0 t h.1 ((line_met x h.0 t h.1 c).0 e)

      state-unknown : (k : Option Trace) → HandedBy lay r w k → Unknown lay r w → (x : Rule) → c ≡ 21 → out (state_by k x) ≡ Refused c
      state-unknown none h u x e = says 21 ∙ ap Refused (sym e)
      state-unknown (some t) h u x e = absurd (u h.0 t h.1)

      state-then : (k : Option Trace) → HandedBy lay r w k → (x : Rule) (log : List ℕ) (t : Trace) → Left lay log t r w → met t c → out (state_by k x) ≡ Refused c
      state-then none h x log t l m = absurd (h log t l)
      state-then (some u) h x log t l m =
          subst (λ (z : Trace). out (after x z) ≡ Refused c) (sym (one_trace lay r w h.0 log u t h.1 l)) ((line_met x log t l c).1 m)

      module _ (k : Option Trace) (h : Reached lay file w → HandedBy lay r w k) where
        taken_answer : work_size lay ≤ length w → (x : Rule) → rule_of file ≡ Ok x → answer_by k ≡ state_by k x
        unfolding with_rule
        taken_answer s x e = by_rule k s _ e

        handed_in : work_size lay ≤ length w → (x : Rule) → rule_of file ≡ Ok x → HandedBy lay r w k
        handed_in s x e = h (record { long = s; rule = x; taken = e })

        forth : out (answer_by k) ≡ Refused c → Met lay file r w met c
        unfolding with_rule
        forth e =
            either_lt (length w) (work_size lay)
            (λ s. short s (sym (same 20 c (sym (ap out (by_short k s)) ∙ e))))
            (λ s. go (rule_of file) refl s)
          where
            go : (q : Result Rule Refusal) → rule_of file ≡ q → work_size lay ≤ length w → Met lay file r w met c
            go (Err n) q s = rule s ((rule_met file c).0 (n, (q, same (number n) c (sym (ap out (by_rule k s _ q)) ∙ e))))
            go (Ok x) q s = state_met k s (taken_ruled file x q) (handed_in s x q) x (sym (ap out (taken_answer s x q)) ∙ e)

        back : Met lay file r w met c → out (answer_by k) ≡ Refused c
        unfolding with_rule
        back (short s e) = ap out (by_short k s) ∙ (says 20 ∙ ap Refused (sym e))
        back (rule s m) =
            let v = (rule_met file c).1 m in
            ap out (by_rule k s _ v.1.0) ∙ (says (number v.0) ∙ ap Refused v.1.1)
        back (unknown s g u e) =
            let x = ruled_taken file g in
            ap out (taken_answer s x.0 x.1) ∙ state-unknown k (handed_in s x.0 x.1) u x.0 e
        back (then s g log t l m) =
            let x = ruled_taken file g in
            ap out (taken_answer s x.0 x.1) ∙ state-then k (handed_in s x.0 x.1) x.0 log t l m

        pub front_met : (out (answer_by k) ≡ Refused c) ↔ Met lay file r w met c
        front_met = (forth, back)

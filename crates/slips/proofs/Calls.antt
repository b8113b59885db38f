-- The order of refusals that both calls keep: the rule's, the form's, the record's; then what is said of the record's logs.
use Prim.Native.Nat.{ℕ}
use mathlib.Core.Path.{◌≡◌, sym, subst, ap, ◌∙◌}
use mathlib.Core.Bool.{Bool, true, false}
use mathlib.Core.List.{List}
use Rattle.std.proofs.Common.{Option, None}
use Rattle.lists.specs.Tells.{Tells}
use Rattle.trace.specs.declared.Record.{Record}
use Rattle.trace.specs.Trace.{Trace, Accepted}
use Rattle.trace.specs.Record.{record_of, Valid}
use Rattle.rules.specs.declared.Rule.{Rule}
use Rattle.std.specs.Prelude.{Result, Ok, Err}
use Rattle.refusals.specs.Refusal.{number}
use Rattle.refusals.specs.declared.Refusal.{Refusal}
use Rattle.rules.specs.Formula.{Formula}
use Rattle.rules.specs.Rules.{rule_of, formula_of, ReadsRule}
use Rattle.slip_form.specs.Form.{SlipForm}
use Rattle.slip_form.specs.Chain.{slip_form?, ChainAt, TopOf}
use Rattle.slip_form.proofs.Forms.{form_tells}
use Rattle.slips.specs.Answers.{SlipCall}

one_rule : (o s : Result Rule Refusal) (x y : Rule) → o ≡ s → o ≡ Ok x → s ≡ Ok y → y ≡ x
one_rule o s x y p q r = cc

no_rule : {C : Type 0} (o s : Result Rule Refusal) (x : Rule) (n : Refusal) → o ≡ s → o ≡ Ok x → s ≡ Err n → C
no_rule o s x n p q r = cc

one_number : (o s : Result Rule Refusal) (m n : Refusal) → o ≡ s → o ≡ Err m → s ≡ Err n → number m ≡ number n
one_number o s m n p q r = let e : m ≡ n = cc in ap number e

module _ (file : List ℕ) (r : Record) (refuses : ℕ → Type 0) (says : (t : Trace) (f : Formula) → SlipForm f → Type 0)
    (o : Result Rule Refusal) (reads : ReadsRule file o) where
  pub rule_refused : (n : Refusal) → o ≡ Err n → refuses (number n) → SlipCall file r refuses says
  rule_refused n e h =
      record {
        rule = λ m q. subst refuses (one_number o (rule_of file) n m reads.answer e q) h;
        form = λ x q. no_rule (rule_of file) o x n (sym reads.answer) q e;
        other_form = λ x q. no_rule (rule_of file) o x n (sym reads.answer) q e;
        decided = λ x q. no_rule (rule_of file) o x n (sym reads.answer) q e;
        no_record = λ x q. no_rule (rule_of file) o x n (sym reads.answer) q e;
        known = λ x q. no_rule (rule_of file) o x n (sym reads.answer) q e;
      }

  module _ (x : Rule) (e : o ≡ Ok x) where
    same_rule : (y : Rule) → rule_of file ≡ Ok y → y ≡ x
    same_rule y q = one_rule o (rule_of file) x y reads.answer e q

    form_of : (y : Rule) → rule_of file ≡ Ok y → (k : Bool) × Tells k (SlipForm (formula_of file y))
    form_of y q = (slip_form? (formula_of file y), form_tells (formula_of file y) (reads.taken y (reads.answer ∙ q)).depth)

    of_rule : (y : Rule) → rule_of file ≡ Ok y → SlipForm (formula_of file y) → SlipForm (formula_of file x)
    of_rule y q = subst (λ (z : Rule). SlipForm (formula_of file z)) (same_rule y q)

    pub form_refused : (t : Option ℕ) → TopOf file x t → t ≡ None → refuses 26 → SlipCall file r refuses says
    form_refused t w z h =
        record {
          rule = λ m q. no_rule o (rule_of file) x m reads.answer e q;
          form = form_of;
          other_form = λ y q n. h;
          decided = λ y q s. absurd (w.other z (of_rule y q s));
          no_record = λ y q s. absurd (w.other z (of_rule y q s));
          known = λ y q s. absurd (w.other z (of_rule y q s));
        }

    module _ (top : ℕ) (at : ChainAt file x top) (b : Bool) (valid : Tells b (Valid r)) where
      here : (y : Rule) → rule_of file ≡ Ok y → SlipForm (formula_of file y)
      here y q = subst (λ (z : Rule). SlipForm (formula_of file z)) (sym (same_rule y q)) at.form

      pub record_refused : b ≡ false → refuses 21 → SlipCall file r refuses says
      record_refused nb h =
          record {
            rule = λ m q. no_rule o (rule_of file) x m reads.answer e q;
            form = form_of;
            other_form = λ y q n. absurd (n (here y q));
            decided = λ y q s. (b, valid);
            no_record = λ y q s v. h;
            known = λ y q s log u acc eq. absurd (valid.no nb (record { log = log; trace = u; accepted = acc; encoded = eq }));
          }

      pub answered : b ≡ true
          → ((s : SlipForm (formula_of file x)) (log : List ℕ) (t : Trace) → Accepted log t → r ≡ record_of t → says t (formula_of file x) s)
          → SlipCall file r refuses says
      answered nb h =
          record {
            rule = λ m q. no_rule o (rule_of file) x m reads.answer e q;
            form = form_of;
            other_form = λ y q n. absurd (n (here y q));
            decided = λ y q s. (b, valid);
            no_record = λ y q s v. absurd (v (valid.yes nb));
            known = λ y q.
                subst (λ (z : Rule). (s : SlipForm (formula_of file z)) (log : List ℕ) (t : Trace) → Accepted log t → r ≡ record_of t → says t (formula_of file z) s)
                (sym (same_rule y q)) h;
          }

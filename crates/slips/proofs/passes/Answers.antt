-- Each refusal in its place; then what is read.
use mathlib.Core.Path.{refl}
use mathlib.Core.Bool.{Bool}
use Rattle.std.specs.Prelude.{Err}
use Rattle.std.proofs.lemmas.Result.{err_from_is_err_and}
use Rattle.refusals.specs.Refusal.{RefusedWith}
use Rattle.refusals.specs.declared.Refusal.TheVariants.{RuleNoSlips, NoRecord}
use Rattle.refusals.proofs.Answers.{refused_with}
use Rattle.slip_form.specs.Slips.{slip_runs}
use Rattle.slips.specs.Answers.{ReadsIn}
use Rattle.slips.proofs.Calls.{rule_refused, form_refused, record_refused, answered}
use Rattle.slips.proofs.passes.Goals as goal

pub returns-in_err-rule : goal.returns-in_err-rule
returns-in_err-rule c = let p = err_from_is_err_and c.from_residual.result c.from_residual.ensures.1 in
    let e = c.in_err-rule.field-0.0 in
    rw (p.1, p.2) (rule_refused c.args.file.now c.args.r (λ n. RefusedWith {A = Bool} n (Err e)) (λ t f z. ReadsIn t f z (slip_runs c.args.slip) (Err e)) _ c.read_rule.ensures e c.in_err-rule.was (refused_with (Err e) _ e refl refl))

pub chain_top-requires : goal.chain_top-requires
chain_top-requires c = c.read_rule.ensures.taken _ c.in_ok-rule.was

pub returns-in_default : goal.returns-in_default
returns-in_default c = form_refused c.args.file.now c.args.r (λ n. RefusedWith {A = Bool} n (Err RuleNoSlips)) (λ t f z. ReadsIn t f z (slip_runs c.args.slip) (Err RuleNoSlips)) _ c.read_rule.ensures _ c.in_ok-rule.was _ c.chain_top.ensures c.in_default.is (refused_with (Err RuleNoSlips) 26 RuleNoSlips refl refl)

pub returns-then-not-is_record : goal.returns-then-not-is_record
returns-then-not-is_record c = record_refused c.args.file.now c.args.r (λ n. RefusedWith {A = Bool} n (Err NoRecord)) (λ t f z. ReadsIn t f z (slip_runs c.args.slip) (Err NoRecord)) _ c.read_rule.ensures _ c.in_ok-rule.was _ (c.chain_top.ensures.at _ c.in-Some.is) _ c.is_record.ensures c.if-not-is_record.true (refused_with (Err NoRecord) 21 NoRecord refl refl)

pub read_slip-requires : goal.read_slip-requires
read_slip-requires c = record { taken = (c.read_rule.ensures.taken _ c.in_ok-rule.was, c.is_record.ensures.yes c.if-not-is_record.false); chain_at = c.chain_top.ensures.at _ c.in-Some.is }

pub returns : goal.returns
returns c = answered c.args.file.now c.args.r (λ n. RefusedWith {A = Bool} n c.read_slip.result) (λ t f z. ReadsIn t f z (slip_runs c.args.slip) c.read_slip.result) _ c.read_rule.ensures _ c.in_ok-rule.was _ (c.chain_top.ensures.at _ c.in-Some.is) _ c.is_record.ensures c.if-not-is_record.false c.read_slip.ensures

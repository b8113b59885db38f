-- What each reader answers, by the lemmas on its part of the grammar.
use mathlib.Core.Path.{refl}
use native.Mathlib.Omega.{arith}
use borrow.Author.Rules.{rules}
use Rattle.signs.proofs.Told.{sign_missing, sign_present}
use Rattle.typed.proofs.Chains.{or_lost, or_read, or-alone, and_lost, and_read, and-alone, ors_none, ors_lost, ors_more, ands_none, ands_lost, ands_more}
use Rattle.typed.proofs.Operands.{not_lost, not_read_lem, operand_atom, operand_some, some_nameless, some_lost, some_read, body_none, body_rule, body_more}
use Rattle.typed.proofs.Skipped.{not_skipped}
use Rattle.typed.proofs.Scopes.{scope_lost, scope_alone, scope_ors, scope_ands_lost, scope_both}
use Rattle.typed.proofs.Closing.{operand_lost, operand_read, closes_all, closes-and_lost, closes-or_lost, closes_open, closes-more}
use Rattle.typed.proofs.Answers.{more_place}
use Rattle.typed.proofs.Calls.{asks, asks_some, run_over, skipped, after_skip, after_run, in_run, behind_part, behind_ands, behind_closed, rule_some}
use Rattle.typed.proofs.Onward.{sooner, or_onward, and_onward}
use Rattle.typed.proofs.reader.+readers.Goals as goal

-- and_rest
pub and_rest-returns-in_err-side : goal.and_rest-returns-in_err-side
and_rest-returns-in_err-side t c = let (y, one, ahead, onward) = c.loop-p.invariant in
    rw c.from_residual.ensures (onward _ _ _ (ands_lost _ _ _ _ _ _ _ _ _ c.in-Some.ensures c.in_err-side.ensures))

pub and_rest-loop-p-preserved : goal.and_rest-loop-p-preserved
and_rest-loop-p-preserved t c = let (y, one, ahead, onward) = c.loop-p.invariant in
    let z = and_onward _ _ _ _ _ _ y _ _ _ _ _ c.in-Some.ensures c.in_ok-side.ensures c.put.ensures in (
      z.0,
      omega arith,
      omega (arith, ahead, z.1),
      λ r a l x. onward r a l (ands_more _ _ _ _ _ _ _ _ _ _ _ r a l c.in-Some.ensures c.in_ok-side.ensures c.put.ensures x),
    )

pub and_rest-returns : goal.and_rest-returns
and_rest-returns t c = let (y, one, ahead, onward) = c.loop-p.invariant in
    onward _ _ _ (ands_none _ _ _ _ _ _ y.inside one c.in_default.ensures _ c.skip.ensures)

-- and_rule
pub and_rule-returns-in_err-first : goal.and_rule-returns-in_err-first
and_rule-returns-in_err-first t c = rw c.from_residual.ensures (and_lost _ _ _ _ _ _ _ _ c.in_err-first.ensures)

pub and_rule-returns-then-is_none : goal.and_rule-returns-then-is_none
and_rule-returns-then-is_none t c = and-alone _ _ _ _ _ _ _ _ _ c.in_ok-first.ensures (sign_missing c.sign.ensures c.is_none.ensures c.if-is_none.true) _ c.skip.ensures

pub and_rule-returns : goal.and_rule-returns
and_rule-returns t c = and_read _ _ _ _ _ _ _ _ _ _ _ _ c.in_ok-first.ensures c.and_rest.ensures

-- closes
pub closes-returns-then-left-eq0 : goal.closes-returns-then-left-eq0
closes-returns-then-left-eq0 t c = let (y, one, ahead, onward) = c.loop-shut.invariant in
    onward _ _ _ (closes_all _ _ _ _ _ _ _ one _ c.repeated-shut.ensures c.if-left-eq0.true)

pub closes-and_rest-requires : goal.closes-and_rest-requires
closes-and_rest-requires t c = let (y, one, ahead, onward) = c.loop-shut.invariant in
    asks_some (sooner t (after_run _ _ _ _ _ _ y 1 _ refl _ _ _ c.repeated-shut.ensures 0 (omega arith)) (omega (arith, c.decreases, ahead))) one

pub closes-returns-in_err-ands : goal.closes-returns-in_err-ands
closes-returns-in_err-ands t c = let (y, one, ahead, onward) = c.loop-shut.invariant in
    rw c.from_residual.ensures (onward _ _ _ (closes-and_lost _ _ _ _ _ _ _ one _ c.repeated-shut.ensures c.if-left-eq0.false _ _ c.in_err-ands.ensures))

pub closes-or_rest-requires : goal.closes-or_rest-requires
closes-or_rest-requires t c = let (y, one, ahead, onward) = c.loop-shut.invariant in
    asks_some (sooner t (behind_ands _ _ _ _ _ _ y 1 _ refl _ _ _ c.repeated-shut.ensures _ _ _ _ _ _ c.in_ok-ands.ensures (omega arith)) (omega (arith, c.decreases, ahead)))
    (more_place _ _ _ _ _ _ _ _ _ _ _ _ c.in_ok-ands.ensures).some

pub closes-returns-in_err-ors : goal.closes-returns-in_err-ors
closes-returns-in_err-ors t c = let (y, one, ahead, onward) = c.loop-shut.invariant in
    rw c.from_residual-in_err-ors.ensures (onward _ _ _ (closes-or_lost _ _ _ _ _ _ _ one _ c.repeated-shut.ensures c.if-left-eq0.false _ _ _ c.in_ok-ands.ensures _ _ c.in_err-ors.ensures))

pub closes-returns-in_err-here : goal.closes-returns-in_err-here
closes-returns-in_err-here t c = let (y, one, ahead, onward) = c.loop-shut.invariant in
    rw c.from_residual-in_err-here.ensures (onward _ _ _ (closes_open _ _ _ _ _ _ _ one _ c.repeated-shut.ensures c.if-left-eq0.false _ _ _ c.in_ok-ands.ensures _ _ _ c.in_ok-ors.ensures c.in_err-here.ensures))

pub closes-loop-shut-smaller : goal.closes-loop-shut-smaller
closes-loop-shut-smaller t c = let (y, one, ahead, onward) = c.loop-shut.invariant in
    let z = behind_closed _ _ _ _ _ _ y 1 _ refl _ _ _ c.repeated-shut.ensures _ _ _ _ _ _ c.in_ok-ands.ensures _ _ _ _ _ _ c.in_ok-ors.ensures _ _ c.in_ok-here.ensures 1 (omega arith) in
    omega (arith, z.less)

pub closes-loop-shut-preserved : goal.closes-loop-shut-preserved
closes-loop-shut-preserved t c = let (y, one, ahead, onward) = c.loop-shut.invariant in
    let z = behind_closed _ _ _ _ _ _ y 1 _ refl _ _ _ c.repeated-shut.ensures _ _ _ _ _ _ c.in_ok-ands.ensures _ _ _ _ _ _ c.in_ok-ors.ensures _ _ c.in_ok-here.ensures 1 (omega arith) in (
      z.begins,
      (more_place _ _ _ _ _ _ _ _ _ _ _ _ c.in_ok-ors.ensures).some,
      omega (arith, ahead, z.less),
      λ r a l x. onward r a l (closes-more _ _ _ _ _ _ _ one _ c.repeated-shut.ensures c.if-left-eq0.false _ _ _ c.in_ok-ands.ensures _ _ _ c.in_ok-ors.ensures _ c.in_ok-here.ensures r a l x),
    )

-- not_rule
pub not_rule-operand-requires : goal.not_rule-operand-requires
not_rule-operand-requires t c = let z = after_skip _ _ _ _ _ _ c.requires _ _ c.decreases _ c.skip-start.ensures _ _ _ c.repeated-marks.ensures 0 (omega arith) in
    (z.less, (z.begins, run_over _ _ _ _ _ _ (skipped _ _ _ _ _ _ c.requires _ c.skip-start.ensures) _ _ _ c.repeated-marks.ensures (omega arith)))

pub not_rule-returns-in_err-inner : goal.not_rule-returns-in_err-inner
not_rule-returns-in_err-inner t c = rw c.from_residual.ensures (not_skipped _ _ _ _ _ _ _ c.skip-start.ensures _ _ _ (not_lost _ _ _ _ _ _ _ c.repeated-marks.ensures _ _ c.in_err-inner.ensures))

pub not_rule-returns : goal.not_rule-returns
not_rule-returns t c = not_skipped _ _ _ _ _ _ _ c.skip-start.ensures _ _ _ (not_read_lem _ _ _ _ _ _ _ c.repeated-marks.ensures _ _ _ c.in_ok-inner.ensures (rule_some _ _ _ _ _ _ _ _ _ _ _ c.in_ok-inner.ensures) _ c.put_nots.ensures)

-- operand
pub operand-returns-in_default : goal.operand-returns-in_default
operand-returns-in_default t c = operand_atom _ _ _ _ _ _ _ c.repeated-opens.ensures c.if-opens-eq0.true c.requires.1 _ _ c.in_default.ensures c.atom.ensures

pub operand-returns-then-opens-eq0 : goal.operand-returns-then-opens-eq0
operand-returns-then-opens-eq0 t c = operand_some _ _ _ _ _ _ _ c.repeated-opens.ensures c.if-opens-eq0.true c.requires.1 _ _ _ c.in-Some.ensures _ c.some_rule.ensures

pub operand-not_rule-requires : goal.operand-not_rule-requires
operand-not_rule-requires t c = asks (in_run _ _ _ _ _ _ c.requires.0 _ _ c.decreases _ _ _ c.repeated-opens.ensures c.if-opens-eq0.false 1 (omega arith))

pub operand-returns-in_err-inner : goal.operand-returns-in_err-inner
operand-returns-in_err-inner t c = rw c.from_residual.ensures (operand_lost _ _ _ _ _ _ _ c.repeated-opens.ensures _ _ c.in_err-inner.ensures)

pub operand-closes-requires : goal.operand-closes-requires
operand-closes-requires t c = asks_some (behind_part _ _ _ _ _ _ c.requires.0 _ _ c.decreases _ _ _ c.repeated-opens.ensures _ _ _ _ _ c.in_ok-inner.ensures c.if-opens-eq0.false 1 (omega arith)) (rule_some _ _ _ _ _ _ _ _ _ _ _ c.in_ok-inner.ensures)

pub operand-returns : goal.operand-returns
operand-returns t c = operand_read _ _ _ _ _ _ _ c.repeated-opens.ensures _ _ _ c.in_ok-inner.ensures _ _ _ c.closes.ensures

-- or_rest
pub or_rest-returns-in_err-side : goal.or_rest-returns-in_err-side
or_rest-returns-in_err-side t c = let (y, one, ahead, onward) = c.loop-p.invariant in
    rw c.from_residual.ensures (onward _ _ _ (ors_lost _ _ _ _ _ _ _ _ _ _ c.in-Some.ensures c.put.ensures c.in_err-side.ensures))

pub or_rest-loop-p-preserved : goal.or_rest-loop-p-preserved
or_rest-loop-p-preserved t c = let (y, one, ahead, onward) = c.loop-p.invariant in
    let z = or_onward _ _ _ _ _ _ y _ _ _ _ _ _ c.in-Some.ensures c.put.ensures c.in_ok-side.ensures c.close_or.ensures in (
      z.0,
      omega arith,
      omega (arith, ahead, z.1),
      λ r a l x. onward r a l (ors_more _ _ _ _ _ _ _ _ _ _ _ r a _ l c.in-Some.ensures c.put.ensures c.in_ok-side.ensures c.close_or.ensures x),
    )

pub or_rest-returns : goal.or_rest-returns
or_rest-returns t c = let (y, one, ahead, onward) = c.loop-p.invariant in
    onward _ _ _ (ors_none _ _ _ _ _ _ y.inside one c.in_default.ensures _ c.skip.ensures)

-- or_rule
pub or_rule-returns-in_err-first : goal.or_rule-returns-in_err-first
or_rule-returns-in_err-first t c = rw c.from_residual.ensures (or_lost _ _ _ _ _ _ _ _ c.in_err-first.ensures)

pub or_rule-returns-then-is_none : goal.or_rule-returns-then-is_none
or_rule-returns-then-is_none t c = or-alone _ _ _ _ _ _ _ _ _ c.in_ok-first.ensures (sign_missing c.sign.ensures c.is_none.ensures c.if-is_none.true)

pub or_rule-returns : goal.or_rule-returns
or_rule-returns t c = or_read _ _ _ _ _ _ _ _ _ _ _ _ c.in_ok-first.ensures c.or_rest.ensures

-- scope
pub scope-returns-in_err-inner : goal.scope-returns-in_err-inner
scope-returns-in_err-inner t c = rw c.from_residual.ensures (scope_lost _ _ _ _ _ _ _ c.in-Some.ensures _ _ c.in_err-inner.ensures)

pub scope-returns-in_err-ands : goal.scope-returns-in_err-ands
scope-returns-in_err-ands t c = rw c.from_residual-in_err-ands.ensures (scope_ands_lost _ _ _ _ _ _ _ c.in-Some.ensures _ _ _ c.in_ok-inner.ensures _ _ c.in_err-ands.ensures)

pub scope-returns-then-is_some : goal.scope-returns-then-is_some
scope-returns-then-is_some t c = scope_both _ _ _ _ _ _ _ c.in-Some.ensures _ _ _ c.in_ok-inner.ensures _ _ _ c.in_ok-ands.ensures _ _ _ c.or_rest.ensures

pub scope-returns-then-is_some-2 : goal.scope-returns-then-is_some-2
scope-returns-then-is_some-2 t c = scope_ors _ _ _ _ _ _ _ c.in-Some.ensures _ _ _ c.in_ok-inner.ensures (sign_present c.sign.ensures c.is_some.ensures c.if-is_some.false) _ _ _ c.or_rest-then-is_some-2.ensures

pub scope-returns : goal.scope-returns
scope-returns t c = scope_alone _ _ _ _ _ _ _ c.in-Some.ensures _ _ _ c.in_ok-inner.ensures (sign_present c.sign.ensures c.is_some.ensures c.if-is_some.false) (sign_present c.sign-2.ensures c.is_some-2.ensures c.if-is_some-2.false)

-- some_body
pub some_body-returns-in-Some : goal.some_body-returns-in-Some
some_body-returns-in-Some t c = body_more _ _ _ _ _ _ _ c.in-Some.ensures _ _ _ c.some_rule.ensures

pub some_body-returns-in_err-p : goal.some_body-returns-in_err-p
some_body-returns-in_err-p t c = rw c.from_residual.ensures (body_none _ _ _ _ _ _ c.in_default.ensures c.in_err-p.ensures)

pub some_body-returns : goal.some_body-returns
some_body-returns t c = body_rule _ _ _ _ _ _ c.in_default.ensures _ c.in_ok-p.ensures _ _ _ c.scope.ensures

-- some_rule
pub some_rule-returns-in_err-bound : goal.some_rule-returns-in_err-bound
some_rule-returns-in_err-bound t c = rw c.from_residual.ensures (some_nameless _ _ _ _ _ _ c.in_err-bound.ensures)

pub some_rule-returns-in_err-body : goal.some_rule-returns-in_err-body
some_rule-returns-in_err-body t c = rw c.from_residual-in_err-body.ensures (some_lost _ _ _ _ _ _ _ c.in_ok-bound.ensures _ _ c.enter-e.ensures _ _ c.in_err-body.ensures)

pub some_rule-returns : goal.some_rule-returns
some_rule-returns t c = some_read _ _ _ _ _ _ _ c.in_ok-bound.ensures _ _ c.enter-e.ensures _ _ _ c.in_ok-body.ensures c.requires _ c.put.ensures

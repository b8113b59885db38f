-- Each part is read where the one before it ends; the first refusal is the answer.
use Rattle.std.proofs.lemmas.Result.{err_from_is_err_and}
use Rattle.rules.proofs.Parts.{head_mark, head_version, head_count}
use Rattle.rules.proofs.front.head.Goals as goal

pub returns-in_err-mark : goal.returns-in_err-mark
returns-in_err-mark c =
    let p = err_from_is_err_and c.from_residual.result c.from_residual.ensures.1 in
    rw (p.1, p.2) (head_mark _ _ _ c.mark.ensures c.in_err-mark.was)

pub returns-in_err-version : goal.returns-in_err-version
returns-in_err-version c =
    let p = err_from_is_err_and c.from_residual-in_err-version.result c.from_residual-in_err-version.ensures.1 in
    rw (p.1, p.2) (head_version _ _ _ _ _ c.mark.ensures c.in_ok-mark.was c.version.ensures c.in_err-version.was)

pub returns : goal.returns
returns c = head_count _ _ _ _ _ _ c.mark.ensures c.in_ok-mark.was c.version.ensures c.in_ok-version.was c.label_count.ensures

-- By what the finder says of the record of no lines.
use Prim.Native.Nat.{ℕ}
use mathlib.Core.Path.{◌≡◌, subst}
use Rattle.refusals.specs.Refusal.{number}
use Rattle.text_pieces.specs.Pieces.{refused_text}
use Rattle.text_pieces.specs.Writing.{WritesFew}
use Rattle.log_slips.proofs.Whole.{shows_refused, shows_lines}
use borrow.Author.Rules.{rules}
use Rattle.log_slips.proofs.make_text.Goals as goal

pub returns-in-Err : goal.returns-in-Err
returns-in-Err c = let q : c.from-in-Err.result ≡ number c.in-Err.e = cc in
    let w = subst (λ (n : ℕ). WritesFew 9 (refused_text 0 n) c.args.text.now 0 c.put_refused.new.text c.put_refused.result) q c.put_refused.ensures in
    search (shows_refused, rules)

pub returns-in-Ok : goal.returns-in-Ok
returns-in-Ok c = search (shows_lines, rules)

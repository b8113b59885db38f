-- What is left of the two decides: the capitals passed are the same.
use Rattle.std.proofs.Common.{◌≡◌, ◌+◌, [], ◌∷◌, ◌++◌}
use Rattle.std.proofs.lemmas.Slice.Zip.{zip_turn, zip_end}
use mathlib.Core.Path.{ap, ◌∙◌}
use borrow.Author.Rules.{rules}
use lib.ListN.{length, length-append}
use Rattle.labels.specs.Label.{capital}
use Rattle.label_book.proofs.Compared.{ends, capital-less, capital_greater, capital_same}
use Rattle.label_book.proofs.precedes.Goals as goal

pub returns-then-x-y : goal.returns-then-x-y
returns-then-x-y c =
    let z = zip_turn c.args.s.now c.args.t.now c.loop-p.yielded c.into_iter-p-iterator.result c.loop-p.p-iterator c.next.new.self c.next.result (search rules) (search rules) c.loop-p.yielded_by _ c.in-Some.is c.next.ensures.steps in
    capital-less c.args.s.now c.args.t.now (length c.loop-p.yielded) c.loop-p.invariant _ _
    (c.capital_byte-x.ensures ∙ ap capital (z.2 0))
    (c.capital_byte-y.ensures ∙ ap capital (z.3 0))
    z.0
    z.1
    c.if-x-y.true

pub returns-then-y-x : goal.returns-then-y-x
returns-then-y-x c =
    let z = zip_turn c.args.s.now c.args.t.now c.loop-p.yielded c.into_iter-p-iterator.result c.loop-p.p-iterator c.next.new.self c.next.result (search rules) (search rules) c.loop-p.yielded_by _ c.in-Some.is c.next.ensures.steps in
    capital_greater c.args.s.now c.args.t.now (length c.loop-p.yielded) c.loop-p.invariant _ _
    (c.capital_byte-x.ensures ∙ ap capital (z.2 0))
    (c.capital_byte-y.ensures ∙ ap capital (z.3 0))
    z.0
    z.1
    c.if-y-x.true

pub loop-p-preserved : goal.loop-p-preserved
loop-p-preserved c =
    let z = zip_turn c.args.s.now c.args.t.now c.loop-p.yielded c.into_iter-p-iterator.result c.loop-p.p-iterator c.next.new.self c.next.result (search rules) (search rules) c.loop-p.yielded_by _ c.in-Some.is c.next.ensures.steps in
    let n : length (c.loop-p.yielded ++ ((c.in-Some.p, c.in-Some.q) ∷ [])) ≡ length c.loop-p.yielded + 1 = length-append _ _ in
    rw n
    (capital_same c.args.s.now c.args.t.now (length c.loop-p.yielded) c.loop-p.invariant _ _
    (c.capital_byte-x.ensures ∙ ap capital (z.2 0))
    (c.capital_byte-y.ensures ∙ ap capital (z.3 0))
    z.0
    z.1
    c.if-y-x.false
    c.if-x-y.false)

pub returns : goal.returns
returns c =
    let z = zip_end c.args.s.now c.args.t.now c.loop-p.yielded c.into_iter-p-iterator.result c.loop-p.p-iterator c.next.new.self c.next.result (search rules) (search rules) c.loop-p.yielded_by c.in-None.is c.next.ensures.steps in
    ends c.args.s.now c.args.t.now (length c.loop-p.yielded) c.loop-p.invariant z

-- A slip that is not whole does not fit; of one that is, the part is true by ranks exactly if it is by run numbers.
use native.Mathlib.Omega.{arith}
use borrow.Author.Tests.{not-true, not-false}
use Rattle.slips.proofs.Chains.{chain_low, top_small, chain_ready, chain_byte, whole_chain, whole_some, reads_refused, reads_true}
use Rattle.slips.proofs.read_slip.Goals as goal

pub bounds-heights-top : goal.bounds-heights-top
bounds-heights-top c = top_small c.args.file.now c.args.rule c.args.top c.requires.taken.0 c.requires.chain_at

pub is_whole-requires : goal.is_whole-requires
is_whole-requires c = let low = chain_low c.args.file.now c.args.rule c.args.top c.requires.taken.0 c.requires.chain_at in
    let byte = chain_byte c.args.file.now c.args.rule c.args.top c.requires.taken.0 c.requires.chain_at c.args.r c.prepare-p.result c.prepare-p.ensures in
    (omega (arith, low, byte), c.prepare-p.ensures.ranks_long)

pub returns-then-not-is_whole : goal.returns-then-not-is_whole
returns-then-not-is_whole c = reads_refused c.args.file.now c.args.rule c.args.top c.requires.taken.0 c.requires.chain_at c.args.r c.prepare-p.result c.prepare-p.ensures _ (c.is_whole.ensures.no (not-true _ c.if-not-is_whole.true-raw))

pub overflow_sub-runs : goal.overflow_sub-runs
overflow_sub-runs c = whole_some c.args.file.now c.args.rule c.args.top c.requires.taken.0 c.requires.chain_at c.args.r c.prepare-p.result c.prepare-p.ensures _ (whole_chain c.args.file.now c.args.rule c.args.top c.requires.taken.0 c.requires.chain_at c.args.r c.prepare-p.result c.prepare-p.ensures _ (c.is_whole.ensures.yes (not-false _ c.if-not-is_whole.false-raw)))

pub is_true_of-requires : goal.is_true_of-requires
is_true_of-requires c = let few = c.prepare-p.ensures.runs_few in
    let whole = whole_chain c.args.file.now c.args.rule c.args.top c.requires.taken.0 c.requires.chain_at c.args.r c.prepare-p.result c.prepare-p.ensures _ (c.is_whole.ensures.yes (not-false _ c.if-not-is_whole.false-raw)) in
    let some = whole_some c.args.file.now c.args.rule c.args.top c.requires.taken.0 c.requires.chain_at c.args.r c.prepare-p.result c.prepare-p.ensures _ whole in
    record { ready = (chain_ready c.args.file.now c.args.rule c.args.top c.requires.taken.0 c.requires.chain_at c.args.r c.prepare-p.result c.prepare-p.ensures, omega (arith, few, some), c.prepare-p.ensures.ranks_long); top_bound = (chain_low c.args.file.now c.args.rule c.args.top c.requires.taken.0 c.requires.chain_at, whole) }

pub returns : goal.returns
returns c =
    reads_true c.args.file.now c.args.rule c.args.top c.requires.taken.0 c.requires.chain_at c.args.r c.prepare-p.result c.prepare-p.ensures _ _ (whole_chain c.args.file.now c.args.rule c.args.top c.requires.taken.0 c.requires.chain_at c.args.r c.prepare-p.result c.prepare-p.ensures _ (c.is_whole.ensures.yes (not-false _ c.if-not-is_whole.false-raw))) c.is_true_of.ensures

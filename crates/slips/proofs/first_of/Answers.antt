-- With no run finished none passes; otherwise the search's slip, by ranks, is the first by run numbers.
use native.Mathlib.Omega.{arith}
use Rattle.slips.proofs.Chains.{chain_low, chain_ready, finds-nothing, finds_sought}
use Rattle.slips.proofs.first_of.Goals as goal

pub returns-then-runs-eq0 : goal.returns-then-runs-eq0
returns-then-runs-eq0 c =
    finds-nothing c.args.file.now c.args.rule c.args.top c.requires.taken.0 c.requires.chain_at c.args.r c.prepare-p.result c.prepare-p.ensures c.if-runs-eq0.true

pub search-requires : goal.search-requires
search-requires c = let few = c.prepare-p.ensures.runs_few in
    record { ready = (chain_ready c.args.file.now c.args.rule c.args.top c.requires.taken.0 c.requires.chain_at c.args.r c.prepare-p.result c.prepare-p.ensures, omega (arith, few, c.if-runs-eq0.false), c.prepare-p.ensures.ranks_long); top_bound = chain_low c.args.file.now c.args.rule c.args.top c.requires.taken.0 c.requires.chain_at }

pub returns : goal.returns
returns c =
    finds_sought c.args.file.now c.args.rule c.args.top c.requires.taken.0 c.requires.chain_at c.args.r c.prepare-p.result c.prepare-p.ensures _ c.if-runs-eq0.false c.search.ensures.0 c.search.ensures.1

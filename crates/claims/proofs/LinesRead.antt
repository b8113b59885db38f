-- What the whole-log call does where its buffers are long enough and its rule is taken: it reads the lines, and leaves the pair bytes of
-- their runs.
use Prim.Native.Nat.{ℕ}
use mathlib.Core.Path.{◌≡◌, refl, ap, ◌∙◌}
use mathlib.Core.List.{List, []}
use native.Mathlib.Omega.{arith}
use lib.ListN.{get_or}
use borrow.Author.Tests.{le-ltb}
use Rattle.lines.specs.Log.{lines_of}
use Rattle.trace.specs.declared.Run.{Run}
use Rattle.trace.specs.Trace.{Trace, no_trace}
use Rattle.pairs.specs.declared.Layout.{Layout}
use Rattle.pairs.specs.declared.Layout.TheVariants.{Square, Half}
use Rattle.pairs.specs.Layout.{place}
use Rattle.pairs.specs.Pairs.{pair_byte, work_of}
use Rattle.pairs.proofs.Work.{work_pair}
use Rattle.rules.specs.declared.Rule.{Rule}
use Rattle.std.specs.Prelude.{Ok}
use Rattle.rules.specs.Rules.{rule_of}
use Rattle.rules.specs.Cases.{p1_file, p1_rule}
use Rattle.rules.proofs.Worked.{p1-taken}
use Rattle.whole_log.specs.Log.{lines_from, log_of}
use Rattle.whole_log.specs.Repeated.{Result}
use Rattle.whole_log.specs.Cases.{Long, first_place, first_pair}
use Rattle.single.proofs.LineCall.{with_taken}

-- the call reads the lines
pub reads : (lay : Layout) (file : List ℕ) (x : Rule) → rule_of file ≡ Ok x → (log w out : List ℕ) → Long lay w out → log_of lay file log w out ≡ lines_from lay file x no_trace (lines_of log) w out
unfolding log_of
reads lay file x e log w out h = simp (le-ltb _ _ h.work, le-ltb _ _ h.verdicts) (with_taken (rule_of file) x _ _ e)

-- the byte of runs 0 and 1, by the runs that a log leaves
abbrev pub of_runs : List Run → Trace
of_runs rs = record { runs = rs; labels = []; lines = 0 }

first_place_lem : (lay : Layout) → first_place lay ≡ place lay 0 1
first_place_lem Square = refl
first_place_lem Half = refl

pub byte_of : (lay : Layout) (log : List ℕ) (rs : List Run) (w out : List ℕ) → Long lay w out → (lines_from lay p1_file p1_rule no_trace (lines_of log) w out).1 ≡ work_of lay (of_runs rs) w → first_pair lay log w out ≡ pair_byte rs 0 1
byte_of lay log rs w out h e =
    ap (λ (z : Result). get_or z.1 (first_place lay) 0) (reads lay p1_file p1_rule p1-taken log w out h)
    ∙ (ap (λ (k : ℕ). get_or (lines_from lay p1_file p1_rule no_trace (lines_of log) w out).1 k 0) (first_place_lem lay)
    ∙ work_pair lay (of_runs rs) w _ e 0 1 (omega arith) (omega arith))

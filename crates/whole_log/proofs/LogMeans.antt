-- What the answer of the whole-log call says of the log: it ends with the last line or at the first that is refused, and each taken
-- line has its verdict byte.
use Prim.Native.Nat.{ℕ, suc, ◌+◌, ◌<◌, ◌≤◌}
use mathlib.Core.Path.{◌≡◌, refl, ap, sym, ◌∙◌, subst}
use mathlib.Core.List.{List, [], ◌∷◌, ◌++◌}
use native.Mathlib.Omega.{arith}
use lib.ListN.{length, get_or, take}
use lib.Seq.{length-take-le}
use borrow.Author.Tests.{le-ltb}
use Rattle.refusals.specs.Refusal.{number}
use Rattle.lines.specs.Log.{lines_of, flat}
use Rattle.trace.specs.Trace.{Trace, next, refused, no_trace, steps, Accepted}
use Rattle.trace.proofs.Grown.{no_bytes, flat_lines}
use Rattle.trace.proofs.Bounds.{accepted-bounded}
use Rattle.pairs.specs.declared.Layout.{Layout}
use Rattle.pairs.specs.Layout.{work_size}
use Rattle.pairs.specs.Pairs.{work_of}
use Rattle.rules.specs.declared.Rule.{Rule}
use Rattle.std.specs.Prelude.{Ok}
use Rattle.rules.specs.Rules.{rule_of, formula_of}
use Rattle.rules.proofs.Rules.{reads_rule}
use Rattle.logic.specs.Verdict.{verdict_byte, verdict_of}
use Rattle.reading.specs.declared.Ending.{Ending}
use Rattle.reading.specs.declared.Ending.TheVariants.{Read, Refused}
use Rattle.reading.specs.declared.LogRead.{LogRead}
use Rattle.reading.specs.Reading.{read_from, read_answer}
use Rattle.reading.proofs.Lines.{lines_accepted, taken_lines, lines_counted, Ends, through, at, ends}
use Rattle.whole_log.specs.Log.{lines_from, log_of, LogTaken, LogStopped, LogMeans, ChecksLog}
use Rattle.whole_log.specs.Repeated.{Result}
use Rattle.single.proofs.LineMeans.{verdict_says}
use Rattle.single.proofs.LineCall.{with_taken}
use Rattle.whole_log.proofs.Lines.{from_read}
use Rattle.whole_log.proofs.Prefixes.{line_byte, bytes_rest, bytes_size}

-- ── the meaning ──
read_not_refused : {C : Type 0} (c n : ℕ) → Read ≡ Refused c n → C
read_not_refused c n e = absurd (let z : ◌≡◌ {A = ℕ} 0 1 = cc in omega arith)

same_refusal : (c d n m : ℕ) → Refused d m ≡ Refused c n → (d ≡ c) × (m ≡ n)
same_refusal c d n m e = ((cc), (cc))

module _ (lay : Layout) (file log w out : List ℕ) (a : LogRead) (v o : List ℕ) (answer : ◌≡◌ {A = Result} (a, v, o) (log_of lay file log w out)) where
  module _ (x : Rule) (rule : rule_of file ≡ Ok x) (long : work_size lay ≤ length w) (room : 256 ≤ length out) where
    is : ◌≡◌ {A = Result} (a, v, o) (lines_from lay file x no_trace (lines_of log) w out)
    unfolding log_of
    is = answer ∙ simp (le-ltb (length w) (work_size lay) long, le-ltb (length out) 256 room) (with_taken (rule_of file) x _ _ rule)

    abbrev z : Result
    z = lines_from lay file x no_trace (lines_of log) w out

    abbrev got : Trace × Ending
    got = read_from no_trace (lines_of log)

    how_ends : Ends no_trace (lines_of log) got
    how_ends = ends (lines_of log) no_trace

    answered : a ≡ read_answer got
    answered = ap (λ (q : Result). q.0) is ∙ ap (λ (q : LogRead × List ℕ). q.0) (from_read lay file x w (lines_of log) no_trace out)

    worked : v ≡ work_of lay got.0 w
    worked = ap (λ (q : Result). q.1) is ∙ ap (λ (q : LogRead × List ℕ). q.1) (from_read lay file x w (lines_of log) no_trace out)

    whole_log : a.ending ≡ Read → LogTaken lay log w a v
    whole_log m = go how_ends
      where
        go : Ends no_trace (lines_of log) got → LogTaken lay log w a v
        go (through u e s) =
            record {
              trace = u;
              accepted = subst (λ (l : List ℕ). Accepted l u) (flat_lines log) (lines_accepted (lines_of log) [] no_trace no_bytes u e);
              state = ap (λ (b : LogRead). b.state) (answered ∙ ap read_answer s);
              pairs = worked ∙ ap (λ (k : Trace × Ending). work_of lay k.0 w) s;
            }
        go (at before l after u c d e r s) = read_not_refused (number c) (u.lines + 1) (sym m ∙ ap (λ (b : LogRead). b.ending) (answered ∙ ap read_answer s))

    stopped_log : (c n : ℕ) → a.ending ≡ Refused c n → LogStopped lay log w c n a v
    stopped_log c n m = go how_ends
      where
        go : Ends no_trace (lines_of log) got → LogStopped lay log w c n a v
        go (through u e s) = read_not_refused c n (sym (ap (λ (b : LogRead). b.ending) (answered ∙ ap read_answer s)) ∙ m)
        go (at before l after u why d e r s) =
            let f = same_refusal c (number why) n (u.lines + 1) (sym (ap (λ (b : LogRead). b.ending) (answered ∙ ap read_answer s)) ∙ m) in
            let g : u.lines ≡ 0 + length before = lines_counted before no_trace u e in
            let b : lines_of (flat before) ≡ before = taken_lines before no_trace u e in
            record {
              first = record {
                before = flat before;
                line = l;
                after = after;
                trace = u;
                accepted = lines_accepted before [] no_trace no_bytes u e;
                lines = d ∙ ap (λ (k : List (List ℕ)). k ++ (l ∷ after)) (sym b);
                number = omega (arith, f.1, g, ap length b);
              };
              why = (why, (r, f.0));
              state = ap (λ (b : LogRead). b.state) (answered ∙ ap read_answer s);
              pairs = worked ∙ ap (λ (k : Trace × Ending). work_of lay k.0 w) s;
            }

    first_byte : (k : ℕ) (u : Trace) → k < length (lines_of log) → steps (next no_trace) (take (suc k) (lines_of log)) ≡ next u → k < length out
        → get_or z.2 k 0 ≡ verdict_byte (verdict_of u (formula_of file x))
    first_byte k u h e r =
        let s : 0 + k ≡ k = omega arith in
        subst (λ (j : ℕ). get_or z.2 j 0 ≡ verdict_byte (verdict_of u (formula_of file x))) s (line_byte lay file x w k (lines_of log) no_trace out u h e (omega arith))

    line_room_lem : (k : ℕ) (u : Trace) → k < length (lines_of log) → steps (next no_trace) (take (suc k) (lines_of log)) ≡ next u → k < length out
    line_room_lem k u h e =
        let b = accepted-bounded _ u (lines_accepted (take (suc k) (lines_of log)) [] no_trace no_bytes u e) in
        let g : u.lines ≡ 0 + length (take (suc k) (lines_of log)) = lines_counted (take (suc k) (lines_of log)) no_trace u e in
        omega (arith, b.lines, g, length-take-le (suc k) (lines_of log) h, room)

    pub log_means : LogMeans lay file x log w out a v o
    log_means =
        record {
          whole = whole_log;
          stops = stopped_log;
          verdicts = λ k u h e. record {
            byte = ap (λ (b : Result). get_or b.2 k 0) is ∙ first_byte k u h e (line_room_lem k u h e);
            verdict = verdict_says file x ((reads_rule file (Ok x) (sym rule)).taken x refl) u;
          };
          rest = λ k h. ap (λ (b : Result). get_or b.2 k 0) is ∙ bytes_rest lay file x w (lines_of log) no_trace out k (omega (arith, h, ap (λ (b : Result). b.0.state.lines.0) is));
          size = ap (λ (b : Result). length b.2) is ∙ bytes_size lay file x w (lines_of log) no_trace out;
        }

  pub checks_log : ChecksLog lay file log w out a v o
  checks_log = record { answer = answer; meaning = log_means }

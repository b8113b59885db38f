-- Reading all lines first and writing the verdict bytes afterwards gives what the lines give one after another. The lines that are
-- taken are an accepted log of their own; its timeline has the verdict of each of its first lines, and that is the byte of the line.
use Prim.Native.Nat.{ℕ, zero, suc, ◌+◌, ◌<◌, ◌≤◌}
use mathlib.Core.Path.{◌≡◌, refl, ap, sym, ◌∙◌}
use mathlib.Core.List.{List, [], ◌∷◌, ◌++◌}
use native.Mathlib.Omega.{arith}
use native.Mathlib.Numerals.{add-one}
use lib.ListN.{length, get_or, take, length-append}
use lib.Seq.{take-append-le, take-append_seam, ext_get_or}
use Rattle.lists.proofs.Lists.{append-nil}
use Rattle.lists.proofs.Cases.{either_lt, no_both}
use Rattle.refusals.specs.declared.Refusal.{Refusal}
use Rattle.lines.specs.Log.{lines_of, flat}
use Rattle.trace.specs.declared.Record.{Record}
use Rattle.trace.specs.Trace.{Trace, next, refused, no_trace, step, steps, Accepted}
use Rattle.trace.specs.Record.{record_of, Valid}
use Rattle.trace.proofs.Bounds.{accepted-bounded}
use Rattle.trace.proofs.Grown.{no_bytes}
use Rattle.rules.specs.declared.Rule.{Rule}
use Rattle.rules.specs.Rules.{formula_of}
use Rattle.logic.specs.declared.Verdict.{Verdict}
use Rattle.logic.specs.Verdict.{verdict_byte, Says}
use Rattle.timeline.specs.declared.Timeline.{Timeline}
use Rattle.timeline.specs.AllLines.{verdict_at, FitsRuns, JudgesAll, NotBehind, verdict_up_to, FindsFailing}
use Rattle.reading.specs.declared.Ending.TheVariants.{Read}
use Rattle.reading.specs.declared.LogRead.{LogRead}
use Rattle.reading.specs.Reading.{read_from, read_answer, read_into}
use Rattle.reading.proofs.Lines.{same_trace, after_line_lem, no_line, read_none, read_taken, lines_accepted, taken_lines, lines_counted, Ends, through, at, ends}
use Rattle.whole_log.specs.Log.{lines_from}
use Rattle.whole_log.specs.Written.{Written}
use Rattle.whole_log.specs.Repeated.{Result}
use Rattle.whole_log.proofs.Lines.{from_read}
use Rattle.whole_log.proofs.Prefixes.{line_byte, bytes_rest, bytes_size}
use Rattle.trace.proofs.Taken.{by_answer_lem}
use Rattle.pairs.specs.declared.Layout.{Layout}

-- the first of lines that are taken are taken
front-taken : (k : ℕ) (ls : List (List ℕ)) (t u : Trace) → steps (next t) ls ≡ next u → (v : Trace) × (steps (next t) (take k ls) ≡ next v)
front-taken zero ls t u e = (t, refl)
front-taken (suc k) [] t u e = (t, refl)
front-taken (suc k) (l ∷ ls) t u e =
    by_answer_lem t l
    (λ v p. let q = front-taken k ls v u (after_line_lem t v u l ls p e) in (q.0, ap (λ a. steps a (take k ls)) p ∙ q.1))
    (λ c p. no_line t u c l ls p e)

-- ── the lines that are taken ──
pub record TakenLines (ls : List (List ℕ)) (a : LogRead) : Type 0 where
  pub before : List (List ℕ)
  pub rest : List (List ℕ)
  pub trace : Trace
  pub lines : ls ≡ before ++ rest
  pub leave : steps (next no_trace) before ≡ next trace
  pub state : a.state ≡ record_of trace
  -- no more are taken
  pub stops : (k : ℕ) (v : Trace) → k ≤ length ls → steps (next no_trace) (take k ls) ≡ next v → k ≤ length before

-- behind a refused line none is taken
pub stopped-behind : {C : Type 0} (before : List (List ℕ)) (l : List ℕ) (after : List (List ℕ)) (t u : Trace) (c : Refusal) → steps (next t) before ≡ next u → step (next u) l ≡ refused c
    → (k : ℕ) (v : Trace) → length before < k → steps (next t) (take k (before ++ (l ∷ after))) ≡ next v → C
stopped-behind [] l after t u c e r zero v b f = absurd (omega arith)
stopped-behind [] l after t u c e r (suc k) v b f = no_line t v c l (take k after) (ap (λ (s : Trace). step (next s) l) (same_trace t u e) ∙ r) f
stopped-behind (m ∷ ms) l after t u c e r zero v b f = absurd (omega arith)
stopped-behind (m ∷ ms) l after t u c e r (suc k) v b f =
    by_answer_lem t m
    (λ s p. stopped-behind ms l after s u c (after_line_lem t s u m ms p e) r k v (omega arith) (after_line_lem t s v m (take k (ms ++ (l ∷ after))) p f))
    (λ d p. no_line t u d m ms p e)

-- lines that are taken are read to their end
pub read_steps : (ls : List (List ℕ)) (t u : Trace) → steps (next t) ls ≡ next u → read_from t ls ≡ (u, Read)
read_steps [] t u e = read_none t ∙ ap (λ (s : Trace). (s, Read)) (same_trace t u e)
read_steps (l ∷ ls) t u e =
    by_answer_lem t l
    (λ v p. read_taken t l ls v p ∙ read_steps ls v u (after_line_lem t v u l ls p e))
    (λ c p. no_line t u c l ls p e)

module _ (log : List ℕ) (a : LogRead) (got : a ≡ read_answer (read_from no_trace (lines_of log))) where
  pub taken_first : TakenLines (lines_of log) a
  taken_first = go (ends (lines_of log) no_trace)
    where
      go : Ends no_trace (lines_of log) (read_from no_trace (lines_of log)) → TakenLines (lines_of log) a
      go (through u e s) =
          record {
            before = lines_of log;
            rest = [];
            trace = u;
            lines = sym (append-nil (lines_of log));
            leave = e;
            state = ap (λ (b : LogRead). b.state) (got ∙ ap read_answer s);
            stops = λ k v h f. omega (arith, h);
          }
      go (at before l after u c d e r s) =
          record {
            before = before;
            rest = l ∷ after;
            trace = u;
            lines = d;
            leave = e;
            state = ap (λ (b : LogRead). b.state) (got ∙ ap read_answer s);
            stops = λ k v h f. either_lt (length before) k (λ b. stopped-behind before l after no_trace u c e r k v b (ap (λ (ms : List (List ℕ)). steps (next no_trace) (take k ms)) (sym d) ∙ f)) (λ b. b);
          }

  abbrev u : Trace
  u = taken_first.trace

  abbrev before : List (List ℕ)
  before = taken_first.before

  -- they are an accepted log, which leaves the record
  taken_log : Accepted (flat before) u
  taken_log = lines_accepted before [] no_trace no_bytes u taken_first.leave

  pub read_valid : Valid a.state
  read_valid = record { log = flat before; trace = u; accepted = taken_log; encoded = taken_first.state }

  state_lines : a.state.lines.0 ≡ u.lines
  unfolding record_of
  state_lines = ap (λ (x : Record). x.lines.0) taken_first.state

  pub read_lines_few : a.state.lines.0 ≤ 256
  read_lines_few = omega (arith, state_lines, (accepted-bounded (flat before) u taken_log).lines)

  count : u.lines ≡ length before
  count = let z = lines_counted before no_trace u taken_first.leave in omega arith

  pub lines_within : a.state.lines.0 ≤ length (lines_of log)
  lines_within = omega (arith, state_lines, count, ap length taken_first.lines, length-append before taken_first.rest)

  -- the first of the log's lines are the first of those taken
  first_same : (k : ℕ) → k ≤ u.lines → take k (lines_of log) ≡ take k before
  first_same k h = ap (take k) taken_first.lines ∙ take-append-le k before taken_first.rest (omega (arith, count))

  pub first_taken : (k : ℕ) → k ≤ a.state.lines.0 → (t : Trace) × (steps (next no_trace) (take k (lines_of log)) ≡ next t)
  first_taken k h =
      let f = front-taken k before no_trace u taken_first.leave in
      (f.0, ap (steps (next no_trace)) (first_same k (omega (arith, state_lines))) ∙ f.1)

  -- no more lines are taken
  pub taken_low : (k : ℕ) (t : Trace) → k ≤ length (lines_of log) → steps (next no_trace) (take k (lines_of log)) ≡ next t → k ≤ a.state.lines.0
  taken_low k t h e = omega (arith, state_lines, count, taken_first.stops k t h e)

  -- all lines that are taken
  pub all_taken : read_from no_trace (take a.state.lines.0 (lines_of log)) ≡ (u, Read)
  all_taken =
      let n : a.state.lines.0 ≡ length before = state_lines ∙ count in
      let e : take a.state.lines.0 (lines_of log) ≡ before =
      ap (λ (k : ℕ). take k (lines_of log)) n ∙ (ap (take (length before)) taken_first.lines ∙ take-append_seam before taken_first.rest) in
      ap (read_from no_trace) e ∙ read_steps before no_trace u taken_first.leave

  pub state_is : a.state ≡ record_of u
  state_is = taken_first.state

  module _ (file : List ℕ) (x : Rule) (k : ℕ) (t : Trace) (l : k ≤ a.state.lines.0) (first : steps (next no_trace) (take k (lines_of log)) ≡ next t) where
    low : k ≤ u.lines
    low = omega (arith, state_lines)

    leave : steps (next no_trace) (take k (lines_of (flat before))) ≡ next t
    leave =
        ap (λ (ls : List (List ℕ)). steps (next no_trace) (take k ls)) (taken_lines before no_trace u taken_first.leave)
        ∙ (ap (steps (next no_trace)) (sym (first_same k low)) ∙ first)

    pub judged_line : (y : Timeline) → JudgesAll file x a.state y → Says t (formula_of file x) (verdict_at y k)
    judged_line y j = j.says (flat before) u taken_log taken_first.state k t (omega arith) low (λ e. no_both (sym e)) leave

    pub found_line : (n : ℕ) → FindsFailing file x a.state n → 0 < k → NotBehind n k → Says t (formula_of file x) (verdict_up_to n k)
    found_line n j some h = j.says (flat before) u taken_log taken_first.state k t some low h leave

-- ── the bytes ──
module _ (lay : Layout) (log w : List ℕ) (a : LogRead) (v : List ℕ) (read : ◌≡◌ {A = LogRead × List ℕ} (a, v) (read_into lay (read_from no_trace (lines_of log)) w)) where
  got_state : a ≡ read_answer (read_from no_trace (lines_of log))
  got_state = ap (λ (z : LogRead × List ℕ). z.0) read

  pub log_valid : Valid a.state
  log_valid = read_valid log a got_state

  pub log_lines_few : a.state.lines.0 ≤ 256
  log_lines_few = read_lines_few log a got_state

  module _ (file : List ℕ) (x : Rule) (out : List ℕ) (room : 256 ≤ length out) (y : ℕ → Verdict)
      (j : (k : ℕ) (t : Trace) → 0 < k → k ≤ a.state.lines.0 → steps (next no_trace) (take k (lines_of log)) ≡ next t → Says t (formula_of file x) (y k))
      (o : List ℕ) (f : Written y a.state.lines.0 out o) where
    abbrev z : Result
    z = lines_from lay file x no_trace (lines_of log) w out

    line_is : (k : ℕ) → k < a.state.lines.0 → get_or o k 0 ≡ get_or z.2 k 0
    line_is k h =
        let first = first_taken log a got_state (suc k) (omega arith) in
        let t : Trace = first.0 in
        let says = j (k + 1) t (omega arith) (omega arith) (ap (λ (n : ℕ). steps (next no_trace) (take n (lines_of log))) (add-one k) ∙ first.1) in
        let few : 0 + k < length out = omega (arith, log_lines_few) in
        let more : k < length (lines_of log) = omega (arith, lines_within log a got_state) in
        let zero-add : 0 + k ≡ k = omega arith in
        f.bytes k h
        ∙ (ap verdict_byte says.answer
        ∙ sym (ap (λ (i : ℕ). get_or z.2 i 0) (sym zero-add) ∙ line_byte lay file x w k (lines_of log) no_trace out t more first.1 few))

    rest_is : (k : ℕ) → a.state.lines.0 ≤ k → get_or o k 0 ≡ get_or z.2 k 0
    rest_is k h =
        let e : z.0.state.lines.0 ≡ a.state.lines.0 =
        ap (λ (q : LogRead × List ℕ). q.0.state.lines.0) (from_read lay file x w (lines_of log) no_trace out ∙ sym read) in
        f.rest k h ∙ sym (bytes_rest lay file x w (lines_of log) no_trace out k (omega arith))

    bytes_are : o ≡ z.2
    bytes_are =
        ext_get_or 0 o z.2 (f.size ∙ sym (bytes_size lay file x w (lines_of log) no_trace out))
        (λ k h. either_lt k a.state.lines.0 (line_is k) (rest_is k))

    -- THE LAW: judging at once gives what judging line by line gives
    pub read_at_once : ◌≡◌ {A = LogRead × List ℕ × List ℕ} (a, v, o) (lines_from lay file x no_trace (lines_of log) w out)
    read_at_once = let q = read ∙ sym (from_read lay file x w (lines_of log) no_trace out) in λ i. ((q i).0, (q i).1, bytes_are i)

  pub judged_at_once : (file : List ℕ) (x : Rule) (out : List ℕ) → 256 ≤ length out → (y : Timeline) → JudgesAll file x a.state y
      → (o : List ℕ) → Written (verdict_at y) a.state.lines.0 out o
      → ◌≡◌ {A = LogRead × List ℕ × List ℕ} (a, v, o) (lines_from lay file x no_trace (lines_of log) w out)
  judged_at_once file x out room y j o f = read_at_once file x out room (verdict_at y) (λ k t s l e. judged_line log a got_state file x k t l e y j) o f

pub runs_fit : (file : List ℕ) (x : Rule) (r : Record) (y : Timeline) → JudgesAll file x r y → FitsRuns y
runs_fit file x r y j = j.fits

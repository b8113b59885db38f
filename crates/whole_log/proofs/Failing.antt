-- Reading all lines, finding the first that fails and reading the lines up to it gives what the lines through it give one after another.
use Prim.Native.Nat.{ℕ, ◌+◌, ◌<◌, ◌≤◌}
use mathlib.Core.Path.{◌≡◌, refl, ap, sym, ◌∙◌, subst}
use mathlib.Core.List.{List}
use native.Mathlib.Omega.{arith}
use lib.ListN.{length, take}
use lib.Seq.{length-take-le, take-take}
use borrow.Author.Tests.{eq-eqb, ne_eqb}
use Rattle.lists.proofs.Cases.{either_lt}
use Rattle.lines.specs.Log.{lines_of, flat}
use Rattle.trace.specs.Trace.{Trace, next, no_trace, steps}
use Rattle.trace.specs.Record.{record_of}
use Rattle.trace.proofs.Grown.{flat_lines}
use Rattle.pairs.specs.declared.Layout.{Layout}
use Rattle.pairs.specs.Pairs.{work_of, held_trace}
use Rattle.rules.specs.declared.Rule.{Rule}
use Rattle.rules.specs.Rules.{formula_of}
use Rattle.logic.specs.declared.Verdict.TheVariants.{Holds, Fails}
use Rattle.logic.specs.Verdict.{verdict_byte, verdict_of, Says}
use Rattle.timeline.specs.AllLines.{NotBehind, verdict_up_to, FindsFailing}
use Rattle.timeline.proofs.FirstLine.{up_to_there, up_to_before}
use Rattle.reading.specs.declared.Ending.TheVariants.{Read}
use Rattle.reading.specs.declared.LogRead.{LogRead}
use Rattle.reading.specs.Reading.{read_from, read_answer}
use Rattle.reading.proofs.Lines.{taken_lines, lines_counted}
use Rattle.reading.proofs.Reading.{read_few, read_filled}
use Rattle.whole_log.specs.Log.{lines_from}
use Rattle.whole_log.specs.Part.{to_failure}
use Rattle.whole_log.specs.Written.{Written, first_or_all, EndsLines}
use Rattle.whole_log.proofs.Part.{not_both_verdicts, Through, cut, whole, through}
use Rattle.whole_log.proofs.WholeLog.{read_lines_few, first_taken, taken_low, lines_within, found_line, all_taken, state_is, read_steps, read_at_once}

-- ── the verdicts up to the first that fails ──
pub byte_fails_lem : (n k : ℕ) → k ≡ n → 0 ≡ verdict_byte (verdict_up_to n k)
byte_fails_lem n k e = simp (eq-eqb k n e)

pub byte_holds : (n k : ℕ) → (k ≡ n → ⊥) → 1 ≡ verdict_byte (verdict_up_to n k)
byte_holds n k d = simp (ne_eqb k n d)

first_of : (n : ℕ) (ls : List (List ℕ)) → 0 < n → first_or_all n ls ≡ take n ls
first_of n ls h = simp (ne_eqb n 0 (λ e. omega arith))

all_of : (n : ℕ) (ls : List (List ℕ)) → n ≡ 0 → first_or_all n ls ≡ ls
all_of n ls e = simp (eq-eqb n 0 e)

module _ (log : List ℕ) (a : LogRead) (got : a ≡ read_answer (read_from no_trace (lines_of log))) where
  abbrev ls : List (List ℕ)
  ls = lines_of log

  -- ── what is read of the first lines ──
  module _ (n : ℕ) (low : n ≤ a.state.lines.0) where
    abbrev ms : List (List ℕ)
    ms = first_or_all n ls

    -- they are the lines of their bytes
    part_lines : lines_of (flat ms) ≡ ms
    part_lines =
        either_lt 0 n
        (λ h. let f = first_taken log a got n low in subst (λ (ks : List (List ℕ)). lines_of (flat ks) ≡ ks) (sym (first_of n ls h)) (taken_lines (take n ls) no_trace f.0 f.1))
        (λ h. subst (λ (ks : List (List ℕ)). lines_of (flat ks) ≡ ks) (sym (all_of n ls (omega arith))) (ap lines_of (flat_lines log)))

    pub first_all : n ≡ 0 → a ≡ read_answer (read_from no_trace ms)
    first_all e = got ∙ ap (λ (ks : List (List ℕ)). read_answer (read_from no_trace ks)) (sym (all_of n ls e))

    pub first_last : (n ≡ 0 → ⊥) → n ≡ a.state.lines.0 → ◌≡◌ {A = LogRead} (record { state = a.state; ending = Read }) (read_answer (read_from no_trace ms))
    first_last d e =
        let h : ms ≡ take a.state.lines.0 ls = first_of n ls (omega arith) ∙ ap (λ (k : ℕ). take k ls) e in
        let s = state_is log a got in
        let r = ap read_answer (ap (read_from no_trace) h ∙ all_taken log a got) in
        (λ i. record { state = s i; ending = Read }) ∙ sym r

    pub first_again : (n ≡ 0 → ⊥) → (e : ℕ) → EndsLines log n e → (b : LogRead) → b ≡ read_answer (read_from no_trace (lines_of (take e log))) → b ≡ read_answer (read_from no_trace ms)
    first_again d e h b is =
        let g : ms ≡ take n ls = first_of n ls (omega arith) in
        let bytes : take e log ≡ flat ms = h.bytes ∙ ap flat (sym g) in
        is ∙ ap (λ (ks : List (List ℕ)). read_answer (read_from no_trace ks)) (ap lines_of bytes ∙ part_lines)

    same_part : (b : LogRead) → b ≡ read_answer (read_from no_trace ms) → b ≡ read_answer (read_from no_trace (lines_of (flat ms)))
    same_part b is = is ∙ ap (λ (ks : List (List ℕ)). read_answer (read_from no_trace ks)) (sym part_lines)

    pub part_few : (b : LogRead) → b ≡ read_answer (read_from no_trace ms) → b.state.runs.count ≤ 128
    part_few b is = read_few (flat ms) b (same_part b is)

    pub part_lines_few : (b : LogRead) → b ≡ read_answer (read_from no_trace ms) → b.state.lines.0 ≤ 256
    part_lines_few b is = read_lines_few (flat ms) b (same_part b is)

    -- and as many are read
    part_count : 0 < n → (b : LogRead) → b ≡ read_answer (read_from no_trace ms) → b.state.lines.0 ≡ n
    unfolding record_of
    part_count h b is =
        let f = first_taken log a got n low in
        let r : read_from no_trace ms ≡ (f.0, Read) = ap (read_from no_trace) (first_of n ls h) ∙ read_steps (take n ls) no_trace f.0 f.1 in
        let c : f.0.lines ≡ 0 + length (take n ls) = lines_counted (take n ls) no_trace f.0 f.1 in
        let s : b.state.lines.0 ≡ f.0.lines = ap (λ (z : LogRead). z.state.lines.0) (is ∙ ap read_answer r) in
        omega (arith, s, c, length-take-le n ls (omega (arith, lines_within log a got)))

  -- ── the part ──
  module _ (file : List ℕ) (x : Rule) (n : ℕ) (j : FindsFailing file x a.state n) where
    line_verdict : (k : ℕ) (t : Trace) → 0 < k → k ≤ length ls → NotBehind n k → steps (next no_trace) (take k ls) ≡ next t → Says t (formula_of file x) (verdict_up_to n k)
    line_verdict k t some h b e = found_line log a got file x k t (taken_low log a got k t h e) e n j some b

    -- the line that is found is the first that fails
    fails_there : 0 < n → (t : Trace) × (steps (next no_trace) (take n ls) ≡ next t) × (verdict_of t (formula_of file x) ≡ Fails)
    fails_there h =
        let f = first_taken log a got n j.low in
        (f.0, f.1, sym (line_verdict n f.0 h (omega (arith, j.low, lines_within log a got)) (λ _. omega arith) f.1).answer ∙ up_to_there n n refl)

    holds_there : (k : ℕ) (t : Trace) → 0 < k → k ≤ length ls → NotBehind n k → (k ≡ n → ⊥) → steps (next no_trace) (take k ls) ≡ next t → verdict_of t (formula_of file x) ≡ Holds
    holds_there k t some h b d e = sym (line_verdict k t some h b e).answer ∙ up_to_before n k d

    pub found_part : to_failure file x no_trace ls ≡ first_or_all n ls
    found_part = go (through file x ls no_trace)
      where
        go : Through file x no_trace ls (to_failure file x no_trace ls) → to_failure file x no_trace ls ≡ first_or_all n ls
        go (cut m u some h s f holds is) =
            either_lt m n
            (λ b. not_both_verdicts _ (holds_there m u some h (λ _. omega arith) (λ e. omega arith) s) f)
            (λ b.
            either_lt 0 n
            (λ p.
            let g = fails_there p in
            either_lt n m
            (λ l. not_both_verdicts _ (holds n g.0 p l g.1) g.2)
            (λ l. let e : m ≡ n = omega arith in is ∙ (ap (λ (k : ℕ). take k ls) e ∙ sym (first_of n ls p))))
            (λ p. not_both_verdicts _ (holds_there m u some h (λ q. absurd (omega arith)) (λ e. omega arith) s) f))
        go (whole is holds) =
            either_lt 0 n
            (λ p. let g = fails_there p in not_both_verdicts _ (holds n g.0 p (omega (arith, j.low, lines_within log a got)) g.1) g.2)
            (λ p. is ∙ sym (all_of n ls (omega arith)))

    -- each line of the part has its verdict
    part_verdict : (b : LogRead) → b ≡ read_answer (read_from no_trace (first_or_all n ls)) → (k : ℕ) (t : Trace) → 0 < k → k ≤ b.state.lines.0
        → steps (next no_trace) (take k (first_or_all n ls)) ≡ next t → Says t (formula_of file x) (verdict_up_to n k)
    part_verdict b is k t some h e =
        either_lt 0 n
        (λ p.
        let c : k ≤ n = omega (arith, part_count n j.low p b is) in
        let f : take k (first_or_all n ls) ≡ take k ls = ap (take k) (first_of n ls p) ∙ take-take k n ls c in
        found_line log a got file x k t (omega (arith, j.low)) (ap (steps (next no_trace)) (sym f) ∙ e) n j some (λ _. c))
        (λ p.
        let f : take k (first_or_all n ls) ≡ take k ls = ap (take k) (all_of n ls (omega arith)) in
        let same : b ≡ a = is ∙ sym (first_all n j.low (omega arith)) in
        let l : k ≤ a.state.lines.0 = omega (arith, ap (λ (z : LogRead). z.state.lines.0) same) in
        found_line log a got file x k t l (ap (steps (next no_trace)) (sym f) ∙ e) n j some (λ q. absurd (omega arith)))

    -- THE LAW: what is left is what the lines through the first that fails leave
    pub read_to_failing : (lay : Layout) (w out : List ℕ) → 256 ≤ length out → (b : LogRead) → b ≡ read_answer (read_from no_trace (first_or_all n ls))
        → (v : List ℕ) → v ≡ work_of lay (held_trace b.state) w → (o : List ℕ) → Written (verdict_up_to n) b.state.lines.0 out o
        → ◌≡◌ {A = LogRead × List ℕ × List ℕ} (b, v, o) (lines_from lay file x no_trace (to_failure file x no_trace ls) w out)
    read_to_failing lay w out room b is v filled o f =
        let e : lines_of (flat (first_or_all n ls)) ≡ first_or_all n ls = part_lines n j.low in
        read_at_once lay (flat (first_or_all n ls)) w b v (read_filled (flat (first_or_all n ls)) b (same_part n j.low b is) lay w v filled) file x out room (verdict_up_to n)
        (λ k t some h s. part_verdict b is k t some h (ap (λ (ks : List (List ℕ)). steps (next no_trace) (take k ks)) (sym e) ∙ s)) o f
        ∙ ap (λ (ks : List (List ℕ)). lines_from lay file x no_trace ks w out) (e ∙ sym found_part)

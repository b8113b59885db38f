-- What the proofs of demand 1 share: one refusal from another, and the line of a log that is the first to be refused.
use Prim.Native.Nat.{ℕ, ◌+◌}
use mathlib.Core.Path.{◌≡◌, refl, ap, sym, ◌∙◌}
use mathlib.Core.List.{List, [], ◌∷◌, ◌++◌}
use native.Mathlib.Omega.{arith}
use lib.ListN.{length, set}
use Rattle.refusals.specs.Refusal.{number}
use Rattle.lines.specs.Log.{lines_of, flat}
use Rattle.trace.specs.Trace.{Trace, Answer, next, refused, no_trace, step, steps, Accepted}
use Rattle.trace.proofs.Taken.{line_lines}
use Rattle.trace.proofs.Grown.{no_bytes}
use Rattle.pairs.specs.declared.Layout.{Layout}
use Rattle.pairs.specs.Pairs.{work_of}
use Rattle.rules.specs.declared.Rule.{Rule}
use Rattle.rules.specs.Rules.{formula_of}
use Rattle.logic.specs.declared.Verdict.{Verdict}
use Rattle.logic.specs.Verdict.{verdict_byte, verdict_of}
use Rattle.single.specs.declared.Outcome.TheVariants.{Refused}
use Rattle.reading.specs.declared.Ending.TheVariants as Ending
use Rattle.reading.specs.declared.LogRead.{LogRead}
use Rattle.single.specs.Line.{judged}
use Rattle.reading.specs.Reading.{ended, RefusedAs}
use Rattle.whole_log.specs.Log.{lines_from, LineAt}
use Rattle.whole_log.proofs.Lines.{from_none, from-taken, from_refused}
use Rattle.reading.proofs.Lines.{lines_accepted, taken_lines}

-- ── outcomes ──
pub same_refusal : (c d : ℕ) → Refused d ≡ Refused c → d ≡ c
same_refusal c d e = cc

pub not_judged : {C : Type 0} (v : Verdict) (c : ℕ) → judged v ≡ Refused c → C
not_judged Verdict.Holds c e = absurd (let z : ◌≡◌ {A = ℕ} 0 1 = cc in omega arith)
not_judged Verdict.Fails c e = absurd (let z : ◌≡◌ {A = ℕ} 0 1 = cc in omega arith)

-- ── the lines of a log ──
abbrev pub End : Type 0
End = LogRead × List ℕ × List ℕ

pub same_ending : (c d n m : ℕ) → Ending.Refused d m ≡ Ending.Refused c n → (d ≡ c) × (m ≡ n)
same_ending c d n m e = ((cc), (cc))

not_read_to_end : {C : Type 0} (c n : ℕ) → Ending.Read ≡ Ending.Refused c n → C
not_read_to_end c n e = absurd (let z : ◌≡◌ {A = ℕ} 0 1 = cc in omega arith)

module _ (lay : Layout) (file : List ℕ) (x : Rule) (w : List ℕ) where
  -- the lines from t on are refused with c at line n
  pub record Stopped (t : Trace) (ls : List (List ℕ)) (out : List ℕ) (c n : ℕ) : Type 0 where
    pub before : List (List ℕ)
    pub line : List ℕ
    pub after : List (List ℕ)
    pub trace : Trace
    pub out' : List ℕ
    pub lines : ls ≡ before ++ (line ∷ after)
    pub leaves : steps (next t) before ≡ next trace
    pub counted : trace.lines ≡ t.lines + length before
    pub at : n ≡ trace.lines + 1
    pub why : RefusedAs c (step (next trace) line)
    pub kept : lines_from lay file x t before w out ≡ (ended trace Ending.Read, work_of lay trace w, out')
    pub answer : lines_from lay file x t ls w out ≡ (ended trace (Ending.Refused c n), work_of lay trace w, out')

  next_out : Trace → Trace → List ℕ → List ℕ
  next_out t u out = set out t.lines (verdict_byte (verdict_of u (formula_of file x)))

  pub stops : (ls : List (List ℕ)) (t : Trace) (out : List ℕ) (c n : ℕ) → (lines_from lay file x t ls w out).0.ending ≡ Ending.Refused c n → Stopped t ls out c n
  unfolding next_out
  stops [] t out c n e = not_read_to_end c n (sym (ap (λ (a : End). a.0.ending) (from_none lay file x t w out)) ∙ e)
  stops (l ∷ ls) t out c n e = go (step (next t) l) refl (λ u q. stops ls u (next_out t u out) c n)
    where
      go : (a : Answer) → step (next t) l ≡ a
          → ((u : Trace) → step (next t) l ≡ next u → (lines_from lay file x u ls w (next_out t u out)).0.ending ≡ Ending.Refused c n → Stopped u ls (next_out t u out) c n) → Stopped t (l ∷ ls) out c n
      go (next u) q rest =
          let f = from-taken lay file x t l ls w out u q in
          let g : Stopped u ls (next_out t u out) c n = rest u q (sym (ap (λ (a : End). a.0.ending) f) ∙ e) in
          let m = line_lines t u l q in
          record {
            before = l ∷ g.before;
            line = g.line;
            after = g.after;
            trace = g.trace;
            out' = g.out';
            lines = ap (λ (z : List (List ℕ)). l ∷ z) g.lines;
            leaves = ap (λ (a : Answer). steps a g.before) q ∙ g.leaves;
            counted = omega (arith, g.counted);
            at = g.at;
            why = g.why;
            kept = from-taken lay file x t l g.before w out u q ∙ g.kept;
            answer = f ∙ g.answer;
          }
      go (refused d) q rest =
          let f = from_refused lay file x t l ls w out d q in
          let p = same_ending c (number d) n (t.lines + 1) (sym (ap (λ (a : End). a.0.ending) f) ∙ e) in
          record {
            before = [];
            line = l;
            after = ls;
            trace = t;
            out' = out;
            lines = refl;
            leaves = refl;
            counted = omega arith;
            at = sym p.1;
            why = (d, (q, p.0));
            kept = from_none lay file x t w out;
            answer = f ∙ (λ i. (ended t (Ending.Refused (p.0 i) (p.1 i)), work_of lay t w, out));
          }

  -- from no lines on, the lines before the refused one are an accepted log
  module _ (ls : List (List ℕ)) (out : List ℕ) (c n : ℕ) (g : Stopped no_trace ls out c n) where
    pub start_of : List ℕ
    start_of = flat g.before

    pub start_accepted : Accepted start_of g.trace
    unfolding start_of
    start_accepted = lines_accepted g.before [] no_trace no_bytes g.trace g.leaves

    pub start_lines : lines_of start_of ≡ g.before
    unfolding start_of
    start_lines = taken_lines g.before no_trace g.trace g.leaves

    pub start_divides : ls ≡ lines_of start_of ++ (g.line ∷ g.after)
    start_divides = g.lines ∙ ap (λ (z : List (List ℕ)). z ++ (g.line ∷ g.after)) (sym start_lines)

    pub start_number : n ≡ length (lines_of start_of) + 1
    start_number = omega (arith, g.at, g.counted, ap length start_lines)

  unfoldable pub first_refused : (log out : List ℕ) (c n : ℕ) → Stopped no_trace (lines_of log) out c n → LineAt log n
  first_refused log out c n g =
      record {
        before = start_of (lines_of log) out c n g;
        line = g.line;
        after = g.after;
        trace = g.trace;
        lines = start_divides (lines_of log) out c n g;
        accepted = start_accepted (lines_of log) out c n g;
        number = start_number (lines_of log) out c n g;
      }

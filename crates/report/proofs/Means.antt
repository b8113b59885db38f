-- What the printed text says of the log: its lines are those of the accepted lines, then that of the refusal, if there is one, and
-- the tally. Each piece of the text ends in its only LF, so it is one line of the text.
use Prim.Native.Nat.{ℕ, zero, suc, ◌+◌, ◌<◌}
use mathlib.Core.Path.{◌≡◌, ap, sym, ◌∙◌}
use mathlib.Core.Logic.{◌≢◌}
use mathlib.Core.List.{List, [], ◌∷◌, ◌++◌, append_assoc}
use native.Mathlib.Omega.{arith}
use lib.ListN.{length, get_or, take, drop}
use Rattle.lists.proofs.Lists.{append-nil, Free, free_more}
use Rattle.refusals.specs.declared.Refusal.{Refusal}
use Rattle.refusals.specs.Refusal.{number}
use Rattle.lines.specs.Log.{lines_of}
use Rattle.trace.specs.Trace.{Trace, next, refused, no_trace, steps, read, Accepted, step}
use Rattle.trace.proofs.Taken.{line_lines}
use Rattle.trace.proofs.Grown.{WholeLine, whole_first}
use Rattle.rules.specs.declared.Rule.{Rule}
use Rattle.rules.specs.Rules.{formula_of, Taken}
use Rattle.logic.specs.declared.Verdict.{Verdict}
use Rattle.logic.specs.declared.Verdict.TheVariants.{Holds, Fails}
use Rattle.logic.specs.Verdict.{verdict_of}
use Rattle.tallies.specs.declared.Tally.{Tally}
use Rattle.tallies.specs.Tally.{tally_of, failed, failing_from, tally_after}
use Rattle.trace.proofs.Taken.{by_answer_lem}
use Rattle.single.proofs.LineMeans.{verdict_says}
use Rattle.reading.proofs.Lines.{same_trace, after_line_lem, no_line, lines_counted}
use Rattle.tallies.proofs.Failing.{fails-taken, fails_none}
use Rattle.text_pieces.specs.Pieces.{decimal, refused_text, count_text}
use Rattle.report.specs.Text.{letter, line_text, tally_text, text_from}
use Rattle.report.specs.Report.{TextMeans}
use Rattle.text_pieces.proofs.Decimal.{decimal_free}
use Rattle.report.proofs.Printed.{text_none, text_taken, text_refused}

-- ── each piece is a line ──
count_free : (n : ℕ) → Free 10 (count_text n)
count_free n = ((λ e. omega arith), decimal_free n)

letter_free : (v : Verdict) → letter v ≢ 10
letter_free Holds e = omega arith
letter_free Fails e = omega arith

line_whole : (n : ℕ) (v : Verdict) → WholeLine (line_text n v)
line_whole n v =
    record {
      body = decimal n ++ (32 ∷ letter v ∷ []);
      is = sym (append_assoc (decimal n) (32 ∷ letter v ∷ []) (10 ∷ []));
      free = free_more 10 (decimal n) (32 ∷ letter v ∷ []) (decimal_free n) ((λ e. omega arith), (letter_free v, tt));
    }

refused_whole : (n c : ℕ) → WholeLine (refused_text n c)
unfolding refused_text
refused_whole n c =
    record {
      body = decimal n ++ (32 ∷ 82 ∷ decimal c);
      is = sym (append_assoc (decimal n) (32 ∷ 82 ∷ decimal c) (10 ∷ []));
      free = free_more 10 (decimal n) (32 ∷ 82 ∷ decimal c) (decimal_free n) ((λ e. omega arith), ((λ e. omega arith), decimal_free c));
    }

tally_whole : (y : Tally) → WholeLine (tally_text y)
unfolding tally_text
tally_whole y =
    let a : List ℕ = count_text y.lines in
    let b : List ℕ = count_text y.begun in
    let c : List ℕ = count_text y.finished in
    let d : List ℕ = count_text y.running in
    let e : List ℕ = count_text y.failing in
    record {
      body = 84 ∷ a ++ (b ++ (c ++ (d ++ e)));
      is = sym (simp append_assoc);
      free = ((λ q. omega arith), free_more 10 a _ (count_free y.lines) (free_more 10 b _ (count_free y.begun) (free_more 10 c _ (count_free y.finished) (free_more 10 d e (count_free y.running) (count_free y.failing)))));
    }

line_alone : (l : List ℕ) → WholeLine l → lines_of l ≡ l ∷ []
line_alone l w = ap lines_of (sym (append-nil l)) ∙ whole_first l w []

module _ (file : List ℕ) (x : Rule) where
  -- the verdict after the lines that u stands for
  abbrev verdict : Trace → Verdict
  verdict u = verdict_of u (formula_of file x)

  -- ── the lines of the text ──
  lines_none : (t : Trace) (n : ℕ) → lines_of (text_from file x t n []) ≡ tally_text (tally_of t n) ∷ []
  lines_none t n = ap lines_of (text_none file x t n) ∙ line_alone (tally_text (tally_of t n)) (tally_whole (tally_of t n))

  module _ (t : Trace) (n : ℕ) (l : List ℕ) (ls : List (List ℕ)) where
    lines_taken : (u : Trace) → step (next t) l ≡ next u → lines_of (text_from file x t n (l ∷ ls)) ≡ line_text u.lines (verdict u) ∷ lines_of (text_from file x u (n + failed (verdict u)) ls)
    lines_taken u p = ap lines_of (text_taken file x t n l ls u p) ∙ whole_first (line_text u.lines (verdict u)) (line_whole u.lines (verdict u)) _

    lines_refused : (c : Refusal) → step (next t) l ≡ refused c → lines_of (text_from file x t n (l ∷ ls)) ≡ refused_text (t.lines + 1) (number c) ∷ tally_text (tally_of t n) ∷ []
    lines_refused c p =
        ap lines_of (text_refused file x t n l ls c p)
        ∙ (whole_first (refused_text (t.lines + 1) (number c)) (refused_whole (t.lines + 1) (number c)) _
        ∙ ap (λ (z : List (List ℕ)). refused_text (t.lines + 1) (number c) ∷ z) (line_alone (tally_text (tally_of t n)) (tally_whole (tally_of t n))))

  -- ── the line of an accepted line ──
  line_said : (k : ℕ) (ls : List (List ℕ)) (t : Trace) (n : ℕ) (u : Trace) → k < length ls → steps (next t) (take (suc k) ls) ≡ next u
      → get_or (lines_of (text_from file x t n ls)) k [] ≡ line_text (t.lines + suc k) (verdict u)
  line_said k [] t n u h e = absurd (omega arith)
  line_said zero (l ∷ ls) t n u h e =
      let p : step (next t) l ≡ next u = e in
      ap (λ (z : List (List ℕ)). get_or z 0 []) (lines_taken t n l ls u p) ∙ ap (λ (m : ℕ). line_text m (verdict u)) (line_lines t u l p)
  line_said (suc k) (l ∷ ls) t n u h e =
      by_answer_lem t l
      (λ v p.
      let m : v.lines + suc k ≡ t.lines + suc (suc k) = omega (arith, line_lines t v l p) in
      ap (λ (z : List (List ℕ)). get_or z (suc k) []) (lines_taken t n l ls v p)
      ∙ (line_said k ls v (n + failed (verdict v)) u (omega arith) (after_line_lem t v u l (take (suc k) ls) p e) ∙ ap (λ (j : ℕ). line_text j (verdict u)) m))
      (λ c p. no_line t u c l (take (suc k) ls) p e)

  -- ── what follows the lines of accepted lines ──
  rest_said : (before rest : List (List ℕ)) (t : Trace) (n : ℕ) (u : Trace) → steps (next t) before ≡ next u
      → drop (length before) (lines_of (text_from file x t n (before ++ rest))) ≡ lines_of (text_from file x u (n + failing_from file x t before) rest)
  rest_said [] rest t n u e =
      let m : n ≡ n + failing_from file x t [] = omega (arith, fails_none file x t) in
      (λ i. lines_of (text_from file x (same_trace t u e i) (m i) rest))
  rest_said (l ∷ before) rest t n u e =
      by_answer_lem t l
      (λ v p.
      let m : n + failed (verdict v) + failing_from file x v before ≡ n + failing_from file x t (l ∷ before) = omega (arith, fails-taken file x t v l before p) in
      ap (drop (suc (length before))) (lines_taken t n l (before ++ rest) v p)
      ∙ (rest_said before rest v (n + failed (verdict v)) u (after_line_lem t v u l before p e) ∙ ap (λ (j : ℕ). lines_of (text_from file x u j rest)) m))
      (λ c p. no_line t u c l before p e)

  -- THE LAW: what the text of a log says
  module _ (taken : Taken file x) (log : List ℕ) where
    stop_said : (before : List (List ℕ)) (last : List ℕ) (after : List (List ℕ)) (t : Trace) (c : Refusal) → lines_of log ≡ before ++ (last ∷ after)
        → steps (next no_trace) before ≡ next t → step (next t) last ≡ refused c
        → drop (length before) (lines_of (text_from file x no_trace 0 (lines_of log)))
        ≡ refused_text (length before + 1) (number c) ∷ tally_text (tally_of t (failing_from file x no_trace before)) ∷ []
    stop_said before last after t c d e p =
        let f : ℕ = failing_from file x no_trace before in
        let m : t.lines ≡ 0 + length before = lines_counted before no_trace t e in
        let a : t.lines + 1 ≡ length before + 1 = omega arith in
        let z : 0 + f ≡ f = omega arith in
        ap (λ (ls : List (List ℕ)). drop (length before) (lines_of (text_from file x no_trace 0 ls))) d
        ∙ (rest_said before (last ∷ after) no_trace 0 t e
        ∙ (lines_refused t (0 + f) last after c p ∙ (λ i. refused_text (a i) (number c) ∷ tally_text (tally_of t (z i)) ∷ [])))

    whole_said : (t : Trace) → Accepted log t → drop (length (lines_of log)) (lines_of (text_from file x no_trace 0 (lines_of log))) ≡ tally_text (tally_after file x log t) ∷ []
    unfolding tally_after read
    whole_said t a =
        let f : ℕ = failing_from file x no_trace (lines_of log) in
        let z : 0 + f ≡ f = omega arith in
        ap (λ (ls : List (List ℕ)). drop (length (lines_of log)) (lines_of (text_from file x no_trace 0 ls))) (sym (append-nil (lines_of log)))
        ∙ (rest_said (lines_of log) [] no_trace 0 t a.leaves ∙ (lines_none t (0 + f) ∙ ap (λ (j : ℕ). tally_text (tally_of t j) ∷ []) z))

    pub text_means : TextMeans file x log (text_from file x no_trace 0 (lines_of log))
    text_means =
        record {
          lines = λ k u h e. record {
            verdict = verdict u;
            says = verdict_says file x taken u;
            text = line_said k (lines_of log) no_trace 0 u h e ∙ ap (λ (m : ℕ). line_text m (verdict u)) (let z : 0 + suc k ≡ suc k = omega arith in z);
          };
          stops = stop_said;
          whole = whole_said;
        }

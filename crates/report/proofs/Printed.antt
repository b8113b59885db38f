-- The printed text, line by line, and why a record with its verdict bytes gives it: the bytes that a whole-log call leaves are, from
-- the count of the lines before on, those of the verdicts that the text shows.
use Prim.Native.Nat.{ℕ, suc, ◌+◌, ◌<◌, ◌≤◌}
use mathlib.Core.Path.{◌≡◌, refl, ap, sym, ◌∙◌, subst}
use mathlib.Core.List.{List, [], ◌∷◌, ◌++◌, append_assoc}
use native.Mathlib.Omega.{arith}
use native.Mathlib.Numerals.{add-one}
use lib.ListN.{length, get_or, set, length-set}
use borrow.Author.Tests.{ne_eqb}
use Rattle.refusals.specs.declared.Refusal.{Refusal}
use Rattle.refusals.specs.Refusal.{number}
use Rattle.lines.specs.Line.{event_of}
use Rattle.trace.specs.Trace.{Trace, Answer, next, refused, step}
use Rattle.trace.specs.Record.{record_of, Bounded}
use Rattle.trace.proofs.Taken.{line_lines, line_event}
use Rattle.trace.proofs.Bounds.{Sound, sound_step, sound_bounded}
use Rattle.rules.specs.declared.Rule.{Rule}
use Rattle.rules.specs.Rules.{formula_of}
use Rattle.logic.specs.declared.Verdict.{Verdict}
use Rattle.logic.specs.declared.Verdict.TheVariants.{Holds, Fails}
use Rattle.logic.specs.Verdict.{verdict_byte, verdict_of}
use Rattle.reading.specs.Reading.{by_answer}
use Rattle.whole_log.specs.Log.{lines_from}
use Rattle.tallies.specs.Tally.{tally_of, failed}
use Rattle.whole_log.specs.Repeated.{Result}
use Rattle.trace.proofs.Taken.{by_answer_lem}
use Rattle.pairs.specs.declared.Layout.{Layout}
use Rattle.whole_log.proofs.Lines.{from_none, from-taken, from_refused}
use Rattle.whole_log.proofs.Prefixes.{line_byte}
use Rattle.text_pieces.specs.Pieces.{letter_line, refused_text}
use Rattle.report.specs.Text.{letter, line_text, tally_text, text_from}
use Rattle.text_pieces.specs.Writing.{byte_letter, LineLow}
use Rattle.report.specs.RecordText.{byte_fails, lines_to, fails_to, record_text}

-- ── verdict bytes ──
letter_byte : (v : Verdict) → byte_letter (verdict_byte v) ≡ letter v
letter_byte Holds = refl
letter_byte Fails = refl

fails_byte : (v : Verdict) → byte_fails (verdict_byte v) ≡ failed v
fails_byte Holds = refl
fails_byte Fails = refl

lines_suc : (b : List ℕ) (k : ℕ) → lines_to b (suc k) ≡ lines_to b k ++ letter_line (suc k) (byte_letter (get_or b k 0))
unfolding lines_to
lines_suc b k = refl

fails_suc : (b : List ℕ) (k : ℕ) → fails_to b (suc k) ≡ fails_to b k + byte_fails (get_or b k 0)
unfolding fails_to
fails_suc b k = refl

module _ (file : List ℕ) (x : Rule) where
  -- the verdict after the lines that u stands for
  abbrev verdict : Trace → Verdict
  verdict u = verdict_of u (formula_of file x)

  -- ── the text, line by line ──
  pub text_none : (t : Trace) (n : ℕ) → text_from file x t n [] ≡ tally_text (tally_of t n)
  unfolding text_from
  text_none t n = refl

  module _ (t : Trace) (n : ℕ) (l : List ℕ) (ls : List (List ℕ)) where
    pub text_taken : (u : Trace) → step (next t) l ≡ next u → text_from file x t n (l ∷ ls) ≡ line_text u.lines (verdict u) ++ text_from file x u (n + failed (verdict u)) ls
    unfolding text_from by_answer
    text_taken u p =
        ap (λ (a : Answer). by_answer {A = List ℕ} a
        (λ u. line_text u.lines (verdict u) ++ text_from file x u (n + failed (verdict u)) ls)
        (λ c. refused_text (t.lines + 1) c ++ tally_text (tally_of t n))) p

    pub text_refused : (c : Refusal) → step (next t) l ≡ refused c → text_from file x t n (l ∷ ls) ≡ refused_text (t.lines + 1) (number c) ++ tally_text (tally_of t n)
    unfolding text_from by_answer
    text_refused c p =
        ap (λ (a : Answer). by_answer {A = List ℕ} a
        (λ u. line_text u.lines (verdict u) ++ text_from file x u (n + failed (verdict u)) ls)
        (λ c. refused_text (t.lines + 1) c ++ tally_text (tally_of t n))) p

  -- ── the record's text is that text ──
  module _ (lay : Layout) (w : List ℕ) where
    -- what a whole-log call leaves after the lines that t stands for and the lines ls: its record and verdict bytes give the text
    pub record Printed (t : Trace) (ls : List (List ℕ)) (z : Result) : Type 0 where
      pub trace : Trace
      pub bounded : Bounded trace
      pub state : z.0.state ≡ record_of trace
      pub line : LineLow z.0.ending
      pub text : lines_to z.2 t.lines ++ text_from file x t (fails_to z.2 t.lines) ls ≡ record_text trace z.0.ending z.2

    printed_none : (t : Trace) (out : List ℕ) → Sound t → Printed t [] (lines_from lay file x t [] w out)
    unfolding record_text
    printed_none t out s =
        subst (Printed t []) (sym (from_none lay file x t w out))
        (record {
          trace = t;
          bounded = sound_bounded t s;
          state = refl;
          line = tt;
          text = ap (λ (k : List ℕ). lines_to out t.lines ++ k) (text_none t (fails_to out t.lines));
        })

    module _ (t : Trace) (l : List ℕ) (ls : List (List ℕ)) (out : List ℕ) (s : Sound t) where
      printed_refused : (c : Refusal) → step (next t) l ≡ refused c → Printed t (l ∷ ls) (lines_from lay file x t (l ∷ ls) w out)
      unfolding record_text
      printed_refused c p =
          let b = sound_bounded t s in
          subst (Printed t (l ∷ ls)) (sym (from_refused lay file x t l ls w out c p))
          (record {
            trace = t;
            bounded = b;
            state = refl;
            line = omega (arith, b.lines);
            text = simp (ne_eqb (t.lines + 1) 0 (λ e. omega arith)) (ap (λ (k : List ℕ). lines_to out t.lines ++ k) (text_refused t (fails_to out t.lines) l ls c p));
          })

      -- the line's text is that of its verdict byte
      line_printed : (u : Trace) → step (next t) l ≡ next u → (b : List ℕ) → get_or b t.lines 0 ≡ verdict_byte (verdict u)
          → lines_to b t.lines ++ text_from file x t (fails_to b t.lines) (l ∷ ls) ≡ lines_to b u.lines ++ text_from file x u (fails_to b u.lines) ls
      line_printed u p b e =
          let k : ℕ = t.lines in
          let n : suc k ≡ u.lines = sym (line_lines t u l p ∙ add-one k) in
          let f : fails_to b k + failed (verdict u) ≡ fails_to b u.lines =
          sym (sym (ap (fails_to b) n) ∙ (fails_suc b k ∙ ap (λ (m : ℕ). fails_to b k + m) (ap byte_fails e ∙ fails_byte (verdict u)))) in
          let g : lines_to b u.lines ≡ lines_to b k ++ line_text u.lines (verdict u) =
          sym (ap (lines_to b) n)
          ∙ (lines_suc b k
          ∙ ((λ i. lines_to b k ++ letter_line (n i) (byte_letter (e i))) ∙ ap (λ (c : ℕ). lines_to b k ++ letter_line u.lines c) (letter_byte (verdict u)))) in
          ap (λ (z : List ℕ). lines_to b k ++ z) (text_taken t (fails_to b k) l ls u p)
          ∙ (sym (append_assoc (lines_to b k) (line_text u.lines (verdict u)) _) ∙ (λ i. sym g i ++ text_from file x u (f i) ls))

      first_byte : (u : Trace) → step (next t) l ≡ next u → t.lines < length out → get_or (lines_from lay file x t (l ∷ ls) w out).2 t.lines 0 ≡ verdict_byte (verdict u)
      first_byte u p h =
          let z : t.lines + 0 ≡ t.lines = omega arith in
          subst (λ (k : ℕ). get_or (lines_from lay file x t (l ∷ ls) w out).2 k 0 ≡ verdict_byte (verdict u)) z
          (line_byte lay file x w 0 (l ∷ ls) t out u (omega arith) p (omega arith))

      printed-taken : (u : Trace) → step (next t) l ≡ next u → t.lines < length out
          → Printed u ls (lines_from lay file x u ls w (set out t.lines (verdict_byte (verdict u)))) → Printed t (l ∷ ls) (lines_from lay file x t (l ∷ ls) w out)
      printed-taken u p h r =
          let z : Result = lines_from lay file x t (l ∷ ls) w out in
          let q : Printed u ls z = subst (Printed u ls) (sym (from-taken lay file x t l ls w out u p)) r in
          record {
            trace = q.trace;
            bounded = q.bounded;
            state = q.state;
            line = q.line;
            text = line_printed u p z.2 (first_byte u p h) ∙ q.text;
          }

    -- THE LAW: the record and the verdict bytes that are left give the printed text
    pub printed : (ls : List (List ℕ)) (t : Trace) (out : List ℕ) → Sound t → 256 ≤ length out → Printed t ls (lines_from lay file x t ls w out)
    printed [] t out s h = printed_none t out s
    printed (l ∷ ls) t out s h =
        by_answer_lem t l
        (λ u p.
        let v : Sound u = sound_step t u (event_of l) s (line_event t u l p) in
        let b = sound_bounded u v in
        let n : t.lines < length out = omega (arith, b.lines, line_lines t u l p) in
        let m : 256 ≤ length (set out t.lines (verdict_byte (verdict u))) = omega (arith, length-set out t.lines (verdict_byte (verdict u))) in
        printed-taken t l ls out s u p n (printed ls u (set out t.lines (verdict_byte (verdict u))) v m))
        (λ c p. printed_refused t l ls out s c p)

-- The first 600 bytes of a rule file and the first 8,192 of a log decide what is to be printed. Of a log: at each place that the walk
-- reaches, the log and its first bytes show the same line. Of a rule file: a longer one than 599 bytes is refused, and its first 600
-- bytes are refused with the same number.
use Rattle.std.specs.Prelude.{Some, None, Ok, Err}
use Prim.Native.Nat.{ℕ, zero, suc, ◌+◌, ◌-◌, ◌<◌, ◌≤◌}
use mathlib.Core.Path.{◌≡◌, refl, ap, sym, subst, ◌∙◌}
use mathlib.Core.List.{List, ◌∷◌, ◌++◌}
use native.Mathlib.Omega.{arith}
use lib.ListN.{length, take, drop, length-take}
use lib.Seq.{take-add, take_all}
use Rattle.lists.proofs.Cases.{either_lt}
use Rattle.refusals.specs.declared.Refusal.TheVariants.{LineForm}
use Rattle.refusals.specs.Refusal.{number}
use Rattle.lines.specs.Event.{faulty}
use Rattle.lines.specs.Line.{event_of}
use Rattle.lines.specs.Log.{lines_of, next_line, Next}
use Rattle.lines.proofs.Log.{Handed, line_is_handed_out, done_means_no_lines, Spoilt, refused_line_is_faulty}
use Rattle.trace.specs.Trace.{Trace, no_trace, Accepted}
use Rattle.trace.proofs.Grown.{taken_grows, no_bytes}
use Rattle.trace.proofs.Size.{accepted-short}
use Rattle.trace.proofs.Taken.{by_answer_lem, line_faulty}
use Rattle.rules.specs.Formula.{Formula}
use Rattle.rules.proofs.Rules.{rule_taken}
use Rattle.rules.proofs.Cut.{first_bytes_decide_rule}
use Rattle.reading.specs.Turns.{line_between}
use Rattle.text_pieces.specs.Pieces.{refused_text}
use Rattle.whole_log.proofs.Cut.{next_cut, line_cut}
use Rattle.slip_form.specs.Form.{SlipForm}
use Rattle.log_slips.specs.Printed.{fail_text, slips_from, Shows}
use Rattle.log_slips.proofs.Walking.{slips_taken, slips_refused}

-- ── the log ──
module _ (log : List ℕ) (f : Formula) (s : SlipForm f) where
  abbrev cut : List ℕ
  cut = take 8192 log

  -- the text of the lines from a place on
  abbrev from : Trace → List (List ℕ) → List ℕ
  from t ls = slips_from f s t ls

  -- a first line that is refused with 11
  faulty-from : (t : Trace) (ls : List (List ℕ)) (l : List ℕ) (later : List (List ℕ)) → ls ≡ l ∷ later → event_of l ≡ faulty LineForm
      → from t ls ≡ refused_text (t.lines + 1) (number LineForm)
  faulty-from t ls l later e says = ap (from t) e ∙ slips_refused f s t l later LineForm (line_faulty t l LineForm says)

  -- from a place that is reached, both logs give the same; n places at most are left
  same_from : (n p : ℕ) (t : Trace) → length log - p < n → p ≤ length log → Accepted (take p log) t
      → from t (lines_of (drop p log)) ≡ from t (lines_of (drop p cut))
  same_from zero p t m h a = absurd (omega arith)
  same_from (suc n) p t m h a =
      let low : p ≤ 5248 = omega (arith, accepted-short (take p log) t a, length-take p log) in
      go low (next_line log p) refl (λ e u i j k. same_from n e u i j k)
    where
      go : p ≤ 5248 → (r : Next) → next_line log p ≡ r
          → ((e : ℕ) (u : Trace) → length log - e < n → e ≤ length log → Accepted (take e log) u
          → from u (lines_of (drop e log)) ≡ from u (lines_of (drop e cut)))
          → from t (lines_of (drop p log)) ≡ from t (lines_of (drop p cut))
      go low (Some (Ok span)) q rest =
          let i : ℕ = span.start in
          let e : ℕ = span.end in
          let x : Handed log p i e = line_is_handed_out log p i e q in
          let y : Handed cut p i e = line_is_handed_out cut p i e (next_cut log p low ∙ q) in
          let l : List ℕ = line_between log p e in
          let b : lines_of (drop p cut) ≡ l ∷ lines_of (drop e cut) = y.lines ∙ ap (λ (k : List ℕ). k ∷ lines_of (drop e cut)) (line_cut log p e y.within) in
          ap (from t) x.lines
          ∙ (by_answer_lem t l
          (λ u k.
          let grown : take e log ≡ take p log ++ l = (let c : e ≡ p + (e - p) = omega (arith, x.moves) in ap (λ (j : ℕ). take j log) c ∙ take-add p (e - p) log) in
          slips_taken f s t l (lines_of (drop e log)) u k
          ∙ (ap (λ (z : List ℕ). fail_text f s u ++ z)
          (rest e u (omega (arith, x.moves, x.within)) x.within (subst (λ (j : List ℕ). Accepted j u) (sym grown) (taken_grows (take p log) t a l u k)))
          ∙ sym (slips_taken f s t l (lines_of (drop e cut)) u k)))
          (λ c k. slips_refused f s t l (lines_of (drop e log)) c k ∙ sym (slips_refused f s t l (lines_of (drop e cut)) c k))
          ∙ ap (from t) (sym b))
      go low (Some (Err c)) q rest =
          let x : Spoilt log p c = refused_line_is_faulty log p c q in
          let y : Spoilt cut p c = refused_line_is_faulty cut p c (next_cut log p low ∙ q) in
          faulty-from t (lines_of (drop p log)) x.line x.later x.lines x.says
          ∙ sym (faulty-from t (lines_of (drop p cut)) y.line y.later y.lines y.says)
      go low None q rest = ap (from t) (done_means_no_lines log p q ∙ sym (done_means_no_lines cut p (next_cut log p low ∙ q)))

  log_cut : slips_from f s no_trace (lines_of (take 8192 log)) ≡ slips_from f s no_trace (lines_of log)
  log_cut = sym (same_from (suc (length log)) 0 no_trace (omega arith) (omega arith) no_bytes)

shows_log : (file log text : List ℕ) → Shows file (take 8192 log) text → Shows file log text
shows_log file log text h =
    record {
      refused = h.refused;
      other_form = h.other_form;
      slips = λ x p f. h.slips x p f ∙ log_cut log _ f;
    }

-- ── the rule file ──
shows_rule : (file log text : List ℕ) → Shows (take 600 file) log text → Shows file log text
shows_rule file log text h =
    either_lt (length file) 600
    (λ k. subst (λ (z : List ℕ). Shows z log text) (take_all 600 file (omega arith)) h)
    (λ k. record {
      refused = λ c p. h.refused c (first_bytes_decide_rule file ∙ p);
      other_form = λ x p _. absurd (omega (arith, (rule_taken file x p).size));
      slips = λ x p _. absurd (omega (arith, (rule_taken file x p).size));
    })

-- THE LAW: nothing past the first 600 bytes of a rule file and the first 8,192 of a log changes what is to be printed.
pub first_bytes_decide : (file log text : List ℕ) → Shows (take 600 file) (take 8192 log) text → Shows file log text
first_bytes_decide file log text h = shows_log file log text (shows_rule file (take 8192 log) text h)

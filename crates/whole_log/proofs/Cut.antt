-- "the first 8,192 bytes decide every answer": accepted lines fill at most 5,248 bytes, and the next line is looked for in 40 bytes
-- after them. So at each place that the reading reaches, the log and its first 8,192 bytes show the same line, the same refusal or
-- the same end.
use Rattle.std.specs.Prelude.{Some, None, Ok, Err}
use Prim.Native.Nat.{ℕ, zero, suc, ◌+◌, ◌-◌, ◌<◌, ◌≤◌}
use mathlib.Core.Path.{◌≡◌, refl, ap, sym, ◌∙◌, subst}
use mathlib.Core.Bool.{cond, ◌||◌}
use mathlib.Core.List.{List, [], ◌∷◌, ◌++◌, append_assoc}
use native.Mathlib.Omega.{arith}
use lib.Dec.{eqb, ltb}
use lib.ListN.{length, take, drop, set, length-take, take-append-drop}
use lib.Seq.{take-add, take-take, take_all, take-append-add, take-nil, drop-nil}
use borrow.Author.Tests.{lt-ltb, le-ltb}
use Rattle.lists.proofs.Cases.{either_lt}
use Rattle.refusals.specs.declared.Refusal.TheVariants.{LineForm}
use Rattle.lines.specs.Event.{faulty}
use Rattle.lines.specs.Line.{event_of}
use Rattle.lines.specs.Log.{lines_of, scan, next_line, Next, handed}
use Rattle.lines.proofs.Log.{Handed, line_is_handed_out, done_means_no_lines, Spoilt, refused_line_is_faulty}
use Rattle.trace.specs.Trace.{Trace, no_trace, Accepted}
use Rattle.trace.proofs.Grown.{taken_grows, no_bytes}
use Rattle.trace.proofs.Size.{accepted-short}
use Rattle.pairs.specs.declared.Layout.{Layout}
use Rattle.pairs.specs.Layout.{work_size}
use Rattle.pairs.specs.Pairs.{work_of}
use Rattle.rules.specs.declared.Rule.{Rule}
use Rattle.std.specs.Prelude.{Result, Ok, Err}
use Rattle.refusals.specs.declared.Refusal.{Refusal}
use Rattle.rules.specs.Rules.{rule_of, formula_of}
use Rattle.logic.specs.Verdict.{verdict_byte, verdict_of}
use Rattle.reading.specs.declared.Ending.TheVariants.{Refused}
use Rattle.single.specs.Line.{with_rule}
use Rattle.reading.specs.Reading.{ended}
use Rattle.whole_log.specs.declared.Mode.{Mode}
use Rattle.whole_log.specs.declared.Mode.TheVariants.{FirstFailure, Full}
use Rattle.whole_log.specs.Log.{not_read, lines_from, log_of}
use Rattle.whole_log.specs.Part.{read_part, EndsFailing, ToFailure, shortest, all}
use Rattle.whole_log.specs.Repeated.{Result as Whole}
use Rattle.reading.specs.Turns.{line_between}
use Rattle.trace.proofs.Taken.{by_answer_lem, line_faulty}
use Rattle.whole_log.proofs.Lines.{from-taken, from_refused}
use Rattle.whole_log.proofs.Part.{part_unruled, part_of_lem, one_part}

-- ── what is looked at ──
drop-take : (p m : ℕ) (l : List ℕ) → drop p (take m l) ≡ take (m - p) (drop p l)
drop-take zero m l = let z : m ≡ m - 0 = omega arith in ap (λ (k : ℕ). take k l) z
drop-take (suc p) zero l = let z : 0 ≡ 0 - suc p = omega arith in drop-nil (suc p) ∙ ap (λ (k : ℕ). take k (drop (suc p) l)) z
drop-take (suc p) (suc m) [] = sym (take-nil (suc m - suc p))
drop-take (suc p) (suc m) (b ∷ l) = let z : m - p ≡ suc m - suc p = omega arith in drop-take p m l ∙ ap (λ (k : ℕ). take k (drop p l)) z

-- a scan of n bytes looks at no more
scan-cut : (n start at m : ℕ) (s : List ℕ) → n ≤ m → scan n start at (take m s) ≡ scan n start at s
scan-cut zero start at m s h = refl
scan-cut (suc n) start at zero s h = absurd (omega arith)
scan-cut (suc n) start at (suc m) [] h = refl
scan-cut (suc n) start at (suc m) (b ∷ s) h =
    ap (λ (r : Next). cond (eqb b 10) (handed start (at + 1)) r) (scan-cut n start (at + 1) m s (omega arith))

module _ (log : List ℕ) where
  abbrev cut : List ℕ
  cut = take 8192 log

  -- before the cut the log goes on as its front does
  drop-cut : (p : ℕ) → drop p cut ≡ take (8192 - p) (drop p log)
  drop-cut p = drop-take p 8192 log

  pub next_cut : (p : ℕ) → p ≤ 5248 → next_line cut p ≡ next_line log p
  unfolding next_line
  next_cut p h =
      let d : drop p cut ≡ take (8192 - p) (drop p log) = drop-cut p in
      let l = length-take 8192 log in
      either_lt p (length log)
      (λ k.
      let k' : p < length cut = omega arith in
      simp (lt-ltb p (length log) k, lt-ltb p (length cut) k') (ap (scan 40 p p) d ∙ scan-cut 40 p p (8192 - p) (drop p log) (omega arith)))
      (λ k.
      let k' : length cut ≤ p = omega arith in
      simp (le-ltb p (length log) k, le-ltb p (length cut) k'))

  pub line_cut : (p e : ℕ) → e ≤ length cut → line_between cut p e ≡ line_between log p e
  line_cut p e h =
      let l = length-take 8192 log in
      ap (take (e - p)) (drop-cut p) ∙ take-take (e - p) (8192 - p) (drop p log) (omega arith)

  module _ (lay : Layout) (file : List ℕ) (x : Rule) (w : List ℕ) where
    -- a first line that is refused with 11
    faulty-from : (t : Trace) (out : List ℕ) (ls : List (List ℕ)) (l : List ℕ) (later : List (List ℕ)) → ls ≡ l ∷ later → event_of l ≡ faulty LineForm
        → lines_from lay file x t ls w out ≡ (ended t (Refused 11 (t.lines + 1)), work_of lay t w, out)
    faulty-from t out ls l later e says =
        ap (λ (k : List (List ℕ)). lines_from lay file x t k w out) e ∙ from_refused lay file x t l later w out LineForm (line_faulty t l LineForm says)

    -- from a place that is reached, both logs give the same; n places at most are left
    same_from : (n p : ℕ) (t : Trace) (out : List ℕ) → length log - p < n → p ≤ length log → Accepted (take p log) t
        → lines_from lay file x t (lines_of (drop p log)) w out ≡ lines_from lay file x t (lines_of (drop p cut)) w out
    same_from zero p t out m h a = absurd (omega arith)
    same_from (suc n) p t out m h a =
        let low : p ≤ 5248 = omega (arith, accepted-short (take p log) t a, length-take p log) in
        go low (next_line log p) refl (λ e u i j k. same_from n e u (set out t.lines (verdict_byte (verdict_of u (formula_of file x)))) i j k)
      where
        go : p ≤ 5248 → (r : Next) → next_line log p ≡ r
            → ((e : ℕ) (u : Trace) → length log - e < n → e ≤ length log → Accepted (take e log) u
            → lines_from lay file x u (lines_of (drop e log)) w (set out t.lines (verdict_byte (verdict_of u (formula_of file x))))
            ≡ lines_from lay file x u (lines_of (drop e cut)) w (set out t.lines (verdict_byte (verdict_of u (formula_of file x)))))
            → lines_from lay file x t (lines_of (drop p log)) w out ≡ lines_from lay file x t (lines_of (drop p cut)) w out
        go low (Some (Ok span)) q rest =
            let s : ℕ = span.start in
            let e : ℕ = span.end in
            let f : Handed log p s e = line_is_handed_out log p s e q in
            let g : Handed cut p s e = line_is_handed_out cut p s e (next_cut p low ∙ q) in
            let l : List ℕ = line_between log p e in
            let b : lines_of (drop p cut) ≡ l ∷ lines_of (drop e cut) = g.lines ∙ ap (λ (k : List ℕ). k ∷ lines_of (drop e cut)) (line_cut p e g.within) in
            let both : (ls : List (List ℕ)) (i : List (List ℕ)) → ls ≡ i → lines_from lay file x t ls w out ≡ lines_from lay file x t i w out = λ ls i e. ap (λ (k : List (List ℕ)). lines_from lay file x t k w out) e in
            both _ _ f.lines
            ∙ (by_answer_lem t l
            (λ u k.
            let grown : take e log ≡ take p log ++ l = (let c : e ≡ p + (e - p) = omega (arith, f.moves) in ap (λ (i : ℕ). take i log) c ∙ take-add p (e - p) log) in
            from-taken lay file x t l (lines_of (drop e log)) w out u k
            ∙ (rest e u (omega (arith, f.moves, f.within)) f.within (subst (λ (i : List ℕ). Accepted i u) (sym grown) (taken_grows (take p log) t a l u k))
            ∙ sym (from-taken lay file x t l (lines_of (drop e cut)) w out u k)))
            (λ c k. from_refused lay file x t l (lines_of (drop e log)) w out c k ∙ sym (from_refused lay file x t l (lines_of (drop e cut)) w out c k))
            ∙ both _ _ (sym b))
        go low (Some (Err c)) q rest =
            let f : Spoilt log p c = refused_line_is_faulty log p c q in
            let g : Spoilt cut p c = refused_line_is_faulty cut p c (next_cut p low ∙ q) in
            faulty-from t out (lines_of (drop p log)) f.line f.later f.lines f.says
            ∙ sym (faulty-from t out (lines_of (drop p cut)) g.line g.later g.lines g.says)
        go low None q rest =
            ap (λ (k : List (List ℕ)). lines_from lay file x t k w out) (done_means_no_lines log p q ∙ sym (done_means_no_lines cut p (next_cut p low ∙ q)))

-- THE LAW: nothing past the first 8,192 bytes of a log changes an answer.
pub first_bytes_decide : (lay : Layout) (file log w out : List ℕ) → log_of lay file log w out ≡ log_of lay file (take 8192 log) w out
unfolding log_of
first_bytes_decide lay file log w out =
    ap (λ (f : Rule → Whole). cond (ltb (length w) (work_size lay) || ltb (length out) 256) (not_read 20, w, out) (with_rule (rule_of file) (λ n. (not_read n, w, out)) f))
    (λ i x. same_from log lay file x w (suc (length log)) 0 no_trace out (omega arith) (omega arith) no_bytes i)

-- ── the part that is read ──
take-front : (n : ℕ) (p r : List ℕ) → length p ≤ n → take n (p ++ r) ≡ p ++ take (n - length p) r
take-front n p r h = let z : n ≡ length p + (n - length p) = omega arith in ap (λ (k : ℕ). take k (p ++ r)) z ∙ take-append-add p r (n - length p)

module _ (file : List ℕ) (x : Rule) (log : List ℕ) where
  abbrev short : List ℕ
  short = take 8192 log

  -- a front of the cut log is one of the log
  of_cut : (p : List ℕ) → EndsFailing file x short p → EndsFailing file x log p
  of_cut p q =
      record {
        rest = q.rest ++ drop 8192 log;
        divides = sym (take-append-drop 8192 log) ∙ (ap (λ (l : List ℕ). l ++ drop 8192 log) q.divides ∙ append_assoc p q.rest (drop 8192 log));
        some_line = q.some_line;
        trace = q.trace;
        accepted = q.accepted;
        fails = q.fails;
      }

  -- and an accepted front of the log is not cut
  low : (p : List ℕ) (q : EndsFailing file x log p) → length p ≤ 8192
  low p q = omega (arith, accepted-short p q.trace q.accepted)

  to_cut : (p : List ℕ) → EndsFailing file x log p → EndsFailing file x short p
  to_cut p q =
      record {
        rest = take (8192 - length p) q.rest;
        divides = ap (take 8192) q.divides ∙ take-front 8192 p q.rest (low p q);
        some_line = q.some_line;
        trace = q.trace;
        accepted = q.accepted;
        fails = q.fails;
      }

  cut-failing : (p : List ℕ) → ToFailure file x log p → ToFailure file x short (take 8192 p)
  cut-failing p (shortest q least) =
      subst (ToFailure file x short) (sym (take_all 8192 p (low p q))) (shortest (to_cut p q) (λ r s. least r (of_cut r s)))
  cut-failing p (all e none) = all (ap (take 8192) e) (λ r s. none r (of_cut r s))

-- both parts are cut alike
pub part_cut : (mode : Mode) (file log : List ℕ) → read_part mode file (take 8192 log) ≡ take 8192 (read_part mode file log)
unfolding read_part
part_cut Full file log = refl
part_cut FirstFailure file log = by_rule (rule_of file) refl
  where
    by_rule : (q : Result Rule Refusal) → rule_of file ≡ q → read_part FirstFailure file (take 8192 log) ≡ take 8192 (read_part FirstFailure file log)
    by_rule (Err c) e = part_unruled FirstFailure file (take 8192 log) c e ∙ ap (take 8192) (sym (part_unruled FirstFailure file log c e))
    by_rule (Ok x) e =
        one_part FirstFailure file x (take 8192 log) _ _ (part_of_lem file x e FirstFailure (take 8192 log)) (cut-failing file x log _ (part_of_lem file x e FirstFailure log))

pub first_bytes_decide_part : (lay : Layout) (mode : Mode) (file log w out : List ℕ)
    → log_of lay file (read_part mode file log) w out ≡ log_of lay file (read_part mode file (take 8192 log)) w out
first_bytes_decide_part lay mode file log w out =
    first_bytes_decide lay file (read_part mode file log) w out ∙ ap (λ (p : List ℕ). log_of lay file p w out) (sym (part_cut mode file log))

-- The walk over the lines of a log is right. Before each line the text so far, and then that of the lines that are left, is the text of
-- all lines: a line that is accepted moves its own text from what is left to what is written, and one that is refused is all that is left.
use Rattle.std.specs.Prelude.{Some, None, Ok, Err}
use Prim.Native.Nat.{ℕ, ◌+◌, ◌*◌, ◌-◌, ◌≤◌}
use mathlib.Core.Path.{◌≡◌, refl, ap, sym, subst, ◌∙◌}
use mathlib.Core.Bool.{Bool, true, false}
use mathlib.Core.List.{List, [], ◌∷◌, ◌++◌, append_assoc, append-nil}
use native.Mathlib.Omega.{arith}
use lib.ListN.{length, take, drop, length-append, length-drop}
use lib.Seq.{length-take-le, take_at, take-add}
use Rattle.lists.proofs.Cases.{no_both}
use Rattle.refusals.specs.declared.Refusal.TheVariants.{LineForm}
use Rattle.refusals.specs.declared.Refusal.{Refusal}
use Rattle.refusals.specs.Refusal.{number}
use Rattle.lines.specs.declared.Advanced.{Advanced}
use Rattle.lines.specs.declared.Span.{Span}
use Rattle.lines.specs.Log.{lines_of, next_line, place_after, advanced_from, Next}
use Rattle.lines.proofs.Log.{Handed, line_is_handed_out, done_means_no_lines, Spoilt, refused_line_is_faulty}
use Rattle.trace.specs.declared.Record.{Record}
use Rattle.trace.specs.Trace.{Trace, Answer, next, refused, no_trace, step, Accepted}
use Rattle.trace.specs.Record.{record_of, Valid}
use Rattle.trace.proofs.Bounds.{accepted-bounded}
use Rattle.trace.proofs.Grown.{taken_grows}
use Rattle.trace.proofs.Taken.{by_answer_lem, line_lines, line_faulty}
use Rattle.rules.specs.declared.Rule.{Rule}
use Rattle.std.specs.Prelude.{Ok}
use Rattle.rules.specs.Rules.{rule_of, formula_of}
use Rattle.rules.specs.Formula.{Formula}
use Rattle.reading.specs.Reading.{by_answer}
use Rattle.text_pieces.specs.Pieces.{refused_text}
use Rattle.text_pieces.specs.Writing.{put, Writes}
use Rattle.slip_form.specs.Form.{SlipForm}
use Rattle.slips.specs.Answers.{found_in}
use Rattle.log_slips.specs.declared.Walk.{Walk}
use Rattle.log_slips.specs.Printed.{fail_text, slips_from}
use Rattle.log_slips.specs.Walk.{found_text, left_text, refused_room, Walked, Refuses, Stops, GoesOn, TakesLine, Steps}
use Rattle.log_slips.proofs.Found.{found_text_lem}

-- ── the text of the lines that are left ──
module _ (f : Formula) (s : SlipForm f) (t : Trace) where
  pub slips_none : slips_from f s t [] ≡ []
  unfolding slips_from
  slips_none = refl

  module _ (l : List ℕ) (ls : List (List ℕ)) where
    abbrev by_line : Answer → List ℕ
    by_line a = by_answer a (λ u. fail_text f s u ++ slips_from f s u ls) (λ c. refused_text (t.lines + 1) c)

    pub slips_taken : (u : Trace) → step (next t) l ≡ next u → slips_from f s t (l ∷ ls) ≡ fail_text f s u ++ slips_from f s u ls
    unfolding slips_from by_answer
    slips_taken u p = ap by_line p

    pub slips_refused : (c : Refusal) → step (next t) l ≡ refused c → slips_from f s t (l ∷ ls) ≡ refused_text (t.lines + 1) (number c)
    unfolding slips_from by_answer
    slips_refused c p = ap by_line p

-- ── what is written ──
module _ (s text : List ℕ) (p : ℕ) (text' : List ℕ) (q : ℕ) (w : Writes s text p text' q) where
  pub wrote_take : take q text' ≡ take p text ++ s
  unfolding put
  wrote_take =
      let a : List ℕ = take p text ++ s in
      let n : length a ≡ q = omega (arith, length-append (take p text) s, length-take-le p text w.within, w.after) in
      ap (take q) (w.bytes ∙ sym (append_assoc (take p text) s (drop (p + length s) text)))
      ∙ take_at a (drop (p + length s) text) q n

  pub wrote_length : q ≤ length text → length text' ≡ length text
  unfolding put
  wrote_length h =
      let d : List ℕ = drop (p + length s) text in
      omega (arith, ap length w.bytes, length-append (take p text) (s ++ d), length-append s d, length-take-le p text w.within, length-drop (p + length s) text, w.after)

-- ── one line ──
module _ (file log : List ℕ) (w : Walk) (text : List ℕ) (k : Walked file log w text) (on : w.more ≡ true) where
  abbrev t : Trace
  t = k.trace

  abbrev place : ℕ
  place = w.place

  few_on : w.size ≤ 20 * t.lines
  few_on = omega (arith, k.few, ap refused_room on)

  pub size_room : w.size + 20 ≤ length text
  size_room = omega (arith, few_on, k.room, (accepted-bounded (take place log) t k.accepted).lines)

  pub walk_valid : Valid w.state
  walk_valid = record { log = take place log; trace = t; accepted = k.accepted; encoded = k.encoded }

  state_lines : w.state.lines.0 ≡ t.lines
  unfolding record_of
  state_lines = ap (λ (r : Record). r.lines.0) k.encoded

  pub walk_lines : w.state.lines.0 ≤ 256
  walk_lines = omega (arith, state_lines, (accepted-bounded (take place log) t k.accepted).lines)

  shown_on : (x : Rule) → rule_of file ≡ Ok x → (f : SlipForm (formula_of file x))
      → take w.size text ++ slips_from (formula_of file x) f t (lines_of (drop place log)) ≡ slips_from (formula_of file x) f no_trace (lines_of log)
  shown_on x p f =
      ap (λ (b : Bool). take w.size text ++ left_text b (formula_of file x) f t (lines_of (drop place log))) (sym on) ∙ k.shown x p f

  -- no line is read on: with s all lines that are left are written
  abbrev ended : ℕ → Walk
  ended q = record { state = w.state; place = w.place; size = q; more = false }

  ends : (s : List ℕ) (q : ℕ) (text' : List ℕ) → 5140 ≤ length text' → q ≤ w.size + 20 → take q text' ≡ take w.size text ++ s
      → ((h : Formula) (d : SlipForm h) → slips_from h d t (lines_of (drop place log)) ≡ s) → Walked file log (ended q) text'
  ends s q text' r h e f =
      record {
        trace = t;
        accepted = k.accepted;
        encoded = k.encoded;
        within = k.within;
        few = omega (arith, few_on, h);
        room = r;
        shown =
            λ x p d.
            append-nil (take q text')
            ∙ (e ∙ (ap (λ (l : List ℕ). take w.size text ++ l) (sym (f (formula_of file x) d)) ∙ shown_on x p d));
      }

  stays : (v : Walk) (q : ℕ) → v.state ≡ w.state → v.place ≡ w.place → v.size ≡ q → v.more ≡ false → (text' : List ℕ)
      → Walked file log (ended q) text' → Steps file log w v text'
  stays v q a b c d text' z =
      let same : ended q ≡ v = λ i. record { state = sym a i; place = sym b i; size = sym c i; more = sym d i } in
      record { walked = subst (λ (y : Walk). Walked file log y text') same z; onward = λ e. no_both (sym e ∙ d) }

  -- what the reader answers
  module _ (a : Advanced) (read : a ≡ advanced_from log w.place) where
    at_next : next_line log place ≡ a.next
    at_next = sym (ap (λ (y : Advanced). y.next) read)

    pub walk_done : a.next ≡ None → (v : Walk) → Stops w v → Steps file log w v text
    walk_done e v s =
        stays v w.size s.state s.place s.size s.more text
        (ends [] w.size text k.room (omega arith) (sym (append-nil (take w.size text)))
        (λ h d. ap (slips_from h d t) (done_means_no_lines log place (at_next ∙ e)) ∙ slips_none h d t))

    -- a refusal with c, which is that of the line at the place
    refused_at : (c : Refusal) (l : List ℕ) (ls : List (List ℕ)) → lines_of (drop place log) ≡ l ∷ ls → step (next t) l ≡ refused c
        → (v : Walk) (text' : List ℕ) → Refuses w c text v text' → Steps file log w v text'
    refused_at c l ls h p v text' s =
        let d : Writes (refused_text (w.state.lines.0 + 1) (number c)) text w.size text' v.size = s.written.writes in
        let within : v.size ≤ length text = omega (arith, s.written.few, size_room) in
        stays v v.size s.state s.place refl s.more text'
        (ends (refused_text (w.state.lines.0 + 1) (number c)) v.size text'
        (omega (arith, wrote_length _ _ _ _ _ d within, k.room))
        (omega (arith, s.written.few))
        (wrote_take _ _ _ _ _ d)
        (λ f i. ap (slips_from f i t) h ∙ (slips_refused f i t l ls c p ∙ ap (λ (n : ℕ). refused_text (n + 1) (number c)) (sym state_lines))))

    pub walk_refused : (c : Refusal) → a.next ≡ Some (Err c) → (v : Walk) (text' : List ℕ) → Refuses w c text v text' → Steps file log w v text'
    walk_refused c e v text' s =
        let h : Spoilt log place c = refused_line_is_faulty log place c (at_next ∙ e) in
        refused_at c h.line h.later h.lines (line_faulty t h.line LineForm h.says ∙ ap refused (sym h.refusal)) v text' s

    module _ (span : Span) (is : a.next ≡ Some (Ok span)) where
      abbrev i : ℕ
      i = span.start

      abbrev e : ℕ
      e = span.end

      at : Handed log place i e
      at = line_is_handed_out log place i e (at_next ∙ is)

      pub line_starts : i ≤ e
      line_starts = omega (arith, at.starts, at.moves)

      pub line_ends : e ≤ length log
      line_ends = at.within

      after : a.place ≡ e
      after = ap (λ (y : Advanced). y.place) read ∙ ap (λ (n : Next). place_after n place) (at_next ∙ is)

      abbrev line : List ℕ
      line = take (e - i) (drop i log)

      same_line : take (e - place) (drop place log) ≡ line
      same_line = ap (λ (n : ℕ). take (e - n) (drop n log)) (sym at.starts)

      lines : lines_of (drop place log) ≡ line ∷ lines_of (drop e log)
      lines = at.lines ∙ ap (λ (l : List ℕ). l ∷ lines_of (drop e log)) same_line

      grown : take e log ≡ take place log ++ line
      grown =
          let n : e ≡ place + (e - place) = omega (arith, at.moves) in
          ap (λ (m : ℕ). take m log) n ∙ (take-add place (e - place) log ∙ ap (λ (l : List ℕ). take place log ++ l) same_line)

      module _ (u : Trace) (p : step (next t) line ≡ next u) (v : Walk) (text' : List ℕ) (s : GoesOn file a.place w text u v text') where
        accepted_on : Accepted (take e log) u
        accepted_on = subst (λ (l : List ℕ). Accepted l u) (sym grown) (taken_grows (take place log) t k.accepted line u p)

        on_shown : (x : Rule) → rule_of file ≡ Ok x → (f : SlipForm (formula_of file x))
            → take v.size text' ++ slips_from (formula_of file x) f u (lines_of (drop e log)) ≡ slips_from (formula_of file x) f no_trace (lines_of log)
        on_shown x r f =
            let h : Formula = formula_of file x in
            let rest : List ℕ = slips_from h f u (lines_of (drop e log)) in
            let found : s.found ≡ found_in u f.variables f.part = (s.finds.known x r f (take e log) u accepted_on s.state).answer in
            ap (λ (l : List ℕ). l ++ rest) (wrote_take _ _ _ _ _ s.written.writes)
            ∙ (append_assoc (take w.size text) (found_text u.lines s.found) rest
            ∙ (ap (λ (l : List ℕ). take w.size text ++ (l ++ rest)) (found_text_lem h f u s.found found)
            ∙ (ap (λ (l : List ℕ). take w.size text ++ l) (sym (ap (slips_from h f t) lines ∙ slips_taken h f t line (lines_of (drop e log)) u p))
            ∙ shown_on x r f)))

        goes_on : Walked file log (record { state = v.state; place = e; size = v.size; more = true }) text'
        goes_on =
            let within : v.size ≤ length text = omega (arith, s.written.few, size_room) in
            record {
              trace = u;
              accepted = accepted_on;
              encoded = s.state;
              within = at.within;
              few = omega (arith, s.written.few, few_on, line_lines t u line p);
              room = omega (arith, wrote_length _ _ _ _ _ s.written.writes within, k.room);
              shown = on_shown;
            }

        went_on : Steps file log w v text'
        went_on =
            let same : ◌≡◌ {A = Walk} (record { state = v.state; place = e; size = v.size; more = true }) v =
            λ j. record { state = v.state; place = sym (s.place ∙ after) j; size = v.size; more = sym s.more j }
            in
            record { walked = subst (λ (y : Walk). Walked file log y text') same goes_on; onward = λ _. omega (arith, s.place, after, at.moves) }

      pub walk_line : (v : Walk) (text' : List ℕ) → TakesLine file line a.place w text v text' → Steps file log w v text'
      walk_line v text' s =
          by_answer_lem t line
          (λ u p. went_on u p v text' (s.taken (take place log) t u k.accepted k.encoded p))
          (λ c p. refused_at c line (lines_of (drop e log)) lines p v text' (s.refused (take place log) t c k.accepted k.encoded p))

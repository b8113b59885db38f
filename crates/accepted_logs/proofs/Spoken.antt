-- What the lines of an accepted log say is what they leave. A taken line keeps of each run its id, its begin line, its
-- label, and its end line once it has one (`Keeps`); and it adds what it says itself. So what each line says still
-- stands in the trace after the last (`Said`). And a log grows by a line just where the line meets no refusal.
use Prim.Native.Nat.{ℕ, suc, ◌+◌, ◌≤◌, ◌<◌}
use mathlib.Core.Path.{◌≡◌, refl, ap, sym, ◌∙◌, subst}
use mathlib.Core.Logic.{◌≢◌, ◌↔◌}
use mathlib.Core.List.{List, [], ◌∷◌, ◌++◌, append_assoc}
use native.Mathlib.Omega.{arith}
use lib.ListN.{length, get_or, length-append, get_or-append}
use lib.Seq.{get_or_at, get_or-set_same, get_or-set_other}
use borrow.Author.Tests.{ne_eqb}
use Rattle.lists.proofs.Cases.{either_eq, either_lt}
use Rattle.lists.proofs.Lists.{append-nil}
use Rattle.labels.specs.declared.Label.{Label}
use Rattle.labels.specs.Label.{label_of}
use Rattle.labels.specs.Table.{number_of, with_label}
use Rattle.labels.proofs.Table.{index_most}
use Rattle.refusals.specs.Refusal.{number}
use Rattle.lines.specs.Event.{Event, begins, ends}
use Rattle.lines.specs.Line.{event_of}
use Rattle.lines.specs.Log.{lines_of}
use Rattle.trace.specs.declared.Run.{Run}
use Rattle.trace.specs.Trace.{Trace, Answer, next, no_trace, no_run, run_at, new_run, shut, begin_line, end_line, Finished, begin, end, apply, step, steps, read, Accepted}
use Rattle.trace.proofs.Taken.{Begun, Ended, begin_taken, end_taken, line_event, line_taken, line_lines, by_answer_lem, not_taken}
use Rattle.trace.proofs.Closed.{Closing, closing_of, close_long}
use Rattle.trace.specs.Orderly.{OpenAt, Orderly}
use Rattle.trace.proofs.Accepted.{accepted_orderly}
use Rattle.trace.proofs.Kept.{Kept}
use Rattle.trace.proofs.Bounds.{accepted_sound}
use Rattle.trace.proofs.Induction.{accepted-keeps}
use Rattle.trace.proofs.Grown.{no_bytes, accepted_lines, steps-more, taken_grows}
use Rattle.grammar.proofs.BytesMet.{begins-says, ends-says}
use Rattle.logic.specs.Satisfies.{HasLabel}
use Rattle.logic.proofs.Labelled.{begin_has_label, label_stays}
use Rattle.accepted_logs.specs.MetAfter.{HasId, MetAfter}
use Rattle.accepted_logs.specs.Spoken.{BegunAt, EndedAt, Spoken, Accepting}
use Rattle.accepted_logs.proofs.NewLabel.{Grows, same, more, grows, one_more, no_length}
use Rattle.accepted_logs.proofs.AfterMet.{after_met, after_number}

-- ── what a taken line keeps of run k ──
record Keeps (t u : Trace) (k : ℕ) : Type 0 where
  pub low : k < length u.runs
  pub id : (run_at u k).id ≡ (run_at t k).id
  pub began : begin_line (run_at u k) ≡ begin_line (run_at t k)
  pub ended : Finished (run_at t k) → end_line (run_at u k) ≡ end_line (run_at t k)
  pub number : (run_at u k).label.0 ≡ (run_at t k).label.0

abbrev KeepsAll : Trace → Trace → Type 0
KeepsAll t u = (k : ℕ) → k < length t.runs → Keeps t u k

-- a begin line changes no run
begin_keeps : (t : Trace) (i : ℕ) (x : Label) → KeepsAll t (begin t i x)
unfolding begin
begin_keeps t i x k h =
    let e : run_at (begin t i x) k ≡ run_at t k = get_or-append t.runs _ no_run k h in
    record {
      low = simp length-append (omega arith);
      id = ap (λ (r : Run). r.id) e;
      began = ap begin_line e;
      ended = λ _. ap end_line e;
      number = ap (λ (r : Run). r.label.0) e;
    }

-- an end line changes the open run of its id, and of that nothing but the end line
module _ (t : Trace) (i : ℕ) (c : Closing i t.runs) where
  closed_run : run_at (end t i) c.at ≡ shut (t.lines + 1) (run_at t c.at)
  unfolding end
  closed_run = rw (c.closes (t.lines + 1)) (get_or-set_same t.runs c.at _ no_run c.low)

  other_run : (k : ℕ) → k ≢ c.at → run_at (end t i) k ≡ run_at t k
  unfolding end
  other_run k d = rw (c.closes (t.lines + 1)) (get_or-set_other t.runs c.at k _ no_run d)

  end_long : length (end t i).runs ≡ length t.runs
  unfolding end
  end_long = close_long i (t.lines + 1) t.runs

end_keeps : (t : Trace) (i : ℕ) (u : Trace) → Ended t i u → KeepsAll t (end t i)
end_keeps t i u b k h =
    let c : Closing i t.runs = closing_of i t.runs b.running in
    either_eq k c.at
    (λ e.
    let r : run_at (end t i) k ≡ shut (t.lines + 1) (run_at t k) = rw e (closed_run t i c) in
    let o : end_line (run_at t k) ≡ 0 = rw e c.running in
    record {
      low = omega (arith, end_long t i c);
      id = ap (λ (r : Run). r.id) r;
      began = ap begin_line r;
      ended = λ f. absurd (omega arith);
      number = ap (λ (r : Run). r.label.0) r;
    })
    (λ d.
    let r : run_at (end t i) k ≡ run_at t k = other_run t i c k d in
    record {
      low = omega (arith, end_long t i c);
      id = ap (λ (r : Run). r.id) r;
      began = ap begin_line r;
      ended = λ _. ap end_line r;
      number = ap (λ (r : Run). r.label.0) r;
    })

line_keeps : (t u : Trace) (l : List ℕ) → step (next t) l ≡ next u → KeepsAll t u
line_keeps t u l =
    line_taken (λ _. KeepsAll t u) t u
    (λ i s b. subst (KeepsAll t) (sym b.is) (begin_keeps t i (label_of s)))
    (λ i b. subst (KeepsAll t) (sym b.is) (end_keeps t i u b))
    l

-- ── so what earlier lines say stands ──
abbrev Appears : Trace → ℕ → Type 0
Appears t m = (k : ℕ) × (k < length t.runs) × ((run_at t k).label.0 ≡ m) × ((j : ℕ) → j < k → (run_at t j).label.0 < m)

module _ (t u : Trace) (keeps : KeepsAll t u) where
  id_stays : (i k : ℕ) → HasId t i k → HasId u i k
  id_stays i k h = let s = keeps k h.begun in record { begun = s.low; named = s.id ∙ h.named }

  begun_stays : (l i : ℕ) (s : List ℕ) → ((k : ℕ) → k < length t.runs → HasLabel t k s → HasLabel u k s)
      → BegunAt t l i s → BegunAt u l i s
  begun_stays l i s label b =
      let low = b.named.begun in
      record {
        run = b.run;
        named = id_stays i b.run b.named;
        line = (keeps b.run low).began ∙ b.line;
        labelled = λ n. label b.run low (b.labelled n);
        bare = λ e. (keeps b.run low).number ∙ b.bare e;
      }

  ended_stays : (l i : ℕ) → 0 < l → EndedAt t l i → EndedAt u l i
  ended_stays l i p b =
      record {
        run = b.run;
        named = id_stays i b.run b.named;
        line = (keeps b.run b.named.begun).ended (omega (arith, b.line)) ∙ b.line;
      }

  appears_stays : (m : ℕ) → Appears t m → Appears u m
  appears_stays m (k, low, is, first) =
      (k, (keeps k low).low, (keeps k low).number ∙ is, λ j h. omega (arith, (keeps j (omega arith)).number, first j h))

-- ── what a line says itself ──
no_number : (ls : List Label) (s : List ℕ) → s ≡ [] → number_of ls (label_of s) ≡ 0
unfolding number_of label_of
no_number ls s e = rw e refl

-- the run that a begin line makes stands last
last_run : (t : Trace) (i : ℕ) (x : Label) → run_at (begin t i x) (length t.runs) ≡ new_run i (t.lines + 1) (number_of t.labels x)
unfolding begin
last_run t i x = get_or_at t.runs _ [] no_run (length t.runs) refl

last_low : (t : Trace) (i : ℕ) (x : Label) → length t.runs < length (begin t i x).runs
unfolding begin
last_low t i x = simp length-append (omega arith)

begin_adds : (t u : Trace) (i : ℕ) (s : List ℕ) → apply t (begins i s) ≡ next u → BegunAt u (t.lines + 1) i s
unfolding apply label_of
begin_adds t u i s e =
    let b : Begun t i (label_of s) u = begin_taken t i (label_of s) u e in
    let r : run_at u (length t.runs) ≡ new_run i (t.lines + 1) (number_of t.labels (label_of s)) = rw b.is (last_run t i (label_of s)) in
    record {
      run = length t.runs;
      named = record { begun = rw b.is (last_low t i (label_of s)); named = ap (λ (r : Run). r.id) r };
      line = ap begin_line r;
      labelled = λ n. begin_has_label t u i s e (λ z. n (no_length s z));
      bare = λ z. ap (λ (r : Run). r.label.0) r ∙ no_number t.labels s z;
    }

closed_adds : (t : Trace) (i : ℕ) → Closing i t.runs → EndedAt (end t i) (t.lines + 1) i
closed_adds t i c =
    let r : run_at (end t i) c.at ≡ shut (t.lines + 1) (run_at t c.at) = closed_run t i c in
    record {
      run = c.at;
      named = record { begun = omega (arith, c.low, end_long t i c); named = ap (λ (r : Run). r.id) r ∙ c.named };
      line = ap end_line r;
    }

end_adds : (t u : Trace) (i : ℕ) → apply t (ends i) ≡ next u → EndedAt u (t.lines + 1) i
unfolding apply
end_adds t u i e =
    let b : Ended t i u = end_taken t i u e in
    subst (λ (v : Trace). EndedAt v (t.lines + 1) i) (sym b.is) (closed_adds t i (closing_of i t.runs b.running))

-- a label that a begin line adds is its run's, and is higher than those of the runs before
new_number : (ls : List Label) (x : Label) (m : ℕ) → length ls < m → m ≤ length (with_label ls x) → number_of ls x ≡ m
unfolding number_of
new_number ls x m low high = go (grows ls x)
  where
    go : Grows ls x → number_of ls x ≡ m
    go (same e) = absurd (omega (arith, ap length e))
    go (more d h e) = simp (ne_eqb _ _ d) (omega (arith, ap length e, one_more ls x, index_most ls x))

abbrev AllAppear : Trace → Type 0
AllAppear t = (m : ℕ) → 1 ≤ m → m ≤ length t.labels → Appears t m

begin_appears : (t : Trace) (i : ℕ) (x : Label) → Kept t → AllAppear t → AllAppear (begin t i x)
unfolding begin
begin_appears t i x w f m some high =
    either_lt (length t.labels) m
    (λ new. (
      length t.runs,
      last_low t i x,
      ap (λ (r : Run). r.label.0) (last_run t i x) ∙ new_number t.labels x m new high,
      λ j h. omega (arith, (begin_keeps t i x j h).number, (w.within j h).label_by_lem),
    ))
    (λ old. appears_stays t (begin t i x) (begin_keeps t i x) m (f m some old))

line_appears : (t u : Trace) (l : List ℕ) → Kept t → AllAppear t → step (next t) l ≡ next u → AllAppear u
unfolding end
line_appears t u l w f =
    line_taken (λ _. AllAppear u) t u
    (λ i s b. subst AllAppear (sym b.is) (begin_appears t i (label_of s) w f))
    (λ i b. subst AllAppear (sym b.is) (λ m some high. appears_stays t (end t i) (end_keeps t i u b) m (f m some high)))
    l

-- ── all lines ──
-- what the lines say stands in t, which some accepted log leaves
record Said (ls : List (List ℕ)) (t : Trace) : Type 0 where
  pub count : t.lines ≡ length ls
  pub begun : (n i : ℕ) (s : List ℕ) → n < length ls → event_of (get_or ls n []) ≡ begins i s → BegunAt t (suc n) i s
  pub ended : (n i : ℕ) → n < length ls → event_of (get_or ls n []) ≡ ends i → EndedAt t (suc n) i
  pub appears : AllAppear t
  pub log : List ℕ
  pub accepted : Accepted log t

said_none : Said [] no_trace
said_none =
    record {
      count = refl;
      begun = λ n i s h e. absurd (omega arith);
      ended = λ n i h e. absurd (omega arith);
      appears = λ m some high. absurd (omega arith);
      log = [];
      accepted = no_bytes;
    }

module _ (ls : List (List ℕ)) (l : List ℕ) (t u : Trace) (s : Said ls t) (e : step (next t) l ≡ next u) where
  keeps : KeepsAll t u
  keeps = line_keeps t u l e

  kept : Kept t
  kept = (accepted_sound s.log t s.accepted).kept

  label_goes_on : (k : ℕ) → k < length t.runs → (x : List ℕ) → HasLabel t k x → HasLabel u k x
  label_goes_on k low x = (label_stays s.log t u s.accepted (event_of l) (line_event t u l e) k low x).0

  -- a line is one of those before, or the last
  by_line_lem : {C : Type 0} (n : ℕ) → n < length (ls ++ (l ∷ []))
      → (n < length ls → get_or (ls ++ (l ∷ [])) n [] ≡ get_or ls n [] → C)
      → (t.lines + 1 ≡ suc n → get_or (ls ++ (l ∷ [])) n [] ≡ l → C) → C
  by_line_lem n h f g =
      either_lt n (length ls)
      (λ old. f old (get_or-append ls (l ∷ []) [] n old))
      (λ new.
      let m : n ≡ length ls = omega (arith, length-append ls (l ∷ [])) in
      g (omega (arith, s.count)) (get_or_at ls l [] [] n (sym m)))

  line_says : (v : Event) → event_of l ≡ v → apply t v ≡ next u
  line_says v q = ap (apply t) (sym q) ∙ line_event t u l e

  said_more : Said (ls ++ (l ∷ [])) u
  said_more =
      record {
        count = omega (arith, line_lines t u l e, s.count, length-append ls (l ∷ []));
        begun = λ n i x h q. by_line_lem n h
            (λ old g. begun_stays t u keeps (suc n) i x (λ k low. label_goes_on k low x) (s.begun n i x old (ap event_of (sym g) ∙ q)))
            (λ m g. subst (λ (k : ℕ). BegunAt u k i x) m (begin_adds t u i x (line_says (begins i x) (ap event_of (sym g) ∙ q))));
        ended = λ n i h q. by_line_lem n h
            (λ old g. ended_stays t u keeps (suc n) i (omega arith) (s.ended n i old (ap event_of (sym g) ∙ q)))
            (λ m g. subst (λ (k : ℕ). EndedAt u k i) m (end_adds t u i (line_says (ends i) (ap event_of (sym g) ∙ q))));
        appears = line_appears t u l kept s.appears e;
        log = s.log ++ l;
        accepted = taken_grows s.log t s.accepted l u e;
      }

-- the lines read and the lines left are those of the log
record Reached (all left : List (List ℕ)) (t : Trace) : Type 0 where
  pub done : List (List ℕ)
  pub joined : done ++ left ≡ all
  pub said : Said done t

accepted_said : (log : List ℕ) (t : Trace) → Accepted log t → Said (lines_of log) t
accepted_said log t a =
    let r : Reached (lines_of log) [] t =
    accepted-keeps (Reached (lines_of log))
    (λ l ls t u r e. record {
      done = r.done ++ (l ∷ []);
      joined = append_assoc r.done (l ∷ []) ls ∙ r.joined;
      said = said_more r.done l t u r.said e;
    })
    log t a (record { done = []; joined = refl; said = said_none }) in
    subst (λ (ls : List (List ℕ)). Said ls t) (sym (append-nil r.done) ∙ r.joined) r.said

-- ── the run that is open before a line ──
module _ (t : Trace) (o : Orderly t) (n i : ℕ) where
  open_before : (k : ℕ) → end_line (run_at t k) ≡ suc n → OpenAt n (run_at t k)
  open_before k e = let h = o.forward k (omega arith) in record { begun = omega arith; not_ended = λ f. omega arith }

  closes_open : EndedAt t (suc n) i → (k : ℕ) → HasId t i k → OpenAt n (run_at t k) ↔ (end_line (run_at t k) ≡ suc n)
  closes_open b k h =
      let r : ℕ = b.run in (
        λ p.
            let e : k ≡ r = o.one_open n k r h.begun b.named.begun (h.named ∙ sym b.named.named) p (open_before r b.line) in
            ap (λ (j : ℕ). end_line (run_at t j)) e ∙ b.line,
        open_before k,
      )

  none_open_before : (s : List ℕ) → BegunAt t (suc n) i s → (k : ℕ) → HasId t i k → OpenAt n (run_at t k) → ⊥
  none_open_before s b k h p =
      let r : ℕ = b.run in
      either_lt k r
      (λ l.
      let w = o.ids k r l b.named.begun (h.named ∙ sym b.named.named) in
      omega (arith, w.1, b.line, p.not_ended w.0))
      (λ l.
      either_eq k r
      (λ e. let z : begin_line (run_at t k) ≡ begin_line (run_at t r) = ap (λ (j : ℕ). begin_line (run_at t j)) e in omega (arith, b.line, p.begun))
      (λ d. omega (arith, o.order r k (omega arith) h.begun, b.line, p.begun)))

pub accepted_spoken : (log : List ℕ) (t : Trace) → Accepted log t → Spoken log t
accepted_spoken log t a =
    let s : Said (lines_of log) t = accepted_said log t a in
    let o : Orderly t = accepted_orderly log t a in
    record {
      count = s.count;
      begins = λ n i x h b. s.begun n i x h ((begins-says _ i x).1 b);
      ends = λ n i h b. s.ended n i h ((ends-says _ i).1 b);
      begins_none_open = λ n i x h b. none_open_before t o n i x (s.begun n i x h ((begins-says _ i x).1 b));
      closes = λ n i h b. closes_open t o n i (s.ended n i h ((ends-says _ i).1 b));
      distinct = (accepted_sound log t a).distinct;
      appears = s.appears;
    }

-- ── a log grows by a line just where the line meets no refusal ──
grows_by : (log : List ℕ) (t : Trace) (line : List ℕ) → Accepted log t → ((c : ℕ) → MetAfter t line c → ⊥)
    → (u : Trace) × Accepted (log ++ line) u
grows_by log t line a free =
    by_answer_lem t line
    (λ u p. (u, taken_grows log t a line u p))
    (λ c p. absurd (free (number c) ((after_met log t a line c).0 p)))

-- what a log with one line more leaves, whether the line has its LF or not
read_one_more : (log : List ℕ) (t : Trace) (line : List ℕ) → Accepted log t → lines_of line ≡ line ∷ [] → read (log ++ line) ≡ step (next t) line
unfolding read
read_one_more log t line a one =
    ap (steps (next no_trace)) (accepted_lines log t a line ∙ ap (λ (x : List (List ℕ)). lines_of log ++ x) one)
    ∙ (steps-more (next no_trace) (lines_of log) line ∙ ap (λ (x : Answer). step x line) a.leaves)

stops_at : (log : List ℕ) (t : Trace) (line : List ℕ) (c : ℕ) → Accepted log t → lines_of line ≡ line ∷ []
    → MetAfter t line c → (u : Trace) → Accepted (log ++ line) u → ⊥
stops_at log t line c a one m u g =
    let w = (after_number log t a line c).1 m in
    not_taken w.0 u (sym w.1.0 ∙ (sym (read_one_more log t line a one) ∙ g.leaves))

pub accepting : Accepting
accepting = record { accepts = grows_by; refuses = stops_at }

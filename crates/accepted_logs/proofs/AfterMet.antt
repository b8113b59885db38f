-- Where a line is refused after the lines of an accepted log: 11 to 13 by its own bytes, 15 to 19 by the runs and labels before it.
use Prim.Native.Nat.{ℕ, ◌≤◌, ◌<◌}
use mathlib.Core.Path.{◌≡◌, refl, ap, sym, ◌∙◌, subst}
use mathlib.Core.Logic.{◌↔◌}
use mathlib.Core.Bool.{Bool, true, false, cond}
use mathlib.Core.List.{List}
use native.Mathlib.Omega.{arith}
use lib.Dec.{leb}
use lib.ListN.{length}
use borrow.Author.Tests.{leb-true, leb-false, le-leb, lt-leb}
use Rattle.lists.proofs.Cases.{either_bool}
use Rattle.labels.specs.declared.Label.{Label}
use Rattle.labels.specs.Label.{label_of}
use Rattle.labels.specs.Table.{with_label}
use Rattle.refusals.specs.declared.Refusal.TheVariants as Why
use Rattle.refusals.specs.declared.Refusal.{Refusal}
use Rattle.refusals.specs.Refusal.{number}
use Rattle.refusals.proofs.Numbers.{number-injective}
use Rattle.lines.specs.Event.{Event, begins, ends, faulty}
use Rattle.lines.specs.Line.{event_of}
use Rattle.grammar.specs.Forms.{Begins, Ends}
use Rattle.grammar.proofs.BytesMet.{begins-says, ends-says, faulty-says, faulty-number}
use Rattle.trace.specs.Trace.{Trace, next, refused, any_running?, begun?, begin, end, begin_run, end_run, apply, Accepted, step}
use Rattle.trace.proofs.Bounds.{accepted-bounded}
use Rattle.trace.proofs.Closed.{Closing, closing_of, all_finished, RunOf, begun_run, new_id}
use Rattle.accepted_logs.specs.MetAfter.{HasId, NoRunHas, OpenRun, NoneOpen, MetAfter, own_bytes, still_open, run-129, label-65, never_begun, none_open}
use Rattle.accepted_logs.proofs.NewLabel.{New, new_grows, grows_new}
use Rattle.accepted_logs.proofs.Numbers.{same_number_lem, no_refusal}
use Rattle.trace.proofs.Taken.{step_is}

module _ (log : List ℕ) (t : Trace) (a : Accepted log t) where
  -- ── the runs of an id ──
  module _ (i : ℕ) where
    the_run : begun? i t.runs ≡ true → (k : ℕ) × HasId t i k
    the_run b = let h : RunOf i t.runs = begun_run i t.runs b in (h.at, record { begun = h.low; named = h.named })

    no_run_lem : begun? i t.runs ≡ false → NoRunHas t i
    no_run_lem b k h = new_id i t.runs b k h.begun h.named

    is_begun : (k : ℕ) → HasId t i k → begun? i t.runs ≡ true
    is_begun k h = either_bool (begun? i t.runs) (λ b. b) (λ b. absurd (no_run_lem b k h))

    is_new : NoRunHas t i → begun? i t.runs ≡ false
    is_new n = either_bool (begun? i t.runs) (λ b. let h = the_run b in absurd (n h.0 h.1)) (λ b. b)

    the_open_run : any_running? i t.runs ≡ true → (k : ℕ) × OpenRun t i k
    the_open_run b =
        let h : Closing i t.runs = closing_of i t.runs b in
        (h.at, record { has = record { begun = h.low; named = h.named }; not_finished = λ f. omega (arith, h.running) })

    no_open_run : any_running? i t.runs ≡ false → NoneOpen t i
    no_open_run b k h = h.not_finished (all_finished i t.runs b k h.has.begun h.has.named)

    is_open : (k : ℕ) → OpenRun t i k → any_running? i t.runs ≡ true
    is_open k h = either_bool (any_running? i t.runs) (λ b. b) (λ b. absurd (no_open_run b k h))

    is_closed : NoneOpen t i → any_running? i t.runs ≡ false
    is_closed n = either_bool (any_running? i t.runs) (λ b. let h = the_open_run b in absurd (n h.0 h.1)) (λ b. b)

    -- no run of an id is open where none has it
    new_closed : NoRunHas t i → NoneOpen t i
    new_closed n k h = n k h.has

  -- ── a refused line meets its number ──
  module _ (line : List ℕ) (c : Refusal) where
    begin_met : (i : ℕ) (l : List ℕ) → Begins line i l → begin_run t i (label_of l) ≡ refused c → MetAfter t line (number c)
    unfolding begin_run
    begin_met i l v e = go (any_running? i t.runs) refl (leb 128 (length t.runs)) refl (leb 65 (length (with_label t.labels (label_of l)))) refl e
      where
        go : (x : Bool) → any_running? i t.runs ≡ x → (y : Bool) → leb 128 (length t.runs) ≡ y → (z : Bool) → leb 65 (length (with_label t.labels (label_of l))) ≡ z
            → cond x (refused Why.StillOpen) (cond y (refused Why.TooManyRuns) (cond z (refused Why.TooManyLabels) (next (begin t i (label_of l))))) ≡ refused c → MetAfter t line (number c)
        go true p y q z r e = let h = the_open_run i p in still_open i l v h.0 h.1 (ap number (sym (same_number_lem c Why.StillOpen e)))
        go false p true q z r e = run-129 i l v (no_open_run i p) (leb-true 128 _ q) (ap number (sym (same_number_lem c Why.TooManyRuns e)))
        go false p false q true r e =
            let n : New t.labels l = grows_new log t a (accepted-bounded log t a).labels l (leb-true 65 _ r) in
            label-65 i l v (no_open_run i p) (leb-false 128 _ q) n.some n.full n.apart (ap number (sym (same_number_lem c Why.TooManyLabels e)))
        go false p false q false r e = no_refusal c (begin t i (label_of l)) e

    end_met : (i : ℕ) → Ends line i → end_run t i ≡ refused c → MetAfter t line (number c)
    unfolding end_run
    end_met i v e = go (any_running? i t.runs) refl (begun? i t.runs) refl e
      where
        go : (x : Bool) → any_running? i t.runs ≡ x → (y : Bool) → begun? i t.runs ≡ y → cond x (next (end t i)) (cond y (refused Why.NoneOpen) (refused Why.NeverBegun)) ≡ refused c → MetAfter t line (number c)
        go true p y q e = no_refusal c (end t i) e
        go false p true q e = let h = the_run i q in none_open i v h.0 h.1 (no_open_run i p) (ap number (sym (same_number_lem c Why.NoneOpen e)))
        go false p false q e = never_begun i v (no_run_lem i q) (ap number (sym (same_number_lem c Why.NeverBegun e)))

    forth : step (next t) line ≡ refused c → MetAfter t line (number c)
    unfolding apply
    forth e = go (event_of line) refl (sym (step_is t line) ∙ e)
      where
        go : (v : Event) → event_of line ≡ v → apply t v ≡ refused c → MetAfter t line (number c)
        go (begins i l) q e = begin_met i l ((begins-says line i l).0 q) e
        go (ends i) q e = end_met i ((ends-says line i).0 q) e
        go (faulty d) q e = own_bytes ((faulty-says line c).0 (q ∙ ap faulty (same_number_lem c d e)))

    -- ── and where it is met, the line is refused ──
    begin-15 : (i : ℕ) (x : Label) (k : ℕ) → OpenRun t i k → begin_run t i x ≡ refused Why.StillOpen
    unfolding begin_run
    begin-15 i x k h = simp (is_open i k h)

    begin-18 : (i : ℕ) (x : Label) → NoneOpen t i → 128 ≤ length t.runs → begin_run t i x ≡ refused Why.TooManyRuns
    unfolding begin_run
    begin-18 i x n m = simp (is_closed i n, le-leb 128 (length t.runs) m)

    begin-19 : (i : ℕ) (x : Label) → NoneOpen t i → length t.runs < 128 → 64 < length (with_label t.labels x) → begin_run t i x ≡ refused Why.TooManyLabels
    unfolding begin_run
    begin-19 i x n m l = simp (is_closed i n, lt-leb 128 (length t.runs) m, le-leb 65 (length (with_label t.labels x)) (omega arith))

    end-16 : (i : ℕ) → NoRunHas t i → end_run t i ≡ refused Why.NeverBegun
    unfolding end_run
    end-16 i n = simp (is_closed i (new_closed i n), is_new i n)

    end-17 : (i k : ℕ) → HasId t i k → NoneOpen t i → end_run t i ≡ refused Why.NoneOpen
    unfolding end_run
    end-17 i k h n = simp (is_closed i n, is_begun i k h)

    back : MetAfter t line (number c) → step (next t) line ≡ refused c
    unfolding apply
    back (own_bytes m) = step_is t line ∙ ap (apply t) ((faulty-says line c).1 m)
    back (still_open i l v k h e) = step_is t line ∙ (ap (apply t) ((begins-says line i l).1 v) ∙ (begin-15 i (label_of l) k h ∙ ap refused (sym (number-injective _ _ e))))
    back (run-129 i l v n m e) = step_is t line ∙ (ap (apply t) ((begins-says line i l).1 v) ∙ (begin-18 i (label_of l) n m ∙ ap refused (sym (number-injective _ _ e))))
    back (label-65 i l v n m some full apart e) =
        step_is t line
        ∙ (ap (apply t) ((begins-says line i l).1 v)
        ∙ (begin-19 i (label_of l) n m (new_grows t.labels l (record { some = some; full = full; apart = apart })) ∙ ap refused (sym (number-injective _ _ e))))
    back (never_begun i v n e) = step_is t line ∙ (ap (apply t) ((ends-says line i).1 v) ∙ (end-16 i n ∙ ap refused (sym (number-injective _ _ e))))
    back (none_open i v k h n e) = step_is t line ∙ (ap (apply t) ((ends-says line i).1 v) ∙ (end-17 i k h n ∙ ap refused (sym (number-injective _ _ e))))

    pub after_met : (step (next t) line ≡ refused c) ↔ MetAfter t line (number c)
    after_met = (forth, back)

  -- the same, by the number
  pub after_number : (line : List ℕ) (c : ℕ) → ((e : Refusal) × ((step (next t) line ≡ refused e) × (number e ≡ c))) ↔ MetAfter t line c
  after_number line c = ((λ w. subst (MetAfter t line) w.1.1 ((after_met line w.0).0 w.1.0)), λ m. by m m)
    where
      is : (e : Refusal) → c ≡ number e → MetAfter t line c → (d : Refusal) × ((step (next t) line ≡ refused d) × (number d ≡ c))
      is e q m = (e, ((after_met line e).1 (subst (MetAfter t line) q m), sym q))

      by : MetAfter t line c → MetAfter t line c → (d : Refusal) × ((step (next t) line ≡ refused d) × (number d ≡ c))
      by m (own_bytes b) = let z = (faulty-number line c).1 b in is z.0 (sym z.1.1) m
      by m (still_open i l v k h q) = is Why.StillOpen q m
      by m (run-129 i l v n k q) = is Why.TooManyRuns q m
      by m (label-65 i l v n k some full apart q) = is Why.TooManyLabels q m
      by m (never_begun i v n q) = is Why.NeverBegun q m
      by m (none_open i v k h n q) = is Why.NoneOpen q m

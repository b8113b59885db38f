-- The whole text: no line is read at first, and at the end all are. A rule that is refused, or has another form, is refused for the
-- record of no lines as for any other, and no other rule is.
use Prim.Native.Nat.{ℕ, zero, suc, ◌-◌, ◌<◌, ◌≤◌}
use mathlib.Core.Path.{◌≡◌, refl, ap, sym, ◌∙◌}
use mathlib.Core.Bool.{Bool, true, false}
use mathlib.Core.List.{List, [], ◌++◌, append-nil}
use native.Mathlib.Omega.{arith}
use lib.ListN.{length, take, drop}
use lib.Seq.{length-take-le}
use Rattle.input.specs.Counts.{IsPrefixLen}
use Rattle.lists.proofs.Cases.{either_bool, never}
use Rattle.lines.specs.Log.{lines_of}
use Rattle.trace.specs.declared.Record.{Record}
use Rattle.trace.specs.Trace.{Trace, no_trace}
use Rattle.trace.specs.Record.{record_of}
use Rattle.trace.proofs.Bounds.{accepted-bounded}
use Rattle.trace.proofs.Grown.{no_bytes}
use Rattle.rules.specs.Formula.{Formula}
use Rattle.rules.specs.Rules.{formula_of}
use Rattle.logic.specs.Model.{eval, model_of}
use Rattle.text_pieces.specs.Pieces.{refused_text}
use Rattle.text_pieces.specs.Writing.{WritesFew}
use Rattle.slip_form.specs.Form.{some_of}
use Rattle.slip_form.specs.Slips.{unbound}
use Rattle.std.specs.Prelude.{Option, Ok, Err}
use Rattle.refusals.specs.Refusal.{number}
use Rattle.refusals.specs.declared.Refusal.{Refusal}
use Rattle.refusals.proofs.Answers.{refused_number, refused_ok}
use Rattle.slip_form.specs.declared.Slip.{Slip}
use Rattle.slips.specs.Answers.{Finding, found_in, FindsFirst}
use Rattle.log_slips.specs.declared.Walk.{Walk}
use Rattle.log_slips.specs.Printed.{Printed}
use Rattle.log_slips.specs.Walk.{left_text, refused_room, Walked, Steps, ShowsLines}
use Rattle.log_slips.proofs.Walking.{wrote_take, wrote_length}

-- ── the walk from its start to its end ──
-- how many lines are left at most
abbrev pub lines_left : Bool → ℕ → ℕ
lines_left true n = suc n
lines_left false n = zero

pub fewer_left : (file log : List ℕ) (w v : Walk) (text : List ℕ) → w.more ≡ true → Steps file log w v text
    → lines_left v.more (length log - v.place) < lines_left w.more (length log - w.place)
fewer_left file log w v text on s =
    let here : lines_left w.more (length log - w.place) ≡ suc (length log - w.place) = ap (λ (b : Bool). lines_left b (length log - w.place)) on in
    either_bool v.more
    (λ e.
    let there : lines_left v.more (length log - v.place) ≡ suc (length log - v.place) = ap (λ (b : Bool). lines_left b (length log - v.place)) e in
    omega (arith, here, there, s.onward e, s.walked.within))
    (λ e.
    let there : lines_left v.more (length log - v.place) ≡ zero = ap (λ (b : Bool). lines_left b (length log - v.place)) e in
    omega (arith, here, there))

pub walk_starts : (file log text : List ℕ) (r : Record) → r ≡ record_of no_trace → 5140 ≤ length text
    → Walked file log (record { state = r; place = 0; size = 0; more = true }) text
walk_starts file log text r e h =
    record {
      trace = no_trace;
      accepted = no_bytes;
      encoded = e;
      within = omega arith;
      few = omega arith;
      room = h;
      shown = λ x p f. refl;
    }

module _ (file log : List ℕ) (w : Walk) (text : List ℕ) (k : Walked file log w text) (off : w.more ≡ false) where
  pub walk_within : w.size ≤ length text
  walk_within = omega (arith, k.few, ap refused_room off, k.room, (accepted-bounded (take w.place log) k.trace k.accepted).lines)

  pub walk_shows : ShowsLines file log (take w.size text)
  walk_shows x p f =
      sym (append-nil (take w.size text))
      ∙ (ap (λ (b : Bool). take w.size text ++ left_text b (formula_of file x) f k.trace (lines_of (drop w.place log))) (sym off) ∙ k.shown x p f)

-- ── the rule ──
found_not_refused : {C : Type 0} (t : Trace) (vs : List ℕ) (g : Formula) (a : Finding) (c : Refusal) → a ≡ found_in t vs g → a ≡ Err c → C
unfolding found_in
found_not_refused t vs g a c p e =
    either_bool (eval (model_of t) unbound (some_of vs g))
    (λ b. let h = simp b at p in never (cc))
    (λ b. let h = simp b at p in never (cc))

pub counted : (n : ℕ) (text : List ℕ) → n ≤ length text → IsPrefixLen n text
counted n text h = (h, sym (length-take-le n text h))

module _ (file log : List ℕ) (r : Record) (none : r ≡ record_of no_trace) (a : Finding) (f : FindsFirst file r a) where
  -- the finder refuses: the rule is refused with this number, or has another form
  module _ (e : Refusal) (is : a ≡ Err e) (text text' : List ℕ) (n : ℕ) (w : WritesFew 9 (refused_text 0 (number e)) text 0 text' n) where
    pub shows_refused : 5140 ≤ length text → Printed file log text' n
    shows_refused h =
        let said : take n text' ≡ refused_text 0 (number e) = wrote_take _ _ _ _ _ w.writes in
        record {
          counts = counted n text' (omega (arith, wrote_length _ _ _ _ _ w.writes (omega (arith, w.few)), w.few));
          shows = record {
            refused = λ d p. said ∙ ap (refused_text 0) (sym (refused_number a (number d) e is (f.rule d p)));
            other_form = λ x p o. said ∙ ap (refused_text 0) (sym (refused_number a 26 e is (f.other_form x p o)));
            slips =
                λ x p s.
                found_not_refused no_trace s.variables s.part a e (f.known x p s [] no_trace no_bytes none).answer is;
          };
        }

  -- it does not refuse: the rule has slips
  module _ (o : Option Slip) (is : a ≡ Ok o) (text : List ℕ) (n : ℕ) (h : n ≤ length text) (s : ShowsLines file log (take n text)) where
    pub shows_lines : Printed file log text n
    shows_lines =
        record {
          counts = counted n text h;
          shows = record {
            refused = λ d p. refused_ok a (number d) o is (f.rule d p);
            other_form = λ x p q. refused_ok a 26 o is (f.other_form x p q);
            slips = s;
          };
        }

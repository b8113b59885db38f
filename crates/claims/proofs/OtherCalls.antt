-- Demand 1 of the calls that take no line: starting a record, relating two runs, and sets of relations.
use Prim.Native.Nat.{ℕ, ◌≤◌, ◌<◌}
use mathlib.Core.Path.{◌≡◌, refl, ap, sym, ◌∙◌, subst}
use mathlib.Core.Logic.{◌⊎◌, inl, inr, ⊎_elim, ◌↔◌}
use mathlib.Core.List.{List}
use mathlib.Core.Bool.{Bool, true, false, ◌&&◌, ◌||◌, cond}
use native.Mathlib.Omega.{arith}
use lib.ListN.{length, take, drop}
use lib.Dec.{eqb, ltb}
use borrow.Author.Tests.{lt-ltb, le-ltb, le-leb, lt-leb}
use Rattle.std.specs.Prelude.{Some, Result as Answer, Ok, Err}
use Rattle.lists.specs.Lists.{has?}
use Rattle.lists.proofs.Cases.{either_lt, either_bool, no_both}
use Rattle.refusals.specs.Refusal.{number, RefusedWith}
use Rattle.refusals.specs.declared.Refusal.{Refusal}
use Rattle.refusals.specs.declared.Refusal.TheVariants.{LineForm, NoSet, ShortBuffer, NoRecord, NoFinishedRun, SameRun}
use Rattle.refusals.proofs.Answers.{refused_with, refused_number, refused_ok}
use Rattle.lines.specs.declared.LineSays.{LineSays}
use Rattle.lines.specs.Event.{Event, begins, ends, faulty}
use Rattle.lines.specs.Line.{event_of, parsed_as, parsed_of}
use Rattle.lines.specs.Log.{next_line}
use Rattle.lines.proofs.Log.{refused_line_is_faulty, refused_without_lf, without_lf_refused}
use Rattle.trace.specs.declared.Record.{Record}
use Rattle.trace.specs.declared.RunNo.{RunNo}
use Rattle.trace.specs.Trace.{Trace}
use Rattle.trace.specs.Record.{Valid}
use Rattle.pairs.specs.declared.Layout.{Layout}
use Rattle.pairs.specs.Layout.{work_size}
use Rattle.pairs.specs.Start.{start_of}
use Rattle.pairs.specs.declared.Started.{Started}
use Rattle.relations.specs.Sets.{converse_of, conversed_of}
use Rattle.relations.specs.Runs.{finished?, relation_in, relate_in, Answers, Relating, Conversed}
use Rattle.relations.specs.Compose.{compose_of, composed_of, Composition}
use Rattle.report.specs.declared.Reported.{Reported}
use Rattle.report.specs.Text.{report_text}
use Rattle.report.specs.Report.{Result, report_of, Reports}
use Rattle.claims.specs.WhereMet.{MetRelate, relate-unknown, relate-unfinished, relate_same}

-- ── starting a record ──
start_short : (lay : Layout) (w : List ℕ) → length w < work_size lay → (start_of lay w).0.outcome ≡ Err ShortBuffer
unfolding start_of
start_short lay w s = simp (lt-ltb (length w) (work_size lay) s)

start_ready : (lay : Layout) (w : List ℕ) → work_size lay ≤ length w → (start_of lay w).0.outcome ≡ Ok tt
unfolding start_of
start_ready lay w s = simp (le-ltb (length w) (work_size lay) s)

start_of_met : (lay : Layout) (w : List ℕ) (c : ℕ) → RefusedWith c (start_of lay w).0.outcome ↔ ((length w < work_size lay) × (c ≡ 20))
start_of_met lay w c = (forth, λ p. refused_with _ c ShortBuffer (start_short lay w p.0) p.1)
  where
    forth : RefusedWith c (start_of lay w).0.outcome → (length w < work_size lay) × (c ≡ 20)
    forth e =
        either_lt (length w) (work_size lay)
        (λ s. (s, refused_number _ c ShortBuffer (start_short lay w s) e))
        (λ s. refused_ok _ c tt (start_ready lay w s) e)

start_of_kept : (lay : Layout) (w : List ℕ) (c : ℕ) → RefusedWith c (start_of lay w).0.outcome → (start_of lay w).1 ≡ w
unfolding start_of
start_of_kept lay w c e = simp (lt-ltb (length w) (work_size lay) ((start_of_met lay w c).0 e).0)

module _ (lay : Layout) (w : List ℕ) (a : Started) (w' : List ℕ) (h : ◌≡◌ {A = Started × List ℕ} (a, w') (start_of lay w)) (c : ℕ) where
  pub start_met : RefusedWith c a.outcome ↔ ((length w < work_size lay) × (c ≡ 20))
  start_met = subst (λ (z : Started × List ℕ). RefusedWith c z.0.outcome ↔ ((length w < work_size lay) × (c ≡ 20))) (sym h) (start_of_met lay w c)

  pub start_kept : RefusedWith c a.outcome → w' ≡ w
  start_kept = subst (λ (z : Started × List ℕ). RefusedWith c z.0.outcome → z.1 ≡ w) (sym h) (start_of_kept lay w c)

-- ── the report ──
same_reported : (c d : ℕ) → Reported.Refused d ≡ Reported.Refused c → d ≡ c
same_reported c d e = cc

not_reported : {C : Type 0} (n c : ℕ) → Reported.Length n ≡ Reported.Refused c → C
not_reported n c e = absurd (let z : ◌≡◌ {A = ℕ} 0 1 = cc in omega arith)

module _ (lay : Layout) (w out text : List ℕ) where
  abbrev short? : Bool
  short? = ltb (length w) (work_size lay) || (ltb (length out) 256 || ltb (length text) 2048)

  abbrev LongEnough : Type 0
  LongEnough = (work_size lay ≤ length w) × (256 ≤ length out) × (2048 ≤ length text)

  long_enough : LongEnough → short? ≡ false
  long_enough h = simp (le-ltb _ _ h.0, le-ltb _ _ h.1, le-ltb _ _ h.2)

  too_short : (LongEnough → ⊥) → short? ≡ true
  too_short n =
      either_lt (length w) (work_size lay)
      (λ a. simp (lt-ltb _ _ a))
      (λ a.
      either_lt (length out) 256
      (λ b. simp (le-ltb _ _ a, lt-ltb _ _ b))
      (λ b. either_lt (length text) 2048 (λ c. simp (le-ltb _ _ a, le-ltb _ _ b, lt-ltb _ _ c)) (λ c. absurd (n (a, b, c)))))

  module _ (file log : List ℕ) (c : ℕ) where
    refused_short : (report_of lay file log w out text).0 ≡ Reported.Refused c → (short? ≡ true) × (c ≡ 20)
    unfolding report_of
    refused_short e =
        either_bool short?
        (λ s. (s, sym (same_reported c 20 (simp s at e))))
        (λ s. not_reported (length (report_text file log)) c (simp s at e))

    short_refused : short? ≡ true → report_of lay file log w out text ≡ (Reported.Refused 20, w, out, text)
    unfolding report_of
    short_refused s = simp s

    module _ (a : Reported) (w' out' text' : List ℕ) (h : Reports lay file log w out text a w' out' text') where
      answered : a ≡ (report_of lay file log w out text).0
      answered = ap (λ (z : Result). z.0) h.answer

      pub report_met : (a ≡ Reported.Refused c) ↔ ((LongEnough → ⊥) × (c ≡ 20))
      report_met = (
        (λ e.
            let s = refused_short (sym answered ∙ e) in
            ((λ l. no_both (sym s.0 ∙ long_enough l)), s.1)),
        (λ p. answered ∙ (ap (λ (z : Result). z.0) (short_refused (too_short p.0)) ∙ ap Reported.Refused (sym p.1))),
      )

      pub report_kept : a ≡ Reported.Refused c → (w' ≡ w) × (out' ≡ out) × (text' ≡ text)
      report_kept e =
          let z = h.answer ∙ short_refused (refused_short (sym answered ∙ e)).0 in
          (ap (λ (z : Result). z.1) z, ap (λ (z : Result). z.2) z, ap (λ (z : Result). z.3) z)

-- ── relating two runs ──
-- whether both runs are finished, whether they are one, and the number of their relation
abbrev by_tests : ℕ → Bool → Bool → Answer ℕ Refusal
by_tests n p q = cond p (cond q (Err SameRun) (Ok n)) (Err NoFinishedRun)

relate-number : {C : Type 0} (t : Trace) (a b c : ℕ) → RefusedWith c (relate_in t a b) → (relate_in t a b ≡ Err NoFinishedRun → c ≡ 22 → C)
    → (relate_in t a b ≡ Err SameRun → c ≡ 23 → C) → C
unfolding relate_in
relate-number {C} t a b c e f g = go (finished? t a && finished? t b) (eqb a b) e f g
  where
    go : (p q : Bool) → RefusedWith c (by_tests (relation_in t a b) p q) → (by_tests (relation_in t a b) p q ≡ Err NoFinishedRun → c ≡ 22 → C)
        → (by_tests (relation_in t a b) p q ≡ Err SameRun → c ≡ 23 → C) → C
    go false q e f g = f refl (refused_number (by_tests (relation_in t a b) false q) c NoFinishedRun refl e)
    go true true e f g = g refl (refused_number (by_tests (relation_in t a b) true true) c SameRun refl e)
    go true false e f g = refused_ok (by_tests (relation_in t a b) true false) c (relation_in t a b) refl e

pub relate_met : (r : Record) (a b : RunNo) (v : Answer ℕ Refusal) → Relating r a b v → (c : ℕ) → RefusedWith c v ↔ MetRelate r a.0 b.0 c
relate_met r a b v rel c = (λ e. either_bool rel.decided.0 (λ d. known (rel.decided.1.yes d) e) (λ d. unknown (rel.decided.1.no d) e), back)
  where
    unknown : (Valid r → ⊥) → RefusedWith c v → MetRelate r a.0 b.0 c
    unknown n e = relate-unknown n (refused_number v c NoRecord (rel.unknown n) e)

    known : Valid r → RefusedWith c v → MetRelate r a.0 b.0 c
    known k e =
        let s : Answers k.trace a.0 b.0 v = rel.known k.log k.trace k.accepted k.encoded in
        relate-number k.trace a.0 b.0 c (subst (RefusedWith c) s.answer e)
        (λ q n. relate-unfinished k.log k.trace k.accepted k.encoded (s.unfinished.0 (s.answer ∙ q)) n)
        (λ q n. let p = s.same.0 (s.answer ∙ q) in relate_same k.log k.trace k.accepted k.encoded p.0 p.1 n)

    back : MetRelate r a.0 b.0 c → RefusedWith c v
    back (relate-unknown n e) = refused_with v c NoRecord (rel.unknown n) e
    back (relate-unfinished log t k s f e) = refused_with v c NoFinishedRun ((rel.known log t k s).unfinished.1 f) e
    back (relate_same log t k s f q e) = refused_with v c SameRun ((rel.known log t k s).same.1 (f, q)) e

-- ── sets of relations ──
composed_met : (a b c : ℕ) → RefusedWith c (composed_of a b) ↔ (((63 < a) ⊎ (63 < b)) × (c ≡ 14))
composed_met a b c = (forth, λ p. refused_with (composed_of a b) c NoSet (⊎_elim first second p.0) p.1)
  where
    first : 63 < a → composed_of a b ≡ Err NoSet
    first s = simp (lt-leb a 63 s)

    second : 63 < b → composed_of a b ≡ Err NoSet
    second s = either_lt 63 a first (λ q. simp (le-leb a 63 q, lt-leb b 63 s))

    forth : RefusedWith c (composed_of a b) → ((63 < a) ⊎ (63 < b)) × (c ≡ 14)
    forth e =
        either_lt 63 a
        (λ s. (inl s, refused_number (composed_of a b) c NoSet (first s) e))
        (λ s.
        either_lt 63 b
        (λ q. (inr q, refused_number (composed_of a b) c NoSet (second q) e))
        (λ q. refused_ok (composed_of a b) c (compose_of a b) (simp (le-leb a 63 s, le-leb b 63 q)) e))

conversed_met : (a c : ℕ) → RefusedWith c (conversed_of a) ↔ ((63 < a) × (c ≡ 14))
conversed_met a c = (forth, λ p. refused_with (conversed_of a) c NoSet (simp (lt-leb a 63 p.0)) p.1)
  where
    forth : RefusedWith c (conversed_of a) → (63 < a) × (c ≡ 14)
    forth e =
        either_lt 63 a
        (λ s. (s, refused_number (conversed_of a) c NoSet (simp (lt-leb a 63 s)) e))
        (λ s. refused_ok (conversed_of a) c (converse_of a) (simp (le-leb a 63 s)) e)

pub compose_met : (a b : ℕ) (v : Answer ℕ Refusal) → Composition a b v → (c : ℕ) → RefusedWith c v ↔ (((63 < a) ⊎ (63 < b)) × (c ≡ 14))
compose_met a b v h c = subst (λ (z : Answer ℕ Refusal). RefusedWith c z ↔ (((63 < a) ⊎ (63 < b)) × (c ≡ 14))) (sym h.answer) (composed_met a b c)

pub converse_met : (a : ℕ) (v : Answer ℕ Refusal) → Conversed a v → (c : ℕ) → RefusedWith c v ↔ ((63 < a) × (c ≡ 14))
converse_met a v h c = subst (λ (z : Answer ℕ Refusal). RefusedWith c z ↔ ((63 < a) × (c ≡ 14))) (sym h.answer) (conversed_met a c)

-- ── reading ──
pub next_met : (log : List ℕ) (p c : ℕ) → ((e : Refusal) × ((next_line log p ≡ Some (Err e)) × (number e ≡ c)))
    ↔ ((p < length log) × (has? 10 (take 40 (drop p log)) ≡ false) × (c ≡ 11))
next_met log p c = (forth, λ h. (LineForm, (refused_without_lf log p h.0 h.1, sym h.2)))
  where
    forth : (e : Refusal) × ((next_line log p ≡ Some (Err e)) × (number e ≡ c)) → (p < length log) × (has? 10 (take 40 (drop p log)) ≡ false) × (c ≡ 11)
    forth w =
        let n : w.0 ≡ LineForm = (refused_line_is_faulty log p w.0 w.1.0).refusal in
        let h = without_lf_refused log p (w.1.0 ∙ ap (λ (e : Refusal). Some (Err e)) n) in
        (h.0, h.1, sym w.1.1 ∙ ap number n)

same_parsed : (c d : Refusal) → ◌≡◌ {A = Answer LineSays Refusal} (Err d) (Err c) → d ≡ c
same_parsed c d e = cc

pub parse_met : (line : List ℕ) (c : Refusal) → (parsed_of line ≡ Err c) ↔ (event_of line ≡ faulty c)
parse_met line c = (λ e. forth (event_of line) refl e, λ e. ap (parsed_as (length line)) e)
  where
    forth : (v : Event) → event_of line ≡ v → parsed_as (length line) v ≡ Err c → event_of line ≡ faulty c
    forth (begins i l) q e = absurd (let z : ◌≡◌ {A = ℕ} 0 1 = cc in omega arith)
    forth (ends i) q e = absurd (let z : ◌≡◌ {A = ℕ} 0 1 = cc in omega arith)
    forth (faulty d) q e = q ∙ ap faulty (same_parsed c d e)

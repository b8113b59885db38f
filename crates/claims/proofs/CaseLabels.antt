-- Labels are one label exactly if their capitals are the same: what a line begins has the capitals of the label that is written in it,
-- no two labels of a log have the same capitals, and a record and a rule hold capitals only.
use Prim.Native.Nat.{ℕ, zero, suc, ◌-◌, ◌%◌, ◌≤◌, ◌<◌}
use mathlib.Core.Path.{◌≡◌, refl, ap, sym, subst, ◌∙◌}
use mathlib.Core.Logic.{◌≢◌, ◌↔◌, inl}
use mathlib.Core.Bool.{true}
use mathlib.Core.List.{List, [], ◌∷◌}
use native.Mathlib.Omega.{arith}
use lib.ListN.{length, get_or, get_or-eq_default}
use lib.Seq.{get_or_at}
use Rattle.lists.proofs.Cases.{either_lt, never}
use Rattle.lists.proofs.Lists.{get_d_pad, zeros}
use Rattle.labels.specs.declared.Label.{Label}
use Rattle.labels.specs.Label.{capitals, label_form?, label_of, text, no_label, absent}
use Rattle.labels.specs.Fnv.{fnv_of}
use Rattle.labels.specs.Table.{label_at, with_label, Distinct, label_places, first_place}
use Rattle.labels.proofs.Capitals.{capital_is}
use Rattle.labels.proofs.Form.{label?, form_some}
use Rattle.labels.proofs.Same.{text_of}
use Rattle.labels.proofs.Table.{label_kept}
use Rattle.refusals.specs.declared.Refusal.{Refusal}
use Rattle.refusals.specs.Refusal.{number}
use Rattle.lines.specs.Event.{Event, begins, ends, faulty}
use Rattle.lines.specs.Line.{event_of}
use Rattle.lines.specs.Log.{lines_of}
use Rattle.lines.proofs.Event.{Fine, event_fine}
use Rattle.trace.specs.declared.Record.{Record}
use Rattle.trace.specs.Trace.{Trace, Answer, next, refused, no_trace, begin, end, apply, apply_to, step, steps, read, run_at, begin_line, Accepted}
use Rattle.trace.specs.Record.{record_of, Valid}
use Rattle.trace.proofs.Accepted.{one_line, accepted_orderly}
use Rattle.trace.proofs.Bounds.{accepted_sound}
use Rattle.trace.proofs.Induction.{accepted-keeps}
use Rattle.trace.proofs.Taken.{line_taken}
use Rattle.pairs.specs.Layout.{work_size}
use Rattle.rules.specs.declared.Node.{Node}
use Rattle.rules.specs.Formula.{Formula, both, neg, exists, has, pair}
use Rattle.grammar.specs.Written.{LabelByte, capital as is-capital, digit, underscore, IsLabel}
use Rattle.grammar.specs.Naming.{node_of}
use Rattle.grammar.specs.Layout.{InRange, and, not, some, has_label, between, RightLabels, RightNodes}
use Rattle.grammar.specs.Stands.{Stands, RuleFile}
use Rattle.grammar.proofs.Written.{form_is_label}
use Rattle.grammar.proofs.BytesMet.{begins-says, ends-says}
use Rattle.grammar.proofs.Paths.{kind-within}
use Rattle.logic.specs.Satisfies.{HasLabel, SameLabel}
use Rattle.accepted_logs.specs.Spoken.{BegunAt}
use Rattle.accepted_logs.proofs.NewLabel.{Grows, same as as_before, more, grows, one_more}
use Rattle.accepted_logs.proofs.Spoken.{accepted_spoken}
use Rattle.reading.specs.Left.{Unknown}
use Rattle.single.specs.Line.{refusing}
use Rattle.report.specs.Calls.{LineCall}
use Rattle.claims.specs.WhereMet.{Ruled, unknown}
use Rattle.claims.specs.LetterCase.{WrittenAt, EachLabel, SmallLetter, OneLabel}
use Rattle.claims.proofs.Refusals.{demand-1}

-- ── the labels of an accepted log are in capitals ──
-- each is made of the bytes of a label
abbrev Formed : List Label → Type 0
Formed ls = (n : ℕ) → 1 ≤ n → n ≤ length ls → (s : List ℕ) × (label_at ls n ≡ label_of s) × (label_form? s ≡ true)

some_form : (s : List ℕ) → (label_of s).length ≢ 0 → label? s ≡ true → label_form? s ≡ true
unfolding label_of
some_form [] n e = absurd (n refl)
some_form (b ∷ s) n e = form_some b s e

formed_with : (ls : List Label) (s : List ℕ) → label? s ≡ true → Formed ls → Formed (with_label ls (label_of s))
formed_with ls s ok f n low high =
    either_lt (length ls) n
    (λ new. last (grows ls (label_of s)) new)
    (λ old. let g = f n low old in (g.0, label_kept ls (label_of s) n (λ z. omega arith) old ∙ g.1, g.2))
  where
    last : Grows ls (label_of s) → length ls < n → (r : List ℕ) × (label_at (with_label ls (label_of s)) n ≡ label_of r) × (label_form? r ≡ true)
    last (as_before e) new = absurd (omega (arith, ap length e))
    last (more d h e) new =
        let m : n ≤ suc (length ls) = omega (arith, ap length e, one_more ls (label_of s)) in
        (s, ap (λ (y : List Label). label_at y n) e ∙ get_or_at ls (label_of s) [] absent (n - 1) (omega arith), some_form s d ok)

formed_step : (t u : Trace) (l : List ℕ) → Formed t.labels → step (next t) l ≡ next u → Formed u.labels
unfolding begin end
formed_step t u l f q =
    line_taken (λ e. Fine e → Formed u.labels) t u
    (λ i s b fine. subst (λ (v : Trace). Formed v.labels) (sym b.is) (formed_with t.labels s fine.2 f))
    (λ i b fine. subst (λ (v : Trace). Formed v.labels) (sym b.is) f)
    l q (event_fine l)

accepted_formed : (log : List ℕ) (t : Trace) → Accepted log t → Formed t.labels
accepted_formed log t a = accepted-keeps (λ _ t. Formed t.labels) (λ l ls t u f e. formed_step t u l f e) log t a (λ n low high. absurd (omega arith))

label_is : (log : List ℕ) (t : Trace) → Accepted log t → (n : ℕ) → 1 ≤ n → n ≤ length t.labels → IsLabel (text (label_at t.labels n))
label_is log t a n low high =
    let f = accepted_formed log t a n low high in
    subst IsLabel (sym (ap text f.1 ∙ text_of f.0)) ((form_is_label f.0).0 f.2)

-- ── a record has no small letter ──
byte_most : (b : ℕ) → LabelByte b → b ≤ 95
byte_most b (is-capital low high) = omega arith
byte_most b (digit d) = omega (arith, d.1)
byte_most b (underscore e) = omega arith

bytes_most : (s : List ℕ) → IsLabel s → (k : ℕ) → get_or s k 0 ≤ 95
bytes_most s l k =
    either_lt k (length s)
    (λ h. byte_most (get_or s k 0) (l.bytes k h))
    (λ h. let e = get_or-eq_default s 0 h in omega arith)

label_most : (s : List ℕ) → IsLabel s → (k : ℕ) → get_or (label_of s).bytes k 0 ≤ 95
unfolding label_of
label_most s l k = let e = get_d_pad 0 24 s k in let h = bytes_most s l k in omega arith

-- a read inside a list does not depend on what one past its end gives
same_read : (ls : List Label) (n : ℕ) → n < length ls → get_or ls n no_label ≡ get_or ls n absent
same_read [] n h = absurd (omega arith)
same_read (x ∷ ls) zero h = refl
same_read (x ∷ ls) (suc n) h = same_read ls n (omega arith)

none_most : (k : ℕ) → get_or no_label.bytes k 0 ≤ 95
none_most k = let e = zeros 24 k in omega arith

held_most : (ls : List Label) → Formed ls → (n k : ℕ) → get_or (get_or ls n no_label).bytes k 0 ≤ 95
held_most ls f n k =
    either_lt n (length ls)
    (λ h.
    let g = f (suc n) (omega arith) (omega arith) in
    let i : n ≡ suc n - 1 = omega arith in
    let e : get_or ls n no_label ≡ label_of g.0 = same_read ls n h ∙ (ap (λ (j : ℕ). get_or ls j absent) i ∙ g.1) in
    subst (λ (x : Label). get_or x.bytes k 0 ≤ 95) (sym e) (label_most g.0 ((form_is_label g.0).0 g.2) k))
    (λ h. subst (λ (x : Label). get_or x.bytes k 0 ≤ 95) (sym (get_or-eq_default ls no_label h)) (none_most k))

no_small : (r : Record) → SmallLetter r → Valid r → ⊥
unfolding record_of
no_small r s v =
    let ls = v.trace.labels in
    let e : get_or r.labels.labels s.label no_label ≡ get_or ls s.label no_label =
    ap (λ (z : Record). get_or z.labels.labels s.label no_label) v.encoded ∙ get_d_pad no_label 64 ls s.label in
    let m = held_most ls (accepted_formed v.log v.trace v.accepted) s.label s.place in
    let f : get_or (get_or r.labels.labels s.label no_label).bytes s.place 0 ≡ get_or (get_or ls s.label no_label).bytes s.place 0 =
    ap (λ (x : Label). get_or x.bytes s.place 0) e in
    omega (arith, s.low)

small_refused : (k : LineCall) → SmallLetter k.state → work_size k.layout ≤ length k.work → Ruled k.file → k.answer ≡ refusing k.state 21
small_refused k s long ruled =
    let d = demand-1.line k 21 in
    let none : Unknown k.layout k.state k.work = λ log t l. no_small k.state s (record { log = log; trace = t; accepted = l.accepted; encoded = l.encoded }) in
    (d.changes_nothing (d.just_where.1 (unknown long ruled none refl))).0

-- ── the label that is written in a run's line ──
-- of an accepted log no line is refused by its own bytes
stays_refused : (ls : List (List ℕ)) (c : Refusal) (u : Trace) → steps (refused c) ls ≡ next u → ⊥
unfolding step apply_to
stays_refused [] c u e = never (cc)
stays_refused (l ∷ ls) c u e = stays_refused ls c u e

not_faulty : (ls : List (List ℕ)) (a : Answer) (u : Trace) → steps a ls ≡ next u → (n : ℕ) → n < length ls → (c : Refusal) → event_of (get_or ls n []) ≡ faulty c → ⊥
unfolding step apply_to apply
not_faulty [] a u e n h c f = omega arith
not_faulty (l ∷ ls) (next t) u e zero h c f = stays_refused ls c u (ap (λ (v : Event). steps (apply_to (next t) v) ls) (sym f) ∙ e)
not_faulty (l ∷ ls) (refused d) u e zero h c f = stays_refused ls d u e
not_faulty (l ∷ ls) a u e (suc n) h c f = not_faulty ls (step a l) u e n (omega arith) c f

each_written : (log : List ℕ) (t : Trace) → Accepted log t → (k : ℕ) → k < length t.runs → (s : List ℕ) × WrittenAt log t k s
unfolding read
each_written log t a k h =
    let o = accepted_orderly log t a in
    let said = accepted_spoken log t a in
    let low = o.within k h in
    let line : ℕ = begin_line (run_at t k) - 1 in
    let is : begin_line (run_at t k) ≡ suc line = omega (arith, low.0) in
    let within : line < length (lines_of log) = omega (arith, said.count, low.0, low.1) in
    by_event k h line is within (event_of (get_or (lines_of log) line [])) refl
  where
    by_event : (k : ℕ) → k < length t.runs → (line : ℕ) → begin_line (run_at t k) ≡ suc line → line < length (lines_of log) → (e : Event) → event_of (get_or (lines_of log) line []) ≡ e
        → (s : List ℕ) × WrittenAt log t k s
    by_event k h line is within (begins i s) e =
        let b = (begins-says (get_or (lines_of log) line []) i s).0 e in
        (b.written, record { begun = h; line = line; within = within; begins_there = is; id = i; label = s; says = b; written = refl })
    by_event k h line is within (ends i) e =
        let d = (accepted_spoken log t a).ends line i within ((ends-says (get_or (lines_of log) line []) i).0 e) in
        absurd ((accepted_orderly log t a).apart k d.run h (is ∙ sym d.line))
    by_event k h line is within (faulty c) e = absurd (not_faulty (lines_of log) (next no_trace) t a.leaves line within c e)

no_bytes : (s : List ℕ) → capitals s ≡ [] → s ≡ []
no_bytes [] e = refl
no_bytes (b ∷ s) e = absurd (never (cc))

module _ (log : List ℕ) (t : Trace) (a : Accepted log t) where
  module _ (k : ℕ) (s : List ℕ) (w : WrittenAt log t k s) where
    here : BegunAt t (suc w.line) w.id w.label
    here = (accepted_spoken log t a).begins w.line w.id w.label w.within w.says

    lines : w.line < t.lines
    lines = let e = (accepted_spoken log t a).count in omega (arith, w.within)

    its : here.run ≡ k
    its =
        let o = one_line t (accepted_orderly log t a) (suc w.line) (omega arith) (omega (arith, lines)) in
        o.only here.run here.named.begun (inl here.line) ∙ sym (o.only k w.begun (inl w.begins_there))

    said : capitals s ≡ w.label
    said = ap capitals (sym w.written) ∙ w.says.capital

    none : s ≡ [] → (run_at t k).label.0 ≡ 0
    none e = subst (λ (j : ℕ). (run_at t j).label.0 ≡ 0) its (here.bare (sym said ∙ ap capitals e))

    some_label : s ≢ [] → HasLabel t k (capitals s)
    some_label n =
        subst (λ (j : ℕ). HasLabel t j (capitals s)) its
        (subst (HasLabel t here.run) (sym said) (here.labelled (λ e. n (no_bytes s (said ∙ e)))))

    hash-says : s ≢ [] → first_place (label_at t.labels (run_at t k).label.0) ≡ fnv_of (capitals s) % label_places
    unfolding first_place
    hash-says n = ap (λ (l : List ℕ). fnv_of l % label_places) (some_label n).bytes

    has-says : (l : List ℕ) → HasLabel t k l ↔ ((s ≢ []) × (capitals s ≡ l))
    has-says l = (
      (λ h. let n : s ≢ [] = λ e. h.labelled (none e) in (n, sym (some_label n).bytes ∙ h.bytes)),
      (λ p. subst (HasLabel t k) p.1 (some_label p.0)),
    )

  module _ (j k : ℕ) (s r : List ℕ) (v : WrittenAt log t j s) (w : WrittenAt log t k r) where
    same_says : SameLabel t j k ↔ ((s ≢ []) × (r ≢ []) × (capitals s ≡ capitals r))
    same_says = (
      (λ h. let p = (has-says j s v h.label).0 h.first in let q = (has-says k r w h.label).0 h.second in (p.0, q.0, p.1 ∙ sym q.1)),
      (λ p. record { label = capitals s; first = some_label j s v p.0; second = subst (HasLabel t k) (sym p.2) (some_label k r w p.1) }),
    )

    numbered : (i : ℕ) → i < length t.runs → (run_at t i).label.0 ≤ length t.labels
    numbered i h = (accepted_orderly log t a).label_numbers i h

    -- labels with the same bytes have the same number
    one_number : (l : List ℕ) → HasLabel t j l → HasLabel t k l → (run_at t j).label.0 ≡ (run_at t k).label.0
    unfolding Distinct
    one_number l h g =
        let m = (run_at t j).label.0 in
        let n = (run_at t k).label.0 in
        let p = accepted_formed log t a m (omega (arith, h.labelled)) (numbered j v.begun) in
        let q = accepted_formed log t a n (omega (arith, g.labelled)) (numbered k w.begun) in
        let e : p.0 ≡ q.0 = sym (ap text p.1 ∙ text_of p.0) ∙ (h.bytes ∙ (sym g.bytes ∙ (ap text q.1 ∙ text_of q.0))) in
        (accepted_sound log t a).distinct m n h.labelled (numbered j v.begun) g.labelled (numbered k w.begun) (p.1 ∙ (ap label_of e ∙ sym q.1))

    number_to : (x y : List ℕ) → s ≡ x → r ≡ y → (run_at t j).label.0 ≡ (run_at t k).label.0 → capitals s ≡ capitals r
    number_to [] [] e f n = ap capitals (e ∙ sym f)
    number_to [] (c ∷ y) e f n =
        absurd ((some_label k r w (λ z. never (let q : c ∷ y ≡ [] = sym f ∙ z in cc))).labelled (sym n ∙ none j s v e))
    number_to (b ∷ x) y e f n =
        let h = some_label j s v (λ z. never (let q : b ∷ x ≡ [] = sym e ∙ z in cc)) in
        let m : r ≢ [] = λ z. h.labelled (n ∙ none k r w z) in
        sym h.bytes ∙ (ap (λ (i : ℕ). text (label_at t.labels i)) n ∙ (some_label k r w m).bytes)

    number-from : (x : List ℕ) → s ≡ x → capitals s ≡ capitals r → (run_at t j).label.0 ≡ (run_at t k).label.0
    number-from [] e q = none j s v e ∙ sym (none k r w (no_bytes r (sym q ∙ ap capitals e)))
    number-from (b ∷ x) e q =
        let n : s ≢ [] = λ z. never (let g : b ∷ x ≡ [] = sym e ∙ z in cc) in
        let m : r ≢ [] = λ z. n (no_bytes s (q ∙ ap capitals z)) in
        one_number (capitals s) (some_label j s v n) (subst (HasLabel t k) (sym q) (some_label k r w m))

    number-says : ((run_at t j).label.0 ≡ (run_at t k).label.0) ↔ (capitals s ≡ capitals r)
    number-says = (number_to s r refl refl, number-from s refl)

-- ── the labels that a rule names ──
module _ (ls : List (List ℕ)) (xs : List Node) (labels : RightLabels ls) (nodes : RightNodes (length ls) xs) where
  named_low : (n : ℕ) → InRange (length ls) n (node_of xs n) → (node_of xs n).kind ≡ 4 → (node_of xs n).b < length ls
  named_low n (and e a b) k = absurd (omega arith)
  named_low n (not e a b) k = absurd (omega arith)
  named_low n (some e a b) k = absurd (omega arith)
  named_low n (has_label e a b) k = b
  named_low n (between low high a b) k = absurd (omega arith)

  stands_labels : (n : ℕ) (f : Formula) → Stands ls xs n f → EachLabel IsLabel f
  unfolding Stands
  stands_labels n (both f g) (e, s, t) = (stands_labels (node_of xs n).a f s, stands_labels (node_of xs n).b g t)
  stands_labels n (neg f) (e, s) = stands_labels (node_of xs n).a f s
  stands_labels n (exists v f) (e, a, s) = stands_labels (node_of xs n).b f s
  stands_labels n (has v l) (e, a, b) =
      let h = kind-within xs n (λ z. omega arith) in
      subst IsLabel b (labels.each (node_of xs n).b (named_low n (nodes n h) e))
  stands_labels n (pair p v w) s = tt

pub rule_names : (file : List ℕ) (f : Formula) → RuleFile file f → EachLabel IsLabel f
rule_names file f r = stands_labels r.labels r.nodes r.whole.labels r.whole.nodes (length r.nodes - 1) f r.root

pub one_label : OneLabel
one_label =
    record {
      each = each_written;
      byte = capital_is;
      has_label = has-says;
      same_label = same_says;
      number = number-says;
      hash = hash-says;
      record_labels = label_is;
      no_small_letter = no_small;
      refused = small_refused;
      rule_labels = rule_names;
    }

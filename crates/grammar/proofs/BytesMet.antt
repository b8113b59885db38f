-- What a line says by its own bytes: `event_of` answers a begin line, an end line or a refusal exactly where the bytes are such
-- a line or meet that refusal. A line is of a form, with an id's bytes and a label's bytes, or `event_of` answers 11 (`kind`). What
-- it answers of a line of a form is computed (`begin_answers`, `end_answers`), and is never 11. So a line that it answers 11 of has
-- no form.
use Prim.Native.Nat.{ℕ, zero, suc, ◌+◌, ◌*◌, ◌-◌, ◌≤◌}
use mathlib.Core.Path.{◌≡◌, refl, ap, ap₂, sym, ◌∙◌, subst}
use mathlib.Core.Logic.{◌↔◌, ◌≢◌}
use mathlib.Core.Bool.{Bool, true, false, not, ◌&&◌, ◌||◌, cond}
use mathlib.Core.List.{List, [], ◌∷◌, ◌++◌}
use native.Mathlib.Omega.{arith}
use lib.Dec.{eqb, leb}
use lib.ListN.{length, length-append, length-map}
use borrow.Author.Tests.{leb-true, le-leb, eqb-true, eqb-false, ne_eqb, not-true}
use Rattle.lists.specs.Lists.{none?, all?, has?, up_to, past}
use Rattle.lists.proofs.Cases.{either_bool, no_both, never, and_left, and_right}
use Rattle.lists.proofs.Lists.{append-nil, Free, free_more, has_seam, has_none, up_seam, past_seam}
use Rattle.labels.specs.Label.{digit?, capital, capitals, label_form?}
use Rattle.refusals.specs.declared.Refusal.TheVariants.{LineForm, LineId, LineLabel}
use Rattle.refusals.specs.declared.Refusal.{Refusal}
use Rattle.refusals.specs.Refusal.{number}
use Rattle.refusals.proofs.Numbers.{number-injective}
use Rattle.lines.specs.Event.{Event, begins, ends, faulty}
use Rattle.lines.specs.Line.{id_form?, id_range?, value, value_from, end_event, plain_event, label_event, begin_event, body_event, event_of}
use Rattle.lines.specs.Render.{label_part}
use Rattle.lines.proofs.Parts.{split_here, up_free}
use Rattle.lines.proofs.Scans.{value_grows}
use Rattle.lines.proofs.Rendered.{digits_free}
use Rattle.grammar.specs.Written.{EachByte, IsLabel, WrongLabel}
use Rattle.grammar.specs.Forms.{IdForm, IdRange, BeginForm, EndForm, Formed, as_begin, as_end, Begins, Ends}
use Rattle.grammar.specs.MetBytes.{MetBytes, no_form, no_range, no_label}
use Rattle.grammar.proofs.Written.{all_each, each_all, digit_says, form_is_label, no_form_wrong}

-- ── a byte that does not occur ──
module _ (c : ℕ) where
  free_each : (s : List ℕ) → Free c s → EachByte (λ b. b ≢ c) s
  free_each [] f k h = absurd (omega arith)
  free_each (x ∷ s) f zero h = f.0
  free_each (x ∷ s) f (suc k) h = free_each s f.1 k (omega arith)

  each_free : (s : List ℕ) → EachByte (λ b. b ≢ c) s → Free c s
  each_free [] h = tt
  each_free (x ∷ s) h = (h 0 (omega arith), each_free s (λ k w. h (suc k) (omega arith)))

  free_later : (a b : List ℕ) → Free c (a ++ b) → Free c b
  free_later [] b f = f
  free_later (x ∷ a) b f = free_later a b f.1

-- ── ids ──
no_zero_first : (d : ℕ) (ds : List ℕ) → none? ds || not (eqb d 48) ≡ true → 2 ≤ length (d ∷ ds) → d ≢ 48
no_zero_first d [] e h = absurd (omega arith)
no_zero_first d (x ∷ ds) e h = eqb-false d 48 (not-true (eqb d 48) e)

first_not_zero : (d : ℕ) (ds : List ℕ) → (2 ≤ length (d ∷ ds) → d ≢ 48) → none? ds || not (eqb d 48) ≡ true
first_not_zero d [] h = refl
first_not_zero d (x ∷ ds) h = simp (ne_eqb d 48 (h (omega arith)))

test_id : (ds : List ℕ) → id_form? ds ≡ true → IdForm ds
unfolding id_form?
test_id [] e = no_both (sym e)
test_id (d ∷ ds) e =
    let a : all? digit? (d ∷ ds) ≡ true = and_left (all? digit? (d ∷ ds)) (none? ds || not (eqb d 48)) e in
    record {
      some = omega arith;
      digits = λ k h. (digit_says _).0 (all_each digit? (d ∷ ds) a k h);
      no_leading_zero = no_zero_first d ds (and_right (all? digit? (d ∷ ds)) (none? ds || not (eqb d 48)) e);
    }

id_digits : (ds : List ℕ) → IdForm ds → all? digit? ds ≡ true
id_digits ds w = each_all digit? ds (λ k h. (digit_says _).1 (w.digits k h))

id_test : (ds : List ℕ) → IdForm ds → id_form? ds ≡ true
unfolding id_form?
id_test [] w = absurd (omega (arith, w.some))
id_test (d ∷ ds) w = ap₂ ◌&&◌ (id_digits (d ∷ ds) w) (first_not_zero d ds w.no_leading_zero)

test_range : (ds : List ℕ) → id_range? ds ≡ true → IdRange ds
unfolding id_range?
test_range ds e =
    record {
      low = leb-true 1 (value ds) (and_left (leb 1 (value ds)) (leb (value ds) 65535) e);
      high = leb-true (value ds) 65535 (and_right (leb 1 (value ds)) (leb (value ds) 65535) e);
    }

range_test : (ds : List ℕ) → IdRange ds → id_range? ds ≡ true
unfolding id_range?
range_test ds r = ap₂ ◌&&◌ (le-leb 1 (value ds) r.low) (le-leb (value ds) 65535 r.high)

no_range_test : (ds : List ℕ) → (IdRange ds → ⊥) → id_range? ds ≡ false
no_range_test ds n = either_bool (id_range? ds) (λ e. absurd (n (test_range ds e))) (λ e. e)

-- digits after a first one that is not 0 are at most four in an id
few-digits : (v : ℕ) (ds : List ℕ) → 1 ≤ v → value_from v ds ≤ 65535 → length ds ≤ 4
few-digits v [] h k = omega arith
few-digits v (a ∷ []) h k = omega arith
few-digits v (a ∷ b ∷ []) h k = omega arith
few-digits v (a ∷ b ∷ c ∷ []) h k = omega arith
few-digits v (a ∷ b ∷ c ∷ d ∷ []) h k = omega arith
few-digits v (a ∷ b ∷ c ∷ d ∷ e ∷ ds) h k =
    absurd (omega (arith, value_grows (((((v * 10 + (a - 48)) * 10 + (b - 48)) * 10 + (c - 48)) * 10 + (d - 48)) * 10 + (e - 48)) ds))

id_few : (ds : List ℕ) → IdForm ds → IdRange ds → length ds ≤ 5
unfolding value
id_few [] w r = omega arith
id_few (d ∷ []) w r = omega arith
id_few (d ∷ x ∷ ds) w r =
    let low = w.digits 0 (omega arith) in
    let z = w.no_leading_zero (omega arith) in
    let q : value_from (0 * 10 + (d - 48)) (x ∷ ds) ≤ 65535 = r.high in
    omega (arith, few-digits (0 * 10 + (d - 48)) (x ∷ ds) (omega arith) q)

-- ── the label of a line, which may be missing ──
part_free : (s : List ℕ) → Free 10 s → Free 10 (label_part s)
part_free [] f = tt
part_free (b ∷ s) f = ((λ e. omega arith), f)

not_empty : (b : ℕ) (s : List ℕ) → b ∷ s ≢ []
not_empty b s e = never (cc)

part_length : (s : List ℕ) → (capitals s ≢ [] → IsLabel (capitals s)) → length (label_part s) ≤ 25
part_length [] h = omega arith
part_length (b ∷ s) h = omega (arith, length-map (b ∷ s) capital, (h (not_empty (capital b) (capitals s))).few)

label_test : (s : List ℕ) → (capitals s ≢ [] → IsLabel (capitals s)) → none? s || label_form? (capitals s) ≡ true
label_test [] h = refl
label_test (b ∷ s) h = (form_is_label (capitals (b ∷ s))).1 (h (not_empty (capital b) (capitals s)))

wrong_test : (s : List ℕ) → 1 ≤ length s → WrongLabel (capitals s) → none? s || label_form? (capitals s) ≡ false
wrong_test [] some w = absurd (omega arith)
wrong_test (b ∷ s) some w = (no_form_wrong (capitals (b ∷ s)) (omega arith)).1 w

-- ── what is answered of a line of a form ──
line_says : (a : List ℕ) → Free 10 a → length (a ++ (10 ∷ [])) ≤ 40 → event_of (a ++ (10 ∷ [])) ≡ body_event a
unfolding event_of
line_says a f h = simp (has_seam 10 a [], past_seam 10 a [] f, up_seam 10 a [] f, le-leb (length (a ++ (10 ∷ []))) 40 h)

begin_answer : List ℕ → List ℕ → Event
begin_answer ds s = cond (id_range? ds) (cond (none? s || label_form? (capitals s)) (begins (value ds) (capitals s)) (faulty LineLabel)) (faulty LineId)

end_answer : List ℕ → Event
end_answer ds = cond (id_range? ds) (ends (value ds)) (faulty LineId)

module _ (ds : List ℕ) (w : IdForm ds) where
  no_space : Free 32 ds
  no_space = digits_free 32 ds (omega arith) (id_digits ds w)

  no_lf : Free 10 ds
  no_lf = digits_free 10 ds (omega arith) (id_digits ds w)

  begin_body : (s : List ℕ) → begin_event (ds ++ label_part s) ≡ begin_answer ds s
  unfolding begin_event plain_event label_event begin_answer
  begin_body [] = ap begin_event (append-nil ds) ∙ simp (has_none 32 ds no_space, id_test ds w)
  begin_body (b ∷ s) = simp (has_seam 32 ds (b ∷ s), up_seam 32 ds (b ∷ s) no_space, past_seam 32 ds (b ∷ s) no_space, id_test ds w)

  module _ (l : List ℕ) (short : length l ≤ 40) where
    begin_answers : (s : List ℕ) → BeginForm l ds s → event_of l ≡ begin_answer ds s
    unfolding body_event
    begin_answers s b =
        let a : List ℕ = 66 ∷ 32 ∷ ds ++ label_part s in
        let e : l ≡ a ++ (10 ∷ []) = b.0 in
        let f : Free 10 a = ((λ e. omega arith), ((λ e. omega arith), free_more 10 ds (label_part s) no_lf (part_free s (each_free 10 s b.1)))) in
        ap event_of e ∙ (line_says a f (omega (arith, ap length e)) ∙ begin_body s)

    end_answers : EndForm l ds → event_of l ≡ end_answer ds
    unfolding body_event end_event end_answer
    end_answers e =
        let a : List ℕ = 69 ∷ 32 ∷ ds in
        let f : Free 10 a = ((λ e. omega arith), ((λ e. omega arith), no_lf)) in
        ap event_of e ∙ (line_says a f (omega (arith, ap length e)) ∙ simp (id_test ds w))

never-11 : (l ds s : List ℕ) → Formed l ds s → event_of l ≡ faulty LineForm → ⊥
unfolding begin_answer end_answer
never-11 l ds s (as_begin b w short) e = go (id_range? ds) (none? s || label_form? (capitals s)) (sym (begin_answers ds w l short s b) ∙ e)
  where
    go : (x y : Bool) → cond x (cond y (begins (value ds) (capitals s)) (faulty LineLabel)) (faulty LineId) ≡ faulty LineForm → ⊥
    go true true e = never (cc)
    go true false e = let z : ◌≡◌ {A = ℕ} 0 1 = cc in omega arith
    go false y e = let z : ◌≡◌ {A = ℕ} 0 1 = cc in omega arith
never-11 l ds s (as_end f n w short) e = go (id_range? ds) (sym (end_answers ds w l short f) ∙ e)
  where
    go : (x : Bool) → cond x (ends (value ds)) (faulty LineId) ≡ faulty LineForm → ⊥
    go true e = never (cc)
    go false e = let z : ◌≡◌ {A = ℕ} 0 1 = cc in omega arith

-- ── every line is of a form, or 11 is answered of it ──
data Kind (l : List ℕ) : Type 0 where
  formed : (ds s : List ℕ) → Formed l ds s → Kind l
  formless : event_of l ≡ faulty LineForm → Kind l

module _ (l : List ℕ) (short : length l ≤ 40) where
  end_kind : (ds : List ℕ) → EndForm l ds → event_of l ≡ end_event ds → Kind l
  unfolding end_event
  end_kind ds f q = either_bool (id_form? ds) (λ e. formed ds [] (as_end f refl (test_id ds e) short)) (λ e. formless (q ∙ simp e))

  plain-kind : (ds : List ℕ) → BeginForm l ds [] → event_of l ≡ plain_event ds → Kind l
  unfolding plain_event
  plain-kind ds f q = either_bool (id_form? ds) (λ e. formed ds [] (as_begin f (test_id ds e) short)) (λ e. formless (q ∙ simp e))

  label_kind : (ds s : List ℕ) → l ≡ (66 ∷ 32 ∷ ds ++ (32 ∷ s)) ++ (10 ∷ []) → Free 10 s → event_of l ≡ label_event ds s → Kind l
  unfolding label_event
  label_kind ds [] f g q = either_bool (id_form? ds) (λ e. formless (q ∙ simp e)) (λ e. formless (q ∙ simp e))
  label_kind ds (b ∷ s) f g q =
      either_bool (id_form? ds)
      (λ e. formed ds (b ∷ s) (as_begin (f, free_each 10 (b ∷ s) g) (test_id ds e) short))
      (λ e. formless (q ∙ simp e))

  begin_kind : (r : List ℕ) → l ≡ (66 ∷ 32 ∷ r) ++ (10 ∷ []) → Free 10 r → event_of l ≡ begin_event r → Kind l
  unfolding begin_event
  begin_kind r f g q =
      either_bool (has? 32 r)
      (λ h.
      let e : r ≡ up_to 32 r ++ (32 ∷ past 32 r) = split_here 32 r h in
      let k : Free 10 (32 ∷ past 32 r) = free_later 10 (up_to 32 r) (32 ∷ past 32 r) (subst (Free 10) e g) in
      label_kind (up_to 32 r) (past 32 r) (f ∙ ap (λ (x : List ℕ). (66 ∷ 32 ∷ x) ++ (10 ∷ [])) e) k.1 (q ∙ simp h))
      (λ h. plain-kind r (f ∙ ap (λ (x : List ℕ). (66 ∷ 32 ∷ x) ++ (10 ∷ [])) (sym (append-nil r)), free_each 10 [] tt) (q ∙ simp h))

  body_kind : (a : List ℕ) → l ≡ a ++ (10 ∷ []) → Free 10 a → event_of l ≡ body_event a → Kind l
  unfolding body_event
  body_kind [] f g q = formless q
  body_kind (k ∷ []) f g q = formless q
  body_kind (k ∷ s ∷ r) f g q =
      either_bool (eqb s 32)
      (λ p. either_bool (eqb k 66)
      (λ b. begin_kind r (f ∙ first_two 66 (eqb-true k 66 b) (eqb-true s 32 p)) g.1.1 (q ∙ simp (p, b)))
      (λ b. either_bool (eqb k 69)
      (λ c. end_kind r (f ∙ first_two 69 (eqb-true k 69 c) (eqb-true s 32 p)) (q ∙ simp (p, b, c)))
      (λ c. formless (q ∙ simp (p, b, c)))))
      (λ p. formless (q ∙ simp p))
    where
      first_two : (b : ℕ) → k ≡ b → s ≡ 32 → (k ∷ s ∷ r) ++ (10 ∷ []) ≡ (b ∷ 32 ∷ r) ++ (10 ∷ [])
      first_two b p q = cc

nothing_after : (s : List ℕ) → none? s ≡ true → s ≡ []
nothing_after [] e = refl
nothing_after (x ∷ s) e = no_both (sym e)

kind : (l : List ℕ) → Kind l
unfolding event_of
kind l =
    either_bool (has? 10 l && none? (past 10 l) && leb (length l) 40)
    (λ h.
    let g : has? 10 l && none? (past 10 l) ≡ true = and_left (has? 10 l && none? (past 10 l)) (leb (length l) 40) h in
    let e = split_here 10 l (and_left (has? 10 l) (none? (past 10 l)) g) in
    let n = nothing_after (past 10 l) (and_right (has? 10 l) (none? (past 10 l)) g) in
    body_kind l (leb-true (length l) 40 (and_right (has? 10 l && none? (past 10 l)) (leb (length l) 40) h))
    (up_to 10 l) (e ∙ ap (λ (x : List ℕ). up_to 10 l ++ (10 ∷ x)) n) (up_free 10 l) (simp h))
    (λ h. formless (simp h))

-- ── what an event says of the line's bytes ──
abbrev Says : List ℕ → Event → Type 0
Says l (begins i s) = Begins l i s
Says l (ends i) = Ends l i
Says l (faulty c) = MetBytes l (number c)

module _ (l : List ℕ) where
  says_cond : (b : Bool) (x y : Event) → (b ≡ true → Says l x) → (b ≡ false → Says l y) → Says l (cond b x y)
  says_cond true x y p q = p refl
  says_cond false x y p q = q refl

  out_of_range : (ds s : List ℕ) → Formed l ds s → id_range? ds ≡ false → MetBytes l 12
  out_of_range ds s f e = no_range ds s f (λ r. no_both (sym (range_test ds r) ∙ e)) refl

  label_says : (ds s : List ℕ) → BeginForm l ds s → IdForm ds → length l ≤ 40 → IdRange ds
      → Says l (cond (none? s || label_form? (capitals s)) (begins (value ds) (capitals s)) (faulty LineLabel))
  label_says ds [] b w short r = record { digits = ds; written = []; form = b; id = w; range = r; is = refl; capital = refl; label = λ n. absurd (n refl) }
  label_says ds (x ∷ s) b w short r =
      says_cond (label_form? (capitals (x ∷ s))) _ _
      (λ e. record { digits = ds; written = x ∷ s; form = b; id = w; range = r; is = refl; capital = refl; label = λ _. (form_is_label (capitals (x ∷ s))).0 e })
      (λ e. no_label ds (x ∷ s) (as_begin b w short) r (omega arith) ((no_form_wrong (capitals (x ∷ s)) (omega arith)).0 e) refl)

  begin_says : (ds s : List ℕ) → BeginForm l ds s → IdForm ds → length l ≤ 40 → Says l (begin_answer ds s)
  unfolding begin_answer
  begin_says ds s b w short =
      says_cond (id_range? ds) _ _
      (λ e. label_says ds s b w short (test_range ds e))
      (out_of_range ds s (as_begin b w short))

  end_says : (ds : List ℕ) → EndForm l ds → IdForm ds → length l ≤ 40 → Says l (end_answer ds)
  unfolding end_answer
  end_says ds f w short =
      says_cond (id_range? ds) _ _
      (λ e. record { digits = ds; form = f; id = w; range = test_range ds e; is = refl })
      (out_of_range ds [] (as_end f refl w short))

  event_says : Says l (event_of l)
  event_says = go (kind l)
    where
      go : Kind l → Says l (event_of l)
      go (formed ds s (as_begin b w short)) = subst (Says l) (sym (begin_answers ds w l short s b)) (begin_says ds s b w short)
      go (formed ds s (as_end f n w short)) = subst (Says l) (sym (end_answers ds w l short f)) (end_says ds f w short)
      go (formless e) = subst (Says l) (sym e) (no_form (λ ds s f. never-11 l ds s f e) refl)

  -- ── and where the bytes are such, that is the event ──
  labelled : (i : ℕ) (s : List ℕ) (b : Begins l i s) → capitals b.written ≢ [] → IsLabel (capitals b.written)
  labelled i s b = subst (λ (z : List ℕ). z ≢ [] → IsLabel z) (sym b.capital) b.label

  begins-short : (i : ℕ) (s : List ℕ) → Begins l i s → length l ≤ 40
  begins-short i s b =
      let ds = b.digits in
      let few = id_few ds b.id b.range in
      let r = b.written in
      let long = part_length r (labelled i s b) in
      omega (arith, ap length b.form.0, length-append (66 ∷ 32 ∷ ds ++ label_part r) (10 ∷ []), length-append ds (label_part r))

  ends-short : (i : ℕ) → Ends l i → length l ≤ 40
  ends-short i b =
      let ds = b.digits in
      omega (arith, ap length b.form, length-append (69 ∷ 32 ∷ ds) (10 ∷ []), id_few ds b.id b.range)

  is-12 : (ds s : List ℕ) → Formed l ds s → (IdRange ds → ⊥) → event_of l ≡ faulty LineId
  unfolding begin_answer end_answer
  is-12 ds s (as_begin b w short) n = begin_answers ds w l short s b ∙ simp (no_range_test ds n)
  is-12 ds s (as_end f e w short) n = end_answers ds w l short f ∙ simp (no_range_test ds n)

  is-13 : (ds s : List ℕ) → Formed l ds s → IdRange ds → 1 ≤ length s → WrongLabel (capitals s) → event_of l ≡ faulty LineLabel
  unfolding begin_answer
  is-13 ds s (as_begin b w short) r some wrong = begin_answers ds w l short s b ∙ simp (range_test ds r, wrong_test s some wrong)
  is-13 ds s (as_end f e w short) r some wrong = absurd (omega (arith, ap length e))

  says_event : (e : Event) → Says l e → event_of l ≡ e
  unfolding begin_answer end_answer
  says_event (begins i s) b =
      begin_answers b.digits b.id l (begins-short i s b) b.written b.form
      ∙ simp (range_test b.digits b.range, label_test b.written (labelled i s b)) (ap₂ begins b.is b.capital)
  says_event (ends i) b =
      end_answers b.digits b.id l (ends-short i b) b.form ∙ simp (range_test b.digits b.range) (ap ends b.is)
  says_event (faulty c) (no_form n e) = go (kind l) ∙ ap faulty (sym (number-injective _ _ e))
    where
      go : Kind l → event_of l ≡ faulty LineForm
      go (formed ds s f) = absurd (n ds s f)
      go (formless q) = q
  says_event (faulty c) (no_range ds s f n e) = is-12 ds s f n ∙ ap faulty (sym (number-injective _ _ e))
  says_event (faulty c) (no_label ds s f r some wrong e) = is-13 ds s f r some wrong ∙ ap faulty (sym (number-injective _ _ e))

  is_event : (e : Event) → (event_of l ≡ e) ↔ Says l e
  is_event e = ((λ q. subst (Says l) q event_says), says_event e)

  pub begins-says : (i : ℕ) (s : List ℕ) → (event_of l ≡ begins i s) ↔ Begins l i s
  begins-says i s = is_event (begins i s)

  pub ends-says : (i : ℕ) → (event_of l ≡ ends i) ↔ Ends l i
  ends-says i = is_event (ends i)

  pub faulty-says : (e : Refusal) → (event_of l ≡ faulty e) ↔ MetBytes l (number e)
  faulty-says e = is_event (faulty e)

  -- the same, by the number
  pub faulty-number : (c : ℕ) → ((e : Refusal) × ((event_of l ≡ faulty e) × (number e ≡ c))) ↔ MetBytes l c
  faulty-number c = ((λ w. subst (MetBytes l) w.1.1 ((faulty-says w.0).0 w.1.0)), λ m. by m m)
    where
      by : MetBytes l c → MetBytes l c → (e : Refusal) × ((event_of l ≡ faulty e) × (number e ≡ c))
      by m (no_form _ q) = (LineForm, ((faulty-says LineForm).1 (subst (MetBytes l) q m), sym q))
      by m (no_range _ _ _ _ q) = (LineId, ((faulty-says LineId).1 (subst (MetBytes l) q m), sym q))
      by m (no_label _ _ _ _ _ _ q) = (LineLabel, ((faulty-says LineLabel).1 (subst (MetBytes l) q m), sym q))

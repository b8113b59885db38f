-- A log in another case says the same. What a line says depends on its first byte and on the capitals of the others (`event_kept`), and
-- the lines of a log depend on the first byte of each and on the capitals of the others (`lines_folded`).
use Prim.Native.Nat.{ℕ, zero, suc}
use mathlib.Core.Path.{◌≡◌, refl, ap, ap₂, sym, ◌∙◌}
use mathlib.Core.Bool.{Bool, true, false, not, ◌&&◌, ◌||◌, cond}
use mathlib.Core.List.{List, [], ◌∷◌, map}
use native.Mathlib.Omega.{arith}
use lib.Dec.{eqb, leb}
use lib.ListN.{length, get_or, length-map}
use borrow.Author.Tests.{le-leb, lt-leb, eqb-true}
use Rattle.lists.specs.Lists.{none?, all?, has?, up_to, past}
use Rattle.lists.proofs.Cases.{either_lt, either_bool, never, and_left, and_right}
use Rattle.labels.specs.Label.{digit?, capital, capitals, label_form?}
use Rattle.labels.proofs.Capitals.{capital_low, capital_high, capital-small, capital_sign, capitals-has, capitals_up, capitals-past}
use Rattle.refusals.specs.declared.Refusal.TheVariants.{LineForm, LineId, LineLabel}
use Rattle.lines.specs.Event.{Event, begins, faulty}
use Rattle.lines.specs.Line.{id_form?, id_range?, value, end_event, plain_event, label_event, begin_event, body_event, event_of}
use Rattle.lines.specs.Log.{glue, lines_of}
use Rattle.letter_case.specs.Recased.{RecasedLog}

-- ── an id's digits have no case ──
digit_capital : (b : ℕ) → digit? (capital b) ≡ digit? b
unfolding digit?
digit_capital b =
    either_lt b 97
    (λ h. ap digit? (sym (capital_low b h)))
    (λ h. either_lt 122 b
    (λ k. ap digit? (sym (capital_high b k)))
    (λ k.
    let e = capital-small b h k in
    simp (le-leb 48 (capital b) (omega arith), lt-leb (capital b) 57 (omega arith), le-leb 48 b (omega arith), lt-leb b 57 (omega arith))))

digits-capital : (s : List ℕ) → all? digit? (capitals s) ≡ all? digit? s
digits-capital [] = refl
digits-capital (b ∷ s) = ap₂ ◌&&◌ (digit_capital b) (digits-capital s)

none_capitals : (s : List ℕ) → none? (capitals s) ≡ none? s
none_capitals [] = refl
none_capitals (b ∷ s) = refl

id_capital : (s : List ℕ) → id_form? (capitals s) ≡ id_form? s
unfolding id_form?
id_capital [] = refl
id_capital (d ∷ ds) =
    ap₂ ◌&&◌ (digits-capital (d ∷ ds)) (ap₂ (λ (x y : Bool). x || not y) (none_capitals ds) (capital_sign d 48 (omega arith)))

digit_stays : (b : ℕ) → digit? b ≡ true → capital b ≡ b
unfolding digit?
digit_stays b e =
    either_lt b 97
    (λ h. sym (capital_low b h))
    (λ h. let f : leb b 57 ≡ true = and_right (leb 48 b) (leb b 57) e in absurd (never (ap (λ (x : Bool). cond x 0 1) (sym f ∙ lt-leb b 57 (omega arith)))))

digits_stay : (s : List ℕ) → all? digit? s ≡ true → capitals s ≡ s
digits_stay [] e = refl
digits_stay (b ∷ s) e = ap₂ ◌∷◌ (digit_stays b (and_left (digit? b) (all? digit? s) e)) (digits_stay s (and_right (digit? b) (all? digit? s) e))

id_stays : (s : List ℕ) → id_form? s ≡ true → capitals s ≡ s
unfolding id_form?
id_stays [] e = refl
id_stays (d ∷ ds) e = digits_stay (d ∷ ds) (and_left (all? digit? (d ∷ ds)) (none? ds || not (eqb d 48)) e)

-- ── what a part of a line says ──
-- capitals are their own
capital-twice : (b : ℕ) → capital (capital b) ≡ capital b
capital-twice b =
    either_lt b 97
    (λ h. ap capital (sym (capital_low b h)))
    (λ h. either_lt 122 b
    (λ k. ap capital (sym (capital_high b k)))
    (λ k. let e = capital-small b h k in sym (capital_low (capital b) (omega arith))))

capitals-twice : (s : List ℕ) → capitals (capitals s) ≡ capitals s
capitals-twice [] = refl
capitals-twice (b ∷ s) = ap₂ ◌∷◌ (capital-twice b) (capitals-twice s)

end_capital : (s : List ℕ) → end_event (capitals s) ≡ end_event s
unfolding end_event
end_capital s =
    either_bool (id_form? s)
    (λ e. ap end_event (id_stays s e))
    (λ e. simp (id_capital s, e))

plain-capital : (s : List ℕ) → plain_event (capitals s) ≡ plain_event s
unfolding plain_event
plain-capital s =
    either_bool (id_form? s)
    (λ e. ap plain_event (id_stays s e))
    (λ e. simp (id_capital s, e))

label_capital : (i l : List ℕ) → label_event (capitals i) (capitals l) ≡ label_event i l
unfolding label_event
label_capital i l =
    either_bool (id_form? i)
    (λ e.
    ap (λ (x : List ℕ). label_event x (capitals l)) (id_stays i e)
    ∙ ap₂ (λ (x : Bool) (y : List ℕ). cond (id_form? i && not x) (cond (id_range? i) (cond (label_form? y) (begins (value i) y) (faulty LineLabel)) (faulty LineId)) (faulty LineForm)) (none_capitals l) (capitals-twice l))
    (λ e. simp (id_capital i, e))

begin_capital : (r : List ℕ) → begin_event (capitals r) ≡ begin_event r
unfolding begin_event
begin_capital r =
    ap (λ (x : Bool). cond x (label_event (up_to 32 (capitals r)) (past 32 (capitals r))) (plain_event (capitals r))) (capitals-has 32 (omega arith) r)
    ∙ ap₂ (λ (x y : Event). cond (has? 32 r) x y)
    (ap₂ label_event (capitals_up 32 (omega arith) r) (capitals-past 32 (omega arith) r) ∙ label_capital (up_to 32 r) (past 32 r))
    (plain-capital r)

-- ── a whole line: its first byte, and the capitals of the others ──
kept : List ℕ → List ℕ
kept [] = []
kept (b ∷ s) = b ∷ capitals s

body_kept : (a : List ℕ) → body_event (kept a) ≡ body_event a
unfolding body_event kept
body_kept [] = refl
body_kept (k ∷ []) = refl
body_kept (k ∷ s ∷ r) =
    ap (λ (x : Bool). cond x (cond (eqb k 66) (begin_event (capitals r)) (cond (eqb k 69) (end_event (capitals r)) (faulty LineForm))) (faulty LineForm)) (capital_sign s 32 (omega arith))
    ∙ ap₂ (λ (x y : Event). cond (eqb s 32) (cond (eqb k 66) x (cond (eqb k 69) y (faulty LineForm))) (faulty LineForm)) (begin_capital r) (end_capital r)

past_kept : (b : ℕ) (s : List ℕ) → past 10 (b ∷ capitals s) ≡ capitals (past 10 (b ∷ s))
past_kept b s = either_bool (eqb b 10) (λ e. simp e) (λ e. simp e (capitals-past 10 (omega arith) s))

up_kept : (b : ℕ) (s : List ℕ) → up_to 10 (b ∷ capitals s) ≡ kept (up_to 10 (b ∷ s))
unfolding kept
up_kept b s = either_bool (eqb b 10) (λ e. simp e) (λ e. simp e (ap (λ (x : List ℕ). b ∷ x) (capitals_up 10 (omega arith) s)))

event_kept : (l : List ℕ) → event_of (kept l) ≡ event_of l
unfolding event_of kept
event_kept [] = refl
event_kept (b ∷ s) =
    let has : has? 10 (b ∷ capitals s) ≡ has? 10 (b ∷ s) = ap (λ (x : Bool). eqb b 10 || x) (capitals-has 10 (omega arith) s) in
    let rest : none? (past 10 (b ∷ capitals s)) ≡ none? (past 10 (b ∷ s)) = ap none? (past_kept b s) ∙ none_capitals (past 10 (b ∷ s)) in
    let long : length (b ∷ capitals s) ≡ length (b ∷ s) = ap suc (length-map s capital) in
    let says : body_event (up_to 10 (b ∷ capitals s)) ≡ body_event (up_to 10 (b ∷ s)) = ap body_event (up_kept b s) ∙ body_kept (up_to 10 (b ∷ s)) in
    λ i. cond (has i && rest i && leb (long i) 40) (says i) (faulty LineForm)

-- ── the lines of a log ──
folded : Bool → List ℕ → List ℕ
folded first [] = []
folded first (b ∷ s) = cond first b (capital b) ∷ folded (eqb b 10) s

-- the rest of a line, and the lines behind it
rested : List (List ℕ) → List (List ℕ)
rested [] = []
rested (l ∷ ls) = capitals l ∷ map kept ls

glue_kept : (b : ℕ) (ls : List (List ℕ)) → glue b (rested ls) ≡ map kept (glue b ls)
unfolding kept rested
glue_kept b [] = refl
glue_kept b (l ∷ ls) = refl

glue_rested : (b : ℕ) (ls : List (List ℕ)) → glue (capital b) (rested ls) ≡ rested (glue b ls)
unfolding kept rested
glue_rested b [] = refl
glue_rested b (l ∷ ls) = refl

lines_folded : (first : Bool) (s : List ℕ) → lines_of (folded first s) ≡ cond first (map kept (lines_of s)) (rested (lines_of s))
unfolding folded rested kept
lines_folded true [] = refl
lines_folded false [] = refl
lines_folded true (b ∷ s) =
    either_bool (eqb b 10)
    (λ e. simp e (ap (λ (x : List (List ℕ)). (b ∷ []) ∷ x) (lines_folded true s)))
    (λ e. simp e (ap (glue b) (lines_folded false s) ∙ glue_kept b (lines_of s)))
lines_folded false (b ∷ s) =
    either_bool (eqb b 10)
    (λ e. simp (capital_sign b 10 (omega arith), e) (ap (λ (x : List (List ℕ)). (capital b ∷ []) ∷ x) (lines_folded true s)))
    (λ e. simp (capital_sign b 10 (omega arith), e) (ap (glue (capital b)) (lines_folded false s) ∙ glue_rested b (lines_of s)))

events_kept : (ls : List (List ℕ)) → map event_of (map kept ls) ≡ map event_of ls
events_kept [] = refl
events_kept (l ∷ ls) = ap₂ ◌∷◌ (event_kept l) (events_kept ls)

-- ── in another case ──
-- the first byte, where it is the first of a line, and the bytes behind
module _ (first : Bool) (s : List ℕ) where
  Open : ℕ → Type 0
  Open zero = first ≡ true
  Open (suc k) = get_or s k 0 ≡ 10

folded_same : (first : Bool) (s r : List ℕ) → capitals s ≡ capitals r → ((p : ℕ) → Open first s p → get_or s p 0 ≡ get_or r p 0) → folded first s ≡ folded first r
unfolding folded Open
folded_same first [] [] e h = refl
folded_same first [] (c ∷ r) e h = absurd (never (ap (λ (x : List ℕ). cond (none? x) 0 1) e))
folded_same first (b ∷ s) [] e h = absurd (never (ap (λ (x : List ℕ). cond (none? x) 0 1) (sym e)))
folded_same first (b ∷ s) (c ∷ r) e h =
    let one : capital b ≡ capital c = ap (λ (x : List ℕ). get_or x 0 0) e in
    let more : capitals s ≡ capitals r = cc in
    let lf : eqb b 10 ≡ eqb c 10 = sym (capital_sign b 10 (omega arith)) ∙ (ap (λ (x : ℕ). eqb x 10) one ∙ capital_sign c 10 (omega arith)) in
    let here : cond first b (capital b) ≡ cond first c (capital c) = byte first (λ q. h 0 q) one in
    let rest : folded (eqb b 10) s ≡ folded (eqb b 10) r = folded_same (eqb b 10) s r more (λ p q. h (suc p) (behind p q)) in
    ap₂ ◌∷◌ here (rest ∙ ap (λ (x : Bool). folded x r) lf)
  where
    byte : (f : Bool) → (f ≡ true → b ≡ c) → capital b ≡ capital c → cond f b (capital b) ≡ cond f c (capital c)
    byte true p q = p refl
    byte false p q = q

    behind : (p : ℕ) → Open (eqb b 10) s p → Open first (b ∷ s) (suc p)
    behind zero q = eqb-true b 10 q
    behind (suc p) q = q

module _ (log log' : List ℕ) (w : RecasedLog log log') where
  first_bytes : (p : ℕ) → Open true log p → get_or log p 0 ≡ get_or log' p 0
  unfolding Open
  first_bytes zero q = w.others 0 (λ b. absurd (omega (arith, b.1)))
  first_bytes (suc k) q = w.others (suc k) (λ b. b.2 (ap (λ (n : ℕ). get_or log n 0) (let e = b.1 in let f : b.0 ≡ k = omega arith in f) ∙ q))

  -- THE LAW for a log: its lines say the same
  pub lines_recased : map event_of (lines_of log) ≡ map event_of (lines_of log')
  lines_recased =
      sym (events_kept (lines_of log))
      ∙ (ap (map event_of) (sym (lines_folded true log) ∙ (ap lines_of (folded_same true log log' w.capital first_bytes) ∙ lines_folded true log'))
      ∙ events_kept (lines_of log'))

kept_same : (l m : List ℕ) → capitals l ≡ capitals m → get_or l 0 0 ≡ get_or m 0 0 → kept l ≡ kept m
unfolding kept
kept_same [] [] e h = refl
kept_same [] (c ∷ m) e h = absurd (never (ap (λ (x : List ℕ). cond (none? x) 0 1) e))
kept_same (b ∷ l) [] e h = absurd (never (ap (λ (x : List ℕ). cond (none? x) 0 1) (sym e)))
kept_same (b ∷ l) (c ∷ m) e h = let more : capitals l ≡ capitals m = cc in ap₂ ◌∷◌ h more

-- THE LAW for one line
pub line_recased : (l m : List ℕ) → RecasedLog l m → event_of l ≡ event_of m
unfolding Open
line_recased l m w =
    sym (event_kept l) ∙ (ap event_of (kept_same l m w.capital (first_bytes l m w 0 refl)) ∙ event_kept m)

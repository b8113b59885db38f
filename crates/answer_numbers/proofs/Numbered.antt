-- Each answer as a number: of a set, of two runs, of a line with its record in bytes and its tally, of a whole log, of a report.
use Prim.Native.Nat.{ℕ, ◌+◌, ◌*◌, ◌<◌, ◌≤◌}
use mathlib.Core.Path.{◌≡◌, refl, ap, sym, subst, ◌∙◌}
use mathlib.Core.List.{List, [], ◌∷◌}
use mathlib.Core.Option.{Option, none, some}
use native.Mathlib.Omega.{arith}
use lib.ListN.{length, set}
use borrow.Author.Tests.{lt-ltb, le-ltb, eq-eqb, ne_eqb}
use Rattle.std.specs.Prelude.{Result, Ok, Err}
use Rattle.refusals.specs.Refusal.{number}
use Rattle.refusals.specs.declared.Refusal.{Refusal}
use Rattle.trace.specs.declared.Record.{Record}
use Rattle.pairs.specs.declared.Layout.{Layout}
use Rattle.pairs.specs.declared.Layout.TheVariants.{Square, Half}
use Rattle.reading.specs.declared.Ending.{Ending}
use Rattle.reading.specs.declared.LogRead.{LogRead}
use Rattle.single.specs.declared.Outcome.{Outcome}
use Rattle.single.specs.declared.Outcome.TheVariants.{Holds, Fails, Refused}
use Rattle.single.specs.declared.Checked.{Checked}
use Rattle.tallies.specs.declared.Tally.{Tally}
use Rattle.tallies.specs.declared.Tallied.{Tallied}
use Rattle.output.specs.declared.Written.{Written}
use Rattle.whole_log.specs.declared.Mode.TheVariants.{FirstFailure, Full}
use Rattle.whole_log.proofs.Part.{not_full}
use Rattle.report.specs.declared.Reported.{Reported}
use Rattle.record_bytes.specs.Form.{record_size}
use Rattle.record_bytes.specs.Calls.{pack_of, Packs}
use Rattle.answer_numbers.specs.Numbers.{refusal, NumberedAs, answer_number, layout_named, NamesMode, ByNamed, ByLayout, outcome_number, ending_number, log_number, report_number, ReportFits, written_number, WrittenFits}
use Rattle.answer_numbers.specs.InBytes.{as_byte, record_in, bytes_after, line_numbered, tally_in, numbers_after, tallied_numbered, bytes_left, log_kept}

-- ── refusals ──
-- an error that tells its number as a refusal does
abbrev pub TellsNumber : Refusal → ℕ → Type 0
TellsNumber e c = c ≡ number e

pub refusal_same : (e : Refusal) (n : ℕ) → (c : ℕ) × TellsNumber e c × (n ≡ refusal c) → n ≡ refusal (number e)
refusal_same e n (c, told, is) = is ∙ ap refusal told

pub numbered_same : (r : Result ℕ Refusal) (n : ℕ) → NumberedAs TellsNumber (λ (k : ℕ). k) r n → n ≡ answer_number r
numbered_same (Ok x) n w = w
numbered_same (Err e) n (c, told, is) = is ∙ ap refusal told

-- ── numbers in a byte ──
pub byte_above : (a : ℕ) → 255 < a → 255 ≡ as_byte a
byte_above a h = simp (lt-ltb _ _ h)

pub byte_same : (a : ℕ) → a ≤ 255 → a ≡ as_byte a
byte_same a h = simp (le-ltb _ _ h)

-- ── one line ──
-- what packing a record answers
abbrev pub Packed : Type 0
Packed = Result (Unit {0}) Refusal

-- a buffer that is long enough
pub packed : (r : Record) (b : List ℕ) (p : Packed) (b' : List ℕ) → record_size ≤ length b → Packs r b p b' → b' ≡ record_in r b
unfolding pack_of
packed r b p b' h k = ap (λ (z : Packed × List ℕ). z.1) k.answer ∙ simp (le-ltb _ _ h)

module _ (c : Checked) (b : List ℕ) where
  numbered : (o : Outcome) → c.outcome ≡ o → ◌≡◌ {A = ℕ × List ℕ} (outcome_number o, bytes_after o c.state b) (line_numbered c b)
  numbered o e = sym (ap (λ (x : Outcome). (outcome_number x, bytes_after x c.state b)) e)

  pub kept_refused : (n : ℕ) → c.outcome ≡ Refused n → ◌≡◌ {A = ℕ × List ℕ} (n * 65536, b) (line_numbered c b)
  kept_refused n e = numbered (Refused n) e

  module _ (long : record_size ≤ length b) (p : Packed) (b' : List ℕ) (k : Packs c.state b p b') where
    pub kept_holds : c.outcome ≡ Holds → ◌≡◌ {A = ℕ × List ℕ} (1, b') (line_numbered c b)
    kept_holds e = ap (λ (x : List ℕ). (1, x)) (packed c.state b p b' long k) ∙ numbered Holds e

    pub kept_fails : c.outcome ≡ Fails → ◌≡◌ {A = ℕ × List ℕ} (0, b') (line_numbered c b)
    kept_fails e = ap (λ (x : List ℕ). (0, x)) (packed c.state b p b' long k) ∙ numbered Fails e

pub ruleset kept = (kept_refused, kept_holds, kept_fails)

-- ── one line with a tally ──
pub second_place : (s : List ℕ) → 5 ≤ length s → 2 ≤ length s
second_place s h = omega arith

pub third_place : (s : List ℕ) → 5 ≤ length s → 3 ≤ length s
third_place s h = omega arith

pub fourth_place : (s : List ℕ) → 5 ≤ length s → 4 ≤ length s
fourth_place s h = omega arith

pub ruleset room = (second_place, third_place, fourth_place)

pub stored : (y : Tally) (s : List ℕ) → 5 ≤ length s
    → set (set (set (set (set s 0 y.lines) 1 y.begun) 2 y.finished) 3 y.running) 4 y.failing ≡ tally_in y s
stored y (a ∷ b ∷ c ∷ d ∷ e ∷ s) h = refl
stored y (a ∷ b ∷ c ∷ d ∷ []) h = absurd (omega arith)
stored y (a ∷ b ∷ c ∷ []) h = absurd (omega arith)
stored y (a ∷ b ∷ []) h = absurd (omega arith)
stored y (a ∷ []) h = absurd (omega arith)
stored y [] h = absurd (omega arith)

abbrev Kept : Type 0
Kept = ℕ × List ℕ × List ℕ

module _ (c : Tallied) (b s : List ℕ) where
  with_tally_lem : (o : Outcome) → c.outcome ≡ o
      → ◌≡◌ {A = Kept} (outcome_number o, bytes_after o c.state b, numbers_after o c.tally s) (tallied_numbered c b s)
  with_tally_lem o e = sym (ap (λ (x : Outcome). (outcome_number x, bytes_after x c.state b, numbers_after x c.tally s)) e)

  pub tallied_refused : (n : ℕ) → c.outcome ≡ Refused n → ◌≡◌ {A = Kept} (n * 65536, b, s) (tallied_numbered c b s)
  tallied_refused n e = with_tally_lem (Refused n) e

  module _ (long : record_size ≤ length b) (p : Packed) (b' : List ℕ) (k : Packs c.state b p b') (s' : List ℕ) (q : s' ≡ tally_in c.tally s) where
    pub tallied-holds : c.outcome ≡ Holds → ◌≡◌ {A = Kept} (1, b', s') (tallied_numbered c b s)
    tallied-holds e = (λ i. (1, packed c.state b p b' long k i, q i)) ∙ with_tally_lem Holds e

    pub tallied-fails : c.outcome ≡ Fails → ◌≡◌ {A = Kept} (0, b', s') (tallied_numbered c b s)
    tallied-fails e = (λ i. (0, packed c.state b p b' long k i, q i)) ∙ with_tally_lem Fails e

pub ruleset kept-tallied = (tallied_refused, tallied-holds, tallied-fails)

-- ── a whole log ──
pub read_whole : (a : LogRead) → a.ending ≡ Ending.Read → a.state.lines.0 ≡ log_number a
read_whole a e = sym (ap (λ (x : Ending). ending_number x a.state.lines.0) e)

pub refused_at : (a : LogRead) (n l : ℕ) → a.ending ≡ Ending.Refused n l → n * 65536 + l ≡ log_number a
refused_at a n l e = sym (ap (λ (x : Ending). ending_number x a.state.lines.0) e)

module _ (a : LogRead) (b : List ℕ) (n : ℕ) (e : n ≡ log_number a) where
  left_log : (x : Ending) → a.ending ≡ x → (b' : List ℕ) → b' ≡ bytes_left x a.state b → ◌≡◌ {A = ℕ × List ℕ} (n, b') (log_kept a b)
  left_log x q b' k = λ i. (e i, (k ∙ sym (ap (λ (z : Ending). bytes_left z a.state b) q)) i)

  pub no_line : (c l : ℕ) → a.ending ≡ Ending.Refused c l → l ≡ 0 → ◌≡◌ {A = ℕ × List ℕ} (n, b) (log_kept a b)
  no_line c l q z = left_log (Ending.Refused c l) q b (simp (eq-eqb _ _ z))

  module _ (long : record_size ≤ length b) (p : Packed) (b' : List ℕ) (k : Packs a.state b p b') where
    pub all_lines : a.ending ≡ Ending.Read → ◌≡◌ {A = ℕ × List ℕ} (n, b') (log_kept a b)
    all_lines q = left_log Ending.Read q b' (packed a.state b p b' long k)

    pub some_lines : (c l : ℕ) → a.ending ≡ Ending.Refused c l → (l ≡ 0 → ⊥) → ◌≡◌ {A = ℕ × List ℕ} (n, b') (log_kept a b)
    some_lines c l q z = left_log (Ending.Refused c l) q b' (packed a.state b p b' long k ∙ simp (ne_eqb _ _ z))

pub ruleset kept-log = (no_line, all_lines, some_lines)

-- ── a report ──
pub length_fits : (a : Reported) → ReportFits a → (n : ℕ) → a ≡ Reported.Length n → n < 4294967296
length_fits a h n e = omega (arith, h n e)

pub report-length : (a : Reported) (n : ℕ) → a ≡ Reported.Length n → n ≡ report_number a
report-length a n e = sym (ap report_number e)

pub refused_report : (a : Reported) (n : ℕ) → a ≡ Reported.Refused n → n * 65536 ≡ report_number a
refused_report a n e = sym (ap report_number e)

-- ── a rule from a text, a text from a rule ──
pub written_fits : (a : Written) → WrittenFits a → (n : ℕ) → a ≡ Written.Length n → n < 4294967296
written_fits a h n e = omega (arith, h n e)

pub written_length : (a : Written) (n : ℕ) → a ≡ Written.Length n → n ≡ written_number a
written_length a n e = sym (ap written_number e)

pub refused_written : (a : Written) (n : ℕ) → a ≡ Written.Refused n → n * 65536 ≡ written_number a
refused_written a n e = sym (ap written_number e)

-- ── layouts ──
pub square-named : (n : ℕ) → n ≡ 0 → layout_named n ≡ some Square
square-named n e = simp (eq-eqb _ _ e)

pub half-named : (n : ℕ) → n ≤ 1 → (n ≡ 0 → ⊥) → layout_named n ≡ some Half
half-named n h e = let o : n ≡ 1 = omega arith in simp (ne_eqb _ _ e, eq-eqb _ _ o)

none_named : (n : ℕ) → 1 < n → layout_named n ≡ none
none_named n h = simp (ne_eqb n 0 (λ e. omega arith), ne_eqb n 1 (λ e. omega arith))

-- a call that a layout's number names, and one that no layout's number does
pub by_layout : (n : ℕ) (says : Layout → Type 0) (refuses : Type 0) (lay : Layout) → layout_named n ≡ some lay → says lay → ByLayout n says refuses
unfolding ByLayout
by_layout n says refuses lay e s = subst (λ (x : Option Layout). ByNamed x says refuses) (sym e) s

pub no_layout : (n : ℕ) (says : Layout → Type 0) (refuses : Type 0) → 1 < n → refuses → ByLayout n says refuses
unfolding ByLayout
no_layout n says refuses h r = subst (λ (x : Option Layout). ByNamed x says refuses) (sym (none_named n h)) r

-- ── modes ──
pub full_named : (n : ℕ) → n ≡ 1 → NamesMode n Full
full_named n e = record { answer = simp (eq-eqb n 1 e); full = (λ _. e, λ _. refl) }

pub default_named : (n : ℕ) → (n ≡ 1 → ⊥) → NamesMode n FirstFailure
default_named n d = record { answer = simp (ne_eqb n 1 d); full = (λ e. absurd (not_full e), λ e. absurd (d e)) }

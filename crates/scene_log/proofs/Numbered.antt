-- The calls that answer a number: sets of relations, a whole log, a report.
use Prim.Native.Nat.{ℕ, ◌<◌}
use mathlib.Core.Path.{◌≡◌, ap, sym, subst, ◌∙◌}
use mathlib.Core.List.{List}
use native.Mathlib.Omega.{arith}
use Rattle.std.specs.Prelude.{Result as Answer}
use Rattle.lists.proofs.Cases.{either_lt}
use Rattle.refusals.specs.declared.Refusal.{Refusal}
use Rattle.pairs.specs.declared.Layout.{Layout}
use Rattle.relations.specs.Runs.{Conversed}
use Rattle.relations.specs.Compose.{composed_of, Composition}
use Rattle.relations.proofs.Sets.{not_conversed}
use Rattle.relations.proofs.Demand.{demand-3, first_no_set, second_no_set}
use Rattle.reading.specs.declared.LogRead.{LogRead}
use Rattle.whole_log.specs.declared.Mode.{Mode}
use Rattle.whole_log.specs.Log.{ChecksLog}
use Rattle.whole_log.specs.Part.{read_part, ChecksPart}
use Rattle.report.specs.declared.Reported.{Reported}
use Rattle.report.specs.Report.{Result, Reports, ReportsPart}
use Rattle.answer_numbers.specs.Numbers.{answer_number, log_number, report_number, mode_named, NamesMode}
use Rattle.answer_numbers.specs.InBytes.{as_byte}
use Rattle.answer_numbers.proofs.Numbered.{byte_above, byte_same}
use Rattle.scene_log.specs.Numbers.{log_numbered, report_numbered, ComposesNumbers, ConversesNumber, ChecksLogNumber, ReportsNumber}

-- ── sets of relations ──
-- what the calls on sets answer
abbrev Answered : Type 0
Answered = Answer ℕ Refusal

-- a number above 63 is no set, and neither is its byte
above-63 : (a : ℕ) → 63 < a → 63 < as_byte a
above-63 a h = either_lt 255 a (λ g. omega (arith, byte_above a g)) (λ g. omega (arith, byte_same a g))

sets_as_bytes : (a b : ℕ) → composed_of (as_byte a) (as_byte b) ≡ composed_of a b
sets_as_bytes a b =
    either_lt 63 a
    (λ h. sym (first_no_set (as_byte a) (as_byte b) (above-63 a h)).answer ∙ (first_no_set a b h).answer)
    (λ h.
    let same : a ≡ as_byte a = byte_same a (omega arith) in
    either_lt 63 b
    (λ g. sym (second_no_set (as_byte a) (as_byte b) (omega arith) (above-63 b g)).answer ∙ (second_no_set a b h g).answer)
    (λ g. sym (λ i. composed_of (same i) (byte_same b (omega arith) i))))

pub composes : (a b a' : ℕ) → a' ≡ as_byte a → (b' : ℕ) → b' ≡ as_byte b → (w : Answered) → Composition a' b' w → (n : ℕ) → n ≡ answer_number w → ComposesNumbers a b n
composes a b a' p b' q w c n e =
    let bytes : composed_of a' b' ≡ composed_of a b = (λ i. composed_of (p i) (q i)) ∙ sets_as_bytes a b in
    record {
      answer = e ∙ ap answer_number (c.answer ∙ bytes);
      is_set = λ d z. c.is_set d (c.answer ∙ (bytes ∙ z));
      demand-3 = demand-3;
    }

pub converses : (a a' : ℕ) → a' ≡ as_byte a → (w : Answered) → Conversed a' w → (n : ℕ) → n ≡ answer_number w → ConversesNumber a n
converses a a' q w c n e =
    either_lt 63 a
    (λ h.
    let k = not_conversed a h in
    let none = not_conversed a' (subst (λ (z : ℕ). 63 < z) (sym q) (above-63 a h)) in
    record { answer = e ∙ ap answer_number (c.answer ∙ (sym none.answer ∙ k.answer)); meaning = subst (Conversed a) k.answer k })
    (λ h.
    let same : a' ≡ a = q ∙ sym (byte_same a (omega arith)) in
    let m : Conversed a w = subst (λ (z : ℕ). Conversed z w) same c in
    record { answer = e ∙ ap answer_number m.answer; meaning = subst (Conversed a) m.answer m })

-- ── a whole log ──
checks : (lay : Layout) (file log w out : List ℕ) (a : LogRead) (n : ℕ) (w' out' : List ℕ)
    → ChecksLog lay file log w out a w' out' → n ≡ log_number a → ChecksLogNumber lay file log w out n w' out'
checks lay file log w out a n w' out' c e =
    record {
      answer = ap (λ (k : ℕ). (k, w', out')) e ∙ ap log_numbered c.answer;
      meaning = subst (λ (z : LogRead). ChecksLog lay file log w out z w' out') (ap (λ (z : LogRead × List ℕ × List ℕ). z.0) c.answer) c;
    }

-- in the mode that a number names
pub checks_part : (lay : Layout) (m : ℕ) (how : Mode) → NamesMode m how → (file log w out : List ℕ) (a : LogRead) (n : ℕ) (w' out' : List ℕ)
    → ChecksPart lay how file log w out a w' out' → n ≡ log_number a → ChecksLogNumber lay file (read_part (mode_named m) file log) w out n w' out'
checks_part lay m how q file log w out a n w' out' c e =
    subst (λ (z : Mode). ChecksLogNumber lay file (read_part z file log) w out n w' out') q.answer (checks lay file (read_part how file log) w out a n w' out' c.checks e)

-- ── a report ──
reports : (lay : Layout) (file log w out text : List ℕ) (a : Reported) (w' out' text' : List ℕ) → Reports lay file log w out text a w' out' text'
    → (n : ℕ) → n ≡ report_number a → ReportsNumber lay file log w out text n w' out' text'
reports lay file log w out text a w' out' text' r n e =
    record {
      answer = ap (λ (k : ℕ). (k, w', out', text')) e ∙ ap report_numbered r.answer;
      meaning = subst (λ (z : Reported). Reports lay file log w out text z w' out' text') (ap (λ (z : Result). z.0) r.answer) r;
    }

pub reports_part : (lay : Layout) (m : ℕ) (how : Mode) → NamesMode m how → (file log w out text : List ℕ) (a : Reported) (w' out' text' : List ℕ)
    → ReportsPart lay how file log w out text a w' out' text' → (n : ℕ) → n ≡ report_number a
    → ReportsNumber lay file (read_part (mode_named m) file log) w out text n w' out' text'
reports_part lay m how q file log w out text a w' out' text' r n e =
    subst (λ (z : Mode). ReportsNumber lay file (read_part z file log) w out text n w' out' text') q.answer
    (reports lay file (read_part how file log) w out text a w' out' text' r.reports n e)

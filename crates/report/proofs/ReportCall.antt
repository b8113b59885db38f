-- The report, by its ways out: a short buffer, and the text of what the whole-log call answers.
use Prim.Native.Nat.{ℕ, ◌+◌, ◌<◌, ◌≤◌}
use mathlib.Core.Path.{◌≡◌, refl, ap, sym, ◌∙◌, subst}
use mathlib.Core.List.{List, ◌++◌}
use native.Mathlib.Omega.{arith}
use lib.ListN.{length, take, drop}
use lib.Seq.{take_at}
use borrow.Author.Tests.{lt-ltb, le-ltb}
use Rattle.lists.proofs.Lists.{append-nil}
use Rattle.lines.specs.Log.{lines_of}
use Rattle.trace.specs.Trace.{Trace, no_trace}
use Rattle.trace.specs.Record.{record_of, Bounded}
use Rattle.trace.proofs.Bounds.{sound_none, sound_bounded}
use Rattle.pairs.specs.declared.Layout.{Layout}
use Rattle.pairs.specs.Layout.{work_size}
use Rattle.rules.specs.declared.Rule.{Rule}
use Rattle.std.specs.Prelude.{Result, Ok, Err}
use Rattle.refusals.specs.Refusal.{number}
use Rattle.refusals.specs.declared.Refusal.{Refusal}
use Rattle.rules.specs.Rules.{rule_of}
use Rattle.rules.proofs.Rules.{reads_rule}
use Rattle.reading.specs.declared.LogRead.{LogRead}
use Rattle.whole_log.specs.declared.Mode.{Mode}
use Rattle.whole_log.specs.Log.{not_read, lines_from, log_of, ChecksLog}
use Rattle.whole_log.specs.Part.{read_part, ChecksPart}
use Rattle.whole_log.proofs.Part.{part_of_lem}
use Rattle.whole_log.specs.Repeated.{Result as Checked}
use Rattle.single.proofs.LineCall.{with_refused, with_taken}
use Rattle.report.specs.declared.Reported.{Reported}
use Rattle.report.specs.declared.Reported.TheVariants.{Length, Refused}
use Rattle.text_pieces.specs.Pieces.{refused_text}
use Rattle.report.specs.Text.{text_from, report_text}
use Rattle.text_pieces.specs.Writing.{put, LineLow}
use Rattle.report.specs.RecordText.{lines_to, fails_to, record_text, OfTrace, PrintsRecord}
use Rattle.report.specs.Report.{Result as Made, report_of, TextMeans, Reports, ReportsPart}
use Rattle.report.proofs.Printed.{Printed, printed}
use Rattle.report.proofs.Means.{text_means}

-- what the whole-log call answers, and the text that it gives
pub record Given (file log : List ℕ) (z : Checked) : Type 0 where
  pub trace : Trace
  pub bounded : Bounded trace
  pub state : z.0.state ≡ record_of trace
  pub line : LineLow z.0.ending
  pub text : record_text trace z.0.ending z.2 ≡ report_text file log

module _ (lay : Layout) (file log w out : List ℕ) (m : ℕ) (size : m ≡ work_size lay) (enough : m ≤ length w) (room : 256 ≤ length out) where
  long : work_size lay ≤ length w
  long = omega arith

  given_unruled : (n : Refusal) → rule_of file ≡ Err n → Given file log (not_read (number n), w, out)
  unfolding record_text lines_to report_text
  given_unruled n e =
      record {
        trace = no_trace;
        bounded = sound_bounded no_trace sound_none;
        state = refl;
        line = omega arith;
        text = append-nil (refused_text 0 (number n)) ∙ sym (with_refused {A = List ℕ} (rule_of file) n _ _ e);
      }

  given_ruled : (x : Rule) → rule_of file ≡ Ok x → Given file log (lines_from lay file x no_trace (lines_of log) w out)
  unfolding lines_to fails_to report_text
  given_ruled x e =
      let p : Printed file x lay w no_trace (lines_of log) (lines_from lay file x no_trace (lines_of log) w out) = printed file x lay w (lines_of log) no_trace out sound_none room in
      record {
        trace = p.trace;
        bounded = p.bounded;
        state = p.state;
        line = p.line;
        text = sym p.text ∙ sym (with_taken {A = List ℕ} (rule_of file) x _ _ e);
      }

  log_unruled : (n : Refusal) → rule_of file ≡ Err n → log_of lay file log w out ≡ (not_read (number n), w, out)
  unfolding log_of
  log_unruled n e = simp (le-ltb (length w) (work_size lay) long, le-ltb (length out) 256 room) (with_refused (rule_of file) n _ _ e)

  log_ruled : (x : Rule) → rule_of file ≡ Ok x → log_of lay file log w out ≡ lines_from lay file x no_trace (lines_of log) w out
  unfolding log_of
  log_ruled x e = simp (le-ltb (length w) (work_size lay) long, le-ltb (length out) 256 room) (with_taken (rule_of file) x _ _ e)

  pub given : Given file log (log_of lay file log w out)
  given = by_rule (rule_of file) refl
    where
      by_rule : (q : Result Rule Refusal) → rule_of file ≡ q → Given file log (log_of lay file log w out)
      by_rule (Ok x) e = subst (Given file log) (sym (log_ruled x e)) (given_ruled x e)
      by_rule (Err n) e = subst (Given file log) (sym (log_unruled n e)) (given_unruled n e)

  module _ (a : LogRead) (v o : List ℕ) (k : ChecksLog lay file log w out a v o) where
    given_here : Given file log (a, v, o)
    given_here = subst (Given file log) (sym k.answer) given

    of_trace : OfTrace a
    of_trace = let g = given_here in record { trace = g.trace; bounded = g.bounded; state = g.state; line = g.line }

    module _ (text : List ℕ) (big : 2048 ≤ length text) (text' : List ℕ) (n : ℕ) (c : PrintsRecord a o text text' n) where
      abbrev printed_text : List ℕ
      printed_text = report_text file log

      record Wrote : Type 0 where
        count : n ≡ length printed_text
        bytes : text' ≡ printed_text ++ drop (length printed_text) text
        short : n ≤ 2048

      wrote : Wrote
      unfolding put
      wrote =
          let g = given_here in
          let p = c g.trace g.state in
          let s : List ℕ = record_text g.trace a.ending o in
          let z : 0 + length s ≡ length s = omega arith in
          record {
            count = p.writes.after ∙ (z ∙ ap length g.text);
            bytes = p.writes.bytes ∙ (ap (λ (j : ℕ). s ++ drop j text) z ∙ ap (λ (r : List ℕ). r ++ drop (length r) text) g.text);
            short = omega (arith, p.few);
          }

      same_answer : ◌≡◌ {A = Made} (Length n, v, o, text') (report_of lay file log w out text)
      unfolding report_of
      same_answer =
          simp (le-ltb (length w) (work_size lay) long, le-ltb (length out) 256 room, le-ltb (length text) 2048 big)
          (λ i. (Length (wrote.count i), (k.answer i).1, (k.answer i).2, wrote.bytes i))

      -- the bytes of the report
      front : (m : ℕ) → Length n ≡ Length m → printed_text ≡ take m text'
      front m e =
          let q : n ≡ m = cc in
          sym (ap (take m) wrote.bytes ∙ take_at printed_text _ m (sym wrote.count ∙ q))

      report_written : Reports lay file log w out text (Length n) v o text'
      unfolding report_text
      report_written =
          record {
            answer = same_answer;
            short = λ m e. let q : n ≡ m = cc in omega (arith, wrote.short);
            unruled = λ m d e r. sym (front m e) ∙ with_refused (rule_of file) d _ _ r;
            meaning = λ m x e r.
                subst (TextMeans file x log) (sym (with_taken {A = List ℕ} (rule_of file) x (λ c. refused_text 0 c) (λ x. text_from file x no_trace 0 (lines_of log)) r) ∙ front m e)
                (text_means file x ((reads_rule file (Ok x) (sym r)).taken x refl) log);
          }

-- ── a short buffer ──
no_length : {C : Type 0} (n : ℕ) → Refused 20 ≡ Length n → C
no_length n q = absurd (let z : ◌≡◌ {A = ℕ} 0 1 = cc in omega arith)

module _ (lay : Layout) (file log w out text : List ℕ) where
  report_refused : ◌≡◌ {A = Made} (Refused 20, w, out, text) (report_of lay file log w out text) → Reports lay file log w out text (Refused 20) w out text
  report_refused e =
      record {
        answer = e;
        short = λ n q. no_length n q;
        unruled = λ n c q r. no_length n q;
        meaning = λ n x q r. no_length n q;
      }

  short_work : (m : ℕ) → m ≡ work_size lay → length w < m → Reports lay file log w out text (Refused 20) w out text
  unfolding report_of
  short_work m size l =
      let h : length w < work_size lay = omega arith in
      report_refused (simp (lt-ltb (length w) (work_size lay) h))

  short_verdicts : (m : ℕ) → m ≡ work_size lay → m ≤ length w → length out < 256 → Reports lay file log w out text (Refused 20) w out text
  unfolding report_of
  short_verdicts m size k h =
      let l : work_size lay ≤ length w = omega arith in
      report_refused (simp (le-ltb (length w) (work_size lay) l, lt-ltb (length out) 256 h))

  short_text : (m : ℕ) → m ≡ work_size lay → m ≤ length w → 256 ≤ length out → length text < 2048 → Reports lay file log w out text (Refused 20) w out text
  unfolding report_of
  short_text n size k m h =
      let l : work_size lay ≤ length w = omega arith in
      report_refused (simp (le-ltb (length w) (work_size lay) l, le-ltb (length out) 256 m, lt-ltb (length text) 2048 h))

-- ── the part that is read ──
module _ (lay : Layout) (mode : Mode) (file log w out text : List ℕ) where
  abbrev part : List ℕ
  part = read_part mode file log

  report_part_lem : (a : Reported) (v o text' : List ℕ) → Reports lay file part w out text a v o text' → ReportsPart lay mode file log w out text a v o text'
  report_part_lem a v o text' r = record { reports = r; part = λ x rule. part_of_lem file x rule mode log }

  pub work_refused : (m : ℕ) → m ≡ work_size lay → length w < m → ReportsPart lay mode file log w out text (Refused 20) w out text
  work_refused m size l = report_part_lem (Refused 20) w out text (short_work lay file part w out text m size l)

  module _ (m : ℕ) (size : m ≡ work_size lay) (enough : m ≤ length w) where
    pub verdicts_refused : length out < 256 → ReportsPart lay mode file log w out text (Refused 20) w out text
    verdicts_refused h = report_part_lem (Refused 20) w out text (short_verdicts lay file part w out text m size enough h)

    module _ (room : 256 ≤ length out) where
      pub text_refused : length text < 2048 → ReportsPart lay mode file log w out text (Refused 20) w out text
      text_refused h = report_part_lem (Refused 20) w out text (short_text lay file part w out text m size enough room h)

      module _ (a : LogRead) (v o : List ℕ) (k : ChecksPart lay mode file log w out a v o) where
        pub part_of_trace : OfTrace a
        part_of_trace = of_trace lay file part w out m size enough room a v o k.checks

        pub part_written : 2048 ≤ length text → (text' : List ℕ) (n : ℕ) → PrintsRecord a o text text' n → ReportsPart lay mode file log w out text (Length n) v o text'
        part_written big text' n c = report_part_lem (Length n) v o text' (report_written lay file part w out m size enough room a v o k.checks text big text' n c)

-- With buffers that are long enough the report is not refused, and its text stands at the start of the buffer.
use Prim.Native.Nat.{ℕ, ◌≤◌}
use mathlib.Core.Path.{◌≡◌, ap, ap₂, sym, ◌∙◌}
use mathlib.Core.List.{List, ◌++◌}
use native.Mathlib.Omega.{arith}
use lib.ListN.{length, take, drop, length-append}
use lib.Seq.{length-take-le, take-append_seam}
use borrow.Author.Tests.{le-ltb}
use Rattle.whole_log.specs.declared.Mode.{Mode}
use Rattle.whole_log.specs.Log.{log_of}
use Rattle.whole_log.specs.Part.{read_part}
use Rattle.report.specs.declared.Reported.{Reported}
use Rattle.report.specs.declared.Reported.TheVariants.{Length, Refused}
use Rattle.report.specs.Text.{report_text}
use Rattle.report.specs.Report.{Result, report_of, ReportsPart}
use Rattle.report.proofs.Cut.{first_bytes_decide_part_report}
use Rattle.log_check.specs.Printed.{Printed}
use Rattle.pairs.specs.declared.Layout.TheVariants.{Half}
use Rattle.pairs.specs.Layout.{work_size}

-- the length that an answer names
abbrev length_of : Reported → ℕ
length_of (Length n) = n
length_of (Refused c) = 0

module _ (mode : Mode) (file log w out text : List ℕ) (long : work_size Half ≤ length w) (room : 256 ≤ length out) (space : 2048 ≤ length text) where
  abbrev part : List ℕ
  part = read_part mode file log

  abbrev R : List ℕ
  R = report_text file part

  written : report_of Half file part w out text ≡ (Length (length R), (log_of Half file part w out).1, (log_of Half file part w out).2, R ++ drop (length R) text)
  unfolding report_of
  written = simp (le-ltb (length w) (work_size Half) long, le-ltb (length out) 256 room, le-ltb (length text) 2048 space)

  module _ (a : Reported) (w' out' text' : List ℕ) (r : ReportsPart Half mode file log w out text a w' out' text') where
    all : ◌≡◌ {A = Result} (a, w', out', text') (Length (length R), (log_of Half file part w out).1, (log_of Half file part w out).2, R ++ drop (length R) text)
    all = r.reports.answer ∙ written

    pub prints : (n : ℕ) → a ≡ Length n → Printed mode file log text' n
    prints n e =
        let k : n ≡ length R = sym (ap length_of e) ∙ ap (λ (z : Result). length_of z.0) all in
        let t : text' ≡ R ++ drop (length R) text = ap (λ (z : Result). z.3) all in
        let h : n ≤ length text' = simp (t, k, length-append) (omega arith) in
        let b : take n text' ≡ R = simp (t, k) (take-append_seam R (drop (length R) text)) in
        record {
          counts = (h, sym (length-take-le n text' h));
          bytes = b;
          whole = λ f i p q. b ∙ (ap₂ (λ (u v : List ℕ). report_text u (read_part mode u v)) p q ∙ first_bytes_decide_part_report mode f i);
        }

    pub not_refused : (c : ℕ) → a ≡ Refused c → (n : ℕ) → Printed mode file log text' n
    not_refused c e n =
        let q : Refused c ≡ Length (length R) = sym e ∙ ap (λ (z : Result). z.0) all in
        absurd (let z : ◌≡◌ {A = ℕ} 0 1 = cc in omega arith)

-- The calls on slips, from the parts' promises.
use Prim.Native.Nat.{ℕ, ◌≤◌, ◌<◌}
use mathlib.Core.Path.{◌≡◌, refl, subst}
use mathlib.Core.List.{List}
use native.Mathlib.Omega.{arith}
use lib.ListN.{length}
use Rattle.trace.specs.declared.Record.{Record}
use Rattle.record_bytes.specs.declared.Unpacked.{Unpacked}
use Rattle.record_bytes.specs.Form.{record_size, record_from}
use Rattle.record_bytes.specs.Calls.{Unpacks}
use Rattle.answer_numbers.specs.Numbers.{refusal}
use Rattle.slip_form.specs.declared.Slip.{Slip}
use Rattle.slips.specs.Answers.{Finding, Passing, FindsFirst, ReadsSlip}
use Rattle.slip_bytes.specs.InBytes.{slip_from, found_numbered, passing_number}
use Rattle.slip_bytes.proofs.Few.{zero_none, no_slip_left, bytes_back, bytes_counted}
use Rattle.scene_log.specs.Slips.{FindsNumber, PassesNumber}
use Rattle.scene_log.proofs.InBytes.{unpacked}

module _ (file b y : List ℕ) where
  pub find_no_record : length b < record_size → FindsNumber file b y (refusal 20) y
  find_no_record h = record { short_record = λ _. refl; short_slip = λ _. refl; long = λ g k. absurd (omega arith) }

  pub find_no_room : record_size ≤ length b → length y < 4 → FindsNumber file b y (refusal 20) y
  find_no_room l h = record { short_record = λ _. refl; short_slip = λ _. refl; long = λ g k. absurd (omega arith) }

  pub find_known : record_size ≤ length b → 4 ≤ length y → (u : Unpacked) → Unpacks b u → (a : Finding) → FindsFirst file u.state a
      → (n : ℕ) (y' : List ℕ) → ◌≡◌ {A = ℕ × List ℕ} (n, y') (found_numbered a y) → FindsNumber file b y n y'
  find_known h k u p a f n y' e =
      record {
        short_record = λ g. absurd (omega arith);
        short_slip = λ g. absurd (omega arith);
        long = λ _ _.
            record {
              found = a;
              finds = subst (λ (r : Record). FindsFirst file r a) (unpacked b u h p) f;
              answer = e;
              none = zero_none file u.state a f y n y' e;
              left = no_slip_left file u.state a f y n y' e;
            };
      }

  pub pass_no_record : length b < record_size → PassesNumber file b y (refusal 20)
  pass_no_record h = record { short = λ _. refl; long = λ g. absurd (omega arith) }

  pub pass_known : record_size ≤ length b → (u : Unpacked) → Unpacks b u → (x : Slip) → x ≡ slip_from y → (a : Passing) → ReadsSlip file u.state x a
      → (n : ℕ) → n ≡ passing_number a → PassesNumber file b y n
  pass_known h u p x q a r n e =
      record {
        short = λ g. absurd (omega arith);
        long = λ _.
            record {
              passing = a;
              reads = subst (λ (z : Slip). ReadsSlip file (record_from b) z a) q (subst (λ (s : Record). ReadsSlip file s x a) (unpacked b u h p) r);
              counted = bytes_counted y;
              runs = bytes_back y;
              answer = e;
            };
      }

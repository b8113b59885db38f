-- The ways out of the two calls, each with what it means.
use Prim.Native.Nat.{ℕ, ◌<◌, ◌≤◌}
use mathlib.Core.Path.{◌≡◌, refl, ap, ◌∙◌}
use mathlib.Core.List.{List, ◌++◌}
use native.Mathlib.Omega.{arith}
use lib.ListN.{length, drop, length-append}
use borrow.Author.Tests.{lt-ltb, le-ltb}
use Rattle.trace.specs.declared.Record.{Record}
use Rattle.trace.specs.Trace.{no_trace}
use Rattle.trace.specs.Record.{record_of, Valid}
use Rattle.std.specs.Prelude.{Ok, Err}
use Rattle.refusals.specs.declared.Refusal.TheVariants.{ShortBuffer}
use Rattle.record_bytes.specs.declared.Unpacked.{Unpacked}
use Rattle.record_bytes.specs.Joined.{stored}
use Rattle.record_bytes.specs.Form.{record_size, record_bytes, record_from}
use Rattle.record_bytes.specs.Calls.{whole, unpack_of, pack_of, Unpacks, Packs}
use Rattle.record_bytes.proofs.Joined.{stored_front}
use Rattle.record_bytes.proofs.Form.{record_long}
use Rattle.record_bytes.proofs.Carried.{packed_and_unpacked}

-- ── unpacking ──
-- a record that accepted lines leave is what its bytes unpack to
unpacked_again : (r : Record) → Valid r → (rest : List ℕ) → unpack_of (record_bytes r ++ rest) ≡ whole r
unfolding unpack_of
unpacked_again r v rest =
    let long : record_size ≤ length (record_bytes r ++ rest) = omega (arith, length-append (record_bytes r) rest, record_long r) in
    simp (le-ltb _ _ long) (ap whole (packed_and_unpacked r v rest))

unpacks : (s : List ℕ) (u : Unpacked) → u ≡ unpack_of s → Unpacks s u
unpacks s u e =
    record {
      answer = e;
      meaning = λ log t rest a q. e ∙ (ap unpack_of q ∙ unpacked_again (record_of t) (record { log = log; trace = t; accepted = a; encoded = refl }) rest);
    }

module _ (s : List ℕ) (r : Record) where
  pub unpack_short : length s < record_size → r ≡ record_of no_trace → Unpacks s (record { state = r; outcome = Err ShortBuffer })
  unfolding unpack_of
  unpack_short h e = unpacks s _ (simp (lt-ltb _ _ h) (λ i. record { state = e i; outcome = Err ShortBuffer }))

  pub unpack_done : record_size ≤ length s → r ≡ record_from s → Unpacks s (record { state = r; outcome = Ok tt })
  unfolding unpack_of
  unpack_done h e = unpacks s _ (simp (le-ltb _ _ h) (λ i. record { state = e i; outcome = Ok tt }))

-- ── packing ──
module _ (r : Record) (out : List ℕ) where
  pub pack_short : length out < record_size → Packs r out (Err ShortBuffer) out
  unfolding pack_of
  pack_short h = record { answer = simp (lt-ltb _ _ h); meaning = λ v e. cc }

  pub pack_done : (out' : List ℕ) → record_size ≤ length out → out' ≡ stored out 0 (record_bytes r) → Packs r out (Ok tt) out'
  unfolding pack_of
  pack_done out' h e =
      let is : out' ≡ record_bytes r ++ drop record_size out = stored_front out out' (record_bytes r) record_size e (record_long r) h in
      record {
        answer = simp (le-ltb _ _ h) (λ i. (Ok tt, is i));
        meaning = λ v _. ap unpack_of is ∙ unpacked_again r v (drop record_size out);
      }

pub ruleset ways-out = (unpack_short, unpack_done, pack_short, pack_done)

-- The pair bytes of an accepted log: each names the order in which the lines of its two runs stand in the log.
use Prim.Native.Nat.{ℕ, ◌<◌}
use mathlib.Core.Path.{◌≡◌, sym}
use mathlib.Core.List.{List}
use native.Mathlib.Omega.{arith}
use lib.ListN.{length}
use borrow.Author.Tests.{lt-ltb}
use Rattle.trace.specs.Trace.{Trace, run_at, Accepted}
use Rattle.trace.specs.Orderly.{Orderly}
use Rattle.trace.proofs.Accepted.{accepted_orderly}
use Rattle.pairs.specs.Pairs.{pair_byte}
use Rattle.pairs.specs.Word.{InLog, name_of, word_of}
use Rattle.pairs.proofs.Word.{pair_word}

-- two runs of an accepted log, the first begun before the second
orderly_pair : (t : Trace) → Orderly t → (a b : ℕ) → a < b → b < length t.runs → InLog t.lines (run_at t a) (run_at t b)
orderly_pair t o a b h k =
    let w = o.within a (omega arith) in
    let v = o.within b k in
    record {
      numbered = w.0;
      in_order = o.order a b h k;
      begun = v.1;
      first_read = w.2;
      second_read = v.2;
      first_ends = λ n. o.forward a (omega (arith, n));
      second-ends = λ n. o.forward b (omega (arith, n));
      apart = λ e. o.apart b a k (sym e);
      ends-apart = λ n e. o.ends-apart a b (λ q. omega arith) (omega (arith, n)) e;
    }

-- THE LAW: "the byte names the set .. that holds the pair", "the order of appearance of interval events"
pub pair_byte_names_the_order : (log : List ℕ) (t : Trace) → Accepted log t → (a b : ℕ) → a < b → b < length t.runs → pair_byte t.runs a b ≡ name_of (word_of t.lines (run_at t a) (run_at t b))
unfolding pair_byte
pair_byte_names_the_order log t acc a b h k =
    simp (lt-ltb _ _ h, lt-ltb _ _ k) (pair_word (run_at t a) (run_at t b) t.lines (orderly_pair t (accepted_orderly log t acc) a b h k))

-- What the two calls answer. "20 a lent buffer shorter than stated"
use Rattle.std.specs.Prelude.{ℕ, ◌≡◌, cond, List, ◌++◌, ltb, length, drop, Result, Ok, Err}
use Rattle.refusals.specs.declared.Refusal.{Refusal}
use Rattle.refusals.specs.declared.Refusal.TheVariants.{ShortBuffer}
use Rattle.trace.specs.declared.Record.{Record}
use Rattle.trace.specs.Trace.{Trace, no_trace, Accepted}
use Rattle.trace.specs.Record.{record_of, Valid}
use Rattle.record_bytes.specs.declared.Unpacked.{Unpacked}
use Rattle.record_bytes.specs.Form.{record_size, record_bytes, record_from}

-- the answer that holds a record
abbrev pub whole : Record → Unpacked
whole r = record { state = r; outcome = Ok tt }

-- the record of the first 2,628 bytes; those past them have no part. The record of no lines comes with a refusal.
unfoldable pub unpack_of : List ℕ → Unpacked
unpack_of s = cond (ltb (length s) record_size) (record { state = record_of no_trace; outcome = Err ShortBuffer }) (whole (record_from s))

-- the answer and the buffer: "no call changes a byte past those it is stated to write"
unfoldable pub pack_of : Record → List ℕ → Result (Unit {0}) Refusal × List ℕ
pack_of r out = cond (ltb (length out) record_size) (Err ShortBuffer, out) (Ok tt, record_bytes r ++ drop record_size out)

-- The contract of `unpack`, for every input: its answer; and for bytes that start with those of a record that accepted lines
-- leave, that record.
pub record Unpacks (s : List ℕ) (u : Unpacked) : Type 0 where
  pub answer : u ≡ unpack_of s
  pub meaning : (log : List ℕ) (t : Trace) (rest : List ℕ) → Accepted log t → s ≡ record_bytes (record_of t) ++ rest → u ≡ whole (record_of t)

-- The contract of `pack`, for every input: its answer and the buffer; and what it writes of a record that accepted lines leave
-- unpacks to that record.
pub record Packs (r : Record) (out : List ℕ) (p : Result (Unit {0}) Refusal) (out' : List ℕ) : Type 0 where
  pub answer : ◌≡◌ {A = Result (Unit {0}) Refusal × List ℕ} (p, out') (pack_of r out)
  pub meaning : Valid r → p ≡ Ok tt → unpack_of out' ≡ whole r

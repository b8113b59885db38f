-- The two ways out of a start.
use Prim.Native.Nat.{ℕ, ◌<◌, ◌≤◌}
use mathlib.Core.Path.{◌≡◌}
use mathlib.Core.List.{List}
use lib.ListN.{length}
use borrow.Author.Tests.{lt-ltb, le-ltb}
use Rattle.std.specs.Prelude.{Ok, Err}
use Rattle.refusals.specs.declared.Refusal.TheVariants.{ShortBuffer}
use Rattle.trace.specs.declared.Record.{Record}
use Rattle.trace.specs.Trace.{no_trace}
use Rattle.trace.specs.Record.{record_of}
use Rattle.pairs.specs.declared.Layout.{Layout}
use Rattle.pairs.specs.declared.Started.{Started}
use Rattle.pairs.specs.Layout.{work_size}
use Rattle.pairs.specs.Pairs.{work_of}
use Rattle.pairs.specs.Start.{start_of}

module _ (lay : Layout) (w : List ℕ) (r : Record) (n : ℕ) (size : n ≡ work_size lay) where
  pub start_short : length w < n → r ≡ record_of no_trace → ◌≡◌ {A = Started × List ℕ} (record { state = r; outcome = Err ShortBuffer }, w) (start_of lay w)
  unfolding start_of
  start_short h e = simp (lt-ltb (length w) (work_size lay) (rw size at h)) (λ i. (record { state = e i; outcome = Err ShortBuffer }, w))

  pub start_ready : (v : List ℕ) → n ≤ length w → r ≡ record_of no_trace → v ≡ work_of lay no_trace w → ◌≡◌ {A = Started × List ℕ} (record { state = r; outcome = Ok tt }, v) (start_of lay w)
  unfolding start_of
  start_ready v h e f = simp (le-ltb (length w) (work_size lay) (rw size at h)) (λ i. (record { state = e i; outcome = Ok tt }, f i))

pub ruleset starts = (start_short, start_ready)

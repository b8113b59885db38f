-- A pair's byte by its cases, and the bytes of a table's runs.
use Prim.Native.Nat.{ℕ, ◌<◌, ◌≤◌}
use mathlib.Core.Path.{◌≡◌, ap, sym, ◌∙◌}
use mathlib.Core.Bool.{cond}
use mathlib.Core.List.{List}
use native.Mathlib.Omega.{arith}
use lib.Dec.{eqb, ltb}
use lib.ListN.{length, get_or}
use lib.Seq.{length-take-le, get_or-take}
use borrow.Author.Tests.{eq-eqb, ne_eqb, lt-ltb, le-ltb}
use Rattle.lists.proofs.Cases.{either_bool, either_lt}
use Rattle.lists.proofs.Lists.{take-pad}
use Rattle.labels.specs.Label.{no_label}
use Rattle.trace.specs.declared.Run.{Run}
use Rattle.trace.specs.declared.RunTable.{RunTable}
use Rattle.trace.specs.declared.Record.{Record}
use Rattle.trace.specs.Trace.{Trace, begin_line, end_line, no_run, open?}
use Rattle.trace.specs.Record.{record_of}
use Rattle.trace.specs.Steps.{held}
use Rattle.pairs.specs.Pairs.{pair_set, pair_byte, held_trace}
use Rattle.pairs.specs.Code.{lines_set}

-- ── the set of two runs ──
module _ (x y : Run) where
  pub set-1 : end_line x ≡ 0 → end_line y ≡ 0 → 1 ≡ pair_set x y
  unfolding pair_set
  set-1 p q = simp (eq-eqb _ _ p, eq-eqb _ _ q)

  pub set-4 : end_line x ≡ 0 → (end_line y ≡ 0 → ⊥) → 4 ≡ pair_set x y
  unfolding pair_set
  set-4 p q = simp (eq-eqb _ _ p, ne_eqb _ _ q)

  pub set-2 : (end_line x ≡ 0 → ⊥) → end_line x < begin_line y → end_line y ≡ 0 → 2 ≡ pair_set x y
  unfolding pair_set
  set-2 p l q = simp (ne_eqb _ _ p, lt-ltb _ _ l, eq-eqb _ _ q)

  pub set-5 : (end_line x ≡ 0 → ⊥) → end_line x < begin_line y → (end_line y ≡ 0 → ⊥) → 5 ≡ pair_set x y
  unfolding pair_set
  set-5 p l q = simp (ne_eqb _ _ p, lt-ltb _ _ l, ne_eqb _ _ q)

  pub set-3 : (end_line x ≡ 0 → ⊥) → begin_line y ≤ end_line x → end_line y ≡ 0 → 3 ≡ pair_set x y
  unfolding pair_set
  set-3 p l q = simp (ne_eqb _ _ p, le-ltb _ _ l, eq-eqb _ _ q)

  pub set-6 : (end_line x ≡ 0 → ⊥) → begin_line y ≤ end_line x → (end_line y ≡ 0 → ⊥) → end_line x < end_line y → 6 ≡ pair_set x y
  unfolding pair_set
  set-6 p l q m = simp (ne_eqb _ _ p, le-ltb _ _ l, ne_eqb _ _ q, lt-ltb _ _ m)

  pub set-7 : (end_line x ≡ 0 → ⊥) → begin_line y ≤ end_line x → (end_line y ≡ 0 → ⊥) → end_line y ≤ end_line x → 7 ≡ pair_set x y
  unfolding pair_set
  set-7 p l q m = simp (ne_eqb _ _ p, le-ltb _ _ l, ne_eqb _ _ q, le-ltb _ _ m)

  -- it is never 0
  pub set_some : 1 ≤ pair_set x y
  unfolding pair_set
  set_some =
      either_bool (open? x)
      (λ a. simp a (either_bool (open? y) (λ b. simp b (omega arith)) (λ b. simp b (omega arith))))
      (λ a. either_bool (ltb (end_line x) (begin_line y))
      (λ l. simp (a, l) (either_bool (open? y) (λ b. simp b (omega arith)) (λ b. simp b (omega arith))))
      (λ l. simp (a, l) (either_bool (open? y)
      (λ b. simp b (omega arith))
      (λ b. simp b (either_bool (ltb (end_line x) (end_line y)) (λ m. simp m (omega arith)) (λ m. simp m (omega arith)))))))

  -- a byte looks at one end line, and at both lines of the run that begins later
  pub by_lines : (b : ℕ) → b ≡ lines_set (end_line x) (begin_line y) (end_line y) → b ≡ pair_set x y
  unfolding pair_set
  by_lines b e = e

-- all cases at once
pub chosen : (e s f first apart ended meeting closed b : ℕ) → b ≡ cond (eqb e 0) first closed → first ≡ cond (eqb f 0) 1 4
    → closed ≡ cond (ltb e s) apart meeting → apart ≡ cond (eqb f 0) 2 5 → meeting ≡ cond (eqb f 0) 3 ended → ended ≡ cond (ltb e f) 6 7
    → b ≡ lines_set e s f
unfolding pair_set
chosen e s f first apart ended meeting closed b p q r t u v = cc

-- ── the byte of two places ──
module _ (rs : List Run) (a b : ℕ) where
  pub pair_in : a < b → b < length rs → pair_byte rs a b ≡ pair_set (get_or rs a no_run) (get_or rs b no_run)
  unfolding pair_byte
  pair_in h k = simp (lt-ltb _ _ h, lt-ltb _ _ k)

  pub pair_low : b ≤ a → pair_byte rs a b ≡ 0
  unfolding pair_byte
  pair_low h = simp (le-ltb _ _ h)

  pub pair_late : length rs ≤ b → pair_byte rs a b ≡ 0
  unfolding pair_byte
  pair_late k = either_lt a b (λ h. simp (lt-ltb _ _ h, le-ltb _ _ k)) (λ h. simp (le-ltb _ _ h))

  pub pair_zero : (a < b → length rs ≤ b) → pair_byte rs a b ≡ 0
  pair_zero h = either_lt a b (λ k. pair_late (h k)) pair_low

-- ── the runs of a table ──
module _ (t : RunTable) (full : length t.list ≡ 128) (fits : t.count ≤ 128) where
  pub length_held : length (held t) ≡ t.count
  length_held = length-take-le t.count t.list (omega arith)

  -- the byte of two runs of a table, from what stands there
  pub pair_held : (a b v : ℕ) → a < b → b < t.count → v ≡ pair_set (get_or t.list a no_run) (get_or t.list b no_run) → v ≡ pair_byte (held t) a b
  pair_held a b v h k e =
      let p : get_or (held t) a no_run ≡ get_or t.list a no_run = get_or-take t.count t.list a no_run (omega arith) in
      let q : get_or (held t) b no_run ≡ get_or t.list b no_run = get_or-take t.count t.list b no_run k in
      e ∙ sym (pair_in (held t) a b h (omega (arith, length_held)) ∙ (λ i. pair_set (p i) (q i)))

-- the record of a trace holds it
pub held_trace_lem : (r : Record) (t : Trace) → r ≡ record_of t → held_trace r ≡ t
unfolding record_of
held_trace_lem r t e =
    ap held_trace e ∙ (λ i. record { runs = take-pad no_run 128 t.runs i; labels = take-pad no_label 64 t.labels i; lines = t.lines })

-- After an accepted line the refreshed bytes are those of the new runs: only the run of the line changes, so only its bytes do.
use Prim.Native.Nat.{ℕ, ◌+◌, ◌<◌, ◌≤◌}
use mathlib.Core.Path.{◌≡◌, ap, sym, ◌∙◌, subst}
use mathlib.Core.Logic.{◌⊎◌, inl, inr, ⊎_elim}
use mathlib.Core.Bool.{◌&&◌, cond}
use mathlib.Core.List.{List, [], ◌∷◌, ◌++◌}
use native.Mathlib.Omega.{arith}
use lib.ListN.{length, get_or, length-append, get_or-append, get_or-eq_default}
use lib.Seq.{get_or-set_other}
use lib.Dec.{ltb}
use borrow.Author.Tests.{lt-ltb, le-ltb, ltb-false}
use Rattle.lists.specs.Limits.{max_runs}
use Rattle.lists.proofs.Cases.{either_eq, either_lt}
use Rattle.lines.specs.Event.{Event}
use Rattle.trace.specs.declared.Run.{Run}
use Rattle.trace.specs.declared.Record.{Record}
use Rattle.trace.specs.Trace.{Trace, next, no_run, place_of, close, begin, end, apply, run_of}
use Rattle.trace.specs.Steps.{held}
use Rattle.trace.proofs.Taken.{event_taken}
use Rattle.trace.proofs.Closed.{Closing, closing_of, close_long}
use Rattle.pairs.specs.declared.Layout.{Layout}
use Rattle.pairs.specs.Layout.{work_size, place}
use Rattle.pairs.specs.Pairs.{pair_set, pair_byte, work_of, held_trace}
use Rattle.pairs.specs.Code.{Stored, Rows, Columns, OfRun}
use Rattle.pairs.specs.Refresh.{Beside, Refreshes}
use Rattle.pairs.proofs.Places.{places}
use Rattle.pairs.proofs.Area.{stored_area}
use Rattle.pairs.proofs.Pairs.{length_held, pair_zero}
use Rattle.pairs.proofs.Stored.{stored_then}

-- ── two lists of runs that differ at one place at most ──
-- the bytes of that place bring the rest up to date
module _ (z : ℕ) (rs qs : List Run) (s : Beside z rs qs) (in_range_lem : z < length qs) where
  beside : (a b : ℕ) → (a ≡ z → ⊥) → (b ≡ z → ⊥) → pair_byte rs a b ≡ pair_byte qs a b
  unfolding pair_byte
  beside a b p q = λ i. cond (ltb a b && s.has b q i) (pair_set (s.run a p i) (s.run b q i)) 0

  outside : (a b : ℕ) → (a < b → length qs ≤ b) → pair_byte rs a b ≡ pair_byte qs a b
  outside a b h =
      pair_zero rs a b (λ k.
      let j : length qs ≤ b = h k in
      ltb-false _ _ (s.has b (λ e. omega arith) ∙ le-ltb _ _ j))
      ∙ sym (pair_zero qs a b h)

  -- run z has a part in the bytes of two runs, or they are the same
  beside-or : (a b : ℕ) → a < b → OfRun z (length qs) a b ⊎ ((OfRun z (length qs) a b → ⊥) × (pair_byte rs a b ≡ pair_byte qs a b))
  beside-or a b h =
      either_lt b (length qs)
      (λ k. either_eq a z
      (λ p. inl (inl p, k))
      (λ p. either_eq b z (λ q. inl (inr q, k)) (λ q. inr ((λ o. ⊎_elim p q o.0), beside a b p q))))
      (λ k. inr ((λ o. absurd (omega (arith, o.1))), outside a b (λ _. k)))

-- ── a begin line: the run is new ──
added : (rs : List Run) (r : Run) → Beside (length rs) rs (rs ++ (r ∷ []))
added rs r = record { has = has; run = run }
  where
    size : length (rs ++ (r ∷ [])) ≡ length rs + 1
    size = length-append rs (r ∷ [])

    has : (k : ℕ) → (k ≡ length rs → ⊥) → ltb k (length rs) ≡ ltb k (length (rs ++ (r ∷ [])))
    has k n =
        either_lt k (length rs)
        (λ h. lt-ltb _ _ h ∙ sym (lt-ltb k (length (rs ++ (r ∷ []))) (omega (arith, size))))
        (λ h. le-ltb _ _ h ∙ sym (le-ltb k (length (rs ++ (r ∷ []))) (omega (arith, size))))

    run : (k : ℕ) → (k ≡ length rs → ⊥) → get_or rs k no_run ≡ get_or (rs ++ (r ∷ [])) k no_run
    run k n =
        either_lt k (length rs)
        (λ h. sym (get_or-append rs (r ∷ []) no_run k h))
        (λ h. get_or-eq_default rs no_run h ∙ sym (get_or-eq_default (rs ++ (r ∷ [])) no_run (omega (arith, size))))

-- ── an end line: the open run of its id is shut ──
shut_one : (i n : ℕ) (rs : List Run) → Closing i rs → Beside (place_of i rs) rs (close i n rs)
shut_one i n rs c =
    record {
      has = λ k _. ap (λ (m : ℕ). ltb k m) (sym (close_long i n rs));
      run = λ k h. rw (c.closes n) (sym (get_or-set_other rs c.at k _ no_run (λ e. h (e ∙ c.place))));
    }

-- a line changes no run but its own
pub line_beside : (t u : Trace) (e : Event) → apply t e ≡ next u → Beside (run_of t e) t.runs u.runs
unfolding begin end
line_beside t u =
    event_taken (λ e. Beside (run_of t e) t.runs u.runs) t u
    (λ i l b. rw b.is (added t.runs _))
    (λ i b. rw b.is (shut_one i (t.lines + 1) t.runs (closing_of i t.runs b.running)))

-- and its own is one of the new runs
pub line_run : (t u : Trace) (e : Event) → apply t e ≡ next u → run_of t e < length u.runs
unfolding begin end
line_run t u =
    event_taken (λ e. run_of t e < length u.runs) t u
    (λ i l b. rw b.is (simp length-append (omega arith)))
    (λ i b.
    let r : Closing i t.runs = closing_of i t.runs b.running in
    rw b.is (omega (arith, r.place, r.low, close_long i (t.lines + 1) t.runs)))

-- ── what a refresh promises ──
-- the bytes with the runs before it, and then those with the runs after it
of_run : (lay : Layout) (f : ℕ → ℕ → ℕ) (z n : ℕ) (w v₁ v : List ℕ) → z < n → Stored (place lay) f (Columns z (z + 1)) w v₁ → Stored (place lay) f (Rows z (z + 1) n) v₁ v → Stored (place lay) f (OfRun z n) w v
of_run lay f z n w v₁ v h s r =
    stored_then (place lay) f (work_size lay) (places lay) (Columns z (z + 1)) (Rows z (z + 1) n) (OfRun z n) w v₁ v
    (λ a b c. (inr (omega (arith, c.0, c.1)), omega (arith, c.1)))
    (λ a b c. (inl (omega (arith, c.0, c.1)), c.2))
    (λ a b l c. either_eq a z
    (λ p. inl (omega arith, omega arith, c.1))
    (λ p. inr (⊎_elim (λ q. absurd (p q)) (λ q. (omega arith, omega arith)) c.0, (λ q. p (omega (arith, q.0, q.1))))))
    s r

pub refreshes : (lay : Layout) (r : Record) (z : ℕ) (w v₁ v : List ℕ) → length r.runs.list ≡ max_runs → z < r.runs.count → r.runs.count ≤ max_runs
    → Stored (place lay) (pair_byte (held r.runs)) (Columns z (z + 1)) w v₁ → Stored (place lay) (pair_byte (held r.runs)) (Rows z (z + 1) r.runs.count) v₁ v
    → Refreshes lay r z w v
refreshes lay r z w v₁ v full h few d e =
    let size : length (held r.runs) ≡ r.runs.count = length_held r.runs full few in
    let s : Stored (place lay) (pair_byte (held r.runs)) (OfRun z r.runs.count) w v = of_run lay (pair_byte (held r.runs)) z r.runs.count w v₁ v h d e in
    record {
      stored = s;
      meaning = λ t u b f.
          stored_area (work_size lay) (place lay) (places lay) (pair_byte (held r.runs)) (pair_byte t.runs) (OfRun z r.runs.count) u w v f s
          (λ x y i j. subst (λ (n : ℕ). OfRun z n x y ⊎ ((OfRun z n x y → ⊥) × (pair_byte t.runs x y ≡ pair_byte (held r.runs) x y))) size
          (beside-or z t.runs (held r.runs) b (omega arith) x y i));
      rest = λ k l. s.others k (λ x y i j _ q. let m = (places lay).low x y i j in absurd (omega arith));
    }

-- THE LAW: after each accepted line, the bytes refreshed for the line's run are those of the new runs
pub refreshed_work : (lay : Layout) (t u : Trace) (e : Event) → apply t e ≡ next u → (r : Record) → held_trace r ≡ u → (z : ℕ) → z ≡ run_of t e
    → (w v : List ℕ) → w ≡ work_of lay t w → Refreshes lay r z w v → v ≡ work_of lay u w
refreshed_work lay t u e p r h z k w v pairs f =
    let b : Beside z t.runs (held r.runs) = rw (k, ap (λ (x : Trace). x.runs) h) (line_beside t u e p) in
    f.meaning t w b pairs ∙ ap (λ (x : Trace). work_of lay x w) h

-- Where the first lines of a log end: behind as many LFs, or at the log's end.
use Prim.Native.Nat.{ℕ, zero, suc, ◌+◌, ◌-◌, ◌<◌, ◌≤◌}
use mathlib.Core.Path.{◌≡◌, refl, ap, sym, ◌∙◌}
use mathlib.Core.Bool.{cond}
use mathlib.Core.List.{List, [], ◌∷◌}
use native.Mathlib.Omega.{arith}
use native.Mathlib.Numerals.{add-one}
use lib.Dec.{eqb}
use lib.ListN.{length, get_or, take, drop, length-drop}
use lib.Seq.{drop-cons, take-nil, length-take-le}
use borrow.Author.Tests.{ne_eqb}
use mir.Val.{bool_byte}
use Rattle.lists.proofs.Cases.{either_bool, either_lt}
use Rattle.lines.specs.Log.{glue, lines_of, flat}
use Rattle.whole_log.specs.Written.{EndsLines}

-- ── by recursion ──
-- how many bytes the first n lines have
abbrev pub end_of : List ℕ → ℕ → ℕ
end_of [] n = 0
end_of (b ∷ bs) n = cond (eqb n 0) 0 (suc (end_of bs (n - cond (eqb b 10) 1 0)))

end_none : (log : List ℕ) → end_of log 0 ≡ 0
end_none [] = refl
end_none (b ∷ bs) = refl

end_cons : (b : ℕ) (bs : List ℕ) (n : ℕ) → 0 < n → end_of (b ∷ bs) n ≡ suc (end_of bs (n - cond (eqb b 10) 1 0))
end_cons b bs n h = simp (ne_eqb n 0 (λ e. omega arith))

end_within : (log : List ℕ) (n : ℕ) → end_of log n ≤ length log
end_within [] n = omega arith
end_within (b ∷ bs) n =
    either_lt 0 n
    (λ h. omega (arith, end_cons b bs n h, end_within bs (n - cond (eqb b 10) 1 0)))
    (λ h. let z : n ≡ 0 = omega arith in omega (arith, ap (end_of (b ∷ bs)) z, end_none (b ∷ bs)))

glued : (b n : ℕ) (ls : List (List ℕ)) → flat (take (suc n) (glue b ls)) ≡ b ∷ flat (take (suc n) ls)
glued b n [] = ap (λ (ms : List (List ℕ)). b ∷ flat ms) (take-nil n)
glued b n (l ∷ ls) = refl

end_bytes : (log : List ℕ) (n : ℕ) → take (end_of log n) log ≡ flat (take n (lines_of log))
end_bytes [] n = sym (ap flat (take-nil n))
end_bytes (b ∷ bs) zero = refl
end_bytes (b ∷ bs) (suc n) =
    let cons : take (end_of (b ∷ bs) (suc n)) (b ∷ bs) ≡ b ∷ take (end_of bs (suc n - cond (eqb b 10) 1 0)) bs =
    ap (λ (k : ℕ). take k (b ∷ bs)) (end_cons b bs (suc n) (omega arith)) in
    cons ∙ (ap (λ (l : List ℕ). b ∷ l) (end_bytes bs (suc n - cond (eqb b 10) 1 0))
    ∙ either_bool (eqb b 10)
    (λ e. let z : suc n - 1 ≡ n = omega arith in simp e (ap (λ (k : ℕ). b ∷ flat (take k (lines_of bs))) z))
    (λ e. let z : suc n - 0 ≡ suc n = omega arith in simp e (ap (λ (k : ℕ). b ∷ flat (take k (lines_of bs))) z ∙ sym (glued b n (lines_of bs)))))

-- ── the loop ──
pub record Reached (log : List ℕ) (n passed place : ℕ) : Type 0 where
  pub within : place ≤ length log
  pub left : end_of log n ≡ place + end_of (drop place log) (n - passed)

module _ (log : List ℕ) (n : ℕ) where
  pub reached_none : Reached log n 0 0
  reached_none = let z : n - 0 ≡ n = omega arith in record { within = omega arith; left = omega (arith, ap (end_of log) z) }

  pub reached_more : (passed place k : ℕ) → passed ≤ n → (passed ≡ n → ⊥) → place < length log → k ≡ bool_byte (eqb (get_or log place 0) 10) → Reached log n passed place → Reached log n (passed + k) (place + 1)
  reached_more passed place k l d h e r =
      let b : ℕ = get_or log place 0 in
      let rest : List ℕ = drop (suc place) log in
      let m : ℕ = n - passed in
      let next : end_of (drop place log) m ≡ suc (end_of rest (m - cond (eqb b 10) 1 0)) =
      ap (λ (l : List ℕ). end_of l m) (drop-cons log place 0 h) ∙ end_cons b rest m (omega arith) in
      let f : k ≡ cond (eqb b 10) 1 0 = either_bool (eqb b 10) (λ q. e ∙ simp q) (λ q. e ∙ simp q) in
      let c : m - cond (eqb b 10) 1 0 ≡ n - (passed + k) = omega arith in
      let t : end_of rest (m - cond (eqb b 10) 1 0) ≡ end_of (drop (place + 1) log) (n - (passed + k)) =
      (λ i. end_of (drop (sym (add-one place) i) log) (c i)) in
      record { within = omega arith; left = omega (arith, r.left, next, t) }

  -- the lines are passed, or the log is
  pub reached_lines : (passed place : ℕ) → passed ≡ n → Reached log n passed place → EndsLines log n place
  reached_lines passed place h r =
      let z : n - passed ≡ 0 = omega arith in
      let none : end_of (drop place log) (n - passed) ≡ 0 = ap (end_of (drop place log)) z ∙ end_none (drop place log) in
      let e : place ≡ end_of log n = omega (arith, r.left, none) in
      record { within = r.within; bytes = ap (λ (i : ℕ). take i log) e ∙ end_bytes log n }

  pub reached_end : (passed place : ℕ) → length log ≤ place → Reached log n passed place → EndsLines log n (length log)
  reached_end passed place h r =
      let none : end_of (drop place log) (n - passed) ≤ 0 = omega (arith, end_within (drop place log) (n - passed), length-drop place log) in
      let e : length log ≡ end_of log n = omega (arith, r.left, r.within, none) in
      record { within = omega arith; bytes = ap (λ (i : ℕ). take i log) e ∙ end_bytes log n }

-- the log up to the place has as many bytes
pub end_cuts : (log : List ℕ) (n e : ℕ) → EndsLines log n e → e ≡ length (take e log)
end_cuts log n e h = sym (length-take-le e log h.within)

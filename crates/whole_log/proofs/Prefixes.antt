-- The verdict byte of line k + 1 is the verdict of what the first k + 1 lines leave: each line stores its byte at the count of the
-- lines before it, and no later line touches it. The bytes behind those of the lines stay.
use Prim.Native.Nat.{ℕ, zero, suc, ◌+◌, ◌<◌, ◌≤◌}
use mathlib.Core.Path.{◌≡◌, ap, sym, ◌∙◌}
use mathlib.Core.List.{List, [], ◌∷◌}
use native.Mathlib.Omega.{arith}
use lib.ListN.{length, get_or, set, take, length-set}
use lib.Seq.{get_or-set_same, get_or-set_other}
use Rattle.trace.specs.Trace.{Trace, Answer, next, refused, steps, step}
use Rattle.trace.specs.Record.{record_of}
use Rattle.trace.proofs.Taken.{not_taken, refused_stays, line_lines}
use Rattle.rules.specs.declared.Rule.{Rule}
use Rattle.rules.specs.Rules.{formula_of}
use Rattle.logic.specs.Verdict.{verdict_byte, verdict_of}
use Rattle.whole_log.specs.Log.{lines_from}
use Rattle.whole_log.specs.Repeated.{Result}
use Rattle.trace.proofs.Taken.{by_answer_lem}
use Rattle.pairs.specs.declared.Layout.{Layout}
use Rattle.whole_log.proofs.Lines.{from_none, from-taken, from_refused}

module _ (lay : Layout) (file : List ℕ) (x : Rule) (w : List ℕ) where
  -- the verdict buffer after the lines
  abbrev bytes_from : Trace → List (List ℕ) → List ℕ → List ℕ
  bytes_from t ls out = (lines_from lay file x t ls w out).2

  abbrev byte_of : Trace → ℕ
  byte_of u = verdict_byte (verdict_of u (formula_of file x))

  after_taken : (t : Trace) (l : List ℕ) (ls : List (List ℕ)) (out : List ℕ) (u : Trace) → step (next t) l ≡ next u
      → bytes_from t (l ∷ ls) out ≡ bytes_from u ls (set out t.lines (byte_of u))
  after_taken t l ls out u p = ap (λ (z : Result). z.2) (from-taken lay file x t l ls w out u p)

  -- the bytes before those of the lines stay
  pub kept_byte : (ls : List (List ℕ)) (t : Trace) (out : List ℕ) (j : ℕ) → j < t.lines → get_or (bytes_from t ls out) j 0 ≡ get_or out j 0
  kept_byte [] t out j h = ap (λ (z : Result). get_or z.2 j 0) (from_none lay file x t w out)
  kept_byte (l ∷ ls) t out j h =
      by_answer_lem t l
      (λ u p.
      let n : j < u.lines = omega (arith, line_lines t u l p) in
      ap (λ (o : List ℕ). get_or o j 0) (after_taken t l ls out u p)
      ∙ (kept_byte ls u (set out t.lines (byte_of u)) j n ∙ get_or-set_other out t.lines j (byte_of u) 0 (λ e. omega arith)))
      (λ c p. ap (λ (z : Result). get_or z.2 j 0) (from_refused lay file x t l ls w out c p))

  pub line_byte : (k : ℕ) (ls : List (List ℕ)) (t : Trace) (out : List ℕ) (u : Trace) → k < length ls → steps (next t) (take (suc k) ls) ≡ next u
      → t.lines + k < length out → get_or (bytes_from t ls out) (t.lines + k) 0 ≡ byte_of u
  line_byte k [] t out u h e room = absurd (omega arith)
  line_byte zero (l ∷ ls) t out u h e room =
      let p : step (next t) l ≡ next u = e in
      let z : t.lines + 0 ≡ t.lines = omega arith in
      let n : t.lines < u.lines = omega (arith, line_lines t u l p) in
      let r : t.lines < length out = omega arith in
      ap (λ (o : List ℕ). get_or o (t.lines + 0) 0) (after_taken t l ls out u p)
      ∙ (ap (λ (j : ℕ). get_or (bytes_from u ls (set out t.lines (byte_of u))) j 0) z
      ∙ (kept_byte ls u (set out t.lines (byte_of u)) t.lines n ∙ get_or-set_same out t.lines (byte_of u) 0 r))
  line_byte (suc k) (l ∷ ls) t out u h e room =
      by_answer_lem t l
      (λ v p.
      let q : steps (next v) (take (suc k) ls) ≡ next u = ap (λ (a : Answer). steps a (take (suc k) ls)) (sym p) ∙ e in
      let n : v.lines ≡ t.lines + 1 = line_lines t v l p in
      let i : t.lines + suc k ≡ v.lines + k = omega arith in
      let r : v.lines + k < length (set out t.lines (byte_of v)) = omega (arith, length-set out t.lines (byte_of v)) in
      ap (λ (o : List ℕ). get_or o (t.lines + suc k) 0) (after_taken t l ls out v p)
      ∙ (ap (λ (j : ℕ). get_or (bytes_from v ls (set out t.lines (byte_of v))) j 0) i ∙ line_byte k ls v (set out t.lines (byte_of v)) u (omega arith) q r))
      (λ c p.
      let q : steps (refused c) (take (suc k) ls) ≡ next u = ap (λ (a : Answer). steps a (take (suc k) ls)) (sym p) ∙ e in
      not_taken c u (sym (refused_stays c (take (suc k) ls)) ∙ q))

  -- ── the rest of the buffer ──
  abbrev count_of : Result → ℕ
  count_of z = z.0.state.lines.0

  lines_grow : (ls : List (List ℕ)) (t : Trace) (out : List ℕ) → t.lines ≤ count_of (lines_from lay file x t ls w out)
  unfolding record_of
  lines_grow [] t out = let z : count_of (lines_from lay file x t [] w out) ≡ t.lines = ap count_of (from_none lay file x t w out) in omega arith
  lines_grow (l ∷ ls) t out =
      by_answer_lem t l
      (λ v p.
      let z = ap count_of (from-taken lay file x t l ls w out v p) in
      omega (arith, z, line_lines t v l p, lines_grow ls v (set out t.lines (verdict_byte (verdict_of v (formula_of file x))))))
      (λ c p. let z : count_of (lines_from lay file x t (l ∷ ls) w out) ≡ t.lines = ap count_of (from_refused lay file x t l ls w out c p) in omega arith)

  pub bytes_rest : (ls : List (List ℕ)) (t : Trace) (out : List ℕ) (k : ℕ) → count_of (lines_from lay file x t ls w out) ≤ k → get_or (lines_from lay file x t ls w out).2 k 0 ≡ get_or out k 0
  bytes_rest [] t out k h = ap (λ (z : Result). get_or z.2 k 0) (from_none lay file x t w out)
  bytes_rest (l ∷ ls) t out k h =
      by_answer_lem t l
      (λ v p.
      let o : List ℕ = set out t.lines (verdict_byte (verdict_of v (formula_of file x))) in
      let f = from-taken lay file x t l ls w out v p in
      ap (λ (z : Result). get_or z.2 k 0) f
      ∙ (bytes_rest ls v o k (omega (arith, h, ap count_of f)) ∙ get_or-set_other out t.lines k (verdict_byte (verdict_of v (formula_of file x))) 0 (λ e. omega (arith, h, ap count_of f, lines_grow ls v o, line_lines t v l p))))
      (λ c p. ap (λ (z : Result). get_or z.2 k 0) (from_refused lay file x t l ls w out c p))

  pub bytes_size : (ls : List (List ℕ)) (t : Trace) (out : List ℕ) → length (lines_from lay file x t ls w out).2 ≡ length out
  bytes_size [] t out = ap (λ (z : Result). length z.2) (from_none lay file x t w out)
  bytes_size (l ∷ ls) t out =
      by_answer_lem t l
      (λ v p.
      let b : ℕ = verdict_byte (verdict_of v (formula_of file x)) in
      ap (λ (z : Result). length z.2) (from-taken lay file x t l ls w out v p) ∙ (bytes_size ls v (set out t.lines b) ∙ length-set out t.lines b))
      (λ c p. ap (λ (z : Result). length z.2) (from_refused lay file x t l ls w out c p))

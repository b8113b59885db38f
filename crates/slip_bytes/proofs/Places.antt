-- Runs in bytes, one after another, and bytes in the places of a slip.
use Prim.Native.Nat.{ℕ, zero, suc, ◌+◌, ◌*◌, ◌<◌, ◌≤◌}
use mathlib.Core.Path.{◌≡◌, refl, sym, ap, ap₂, ◌∙◌}
use mathlib.Core.List.{List, [], ◌∷◌, ◌++◌, map}
use native.Mathlib.Omega.{arith}
use native.Mathlib.Numerals.{add-one}
use lib.ListN.{length, get_or, set, take, drop, replicate, length-map}
use lib.Seq.{take-suc, take_all, length-take-le}
use Rattle.lists.specs.Lists.{pad}
use Rattle.lists.proofs.Lists.{set-pad}
use Rattle.trace.specs.declared.RunNo.{RunNo}
use Rattle.slip_form.specs.declared.Slip.{Slip}
use Rattle.slip_form.specs.Slips.{run_no, numbers, slip_runs}
use Rattle.slip_search.proofs.Places.{length-numbers, map_last}
use Rattle.slip_bytes.specs.InBytes.{slip_from, runs_in}

-- ── runs into bytes ──
put_run : (i : ℕ) (l : List RunNo) (b : List ℕ) → i < length b → set (numbers i l ++ drop i b) i (get_or l i (run_no 0)).0 ≡ numbers (suc i) l ++ drop (suc i) b
put_run i l [] h = absurd (omega arith)
put_run zero [] (x ∷ b) h = refl
put_run zero (r ∷ l) (x ∷ b) h = refl
put_run (suc i) [] (x ∷ b) h = ap (λ (t : List ℕ). 0 ∷ t) (put_run i [] b (omega arith))
put_run (suc i) (r ∷ l) (x ∷ b) h = ap (λ (t : List ℕ). r.0 ∷ t) (put_run i l b (omega arith))

-- one run more
pub put_next : (i : ℕ) (l : List RunNo) (b now : List ℕ) (k : RunNo) → i < length b → k ≡ get_or l i (run_no 0) → now ≡ numbers i l ++ drop i b
    → set now i k.0 ≡ numbers (i + 1) l ++ drop (i + 1) b
put_next i l b now k h q e = ap₂ (λ (n : List ℕ) (r : RunNo). set n i r.0) e q ∙ rw (add-one) (put_run i l b h)

pub put_all : (x : Slip) (i : ℕ) (b now : List ℕ) → i ≡ x.count → now ≡ numbers i x.run ++ drop i b → now ≡ runs_in (slip_runs x) b
put_all x i b now e h =
    h ∙ (ap (λ (n : ℕ). numbers n x.run ++ drop n b) e ∙ ap (λ (n : ℕ). slip_runs x ++ drop n b) (sym (length-numbers x.count x.run)))

-- ── bytes into places ──
abbrev pub placed : ℕ → List ℕ → List RunNo
placed i b = pad (run_no 0) 4 (map run_no (take i b))

pub places_none : (b : List ℕ) → replicate 4 (run_no 0) ≡ placed 0 b
unfolding pad
places_none b = refl

pub place_next : (i : ℕ) (b : List ℕ) (run : List RunNo) (x : ℕ) → i < 4 → i < length b → x ≡ get_or b i 0 → run ≡ placed i b → set run i (run_no x) ≡ placed (i + 1) b
place_next i b run x low here q e =
    let n : length (map run_no (take i b)) ≡ i = length-map (take i b) run_no ∙ length-take-le i b (omega arith) in
    let t : take (i + 1) b ≡ take i b ++ (get_or b i 0 ∷ []) = rw (add-one) (take-suc b i 0 here) in
    ap (λ (y : ℕ). set run i (run_no y)) q
    ∙ (ap₂ (λ (r : List RunNo) (k : ℕ). set r k (run_no (get_or b i 0))) e (sym n)
    ∙ (set-pad (run_no 0) 4 (map run_no (take i b)) (run_no (get_or b i 0)) (omega arith)
    ∙ ap (pad (run_no 0) 4) (sym (ap (map run_no) t ∙ map_last (take i b) (get_or b i 0)))))

pub place_all : (i : ℕ) (b : List ℕ) (run : List RunNo) → run ≡ placed i b → i ≤ 4 → length b ≤ i → run ≡ placed 4 b
place_all i b run e low long =
    e ∙ ap (λ (l : List ℕ). pad (run_no 0) 4 (map run_no l)) (take_all i b long ∙ sym (take_all 4 b (omega arith)))

pub place_four : (i : ℕ) (b : List ℕ) (run : List RunNo) → run ≡ placed i b → i ≡ 4 → run ≡ placed 4 b
place_four i b run e four = e ∙ ap (λ (k : ℕ). placed k b) four

abbrev slip_at : ℕ → List RunNo → Slip
slip_at c l = record { count = c; run = l }

pub slip_is : (b : List ℕ) (run : List RunNo) → run ≡ placed 4 b → ◌≡◌ {A = Slip} (record { count = length b; run = run }) (slip_from b)
slip_is b run e = ap (slip_at (length b)) e

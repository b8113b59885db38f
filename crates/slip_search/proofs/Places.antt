-- The places of a slip: one run more, and unused places that are 0.
use Prim.Native.Nat.{ℕ, zero, suc, ◌+◌, ◌<◌, ◌≤◌}
use mathlib.Core.Path.{◌≡◌, refl, sym, ap, ap₂, subst, ◌∙◌}
use mathlib.Core.Bool.{Bool, ◌&&◌}
use mathlib.Core.List.{List, [], ◌∷◌, ◌++◌, map}
use native.Mathlib.Omega.{arith}
use native.Mathlib.Numerals.{add-one}
use borrow.Author.Tests.{lt-ltb, ltb-true}
use lib.Dec.{ltb}
use lib.ListN.{length, get_or, set, take, replicate}
use Rattle.std.specs.List.{list_all}
use Rattle.lists.specs.Tells.{Tells}
use Rattle.lists.proofs.Tells.{tell_no, tell_yes, tell_by}
use Rattle.lists.proofs.Cases.{either_bool, no_both, and_left, and_right}
use Rattle.lists.specs.Lists.{pad}
use Rattle.lists.proofs.Lists.{set-pad}
use Rattle.trace.specs.declared.RunNo.{RunNo}
use Rattle.slip_form.specs.declared.Slip.{Slip}
use Rattle.slip_form.specs.Slips.{Each, run_no, numbers, slip_runs, slip_of}
use Rattle.slip_search.specs.First.{Tidy}

pub length-numbers : (n : ℕ) (l : List RunNo) → length (numbers n l) ≡ n
length-numbers zero l = refl
length-numbers (suc n) [] = ap suc (length-numbers n [])
length-numbers (suc n) (r ∷ l) = ap suc (length-numbers n l)

length_last : (ks : List ℕ) (k : ℕ) → length (ks ++ (k ∷ [])) ≡ suc (length ks)
length_last [] k = refl
length_last (j ∷ ks) k = ap suc (length_last ks k)

pub map_last : (ks : List ℕ) (k : ℕ) → map run_no (ks ++ (k ∷ [])) ≡ map run_no ks ++ (run_no k ∷ [])
map_last [] k = refl
map_last (j ∷ ks) k = ap (λ (l : List RunNo). run_no j ∷ l) (map_last ks k)

length_runs : (ks : List ℕ) → length (map run_no ks) ≡ length ks
length_runs [] = refl
length_runs (k ∷ ks) = ap suc (length_runs ks)

-- one run more
put_last : (c : ℕ) (l : List RunNo) (k : ℕ) → c < length l → numbers (suc c) (set l c (run_no k)) ≡ numbers c l ++ (k ∷ [])
put_last c [] k h = absurd (omega arith)
put_last zero (x ∷ l) k h = refl
put_last (suc c) (x ∷ l) k h = ap (λ (r : List ℕ). x.0 ∷ r) (put_last c l k (omega arith))

pub slip_more : (c : ℕ) (l : List RunNo) (k : ℕ) → c < length l → numbers (c + 1) (set l c (run_no k)) ≡ numbers c l ++ (k ∷ [])
slip_more c l k h = rw (add-one) (put_last c l k h)

-- ── unused places ──
pub tidy_none : Tidy (record { count = 0; run = replicate 4 (run_no 0) })
unfolding pad
tidy_none = refl

abbrev slip : ℕ → List RunNo → Slip
slip c l = record { count = c; run = l }

same_slip : (x y : Slip) → x.count ≡ y.count → x.run ≡ y.run → x ≡ y
same_slip x y p q = ap₂ slip p q

pub tidy_more : (x : Slip) (k : ℕ) → Tidy x → x.count < 4 → length x.run ≡ 4
    → Tidy (record { count = x.count + 1; run = set x.run x.count (run_no k) })
tidy_more x k tidy room long =
    let ks : List ℕ = slip_runs x in
    let next : Slip = record { count = x.count + 1; run = set x.run x.count (run_no k) } in
    let more : slip_runs next ≡ slip_runs x ++ (k ∷ []) = slip_more x.count x.run k (omega arith) in
    let n : length (slip_runs x) ≡ x.count = length-numbers x.count x.run in
    let m : length (map run_no (slip_runs x)) ≡ x.count = length_runs (slip_runs x) ∙ n in
    let run : x.run ≡ pad (run_no 0) 4 (map run_no (slip_runs x)) = ap (λ (y : Slip). y.run) tidy in
    let count : x.count + 1 ≡ length (slip_runs x ++ (k ∷ [])) = let e = length_last (slip_runs x) k in omega arith in
    let places : set x.run x.count (run_no k) ≡ pad (run_no 0) 4 (map run_no (slip_runs x ++ (k ∷ []))) =
    ap₂ (λ (l : List RunNo) (c : ℕ). set l c (run_no k)) run (sym m)
    ∙ (set-pad (run_no 0) 4 (map run_no (slip_runs x)) (run_no k) (omega arith) ∙ ap (pad (run_no 0) 4) (sym (map_last (slip_runs x) k)))
    in
    same_slip next (slip_of (slip_runs next)) (count ∙ ap length (sym more)) (places ∙ ap (λ (l : List ℕ). pad (run_no 0) 4 (map run_no l)) (sym more))

-- ── each run of a slip ──
module _ (P : ℕ → Type 0) where
  pub each_at : (n : ℕ) (l : List RunNo) (i : ℕ) → i < n → Each P (numbers n l) → P (get_or l i (run_no 0)).0
  unfolding Each
  each_at zero l i h e = absurd (omega arith)
  each_at (suc n) [] zero h e = e.0
  each_at (suc n) [] (suc i) h e = each_at n [] i (omega arith) e.1
  each_at (suc n) (r ∷ l) zero h e = e.0
  each_at (suc n) (r ∷ l) (suc i) h e = each_at n l i (omega arith) e.1

  one_more : (i : ℕ) (l : List RunNo) → Each P (numbers i l) → P (get_or l i (run_no 0)).0 → Each P (numbers (suc i) l)
  unfolding Each
  one_more zero [] e h = (h, tt)
  one_more zero (r ∷ l) e h = (h, tt)
  one_more (suc i) [] e h = (e.0, one_more i [] e.1 h)
  one_more (suc i) (r ∷ l) e h = (e.0, one_more i l e.1 h)

  pub each_more : (i : ℕ) (l : List RunNo) → Each P (numbers i l) → P (get_or l i (run_no 0)).0 → Each P (numbers (i + 1) l)
  each_more i l e h = rw (add-one) (one_more i l e h)

-- a test of each run tells whether all have a rank
abbrev pub ranked? : List ℕ → ℕ → RunNo → Bool
ranked? ranks runs r = ltb r.0 128 && ltb (get_or ranks r.0 0) runs

abbrev pub HasRank : List ℕ → ℕ → ℕ → Type 0
HasRank ranks runs k = (k < 128) × (get_or ranks k 0 < runs)

one_tells : (ranks : List ℕ) (runs k : ℕ) (b : Bool) (ks : List ℕ) → Tells b (Each (HasRank ranks runs) ks)
    → Tells ((ltb k 128 && ltb (get_or ranks k 0) runs) && b) (Each (HasRank ranks runs) (k ∷ ks))
unfolding Each
one_tells ranks runs k b ks t =
    either_bool (ltb k 128 && ltb (get_or ranks k 0) runs)
    (λ e.
    subst (λ (y : Bool). Tells (y && b) (HasRank ranks runs k × Each (HasRank ranks runs) ks)) (sym e)
    (tell_by (λ w. ((ltb-true k 128 (and_left (ltb k 128) _ e), ltb-true (get_or ranks k 0) runs (and_right (ltb k 128) _ e)), w)) (λ w. w.1) t))
    (λ e.
    subst (λ (y : Bool). Tells (y && b) (HasRank ranks runs k × Each (HasRank ranks runs) ks)) (sym e)
    (tell_no (λ w. no_both (sym (ap₂ ◌&&◌ (lt-ltb k 128 w.0.0) (lt-ltb (get_or ranks k 0) runs w.0.1)) ∙ e))))

pub each_tells : (ranks : List ℕ) (runs n : ℕ) (l : List RunNo) → n ≤ length l
    → Tells (list_all (ranked? ranks runs) (take n l)) (Each (HasRank ranks runs) (numbers n l))
unfolding Each
each_tells ranks runs zero l h = tell_yes tt
each_tells ranks runs (suc n) [] h = absurd (omega arith)
each_tells ranks runs (suc n) (r ∷ l) h = one_tells ranks runs r.0 _ (numbers n l) (each_tells ranks runs n l (omega arith))

pub number_at_lem : (n : ℕ) (l : List RunNo) (i : ℕ) → i < n → get_or (numbers n l) i 0 ≡ (get_or l i (run_no 0)).0
number_at_lem zero l i h = absurd (omega arith)
number_at_lem (suc n) [] zero h = refl
number_at_lem (suc n) [] (suc i) h = number_at_lem n [] i (omega arith)
number_at_lem (suc n) (r ∷ l) zero h = refl
number_at_lem (suc n) (r ∷ l) (suc i) h = number_at_lem n l i (omega arith)

-- The line of a slip, from the pieces that it is written with: the runs one after another, each with a space before it.
use Prim.Native.Nat.{ℕ, zero, suc, ◌+◌, ◌*◌, ◌≤◌}
use mathlib.Core.Path.{◌≡◌, refl, ap, sym, ◌∙◌}
use mathlib.Core.List.{List, [], ◌∷◌, ◌++◌, append_assoc, append-nil}
use native.Mathlib.Omega.{arith}
use native.Mathlib.Numerals.{add-one}
use lib.ListN.{length, get_or, take}
use lib.Seq.{length-take-le}
use Rattle.trace.specs.declared.RunNo.{RunNo}
use Rattle.text_pieces.specs.Pieces.{decimal, count_text}
use Rattle.text_pieces.specs.Writing.{Writes, WritesFew}
use Rattle.text_pieces.proofs.Writing.{wrote_nothing, then, writes_same}
use Rattle.slip_form.specs.declared.Slip.{Slip}
use Rattle.slip_form.specs.Slips.{run_no, numbers, slip_runs}
use Rattle.std.specs.Prelude.{Some, None, Ok, Err}
use Rattle.refusals.specs.declared.Refusal.{Refusal}
use Rattle.slips.specs.Answers.{Finding}
use Rattle.log_slips.specs.Printed.{runs_text, slip_text}
use Rattle.log_slips.specs.Walk.{found_text}

-- one number more
numbers_next : (k : ℕ) (rs : List RunNo) → numbers (suc k) rs ≡ numbers k rs ++ ((get_or rs k (run_no 0)).0 ∷ [])
numbers_next zero [] = refl
numbers_next zero (r ∷ rs) = refl
numbers_next (suc k) [] = ap (λ (l : List ℕ). 0 ∷ l) (numbers_next k [])
numbers_next (suc k) (r ∷ rs) = ap (λ (l : List ℕ). r.0 ∷ l) (numbers_next k rs)

runs_joined : (js ks : List ℕ) → runs_text (js ++ ks) ≡ runs_text js ++ runs_text ks
unfolding runs_text
runs_joined [] ks = refl
runs_joined (j ∷ js) ks = ap (λ (l : List ℕ). count_text j ++ l) (runs_joined js ks) ∙ sym (append_assoc (count_text j) (runs_text js) (runs_text ks))

-- the text of the first k runs
abbrev pub runs_to : List RunNo → ℕ → List ℕ
runs_to rs k = runs_text (numbers k rs)

runs_more : (rs : List RunNo) (k : ℕ) → runs_to rs (suc k) ≡ runs_to rs k ++ count_text (get_or rs k (run_no 0)).0
unfolding runs_text
runs_more rs k =
    ap runs_text (numbers_next k rs)
    ∙ (runs_joined (numbers k rs) ((get_or rs k (run_no 0)).0 ∷ [])
    ∙ ap (λ (l : List ℕ). runs_to rs k ++ l) (append-nil (count_text (get_or rs k (run_no 0)).0)))

pub runs_none : (rs : List RunNo) (text : List ℕ) (p : ℕ) → p ≤ length text → Writes (runs_to rs 0) text p text p
unfolding runs_text
runs_none rs text p h = wrote_nothing text p h

pub runs_next : (rs : List RunNo) (text text₁ text₂ : List ℕ) (p k q r n : ℕ) → Writes (runs_to rs k) text p text₁ q
    → n ≡ (get_or rs k (run_no 0)).0 → WritesFew 4 (count_text n) text₁ q text₂ r → Writes (runs_to rs (k + 1)) text p text₂ r
runs_next rs text text₁ text₂ p k q r n a e b =
    writes_same
    (ap (λ (x : ℕ). runs_to rs k ++ count_text x) e ∙ (sym (runs_more rs k) ∙ ap (runs_to rs) (sym (add-one k))))
    (then a b.writes)

-- the numbers of the first runs are in the list of these alone
numbers_front : (n : ℕ) (rs : List RunNo) → n ≤ length rs → numbers n (take n rs) ≡ numbers n rs
numbers_front zero rs h = refl
numbers_front (suc n) [] h = absurd (omega arith)
numbers_front (suc n) (r ∷ rs) h = ap (λ (l : List ℕ). r.0 ∷ l) (numbers_front n rs (omega arith))

pub runs_all : (rs : List RunNo) (n : ℕ) (text text₁ : List ℕ) (p k q : ℕ) → length rs ≡ 4 → n ≤ 4 → k ≤ length (take n rs) → length (take n rs) ≤ k
    → q ≤ p + 4 * k → Writes (runs_to (take n rs) k) text p text₁ q → WritesFew 16 (runs_to rs n) text p text₁ q
runs_all rs n text text₁ p k q four h l m few w =
    let e : k ≡ n = omega (arith, length-take-le n rs (omega arith)) in
    record {
      writes = writes_same (ap (runs_to (take n rs)) e ∙ ap runs_text (numbers_front n rs (omega arith))) w;
      few = omega arith;
    }

pub slip_written : (slip : Slip) (n : ℕ) (text text₁ text₂ text₃ : List ℕ) (p q r s : ℕ) → WritesFew 3 (decimal n) text p text₁ q
    → WritesFew 16 (runs_text (slip_runs slip)) text₁ q text₂ r → Writes (10 ∷ []) text₂ r text₃ s → WritesFew 20 (slip_text n (slip_runs slip)) text p text₃ s
unfolding slip_text
slip_written slip n text text₁ text₂ text₃ p q r s a b c =
    record { writes = then a.writes (then b.writes c); few = omega (arith, a.few, b.few, c.after) }

-- ── what is found ──
module _ (a : Finding) (n : ℕ) (text : List ℕ) (p : ℕ) where
  pub first_written : (x : Slip) → a ≡ Ok (Some x) → (text' : List ℕ) (q : ℕ) → WritesFew 20 (slip_text n (slip_runs x)) text p text' q
      → WritesFew 20 (found_text n a) text p text' q
  first_written x e text' q w =
      record { writes = writes_same (sym (ap (found_text n) e)) w.writes; few = w.few }

  nothing : found_text n a ≡ [] → p + 20 ≤ length text → WritesFew 20 (found_text n a) text p text p
  nothing e h = record { writes = writes_same (sym e) (wrote_nothing text p (omega arith)); few = omega arith }

  pub nothing_written : a ≡ Ok None → p + 20 ≤ length text → WritesFew 20 (found_text n a) text p text p
  nothing_written e = nothing (ap (found_text n) e)

  pub refused_written : (c : Refusal) → a ≡ Err c → p + 20 ≤ length text → WritesFew 20 (found_text n a) text p text p
  refused_written c e = nothing (ap (found_text n) e)

-- What is told of a read and a call, from what the two answered.
use Prim.Native.Nat.{ℕ, ◌+◌, ◌≤◌}
use mathlib.Core.Path.{◌≡◌, refl, sym, ap, subst, ◌∙◌}
use mathlib.Core.List.{List, [], ◌∷◌, ◌++◌}
use native.Mathlib.Omega.{arith}
use lib.ListN.{length, take, drop, length-append}
use lib.Seq.{length-take-le, take-append_seam}
use Rattle.input.specs.Counts.{IsPrefixLen}
use Rattle.std.specs.declared.io.Error.{Error}
use Rattle.input.specs.Filled.{Filled, Fills}
use Rattle.std.specs.Prelude.{Ok, Err}
use Rattle.input.proofs.Answers.{counted}
use Rattle.output.specs.Written.{left_by}
use Rattle.output.specs.declared.Written.{Written}
use Rattle.output.specs.declared.Written.TheVariants.{Length, Refused}
use Rattle.text_pieces.specs.Pieces.{decimal}
use Rattle.text_pieces.specs.Writing.{put, Writes, WritesFew}
use Rattle.text_pieces.proofs.Writing.{then}
use Rattle.told.specs.Told.{refusal_line, size_of, output_of, error_of, PutsError, Tells, Answered}

-- ── the line of a refusal ──
pub refusal_written : (c : ℕ) (line line₁ line₂ line₃ : List ℕ) (p q r : ℕ) → Writes (82 ∷ []) line 0 line₁ p → WritesFew 3 (decimal c) line₁ p line₂ q
    → Writes (10 ∷ []) line₂ q line₃ r → WritesFew 5 (refusal_line c) line 0 line₃ r
unfolding refusal_line
refusal_written c line line₁ line₂ line₃ p q r a b d =
    record {
      writes = then a (then b.writes d);
      few = omega (arith, a.after, b.few, d.after);
    }

pub no_error : (w : Written) (n : ℕ) (line : List ℕ) → w ≡ Length n → PutsError w line 0
no_error w n line e = record { counts = (omega arith, refl); bytes = sym (ap error_of e) }

pub error-put : (w : Written) (c : ℕ) (line line' : List ℕ) (n : ℕ) → w ≡ Refused c → WritesFew 5 (refusal_line c) line 0 line' n → PutsError w line' n
unfolding put
error-put w c line line' n e x =
    let s : List ℕ = refusal_line c in
    let z : 0 + length s ≡ length s = omega arith in
    let k : n ≡ length s = x.writes.after ∙ z in
    let t : line' ≡ s ++ drop (length s) line = x.writes.bytes ∙ ap (λ (m : ℕ). s ++ drop m line) z in
    let h : n ≤ length line' = simp (t, k, length-append) (omega arith) in
    record {
      counts = (h, sym (length-take-le n line' h));
      bytes = (simp (t, k) (take-append_seam s (drop (length s) line))) ∙ sym (ap error_of e);
    }

-- ── what is told of a read ──
pub read_count : (a : Filled) (n : ℕ) (buffer : List ℕ) → a ≡ Ok n → Fills a buffer → n ≡ length (take n buffer)
read_count a n buffer e f = (counted a n buffer e f).1

-- how many bytes an answer counts
abbrev bytes_of : Filled → ℕ
bytes_of (Ok n) = n
bytes_of (Err e) = 0

not_both : (a : Filled) (n : ℕ) (x : Error) → a ≡ Ok n → a ≡ Err x → ⊥
not_both a n x e f = let q : ◌≡◌ {A = Filled} (Ok n) (Err x) = sym e ∙ f in let z : ◌≡◌ {A = ℕ} 0 1 = cc in omega arith

module _ (f : List ℕ → List ℕ) (room : ℕ) (a : Filled) (buffer : List ℕ) where
  pub tells_nothing : (x : Error) → a ≡ Err x → Tells f room a buffer []
  tells_nothing x e =
      record {
        read = λ n p. absurd (not_both a n x p e);
        whole = λ n p. absurd (not_both a n x p e);
        failed = λ y p. refl;
      }

  -- where the first bytes decide what is told
  pub tells_read : ((input : List ℕ) → f (take room input) ≡ f input) → (n : ℕ) → a ≡ Ok n → (s : List ℕ) → s ≡ f (take n buffer) → Tells f room a buffer s
  tells_read cut n e s q =
      let same : (m : ℕ) → a ≡ Ok m → s ≡ f (take m buffer) = λ m p. q ∙ ap (λ (x : Filled). f (take (bytes_of x) buffer)) (sym e ∙ p) in
      record {
        read = same;
        whole = λ m p input h. same m p ∙ (ap f h ∙ cut input);
        failed = λ y p. absurd (not_both a n y e p);
      }

-- ── what is told of a call ──
-- the bytes that a call wrote stand at the start of its buffer
module _ (bytes before : List ℕ) where
  pub bytes_first : (w : Written) → ((n : ℕ) → w ≡ Length n → n ≡ length bytes)
      → IsPrefixLen (size_of w) (left_by w bytes before) × (take (size_of w) (left_by w bytes before) ≡ output_of w bytes)
  bytes_first (Length n) l =
      let k : n ≡ length bytes = l n refl in
      let h : n ≤ length (bytes ++ drop n before) = simp length-append (omega arith) in
      ((h, sym (length-take-le n (bytes ++ drop n before) h)), ap (λ (m : ℕ). take m (bytes ++ drop n before)) k ∙ take-append_seam bytes (drop n before))
  bytes_first (Refused c) l = ((omega arith, refl), refl)

module _ (f g : List ℕ → List ℕ) (room : ℕ) (a : Filled) (buffer : List ℕ) where
  pub answered-nothing : (out : List ℕ) (x : Error) → a ≡ Err x → Answered f g room a buffer (Length 0) out
  answered-nothing out x e =
      record {
        counts = (omega arith, refl);
        output = tells_nothing f room a buffer x e;
        error = tells_nothing g room a buffer x e;
      }

  -- the call is made on the bytes that were read, and `f` and `g` are what its definition says of them
  pub answered : ((input : List ℕ) → f (take room input) ≡ f input) → ((input : List ℕ) → g (take room input) ≡ g input)
      → (n : ℕ) → a ≡ Ok n → (w : Written) (bytes before after : List ℕ) → after ≡ left_by w bytes before → ((m : ℕ) → w ≡ Length m → m ≡ length bytes)
      → output_of w bytes ≡ f (take n buffer) → error_of w ≡ g (take n buffer) → Answered f g room a buffer w after
  answered f-cut g-cut n e w bytes before after left l p q =
      let x = bytes_first bytes before w l in
      record {
        counts = subst (IsPrefixLen (size_of w)) (sym left) x.0;
        output = tells_read f room a buffer f-cut n e (take (size_of w) after) (ap (take (size_of w)) left ∙ (x.1 ∙ p));
        error = tells_read g room a buffer g-cut n e (error_of w) q;
      }

  -- what is handed on of the two buffers
  module _ (w : Written) (out : List ℕ) (x : Answered f g room a buffer w out) (n : ℕ) where
    pub output_count : n ≡ size_of w → n ≡ length (take n out)
    output_count e = subst (λ (m : ℕ). m ≡ length (take m out)) (sym e) x.counts.1

    pub output-told : n ≡ size_of w → Tells f room a buffer (take n out)
    output-told e = subst (λ (m : ℕ). Tells f room a buffer (take m out)) (sym e) x.output

    pub error-told : (line : List ℕ) → PutsError w line n → Tells g room a buffer (take n line)
    error-told line p = subst (Tells g room a buffer) (sym p.bytes) x.error

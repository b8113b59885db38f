-- Laws of one line: what each test of `read_line` says of the line at the front, and that a line lies in the bytes.
use Prim.Native.Nat.{ℕ, zero, suc, ◌+◌, ◌-◌, ◌≤◌, ◌<◌}
use mathlib.Core.Path.{◌≡◌, refl, ap, sym, ◌∙◌}
use mathlib.Core.Logic.{◌≢◌}
use mathlib.Core.Bool.{Bool, true, false, not, ◌&&◌, cond}
use mathlib.Core.List.{List, [], ◌∷◌}
use native.Mathlib.Omega.{arith}
use borrow.Author.Tests.{eq-eqb, ne_eqb, le-leb, lt-leb, lt-ltb, le-ltb, eqb-true, leb-true}
use lib.Dec.{eqb, leb, ltb}
use lib.ListN.{length, take, drop, get_or, length-drop}
use lib.Seq.{take_all}
use Rattle.std.specs.List.{position_or_len}
use Rattle.std.specs.Option.{unwrap_or}
use Rattle.std.specs.Prelude.{Option, Some, None}
use Rattle.lists.proofs.Cases.{either_lt, never, no_both}
use Rattle.labels.specs.Label.{letter?, capital, label_length?}
use Rattle.label_book.specs.Reading.{label_byte?, text_byte?, fits?, span, line?, label_span, text_span, line_of}

-- ── which bytes fit ──
pub text_line_end : (text : Bool) (b : ℕ) → text ≡ true → b ≡ 10 → false ≡ fits? text b
unfolding text_byte?
text_line_end text b e h = rw e (simp (eq-eqb b 10 h))

pub text_other : (text : Bool) (b : ℕ) → text ≡ true → b ≢ 10 → not (eqb b 61) ≡ fits? text b
unfolding text_byte?
text_other text b e h = rw e (simp (ne_eqb b 10 h))

pub label_byte_fits : (text : Bool) (b k : ℕ) (r : Bool) → text ≡ false → k ≡ capital b → r ≡ letter? k → r ≡ fits? text b
unfolding label_byte?
label_byte_fits text b k r e h q = q ∙ ap letter? h ∙ (rw e refl)

pub ruleset fitting = (text_line_end, text_other, label_byte_fits)

-- ── counting from the front ──
span_place : (f : ℕ → Bool) (s : List ℕ) → position_or_len (λ b. not (f b)) s ≡ span f s
span_place f [] = refl
span_place f (x ∷ s) = go (f x) (span_place f s)
  where
    go : (t : Bool) → position_or_len (λ b. not (f b)) s ≡ span f s → cond (not (not t)) (1 + position_or_len (λ b. not (f b)) s) 0 ≡ cond t (suc (span f s)) 0
    go true h = omega arith
    go false h = refl

span_long : (f : ℕ → Bool) (s : List ℕ) → span f s ≤ length s
span_long f [] = omega arith
span_long f (x ∷ s) = go (f x) (span_long f s)
  where
    go : (t : Bool) → span f s ≤ length s → cond t (suc (span f s)) 0 ≤ suc (length s)
    go true h = omega arith
    go false h = omega arith

-- the place of the first byte that fails, or the length where there is none
pub span_found : (f : ℕ → Bool) (s : List ℕ) (r : Option ℕ)
    → r ≡ cond (ltb (position_or_len (λ b. not (f b)) s) (length s)) (Some (position_or_len (λ b. not (f b)) s)) None → unwrap_or r (length s) ≡ span f s
span_found f s r e =
    either_lt (position_or_len (λ b. not (f b)) s) (length s)
    (λ h. rw (e, lt-ltb (position_or_len (λ b. not (f b)) s) (length s) h) (span_place f s))
    (λ h. rw (e, le-ltb (position_or_len (λ b. not (f b)) s) (length s) h) (omega (arith, span_place f s, span_long f s)))

-- ── bytes past the end ──
past_end : (l : List ℕ) (n : ℕ) → length l ≤ n → get_or l n 0 ≡ 0
past_end [] n h = refl
past_end (x ∷ l) zero h = absurd (omega arith)
past_end (x ∷ l) (suc n) h = past_end l n (omega arith)

within_of : (l : List ℕ) (n k : ℕ) → get_or l n 0 ≡ k → 1 ≤ k → n < length l
within_of l n k e h = either_lt n (length l) (λ q. q) (λ q. absurd (omega (arith, past_end l n q)))

-- a part of a slice that runs to its end
pub rest_drop : (i : ℕ) (s : List ℕ) → take (length s - i) (drop i s) ≡ drop i s
rest_drop i s = take_all (length s - i) (drop i s) (omega (arith, length-drop i s))

-- ── the tests of a line ──
not_line : (s : List ℕ) → line? (label_span s) (text_span s) s ≡ false → None ≡ line_of s
unfolding line_of
not_line s e = simp e

module _ (s : List ℕ) (n : ℕ) (e : n ≡ span label_byte? s) where
  pub no_label : n ≡ 0 → None ≡ line_of s
  unfolding line?
  no_label h = not_line s (simp (lt-leb 1 (label_span s) (omega arith)))

  module _ (h1 : n ≢ 0) where
    pub long_label_lem : 24 < n → None ≡ line_of s
    unfolding line?
    long_label_lem h = not_line s (simp (le-leb 1 (label_span s) (omega arith), lt-leb (label_span s) 24 (omega arith)))

    module _ (h2 : n ≤ 24) where
      size_is : label_length? (label_span s) ≡ true
      size_is = simp (le-leb 1 (label_span s) (omega arith), le-leb (label_span s) 24 (omega arith))

      pub no_sign : get_or s n 0 ≢ 61 → None ≡ line_of s
      unfolding line?
      no_sign h = not_line s (simp (size_is, ne_eqb (get_or s (label_span s) 0) 61 (rw e at h)))

      pub no_more : length s ≤ n → None ≡ line_of s
      no_more h = no_sign (λ q. omega (arith, past_end s n h))

      module _ (h3 : get_or s n 0 ≡ 61) (m : ℕ) (f : m ≡ span text_byte? (take (length s - (n + 1)) (drop (n + 1) s))) where
        text_is : m ≡ text_span s
        text_is = f ∙ ap (span text_byte?) (rest_drop (n + 1) s) ∙ ap (λ (k : ℕ). span text_byte? (drop (k + 1) s)) e

        sign_is : eqb (get_or s (label_span s) 0) 61 ≡ true
        sign_is = eq-eqb (get_or s (label_span s) 0) 61 (rw e at h3)

        pub no_text : m ≡ 0 → None ≡ line_of s
        unfolding line?
        no_text h = not_line s (simp (size_is, sign_is, lt-leb 1 (text_span s) (omega (arith, text_is))))

        module _ (h4 : m ≢ 0) where
          some_is : leb 1 (text_span s) ≡ true
          some_is = le-leb 1 (text_span s) (omega (arith, text_is))

          pub long_text_lem : 60 < m → None ≡ line_of s
          unfolding line?
          long_text_lem h = not_line s (simp (size_is, sign_is, some_is, lt-leb (text_span s) 60 (omega (arith, text_is))))

          module _ (h5 : m ≤ 60) where
            few_is : leb (text_span s) 60 ≡ true
            few_is = le-leb (text_span s) 60 (omega (arith, text_is))

            end_is : get_or s (n + 1 + m) 0 ≡ get_or s (label_span s + 1 + text_span s) 0
            end_is = ap (λ (j : ℕ). get_or s j 0) (omega (arith, e, text_is))

            pub no_line_end : get_or s (n + 1 + m) 0 ≢ 10 → None ≡ line_of s
            unfolding line?
            no_line_end h = not_line s (simp (size_is, sign_is, some_is, few_is, ne_eqb (get_or s (label_span s + 1 + text_span s) 0) 10 (λ q. h (end_is ∙ q))))

            pub cut_off : length s ≤ n + 1 + m → None ≡ line_of s
            cut_off h = no_line_end (λ q. omega (arith, past_end s (n + 1 + m) h))

            pub whole_line : get_or s (n + 1 + m) 0 ≡ 10 → Some (n, m) ≡ line_of s
            unfolding line? line_of
            whole_line h =
                let g : line? (label_span s) (text_span s) s ≡ true =
                simp (size_is, sign_is, some_is, few_is, eq-eqb (get_or s (label_span s + 1 + text_span s) 0) 10 (sym end_is ∙ h))
                in
                simp g (cc (e, text_is))

pub ruleset lines = (no_label, long_label_lem, no_sign, no_more, no_text, long_text_lem, no_line_end, cut_off, whole_line)

-- ── what a line that is read has ──
pub record LineIs (s : List ℕ) (n m : ℕ) : Type 0 where
  pub label_span_lem : n ≡ label_span s
  pub text_span_lem : m ≡ text_span s
  pub label_some : 1 ≤ n
  pub label_few : n ≤ 24
  pub sign : get_or s n 0 ≡ 61
  pub text_some : 1 ≤ m
  pub text_few : m ≤ 60
  pub line_end : get_or s (n + 1 + m) 0 ≡ 10
  pub within : n + m + 2 ≤ length s

six : (a b c d e f : Bool) → (a && b) && c && d && e && f ≡ true → (a ≡ true) × (b ≡ true) × (c ≡ true) × (d ≡ true) × (e ≡ true) × (f ≡ true)
six true true true true true true h = (refl, refl, refl, refl, refl, refl)
six true true true true true false h = no_both (sym h)
six true true true true false f h = no_both (sym h)
six true true true false e f h = no_both (sym h)
six true true false d e f h = no_both (sym h)
six true false c d e f h = no_both (sym h)
six false b c d e f h = no_both (sym h)

module _ (s : List ℕ) (n m : ℕ) (e : line_of s ≡ Some (n, m)) where
  told : (b : Bool) → b ≡ line? (label_span s) (text_span s) s → cond {A = Option (ℕ × ℕ)} b (Some (label_span s, text_span s)) None ≡ Some (n, m)
      → (line? n m s ≡ true) × (n ≡ label_span s) × (m ≡ text_span s)
  told true p q =
      let w : ◌≡◌ {A = ℕ × ℕ} (label_span s, text_span s) (n, m) = cc in
      let h : label_span s ≡ n = ap (λ (t : ℕ × ℕ). t.0) w in
      let k : text_span s ≡ m = ap (λ (t : ℕ × ℕ). t.1) w in (rw (← h, ← k) (sym p), sym h, sym k)
  told false p q = never cc

  pub line_is : LineIs s n m
  unfolding line? line_of
  line_is =
      let t = told (line? (label_span s) (text_span s) s) refl e in
      let g = six (leb 1 n) (leb n 24) (eqb (get_or s n 0) 61) (leb 1 m) (leb m 60) (eqb (get_or s (n + 1 + m) 0) 10) t.0 in
      let h : get_or s (n + 1 + m) 0 ≡ 10 = eqb-true (get_or s (n + 1 + m) 0) 10 g.5 in
      record {
        label_span_lem = t.1;
        text_span_lem = t.2;
        label_some = leb-true 1 n g.0;
        label_few = leb-true n 24 g.1;
        sign = eqb-true (get_or s n 0) 61 g.2;
        text_some = leb-true 1 m g.3;
        text_few = leb-true m 60 g.4;
        line_end = h;
        within = let w : n + 1 + m < length s = within_of s (n + 1 + m) 10 h (omega arith) in omega arith;
      }

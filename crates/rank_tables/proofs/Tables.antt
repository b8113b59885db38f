-- Laws of the tables of ranks by a value: what one turn of a loop does to them.
use Prim.Native.Nat.{ℕ, zero, suc, ◌+◌, ◌*◌, ◌<◌, ◌≤◌}
use mathlib.Core.Path.{◌≡◌, refl, sym, ap, ap₂, ◌∙◌}
use mathlib.Core.Bool.{Bool, false, ◌&&◌, ◌||◌, and-true, and-false, or-false}
use mathlib.Core.List.{List}
use native.Mathlib.Nat.{le_refl}
use native.Mathlib.Numerals.{add-one}
use native.Mathlib.Omega.{arith}
use borrow.Author.Tests.{lt-ltb, le-ltb, le-leb, lt-leb, eq-eqb, ne_eqb}
use lib.Dec.{eqb, ltb, leb}
use lib.ListN.{length, get_or, replicate}
use Rattle.lists.specs.Lists.{any_below}
use Rattle.lists.proofs.Below.{any_agree}
use Rattle.lists.proofs.Cases.{either_lt, either_eq}
use Rattle.lists.proofs.Lists.{zeros}
use Rattle.sets.specs.Sets.{mem}
use Rattle.sets.specs.declared.RunSet.{RunSet}
use Rattle.sets.proofs.Sets.{mem_none}
use Rattle.set_table.specs.Rows.{row, Stored}
use Rattle.rank_tables.specs.Tables.{Gained, Spread, Earlier}

-- ── one rank ──
pub single_law : (i j : ℕ) → (ltb j (i + 1) && leb i j) ≡ eqb j i
single_law i j =
    either_eq j i (λ e. rw (eq-eqb j i e, lt-ltb j (i + 1) (omega arith), le-leb i j (omega arith)))
    (λ n.
    rw (ne_eqb j i n)
    (either_lt j i (λ l. rw (lt-ltb j (i + 1) (omega arith), lt-leb i j (omega arith))) (λ l. rw (le-ltb j (i + 1) (omega arith)))))

-- a row that gains rank i
pub gain_law : (old new : List ℕ) (v i : ℕ) (s : RunSet) → Stored old new v s → ((j : ℕ) → mem s j ≡ (mem (row old v) j || eqb j i))
    → (r j : ℕ) → mem (row new r) j ≡ (mem (row old r) j || (eqb j i && eqb v r))
gain_law old new v i s d f r j =
    either_eq r v
    (λ e.
    rw (eq-eqb v r (sym e), and-true (eqb j i))
    (ap (λ (x : ℕ). mem (row new x) j) e ∙ ap (λ (x : RunSet). mem x j) d.same ∙ f j ∙ ap (λ (x : ℕ). mem (row old x) j || eqb j i) (sym e)))
    (λ n. rw (ne_eqb v r (λ q. n (sym q)), and-false (eqb j i), or-false (mem (row old r) j)) (ap (λ (x : RunSet). mem x j) (d.other r n)))

-- ── a loop over ranks ──
pub gained_none : (values old : List ℕ) → Gained values old old 0
gained_none values old = record { long = refl; gains = λ v j. rw (le-ltb j 0 (omega arith)) (sym (or-false (mem (row old v) j))) }

pub gained_more : (values old w new : List ℕ) (k v : ℕ) → Gained values old w k → v ≡ get_or values k 0 → length new ≡ length w
    → ((r j : ℕ) → mem (row new r) j ≡ (mem (row w r) j || (eqb j k && eqb v r))) → Gained values old new (k + 1)
gained_more values old w new k v d e long f = record { long = long ∙ d.long; gains = λ r j. f r j ∙ turn r j }
  where
    turn : (r j : ℕ) → (mem (row w r) j || (eqb j k && eqb v r)) ≡ (mem (row old r) j || (ltb j (k + 1) && eqb (get_or values j 0) r))
    turn r j =
        either_eq j k
        (λ q.
        let before : mem (row w r) j ≡ mem (row old r) j = d.gains r j ∙ rw (le-ltb j k (omega arith)) (or-false (mem (row old r) j)) in
        let own : v ≡ get_or values j 0 = e ∙ ap (λ (x : ℕ). get_or values x 0) (sym q) in
        rw (eq-eqb j k q, lt-ltb j (k + 1) (omega arith), before, own) refl)
        (λ n.
        rw (ne_eqb j k n, or-false (mem (row w r) j))
        (d.gains r j
        ∙ either_lt j k (λ l. rw (lt-ltb j k l, lt-ltb j (k + 1) (omega arith)) refl)
        (λ l. rw (le-ltb j k l, le-ltb j (k + 1) (omega arith)) refl)))

-- ── a loop over rows ──
-- the rows below r are spread, the others are as they were, and `seen` has what the rows below r had
pub record SpreadTo (old new : List ℕ) (seen : RunSet) (r : ℕ) : Type 0 where
  pub long : length new ≡ length old
  pub before : (i j : ℕ) → i < r → mem (row new i) j ≡ any_below i (λ k. mem (row old k) j)
  pub after : (i : ℕ) → r ≤ i → row new i ≡ row old i
  pub passed : (j : ℕ) → mem seen j ≡ any_below r (λ k. mem (row old k) j)

pub spread_none : (old : List ℕ) (seen : RunSet) → ((j : ℕ) → mem seen j ≡ false) → SpreadTo old old seen 0
spread_none old seen e = record { long = refl; before = λ i j l. absurd (omega arith); after = λ i l. refl; passed = e }

pub spread_more : (old w new : List ℕ) (seen here next : RunSet) (r : ℕ) → SpreadTo old w seen r → Stored w new r seen → here ≡ row w r
    → ((j : ℕ) → mem next j ≡ (mem seen j || mem here j)) → SpreadTo old new next (r + 1)
spread_more old w new seen here next r d s e f =
    record {
      long = s.long ∙ d.long;
      before = λ i j l.
          either_eq i r
          (λ q. rw q (ap (λ (x : RunSet). mem x j) s.same ∙ d.passed j))
          (λ n. ap (λ (x : RunSet). mem x j) (s.other i n) ∙ d.before i j (omega arith));
      after = λ i l. s.other i (λ q. omega arith) ∙ d.after i (omega arith);
      passed = λ j. rw (add-one r) (f j ∙ ap₂ ◌||◌ (d.passed j) (ap (λ (x : RunSet). mem x j) (e ∙ d.after r (le_refl r))));
    }

-- ── a new table ──
pub new_row : (n r j : ℕ) → mem (row (replicate n 0) r) j ≡ false
new_row n r j = mem_none (row (replicate n 0) r) (zeros n (2 * r)) (zeros n (2 * r + 1)) j

pub numbered_law : (values w : List ℕ) (n : ℕ) → Gained values (replicate n 0) w 128 → (v j : ℕ) → j < 128 → mem (row w v) j ≡ eqb (get_or values j 0) v
numbered_law values w n d v j h = d.gains v j ∙ rw (new_row n v j, lt-ltb j 128 h) refl

-- some number below l is v
any_equal : (v l : ℕ) → any_below l (λ k. eqb v k) ≡ ltb v l
any_equal v zero = sym (le-ltb v 0 (omega arith))
any_equal v (suc l) =
    ap (λ (x : Bool). x || eqb v l) (any_equal v l)
    ∙ either_eq v l (λ e. rw (eq-eqb v l e, le-ltb v l (omega arith), lt-ltb v (suc l) (omega arith)) refl)
    (λ n.
    rw (ne_eqb v l n, or-false (ltb v l))
    (either_lt v l (λ q. rw (lt-ltb v l q, lt-ltb v (suc l) (omega arith)) refl) (λ q. rw (le-ltb v l q, le-ltb v (suc l) (omega arith)) refl)))

pub earlier_law : (values mid w : List ℕ) (n : ℕ) → Gained values (replicate n 0) mid 128 → Spread mid w 258 → Earlier values w
earlier_law values mid w n d s l j low h =
    s.before l j (omega arith)
    ∙ any_agree (λ k. mem (row mid k) j) (λ k. eqb (get_or values j 0) k) l (λ k _. numbered_law values mid n d k j h)
    ∙ any_equal (get_or values j 0) l

-- Brackets: those that open one behind another, and what closes them.
use Prim.Native.Nat.{ℕ, zero, suc, ◌-◌, ◌<◌, ◌≤◌}
use mathlib.Core.Path.{◌≡◌, refl, sym, subst, ◌∙◌}
use mathlib.Core.Option.{none, some}
use mathlib.Core.List.{List, []}
use native.Mathlib.Omega.{arith}
use lib.ListN.{length, take, drop, length-drop}
use Rattle.std.specs.Prelude.{Option, Some, None}
use Rattle.signs.specs.Signs.{sign, open_sign, close_sign, and_sign, bar_sign}
use Rattle.atoms.specs.Tree.{size}
use Rattle.atoms.specs.Emit.{emit, or_size, and_size, emit_ors, emit_ands}
use Rattle.typed.specs.Grammar.{read_or, more_or, read_and, more_and, read_not, read_operand}
use Rattle.signs.specs.Finding.{FindsSign, Repeated, Runs}
use Rattle.typed.specs.Parsing.{ReadsRule, ReadsMore, Within, Closes}
use Rattle.signs.specs.declared.Run.{Run}
use Rattle.atoms.specs.declared.Reading.{Reading}
use Rattle.signs.proofs.Told.{found_sign, no_sign}
use Rattle.signs.proofs.Blanks.{behind-again, sign_behind, behind_of, sign_less}
use Rattle.atoms.proofs.Taken.{took, lost}
use Rattle.typed.proofs.Answers.{rule_by}
use Rattle.typed.proofs.Chains.{or_lost, or_read, and_lost, and_read, ors_end, ands_end}
use Rattle.typed.proofs.Others.{other_sign}
use Rattle.typed.proofs.Operands.{not_operand}

module _ (text : List ℕ) (ns : List ℕ) (d k : ℕ) (b : List ℕ) where
  -- ── one bracket ──
  module _ (q p : ℕ) (s : sign open_sign (drop q text) ≡ some (drop p text)) (h : q < p) (j : p ≤ length text) where
    whole : (r : Option Reading) (a l : List ℕ) → ReadsRule read_operand 0 text q ns d k b r a l → ReadsRule read_not 1 text q ns d k b r a l
    whole r a l z =
        not_operand text q ns d k b (other_sign 40 33 (λ e. omega arith) _ _ (drop q text) (drop p text) s) (other_sign 40 101 (λ e. omega arith) _ _ (drop q text) (drop p text) s) r a l z

    bracket_lost : (m l : List ℕ) → ReadsRule read_or 3 text p ns d k b None m l → ReadsRule read_not 1 text q ns d k b None m l
    unfolding read_or
    bracket_lost m l z =
        whole None m l
        (rule_by _ _ _ _ _ _ _ _ _ _ _ z.long z.room z.kept λ f c.
        rw (s, lost size (emit b k (take d ns)) text p k (read_or f (drop p text)) m (z.reads f (omega arith))) tt)

    module _ (r : Reading) (m l : List ℕ) (z : ReadsRule read_or 3 text p ns d k b (Some r) m l) where
      bracket_open : sign close_sign (drop r.at text) ≡ none → ReadsRule read_not 1 text q ns d k b None m l
      unfolding read_or
      bracket_open e =
          whole None m l
          (rule_by _ _ _ _ _ _ _ _ _ _ _ z.long z.room z.kept λ f c.
          let u = took size (emit b k (take d ns)) text p k (read_or f (drop p text)) r m (z.reads f (omega arith)) in
          rw (s, u.2, u.3.rest, e) tt)

      bracket_read : (c : ℕ) → sign close_sign (drop r.at text) ≡ some (drop c text) → r.at < c → c ≤ length text → ReadsRule read_not 1 text q ns d k b (Some (record { at = c; count = r.count })) m l
      unfolding read_or
      bracket_read c e g o =
          whole (Some (record { at = c; count = r.count })) m l
          (rule_by _ _ _ _ _ _ _ _ _ _ _ z.long z.room z.kept λ f v.
          let u = took size (emit b k (take d ns)) text p k (read_or f (drop p text)) r m (z.reads f (omega arith)) in
          rw (s, u.2, u.3.rest, e)
          (record {
            ahead = omega (arith, u.3.ahead);
            inside = o;
            some = u.3.some;
            rest = refl;
            count = u.3.count;
            room = omega (arith, u.3.room);
            table = u.3.table;
          }))

  -- ── several that open ──
  module _ (from : ℕ) where
    -- outside within is outside
    opened_lost : (c p : ℕ) → Repeated text open_sign from c p → (m l : List ℕ) → ReadsRule read_not 1 text p ns d k b None m l → ReadsRule read_not 1 text from ns d k b None m l
    opened_lost zero p s m l z = subst (λ (j : ℕ). ReadsRule read_not 1 text j ns d k b None m l) (sym s) z
    opened_lost (suc c) p (q, s, g, h, j) m l z =
        opened_lost c q s m l (bracket_lost q p g h j m l (or_lost text p ns d k b m l (and_lost text p ns d k b m l z)))

    pub operand_lost : (run : Run) → Runs text open_sign from 4097 run → (m l : List ℕ) → ReadsRule read_not 1 text run.at ns d k b None m l → ReadsRule read_not 1 text from ns d k b None m l
    operand_lost run s m l z = opened_lost run.count run.at s.marked.marks m l z

    -- a part read behind them, and what follows it to the end of its bracket
    module _ (c at n : ℕ) (m l : List ℕ) (w : Within text (suc c) ns d k b at n m l from) where
      inner-and : (r1 : Option Reading) (m1 l1 : List ℕ) → ReadsMore more_and and_size emit_ands text at l d n m r1 m1 l1 → ReadsRule read_and 2 text w.inner ns d k b r1 m1 l1
      inner-and r1 m1 l1 y1 = and_read text w.inner ns d k b (record { at = at; count = n }) m l r1 m1 l1 w.part y1

      inner_lost : (a z : List ℕ) → ReadsRule read_or 3 text w.inner ns d k b None a z → ReadsRule read_not 1 text from ns d k b None a z
      inner_lost a z x =
          let v = w.opened.marks in
          opened_lost c v.0 v.1 a z (bracket_lost v.0 w.inner v.2 v.3 v.4 a z x)

      ands_refused : (m1 l1 : List ℕ) → ReadsMore more_and and_size emit_ands text at l d n m None m1 l1 → ReadsRule read_not 1 text from ns d k b None m1 l1
      ands_refused m1 l1 y1 = inner_lost m1 l1 (or_lost text w.inner ns d k b m1 l1 (inner-and None m1 l1 y1))

      module _ (r1 : Reading) (m1 l1 : List ℕ) (y1 : ReadsMore more_and and_size emit_ands text at l d n m (Some r1) m1 l1) where
        inner-or : (r2 : Option Reading) (m2 l2 : List ℕ) → ReadsMore more_or or_size emit_ors text r1.at l1 d r1.count m1 r2 m2 l2 → ReadsRule read_or 3 text w.inner ns d k b r2 m2 l2
        inner-or r2 m2 l2 y2 = or_read text w.inner ns d k b r1 m1 l1 r2 m2 l2 (inner-and (Some r1) m1 l1 y1) y2

        ors_refused : (m2 l2 : List ℕ) → ReadsMore more_or or_size emit_ors text r1.at l1 d r1.count m1 None m2 l2 → ReadsRule read_not 1 text from ns d k b None m2 l2
        ors_refused m2 l2 y2 = inner_lost m2 l2 (inner-or None m2 l2 y2)

        module _ (r2 : Reading) (m2 l2 : List ℕ) (y2 : ReadsMore more_or or_size emit_ors text r1.at l1 d r1.count m1 (Some r2) m2 l2) where
          not_shut : sign close_sign (drop r2.at text) ≡ none → ReadsRule read_not 1 text from ns d k b None m2 l2
          not_shut e =
              let v = w.opened.marks in
              opened_lost c v.0 v.1 m2 l2 (bracket_open v.0 w.inner v.2 v.3 v.4 r2 m2 l2 (inner-or (Some r2) m2 l2 y2) e)

          close_one : (e : ℕ) → sign close_sign (drop r2.at text) ≡ some (drop e text) → r2.at < e → e ≤ length text → Within text c ns d k b e r2.count m2 l2 from
          close_one e g h j =
              let v = w.opened.marks in
              record { inner = v.0; opened = record { marks = v.1 }; part = bracket_read v.0 w.inner v.2 v.3 v.4 r2 m2 l2 (inner-or (Some r2) m2 l2 y2) e g h j }

    -- those that close with nothing between
    shut_all : (c at n : ℕ) (m l : List ℕ) → 1 ≤ n → Within text c ns d k b at n m l from → (i p : ℕ) → Repeated text close_sign at i p → i ≤ c → Within text (c - i) ns d k b p n m l from
    shut_all c at n m l one w zero p s h =
        let e : c ≡ c - 0 = omega arith in
        subst (λ (j : ℕ). Within text j ns d k b p n m l from) e (subst (λ (j : ℕ). Within text c ns d k b j n m l from) s w)
    shut_all c at n m l one w (suc i) p (q, s, g, o, j) h =
        let e : c - i ≡ suc (c - suc i) = omega arith in
        let v : Within text (suc (c - suc i)) ns d k b q n m l from = subst (λ (y : ℕ). Within text y ns d k b q n m l from) e (shut_all c at n m l one w i q s (omega arith)) in
        let x = behind_of text q (omega arith) in
        let u = x.0 in
        let y = x.1 in
        let a = behind-again text q u y in
        let r : Reading = record { at = u; count = n } in
        let no_and : sign and_sign (drop q text) ≡ none = other_sign 41 38 (λ z. omega arith) [] [] (drop q text) (drop p text) g in
        let no_bar : sign bar_sign (drop u text) ≡ none = sign_behind text q u y bar_sign ∙ other_sign 41 124 (λ z. omega arith) [] [] (drop q text) (drop p text) g in
        let shut : sign close_sign (drop u text) ≡ some (drop p text) = sign_behind text q u y close_sign ∙ g in
        let less : u < p = omega (arith, sign_less 41 (drop u text) (drop p text) shut, length-drop u text, length-drop p text, y.inside) in
        close_one (c - suc i) q n m l v r m l (ands_end text q l d n m (omega arith) one no_and u y) r m l
        (ors_end text u l d n m y.inside one no_bar u a) p shut less j

-- ── the reader of what closes them ──
module _ (text : List ℕ) (at : ℕ) (names : List ℕ) (d n : ℕ) (m : List ℕ) (c : ℕ) (one : 1 ≤ n) (run : Run) (s : Runs text close_sign at c run) where
  shut : (ns : List ℕ) (k : ℕ) (b : List ℕ) (from : ℕ) → Within text c ns d k b at n m names from → Within text (c - run.count) ns d k b run.at n m names from
  shut ns k b from w = shut_all text ns d k b from c at n m names one w run.count run.at s.marked.marks s.few

  pub closes_all : c - run.count ≡ 0 → Closes text at names d n m c (Some (record { at = run.at; count = n })) m names
  closes_all e = record { long = refl; room = refl; closed = go }
    where
      go : (ns : List ℕ) (k : ℕ) (b : List ℕ) (from : ℕ) → Within text c ns d k b at n m names from → ReadsRule read_not 1 text from ns d k b (Some (record { at = run.at; count = n })) m names
      go ns k b from w =
          let v : Within text 0 ns d k b run.at n m names from = subst (λ (y : ℕ). Within text y ns d k b run.at n m names from) e (shut ns k b from w) in
          subst (λ (j : ℕ). ReadsRule read_not 1 text j ns d k b (Some (record { at = run.at; count = n })) m names) (sym v.opened.marks) v.part

  module _ (i : c - run.count ≡ 0 → ⊥) where
    left : (ns : List ℕ) (k : ℕ) (b : List ℕ) (from : ℕ) → Within text c ns d k b at n m names from → Within text (suc (c - run.count - 1)) ns d k b run.at n m names from
    left ns k b from w =
        let e : c - run.count ≡ suc (c - run.count - 1) = omega arith in
        subst (λ (y : ℕ). Within text y ns d k b run.at n m names from) e (shut ns k b from w)

    pub closes-and_lost : (m1 l1 : List ℕ) → ReadsMore more_and and_size emit_ands text run.at names d n m None m1 l1 → Closes text at names d n m c None m1 l1
    closes-and_lost m1 l1 y1 =
        record { long = y1.long; room = y1.room; closed = λ ns k b from w. ands_refused text ns d k b from (c - run.count - 1) run.at n m names (left ns k b from w) m1 l1 y1 }

    module _ (r1 : Reading) (m1 l1 : List ℕ) (y1 : ReadsMore more_and and_size emit_ands text run.at names d n m (Some r1) m1 l1) where
      pub closes-or_lost : (m2 l2 : List ℕ) → ReadsMore more_or or_size emit_ors text r1.at l1 d r1.count m1 None m2 l2 → Closes text at names d n m c None m2 l2
      closes-or_lost m2 l2 y2 =
          record { long = y2.long ∙ y1.long; room = y2.room ∙ y1.room; closed = λ ns k b from w. ors_refused text ns d k b from (c - run.count - 1) run.at n m names (left ns k b from w) r1 m1 l1 y1 m2 l2 y2 }

      module _ (r2 : Reading) (m2 l2 : List ℕ) (y2 : ReadsMore more_or or_size emit_ors text r1.at l1 d r1.count m1 (Some r2) m2 l2) where
        pub closes_open : FindsSign text r2.at (sign close_sign (drop r2.at text)) None → Closes text at names d n m c None m2 l2
        closes_open y =
            record {
              long = y2.long ∙ y1.long;
              room = y2.room ∙ y1.room;
              closed = λ ns k b from w. not_shut text ns d k b from (c - run.count - 1) run.at n m names (left ns k b from w) r1 m1 l1 y1 r2 m2 l2 y2 (no_sign text r2.at (sign close_sign (drop r2.at text)) y);
            }

        pub closes-more : (e : ℕ) → FindsSign text r2.at (sign close_sign (drop r2.at text)) (Some e) → (r : Option Reading) (a l : List ℕ) → Closes text e l2 d r2.count m2 (c - run.count - 1) r a l → Closes text at names d n m c r a l
        closes-more e y r a l z =
            let g = found_sign text r2.at (sign close_sign (drop r2.at text)) e y in
            record {
              long = z.long ∙ (y2.long ∙ y1.long);
              room = z.room ∙ (y2.room ∙ y1.room);
              closed = λ ns k b from w. z.closed ns k b from (close_one text ns d k b from (c - run.count - 1) run.at n m names (left ns k b from w) r1 m1 l1 y1 r2 m2 l2 y2 e g.0 g.1 g.2);
            }

-- a rule in brackets, closed
pub operand_read : (text : List ℕ) (at : ℕ) (ns : List ℕ) (d k : ℕ) (b : List ℕ) (run : Run) → Runs text open_sign at 4097 run → (r1 : Reading) (m l1 : List ℕ) → ReadsRule read_not 1 text run.at ns d k b (Some r1) m l1 → (r : Option Reading) (a l : List ℕ) → Closes text r1.at l1 d r1.count m run.count r a l → ReadsRule read_not 1 text at ns d k b r a l
operand_read text at ns d k b run s r1 m l1 x r a l z = z.closed ns k b at (record { inner = run.at; opened = s.marked; part = x })

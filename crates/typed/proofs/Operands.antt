-- Nots, an exist, and a rule without a rule inside.
use Prim.Native.Nat.{ℕ, zero, suc, ◌+◌, ◌-◌, ◌<◌, ◌≤◌}
use mathlib.Core.Path.{◌≡◌, refl, sym, subst, ap, ◌∙◌}
use mathlib.Core.Option.{none, some}
use mathlib.Core.List.{List}
use native.Mathlib.Omega.{arith}
use lib.ListN.{length, take, drop}
use lib.Seq.{take-take, length-take-le}
use Rattle.std.specs.Prelude.{Option, Some, None}
use Rattle.signs.specs.Signs.{sign, name, not_sign, exist_sign, open_sign, comma_sign, dot_sign}
use Rattle.atoms.specs.Tree.{size}
use Rattle.atoms.specs.Atoms.{read_atom}
use Rattle.typed.specs.Grammar.{read_or, read_not, read_some, read_body, read_operand}
use Rattle.atoms.specs.Emit.{inside as within, put, emit}
use Rattle.signs.specs.Finding.{FindsSign, ReadsWord, Repeated, Runs}
use Rattle.atoms.specs.Readers.{ReadsAtom, Stored, Enters, put_nots}
use Rattle.typed.specs.Parsing.{Begins, ReadsRule}
use Rattle.signs.specs.declared.Run.{Run}
use Rattle.signs.specs.declared.Word.{Word}
use Rattle.atoms.specs.declared.Reading.{Reading}
use Rattle.signs.proofs.Told.{found_sign, no_sign, found_word, no_word}
use Rattle.atoms.proofs.Taken.{took, lost, earlier}
use Rattle.atoms.proofs.Tables.{put-long}
use Rattle.typed.proofs.Answers.{rule_by}

-- ── not ──
module _ (text : List ℕ) (ns : List ℕ) (d k : ℕ) (b : List ℕ) where
  -- one more before what was read
  not_one : (q p : ℕ) → sign not_sign (drop q text) ≡ some (drop p text) → q < p → p ≤ length text → (e n : ℕ) (m l : List ℕ) → 1 ≤ n → ReadsRule read_not 1 text p ns d k b (Some (record { at = e; count = n })) m l → ReadsRule read_not 1 text q ns d k b (Some (record { at = e; count = n + 1 })) (put m n 2 (n - 1) 0) l
  unfolding read_or emit
  not_one q p s h j e n m l o z =
      rule_by _ _ _ _ _ _ _ _ _ _ _ (put-long m n 2 (n - 1) 0 ∙ z.long) z.room z.kept λ f c.
      let u = took size (emit b k (take d ns)) text p k (read_not f (drop p text)) (record { at = e; count = n }) m (z.reads f (omega arith)) in
      rw (s, u.2)
      (record {
        ahead = omega (arith, u.3.ahead);
        inside = u.3.inside;
        some = omega arith;
        rest = u.3.rest;
        count = omega (arith, u.3.count);
        room = omega (arith, u.3.room);
        table = ap (λ (y : List ℕ). put y n 2 (n - 1) 0) u.3.table ∙ ap (λ (j : ℕ). put (emit b k (take d ns) u.0) j 2 (j - 1) 0) u.3.count;
      })

  not_none : (q p : ℕ) → sign not_sign (drop q text) ≡ some (drop p text) → q < p → p ≤ length text → (m l : List ℕ) → ReadsRule read_not 1 text p ns d k b None m l → ReadsRule read_not 1 text q ns d k b None m l
  unfolding read_or
  not_none q p s h j m l z =
      rule_by _ _ _ _ _ _ _ _ _ _ _ z.long z.room z.kept λ f c.
      rw (s, lost size (emit b k (take d ns)) text p k (read_not f (drop p text)) m (z.reads f (omega arith))) tt

  module _ (at : ℕ) where
    nots : (c p : ℕ) → Repeated text not_sign at c p → (e n : ℕ) (m l : List ℕ) → 1 ≤ n → ReadsRule read_not 1 text p ns d k b (Some (record { at = e; count = n })) m l → ReadsRule read_not 1 text at ns d k b (Some (record { at = e; count = n + c })) (put_nots m n c) l
    unfolding put_nots
    nots zero p s e n m l o z =
        let i : n ≡ n + 0 = omega arith in
        subst (λ (j : ℕ). ReadsRule read_not 1 text at ns d k b (Some (record { at = e; count = j })) m l) i (subst (λ (j : ℕ). ReadsRule read_not 1 text j ns d k b (Some (record { at = e; count = n })) m l) (sym s) z)
    nots (suc c) p (q, s, g, h, j) e n m l o z =
        let i : n + 1 + c ≡ n + suc c = omega arith in
        subst (λ (j : ℕ). ReadsRule read_not 1 text at ns d k b (Some (record { at = e; count = j })) (put_nots (put m n 2 (n - 1) 0) (n + 1) c) l) i
        (nots c q s e (n + 1) (put m n 2 (n - 1) 0) l (omega arith) (not_one q p g h j e n m l o z))

    nots_lost : (c p : ℕ) → Repeated text not_sign at c p → (m l : List ℕ) → ReadsRule read_not 1 text p ns d k b None m l → ReadsRule read_not 1 text at ns d k b None m l
    nots_lost zero p s m l z = subst (λ (j : ℕ). ReadsRule read_not 1 text j ns d k b None m l) (sym s) z
    nots_lost (suc c) p (q, s, g, h, j) m l z = nots_lost c q s m l (not_none q p g h j m l z)

    module _ (run : Run) (s : Runs text not_sign at 4097 run) where
      pub not_lost : (m l : List ℕ) → ReadsRule read_not 1 text run.at ns d k b None m l → ReadsRule read_not 1 text at ns d k b None m l
      not_lost m l z = nots_lost run.count run.at s.marked.marks m l z

      pub not_read_lem : (r : Reading) (m l : List ℕ) → ReadsRule read_not 1 text run.at ns d k b (Some r) m l → 1 ≤ r.count → (a : List ℕ) → Stored m (put_nots m r.count run.count) a → ReadsRule read_not 1 text at ns d k b (Some (record { at = r.at; count = r.count + run.count })) a l
      not_read_lem r m l z i a w =
          subst (λ (y : List ℕ). ReadsRule read_not 1 text at ns d k b (Some (record { at = r.at; count = r.count + run.count })) y l) (sym w.answer)
          (nots run.count run.at s.marked.marks r.at r.count m l i z)

-- ── an operand ──
module _ (text : List ℕ) (at : ℕ) (ns : List ℕ) (d k : ℕ) (b : List ℕ) where
  pub not_operand : sign not_sign (drop at text) ≡ none → sign exist_sign (drop at text) ≡ none → (r : Option Reading) (a l : List ℕ) → ReadsRule read_operand 0 text at ns d k b r a l → ReadsRule read_not 1 text at ns d k b r a l
  unfolding read_or
  not_operand x y r a l z =
      rule_by _ _ _ _ _ _ _ _ _ _ _ z.long z.room z.kept λ f h. rw (x, y) (z.reads f (omega arith))

  module _ (run : Run) (s : Runs text open_sign at 4097 run) (none_open : run.count ≡ 0) (x : sign not_sign (drop at text) ≡ none) (r : Option Reading) (a : List ℕ) where
    unopened : sign open_sign (drop at text) ≡ none
    unopened =
        let e : Repeated text open_sign at 0 run.at = subst (λ (j : ℕ). Repeated text open_sign at j run.at) none_open s.marked.marks in
        subst (λ (j : ℕ). sign open_sign (drop j text) ≡ none) (sym e) (s.ended (omega arith))

    pub operand_atom : FindsSign text at (sign exist_sign (drop at text)) None → ReadsAtom read_atom text at (take d ns) k b r a → ReadsRule read_not 1 text at ns d k b r a ns
    unfolding read_or
    operand_atom y z =
        not_operand x (no_sign text at (sign exist_sign (drop at text)) y) r a ns
        (rule_by _ _ _ _ _ _ _ _ _ _ _ z.long refl refl λ f h. rw (unopened) z.reads)

    pub operand_some : (q : ℕ) → FindsSign text at (sign exist_sign (drop at text)) (Some q) → (l : List ℕ) → ReadsRule read_some 0 text q ns d k b r a l → ReadsRule read_not 1 text at ns d k b r a l
    unfolding read_or
    operand_some q y l z =
        let g = found_sign text at (sign exist_sign (drop at text)) q y in
        rule_by _ _ _ _ _ _ _ _ _ _ _ z.long z.room z.kept λ f h.
        rw (x, g.0) (earlier size (emit b k (take d ns)) text q k at (omega (arith, g.1)) (read_some f (drop q text)) r a (z.reads f (omega (arith, g.1, g.2))))

-- ── exist ──
module _ (text : List ℕ) (at : ℕ) (ns : List ℕ) (d k : ℕ) (b : List ℕ) where
  pub some_nameless : ReadsWord text at (name (drop at text)) None → ReadsRule read_some 0 text at ns d k b None b ns
  unfolding read_or
  some_nameless x = rule_by _ _ _ _ _ _ _ _ _ _ _ refl refl refl λ f h. rw (no_word text at (name (drop at text)) x) tt

  module _ (v : Word) (x : ReadsWord text at (name (drop at text)) (Some v)) (e : ℕ) (inner : List ℕ) (o : Enters ns d v.value e inner) where
    kept : (r : Option Reading) (m l : List ℕ) → ReadsRule read_body 0 text v.at inner e k b r m l → take d l ≡ take d ns
    kept r m l z = sym (take-take d e l o.more) ∙ (ap (λ (y : List ℕ). take d y) z.kept ∙ (take-take d e inner o.more ∙ o.kept))

    pub some_lost : (m l : List ℕ) → ReadsRule read_body 0 text v.at inner e k b None m l → ReadsRule read_some 0 text at ns d k b None m l
    unfolding read_or
    some_lost m l z =
        let g = found_word text at (name (drop at text)) v x in
        rule_by _ _ _ _ _ _ _ _ _ _ _ z.long (z.room ∙ o.long) (kept None m l z) λ f h.
        rw (g.0, lost size (emit b k (take e inner)) text v.at k (read_body f (drop v.at text)) m (z.reads f (omega (arith, g.1, g.2)))) tt

    pub some_read : (r1 : Reading) (m l : List ℕ) → ReadsRule read_body 0 text v.at inner e k b (Some r1) m l → Begins text at ns d k b → (a : List ℕ) → Stored m (put m r1.count 3 d (r1.count - 1)) a → ReadsRule read_some 0 text at ns d k b (Some (record { at = r1.at; count = r1.count + 1 })) a l
    unfolding read_or emit
    some_read r1 m l z begun a w =
        let g = found_word text at (name (drop at text)) v x in
        let deep : d ≡ length (take d ns) = sym (length-take-le d ns (omega (arith, begun.bound, begun.names))) in
        rule_by _ _ _ _ _ _ _ _ _ _ _ (w.long ∙ z.long) (z.room ∙ o.long) (kept (Some r1) m l z) λ f h.
        let u = took size (emit b k (take e inner)) text v.at k (read_body f (drop v.at text)) r1 m (z.reads f (omega (arith, g.1, g.2))) in
        let n = r1.count in
        let c1 : put m n 3 d (n - 1) ≡ put (emit b k (take e inner) u.0) n 3 d (n - 1) = ap (λ (y : List ℕ). put y n 3 d (n - 1)) u.3.table in
        let c2 : put (emit b k (take e inner) u.0) n 3 d (n - 1) ≡ put (emit b k (take e inner) u.0) (k + size u.0) 3 d (k + size u.0 - 1) = ap (λ (j : ℕ). put (emit b k (take e inner) u.0) j 3 d (j - 1)) u.3.count in
        let c3 : put (emit b k (take e inner) u.0) (k + size u.0) 3 d (k + size u.0 - 1) ≡ put (emit b k (take e inner) u.0) (k + size u.0) 3 (length (take d ns)) (k + size u.0 - 1) = ap (λ (j : ℕ). put (emit b k (take e inner) u.0) (k + size u.0) 3 j (k + size u.0 - 1)) deep in
        let c4 : put (emit b k (take e inner) u.0) (k + size u.0) 3 (length (take d ns)) (k + size u.0 - 1) ≡ put (emit b k (within (take d ns) v.value) u.0) (k + size u.0) 3 (length (take d ns)) (k + size u.0 - 1) = ap (λ (y : List ℕ). put (emit b k y u.0) (k + size u.0) 3 (length (take d ns)) (k + size u.0 - 1)) o.names in
        rw (g.0, u.2)
        (record {
          ahead = omega (arith, g.1, u.3.ahead);
          inside = u.3.inside;
          some = omega arith;
          rest = u.3.rest;
          count = omega (arith, u.3.count);
          room = omega (arith, g.1, u.3.room);
          table = w.answer ∙ (c1 ∙ (c2 ∙ (c3 ∙ c4)));
        })

module _ (text : List ℕ) (at : ℕ) (ns : List ℕ) (d k : ℕ) (b : List ℕ) where
  pub body_more : (p : ℕ) → FindsSign text at (sign comma_sign (drop at text)) (Some p) → (r : Option Reading) (a l : List ℕ) → ReadsRule read_some 0 text p ns d k b r a l → ReadsRule read_body 0 text at ns d k b r a l
  unfolding read_or
  body_more p x r a l z =
      let g = found_sign text at (sign comma_sign (drop at text)) p x in
      rule_by _ _ _ _ _ _ _ _ _ _ _ z.long z.room z.kept λ f h.
      rw g.0 (earlier size (emit b k (take d ns)) text p k at (omega (arith, g.1)) (read_some f (drop p text)) r a (z.reads f (omega (arith, g.1, g.2))))

  module _ (x : FindsSign text at (sign comma_sign (drop at text)) None) where
    pub body_none : FindsSign text at (sign dot_sign (drop at text)) None → ReadsRule read_body 0 text at ns d k b None b ns
    unfolding read_or
    body_none y =
        rule_by _ _ _ _ _ _ _ _ _ _ _ refl refl refl λ f h.
        rw (no_sign text at (sign comma_sign (drop at text)) x, no_sign text at (sign dot_sign (drop at text)) y) tt

    pub body_rule : (q : ℕ) → FindsSign text at (sign dot_sign (drop at text)) (Some q) → (r : Option Reading) (a l : List ℕ) → ReadsRule read_or 3 text q ns d k b r a l → ReadsRule read_body 0 text at ns d k b r a l
    unfolding read_or
    body_rule q y r a l z =
        let g = found_sign text at (sign dot_sign (drop at text)) q y in
        rule_by _ _ _ _ _ _ _ _ _ _ _ z.long z.room z.kept λ f h.
        rw (no_sign text at (sign comma_sign (drop at text)) x, g.0)
        (earlier size (emit b k (take d ns)) text q k at (omega (arith, g.1)) (read_or f (drop q text)) r a (z.reads f (omega (arith, g.1, g.2))))

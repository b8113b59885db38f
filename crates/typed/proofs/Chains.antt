-- An or, and an and: one operand, and the further ones behind it.
use Prim.Native.Nat.{ℕ, ◌+◌, ◌-◌, ◌<◌, ◌≤◌}
use mathlib.Core.Path.{◌≡◌, refl, ap, ◌∙◌}
use mathlib.Core.Option.{none}
use mathlib.Core.List.{List, ◌∷◌}
use native.Mathlib.Omega.{arith}
use lib.ListN.{length, take, drop}
use Rattle.std.specs.Prelude.{Option, Some, None}
use Rattle.signs.specs.Signs.{sign, bar_sign, and_sign}
use Rattle.atoms.specs.Tree.{Tree, size, either_all, both_all}
use Rattle.typed.specs.Grammar.{read_or, more_or, read_and, more_and, read_not}
use Rattle.atoms.specs.Emit.{put, close_or, emit, or_size, and_size, emit_ors, emit_ands}
use Rattle.signs.specs.Finding.{FindsSign, Behind}
use Rattle.atoms.specs.Readers.{Done, Stored}
use Rattle.typed.specs.Parsing.{ReadsRule, ReadsMore}
use Rattle.atoms.specs.declared.Reading.{Reading}
use Rattle.signs.proofs.Told.{found_sign, no_sign}
use Rattle.atoms.proofs.Taken.{took, lost, carry}
use Rattle.typed.proofs.Answers.{rule_place, rule_by, more_by, more-named}
use Rattle.typed.proofs.Passed.{behind-and}
use Rattle.typed.proofs.Emitted.{ors_size, ands_size, ors_emit, ands_emit}

module _ (text : List ℕ) (at : ℕ) (ns : List ℕ) (d k : ℕ) (b : List ℕ) (m l1 : List ℕ) where
  pub or_lost : ReadsRule read_and 2 text at ns d k b None m l1 → ReadsRule read_or 3 text at ns d k b None m l1
  unfolding read_or
  or_lost x =
      rule_by _ _ _ _ _ _ _ _ _ _ _ x.long x.room x.kept λ f h. rw (lost size (emit b k (take d ns)) text at k (read_and f (drop at text)) m (x.reads f (omega arith))) tt

  pub and_lost : ReadsRule read_not 1 text at ns d k b None m l1 → ReadsRule read_and 2 text at ns d k b None m l1
  unfolding read_and
  and_lost x =
      rule_by _ _ _ _ _ _ _ _ _ _ _ x.long x.room x.kept λ f h. rw (lost size (emit b k (take d ns)) text at k (read_not f (drop at text)) m (x.reads f (omega arith))) tt

module _ (text : List ℕ) (at : ℕ) (ns : List ℕ) (d k : ℕ) (b : List ℕ) (r1 : Reading) (m l1 : List ℕ) where
  module _ (o : Option Reading) (a : List ℕ) where
    or_done : (t : Tree) (s : List ℕ) → Done text at k s (size t) (emit b k (take d ns) t) r1.at r1.count m → (ts : List Tree) (s2 : List ℕ) (r2 : Reading) → Done text r1.at r1.count s2 (or_size ts) (emit_ors m r1.count (take d ns) ts) r2.at r2.count a → Done text at k s2 (size (either_all t ts)) (emit b k (take d ns) (either_all t ts)) r2.at r2.count a
    or_done t s o1 ts s2 r2 o2 =
        record {
          ahead = omega (arith, o1.ahead, o2.ahead);
          inside = o2.inside;
          some = o2.some;
          rest = o2.rest;
          count = omega (arith, o1.count, o2.count, ors_size t ts);
          room = omega (arith, o1.room, o2.room);
          table = o2.table ∙ (ap (λ (x : List ℕ). emit_ors x r1.count (take d ns) ts) o1.table ∙ (ap (λ (j : ℕ). emit_ors (emit b k (take d ns) t) j (take d ns) ts) o1.count ∙ ors_emit b k (take d ns) t ts));
        }

    pub or_read : (l2 : List ℕ) → ReadsRule read_and 2 text at ns d k b (Some r1) m l1 → ReadsMore more_or or_size emit_ors text r1.at l1 d r1.count m o a l2 → ReadsRule read_or 3 text at ns d k b o a l2
    unfolding read_or
    or_read l2 x y0 =
        let y = more-named _ _ _ _ _ _ _ _ _ _ _ _ ns x.room x.kept y0 in
        rule_by _ _ _ _ _ _ _ _ _ _ _ (y.long ∙ x.long) y.room y.kept λ f h.
        let u = took size (emit b k (take d ns)) text at k (read_and f (drop at text)) r1 m (x.reads f (omega arith)) in
        rw (u.2, u.3.rest) (carry or_size (emit_ors m r1.count (take d ns)) text r1.at r1.count size (emit b k (take d ns)) at k (either_all u.0) (more_or f (drop r1.at text)) o a (y.reads f (omega (arith, u.3.ahead))) (or_done u.0 u.1 u.3))

    and_done : (t : Tree) (s : List ℕ) → Done text at k s (size t) (emit b k (take d ns) t) r1.at r1.count m → (ts : List Tree) (s2 : List ℕ) (r2 : Reading) → Done text r1.at r1.count s2 (and_size ts) (emit_ands m r1.count (take d ns) ts) r2.at r2.count a → Done text at k s2 (size (both_all t ts)) (emit b k (take d ns) (both_all t ts)) r2.at r2.count a
    and_done t s o1 ts s2 r2 o2 =
        record {
          ahead = omega (arith, o1.ahead, o2.ahead);
          inside = o2.inside;
          some = o2.some;
          rest = o2.rest;
          count = omega (arith, o1.count, o2.count, ands_size t ts);
          room = omega (arith, o1.room, o2.room);
          table = o2.table ∙ (ap (λ (x : List ℕ). emit_ands x r1.count (take d ns) ts) o1.table ∙ (ap (λ (j : ℕ). emit_ands (emit b k (take d ns) t) j (take d ns) ts) o1.count ∙ ands_emit b k (take d ns) t ts));
        }

    pub and_read : (l2 : List ℕ) → ReadsRule read_not 1 text at ns d k b (Some r1) m l1 → ReadsMore more_and and_size emit_ands text r1.at l1 d r1.count m o a l2 → ReadsRule read_and 2 text at ns d k b o a l2
    unfolding read_and
    and_read l2 x y0 =
        let y = more-named _ _ _ _ _ _ _ _ _ _ _ _ ns x.room x.kept y0 in
        rule_by _ _ _ _ _ _ _ _ _ _ _ (y.long ∙ x.long) y.room y.kept λ f h.
        let u = took size (emit b k (take d ns)) text at k (read_not f (drop at text)) r1 m (x.reads f (omega arith)) in
        rw (u.2, u.3.rest) (carry and_size (emit_ands m r1.count (take d ns)) text r1.at r1.count size (emit b k (take d ns)) at k (both_all u.0) (more_and f (drop r1.at text)) o a (y.reads f (omega (arith, u.3.ahead))) (and_done u.0 u.1 u.3))

-- ── no further operands ──
module _ (text : List ℕ) (at : ℕ) (ns : List ℕ) (d k : ℕ) (b : List ℕ) (inside : at ≤ length text) (one : 1 ≤ k) where
  pub ors_end : sign bar_sign (drop at text) ≡ none → (p : ℕ) → Behind text at p → ReadsMore more_or or_size emit_ors text at ns d k b (Some (record { at = p; count = k })) b ns
  unfolding read_or emit_ors
  ors_end e p z =
      more_by _ _ _ _ _ _ _ _ _ _ _ _ refl refl refl λ f h. rw (e)
      (record { ahead = z.ahead; inside = z.inside; some = one; rest = z.answer; count = omega arith; room = omega (arith, z.ahead); table = refl })

  pub ands_end : sign and_sign (drop at text) ≡ none → (p : ℕ) → Behind text at p → ReadsMore more_and and_size emit_ands text at ns d k b (Some (record { at = p; count = k })) b ns
  unfolding read_or emit_ands
  ands_end e p z =
      more_by _ _ _ _ _ _ _ _ _ _ _ _ refl refl refl λ f h. rw (e)
      (record { ahead = z.ahead; inside = z.inside; some = one; rest = z.answer; count = omega arith; room = omega (arith, z.ahead); table = refl })

  pub ors_none : FindsSign text at (sign bar_sign (drop at text)) None → (p : ℕ) → Behind text at p → ReadsMore more_or or_size emit_ors text at ns d k b (Some (record { at = p; count = k })) b ns
  ors_none x p z = ors_end (no_sign text at (sign bar_sign (drop at text)) x) p z

  pub ands_none : FindsSign text at (sign and_sign (drop at text)) None → (p : ℕ) → Behind text at p → ReadsMore more_and and_size emit_ands text at ns d k b (Some (record { at = p; count = k })) b ns
  ands_none x p z = ands_end (no_sign text at (sign and_sign (drop at text)) x) p z

-- ── one operand alone ──
module _ (text : List ℕ) (at : ℕ) (ns : List ℕ) (d k : ℕ) (b : List ℕ) (r1 : Reading) (m l1 : List ℕ) where
  pub or-alone : ReadsRule read_and 2 text at ns d k b (Some r1) m l1 → FindsSign text r1.at (sign bar_sign (drop r1.at text)) None → ReadsRule read_or 3 text at ns d k b (Some r1) m l1
  or-alone x y =
      let z = rule_place text at ns d k b r1 m l1 read_and 2 x in
      or_read text at ns d k b r1 m l1 (Some r1) m l1 x (ors_none text r1.at l1 d r1.count m z.inside z.some y r1.at (behind-and text at ns d k b r1 m l1 x))

  pub and-alone : ReadsRule read_not 1 text at ns d k b (Some r1) m l1 → FindsSign text r1.at (sign and_sign (drop r1.at text)) None → (p : ℕ) → Behind text r1.at p → ReadsRule read_and 2 text at ns d k b (Some (record { at = p; count = r1.count })) m l1
  and-alone x y p v =
      let z = rule_place text at ns d k b r1 m l1 read_not 1 x in
      and_read text at ns d k b r1 m l1 (Some (record { at = p; count = r1.count })) m l1 x (ands_none text r1.at l1 d r1.count m z.inside z.some y p v)

-- ── further operands ──
module _ (text : List ℕ) (at : ℕ) (ns : List ℕ) (d k : ℕ) (b : List ℕ) (p : ℕ) (m l1 : List ℕ) where
  pub ors_lost : (b1 : List ℕ) → FindsSign text at (sign bar_sign (drop at text)) (Some p) → Stored b (put b k 2 (k - 1) 0) b1 → ReadsRule read_and 2 text p ns d (k + 1) b1 None m l1 → ReadsMore more_or or_size emit_ors text at ns d k b None m l1
  unfolding read_or
  ors_lost b1 x w y =
      let g = found_sign text at (sign bar_sign (drop at text)) p x in
      more_by _ _ _ _ _ _ _ _ _ _ _ _ (y.long ∙ w.long) y.room y.kept λ f h. rw (g.0, lost size (emit b1 (k + 1) (take d ns)) text p (k + 1) (read_and f (drop p text)) m (y.reads f (omega (arith, g.1, g.2)))) tt

  pub ands_lost : FindsSign text at (sign and_sign (drop at text)) (Some p) → ReadsRule read_not 1 text p ns d k b None m l1 → ReadsMore more_and and_size emit_ands text at ns d k b None m l1
  unfolding read_or
  ands_lost x y =
      let g = found_sign text at (sign and_sign (drop at text)) p x in
      more_by _ _ _ _ _ _ _ _ _ _ _ _ y.long y.room y.kept λ f h. rw (g.0, lost size (emit b k (take d ns)) text p k (read_not f (drop p text)) m (y.reads f (omega (arith, g.1, g.2)))) tt

module _ (text : List ℕ) (at : ℕ) (ns : List ℕ) (d k : ℕ) (b : List ℕ) (p : ℕ) (r1 : Reading) (m l1 : List ℕ) where
  module _ (m2 : List ℕ) (q : Option Reading) (a : List ℕ) where
    ors_done : (b1 : List ℕ) → at < p → Stored b (put b k 2 (k - 1) 0) b1 → (t : Tree) (s : List ℕ) → Done text p (k + 1) s (size t) (emit b1 (k + 1) (take d ns) t) r1.at r1.count m → Stored m (close_or m k r1.count) m2 → (ts : List Tree) (s2 : List ℕ) (r2 : Reading) → Done text r1.at (r1.count + 3) s2 (or_size ts) (emit_ors m2 (r1.count + 3) (take d ns) ts) r2.at r2.count a → Done text at k s2 (or_size (t ∷ ts)) (emit_ors b k (take d ns) (t ∷ ts)) r2.at r2.count a
    unfolding emit_ors
    ors_done b1 l w t s o z ts s2 r2 o2 =
        let c1 : r1.count ≡ k + 1 + size t = o.count in
        let c2 : r1.count + 3 ≡ k + 4 + size t = omega arith in
        record {
          ahead = omega (arith, o.ahead, o2.ahead);
          inside = o2.inside;
          some = o2.some;
          rest = o2.rest;
          count = omega (arith, o2.count);
          room = omega (arith, o.room, o2.room);
          table = o2.table ∙ (ap (λ (j : ℕ). emit_ors m2 j (take d ns) ts) c2 ∙ ap (λ (x : List ℕ). emit_ors x (k + 4 + size t) (take d ns) ts) (z.answer ∙ (ap (λ (x : List ℕ). close_or x k r1.count) o.table ∙ (ap (λ (x : List ℕ). close_or (emit x (k + 1) (take d ns) t) k r1.count) w.answer ∙ ap (λ (j : ℕ). close_or (emit (put b k 2 (k - 1) 0) (k + 1) (take d ns) t) k j) c1))));
        }

    pub ors_more : (b1 l2 : List ℕ) → FindsSign text at (sign bar_sign (drop at text)) (Some p) → Stored b (put b k 2 (k - 1) 0) b1 → ReadsRule read_and 2 text p ns d (k + 1) b1 (Some r1) m l1 → Stored m (close_or m k r1.count) m2 → ReadsMore more_or or_size emit_ors text r1.at l1 d (r1.count + 3) m2 q a l2 → ReadsMore more_or or_size emit_ors text at ns d k b q a l2
    unfolding read_or
    ors_more b1 l2 x w y z v0 =
        let v = more-named _ _ _ _ _ _ _ _ _ _ _ _ ns y.room y.kept v0 in
        let g = found_sign text at (sign bar_sign (drop at text)) p x in
        more_by _ _ _ _ _ _ _ _ _ _ _ _ (v.long ∙ (z.long ∙ (y.long ∙ w.long))) v.room v.kept λ f h.
        let u = took size (emit b1 (k + 1) (take d ns)) text p (k + 1) (read_and f (drop p text)) r1 m (y.reads f (omega (arith, g.1, g.2))) in
        rw (g.0, u.2, u.3.rest) (carry or_size (emit_ors m2 (r1.count + 3) (take d ns)) text r1.at (r1.count + 3) or_size (emit_ors b k (take d ns)) at k (λ ts. u.0 ∷ ts) (more_or f (drop r1.at text)) q a (v.reads f (omega (arith, g.1, g.2, u.3.ahead))) (ors_done b1 g.1 w u.0 u.1 u.3 z))

    ands_done : at < p → (t : Tree) (s : List ℕ) → Done text p k s (size t) (emit b k (take d ns) t) r1.at r1.count m → Stored m (put m r1.count 1 (k - 1) (r1.count - 1)) m2 → (ts : List Tree) (s2 : List ℕ) (r2 : Reading) → Done text r1.at (r1.count + 1) s2 (and_size ts) (emit_ands m2 (r1.count + 1) (take d ns) ts) r2.at r2.count a → Done text at k s2 (and_size (t ∷ ts)) (emit_ands b k (take d ns) (t ∷ ts)) r2.at r2.count a
    unfolding emit_ands
    ands_done l t s o z ts s2 r2 o2 =
        let c1 : r1.count ≡ k + size t = o.count in
        let c2 : r1.count + 1 ≡ k + 1 + size t = omega arith in
        record {
          ahead = omega (arith, o.ahead, o2.ahead);
          inside = o2.inside;
          some = o2.some;
          rest = o2.rest;
          count = omega (arith, o2.count);
          room = omega (arith, o.room, o2.room);
          table = o2.table ∙ (ap (λ (j : ℕ). emit_ands m2 j (take d ns) ts) c2 ∙ ap (λ (x : List ℕ). emit_ands x (k + 1 + size t) (take d ns) ts) (z.answer ∙ (ap (λ (x : List ℕ). put x r1.count 1 (k - 1) (r1.count - 1)) o.table ∙ ap (λ (j : ℕ). put (emit b k (take d ns) t) j 1 (k - 1) (j - 1)) c1)));
        }

    pub ands_more : (l2 : List ℕ) → FindsSign text at (sign and_sign (drop at text)) (Some p) → ReadsRule read_not 1 text p ns d k b (Some r1) m l1 → Stored m (put m r1.count 1 (k - 1) (r1.count - 1)) m2 → ReadsMore more_and and_size emit_ands text r1.at l1 d (r1.count + 1) m2 q a l2 → ReadsMore more_and and_size emit_ands text at ns d k b q a l2
    unfolding read_or
    ands_more l2 x y z v0 =
        let v = more-named _ _ _ _ _ _ _ _ _ _ _ _ ns y.room y.kept v0 in
        let g = found_sign text at (sign and_sign (drop at text)) p x in
        more_by _ _ _ _ _ _ _ _ _ _ _ _ (v.long ∙ (z.long ∙ y.long)) v.room v.kept λ f h.
        let u = took size (emit b k (take d ns)) text p k (read_not f (drop p text)) r1 m (y.reads f (omega (arith, g.1, g.2))) in
        rw (g.0, u.2, u.3.rest) (carry and_size (emit_ands m2 (r1.count + 1) (take d ns)) text r1.at (r1.count + 1) and_size (emit_ands b k (take d ns)) at k (λ ts. u.0 ∷ ts) (more_and f (drop r1.at text)) q a (v.reads f (omega (arith, g.1, g.2, u.3.ahead))) (ands_done g.1 u.0 u.1 u.3 z))

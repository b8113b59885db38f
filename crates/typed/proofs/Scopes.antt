-- What a name is bound in: an exist that is next, and what follows it.
use Prim.Native.Nat.{ℕ}
use mathlib.Core.Path.{◌≡◌}
use mathlib.Core.Option.{none}
use mathlib.Core.List.{List}
use native.Mathlib.Omega.{arith}
use lib.ListN.{take, drop}
use Rattle.std.specs.Prelude.{Option, Some, None}
use Rattle.signs.specs.Signs.{sign, bar_sign, and_sign, not_sign, exist_sign}
use Rattle.atoms.specs.Tree.{size}
use Rattle.atoms.specs.Emit.{emit, or_size, and_size, emit_ors, emit_ands}
use Rattle.typed.specs.Grammar.{read_or, more_or, more_and, read_not, read_some}
use Rattle.signs.specs.Finding.{FindsSign}
use Rattle.typed.specs.Parsing.{ReadsRule, ReadsMore}
use Rattle.atoms.specs.declared.Reading.{Reading}
use Rattle.signs.proofs.Told.{found_sign}
use Rattle.atoms.proofs.Taken.{earlier}
use Rattle.typed.proofs.Answers.{rule_by}
use Rattle.typed.proofs.Others.{other_sign}
use Rattle.typed.proofs.Passed.{behind_names}
use Rattle.typed.proofs.Chains.{or_lost, or_read, or-alone, and_lost, and_read, and-alone}

module _ (text : List ℕ) (at : ℕ) (ns : List ℕ) (d k : ℕ) (b : List ℕ) (e : ℕ) (x : FindsSign text at (sign exist_sign (drop at text)) (Some e)) where
  inner : (r : Option Reading) (m l : List ℕ) → ReadsRule read_some 0 text e ns d k b r m l → ReadsRule read_not 1 text at ns d k b r m l
  unfolding read_or
  inner r m l z =
      let g = found_sign text at (sign exist_sign (drop at text)) e x in
      let o : sign not_sign (drop at text) ≡ none = other_sign 101 33 (λ h. omega arith) _ _ (drop at text) (drop e text) g.0 in
      rule_by _ _ _ _ _ _ _ _ _ _ _ z.long z.room z.kept λ f h.
      rw (o, g.0) (earlier size (emit b k (take d ns)) text e k at (omega (arith, g.1)) (read_some f (drop e text)) r m (z.reads f (omega (arith, g.1, g.2))))

  pub scope_lost : (m l : List ℕ) → ReadsRule read_some 0 text e ns d k b None m l → ReadsRule read_or 3 text at ns d k b None m l
  scope_lost m l z = or_lost text at ns d k b m l (and_lost text at ns d k b m l (inner None m l z))

  module _ (r : Reading) (m l : List ℕ) (z : ReadsRule read_some 0 text e ns d k b (Some r) m l) where
    module _ (y : FindsSign text r.at (sign and_sign (drop r.at text)) None) where
      pub scope_alone : FindsSign text r.at (sign bar_sign (drop r.at text)) None → ReadsRule read_or 3 text at ns d k b (Some r) m l
      scope_alone v = or-alone text at ns d k b r m l (and-alone text at ns d k b r m l (inner (Some r) m l z) y r.at (behind_names text e ns d k b r m l z)) v

      pub scope_ors : (r3 : Option Reading) (a l3 : List ℕ) → ReadsMore more_or or_size emit_ors text r.at l d r.count m r3 a l3 → ReadsRule read_or 3 text at ns d k b r3 a l3
      scope_ors r3 a l3 v = or_read text at ns d k b r m l r3 a l3 (and-alone text at ns d k b r m l (inner (Some r) m l z) y r.at (behind_names text e ns d k b r m l z)) v

    pub scope_ands_lost : (m2 l2 : List ℕ) → ReadsMore more_and and_size emit_ands text r.at l d r.count m None m2 l2 → ReadsRule read_or 3 text at ns d k b None m2 l2
    scope_ands_lost m2 l2 y = or_lost text at ns d k b m2 l2 (and_read text at ns d k b r m l None m2 l2 (inner (Some r) m l z) y)

    pub scope_both : (r2 : Reading) (m2 l2 : List ℕ) → ReadsMore more_and and_size emit_ands text r.at l d r.count m (Some r2) m2 l2 → (r3 : Option Reading) (a l3 : List ℕ) → ReadsMore more_or or_size emit_ors text r2.at l2 d r2.count m2 r3 a l3 → ReadsRule read_or 3 text at ns d k b r3 a l3
    scope_both r2 m2 l2 y r3 a l3 v = or_read text at ns d k b r2 m2 l2 r3 a l3 (and_read text at ns d k b r m l (Some r2) m2 l2 (inner (Some r) m l z) y) v

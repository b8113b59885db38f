-- The nodes of operands in a row are those of the tree that groups them to the left.
use Prim.Native.Nat.{ℕ, ◌+◌}
use mathlib.Core.Path.{◌≡◌, refl, ap, ◌∙◌}
use mathlib.Core.List.{List, [], ◌∷◌}
use native.Mathlib.Omega.{arith}
use Rattle.atoms.specs.Tree.{Tree, either, both, size, either_all, both_all}
use Rattle.atoms.specs.Emit.{emit, or_size, and_size, emit_ors, emit_ands}

pub ors_size : (l : Tree) (ts : List Tree) → size (either_all l ts) ≡ size l + or_size ts
ors_size l [] = omega arith
ors_size l (t ∷ ts) = ors_size (either l t) ts ∙ omega arith

pub ands_size : (l : Tree) (ts : List Tree) → size (both_all l ts) ≡ size l + and_size ts
ands_size l [] = omega arith
ands_size l (t ∷ ts) = ands_size (both l t) ts ∙ omega arith

pub ors_emit : (tb : List ℕ) (k : ℕ) (ns : List ℕ) (l : Tree) (ts : List Tree) → emit_ors (emit tb k ns l) (k + size l) ns ts ≡ emit tb k ns (either_all l ts)
unfolding emit emit_ors
ors_emit tb k ns l [] = refl
ors_emit tb k ns l (t ∷ ts) =
    let e : k + size l + 4 + size t ≡ k + size (either l t) = omega arith in
    ap (λ (n : ℕ). emit_ors (emit tb k ns (either l t)) n ns ts) e ∙ ors_emit tb k ns (either l t) ts

pub ands_emit : (tb : List ℕ) (k : ℕ) (ns : List ℕ) (l : Tree) (ts : List Tree) → emit_ands (emit tb k ns l) (k + size l) ns ts ≡ emit tb k ns (both_all l ts)
unfolding emit emit_ands
ands_emit tb k ns l [] = refl
ands_emit tb k ns l (t ∷ ts) =
    let e : k + size l + 1 + size t ≡ k + size (both l t) = omega arith in
    ap (λ (n : ℕ). emit_ands (emit tb k ns (both l t)) n ns ts) e ∙ ands_emit tb k ns (both l t) ts

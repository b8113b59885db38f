-- Spaces and LFs before an operand change nothing.
use Prim.Native.Nat.{ℕ, zero, suc, ◌+◌, ◌-◌, ◌*◌, ◌<◌}
use mathlib.Core.Path.{◌≡◌, refl, sym, subst, ap, ◌∙◌}
use mathlib.Core.List.{List}
use native.Mathlib.Omega.{arith}
use lib.ListN.{length, take, drop}
use Rattle.std.specs.Prelude.{Option}
use Rattle.signs.specs.Signs.{Got, skip, behind, sign, name_from, name, not_sign, exist_sign, open_sign, same_sign}
use Rattle.signs.proofs.Blanks.{skip-again}
use Rattle.atoms.specs.Tree.{Tree, size}
use Rattle.atoms.specs.Atoms.{read_atom}
use Rattle.atoms.specs.Emit.{emit}
use Rattle.typed.specs.Grammar.{read_or, read_not, read_operand}
use Rattle.signs.specs.Finding.{Behind}
use Rattle.atoms.specs.Readers.{Reads}
use Rattle.typed.specs.Parsing.{ReadsRule}
use Rattle.atoms.specs.declared.Reading.{Reading}
use Rattle.atoms.proofs.Taken.{earlier}

sign_skip : (w s : List ℕ) → sign w (skip s) ≡ sign w s
unfolding sign
sign_skip w s = ap (λ (y : List ℕ). behind w y) (skip-again s)

name-skip : (s : List ℕ) → name (skip s) ≡ name s
unfolding name
name-skip s = ap (λ (y : List ℕ). name_from y) (skip-again s)

atom_skip : (s : List ℕ) → read_atom (skip s) ≡ read_atom s
unfolding read_atom
atom_skip s = rw (sign_skip same_sign s, name-skip s)

operand_skip : (f : ℕ) (s : List ℕ) → read_operand f (skip s) ≡ read_operand f s
unfolding read_or
operand_skip zero s = refl
operand_skip (suc f) s = rw (sign_skip open_sign s, atom_skip s)

not_skip : (f : ℕ) (s : List ℕ) → read_not f (skip s) ≡ read_not f s
unfolding read_or
not_skip zero s = refl
not_skip (suc f) s = rw (sign_skip not_sign s, sign_skip exist_sign s, operand_skip f s)

pub not_skipped : (text : List ℕ) (at : ℕ) (ns : List ℕ) (d k : ℕ) (b : List ℕ) (p : ℕ) → Behind text at p → (r : Option Reading) (a l : List ℕ) → ReadsRule read_not 1 text p ns d k b r a l → ReadsRule read_not 1 text at ns d k b r a l
not_skipped text at ns d k b p x r a l z = record { long = z.long; room = z.room; kept = z.kept; reads = go }
  where
    go : (f : ℕ) → 4 * (length text - at) + 1 < f → Reads size (emit b k (take d ns)) text at k (read_not f (drop at text)) r a
    go f h =
        let e : read_not f (drop p text) ≡ read_not f (drop at text) = ap (λ (y : List ℕ). read_not f y) (sym x.answer) ∙ not_skip f (drop at text) in
        subst (λ (g : Got Tree). Reads size (emit b k (take d ns)) text at k g r a) e
        (earlier size (emit b k (take d ns)) text p k at x.ahead (read_not f (drop p text)) r a (z.reads f (omega (arith, x.ahead))))

-- A tree of at most 64 nodes, its table, and any file that has the table's nodes: the file's nodes are one tree, and its formula is
-- what the text says.
use Prim.Native.Nat.{ℕ, ◌-◌, ◌≤◌, ◌+◌}
use mathlib.Core.Path.{◌≡◌, ap, ◌∙◌}
use mathlib.Core.Bool.{true}
use mathlib.Core.List.{List, []}
use native.Mathlib.Omega.{arith}
use lib.ListN.{length}
use Rattle.rules.specs.Table.{Good, formula_at}
use Rattle.rules.specs.Checks.{named_once, root_formula}
use Rattle.atoms.specs.Tree.{Tree, size}
use Rattle.atoms.specs.Emit.{emit}
use Rattle.typed_formula.specs.Meaning.{formula_for}
use Rattle.typed_formula.proofs.Stands.{emit-stands}
use Rattle.typed_formula.proofs.FileSays.{Laid, Known, file-says}
use Rattle.typed_formula.proofs.NamedOnce.{named-once}

pub record Reported (text : List ℕ) (t : Tree) (file : List ℕ) (p : ℕ) : Type 0 where
  pub one_tree : named_once file p (size t) ≡ true
  pub formula : root_formula file p (size t) ≡ formula_for text [] t

pub reported : (text tb file : List ℕ) (p : ℕ) (t : Tree) → Known t → size t ≤ 64 → 192 ≤ length tb → Laid text (emit tb 0 [] t) file p (size t) → Good file p (size t - 1) → Reported text t file p
reported text tb file p t w h l laid good =
    let s = emit-stands t tb 0 [] (omega arith) l in
    record {
      one_tree = named-once text (emit tb 0 [] t) file p (size t) laid t w [] (omega arith) s;
      formula = (let e : size t - 1 ≡ 0 + size t - 1 = omega arith in ap (formula_at file p) e) ∙ file-says text (emit tb 0 [] t) file p (size t) laid good t w [] 0 (omega arith) s;
    }

-- The three demands hold, and the worked cases.
use Prim.Native.Nat.{ℕ, ◌<◌}
use mathlib.Core.Path.{◌≡◌, ◌∙◌}
use native.Mathlib.Omega.{arith}
use borrow.Author.Tests.{le-leb}
use Rattle.std.specs.Prelude.{Ok}
use Rattle.relations.specs.Compose.{compose_of, composed_of}
use Rattle.relations.proofs.Demand.{demand-3 as composition-law}
use Rattle.claims.specs.Demands.{Demand3, Demands}
use Rattle.claims.specs.Cases.{Cases}
use Rattle.claims.proofs.Refusals.{demand-1}
use Rattle.claims.proofs.Verdicts.{demand-2}
use Rattle.claims.proofs.Typed.{typed_rules}
use Rattle.claims.proofs.Slips.{the_slips}
use Rattle.claims.proofs.Layouts.{the_layouts}
use Rattle.claims.proofs.Modes.{the_modes}
use Rattle.claims.proofs.CaseLabels.{one_label}
use Rattle.claims.proofs.CaseFile.{file-capitals}
use Rattle.claims.proofs.CaseText.{text_capitals}
use Rattle.claims.proofs.CaseCalls.{no_difference}
use Rattle.claims.proofs.LabelBook.{the_label_book}
use Rattle.claims.proofs.Worked as Worked

is_composed : (a b : ℕ) → a < 64 → b < 64 → composed_of a b ≡ Ok (compose_of a b)
is_composed a b h k = simp (le-leb a 63 (omega arith), le-leb b 63 (omega arith))

demand-3 : Demand3
demand-3 a b h k v c =
    record {
      composition = compose_of a b;
      reported = c.answer ∙ is_composed a b h k;
      exactly = λ r. (composition-law a b h k r).exactly;
      by_three = λ r. (composition-law a b h k r).by_three;
    }

pub the_demands : Demands
the_demands = record { first = demand-1; second = demand-2; third = demand-3; typed = typed_rules; slips = the_slips; layouts = the_layouts; modes = the_modes; letters = record { one = one_label; out = record { file = file-capitals; text = text_capitals }; same = no_difference }; book = the_label_book }

pub the_cases : Cases
the_cases = Worked.the_cases

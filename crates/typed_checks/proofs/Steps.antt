-- The tests of one node, from what comparisons say; and a label's place kept where it is new.
use Prim.Native.Nat.{ℕ, ◌+◌, ◌<◌, ◌≤◌}
use mathlib.Core.Path.{◌≡◌, refl, sym, ap₂, ◌∙◌}
use mathlib.Core.Bool.{Bool, true, false, not}
use mathlib.Core.List.{List}
use native.Mathlib.Omega.{arith}
use native.Mathlib.Numerals.{add-one}
use lib.Dec.{eqb, ltb}
use lib.ListN.{length, set, take, length-set}
use lib.Seq.{take-suc-set, length-take-le}
use borrow.Author.Tests.{eq-eqb, ne_eqb, lt-ltb, le-ltb}
use Rattle.typed_formula.specs.Meaning.{label_text}
use Rattle.typed_grammar.specs.File.{place_in}
use Rattle.text_labels.specs.Pieces.{texts, Finds}
use Rattle.typed_checks.specs.Tests.{bound_step, few_step, noted, Notes}

module _ (ok : Bool) (kind a b : ℕ) where
  pub bound_lost : ok ≡ false → ok ≡ bound_step ok kind a b
  unfolding bound_step
  bound_lost e = simp e

  pub bound_none : ok ≡ true → kind < 4 → ltb kind 4 ≡ bound_step ok kind a b
  unfolding bound_step
  bound_none e h = simp (e, lt-ltb kind 4 h)

  pub bound_first : ok ≡ true → 4 ≤ kind → a ≡ 255 → not (eqb a 255) ≡ bound_step ok kind a b
  unfolding bound_step
  bound_first e h q = simp (e, le-ltb kind 4 h, eq-eqb a 255 q)

  pub bound_label : ok ≡ true → 4 ≤ kind → (a ≡ 255 → ⊥) → kind ≡ 4 → eqb kind 4 ≡ bound_step ok kind a b
  unfolding bound_step
  bound_label e h q k = simp (e, le-ltb kind 4 h, ne_eqb a 255 q, eq-eqb kind 4 k)

  pub bound_second : ok ≡ true → 4 ≤ kind → (a ≡ 255 → ⊥) → (kind ≡ 4 → ⊥) → not (eqb b 255) ≡ bound_step ok kind a b
  unfolding bound_step
  bound_second e h q k = simp (e, le-ltb kind 4 h, ne_eqb a 255 q, ne_eqb kind 4 k)

  pub few_lost : ok ≡ false → ok ≡ few_step ok kind a b
  unfolding few_step
  few_lost e = simp e

  pub few_none : ok ≡ true → (kind ≡ 3 → ⊥) → not (eqb kind 3) ≡ few_step ok kind a b
  unfolding few_step
  few_none e h = simp (e, ne_eqb kind 3 h)

  pub few_some : ok ≡ true → kind ≡ 3 → ltb a 4 ≡ few_step ok kind a b
  unfolding few_step
  few_some e h = simp (e, eq-eqb kind 3 h)

pub ruleset bound-cases = (bound_lost, bound_none, bound_first, bound_label, bound_second)

pub ruleset few-cases = (few_lost, few_none, few_some)

module _ (text places : List ℕ) (m kind b : ℕ) (h : m < length places) where
  pub note_none : (kind ≡ 4 → ⊥) → Notes text places m kind b places m
  unfolding noted
  note_none e = record { list = sym (simp (ne_eqb kind 4 e)); more = omega arith; long = refl }

  module _ (e : kind ≡ 4) (k : ℕ) (f : Finds text (take m places) b k) where
    number : ltb (place_in (texts text (take m places)) (label_text text b)) (length (take m places)) ≡ ltb k m
    number = ap₂ ltb (sym f.number) (length-take-le m places (omega arith))

    pub note_old : k < m → Notes text places m kind b places m
    unfolding noted
    note_old l = record { list = sym (simp (eq-eqb kind 4 e, number, lt-ltb k m l)); more = omega arith; long = refl }

    pub note_new : m ≤ k → Notes text places m kind b (set places m b) (m + 1)
    unfolding noted
    note_new l = record {
      list = rw (add-one m) (take-suc-set places m b h ∙ sym (simp (eq-eqb kind 4 e, number, le-ltb k m l)));
      more = omega arith;
      long = length-set places m b;
    }

pub ruleset note-cases = (note_none, note_old, note_new)

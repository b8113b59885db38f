-- The lines of a log, one after another: what `lines_from` says of the first line, and that the answer and the work area are those of
-- the reading alone.
use Prim.Native.Nat.{ℕ, ◌+◌}
use mathlib.Core.Path.{◌≡◌, refl, ap, sym, ◌∙◌}
use mathlib.Core.List.{List, [], ◌∷◌}
use lib.ListN.{set}
use Rattle.refusals.specs.declared.Refusal.{Refusal}
use Rattle.refusals.specs.Refusal.{number}
use Rattle.trace.specs.Trace.{Trace, Answer, next, refused, step}
use Rattle.pairs.specs.declared.Layout.{Layout}
use Rattle.pairs.specs.Pairs.{work_of}
use Rattle.rules.specs.declared.Rule.{Rule}
use Rattle.rules.specs.Rules.{formula_of}
use Rattle.logic.specs.Verdict.{verdict_byte, verdict_of}
use Rattle.reading.specs.declared.LogRead.{LogRead}
use Rattle.reading.specs.declared.Ending.{Ending}
use Rattle.reading.specs.declared.Ending.TheVariants.{Read, Refused}
use Rattle.reading.specs.Reading.{by_answer, ended, read_from, read_into}
use Rattle.reading.proofs.Lines.{read_none, read_taken, read_refused}
use Rattle.whole_log.specs.Log.{lines_from}
use Rattle.trace.proofs.Taken.{by_answer_lem}

module _ (lay : Layout) (file : List ℕ) (x : Rule) where
  pub from_none : (t : Trace) (w out : List ℕ) → lines_from lay file x t [] w out ≡ (ended t Read, work_of lay t w, out)
  unfolding lines_from
  from_none t w out = refl

  module _ (t : Trace) (l : List ℕ) (ls : List (List ℕ)) (w out : List ℕ) where
    abbrev by_line : Answer → LogRead × List ℕ × List ℕ
    by_line a =
        by_answer a
        (λ u. lines_from lay file x u ls w (set out t.lines (verdict_byte (verdict_of u (formula_of file x)))))
        (λ c. (ended t (Refused c (t.lines + 1)), work_of lay t w, out))

    pub from-taken : (u : Trace) → step (next t) l ≡ next u
        → lines_from lay file x t (l ∷ ls) w out ≡ lines_from lay file x u ls w (set out t.lines (verdict_byte (verdict_of u (formula_of file x))))
    unfolding lines_from by_answer
    from-taken u p = ap by_line p

    pub from_refused : (c : Refusal) → step (next t) l ≡ refused c
        → lines_from lay file x t (l ∷ ls) w out ≡ (ended t (Refused (number c) (t.lines + 1)), work_of lay t w, out)
    unfolding lines_from by_answer
    from_refused c p = ap by_line p

  -- the answer and the work area are those of the reading
  abbrev Whole : Type 0
  Whole = LogRead × List ℕ × List ℕ

  abbrev front : Whole → LogRead × List ℕ
  front z = (z.0, z.1)

  abbrev into : List ℕ → Trace × Ending → LogRead × List ℕ
  into w z = read_into lay z w

  pub from_read : (w : List ℕ) (ls : List (List ℕ)) (t : Trace) (out : List ℕ)
      → ◌≡◌ {A = LogRead × List ℕ} ((lines_from lay file x t ls w out).0, (lines_from lay file x t ls w out).1) (read_into lay (read_from t ls) w)
  from_read w [] t out = ap front (from_none t w out) ∙ ap (into w) (sym (read_none t))
  from_read w (l ∷ ls) t out =
      by_answer_lem t l
      (λ u p. ap front (from-taken t l ls w out u p) ∙ (from_read w ls u _ ∙ ap (into w) (sym (read_taken t l ls u p))))
      (λ c p. ap front (from_refused t l ls w out c p) ∙ ap (into w) (sym (read_refused t l ls c p)))

-- The text with what follows it is the text, and then what follows.
use Prim.Native.Nat.{ℕ, suc}
use mathlib.Core.Path.{◌≡◌, refl, sym, ap, ◌∙◌}
use mathlib.Core.List.{List, [], ◌∷◌, ◌++◌, append_assoc}
use Rattle.lists.proofs.Lists.{append-nil}
use Rattle.rules.specs.Formula.{Pairing, before, overlaps, includes, same, Formula, both, neg, exists, has, pair}
use Rattle.levels.specs.Levels.{Levels, no_levels, binds}
use Rattle.typed_grammar.specs.Text.{letter, pair_text, text_in, rule_text}
use Rattle.spelling.specs.Written.{write_pair, write}

pair_in : (p : Pairing) (a b : ℕ) (s : List ℕ) → write_pair p a b s ≡ pair_text p a b ++ s
pair_in before a b s = refl
pair_in overlaps a b s = refl
pair_in includes a b s = refl
pair_in same a b s = refl

write_in : (f : Formula) (d : ℕ) (e : Levels) (s : List ℕ) → write d e f s ≡ text_in d e f ++ s
unfolding write text_in
write_in (both f g) d e s =
    let x = text_in d e f in
    let y = text_in d e g in
    ap (λ (l : List ℕ). 40 ∷ l)
    (ap (λ (l : List ℕ). write d e f (38 ∷ l)) (write_in g d e (41 ∷ s))
    ∙ (write_in f d e (38 ∷ (y ++ (41 ∷ s)))
    ∙ (sym (append_assoc x (38 ∷ []) (y ++ (41 ∷ s)))
    ∙ (sym (append_assoc (x ++ (38 ∷ [])) y (41 ∷ s)) ∙ sym (append_assoc (x ++ (38 ∷ []) ++ y) (41 ∷ []) s)))))
write_in (neg f) d e s = ap (λ (l : List ℕ). 33 ∷ l) (write_in f d e s)
write_in (exists v f) d e s =
    let y = text_in (suc d) (binds e v d) f in
    ap (λ (l : List ℕ). 40 ∷ 101 ∷ 120 ∷ 105 ∷ 115 ∷ 116 ∷ 32 ∷ letter d ∷ 46 ∷ l)
    (write_in f (suc d) (binds e v d) (41 ∷ s) ∙ sym (append_assoc y (41 ∷ []) s))
write_in (has v l) d e s = ap (λ (x : List ℕ). letter (e v) ∷ 40 ∷ 39 ∷ x) (sym (append_assoc l (39 ∷ 41 ∷ []) s))
write_in (pair p v w) d e s = pair_in p (letter (e v)) (letter (e w)) s

pub write_text : (f : Formula) → write 0 no_levels f [] ≡ rule_text f
write_text f = write_in f 0 no_levels [] ∙ append-nil (rule_text f)

-- P2 to P8 hold: antt computes each.
use mathlib.Core.Path.{◌≡◌, refl}
use Rattle.relations.specs.Relation.{Relation, number}
use Rattle.relations.specs.Compose.{Examples, single, compose_of}
use Rattle.relations.proofs.Relation.{Six, six_at}

pub examples : Examples
unfolding compose_of
examples = record { P2 = refl; P3 = refl; P4 = refl; P5 = refl; P6 = refl; P7 = refl; P8 = refl }

-- of two relations the composition is the single one
pub compose-single : (p q : Relation) → compose_of (number p) (number q) ≡ single p q
unfolding compose_of
compose-single p =
    six_at (λ q. compose_of (number p) (number q) ≡ single p q)
    (six_at (λ v. Six (λ q. compose_of (number v) (number q) ≡ single v q)) ((refl, refl, refl, refl, refl, refl), (refl, refl, refl, refl, refl, refl), (refl, refl, refl, refl, refl, refl), (refl, refl, refl, refl, refl, refl), (refl, refl, refl, refl, refl, refl), (refl, refl, refl, refl, refl, refl)) p)

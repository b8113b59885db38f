-- What is printed, from what the two reads answered.
use Prim.Native.Nat.{ℕ}
use mathlib.Core.Path.{◌≡◌, refl, sym, ap, subst, ◌∙◌}
use mathlib.Core.List.{List}
use native.Mathlib.Omega.{arith}
use lib.ListN.{length, take}
use Rattle.std.specs.Prelude.{Ok, Err}
use Rattle.std.specs.declared.io.Error.{Error}
use Rattle.input.specs.Filled.{Filled, Fills}
use Rattle.input.proofs.Answers.{counted}
use Rattle.log_slips.specs.Printed.{Shows, Printed, Prepared}
use Rattle.log_slips.proofs.Cut.{first_bytes_decide}

-- how many bytes an answer counts
abbrev bytes_of : Filled → ℕ
bytes_of (Ok n) = n
bytes_of (Err e) = 0

not_both : (a : Filled) (n : ℕ) (x : Error) → a ≡ Ok n → a ≡ Err x → ⊥
not_both a n x e f = let q : ◌≡◌ {A = Filled} (Ok n) (Err x) = sym e ∙ f in let z : ◌≡◌ {A = ℕ} 0 1 = cc in omega arith

pub bytes_counted : (a : Filled) (xs : List ℕ) (n : ℕ) → a ≡ Ok n → Fills a xs → n ≡ length (take n xs)
bytes_counted a xs n e f = (counted a n xs e f).1

module _ (r l : Filled) (rule log text : List ℕ) where
  nothing : ((n m : ℕ) → r ≡ Ok n → l ≡ Ok m → ⊥) → Prepared r rule l log text 0
  nothing none =
      record {
        counts = (omega arith, refl);
        prints = record { read = λ n m p q. absurd (none n m p q); whole = λ n m p q. absurd (none n m p q); rule_failed = λ x p. refl; log_failed = λ x p. refl };
      }

  pub rule_unread : (x : Error) → r ≡ Err x → Prepared r rule l log text 0
  rule_unread x e = nothing (λ n m p q. not_both r n x p e)

  pub log_unread : (x : Error) → l ≡ Err x → Prepared r rule l log text 0
  log_unread x e = nothing (λ n m p q. not_both l m x q e)

  pub both_read : (n m k : ℕ) → r ≡ Ok n → l ≡ Ok m → Printed (take n rule) (take m log) text k → Prepared r rule l log text k
  both_read n m k e f p =
      let same_rule : (a : ℕ) → r ≡ Ok a → take n rule ≡ take a rule = λ a g. ap (λ (x : Filled). take (bytes_of x) rule) (sym e ∙ g) in
      let same_log : (a : ℕ) → l ≡ Ok a → take m log ≡ take a log = λ a g. ap (λ (x : Filled). take (bytes_of x) log) (sym f ∙ g) in
      let shown : (y z : List ℕ) → take n rule ≡ y → take m log ≡ z → Shows y z (take k text) =
      λ y z u v. subst (λ (x : List ℕ). Shows x z (take k text)) u (subst (λ (x : List ℕ). Shows (take n rule) x (take k text)) v p.shows)
      in
      record {
        counts = p.counts;
        prints = record {
          read = λ a b g h. shown (take a rule) (take b log) (same_rule a g) (same_log b h);
          whole =
              λ a b g h file input u v.
              first_bytes_decide file input (take k text) (shown (take 600 file) (take 8192 input) (same_rule a g ∙ u) (same_log b h ∙ v));
          rule_failed = λ x g. absurd (not_both r n x e g);
          log_failed = λ x g. absurd (not_both l m x f g);
        };
      }

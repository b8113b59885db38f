-- What is printed, from what the two reads answered.
use Prim.Native.Nat.{ℕ}
use mathlib.Core.Path.{◌≡◌, refl, sym, ap, ap₂, subst, ◌∙◌}
use mathlib.Core.List.{List}
use native.Mathlib.Omega.{arith}
use lib.ListN.{take}
use Rattle.input.specs.Counts.{IsPrefixLen}
use Rattle.std.specs.declared.io.Error.{Error}
use Rattle.input.specs.Filled.{Filled}
use Rattle.std.specs.Prelude.{Ok, Err}
use Rattle.whole_log.specs.declared.Mode.{Mode}
use Rattle.whole_log.specs.Part.{read_part}
use Rattle.report.specs.Text.{report_text}
use Rattle.log_check.proofs.Word.{full_said}
use Rattle.log_check.specs.Printed.{mode_said, Printed, Prints}

-- how many bytes an answer counts
abbrev bytes_of : Filled → ℕ
bytes_of (Ok n) = n
bytes_of (Err e) = 0

not_both : (a : Filled) (n : ℕ) (x : Error) → a ≡ Ok n → a ≡ Err x → ⊥
not_both a n x e f = let q : ◌≡◌ {A = Filled} (Ok n) (Err x) = sym e ∙ f in let z : ◌≡◌ {A = ℕ} 0 1 = cc in omega arith

module _ (word : List ℕ) (r l : Filled) (rule log text : List ℕ) where
  pub rule_unread : (x : Error) → r ≡ Err x → IsPrefixLen 0 text × Prints word r rule l log (take 0 text)
  rule_unread x e = (
    (omega arith, refl),
    record {
      read = λ n m p q. absurd (not_both r n x p e);
      whole = λ n m p q. absurd (not_both r n x p e);
      rule_failed = λ y p. refl;
      log_failed = λ y p. refl;
      full = full_said word;
    },
  )

  pub log_unread : (x : Error) → l ≡ Err x → IsPrefixLen 0 text × Prints word r rule l log (take 0 text)
  log_unread x e = (
    (omega arith, refl),
    record {
      read = λ n m p q. absurd (not_both l m x q e);
      whole = λ n m p q. absurd (not_both l m x q e);
      rule_failed = λ y p. refl;
      log_failed = λ y p. refl;
      full = full_said word;
    },
  )

  pub both_read : (n m k : ℕ) → r ≡ Ok n → l ≡ Ok m → (mode : Mode) → mode ≡ mode_said word → Printed mode (take n rule) (take m log) text k → IsPrefixLen k text × Prints word r rule l log (take k text)
  both_read n m k e f mode said q =
      let p : Printed (mode_said word) (take n rule) (take m log) text k = subst (λ (y : Mode). Printed y (take n rule) (take m log) text k) said q in
      let same_rule : (a : ℕ) → r ≡ Ok a → take n rule ≡ take a rule = λ a g. ap (λ (x : Filled). take (bytes_of x) rule) (sym e ∙ g) in
      let same_log : (a : ℕ) → l ≡ Ok a → take m log ≡ take a log = λ a g. ap (λ (x : Filled). take (bytes_of x) log) (sym f ∙ g) in (
        p.counts,
        record {
          read = λ a b g h. p.bytes ∙ ap₂ (λ (u v : List ℕ). report_text u (read_part (mode_said word) u v)) (same_rule a g) (same_log b h);
          whole = λ a b g h file input u v. p.whole file input (same_rule a g ∙ u) (same_log b h ∙ v);
          rule_failed = λ y g. absurd (not_both r n y e g);
          log_failed = λ y g. absurd (not_both l m y f g);
          full = full_said word;
        },
      )

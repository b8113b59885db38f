-- The worked cases of typed rules, by computing.
use Prim.Native.Nat.{ℕ, ◌≤◌}
use mathlib.Core.Path.{◌≡◌, refl, sym, ap, ◌∙◌}
use mathlib.Core.Bool.{true}
use mathlib.Core.Option.{Option, none, some}
use mathlib.Core.List.{List, []}
use lib.Dec.{leb}
use lib.ListN.{length}
use borrow.Author.Tests.{leb-true}
use Rattle.labels.specs.Label.{letter?, digit?, capital, label_form?}
use Rattle.lists.specs.Lists.{bytes}
use Rattle.rules.specs.Formula.{before, overlaps, includes, same, Formula, both, neg, exists, pair, no_scope, scoped, shallow}
use Rattle.rules.specs.Cases.{p1_file, no_evening_includes_test}
use Rattle.signs.specs.Signs.{blank?, skip, sign, capital?, word_byte?, name_more, name, label}
use Rattle.atoms.specs.Tree as Kept
use Rattle.atoms.specs.Emit.{level_from, inside, put, close_or, emit}
use Rattle.atoms.specs.Atoms.{relation, read_same, read_has, read_pair, read_atom}
use Rattle.typed.specs.Grammar.{read_or, tree_of, read_text}
use Rattle.typed_formula.specs.Meaning.{label_text, formula_for}
use Rattle.typed_grammar.specs.File.{with_label, labels_in}
use Rattle.typed_grammar.specs.Text.{text_in, rule_text}
use Rattle.typed_grammar.proofs.Sound.{reads-says}
use Rattle.typed_checks.specs.Said.{judged}
use Rattle.typed_file.specs.File.{nodes_bytes, file_from, file_of}
use Rattle.typed_file.specs.Answer.{typed_answer}
use Rattle.rule_text.specs.Text.{text_answer, answer_of}
use Rattle.rules.proofs.Worked.{p1-taken, p1-formula}
use Rattle.output.specs.declared.Written.TheVariants.{Length, Refused}
use Rattle.typed_meaning.proofs.Names.{formula_said_lem}
use Rattle.claims.specs.TypedCases.{SaysFormula, property1, property2, property3, property4, p1_text, no_image_during_two_boots, no_fail_during_parameters, no_fail_before_closest_recovery, no_starve_inside_both, or, TypedCases}

-- what a text says, if it has a tree of at most 64 nodes in which every name is bound
abbrev said_in : List ℕ → Option Kept.Tree → Formula → Type 0
said_in text none f = ⊥
said_in text (some u) f = (leb (Kept.size u) 64 ≡ true) × (scoped (formula_for text [] u) no_scope ≡ true) × (formula_for text [] u ≡ f)

said_by : (text : List ℕ) (f : Formula) → said_in text (read_text text) f → SaysFormula text f
said_by text f h = go (read_text text) refl h
  where
    go : (o : Option Kept.Tree) → read_text text ≡ o → said_in text o f → SaysFormula text f
    go none e h = absurd h
    go (some u) e h =
        let r = reads-says text u e in
        let m : Kept.size u ≤ 64 = leb-true (Kept.size u) 64 h.0 in
        record { tree = r.0; says = r.1; formula = sym (formula_said_lem text r.0 u r.2 m h.1) ∙ h.2 }

written_p1 : text_answer p1_file 4096 ≡ Length 53
unfolding text_answer text_in
written_p1 = ap (answer_of p1_file) p1-taken ∙ ap (λ (f : Formula). Length (length (rule_text f))) p1-formula

short-p1 : text_answer p1_file 4095 ≡ Refused 20
unfolding text_answer
short-p1 = refl

pub typed_cases : TypedCases
unfolding letter? digit? capital label_form? scoped shallow blank? skip sign capital? word_byte? name_more name label relation read_same read_has read_pair read_atom read_or tree_of read_text level_from inside put close_or emit label_text formula_for with_label labels_in text_in judged nodes_bytes file_from file_of typed_answer
typed_cases = record {
  p1 = refl;
  p1-file = refl;
  p1-says = said_by p1_text no_evening_includes_test (refl, refl, refl);
  p1-text = refl;
  figure1-1 = said_by property1 no_image_during_two_boots (refl, refl, refl);
  figure1-2 = said_by property2 no_fail_during_parameters (refl, refl, refl);
  figure1-3 = said_by property3 no_fail_before_closest_recovery (refl, refl, refl);
  figure1-4 = said_by property4 no_starve_inside_both (refl, refl, refl);
  touching = said_by (bytes "existA.A<A") (exists 0 (pair before 0 0)) (refl, refl, refl);
  sign_before_name = said_by (bytes "exist A . A oA") (exists 0 (pair overlaps 0 0)) (refl, refl, refl);
  one_name = refl;
  bound_again = said_by (bytes "exist A . exist A . A < A") (exists 0 (exists 1 (pair before 1 1))) (refl, refl, refl);
  met-20 = refl;
  met-25 = refl;
  met-5 = refl;
  met-9 = refl;
  met-10 = refl;
  and_before_or = said_by (bytes "exist A . A < A | A o A & A i A") (exists 0 (or (pair before 0 0) (both (pair overlaps 0 0) (pair includes 0 0)))) (refl, refl, refl);
  not_before_and = said_by (bytes "exist A . !A < A & A o A") (exists 0 (both (neg (pair before 0 0)) (pair overlaps 0 0))) (refl, refl, refl);
  or-behind-and = said_by (bytes "exist A . A o A & A i A | A < A") (exists 0 (or (both (pair overlaps 0 0) (pair includes 0 0)) (pair before 0 0))) (refl, refl, refl);
  exist_over_or = said_by (bytes "exist A . A < A & exist B . A < B | same(B,A)") (exists 0 (both (pair before 0 0) (exists 1 (or (pair before 0 1) (pair same 1 0))))) (refl, refl, refl);
  exist_in_brackets = said_by (bytes "(exist A . A < A) | !(exist B . B o B) & exist C . C i C") (or (exists 0 (pair before 0 0)) (both (neg (exists 0 (pair overlaps 0 0))) (exists 0 (pair includes 0 0)))) (refl, refl, refl);
  name_of-8 = said_by (bytes "exist Abcdefg8 . Abcdefg8 < Abcdefg8") (exists 0 (pair before 0 0)) (refl, refl, refl);
  name_of-9 = refl;
  or-file = refl;
  all_text = refl;
  met-4_labels = refl;
  met-4_nodes = refl;
  first-4 = refl;
  first-5 = refl;
  first-9 = refl;
  again_text = refl;
  p1_written = written_p1;
  text-20 = short-p1;
  bytes-4096 = refl;
  bytes-4097 = refl;
  tab = refl;
  quoted_lf = refl;
  open_quote = refl;
  small_first = refl;
  underscore = refl;
}

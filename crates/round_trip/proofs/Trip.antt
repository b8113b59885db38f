-- The text of a rule file that is taken is inside the grammar and meets no refusal, says the file's formula with each variable the
-- level of its "some", and is the text of that formula too.
use Prim.Native.Nat.{ℕ, zero, suc, ◌-◌, ◌≤◌}
use mathlib.Core.Path.{◌≡◌, refl, sym, ap, subst, ◌∙◌}
use mathlib.Core.Bool.{true, ◌&&◌}
use mathlib.Core.Logic.{◌↔◌, ◌≢◌}
use mathlib.Core.Option.{some}
use mathlib.Core.List.{List, [], ◌∷◌}
use native.Mathlib.Omega.{arith}
use lib.ListN.{length}
use lib.Dec.{ltb}
use borrow.Author.Tests.{le-ltb, ltb-true}
use Rattle.std.specs.Prelude.{Ok}
use Rattle.lists.specs.Lists.{all?}
use Rattle.lists.proofs.Lists.{Free, free_more}
use Rattle.grammar.specs.Written.{EachByte}
use Rattle.lists.proofs.Cases.{either_bool, and_left, and_right, no_both}
use Rattle.labels.specs.Label.{digit?, letter?, label_length?, label_form?}
use Rattle.grammar.proofs.Written.{form_is_label}
use Rattle.trace.specs.Trace.{Trace}
use Rattle.rules.specs.Limits.{max_labels, max_nodes, max_nested, max_file_bytes}
use Rattle.rules.specs.Formula as Formula
use Rattle.rules.specs.Formula.{Formula, no_scope, scoped, shallow}
use Rattle.rules.specs.Parts.{label_count}
use Rattle.rules.specs.Labels.{LabelsOk}
use Rattle.rules.specs.Rules.{formula_of, Taken}
use Rattle.rules.specs.declared.Rule.{Rule}
use Rattle.levels.specs.Levels.{Levels, no_levels, binds, by_level}
use Rattle.level_truth.proofs.Alike.{by_level_scoped, by_level-shallow, by_level_satisfies}
use Rattle.logic.specs.Satisfies.{Binding, Satisfies}
use Rattle.atoms.specs.Tree as Kept
use Rattle.atoms.specs.Tree.{size}
use Rattle.typed.specs.Grammar.{tree_of, read_text}
use Rattle.typed_formula.specs.Meaning.{formula_for}
use Rattle.typed_grammar.specs.Grammar.{Tree, Says}
use Rattle.typed_grammar.specs.Formula.{formula_said}
use Rattle.typed_grammar.specs.File.{node_count, labels_of, rule_file}
use Rattle.typed_grammar.specs.Text.{letter, rule_text}
use Rattle.typed_grammar.specs.Met.{LabelIn}
use Rattle.typed_grammar.proofs.Codes.{Codes}
use Rattle.typed_grammar.proofs.Sound.{reads-says}
use Rattle.spelling.specs.Written.{write, said}
use Rattle.spelling.proofs.RoundTrip.{Plain, read_written}
use Rattle.spelling.proofs.Means.{said_means, write_again}
use Rattle.spelling.proofs.Texts.{write_text}
use Rattle.output.specs.declared.Written.TheVariants as Written
use Rattle.text_labels.specs.Pieces.{good_labels?}
use Rattle.typed_checks.specs.Said.{judged}
use Rattle.typed_checks.proofs.Numbers.{Among}
use Rattle.typed_file.specs.File.{file_of}
use Rattle.typed_file.specs.Answer.{typed_answer}
use Rattle.rule_text.proofs.Room.{text_short, text_light}
use Rattle.typed_meaning.proofs.Names.{codes_known, formula_said_lem}
use Rattle.typed_meaning.proofs.Numbering.{file-numbered}
use Rattle.typed_meaning.proofs.LabelsSaid.{listed-different, bad_label}
use Rattle.typed_meaning.proofs.Pigeonhole.{few-within}
use Rattle.round_trip.specs.Trip.{ReadAgain}
use Rattle.round_trip.proofs.Labels.{Labelled, labelled_below, renamed-labelled, said_labelled, labelled_plain, label_plain, first_labels, first_long, first_has}

-- ── no bar ──
letter_byte : (b : ℕ) → letter? b ≡ true → b ≢ 124
unfolding letter? digit?
letter_byte b e q = no_both (sym (subst (λ (x : ℕ). letter? x ≡ true) q e))

label_bytes_lem : (l : List ℕ) → all? letter? l ≡ true → Free 124 l
label_bytes_lem [] e = tt
label_bytes_lem (b ∷ l) e =
    (letter_byte b (and_left (letter? b) (all? letter? l) e), label_bytes_lem l (and_right (letter? b) (all? letter? l) e))

level_byte : (k : ℕ) → letter k ≢ 124
level_byte zero q = omega arith
level_byte (suc zero) q = omega arith
level_byte (suc (suc zero)) q = omega arith
level_byte (suc (suc (suc n))) q = omega arith

each_byte : (s : List ℕ) → Free 124 s → EachByte (λ b. b ≡ 124 → ⊥) s
each_byte [] f k h = absurd (omega arith)
each_byte (b ∷ s) f zero h = f.0
each_byte (b ∷ s) f (suc k) h = each_byte s f.1 k (omega arith)

other : (b : ℕ) → ltb b 124 ≡ true → b ≢ 124
other b e q = let h = ltb-true b 124 e in omega arith

-- the tree that reading keeps of a text has the formula's nodes
size_said : (f : Formula) (d : ℕ) (e : Levels) (s : List ℕ) → size (said d e f s) ≡ node_count f
unfolding said
size_said (Formula.both f g) d e s = omega (arith, size_said f d e (38 ∷ write d e g (41 ∷ s)), size_said g d e (41 ∷ s))
size_said (Formula.neg f) d e s = omega (arith, size_said f d e s)
size_said (Formula.exists v f) d e s = omega (arith, size_said f (suc d) (binds e v d) (41 ∷ s))
size_said (Formula.has v l) d e s = refl
size_said (Formula.pair p v w) d e s = refl

-- a formula that meets no refusal behind the grammar
judged_fine : (n : ℕ) (f : Formula) → n ≤ max_nodes → length (labels_of f) ≤ max_labels → good_labels? (labels_of f) ≡ true → scoped f no_scope ≡ true
    → shallow max_nested f ≡ true → judged n f ≡ Ok (length (labels_of f))
unfolding judged
judged_fine n f a b c d e = rw (le-ltb max_nodes n a, le-ltb max_labels (length (labels_of f)) b, c, d, e) refl

-- a text that is read and meets no refusal
answer_fine : (text : List ℕ) (room : ℕ) (u : Kept.Tree) (m : ℕ) → max_file_bytes ≤ room → read_text text ≡ some u
    → judged (size u) (formula_for text [] u) ≡ Ok m → typed_answer text room ≡ Written.Length (length (file_of text u))
unfolding typed_answer
answer_fine text room u m h e j = rw (le-ltb room max_file_bytes h, e, j) refl

-- a short text that has a tree is read
short_read : (text : List ℕ) (u : Kept.Tree) → length text ≤ 4096 → tree_of text ≡ some u → read_text text ≡ some u
unfolding read_text
short_read text u h e = rw (le-ltb 4096 (length text) h) e

label_letters : (l : List ℕ) → label_form? l ≡ true → label_length? (length l) && all? letter? l ≡ true
unfolding label_form?
label_letters l e = e

module _ {P : List ℕ → Type 0} (free : (l : List ℕ) → P l → Free 124 l) where
  written_free : (f : Formula) (d : ℕ) (e : Levels) (s : List ℕ) → Labelled P f → Free 124 s → Free 124 (write d e f s)
  unfolding write
  written_free (Formula.both f g) d e s a h = (other 40 refl, written_free f d e _ a.0 (other 38 refl, written_free g d e _ a.1 (other 41 refl, h)))
  written_free (Formula.neg f) d e s a h = (other 33 refl, written_free f d e s a h)
  written_free (Formula.exists v f) d e s a h =
      (other 40 refl, (other 101 refl, (other 120 refl, (other 105 refl, (other 115 refl, (other 116 refl, (other 32 refl, (level_byte d, (other 46 refl, written_free f (suc d) (binds e v d) _ a (other 41 refl, h))))))))))
  written_free (Formula.has v l) d e s a h = (level_byte (e v), (other 40 refl, (other 39 refl, free_more 124 l _ (free l a) (other 39 refl, (other 41 refl, h)))))
  written_free (Formula.pair Formula.before v w) d e s a h = (level_byte (e v), (other 32 refl, (other 60 refl, (other 32 refl, (level_byte (e w), h)))))
  written_free (Formula.pair Formula.overlaps v w) d e s a h = (level_byte (e v), (other 32 refl, (other 111 refl, (other 32 refl, (level_byte (e w), h)))))
  written_free (Formula.pair Formula.includes v w) d e s a h = (level_byte (e v), (other 32 refl, (other 105 refl, (other 32 refl, (level_byte (e w), h)))))
  written_free (Formula.pair Formula.same v w) d e s a h =
      (other 115 refl, (other 97 refl, (other 109 refl, (other 101 refl, (other 40 refl, (level_byte (e v), (other 44 refl, (level_byte (e w), (other 41 refl, h)))))))))

module _ (file : List ℕ) (x : Rule) (taken : Taken file x) where
  abbrev f : Formula
  f = formula_of file x

  abbrev text : List ℕ
  text = rule_text f

  -- what reading keeps of the text
  abbrev kept : Kept.Tree
  kept = said 0 no_levels f []

  -- ── the labels of the file ──
  abbrev all : List (List ℕ)
  all = first_labels file (label_count file)

  -- one of the file's labels, and of the right form
  abbrev OfFile : List ℕ → Type 0
  OfFile l = Among all l × (label_form? l ≡ true)

  -- all labels of the file are labels
  labels_ok : LabelsOk file (label_count file)
  labels_ok = subst (LabelsOk file) taken.labels taken.labels_ok

  -- the formula's labels are the file's
  of_file : Labelled OfFile f
  of_file =
      labelled_below OfFile file x.nodes (λ i h. (first_has file (label_count file) i h, (labels_ok i h).form))
      (suc (x.count - 1)) (x.count - 1) (omega arith) taken.nodes_good

  -- they are at most 16
  all_few : length all ≤ max_labels
  all_few = omega (arith, first_long file (label_count file), taken.labels, taken.labels_few)

  -- each is in capitals and has no quote
  plain : Plain f
  plain = labelled_plain OfFile (λ l a. label_plain l a.1) f of_file

  -- ── the text is read ──
  -- the text is short and inside the grammar
  text_read : read_text text ≡ some kept
  text_read = short_read text kept (omega (arith, text_short file x taken)) (ap tree_of (sym (write_text f)) ∙ read_written f plain 0 no_levels)

  -- at most 64 nodes
  few_nodes : size kept ≤ max_nodes
  few_nodes = omega (arith, size_said f 0 no_levels [], text_light file x taken, taken.nodes_few)

  -- it says the formula by level
  means : formula_for text [] kept ≡ by_level f
  means =
      said_means text f plain 0 max_nested refl taken.depth no_scope no_levels (λ v h. no_both (sym h)) taken.closed []
      ([], sym (write_text f))

  -- what it says is closed and shallow
  closed : scoped (formula_for text [] kept) no_scope ≡ true
  closed = ap (λ (g : Formula). scoped g no_scope) means ∙ by_level_scoped f taken.closed

  depth : shallow max_nested (formula_for text [] kept) ≡ true
  depth = ap (shallow max_nested) means ∙ (by_level-shallow f max_nested ∙ taken.depth)

  -- the formula by level has the same text
  again : rule_text (by_level f) ≡ text
  again = sym (write_text (by_level f)) ∙ (write_again f 0 no_scope no_levels no_levels (λ v h. refl) taken.closed [] ∙ write_text f)

  -- ── what it says ──
  module _ (t : Tree) (codes : Codes text t kept) where
    -- in numbers and in bytes it says one formula
    same_formula : formula_for text [] kept ≡ formula_said t
    same_formula = formula_said_lem text t kept codes few_nodes closed

    says_by_level : formula_said t ≡ by_level f
    says_by_level = sym same_formula ∙ means

    -- each label of the text is the file's
    label_of_file : (l : List ℕ) → LabelIn l t → OfFile l
    label_of_file = said_labelled OfFile t [] (subst (Labelled OfFile) (sym says_by_level) (renamed-labelled OfFile f 0 no_levels of_file))

    -- at most 16 labels: they are different, and all among the file's
    few_labels : length (labels_of (formula_for text [] kept)) ≤ max_labels
    few_labels =
        let d = listed-different codes in
        omega (arith, few-within (labels_of (formula_for text [] kept)) all d.none_twice (λ i h. (label_of_file _ (d.among i h)).0), all_few)

    -- they have the form of labels
    good_labels : good_labels? (labels_of (formula_for text [] kept)) ≡ true
    good_labels =
        either_bool (good_labels? (labels_of (formula_for text [] kept))) (λ e. e)
        (λ e. let b = bad_label codes e in absurd (b.2 ((form_is_label b.0).0 (label_of_file b.0 b.1).1)))

    -- reading answers the length of the formula's file
    no_refusal : (room : ℕ) → max_file_bytes ≤ room → typed_answer text room ≡ Written.Length (length (rule_file (formula_said t)))
    no_refusal room h =
        answer_fine text room kept _ h text_read (judged_fine (size kept) (formula_for text [] kept) few_nodes few_labels good_labels closed depth)
        ∙ ap (λ (s : List ℕ). Written.Length (length s))
        (file-numbered text kept (codes_known text t kept codes) few_nodes ∙ ap rule_file same_formula)

    -- a trace satisfies what the text says exactly if it satisfies the formula
    equal_verdict : (r : Trace) (ρ : Binding) → Satisfies r ρ (formula_said t) ↔ Satisfies r ρ f
    equal_verdict r ρ =
        subst (λ (g : Formula). Satisfies r ρ g ↔ Satisfies r ρ f) (sym says_by_level) (by_level_satisfies r f taken.closed ρ)

    -- all of it
    same_again : Says text t → ReadAgain f
    same_again s = record {
      no_bar = each_byte text (subst (Free 124) (write_text f) (written_free (λ l a. label_bytes_lem l (and_right (label_length? (length l)) (all? letter? l) (label_letters l a.1))) f 0 no_levels [] of_file tt));
      tree = t;
      says = s;
      formula = says_by_level;
      read = no_refusal;
      verdict = equal_verdict;
      again = ap rule_text says_by_level ∙ again;
    }

-- "Reading that text yields a rule of equal verdict on every log, and writing it again yields the same text."
pub read_again : (file : List ℕ) (x : Rule) → Taken file x → ReadAgain (formula_of file x)
read_again file x k =
    let r = reads-says (rule_text (formula_of file x)) (said 0 no_levels (formula_of file x) []) (text_read file x k) in
    same_again file x k r.0 r.2 r.1

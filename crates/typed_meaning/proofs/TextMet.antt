-- The answers of reading a typed rule are the paper's: a text and a buffer are refused with a number just where they meet the refusal
-- of that number; and where none is met, the file that is written is the rule file of what the text says.
use Prim.Native.Nat.{ℕ, ◌<◌, ◌≤◌}
use mathlib.Core.Path.{◌≡◌, refl, sym, ap, subst, ◌∙◌}
use mathlib.Core.Bool.{true, false}
use mathlib.Core.Option.{Option, none, some}
use mathlib.Core.List.{List, []}
use native.Mathlib.Omega.{arith}
use lib.ListN.{length, replicate, length-replicate}
use borrow.Author.Tests.{lt-ltb, le-ltb}
use Rattle.std.specs.Prelude.{Result, Ok, Err}
use Rattle.refusals.specs.Refusal.{number, RefusedWith}
use Rattle.refusals.proofs.Answers.{refused_number, refused_ok}
use Rattle.lists.proofs.Cases.{either_lt, either_bool, never}
use Rattle.rules.specs.Formula.{Formula, no_scope, scoped, shallow}
use Rattle.grammar.specs.Written.{IsLabel}
use Rattle.grammar.specs.Stands.{RuleFile}
use Rattle.grammar.proofs.Stands.{rule_says}
use Rattle.atoms.specs.Tree as Kept
use Rattle.atoms.specs.Tree.{size}
use Rattle.typed.specs.Grammar.{read_text}
use Rattle.typed_formula.specs.Meaning.{formula_for}
use Rattle.typed_formula.proofs.FileSays.{Known}
use Rattle.text_labels.specs.Pieces.{good_labels?}
use Rattle.typed_grammar.specs.Grammar.{Tree, Says}
use Rattle.typed_grammar.specs.Formula.{formula_said}
use Rattle.typed_grammar.specs.File.{labels_of, rule_file}
use Rattle.typed_grammar.specs.Met.{LabelIn, Free, Nested, TooMany, MetText, short_buffer, outside, too_many, wrong_label, unbound, nested}
use Rattle.typed_grammar.proofs.Codes.{Codes}
use Rattle.typed_grammar.proofs.Sound.{reads-says}
use Rattle.typed_grammar.proofs.Complete.{says-reads}
use Rattle.typed_checks.specs.Said.{judged}
use Rattle.refusals.specs.declared.Refusal.{Refusal}
use Rattle.refusals.specs.declared.Refusal.TheVariants.{RuleCount, RuleLabel, RuleUnbound, RuleTooDeep}
use Rattle.typed_file.specs.File.{file_of}
use Rattle.typed_file.specs.Answer.{or_refused, answer_of, bytes_of, typed_answer}
use Rattle.typed_file.proofs.TakenFile.{Passed, rule, file_rule, file-formula}
use Rattle.output.specs.declared.Written.{Written}
use Rattle.typed_meaning.specs.Written.{WritesSaid}
use Rattle.typed_meaning.proofs.Numbering.{file-numbered}
use Rattle.typed_meaning.proofs.LabelsSaid.{listed-different, different-few, good_labels, bad_label}
use Rattle.typed_meaning.proofs.Names.{codes_size, codes_known, scoped_no_free, unscoped_free, shallow_not_nested, deep-nested, formula_said_lem}
use Rattle.typed_meaning.proofs.Judgement.{Few, Judgement, many_nodes, many_labels, wrong, open_name, deep, fine, judgement, judged_nodes, judged_labels, judged-wrong, judged_open, judged-deep}
pub use Rattle.typed_meaning.proofs.SaysOne.{says_one}

-- ── the answer, from its parts ──
-- 20 before all else
answer_short : (text : List ℕ) (room : ℕ) → room < 599 → typed_answer text room ≡ Written.Refused 20
unfolding typed_answer
answer_short text room h = simp (lt-ltb room 599 h)

-- then what is read is answered
answer_long : (text : List ℕ) (room : ℕ) → 599 ≤ room → typed_answer text room ≡ answer_of text (read_text text)
unfolding typed_answer
answer_long text room h = simp (le-ltb room 599 h)

-- the answer is what is decided on it
decided_refused : (d : Result ℕ Refusal) (n c : ℕ) → or_refused d n ≡ Written.Refused c → RefusedWith c d
decided_refused (Ok m) n c e = never (cc)
decided_refused (Err k) n c e = (k, (refl, (let q : number k ≡ c = cc in q)))

answer_decided : (text : List ℕ) (room : ℕ) (u : Kept.Tree) (k : Refusal) → 599 ≤ room → read_text text ≡ some u
    → judged (size u) (formula_for text [] u) ≡ Err k → typed_answer text room ≡ Written.Refused (number k)
answer_decided text room u k h e j =
    answer_long text room h
    ∙ (ap (answer_of text) e ∙ ap (λ (d : Result ℕ Refusal). or_refused d (length (file_of text u))) j)

-- ── a text inside the grammar ──
module _ (text : List ℕ) (t : Tree) (u : Kept.Tree) (codes : Codes text t u) where
  -- a tree is within the limits just where it has not too many of anything
  few_not_many : Few (size u) (formula_for text [] u) → TooMany t → ⊥
  few_not_many h (TooMany.nodes m) = let e = codes_size text t u codes in omega arith
  few_not_many h (TooMany.labels ls d m) = let e = different-few codes ls d in omega arith

  not_many_few : (TooMany t → ⊥) → Few (size u) (formula_for text [] u)
  not_many_few h = record {
    nodes =
        either_lt 64 (size u)
        (λ l. absurd (h (TooMany.nodes (omega (arith, codes_size text t u codes)))))
        (λ l. l);
    labels =
        either_lt 16 (length (labels_of (formula_for text [] u)))
        (λ l. absurd (h (TooMany.labels _ (listed-different codes) l)))
        (λ l. l);
  }

  -- a refusal that is decided is met
  decided_met : (room c : ℕ) → 599 ≤ room → Says text t → (d : Result ℕ Refusal) → Judgement (size u) (formula_for text [] u) d → RefusedWith c d
      → MetText text room c
  decided_met room c h s d (many_nodes m) e = too_many h t s (TooMany.nodes (omega (arith, codes_size text t u codes))) (refused_number d c RuleCount refl e)
  decided_met room c h s d (many_labels m) e = too_many h t s (TooMany.labels _ (listed-different codes) m) (refused_number d c RuleCount refl e)
  decided_met room c h s d (wrong few g) e =
      let (l, i, n) = bad_label codes g in
      wrong_label h t s (few_not_many few) l i n (refused_number d c RuleLabel refl e)
  decided_met room c h s d (open_name few g o) e =
      let (n, i) = unscoped_free text t u codes few.nodes o in
      unbound h t s (few_not_many few) (good_labels codes g) n i (refused_number d c RuleUnbound refl e)
  decided_met room c h s d (deep few g o k) e =
      nested h t s (few_not_many few) (good_labels codes g) (scoped_no_free text t u codes few.nodes o) (deep-nested text t u codes k) (refused_number d c RuleTooDeep refl e)
  decided_met room c h s d (fine p) e = refused_ok d c _ refl e

  -- what the tests answer: on the labels, on the names, on their nesting and on the counts
  labels_good : ((l : List ℕ) → LabelIn l t → IsLabel l) → good_labels? (labels_of (formula_for text [] u)) ≡ true
  labels_good h =
      either_bool (good_labels? (labels_of (formula_for text [] u)))
      (λ g. g)
      (λ g. let (l, i, n) = bad_label codes g in absurd (n (h l i)))

  labels_bad : (l : List ℕ) → LabelIn l t → (IsLabel l → ⊥) → good_labels? (labels_of (formula_for text [] u)) ≡ false
  labels_bad l i n = either_bool (good_labels? (labels_of (formula_for text [] u))) (λ g. absurd (n (good_labels codes g l i))) (λ g. g)

  names_bound : size u ≤ 64 → ((n : List ℕ) → Free n t → ⊥) → scoped (formula_for text [] u) no_scope ≡ true
  names_bound w h =
      either_bool (scoped (formula_for text [] u) no_scope)
      (λ o. o)
      (λ o. let (n, i) = unscoped_free text t u codes w o in absurd (h n i))

  name_free : size u ≤ 64 → (n : List ℕ) → Free n t → scoped (formula_for text [] u) no_scope ≡ false
  name_free w n i = either_bool (scoped (formula_for text [] u) no_scope) (λ o. absurd (scoped_no_free text t u codes w o n i)) (λ o. o)

  names_deep : Nested 5 t → shallow 4 (formula_for text [] u) ≡ false
  names_deep k = either_bool (shallow 4 (formula_for text [] u)) (λ o. absurd (shallow_not_nested text t u codes o k)) (λ o. o)

  many_decided : TooMany t → judged (size u) (formula_for text [] u) ≡ Err RuleCount
  many_decided (TooMany.nodes m) = judged_nodes (size u) (formula_for text [] u) (omega (arith, codes_size text t u codes))
  many_decided (TooMany.labels ls d m) = judged_labels (size u) (formula_for text [] u) (omega (arith, different-few codes ls d))

-- ── refusals ──
-- no text outside the grammar is read
outside_none : (text : List ℕ) → ((t : Tree) → Says text t → ⊥) → read_text text ≡ none
outside_none text h = go (read_text text) refl
  where
    go : (o : Option Kept.Tree) → read_text text ≡ o → o ≡ none
    go none e = refl
    go (some u) e = let (t, s, c) = reads-says text u e in absurd (h t s)

-- what is refused is met
pub refused_met : (text : List ℕ) (room c : ℕ) → typed_answer text room ≡ Written.Refused c → MetText text room c
refused_met text room c e =
    either_lt room 599
    (λ h. let f = sym (answer_short text room h) ∙ e in short_buffer h (cc))
    (λ h. go h (read_text text) refl (sym (answer_long text room h) ∙ e))
  where
    go : 599 ≤ room → (o : Option Kept.Tree) → read_text text ≡ o → answer_of text o ≡ Written.Refused c → MetText text room c
    go h none q f = outside h (λ t s. let (u, p, k) = says-reads text t s in never (cc)) (cc)
    go h (some u) q f =
        let (t, s, k) = reads-says text u q in
        let d = judged (size u) (formula_for text [] u) in
        decided_met text t u k room c h s d (judgement (size u) (formula_for text [] u)) (decided_refused d (length (file_of text u)) c f)

-- what is met is refused
pub met_refused : (text : List ℕ) (room c : ℕ) → MetText text room c → typed_answer text room ≡ Written.Refused c
met_refused text room c (short_buffer h e) = answer_short text room h ∙ ap Written.Refused (sym e)
met_refused text room c (outside h n e) =
    answer_long text room h ∙ (ap (answer_of text) (outside_none text n) ∙ ap Written.Refused (sym e))
met_refused text room c (too_many h t s m e) =
    let (u, r, k) = says-reads text t s in
    answer_decided text room u RuleCount h r (many_decided text t u k m) ∙ ap Written.Refused (sym e)
met_refused text room c (wrong_label h t s m l i n e) =
    let (u, r, k) = says-reads text t s in
    let few = not_many_few text t u k m in
    answer_decided text room u RuleLabel h r
    (judged-wrong (size u) (formula_for text [] u) few (labels_bad text t u k l i n)) ∙ ap Written.Refused (sym e)
met_refused text room c (unbound h t s m g n i e) =
    let (u, r, k) = says-reads text t s in
    let few = not_many_few text t u k m in
    answer_decided text room u RuleUnbound h r
    (judged_open (size u) (formula_for text [] u) few (labels_good text t u k g) (name_free text t u k few.nodes n i)) ∙ ap Written.Refused (sym e)
met_refused text room c (nested h t s m g b d e) =
    let (u, r, k) = says-reads text t s in
    let few = not_many_few text t u k m in
    answer_decided text room u RuleTooDeep h r
    (judged-deep (size u) (formula_for text [] u) few (labels_good text t u k g) (names_bound text t u k few.nodes b) (names_deep text t u k d))
    ∙ ap Written.Refused (sym e)

-- the numbers that are met: 20, 25, 4, 5, 9 and 10
met_numbers : (text : List ℕ) (room c : ℕ) → MetText text room c → (1 ≤ c) × (c ≤ 25)
met_numbers text room c (short_buffer h e) = omega arith
met_numbers text room c (outside h n e) = omega arith
met_numbers text room c (too_many h t s m e) = omega arith
met_numbers text room c (wrong_label h t s m l i n e) = omega arith
met_numbers text room c (unbound h t s m g n i e) = omega arith
met_numbers text room c (nested h t s m g b d e) = omega arith

pub refused_numbers : (text : List ℕ) (room c : ℕ) → typed_answer text room ≡ Written.Refused c → (1 ≤ c) × (c ≤ 25)
refused_numbers text room c e = met_numbers text room c (refused_met text room c e)

-- ── what is written ──
-- the file of a text that nothing refuses is a rule file, and its rule is what was kept of the text
file-stands : (text : List ℕ) (u : Kept.Tree) → Known u → Passed (size u) (formula_for text [] u) → RuleFile (file_of text u) (formula_for text [] u)
unfolding file_of
file-stands text u known p =
    let zeros : List ℕ = replicate 192 0 in
    let full : 192 ≤ length zeros = omega (arith, length-replicate {A = ℕ} 192 0) in
    subst (RuleFile (file_of text u)) (file-formula text zeros full u known p)
    (rule_says (file_of text u) (rule text zeros full u known p) (file_rule text zeros full u known p))

-- it is the file of what the text says
file_said : (text : List ℕ) (t : Tree) (u : Kept.Tree) → Codes text t u → Says text t → Passed (size u) (formula_for text [] u)
    → WritesSaid text (length (file_of text u)) (file_of text u)
file_said text t u k s p =
    let known = codes_known text t u k in
    let e : formula_for text [] u ≡ formula_said t = formula_said_lem text t u k p.nodes p.closed in
    record {
      tree = t;
      says = s;
      bytes = file-numbered text u known p.nodes ∙ ap rule_file e;
      size = refl;
      rule = subst (RuleFile (file_of text u)) e (file-stands text u known p);
    }

-- an answer that is a length has passed every test, and is the file's length
decided-length : (m : ℕ) (f : Formula) (d : Result ℕ Refusal) → Judgement m f d → (n k : ℕ) → or_refused d k ≡ Written.Length n → Passed m f × (k ≡ n)
decided-length m f d (many_nodes x) n k e = never (cc)
decided-length m f d (many_labels x) n k e = never (cc)
decided-length m f d (wrong few g) n k e = never (cc)
decided-length m f d (open_name few g o) n k e = never (cc)
decided-length m f d (deep few g o s) n k e = never (cc)
decided-length m f d (fine p) n k e = (p, cc)

-- what a call that is not refused has read and written
pub written_said : (text : List ℕ) (room n : ℕ) → typed_answer text room ≡ Written.Length n → WritesSaid text n (bytes_of text (read_text text))
written_said text room n e =
    either_lt room 599
    (λ h. let f = sym (answer_short text room h) ∙ e in never (cc))
    (λ h. go (read_text text) refl (sym (answer_long text room h) ∙ e))
  where
    go : (o : Option Kept.Tree) → read_text text ≡ o → answer_of text o ≡ Written.Length n → WritesSaid text n (bytes_of text o)
    go none q f = never (cc)
    go (some u) q f =
        let (t, s, k) = reads-says text u q in
        let g = formula_for text [] u in
        let (p, l) = decided-length (size u) g (judged (size u) g) (judgement (size u) g) n (length (file_of text u)) f in
        subst (λ (i : ℕ). WritesSaid text i (file_of text u)) l (file_said text t u k s p)

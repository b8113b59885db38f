-- The answer of the public call, from those of its parts.
use Prim.Native.Nat.{ℕ, ◌+◌, ◌*◌, ◌<◌, ◌≤◌}
use mathlib.Core.Path.{◌≡◌, refl, sym, ap, ap₂, subst, ◌∙◌}
use mathlib.Core.Bool.{Bool, true, false, cond}
use mathlib.Core.Option.{Option, none, some}
use mathlib.Core.List.{List, [], ◌∷◌, ◌++◌}
use native.Mathlib.Omega.{arith}
use lib.Dec.{ltb}
use lib.ListN.{length, take, drop, replicate, length-replicate}
use lib.Seq.{take_at, length-take-le}
use borrow.Author.Tests.{lt-ltb, le-ltb, ltb-false}
use Rattle.std.specs.Prelude.{Some, None, Result, Ok, Err}
use Rattle.rules.specs.Formula.{Formula, no_scope, scoped, shallow}
use Rattle.output.specs.Output.{Appends}
use Rattle.output.proofs.Output.{appends_front, appends_same}
use Rattle.signs.specs.Signs.{Got, read, outside, skip}
use Rattle.atoms.specs.Tree.{Tree, size}
use Rattle.atoms.specs.Emit.{emit}
use Rattle.typed.specs.Grammar.{read_or, wholly, whole, tree_of, read_text}
use Rattle.typed_formula.specs.Meaning.{formula_for}
use Rattle.typed.specs.Parsing.{ParseSays, Parses}
use Rattle.typed_formula.proofs.FileSays.{Known}
use Rattle.typed_formula.proofs.Relations.{Every, or_known}
use Rattle.text_labels.specs.Pieces.{texts, good_labels?}
use Rattle.typed_checks.specs.Tests.{places_in, decided, Decides}
use Rattle.typed_grammar.specs.File.{labels_of}
use Rattle.typed_checks.specs.Said.{judged}
use Rattle.refusals.specs.Refusal.{number}
use Rattle.refusals.specs.declared.Refusal.{Refusal}
use Rattle.refusals.specs.declared.Refusal.TheVariants.{RuleCount, RuleLabel, RuleUnbound, RuleTooDeep}
use Rattle.typed_checks.proofs.Judged.{table_labels, decided-judged}
use Rattle.typed_file.specs.File.{file_from, file_of, Fit}
use Rattle.typed_file.specs.Answer.{or_refused, answer_of, bytes_of, typed_answer, ReadsText}
use Rattle.output.specs.declared.Written.{Written}
use Rattle.typed_file.proofs.TakenFile.{Passed, rule, file-taken, file-formula, file_fits}

-- ── the tree of a text ──
wholly_known : (u t : Tree) (s : List ℕ) → Known u → wholly u s ≡ some t → Known t
wholly_known u t [] k e = let q : u ≡ t = cc in subst Known q k
wholly_known u t (b ∷ s) k e = absurd (let z : ◌≡◌ {A = ℕ} 0 1 = cc in omega arith)

whole_known : (g : Got Tree) (t : Tree) → Every Known g → whole g ≡ some t → Known t
whole_known (read u s) t k e = wholly_known u t (skip s) k e
whole_known outside t k e = absurd (let z : ◌≡◌ {A = ℕ} 0 1 = cc in omega arith)

text_known : (text : List ℕ) (t : Tree) → read_text text ≡ some t → Known t
unfolding read_text tree_of
text_known text t e = go (ltb 4096 (length text)) e
  where
    go : (b : Bool) → cond b none (whole (read_or (4 * length text + 4) text)) ≡ some t → Known t
    go true q = absurd (let z : ◌≡◌ {A = ℕ} 0 1 = cc in omega arith)
    go false q = whole_known (read_or (4 * length text + 4) text) t (or_known (4 * length text + 4) text) q

-- ── what the parser says ──
no_tree : (o : Option Tree) (b a : List ℕ) → ParseSays o b None a → o ≡ none
no_tree none b a x = refl
no_tree (some t) b a x = absurd x

pub record HasTree (text b : List ℕ) (n : ℕ) (a : List ℕ) : Type 0 where
  pub tree : Tree
  pub reads : read_text text ≡ some tree
  pub count : n ≡ size tree
  pub table : a ≡ emit b 0 [] tree

has-tree : (text b : List ℕ) (n : ℕ) (a : List ℕ) (o : Option Tree) → read_text text ≡ o → ParseSays o b (Some n) a → HasTree text b n a
has-tree text b n a none e x = absurd x
has-tree text b n a (some t) e x = record { tree = t; reads = e; count = x.0; table = x.1 }

-- ── what the decision says ──
passed : (n : ℕ) (f : Formula) (m : ℕ) → judged n f ≡ Ok m → Passed n f
unfolding judged
passed n f m e = go (ltb 64 n) (ltb 16 (length (labels_of f))) (good_labels? (labels_of f)) (scoped f no_scope) (shallow 4 f) refl refl refl refl refl e
  where
    refuse : {X : Type 0} (k : Refusal) → Err k ≡ Ok m → X
    refuse k q = absurd (let z : ◌≡◌ {A = ℕ} 0 1 = cc in omega arith)

    go : (a b c d g : Bool) → ltb 64 n ≡ a → ltb 16 (length (labels_of f)) ≡ b → good_labels? (labels_of f) ≡ c → scoped f no_scope ≡ d → shallow 4 f ≡ g
        → cond a (Err RuleCount) (cond b (Err RuleCount) (cond c (cond d (cond g (Ok (length (labels_of f))) (Err RuleTooDeep)) (Err RuleUnbound)) (Err RuleLabel))) ≡ Ok m → Passed n f
    go true b c d g ea eb ec ed eg q = refuse RuleCount q
    go false true c d g ea eb ec ed eg q = refuse RuleCount q
    go false false false d g ea eb ec ed eg q = refuse RuleLabel q
    go false false true false g ea eb ec ed eg q = refuse RuleUnbound q
    go false false true true false ea eb ec ed eg q = refuse RuleTooDeep q
    go false false true true true ea eb ec ed eg q = record { nodes = ltb-false 64 n ea; labels = ltb-false 16 (length (labels_of f)) eb; form = ec; closed = ed; nested = eg }

-- ── the answers ──
module _ (text before : List ℕ) where
  no_file : (k : ℕ) → Written.Refused k ≡ typed_answer text (length before) → ReadsText text before (Written.Refused k) before
  no_file k e = record { answer = e; left = refl; written = λ n q. absurd (let z : ◌≡◌ {A = ℕ} 0 1 = cc in omega arith); few = λ n q. absurd (let z : ◌≡◌ {A = ℕ} 0 1 = cc in omega arith) }

  pub answer_room : length before < 599 → ReadsText text before (Written.Refused 20) before
  unfolding typed_answer
  answer_room h = no_file 20 (sym (simp (lt-ltb (length before) 599 h)))

  module _ (h : 599 ≤ length before) where
    asked : (x : Written) (o : Option Tree) → read_text text ≡ o → x ≡ answer_of text o → x ≡ typed_answer text (length before)
    unfolding typed_answer
    asked x o e q = q ∙ (ap (answer_of text) (sym e) ∙ sym (simp (le-ltb (length before) 599 h)))

    pub answer_outside : (a : List ℕ) → Parses text (replicate 192 0) None a → ReadsText text before (Written.Refused 25) before
    answer_outside a x =
        no_file 25 (asked (Written.Refused 25) none (no_tree (read_text text) (replicate 192 0) a x.says) refl)

    module _ (n : ℕ) (a : List ℕ) (x : Parses text (replicate 192 0) (Some n) a) where
      there : HasTree text (replicate 192 0) n a
      there = has-tree text (replicate 192 0) n a (read_text text) refl x.says

      known : Known there.tree
      known = text_known text there.tree there.reads

      full : 192 ≤ length {A = ℕ} (replicate 192 0)
      full = omega (arith, length-replicate {A = ℕ} 192 0)

      module _ (p₀ p₁ : List ℕ) (d : Result ℕ Refusal) (y : Decides text a n p₀ p₁ d) where
        judged_is : d ≡ judged (size there.tree) (formula_for text [] there.tree)
        judged_is = y.answer ∙ (ap₂ (decided text) there.table there.count ∙ decided-judged text (replicate 192 0) there.tree known full)

        pub answer_refused : (k : Refusal) → d ≡ Err k → (w : ℕ) → w ≡ number k → ReadsText text before (Written.Refused w) before
        answer_refused k q w v =
            let t = there.tree in
            let g : judged (size t) (formula_for text [] t) ≡ Err k = sym judged_is ∙ q in
            no_file w (asked (Written.Refused w) (some t) there.reads (ap Written.Refused v ∙ sym (ap (λ (z : Result ℕ Refusal). or_refused z (length (file_of text t))) g)))

        module _ (m : ℕ) (q : d ≡ Ok m) where
          pass : Passed (size there.tree) (formula_for text [] there.tree)
          pass = passed (size there.tree) (formula_for text [] there.tree) m (sym judged_is ∙ q)

          labels_are : texts text (take m p₁) ≡ labels_of (formula_for text [] there.tree)
          labels_are =
              ap (texts text) ((y.places m q).0 ∙ ap₂ (places_in text) there.table there.count)
              ∙ table_labels text (replicate 192 0) there.tree known full pass.nodes

          pub places_inside : m ≤ length p₁
          places_inside = (y.places m q).2

          pub places_count : m ≡ length (take m p₁)
          places_count = sym (length-take-le m p₁ (y.places m q).2)

          pub answer_fits : Fit text a n (take m p₁)
          answer_fits =
              subst (λ (z : List ℕ). Fit text z n (take m p₁)) (sym there.table)
              (subst (λ (z : ℕ). Fit text (emit (replicate 192 0) 0 [] there.tree) z (take m p₁)) (sym there.count)
              (file_fits text (replicate 192 0) full there.tree known pass (take m p₁) labels_are))

          pub answer_written : (after : List ℕ) (z : ℕ) → Appends before 0 (file_from text a n (texts text (take m p₁))) after z → ReadsText text before (Written.Length z) after
          unfolding file_of
          answer_written after z w =
              let t = there.tree in
              let file = file_of text t in
              let same-file : file_from text a n (texts text (take m p₁)) ≡ file =
              ap₂ (λ (i : List ℕ) (j : ℕ). file_from text i j (texts text (take m p₁))) there.table there.count ∙ ap (file_from text (emit (replicate 192 0) 0 [] t) (size t)) labels_are in
              let v : Appends before 0 file after z = appends_same before after _ _ 0 z same-file w in
              let long : length file ≡ z = omega (arith, v.end) in
              let left : after ≡ file ++ drop z before = appends_front before after file z v ∙ ap (λ (i : ℕ). file ++ drop i before) long in
              let g : judged (size t) (formula_for text [] t) ≡ Ok m = sym judged_is ∙ q in
              record {
                answer = asked (Written.Length z) (some t) there.reads (ap Written.Length (sym long) ∙ sym (ap (λ (i : Result ℕ Refusal). or_refused i (length file)) g));
                left = left ∙ ap (λ (o : Option Tree). bytes_of text o ++ drop z before) (sym there.reads);
                written = λ i u. (let zi : z ≡ i = cc in record {
                  tree = t;
                  reads = there.reads;
                  bytes = ap₂ take (sym zi) left ∙ take_at file (drop z before) z long;
                  rule = rule text (replicate 192 0) full t known pass;
                  taken = file-taken text (replicate 192 0) full t known pass;
                  formula = file-formula text (replicate 192 0) full t known pass;
                });
                few = λ i u. (let zi : z ≡ i = cc in omega (arith, long, (file-taken text (replicate 192 0) full t known pass).size));
              }

-- The file of a text that nothing refuses is taken, and its formula is what the text says.
use Prim.Native.Nat.{ℕ, zero, suc, ◌+◌, ◌-◌, ◌*◌, ◌<◌, ◌≤◌}
use mathlib.Core.Path.{◌≡◌, refl, sym, ap, ap₂, subst, ◌∙◌}
use mathlib.Core.Bool.{true}
use mathlib.Core.List.{List, [], ◌∷◌, ◌++◌}
use native.Mathlib.Omega.{arith}
use lib.ListN.{length, get_or}
use borrow.Author.Tests.{eq-eqb, ne_eqb}
use Rattle.lists.proofs.Cases.{no_both}
use Rattle.rules.specs.Formula.{Formula, no_scope, scoped, shallow}
use Rattle.rules.specs.Parts.{byte, label_count, read_node_count}
use Rattle.rules.specs.Labels.{label_start, read_labels}
use Rattle.rules.specs.Labels as Labels
use Rattle.rules.specs.Table.{op_of, in_range, node_at, fields_ok, read_nodes, NodeOk, Good}
use Rattle.rules.specs.Checks.{named_once, root_formula, whole_table}
use Rattle.rules.specs.Rules.{rule_of, formula_of, Taken}
use Rattle.rules.specs.declared.Rule.{Rule}
use Rattle.std.specs.Prelude.{Ok}
use Rattle.rules.proofs.Parts.{head_count, count_ok}
use Rattle.rules.proofs.Rules.{rule_whole, rule_taken}
use Rattle.atoms.specs.Tree.{Tree, size}
use Rattle.atoms.specs.Emit.{emit}
use Rattle.typed_formula.specs.Meaning.{label_text, formula_for}
use Rattle.typed_formula.proofs.Stands.{emit-stands, emit-long, size_some}
use Rattle.typed_formula.proofs.FileSays.{Laid, Known}
use Rattle.typed_formula.proofs.Reported.{Reported, reported}
use Rattle.typed_grammar.specs.File.{place_in}
use Rattle.text_labels.specs.Pieces.{texts, good_labels?}
use Rattle.typed_grammar.specs.File.{labels_of}
use Rattle.typed_checks.proofs.Numbers.{number_at_lem, texts-long}
use Rattle.grammar.specs.Layout.{front, labels_part}
use Rattle.typed_file.specs.File.{second, file_from, Fit}
use Rattle.typed_file.proofs.ReadBack.{good_form, labels_all, nodes_all, labels_fine, label_is, head_read, count_labels, place_last, count_nodes, file-long, node_kind, node_first, node_second}
use Rattle.typed_file.proofs.Fine.{all_in, labels_distinct, Fine, fine_tree}

-- what is known of a text that nothing refuses
pub record Passed (n : ℕ) (f : Formula) : Type 0 where
  pub nodes : n ≤ 64
  pub labels : length (labels_of f) ≤ 16
  pub form : good_labels? (labels_of f) ≡ true
  pub closed : scoped f no_scope ≡ true
  pub nested : shallow 4 f ≡ true

module _ (text tb₀ : List ℕ) (room : 192 ≤ length tb₀) (t : Tree) (known : Known t) (ok : Passed (size t) (formula_for text [] t)) where
  abbrev tb : List ℕ
  tb = emit tb₀ 0 [] t

  abbrev n : ℕ
  n = size t

  abbrev f : Formula
  f = formula_for text [] t

  abbrev ls : List (List ℕ)
  ls = labels_of f

  abbrev file : List ℕ
  file = file_from text tb n ls

  abbrev p : ℕ
  p = length (front (length ls) ++ labels_part ls)

  pub fine : (i : ℕ) → i < n → Fine ls text tb i
  fine i h =
      fine_tree ls text tb t known [] 0 4 no_scope refl (λ v e. no_both (sym e)) ok.nested ok.closed (all_in f [])
      (emit-stands t tb₀ 0 [] (omega (arith, ok.nodes)) room) i (omega arith) (omega arith)

  second_label : (i : ℕ) → get_or tb (3 * i) 0 ≡ 4 → second ls text (get_or tb (3 * i) 0) (get_or tb (3 * i + 2) 0) ≡ place_in ls (label_text text (get_or tb (3 * i + 2) 0))
  second_label i e = rw (eq-eqb (get_or tb (3 * i) 0) 4 e)

  second_plain : (i : ℕ) → (get_or tb (3 * i) 0 ≡ 4 → ⊥) → second ls text (get_or tb (3 * i) 0) (get_or tb (3 * i + 2) 0) ≡ get_or tb (3 * i + 2) 0
  second_plain i e = rw (ne_eqb (get_or tb (3 * i) 0) 4 e)

  laid : Laid text tb file (p + 1) n
  laid = record {
    kinds = λ i h. node_kind text tb n ls i h;
    firsts = λ i h. node_first text tb n ls i h;
    seconds = λ i h e. node_second text tb n ls i h ∙ second_plain i e;
    labels = λ i h e.
        (let a = (fine i h).label e in
        let x = label_text text (get_or tb (3 * i + 2) 0) in
        ap (Labels.label_bytes file) (node_second text tb n ls i h ∙ second_label i e) ∙ (label_is text tb n ls ok.form (place_in ls x) a ∙ number_at_lem ls x a));
  }

  node_ok : (i : ℕ) → i < n → NodeOk file (p + 1) i
  node_ok i h = record {
    room = omega (arith, file-long text tb n ls);
    fields =
        ap (λ (l : ℕ). fields_ok l i (node_at file (p + 1) i)) (count_labels text tb n ls)
        ∙ (ap (λ (k : ℕ). in_range (length ls) i (op_of k) (node_at file (p + 1) i).a (node_at file (p + 1) i).b) (node_kind text tb n ls i h)
        ∙ (ap₂ (λ (a : ℕ) (b : ℕ). in_range (length ls) i (op_of (get_or tb (3 * i) 0)) a b) (node_first text tb n ls i h) (node_second text tb n ls i h)
        ∙ (fine i h).range));
  }

  good : Good file (p + 1) (n - 1)
  good i h = node_ok i (omega (arith, size_some t))

  report : Reported text t file (p + 1)
  report = reported text tb₀ file (p + 1) t known ok.nodes room laid good

  abbrev pub rule : Rule
  rule = record { labels = label_count file; nodes = p + 1; count = n }

  count_is : byte file p ≡ n
  count_is = ap (byte file) (sym (place_last text tb n ls)) ∙ count_nodes text tb n ls

  whole : Ok rule ≡ whole_table file (p + 1) n
  unfolding whole_table
  whole =
      let a : named_once file (p + 1) n ≡ true = report.one_tree in
      let b : scoped (root_formula file (p + 1) n) no_scope ≡ true = ap (λ (g : Formula). scoped g no_scope) report.formula ∙ ok.closed in
      let d : shallow 4 (root_formula file (p + 1) n) ≡ true = ap (shallow 4) report.formula ∙ ok.nested in
      sym (rw (a, b, d) refl)

  pub file_rule : rule_of file ≡ Ok rule
  file_rule =
      let s = size_some t in
      let hr = head_read text tb n ls ok.labels in
      let labels_read : Ok p ≡ read_labels file (label_count file) =
      sym (ap (read_labels file) (count_labels text tb n ls) ∙ (labels_all file (length ls) (labels_fine text tb n ls ok.form (labels_distinct f)) ∙ ap Ok (place_last text tb n ls))) in
      let count_read : Ok (p + 1) ≡ read_node_count file p = count_ok file p (omega (arith, file-long text tb n ls)) (omega (arith, count_is)) (omega (arith, count_is, ok.nodes)) in
      let nodes_read : Ok (p + 1 + 3 * n) ≡ read_nodes file (p + 1) (byte file p) = sym (ap (read_nodes file (p + 1)) count_is ∙ nodes_all file (p + 1) n node_ok) in
      sym (rule_whole file (Ok 6) (head_count file (Ok 3) (Ok 5) 3 5 (Ok 6) (sym hr.0) refl (sym hr.1) refl (sym hr.2))
      6 refl (Ok p) labels_read p refl (Ok (p + 1)) count_read (p + 1) refl (Ok (p + 1 + 3 * n)) nodes_read (p + 1 + 3 * n) refl
      (Ok rule) (sym (file-long text tb n ls)) (whole ∙ ap (whole_table file (p + 1)) (sym count_is)))

  pub file-taken : Taken file rule
  file-taken = rule_taken file rule file_rule

  pub file-formula : formula_of file rule ≡ f
  file-formula = report.formula

  -- ── what the writer asks ──
  pub file_fits : (places : List ℕ) → texts text places ≡ ls → Fit text tb n places
  file_fits places e =
      let l = texts-long text places in
      let m : length places ≡ length ls = sym l ∙ ap length e in
      record {
        nodes = ok.nodes;
        labels = omega (arith, ok.labels);
        whole = omega (arith, long);
        short = λ i h. subst (λ (x : List ℕ). length x ≤ 24) (ap (λ (y : List (List ℕ)). get_or y i []) (sym e) ∙ text_at places i h) (good_form ls i ok.form (omega arith)).high;
        kinds = λ i h. omega (arith, (fine i h).kind);
        firsts = λ i h. omega (arith, (fine i h).first, ok.nodes);
        seconds = λ i h x. omega (arith, (fine i h).other x, ok.nodes);
      }
    where
      long : 192 ≤ length tb
      long = omega (arith, emit-long t tb₀ 0 [])

      text_at : (ps : List ℕ) (i : ℕ) → i < length ps → get_or (texts text ps) i [] ≡ label_text text (get_or ps i 0)
      text_at [] i h = absurd (omega arith)
      text_at (x ∷ ps) zero h = refl
      text_at (x ∷ ps) (suc i) h = text_at ps i (omega arith)

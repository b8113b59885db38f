-- In the rule file that a typed rule is read into, labels stand in capitals: no byte of a label there is a small letter.
use Prim.Native.Nat.{ℕ, ◌+◌, ◌-◌, ◌<◌}
use mathlib.Core.Path.{◌≡◌, sym, ap, subst, ◌∙◌}
use mathlib.Core.Bool.{Bool, true, false, cond}
use mathlib.Core.Option.{some}
use mathlib.Core.List.{List, []}
use native.Mathlib.Omega.{arith}
use lib.Dec.{ltb}
use lib.ListN.{length, get_or, take, replicate}
use Rattle.std.specs.Prelude.{Result}
use Rattle.lists.proofs.Cases.{never}
use Rattle.rules.specs.Limits.{max_file_bytes}
use Rattle.rules.specs.Formula.{Formula}
use Rattle.rules.specs.Parts.{byte}
use Rattle.rules.specs.Labels.{label_start}
use Rattle.grammar.specs.Written.{LabelByte}
use Rattle.grammar.proofs.Written.{form_is_label}
use Rattle.letter_case.specs.Recased.{InLabel}
use Rattle.atoms.specs.Tree.{Tree, size}
use Rattle.atoms.specs.Emit.{emit}
use Rattle.typed.specs.Grammar.{read_text}
use Rattle.typed_formula.specs.Meaning.{formula_for}
use Rattle.typed_grammar.specs.File.{labels_of}
use Rattle.text_labels.specs.Pieces.{good_labels?}
use Rattle.typed_checks.specs.Said.{judged}
use Rattle.refusals.specs.declared.Refusal.{Refusal}
use Rattle.typed_file.specs.File.{file_from, file_of}
use Rattle.typed_file.specs.Answer.{or_refused, answer_of, typed_answer}
use Rattle.typed_file.proofs.ReadBack.{good_form, count_labels, label_long, label_byte}
use Rattle.typed_meaning.proofs.Judgement.{Judgement, many_nodes, many_labels, wrong, open_name, deep, fine, judgement}
use Rattle.output.specs.declared.Written.{Written}
use Rattle.output.specs.declared.Written.TheVariants.{Length, Refused}
use Rattle.claims.specs.Typed.{ReadCall}

-- ── the labels of a text that nothing refuses ──
-- an answer that is a length is not 20
not_short : (b : Bool) (x : Written) (n : ℕ) → cond b (Refused 20) x ≡ Length n → x ≡ Length n
not_short true x n e = never (cc)
not_short false x n e = e

answer_read : (text : List ℕ) (room n : ℕ) → typed_answer text room ≡ Length n → answer_of text (read_text text) ≡ Length n
unfolding typed_answer
answer_read text room n e = not_short (ltb room max_file_bytes) (answer_of text (read_text text)) n e

-- nor 5: each label has the right form
decided-good : (m : ℕ) (f : Formula) (d : Result ℕ Refusal) → Judgement m f d → (n k : ℕ) → or_refused d k ≡ Length n → good_labels? (labels_of f) ≡ true
decided-good m f d (many_nodes x) n k e = never (cc)
decided-good m f d (many_labels x) n k e = never (cc)
decided-good m f d (wrong few g) n k e = never (cc)
decided-good m f d (open_name few g o) n k e = never (cc)
decided-good m f d (deep few g o s) n k e = never (cc)
decided-good m f d (fine p) n k e = p.form

labels_good : (text : List ℕ) (room n : ℕ) (t : Tree) → typed_answer text room ≡ Length n → read_text text ≡ some t → good_labels? (labels_of (formula_for text [] t)) ≡ true
labels_good text room n t e r =
    let f = formula_for text [] t in
    decided-good (size t) f (judged (size t) f) (judgement (size t) f) n (length (file_of text t))
    (ap (answer_of text) (sym r) ∙ answer_read text room n e)

-- ── the file of such a text ──
-- a byte of a label in the file is that byte of the label
from-capitals : (text tb : List ℕ) (m : ℕ) (ls : List (List ℕ)) → good_labels? ls ≡ true
    → (p : ℕ) → InLabel (file_from text tb m ls) p → LabelByte (get_or (file_from text tb m ls) p 0)
from-capitals text tb m ls g p w =
    let file = file_from text tb m ls in
    let i = w.label in
    let s = label_start file i in
    let l = get_or ls i [] in
    let h : i < length ls = omega (arith, w.listed, count_labels text tb m ls) in
    let j = p - (s + 1) in
    let k : j < length l = omega (arith, w.from, w.to, label_long text tb m ls i h) in
    let e : p ≡ s + 1 + j = omega (arith, w.from) in
    subst LabelByte (sym (ap (byte file) e ∙ label_byte text tb m ls i j h k))
    (((form_is_label l).0 (good_form ls i g h).form).bytes j k)

file_of_capitals : (text : List ℕ) (t : Tree) → good_labels? (labels_of (formula_for text [] t)) ≡ true
    → (p : ℕ) → InLabel (file_of text t) p → LabelByte (get_or (file_of text t) p 0)
unfolding file_of
file_of_capitals text t = from-capitals text (emit (replicate 192 0) 0 [] t) (size t) (labels_of (formula_for text [] t))

-- what a call that is not refused has written
pub file-capitals : (k : ReadCall) (n : ℕ) → k.answer ≡ Length n → (p : ℕ) → InLabel (take n k.rule') p → LabelByte (get_or (take n k.rule') p 0)
file-capitals k n e =
    let w = k.reads.written n e in
    let g = labels_good k.text (length k.rule) n w.tree (sym k.reads.answer ∙ e) w.reads in
    subst (λ (file : List ℕ). (p : ℕ) → InLabel file p → LabelByte (get_or file p 0)) (sym w.bytes) (file_of_capitals k.text w.tree g)

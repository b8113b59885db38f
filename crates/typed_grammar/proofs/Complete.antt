-- A text that says a tree is read, and what is kept of it is that tree: reading refuses no text of the grammar.
use Prim.Native.Nat.{ℕ, ◌+◌, ◌*◌}
use mathlib.Core.Path.{◌≡◌, refl}
use mathlib.Core.Bool.{true}
use mathlib.Core.Option.{some}
use mathlib.Core.List.{List, []}
use native.Mathlib.Omega.{arith}
use lib.ListN.{length}
use Rattle.atoms.specs.Tree as Kept
use Rattle.typed.specs.Grammar.{read_text}
use Rattle.typed_grammar.specs.Words.{Sign, Signs}
use Rattle.typed_grammar.specs.Grammar.{Tree, Part, rule, side, operand, names, Begins, one_side, or, one_operand, conjunction, negation, brackets, existence, last_name, next_name, has_label, relation, same_label, Says}
use Rattle.typed_grammar.proofs.Codes.{Codes}
use Rattle.typed_grammar.proofs.CompleteSigns.{EndsIn, ends_on, after_on, mark_found, name_found, other?, end_found_lem}
use Rattle.typed_grammar.proofs.CompleteSteps.{text_read}
use Rattle.typed_grammar.proofs.CompleteParts.{OperandRead, NamesRead, SideRead, RuleRead, stops, negation_read, brackets_read, existence_read, has_read, same_read, relation_read, last_read, next_read, operand_first, operand_next, side_whole, side_first, side_next, rule_whole}

-- What is read where a part begins. Behind a rule no `&` (38) may stand, and behind names neither `&` nor `|` (124): these would go on
-- with what was read.
abbrev Reads : List ℕ → Part → List Sign → Tree → List Sign → Type 0
Reads text rule gs t hs = other? 38 hs ≡ true → (s : List ℕ) → Signs s gs → EndsIn text s → RuleRead text t hs s
Reads text side gs t hs = (s : List ℕ) → Signs s gs → EndsIn text s → SideRead text t hs s
Reads text operand gs t hs = (s : List ℕ) → Signs s gs → EndsIn text s → OperandRead text t hs s
Reads text names gs t hs = other? 38 hs ≡ true → other? 124 hs ≡ true → (s : List ℕ) → Signs s gs → EndsIn text s → NamesRead text t hs s

-- every part is read, by induction on how the grammar takes it from the signs
reads : (text : List ℕ) {p : Part} {gs : List Sign} {t : Tree} {hs : List Sign} → Begins p gs t hs → Reads text p gs t hs
reads text (one_side b) = λ q s r e. side_first text s (side_whole text s (reads text b s r e) q)
reads text (or b c) = λ q s r e.
    let a = reads text b refl s r e in
    let m = mark_found a.after.row in
    let x = after_on a.after m.after in
    side_next text s a m (side_whole text m.rest (reads text c m.rest x.row (ends_on e x.ends)) q)
reads text (one_operand b) = λ s r e. operand_first text s (reads text b s r e)
reads text (conjunction b c) = λ s r e.
    let a = reads text b s r e in
    let m = mark_found a.after.row in
    let x = after_on a.after m.after in
    operand_next text s a m (reads text c m.rest x.row (ends_on e x.ends))
reads text (negation b) = λ s r e.
    let m = mark_found r in
    negation_read text s m (reads text b m.rest m.after.row (ends_on e m.after.ends))
reads text (brackets b) = λ s r e.
    let m = mark_found r in
    let o = rule_whole text m.rest (reads text b refl m.rest m.after.row (ends_on e m.after.ends)) refl in
    brackets_read text s r m o (mark_found o.after.row)
reads text (existence {rest = hs} b h) = λ s r e.
    let m = mark_found r in
    let q = stops hs h in
    existence_read text s r m (reads text b q.0 q.1 m.rest m.after.row (ends_on e m.after.ends))
reads text (last_name {n = n} b) = λ p q s r e.
    let a = name_found r in
    let m = mark_found a.after.row in
    let x = after_on a.after m.after in
    last_read text s n a m (rule_whole text m.rest (reads text b p m.rest x.row (ends_on e x.ends)) q)
reads text (next_name {n = n} b) = λ p q s r e.
    let a = name_found r in
    let m = mark_found a.after.row in
    let x = after_on a.after m.after in
    next_read text s n a m (reads text b p q m.rest x.row (ends_on e x.ends))
reads text (has_label {n = n} {l = l}) = λ s r e. has_read text s n l e r
reads text (relation {n = n} {o = o} is) = λ s r e. relation_read text s n o is r
reads text (same_label {n = n} {o = o}) = λ s r e. same_read text s n o r

-- a text that says a tree is read, and what is kept of it is that tree
pub says-reads : (text : List ℕ) (t : Tree) → Says text t → (u : Kept.Tree) × (read_text text ≡ some u) × Codes text t u
says-reads text t h =
    let o = rule_whole text text (reads text h.reads refl text h.row ([], refl)) refl in
    (o.tree, text_read text o.rest o.tree h.short (o.reads (4 * length text + 4) (omega arith)) (end_found_lem o.after.row), o.codes)

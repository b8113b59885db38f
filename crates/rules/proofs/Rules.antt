-- A rule file as a whole: the answer from those of the parts, what holds of a file that is taken, and which numbers refuse.
use Prim.Native.Nat.{ℕ, zero, suc, ◌+◌, ◌*◌, ◌-◌, ◌<◌, ◌≤◌}
use mathlib.Core.Path.{◌≡◌, refl, sym, subst, ap, ◌∙◌}
use mathlib.Core.Bool.{Bool, true, false, cond}
use mathlib.Core.List.{List}
use native.Mathlib.Omega.{arith}
use lib.Dec.{eqb, leb}
use lib.ListN.{length}
use borrow.Author.Tests.{eqb-true, leb-true}
use Rattle.rules.specs.Limits.{max_labels, max_nested}
use Rattle.rules.specs.Formula.{no_scope, scoped, shallow}
use Rattle.rules.specs.Parts.{byte, part, and_then, label_count, read_mark, read_version, read_label_count, read_head, read_node_count, nothing_follows}
use Rattle.rules.specs.Labels.{read_label, read_labels}
use Rattle.rules.specs.Table.{read_node, read_nodes, Good}
use Rattle.rules.specs.Checks.{named_once, root_formula, unless, whole_table}
use Rattle.rules.specs.Rules.{rule_of, Taken, ReadsRule}
use Rattle.std.specs.Prelude.{Result, Ok, Err}
use Rattle.refusals.specs.Refusal.{number}
use Rattle.refusals.specs.declared.Refusal.{Refusal}
use Rattle.refusals.specs.declared.Refusal.TheVariants.{RuleEndsEarly, RuleMark, RuleVersion, RuleCount, RuleLabel, RuleNode, RuleTooLong, RuleNotATree, RuleUnbound, RuleTooDeep}
use Rattle.rules.specs.declared.Rule.{Rule}
use Rattle.rules.proofs.Parts.{ok_inj, not_ok, part_read, then-stop, then_at, then_read, then-then, head_read, count_read, more-follows, none_follows}
use Rattle.rules.proofs.Labels.{labels_read, place_low}
use Rattle.rules.proofs.Nodes.{nodes_read}

-- ── the answer, from those of the parts ──
-- what follows the head
abbrev pub rest : List ℕ → Result Rule Refusal
rest file =
    and_then (read_labels file (label_count file)) λ p.
    and_then (read_node_count file p) λ q.
    and_then (read_nodes file q (byte file p)) λ e.
    and_then (nothing_follows file e) λ _.
    whole_table file q (byte file p)

head_first : (file : List ℕ) → and_then (read_head file) (λ _. rest file) ≡ rule_of file
unfolding read_head rule_of
head_first file =
    then-then (read_mark file) (λ _. and_then (read_version file) (λ _. read_label_count file)) (λ _. rest file)
    ∙ ap (λ (y : Result Rule Refusal). and_then (read_mark file) (λ _. y)) (then-then (read_version file) (λ _. read_label_count file) (λ _. rest file))

module _ (file : List ℕ) (h : Result ℕ Refusal) (head : h ≡ read_head file) where
  pub rule_head : (n : Refusal) → h ≡ Err n → Err n ≡ rule_of file
  rule_head n e = then-stop _ n _ (sym head ∙ e) ∙ head_first file

  pub head_room : (a : ℕ) → h ≡ Ok a → 6 ≤ length file
  head_room a e = (head_read file a (sym head ∙ e)).0

  module _ (a : ℕ) (hat : h ≡ Ok a) (l : Result ℕ Refusal) (labels : l ≡ read_labels file (label_count file)) where
    after_head : (y : Result Rule Refusal) → y ≡ rest file → y ≡ rule_of file
    after_head y e = then_at _ a (λ _. rest file) y (sym head ∙ hat) e ∙ head_first file

    pub rule_labels : (n : Refusal) → l ≡ Err n → Err n ≡ rule_of file
    rule_labels n e = after_head _ (then-stop _ n _ (sym labels ∙ e))

    module _ (p : ℕ) (lat : l ≡ Ok p) (c : Result ℕ Refusal) (count : c ≡ read_node_count file p) where
      pub rule_count : (n : Refusal) → c ≡ Err n → Err n ≡ rule_of file
      rule_count n e = after_head _ (then_at _ p _ _ (sym labels ∙ lat) (then-stop _ n _ (sym count ∙ e)))

      module _ (q : ℕ) (cat : c ≡ Ok q) (t : Result ℕ Refusal) (nodes : t ≡ read_nodes file q (byte file p)) where
        after_count : (y : Result Rule Refusal) → y ≡ and_then (read_nodes file q (byte file p)) (λ e. and_then (nothing_follows file e) (λ _. whole_table file q (byte file p))) → y ≡ rule_of file
        after_count y e = after_head y (then_at _ p _ y (sym labels ∙ lat) (then_at _ q _ y (sym count ∙ cat) e))

        pub rule_nodes : (n : Refusal) → t ≡ Err n → Err n ≡ rule_of file
        rule_nodes n e = after_count _ (then-stop _ n _ (sym nodes ∙ e))

        module _ (e : ℕ) (tat : t ≡ Ok e) where
          pub rule_more : (e ≡ length file → ⊥) → Err RuleTooLong ≡ rule_of file
          rule_more n = after_count _ (then_at _ e _ _ (sym nodes ∙ tat) (then-stop _ RuleTooLong _ (more-follows file e n)))

          pub rule_whole : (y : Result Rule Refusal) → e ≡ length file → y ≡ whole_table file q (byte file p) → y ≡ rule_of file
          rule_whole y f w = after_count y (then_at _ e _ y (sym nodes ∙ tat) (then_at _ e _ y (none_follows file e f) w))

-- what is known on the way
module _ (file : List ℕ) (p q : ℕ) (c : Result ℕ Refusal) (count : c ≡ read_node_count file p) (cat : c ≡ Ok q) where
  pub count_room : p < length file
  count_room = let v = count_read file p q (sym count ∙ cat) in omega (arith, v.1.0)

  pub nodes_room : q ≤ length file
  nodes_room = let v = count_read file p q (sym count ∙ cat) in omega (arith, v.0, v.1.0)

  pub count_some : 1 ≤ byte file p
  count_some = (count_read file p q (sym count ∙ cat)).1.1.0

  module _ (e : ℕ) (t : Result ℕ Refusal) (nodes : t ≡ read_nodes file q (byte file p)) (tat : t ≡ Ok e) where
    pub nodes_good : Good file q (byte file p - 1)
    nodes_good i h = (nodes_read file q (byte file p) e (sym nodes ∙ tat)).1 i (omega (arith, count_some))

    pub nodes_fit : q + 3 * byte file p ≤ length file
    nodes_fit = omega (arith, count_some, (nodes_good (byte file p - 1) (omega arith)).room)

-- ── a file that is taken ──
follows_read : (file : List ℕ) (e g : ℕ) → nothing_follows file e ≡ Ok g → e ≡ length file
unfolding nothing_follows
follows_read file e g h = go (eqb e (length file)) refl h
  where
    go : (b : Bool) → eqb e (length file) ≡ b → cond b (Ok e) (Err RuleTooLong) ≡ Ok g → e ≡ length file
    go true q f = eqb-true e (length file) q
    go false q f = not_ok RuleTooLong g f

module _ (file : List ℕ) (q n : ℕ) where
  abbrev taken : Rule
  taken = record { labels = label_count file; nodes = q; count = n }

  whole_read : (x : Rule) → whole_table file q n ≡ Ok x → (taken ≡ x) × (named_once file q n ≡ true) × (scoped (root_formula file q n) no_scope ≡ true) × (shallow max_nested (root_formula file q n) ≡ true)
  unfolding whole_table
  whole_read x e = go (named_once file q n) (scoped (root_formula file q n) no_scope) (shallow max_nested (root_formula file q n)) e
    where
      go : (a b d : Bool) → unless a RuleNotATree (unless b RuleUnbound (unless d RuleTooDeep (Ok taken))) ≡ Ok x → (taken ≡ x) × (a ≡ true) × (b ≡ true) × (d ≡ true)
      go true true true f = (ok_inj taken x f, refl, refl, refl)
      go true true false f = not_ok RuleTooDeep x f
      go true false d f = not_ok RuleUnbound x f
      go false b d f = not_ok RuleNotATree x f

pub rule_taken : (file : List ℕ) (x : Rule) → rule_of file ≡ Ok x → Taken file x
unfolding rule_of
rule_taken file x e =
    let mark = then_read _ _ x e in
    let version = then_read _ _ x mark.2 in
    let labels = then_read _ _ x version.2 in
    let list = then_read _ _ x labels.2 in
    let count = then_read _ _ x list.2 in
    let nodes = then_read _ _ x count.2 in
    let end = then_read _ _ x nodes.2 in
    let q : ℕ = count.0 in
    let n : ℕ = byte file list.0 in
    let w = whole_read file q n x end.2 in
    let l = part_read file 5 1 _ RuleCount _ labels.1 in
    let ls = labels_read file (label_count file) list.0 list.1 in
    let c = count_read file list.0 q count.1 in
    let ns = nodes_read file q n nodes.0 nodes.1 in
    let f = follows_read file nodes.0 end.0 end.1 in
    let few : label_count file ≤ max_labels = leb-true _ _ l.1.1 in
    let low = place_low file (label_count file) ls.1 in
    subst (Taken file) w.0
    (record {
      read = e ∙ ap Ok (sym w.0);
      labels = refl;
      labels_few = few;
      labels_ok = ls.1;
      nodes_at = omega (arith, c.0, ls.0);
      nodes_some = c.1.1.0;
      nodes_few = c.1.1.1;
      nodes_end = omega (arith, ns.0, f);
      nodes_good = λ i h. ns.1 i (omega (arith, c.1.1.0));
      once = w.1;
      closed = w.2;
      depth = w.3;
      size = omega (arith, ns.0, f, c.0, c.1.1.1, ls.0, low, few);
    })

-- ── refusals are numbered 1 to 10 ──
abbrev Numbered : {A : Type 0} → Result A Refusal → Type 0
Numbered (Ok p) = Unit {0}
Numbered (Err e) = (1 ≤ number e) × (number e ≤ 10)

part_numbered : (file : List ℕ) (p n : ℕ) (ok : Bool) (fault : Refusal) → 1 ≤ number fault → number fault ≤ 10 → Numbered (part file p n ok fault)
unfolding part
part_numbered file p n ok fault h k = go (leb (p + n) (length file)) ok
  where
    go : (x y : Bool) → Numbered (cond x (cond y (Ok (p + n)) (Err fault)) (Err RuleEndsEarly))
    go true true = tt
    go true false = (h, k)
    go false y = (omega arith, omega arith)

then-numbered : {A B : Type 0} (r : Result A Refusal) (f : A → Result B Refusal) → Numbered r → ((p : A) → Numbered (f p)) → Numbered (and_then r f)
unfolding and_then
then-numbered (Ok p) f h k = k p
then-numbered (Err n) f h k = h

label_numbered : (file : List ℕ) (n p : ℕ) → Numbered (read_label file n p)
unfolding read_label
label_numbered file n p = then-numbered _ _ (part_numbered file p 1 _ RuleLabel (omega arith) (omega arith)) (λ q. part_numbered file q (byte file p) _ RuleLabel (omega arith) (omega arith))

labels_numbered : (file : List ℕ) (n : ℕ) → Numbered (read_labels file n)
unfolding read_labels
labels_numbered file zero = tt
labels_numbered file (suc n) = then-numbered (read_labels file n) (λ p. read_label file n p) (labels_numbered file n) (λ p. label_numbered file n p)

nodes_numbered : (file : List ℕ) (p n : ℕ) → Numbered (read_nodes file p n)
unfolding read_nodes
nodes_numbered file p zero = tt
nodes_numbered file p (suc n) = then-numbered (read_nodes file p n) (λ _. read_node file p n) (nodes_numbered file p n) (λ _. part_numbered file (p + 3 * n) 3 _ RuleNode (omega arith) (omega arith))

end_numbered : (file : List ℕ) (e : ℕ) → Numbered (nothing_follows file e)
unfolding nothing_follows
end_numbered file e = go (eqb e (length file))
  where
    go : (b : Bool) → Numbered (cond b (Ok e) (Err RuleTooLong))
    go true = tt
    go false = (omega arith, omega arith)

whole_numbered : (file : List ℕ) (q n : ℕ) → Numbered (whole_table file q n)
unfolding whole_table
whole_numbered file q n = go (named_once file q n) (scoped (root_formula file q n) no_scope) (shallow max_nested (root_formula file q n))
  where
    go : (a b d : Bool) → Numbered (unless a RuleNotATree (unless b RuleUnbound (unless d RuleTooDeep (Ok (taken file q n)))))
    go true true true = tt
    go true true false = (omega arith, omega arith)
    go true false d = (omega arith, omega arith)
    go false b d = (omega arith, omega arith)

rule_numbered : (file : List ℕ) → Numbered (rule_of file)
unfolding rule_of
rule_numbered file =
    then-numbered _ _ (part_numbered file 0 3 _ RuleMark (omega arith) (omega arith)) λ _.
    then-numbered _ _ (part_numbered file 3 2 _ RuleVersion (omega arith) (omega arith)) λ _.
    then-numbered _ _ (part_numbered file 5 1 _ RuleCount (omega arith) (omega arith)) λ _.
    then-numbered _ _ (labels_numbered file (label_count file)) λ p.
    then-numbered _ _ (part_numbered file p 1 _ RuleCount (omega arith) (omega arith)) λ q.
    then-numbered _ _ (nodes_numbered file q (byte file p)) λ e.
    then-numbered _ _ (end_numbered file e) λ _.
    whole_numbered file q (byte file p)

pub rule_refused : (file : List ℕ) (r : Refusal) → rule_of file ≡ Err r → (1 ≤ number r) × (number r ≤ 10)
rule_refused file r e = subst Numbered e (rule_numbered file)

-- ── the answer and what it means ──
pub reads_rule : (file : List ℕ) (r : Result Rule Refusal) → r ≡ rule_of file → ReadsRule file r
reads_rule file r e = record { answer = e; taken = λ x f. rule_taken file x (sym e ∙ f); refused = λ n f. rule_refused file n (sym e ∙ f) }

pub ruleset rule-cases = (reads_rule, rule_head, rule_labels, rule_count, rule_nodes)

-- Every text fits in the buffer, and the answer of the public call.
use Prim.Native.Nat.{ℕ, zero, suc, ◌-◌, ◌<◌, ◌≤◌}
use mathlib.Core.Path.{◌≡◌, refl, sym, ap, ap₂, subst, ◌∙◌}
use mathlib.Core.Bool.{true}
use mathlib.Core.List.{List, [], ◌++◌}
use native.Mathlib.Omega.{arith}
use lib.Dec.{eqb}
use lib.ListN.{length, take, drop}
use lib.Seq.{take_at}
use borrow.Author.Tests.{eqb-true, lt-ltb, le-ltb}
use Rattle.lists.proofs.Cases.{either_eq, either_lt, and_left, and_right}
use Rattle.output.specs.Output.{Appends}
use Rattle.output.proofs.Output.{appends_front}
use Rattle.rules.specs.Parts.{label_count}
use Rattle.rules.specs.Labels.{LabelsOk}
use Rattle.rules.specs.Table.{node_at, Good, formula_at}
use Rattle.rules.specs.Checks.{times_named, once_below}
use Rattle.rules.specs.Rules.{formula_of, Taken, ReadsRule}
use Rattle.rules.specs.declared.Rule.{Rule}
use Rattle.std.specs.Prelude.{Result, Ok, Err}
use Rattle.refusals.specs.Refusal.{number}
use Rattle.refusals.specs.declared.Refusal.{Refusal}
use Rattle.grammar.proofs.RuleMet.{rule_met}
use Rattle.grammar.proofs.Stands.{rule_says}
use Rattle.rules.proofs.Formulas.{and_left_child, and_right_child, not_child, some_child, atom_fields, by_atom, formula-and, formula_not, formula_some, formula-has}
use Rattle.rules.proofs.Labels.{label_length}
use Rattle.spelling.specs.Written.{write}
use Rattle.spelling.proofs.Weights.{Short, write-short, not_yet, root_light}
use Rattle.rule_text.specs.Text.{Ready, text_of, answer_of, bytes_of, text_answer, WritesText}
use Rattle.levels.specs.Levels.{no_levels}
use Rattle.levels.specs.Carried.{levels_of}
use Rattle.levels.specs.declared.VarLevels.{VarLevels}
use Rattle.typed_grammar.specs.File.{node_count}
use Rattle.spelling.proofs.Texts.{write_text}
use Rattle.output.specs.declared.Written.{Written}

-- ── labels have at most 24 bytes ──
short_below : (file : List ℕ) (p : ℕ) → LabelsOk file (label_count file) → (m n : ℕ) → n < m → Good file p n → Short (formula_at file p n)
short_below file p l zero n h g = absurd (omega arith)
short_below file p l (suc m) n h g =
    let x = node_at file p n in
    either_eq x.kind 1
    (λ k.
    let a = and_left_child file p n x refl g n refl k in
    let b = and_right_child file p n x refl g n refl k in
    subst Short (sym (formula-and file p n x refl g k)) (short_below file p l m x.a (omega (arith, a.0)) a.1, short_below file p l m x.b (omega (arith, b.0)) b.1))
    (λ n1. either_eq x.kind 2
    (λ k. let a = not_child file p n x refl g n refl k in subst Short (sym (formula_not file p n x refl g k)) (short_below file p l m x.a (omega (arith, a.0)) a.1))
    (λ n2. either_eq x.kind 3
    (λ k. let a = some_child file p n x refl g n refl k in subst Short (sym (formula_some file p n x refl g k)) (short_below file p l m x.b (omega (arith, a.0)) a.1))
    (λ n3.
    by_atom file p n x refl g n1 n2 n3
    (λ k. subst Short (sym (formula-has file p n x refl g k)) (let o = l x.b ((atom_fields file p n x refl g n1 n2 n3).place k) in omega (arith, label_length file x.b o, o.high)))
    (λ n4 f. subst Short (sym f) tt))))

-- ── each node is named at most once ──
once_at : (file : List ℕ) (p n c i : ℕ) → once_below file p n c ≡ true → i < c → times_named file p n i ≡ 1
unfolding once_below
once_at file p n zero i e h = absurd (omega arith)
once_at file p n (suc c) i e h =
    either_eq i c
    (λ q. ap (times_named file p n) q ∙ eqb-true (times_named file p n c) 1 (and_right (once_below file p n c) (eqb (times_named file p n c) 1) e))
    (λ q. once_at file p n c i (and_left (once_below file p n c) (eqb (times_named file p n c) 1) e) (omega arith))

module _ (file : List ℕ) (x : Rule) (k : Taken file x) where
  goods : (n : ℕ) → n < x.count → Good file x.nodes n
  goods n h i l = k.nodes_good i (omega arith)

  once : (c : ℕ) → times_named file x.nodes x.count c ≤ 1
  once c =
      either_lt c (x.count - 1)
      (λ h. let a = once_at file x.nodes x.count (x.count - 1) c k.once h in omega arith)
      (λ h. let a = not_yet file x.nodes x.count goods x.count c (omega arith) (omega arith) in omega arith)

  pub text_light : node_count (formula_of file x) ≤ x.count
  text_light = root_light file x.nodes x.count goods once k.nodes_some

  pub text_short : length (text_of file x) ≤ 1856
  text_short =
      let w = root_light file x.nodes x.count goods once k.nodes_some in
      let e = ap length (write_text (formula_of file x)) in
      let s = write-short (formula_of file x) (short_below file x.nodes (subst (LabelsOk file) k.labels k.labels_ok) (suc (x.count - 1)) (x.count - 1) (omega arith) k.nodes_good) 0 no_levels [] in
      omega (arith, k.nodes_few)

-- ── the answers ──
-- a length is no refusal
no_refusal : {C : Type 0} (n k : ℕ) → Written.Length n ≡ Written.Refused k → C
no_refusal n k e = absurd (let z : ◌≡◌ {A = ℕ} 0 1 = cc in omega arith)

-- a refusal has no length
no_length : {C : Type 0} (n k : ℕ) → Written.Refused k ≡ Written.Length n → C
no_length n k e = absurd (let z : ◌≡◌ {A = ℕ} 0 1 = cc in omega arith)

module _ (file before : List ℕ) where
  pub text_room_lem : length before < 4096 → WritesText file before (Written.Refused 20) before
  unfolding text_answer
  text_room_lem h = record {
    answer = sym (simp (lt-ltb (length before) 4096 h));
    left = refl;
    few = λ n e. no_length n _ e;
    means = λ n e. no_length n _ e;
    refused = λ c e l. absurd (omega arith);
  }

  module _ (h : 4096 ≤ length before) (r : Result Rule Refusal) (y : ReadsRule file r) where
    asked : (t : Written) → t ≡ answer_of file r → t ≡ text_answer file (length before)
    unfolding text_answer
    asked t e = e ∙ (ap (answer_of file) y.answer ∙ sym (simp (le-ltb (length before) 4096 h)))

    pub text_refused : (k : Refusal) → r ≡ Err k → WritesText file before (Written.Refused (number k)) before
    text_refused k e = record {
      answer = asked (Written.Refused (number k)) (ap (answer_of file) (sym e));
      left = refl;
      few = λ n q. no_length n _ q;
      means = λ n q. no_length n _ q;
      refused = λ c q l. let z : number k ≡ c = cc in (rule_met file c).0 (k, (sym y.answer ∙ e, z));
    }

    module _ (x : Rule) (e : r ≡ Ok x) (lv : VarLevels) (el : levels_of lv ≡ no_levels) where
      same_text_lem : write 0 (levels_of lv) (formula_of file x) [] ≡ text_of file x
      same_text_lem = ap (λ (l : ℕ → ℕ). write 0 l (formula_of file x) []) el ∙ write_text (formula_of file x)

      pub text_ready : Ready file x.nodes (x.count - 1) 0 lv before 0
      text_ready =
          let k = y.taken x e in
          record {
            good = k.nodes_good;
            labels = subst (LabelsOk file) k.labels k.labels_ok;
            deep = omega (arith, k.nodes_few);
            room = omega (arith, text_short file x k, ap length same_text_lem);
          }

      pub text_written : (after : List ℕ) (n : ℕ) → Appends before 0 (write 0 (levels_of lv) (formula_at file x.nodes (x.count - 1)) []) after n → WritesText file before (Written.Length n) after
      text_written after n w =
          let long : n ≡ length (text_of file x) = w.end ∙ (omega (arith, ap length same_text_lem)) in
          let left = appends_front before after _ n w in
          record {
            answer = asked (Written.Length n) (ap Written.Length long ∙ ap (answer_of file) (sym e));
            left =
                left ∙ (ap (λ (l : List ℕ). l ++ drop (length l) before) same_text_lem
                ∙ (ap (λ (i : ℕ). text_of file x ++ drop i before) (sym long) ∙ ap (λ (q : Result Rule Refusal). bytes_of file q ++ drop n before) (sym e ∙ y.answer)));
            means = λ m q. (let z : n ≡ m = cc in (
              formula_of file x,
              rule_says file x (sym y.answer ∙ e),
              ap₂ take (sym z) (left ∙ (ap (λ (l : List ℕ). l ++ drop (length l) before) same_text_lem ∙ ap (λ (i : ℕ). text_of file x ++ drop i before) (sym long)))
                  ∙ take_at (text_of file x) (drop n before) n (sym long),
            ));
            refused = λ c q l. no_refusal n c q;
            few = λ m q. let z : n ≡ m = cc in omega (arith, text_short file x (y.taken x e));
          }

    pub text_some : (x : Rule) → r ≡ Ok x → 1 ≤ x.count
    text_some x e = (y.taken x e).nodes_some

-- Rules typed by hand, and written out again: the two calls, from their contracts.
use Prim.Native.Nat.{ℕ, ◌+◌, ◌≤◌, ◌<◌}
use mathlib.Core.Path.{◌≡◌, refl, sym, ap, subst, ◌∙◌}
use mathlib.Core.Logic.{◌↔◌}
use mathlib.Core.Bool.{Bool, ◌||◌, cond}
use mathlib.Core.List.{List, [], ◌∷◌, ◌++◌}
use native.Mathlib.Omega.{arith}
use lib.Dec.{ltb}
use lib.ListN.{length, take, drop, set}
use lib.Seq.{take_at}
use borrow.Author.Tests.{lt-ltb, le-ltb}
use Rattle.lists.proofs.Cases.{either_lt}
use Rattle.lists.specs.Limits.{max_lines}
use Rattle.lines.specs.Log.{lines_of, flat}
use Rattle.trace.specs.Trace.{Trace, Answer, next, refused, no_trace, step}
use Rattle.pairs.specs.declared.Layout.{Layout}
use Rattle.pairs.specs.Layout.{work_size}
use Rattle.pairs.specs.Pairs.{work_of}
use Rattle.reading.specs.declared.LogRead.{LogRead}
use Rattle.reading.specs.declared.Ending.TheVariants as Ending
use Rattle.reading.specs.Reading.{by_answer, ended}
use Rattle.single.specs.Line.{with_rule}
use Rattle.single.proofs.LineMeans.{verdict_says}
use Rattle.whole_log.specs.declared.Mode.{Mode}
use Rattle.whole_log.specs.declared.Mode.TheVariants.{FirstFailure, Full}
use Rattle.whole_log.specs.Log.{lines_from, not_read, log_of}
use Rattle.whole_log.specs.Part.{behind, to_failure, read_part}
use Rattle.rules.specs.declared.Rule.{Rule}
use Rattle.std.specs.Prelude.{Result, Ok, Err}
use Rattle.refusals.specs.Refusal.{number}
use Rattle.refusals.specs.declared.Refusal.{Refusal}
use Rattle.rules.specs.Formula.{Formula}
use Rattle.rules.specs.Rules.{rule_of, formula_of}
use Rattle.rules.proofs.Rules.{rule_taken, rule_refused}
use Rattle.grammar.specs.Stands.{RuleFile}
use Rattle.grammar.specs.Written.{EachByte}
use Rattle.grammar.proofs.RuleMet.{rule_met}
use Rattle.grammar.proofs.Stands.{rule_says, rule_file-taken}
use Rattle.logic.specs.declared.Verdict.{Verdict}
use Rattle.logic.specs.Satisfies.{Binding, Satisfies}
use Rattle.logic.specs.declared.Verdict.TheVariants.{Holds, Fails}
use Rattle.logic.specs.Verdict.{verdict_byte, verdict_of}
use Rattle.typed_grammar.specs.Grammar as Grammar
use Rattle.typed_grammar.specs.Grammar.{Tree}
use Rattle.typed_grammar.specs.Formula.{formula_said}
use Rattle.typed_grammar.specs.File.{rule_file}
use Rattle.typed_grammar.specs.Text.{rule_text}
use Rattle.typed_grammar.specs.Met.{MetText}
use Rattle.typed_grammar.specs.Met as Met
use Rattle.typed.specs.Grammar.{read_text}
use Rattle.output.specs.Written.{left_by}
use Rattle.output.specs.declared.Written.{Written}
use Rattle.output.specs.declared.Written.TheVariants.{Length, Refused}
use Rattle.typed_file.specs.Answer.{typed_answer, bytes_of}
use Rattle.rule_text.specs.Text.{text_of, text_answer, WritesText}
use Rattle.rule_text.specs.Text as Text
use Rattle.typed_meaning.proofs.TextMet.{says_one, refused_met, met_refused, refused_numbers, written_said}
use Rattle.round_trip.proofs.Trip.{read_again}
use Rattle.report.specs.Calls.{Beyond}
use Rattle.claims.specs.Demand1.{Listed, Refuses}
use Rattle.claims.specs.Typed.{ReadCall, WriteCall, MetWriting, short_buffer, rule, JudgedBy, Reading, Again, Writing, TypedRules}
use Rattle.claims.proofs.Untouched.{put_bytes}

-- ── answers ──
no_length : {C : Type 0} (n c : ℕ) → Length n ≡ Refused c → C
no_length n c e = absurd (let z : ◌≡◌ {A = ℕ} 0 1 = cc in omega arith)

same_refusal : (a b : ℕ) → Refused a ≡ Refused b → a ≡ b
same_refusal a b e = cc

same_length : (a b : ℕ) → Length a ≡ Length b → a ≡ b
same_length a b e = cc

-- a call that writes bytes to the front of a buffer, by what it answers
module _ (bytes before after : List ℕ) (r : Written) (left : after ≡ left_by r bytes before) where
  kept : (c : ℕ) → r ≡ Refused c → after ≡ before
  kept c e = left ∙ ap (λ (w : Written). left_by w bytes before) e

  module _ (n : ℕ) (e : r ≡ Length n) (size : length bytes ≡ n) where
    front : after ≡ bytes ++ drop n before
    front = left ∙ ap (λ (w : Written). left_by w bytes before) e

    written : take n after ≡ bytes
    written = ap (take n) front ∙ take_at bytes (drop n before) n size

    rest_kept : n ≤ length before → Beyond n before after
    rest_kept h = subst (Beyond n before) (sym front) (put_bytes n bytes before size h)

-- ── a rule file from a text ──
judged_by : (file : List ℕ) (f : Formula) → RuleFile file f → JudgedBy file f
judged_by file f r x e log t a v s ρ =
    let k = rule_file-taken file f r in
    let same : x ≡ k.0 = let q : ◌≡◌ {A = Result Rule Refusal} (Ok x) (Ok k.0) = sym e ∙ k.1 in cc in
    let g : formula_of file x ≡ f = ap (formula_of file) same ∙ k.2 in
    subst (λ (h : Formula). (verdict_byte v ≡ 1) ↔ Satisfies t ρ h) g (s.holds ρ)

module _ (k : ReadCall) where
  room : ℕ
  room = length k.rule

  reading_refused : (c : ℕ) → Refuses c (k.answer ≡ Refused c) (MetText k.text (length k.rule) c) (k.rule' ≡ k.rule)
  reading_refused c = record {
    listed = λ e. let n = refused_numbers k.text (length k.rule) c (sym k.reads.answer ∙ e) in omega arith;
    just_where = (λ e. refused_met k.text (length k.rule) c (sym k.reads.answer ∙ e), λ m. k.reads.answer ∙ met_refused k.text (length k.rule) c m);
    changes_nothing = λ e. kept _ k.rule k.rule' k.answer k.reads.left c e;
  }

  -- what is not refused has room
  long_enough : (n : ℕ) → k.answer ≡ Length n → 599 ≤ length k.rule
  long_enough n e =
      either_lt (length k.rule) 599
      (λ h. no_length n 20 (sym e ∙ (k.reads.answer ∙ met_refused k.text (length k.rule) 20 (Met.short_buffer h refl))))
      (λ h. h)

  reading : (n : ℕ) → k.answer ≡ Length n → Reading k n
  reading n e =
      let w = written_said k.text (length k.rule) n (sym k.reads.answer ∙ e) in
      let bytes = bytes_of k.text (read_text k.text) in
      let f : take n k.rule' ≡ bytes = written bytes k.rule k.rule' k.answer k.reads.left n e (sym w.size) in
      let r : RuleFile (take n k.rule') (formula_said w.tree) = subst (λ (l : List ℕ). RuleFile l (formula_said w.tree)) (sym f) w.rule in
      let h = long_enough n e in
      let m = k.reads.few n e in
      record {
        tree = w.tree;
        says = w.says;
        file = f ∙ w.bytes;
        size = w.size ∙ ap length w.bytes;
        fits = m;
        rule = r;
        verdicts = judged_by (take n k.rule') (formula_said w.tree) r;
        rest = rest_kept bytes k.rule k.rule' k.answer k.reads.left n e (sym w.size) (omega arith);
      }

-- ── a text from a rule file ──
module _ (file : List ℕ) (room : ℕ) where
  text_short : room < 4096 → text_answer file room ≡ Refused 20
  unfolding text_answer
  text_short h = simp (lt-ltb room 4096 h)

  text_long : 4096 ≤ room → text_answer file room ≡ Text.answer_of file (rule_of file)
  unfolding text_answer
  text_long h = simp (le-ltb room 4096 h)

  met_writing : (c : ℕ) → text_answer file room ≡ Refused c → MetWriting file room c
  met_writing c e =
      either_lt room 4096
      (λ h. short_buffer h (sym (same_refusal 20 c (sym (text_short h) ∙ e))))
      (λ h. go h (rule_of file) refl)
    where
      go : 4096 ≤ room → (q : Result Rule Refusal) → rule_of file ≡ q → MetWriting file room c
      go h (Ok x) p = no_length _ c (sym (text_long h ∙ ap (Text.answer_of file) p) ∙ e)
      go h (Err d) p =
          let q : number d ≡ c = same_refusal (number d) c (sym (text_long h ∙ ap (Text.answer_of file) p) ∙ e) in
          rule h ((rule_met file c).0 (d, (p, q)))

  writing_met : (c : ℕ) → MetWriting file room c → text_answer file room ≡ Refused c
  writing_met c (short_buffer h q) = text_short h ∙ ap Refused (sym q)
  writing_met c (rule h m) = let w = (rule_met file c).1 m in text_long h ∙ (ap (Text.answer_of file) w.1.0 ∙ ap Refused w.1.1)

  writing-listed : (c : ℕ) → MetWriting file room c → Listed c
  writing-listed c (short_buffer h q) = (omega arith, omega arith)
  writing-listed c (rule h m) = let w = (rule_met file c).1 m in let n = rule_refused file w.0 w.1.0 in (omega (arith, n.0, w.1.1), omega (arith, n.1, w.1.1))

  pub record Wrote (n : ℕ) : Type 0 where
    pub long : 4096 ≤ room
    pub of : Rule
    pub read : rule_of file ≡ Ok of
    pub size : length (text_of file of) ≡ n

  wrote : (n : ℕ) → text_answer file room ≡ Length n → Wrote n
  wrote n e =
      either_lt room 4096
      (λ h. no_length n 20 (sym e ∙ text_short h))
      (λ h. go h (rule_of file) refl)
    where
      go : 4096 ≤ room → (q : Result Rule Refusal) → rule_of file ≡ q → Wrote n
      go h (Err d) p = no_length n (number d) (sym e ∙ (text_long h ∙ ap (Text.answer_of file) p))
      go h (Ok x) p = record { long = h; of = x; read = p; size = same_length _ n (sym (text_long h ∙ ap (Text.answer_of file) p) ∙ e) }

again-judged : (file : List ℕ) (g f : Formula) → RuleFile file g → ((t : Trace) (ρ : Binding) → Satisfies t ρ g ↔ Satisfies t ρ f) → JudgedBy file f
again-judged file g f r h x e log t a v s ρ =
    let i = judged_by file g r x e log t a v s ρ in
    let j = h t ρ in
    (λ z. j.0 (i.0 z), λ z. i.1 (j.1 z))

file_written : (w : WriteCall) (file : List ℕ) (g : Formula) (text : List ℕ) → RuleFile file g → rule_text g ≡ text → w.file ≡ file → 4096 ≤ length w.text → (w.answer ≡ Length (length text)) × (take (length text) w.text' ≡ text)
file_written w file g text r q z l =
    let x = rule_file-taken file g r in
    let p : rule_of w.file ≡ Ok x.0 = ap rule_of z ∙ x.1 in
    let t : text_of w.file x.0 ≡ text = ap (λ (y : List ℕ). text_of y x.0) z ∙ (ap rule_text x.2 ∙ q) in
    let b : Text.bytes_of w.file (rule_of w.file) ≡ text = ap (Text.bytes_of w.file) p ∙ t in
    let e : w.answer ≡ Length (length text) = w.writes.answer ∙ (text_long w.file (length w.text) l ∙ (ap (Text.answer_of w.file) p ∙ ap (λ (y : List ℕ). Length (length y)) t)) in
    (e, written _ w.text w.text' w.answer w.writes.left (length text) e (ap length b) ∙ b)

-- ── two rules of equal verdicts ──
equal_verdicts : (v w : Verdict) → (verdict_byte v ≡ 1 → verdict_byte w ≡ 1) → (verdict_byte w ≡ 1 → verdict_byte v ≡ 1) → v ≡ w
equal_verdicts Holds Holds f g = refl
equal_verdicts Holds Fails f g = absurd (let z = f refl in omega arith)
equal_verdicts Fails Holds f g = absurd (let z = g refl in omega arith)
equal_verdicts Fails Fails f g = refl

module _ (lay : Layout) (one two : List ℕ) (x y : Rule) (same : (u : Trace) → verdict_of u (formula_of one x) ≡ verdict_of u (formula_of two y)) (w : List ℕ) where
  lines_same : (ls : List (List ℕ)) (t : Trace) (out : List ℕ) → lines_from lay one x t ls w out ≡ lines_from lay two y t ls w out
  unfolding lines_from by_answer
  lines_same [] t out = refl
  lines_same (l ∷ ls) t out = go (λ u o. lines_same ls u o) (step (next t) l)
    where
      go : ((u : Trace) (o : List ℕ) → lines_from lay one x u ls w o ≡ lines_from lay two y u ls w o) → (a : Answer)
          → by_answer a (λ u. lines_from lay one x u ls w (set out t.lines (verdict_byte (verdict_of u (formula_of one x))))) (λ c. (ended t (Ending.Refused c (t.lines + 1)), work_of lay t w, out))
          ≡ by_answer a (λ u. lines_from lay two y u ls w (set out t.lines (verdict_byte (verdict_of u (formula_of two y))))) (λ c. (ended t (Ending.Refused c (t.lines + 1)), work_of lay t w, out))
      go h (next u) = ap (λ (v : Verdict). lines_from lay one x u ls w (set out t.lines (verdict_byte v))) (same u) ∙ h u (set out t.lines (verdict_byte (verdict_of u (formula_of two y))))
      go h (refused c) = refl

  log_same : (log out : List ℕ) → rule_of one ≡ Ok x → rule_of two ≡ Ok y → log_of lay one log w out ≡ log_of lay two log w out
  unfolding log_of with_rule
  log_same log out p q =
      let short : Bool = ltb (length w) (work_size lay) || ltb (length out) max_lines in
      let by : List ℕ → Result Rule Refusal → LogRead × List ℕ × List ℕ = λ file r. cond short (not_read 20, w, out) (with_rule r (λ n. (not_read n, w, out)) (λ z. lines_from lay file z no_trace (lines_of log) w out)) in
      ap (by one) p ∙ (ap (λ (z : LogRead × List ℕ × List ℕ). cond short (not_read 20, w, out) z) (lines_same (lines_of log) no_trace out) ∙ sym (ap (by two) q))

-- and the part that is read in a mode
module _ (one two : List ℕ) (x y : Rule) (same : (u : Trace) → verdict_of u (formula_of one x) ≡ verdict_of u (formula_of two y)) where
  behind_same : (ls : List (List ℕ)) (t : Trace) → to_failure one x t ls ≡ to_failure two y t ls
  unfolding to_failure by_answer
  behind_same [] t = refl
  behind_same (l ∷ ls) t = ap (λ (ms : List (List ℕ)). l ∷ ms) (by_step (step (next t) l) (behind_same ls))
    where
      by_step : (a : Answer) → ((u : Trace) → to_failure one x u ls ≡ to_failure two y u ls)
          → by_answer a (λ u. behind (verdict_of u (formula_of one x)) (to_failure one x u ls)) (λ c. ls)
          ≡ by_answer a (λ u. behind (verdict_of u (formula_of two y)) (to_failure two y u ls)) (λ c. ls)
      by_step (next u) rest = λ i. behind (same u i) (rest u i)
      by_step (refused c) rest = refl

  part_by_verdicts : rule_of one ≡ Ok x → rule_of two ≡ Ok y → (mode : Mode) (log : List ℕ) → read_part mode one log ≡ read_part mode two log
  unfolding read_part with_rule
  part_by_verdicts p q Full log = refl
  part_by_verdicts p q FirstFailure log =
      let by : List ℕ → Result Rule Refusal → List ℕ = λ file r. with_rule r (λ n. log) (λ z. flat (to_failure file z no_trace (lines_of log))) in
      ap (by one) p ∙ (ap flat (behind_same (lines_of log) no_trace) ∙ sym (ap (by two) q))

same_verdicts : (one two : List ℕ) (x y : Rule) → rule_of one ≡ Ok x → rule_of two ≡ Ok y
    → ((t : Trace) (ρ : Binding) → Satisfies t ρ (formula_of one x) ↔ Satisfies t ρ (formula_of two y))
    → (u : Trace) → verdict_of u (formula_of one x) ≡ verdict_of u (formula_of two y)
same_verdicts one two x y p q h u =
    let a = (verdict_says one x (rule_taken one x p) u).holds (λ _. 0) in
    let b = (verdict_says two y (rule_taken two y q) u).holds (λ _. 0) in
    let s = h u (λ _. 0) in
    equal_verdicts _ _ (λ z. b.1 (s.0 (a.0 z))) (λ z. a.1 (s.1 (b.0 z)))

module _ (k : WriteCall) where
  writing_refused : (c : ℕ) → Refuses c (k.answer ≡ Refused c) (MetWriting k.file (length k.text) c) (k.text' ≡ k.text)
  writing_refused c = record {
    listed = λ e. writing-listed k.file (length k.text) c (met_writing k.file (length k.text) c (sym k.writes.answer ∙ e));
    just_where = (λ e. met_writing k.file (length k.text) c (sym k.writes.answer ∙ e), λ m. k.writes.answer ∙ writing_met k.file (length k.text) c m);
    changes_nothing = λ e. kept _ k.text k.text' k.answer k.writes.left c e;
  }

  -- the text, read again
  again : (x : Rule) → rule_of k.file ≡ Ok x → (text : List ℕ) → text ≡ rule_text (formula_of k.file x) → (j : ReadCall) → j.text ≡ text → 599 ≤ length j.rule → Again (formula_of k.file x) text j
  again x p text q j e h =
      let f = formula_of k.file x in
      let a = read_again k.file x (rule_taken k.file x p) in
      let n = length (rule_file (formula_said a.tree)) in
      let taken : j.answer ≡ Length n = j.reads.answer ∙ (ap (λ (l : List ℕ). typed_answer l (length j.rule)) (e ∙ q) ∙ a.read (length j.rule) h) in
      let r = reading j n taken in
      let same : r.tree ≡ a.tree = says_one (rule_text f) r.tree a.tree (subst (λ (l : List ℕ). Grammar.Says l r.tree) (e ∙ q) r.says) a.says in
      record {
        size = n;
        taken = taken;
        read = r;
        verdict = λ t ρ. subst (λ (u : Tree). Satisfies t ρ (formula_said u) ↔ Satisfies t ρ f) (sym same) (a.verdict t ρ);
        verdicts = again-judged (take n j.rule') (formula_said r.tree) f r.rule (λ t ρ. subst (λ (u : Tree). Satisfies t ρ (formula_said u) ↔ Satisfies t ρ f) (sym same) (a.verdict t ρ));
        text_again = ap (λ (u : Tree). rule_text (formula_said u)) same ∙ (a.again ∙ sym q);
        written_again = λ w z l. file_written w (take n j.rule') (formula_said r.tree) text r.rule (ap (λ (u : Tree). rule_text (formula_said u)) same ∙ (a.again ∙ sym q)) z l;
      }

  -- the file that is read, and that its verdicts are those of the file that was written
  record SameRule (x : Rule) (file : List ℕ) : Type 0 where
    pub of : Rule
    pub read : rule_of file ≡ Ok of
    pub same : (u : Trace) → verdict_of u (formula_of file of) ≡ verdict_of u (formula_of k.file x)

  read_same_lem : (x : Rule) → rule_of k.file ≡ Ok x → (text : List ℕ) → text ≡ rule_text (formula_of k.file x) → (j : ReadCall) (m : ℕ) → j.text ≡ text → j.answer ≡ Length m
      → SameRule x (take m j.rule')
  read_same_lem x p text q j m e a =
      let g = again x p text q j e (long_enough j m a) in
      let r : RuleFile (take m j.rule') (formula_said g.read.tree) = subst (λ (i : ℕ). RuleFile (take i j.rule') (formula_said g.read.tree)) (same_length g.size m (sym g.taken ∙ a)) g.read.rule in
      let y = rule_file-taken (take m j.rule') (formula_said g.read.tree) r in
      record {
        of = y.0;
        read = y.1;
        same = same_verdicts (take m j.rule') k.file y.0 x y.1 p (λ t ρ. subst (λ (f : Formula). Satisfies t ρ f ↔ Satisfies t ρ (formula_of k.file x)) (sym y.2) (g.verdict t ρ));
      }

  checks_same : (x : Rule) → rule_of k.file ≡ Ok x → (text : List ℕ) → text ≡ rule_text (formula_of k.file x) → (j : ReadCall) (m : ℕ) → j.text ≡ text → j.answer ≡ Length m
      → (lay : Layout) (log w out : List ℕ) → log_of lay (take m j.rule') log w out ≡ log_of lay k.file log w out
  checks_same x p text q j m e a lay log w out =
      let y = read_same_lem x p text q j m e a in
      log_same lay (take m j.rule') k.file y.of x y.same w log out y.read p

  parts_same : (x : Rule) → rule_of k.file ≡ Ok x → (text : List ℕ) → text ≡ rule_text (formula_of k.file x) → (j : ReadCall) (m : ℕ) → j.text ≡ text → j.answer ≡ Length m
      → (mode : Mode) (log : List ℕ) → read_part mode (take m j.rule') log ≡ read_part mode k.file log
  parts_same x p text q j m e a mode log =
      let y = read_same_lem x p text q j m e a in
      part_by_verdicts (take m j.rule') k.file y.of x y.same y.read p mode log

  writing : (n : ℕ) → k.answer ≡ Length n → Writing k n
  writing n e =
      let w = wrote k.file (length k.text) n (sym k.writes.answer ∙ e) in
      let x = w.of in
      let bytes = Text.bytes_of k.file (rule_of k.file) in
      let is : bytes ≡ text_of k.file x = ap (Text.bytes_of k.file) w.read in
      let size : length bytes ≡ n = ap length is ∙ w.size in
      let t : take n k.text' ≡ rule_text (formula_of k.file x) = written bytes k.text k.text' k.answer k.writes.left n e size ∙ is in
      let l = w.long in
      let m = k.writes.few n e in
      record {
        formula = formula_of k.file x;
        rule = rule_says k.file x w.read;
        text = t;
        no_bar = subst (EachByte (λ b. b ≡ 124 → ⊥)) (sym t) (read_again k.file x (rule_taken k.file x w.read)).no_bar;
        fits = m;
        rest = rest_kept bytes k.text k.text' k.answer k.writes.left n e size (omega arith);
        again = λ j q h. again x w.read (take n k.text') t j q h;
        same_checks = λ j m q a. checks_same x w.read (take n k.text') t j m q a;
        same_parts = λ j m q a. parts_same x w.read (take n k.text') t j m q a;
      }

pub typed_rules : TypedRules
typed_rules = record {
  reading_refused = reading_refused;
  writing_refused = writing_refused;
  reading = reading;
  writing = writing;
  one = says_one;
}

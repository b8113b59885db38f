-- The part that is read by default is the shortest part of the log that ends in a failing line, or all of it; there is one such part.
use Prim.Native.Nat.{ℕ, zero, suc, ◌<◌, ◌≤◌}
use mathlib.Core.Path.{◌≡◌, refl, ap, sym, ◌∙◌, subst}
use mathlib.Core.List.{List, [], ◌∷◌, ◌++◌, append_assoc}
use native.Mathlib.Omega.{arith}
use lib.ListN.{length, take, drop, length-append, take-append-drop}
use lib.Seq.{take-append_seam, take-append-le, length-take-le}
use Rattle.lists.proofs.Cases.{either_lt}
use Rattle.refusals.specs.declared.Refusal.{Refusal}
use Rattle.lines.specs.Log.{lines_of, flat}
use Rattle.trace.specs.Trace.{Trace, Answer, next, refused, no_trace, step, steps, read}
use Rattle.trace.proofs.Grown.{no_bytes, flat_lines, accepted_lines}
use Rattle.trace.proofs.Taken.{by_answer_lem}
use Rattle.pairs.specs.declared.Layout.{Layout}
use Rattle.rules.specs.declared.Rule.{Rule}
use Rattle.std.specs.Prelude.{Ok, Err}
use Rattle.refusals.specs.declared.Refusal.{Refusal}
use Rattle.rules.specs.Rules.{rule_of, formula_of, Taken}
use Rattle.rules.proofs.Rules.{reads_rule}
use Rattle.logic.specs.declared.Verdict.{Verdict}
use Rattle.logic.specs.declared.Verdict.TheVariants.{Holds, Fails}
use Rattle.logic.specs.Verdict.{verdict_of, Says}
use Rattle.reading.specs.declared.LogRead.{LogRead}
use Rattle.reading.specs.Reading.{by_answer}
use Rattle.reading.proofs.Lines.{same_trace, after_line_lem, no_line, lines_accepted, taken_lines}
use Rattle.single.proofs.LineMeans.{verdict_says}
use Rattle.single.proofs.LineCall.{with_taken, with_refused}
use Rattle.whole_log.specs.declared.Mode.{Mode}
use Rattle.whole_log.specs.declared.Mode.TheVariants.{FirstFailure, Full}
use Rattle.whole_log.specs.Log.{lines_from}
use Rattle.whole_log.specs.Part.{behind, to_failure, lines_read, read_part, EndsFailing, ToFailure, shortest, all, PartOf}

-- ── modes ──
pub not_full : FirstFailure ≡ Full → ⊥
not_full e = absurd (let z : ◌≡◌ {A = ℕ} 0 1 = cc in omega arith)

-- ── verdicts ──
pub not_both_verdicts : {C : Type 0} (v : Verdict) → v ≡ Holds → v ≡ Fails → C
not_both_verdicts v e f = let q : Holds ≡ Fails = sym e ∙ f in absurd (let z : ◌≡◌ {A = ℕ} 0 1 = cc in omega arith)

pub either_verdict : {C : Type 0} (v : Verdict) → (v ≡ Holds → C) → (v ≡ Fails → C) → C
either_verdict Holds f g = f refl
either_verdict Fails f g = g refl

-- ── bytes of lines ──
pub flat_append : (ls ms : List (List ℕ)) → flat (ls ++ ms) ≡ flat ls ++ flat ms
flat_append [] ms = refl
flat_append (l ∷ ls) ms = ap (λ (b : List ℕ). l ++ b) (flat_append ls ms) ∙ sym (append_assoc l (flat ls) (flat ms))

pub flat-front : (n : ℕ) (ls : List (List ℕ)) → length (flat (take n ls)) ≤ length (flat ls)
flat-front zero ls = omega arith
flat-front (suc n) [] = omega arith
flat-front (suc n) (l ∷ ls) = omega (arith, flat-front n ls, length-append l (flat (take n ls)), length-append l (flat ls))

-- ── the part by computing ──
module _ (file : List ℕ) (x : Rule) where
  abbrev verdict_after : Trace → Verdict
  verdict_after u = verdict_of u (formula_of file x)

  -- before the n-th every line that is taken holds
  abbrev pub HoldsTo : Trace → List (List ℕ) → ℕ → Type 0
  HoldsTo t ls n = (k : ℕ) (v : Trace) → 0 < k → k < n → steps (next t) (take k ls) ≡ next v → verdict_after v ≡ Holds

  -- line n is the first that fails, and the part ends there; or none fails, and it is all of them
  pub data Through (t : Trace) (ls ms : List (List ℕ)) : Type 0 where
    cut : (n : ℕ) (u : Trace) → 0 < n → n ≤ length ls → steps (next t) (take n ls) ≡ next u → verdict_after u ≡ Fails → HoldsTo t ls n → ms ≡ take n ls → Through t ls ms
    whole : ms ≡ ls → HoldsTo t ls (suc (length ls)) → Through t ls ms

  module _ (t : Trace) (l : List ℕ) (ls : List (List ℕ)) where
    abbrev by_line : Answer → List (List ℕ)
    by_line a = l ∷ by_answer a (λ u. behind (verdict_after u) (to_failure file x u ls)) (λ c. ls)

    part_taken : (u : Trace) → step (next t) l ≡ next u → to_failure file x t (l ∷ ls) ≡ l ∷ behind (verdict_after u) (to_failure file x u ls)
    unfolding to_failure by_answer
    part_taken u p = ap by_line p

    part_refused : (c : Refusal) → step (next t) l ≡ refused c → to_failure file x t (l ∷ ls) ≡ l ∷ ls
    unfolding to_failure by_answer
    part_refused c p = ap by_line p

    part_holds : (u : Trace) → step (next t) l ≡ next u → verdict_after u ≡ Holds → to_failure file x t (l ∷ ls) ≡ l ∷ to_failure file x u ls
    part_holds u p e = part_taken u p ∙ ap (λ (v : Verdict). l ∷ behind v (to_failure file x u ls)) e

    part_fails : (u : Trace) → step (next t) l ≡ next u → verdict_after u ≡ Fails → to_failure file x t (l ∷ ls) ≡ l ∷ []
    part_fails u p e = part_taken u p ∙ ap (λ (v : Verdict). l ∷ behind v (to_failure file x u ls)) e

    holds_next : (u : Trace) → step (next t) l ≡ next u → verdict_after u ≡ Holds → (n : ℕ) → HoldsTo u ls n → HoldsTo t (l ∷ ls) (suc n)
    holds_next u p e n h zero v a b s = absurd (omega arith)
    holds_next u p e n h (suc zero) v a b s = ap verdict_after (same_trace v u (sym s ∙ p)) ∙ e
    holds_next u p e n h (suc (suc k)) v a b s = h (suc k) v (omega arith) (omega arith) (after_line_lem t u v l (take (suc k) ls) p s)

    none_behind : (c : Refusal) → step (next t) l ≡ refused c → (n : ℕ) → HoldsTo t (l ∷ ls) n
    none_behind c p n zero v a b s = absurd (omega arith)
    none_behind c p n (suc k) v a b s = no_line t v c l (take k ls) p s

    through_holds : (u : Trace) → step (next t) l ≡ next u → verdict_after u ≡ Holds → Through u ls (to_failure file x u ls) → Through t (l ∷ ls) (to_failure file x t (l ∷ ls))
    through_holds u p e (cut n v a b s f h m) =
        cut (suc n) v (omega arith) (omega arith) (ap (λ (z : Answer). steps z (take n ls)) p ∙ s) f (holds_next u p e n h) (part_holds u p e ∙ ap (λ (ms : List (List ℕ)). l ∷ ms) m)
    through_holds u p e (whole m h) =
        whole (part_holds u p e ∙ ap (λ (ms : List (List ℕ)). l ∷ ms) m) (holds_next u p e (suc (length ls)) h)

  part_none : (t : Trace) → to_failure file x t [] ≡ []
  unfolding to_failure
  part_none t = refl

  pub through : (ls : List (List ℕ)) (t : Trace) → Through t ls (to_failure file x t ls)
  through [] t = whole (part_none t) (λ k v a b s. absurd (omega arith))
  through (l ∷ ls) t =
      by_answer_lem t l
      (λ u p.
      either_verdict (verdict_after u)
      (λ e. through_holds t l ls u p e (through ls u))
      (λ e. cut 1 u (omega arith) (omega arith) p e (λ k v a b s. absurd (omega arith)) (part_fails t l ls u p e)))
      (λ c p. whole (part_refused t l ls c p) (none_behind t l ls c p (suc (length (l ∷ ls)))))

  -- ── the part by what it is ──
  module _ (taken : Taken file x) (log : List ℕ) where
    abbrev ls : List (List ℕ)
    ls = lines_of log

    says-fails : (u : Trace) → verdict_after u ≡ Fails → Says u (formula_of file x) Fails
    says-fails u e = subst (Says u (formula_of file x)) e (verdict_says file x taken u)

    -- a front that ends failing is a front of lines
    record Front (p : List ℕ) : Type 0 where
      pub count : ℕ
      pub trace : Trace
      pub some : 0 < count
      pub within : count ≤ length ls
      pub leaves : steps (next no_trace) (take count ls) ≡ next trace
      pub fails : verdict_after trace ≡ Fails
      pub lines : (n : ℕ) → n ≤ count → take n ls ≡ take n (lines_of p)

    front_lines : (p : List ℕ) → EndsFailing file x log p → Front p
    unfolding read
    front_lines p q =
        let both : ls ≡ lines_of p ++ lines_of q.rest = ap lines_of q.divides ∙ accepted_lines p q.trace q.accepted q.rest in
        let first : (n : ℕ) → n ≤ length (lines_of p) → take n ls ≡ take n (lines_of p) =
        (λ n h. ap (take n) both ∙ take-append-le n (lines_of p) (lines_of q.rest) h) in
        record {
          count = length (lines_of p);
          trace = q.trace;
          some = either_lt 0 (length (lines_of p)) (λ h. h) (λ h. absurd (q.some_line (no_lines p (omega arith))));
          within = omega (arith, ap length both, length-append (lines_of p) (lines_of q.rest));
          leaves = ap (steps (next no_trace)) (ap (take (length (lines_of p))) both ∙ take-append_seam (lines_of p) (lines_of q.rest)) ∙ q.accepted.leaves;
          fails = sym q.fails.answer;
          lines = first;
        }
      where
        nothing : (ms : List (List ℕ)) → length ms ≡ 0 → flat ms ≡ []
        nothing [] e = refl
        nothing (m ∷ ms) e = absurd (omega arith)

        no_lines : (p : List ℕ) → length (lines_of p) ≡ 0 → p ≡ []
        no_lines p e = sym (flat_lines p) ∙ nothing (lines_of p) e

    cut_part : (n : ℕ) (u : Trace) → 0 < n → n ≤ length ls → steps (next no_trace) (take n ls) ≡ next u → verdict_after u ≡ Fails → HoldsTo no_trace ls n
        → ToFailure file x log (flat (take n ls))
    cut_part n u a b s f h =
        shortest
        (record {
          rest = flat (drop n ls);
          divides = sym (flat_lines log) ∙ (ap flat (sym (take-append-drop n ls)) ∙ flat_append (take n ls) (drop n ls));
          some_line = λ e. absurd (omega (arith, ap length (sym (taken_lines (take n ls) no_trace u s) ∙ ap lines_of e), length-take-le n ls b));
          trace = u;
          accepted = lines_accepted (take n ls) [] no_trace no_bytes u s;
          fails = says-fails u f;
        })
        (λ p q.
        let g : Front p = front_lines p q in
        either_lt g.count n
        (λ l. not_both_verdicts (verdict_after g.trace) (h g.count g.trace g.some l g.leaves) g.fails)
        (λ l.
        let same : length (flat (take n ls)) ≡ length (flat (take n (lines_of p))) = ap (λ (ms : List (List ℕ)). length (flat ms)) (g.lines n l) in
        omega (arith, same, flat-front n (lines_of p), ap length (flat_lines p))))

    whole_part : HoldsTo no_trace ls (suc (length ls)) → ToFailure file x log (flat ls)
    whole_part h =
        all (flat_lines log)
        (λ p q.
        let g : Front p = front_lines p q in
        not_both_verdicts (verdict_after g.trace) (h g.count g.trace g.some (omega (arith, g.within)) g.leaves) g.fails)

    to_failure_lem : ToFailure file x log (flat (to_failure file x no_trace ls))
    to_failure_lem = go (through ls no_trace)
      where
        go : Through no_trace ls (to_failure file x no_trace ls) → ToFailure file x log (flat (to_failure file x no_trace ls))
        go (cut n u a b s f h m) = subst (λ (ms : List (List ℕ)). ToFailure file x log (flat ms)) (sym m) (cut_part n u a b s f h)
        go (whole m h) = subst (λ (ms : List (List ℕ)). ToFailure file x log (flat ms)) (sym m) (whole_part h)

    -- its lines are those through the first that fails
    part_lines : lines_of (flat (to_failure file x no_trace ls)) ≡ to_failure file x no_trace ls
    part_lines = go (through ls no_trace)
      where
        go : Through no_trace ls (to_failure file x no_trace ls) → lines_of (flat (to_failure file x no_trace ls)) ≡ to_failure file x no_trace ls
        go (cut n u a b s f h m) = subst (λ (ms : List (List ℕ)). lines_of (flat ms) ≡ ms) (sym m) (taken_lines (take n ls) no_trace u s)
        go (whole m h) = subst (λ (ms : List (List ℕ)). lines_of (flat ms) ≡ ms) (sym m) (ap lines_of (flat_lines log))

-- ── the part that is read ──
pub part_full : (file log : List ℕ) → read_part Full file log ≡ log
unfolding read_part
part_full file log = refl

pub part_unruled : (mode : Mode) (file log : List ℕ) (c : Refusal) → rule_of file ≡ Err c → read_part mode file log ≡ log
unfolding read_part
part_unruled Full file log c e = refl
part_unruled FirstFailure file log c e = with_refused (rule_of file) c _ _ e

module _ (file : List ℕ) (x : Rule) (rule : rule_of file ≡ Ok x) where
  rule_taken : Taken file x
  rule_taken = (reads_rule file (Ok x) (sym rule)).taken x refl

  pub part_ruled : (log : List ℕ) → read_part FirstFailure file log ≡ flat (to_failure file x no_trace (lines_of log))
  unfolding read_part
  part_ruled log = with_taken (rule_of file) x _ _ rule

  -- THE LAW: it is what the mode says
  pub part_of_lem : (mode : Mode) (log : List ℕ) → PartOf mode file x log (read_part mode file log)
  part_of_lem Full log = part_full file log
  part_of_lem FirstFailure log = subst (ToFailure file x log) (sym (part_ruled log)) (to_failure_lem file x rule_taken log)

  pub lines_of_part : (mode : Mode) (log : List ℕ) → lines_read mode file x (lines_of log) ≡ lines_of (read_part mode file log)
  unfolding lines_read read_part
  lines_of_part Full log = refl
  lines_of_part FirstFailure log = sym (ap lines_of (part_ruled log) ∙ part_lines file x rule_taken log)

-- ── the lines, by the mode ──
module _ (lay : Layout) (mode : Mode) (file : List ℕ) (x : Rule) (ls : List (List ℕ)) (w out : List ℕ) (a : LogRead) (v o : List ℕ) where
  abbrev Reads : List (List ℕ) → Type 0
  Reads ms = ◌≡◌ {A = LogRead × List ℕ × List ℕ} (a, v, o) (lines_from lay file x no_trace ms w out)

  pub full_lines : mode ≡ Full → Reads ls → Reads (lines_read mode file x ls)
  unfolding lines_read
  full_lines e r = subst (λ (m : Mode). Reads (lines_read m file x ls)) (sym e) r

  pub failing_lines : mode ≡ FirstFailure → Reads (to_failure file x no_trace ls) → Reads (lines_read mode file x ls)
  unfolding lines_read
  failing_lines e r = subst (λ (m : Mode). Reads (lines_read m file x ls)) (sym e) r

-- ── there is one such part ──
pub same_front : (log p q r s : List ℕ) → log ≡ p ++ r → log ≡ q ++ s → length p ≡ length q → p ≡ q
same_front log p q r s e f l =
    sym (ap (take (length p)) e ∙ take-append_seam p r) ∙ (ap (λ (n : ℕ). take n log) l ∙ (ap (take (length q)) f ∙ take-append_seam q s))

one_failing : (file : List ℕ) (x : Rule) (log p q : List ℕ) → ToFailure file x log p → ToFailure file x log q → p ≡ q
one_failing file x log p q (shortest a f) (shortest b g) = same_front log p q a.rest b.rest a.divides b.divides (omega (arith, f q b, g p a))
one_failing file x log p q (shortest a f) (all e g) = absurd (g p a)
one_failing file x log p q (all d f) (shortest b g) = absurd (f q b)
one_failing file x log p q (all d f) (all e g) = d ∙ sym e

pub one_part : (mode : Mode) (file : List ℕ) (x : Rule) (log p q : List ℕ) → PartOf mode file x log p → PartOf mode file x log q → p ≡ q
one_part Full file x log p q d e = d ∙ sym e
one_part FirstFailure file x log p q d e = one_failing file x log p q d e

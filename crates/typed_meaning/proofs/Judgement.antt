-- What refuses a formula behind the grammar, and what nothing refuses: each answer of the test, with what it tells.
use Prim.Native.Nat.{ℕ, ◌<◌, ◌≤◌}
use mathlib.Core.Path.{◌≡◌}
use mathlib.Core.Bool.{true, false}
use lib.ListN.{length}
use borrow.Author.Tests.{lt-ltb, le-ltb}
use Rattle.std.specs.Prelude.{Result, Ok, Err}
use Rattle.lists.proofs.Cases.{either_lt, either_bool}
use Rattle.rules.specs.Formula.{Formula, no_scope, scoped, shallow}
use Rattle.typed_grammar.specs.File.{labels_of}
use Rattle.text_labels.specs.Pieces.{good_labels?}
use Rattle.typed_checks.specs.Said.{judged}
use Rattle.refusals.specs.declared.Refusal.{Refusal}
use Rattle.refusals.specs.declared.Refusal.TheVariants.{RuleCount, RuleLabel, RuleUnbound, RuleTooDeep}
use Rattle.typed_file.proofs.TakenFile.{Passed}

-- at most 64 nodes, and at most 16 labels
pub record Few (n : ℕ) (f : Formula) : Type 0 where
  pub nodes : n ≤ 64
  pub labels : length (labels_of f) ≤ 16

-- a decision on a formula of n nodes, and why
pub data Judgement (n : ℕ) (f : Formula) : Result ℕ Refusal → Type 0 where
  many_nodes : 64 < n → Judgement n f (Err RuleCount)
  many_labels : 16 < length (labels_of f) → Judgement n f (Err RuleCount)
  wrong : Few n f → good_labels? (labels_of f) ≡ false → Judgement n f (Err RuleLabel)
  open_name : Few n f → good_labels? (labels_of f) ≡ true → scoped f no_scope ≡ false → Judgement n f (Err RuleUnbound)
  deep : Few n f → good_labels? (labels_of f) ≡ true → scoped f no_scope ≡ true → shallow 4 f ≡ false → Judgement n f (Err RuleTooDeep)
  fine : Passed n f → Judgement n f (Ok (length (labels_of f)))

-- ── a test that refuses, and one that does not ──
module _ (n : ℕ) (f : Formula) where
  pub judged_nodes : 64 < n → judged n f ≡ Err RuleCount
  unfolding judged
  judged_nodes h = simp (lt-ltb 64 n h)

  pub judged_labels : 16 < length (labels_of f) → judged n f ≡ Err RuleCount
  unfolding judged
  judged_labels h =
      either_lt 64 n
      (λ l. simp (lt-ltb 64 n l))
      (λ l. simp (le-ltb 64 n l, lt-ltb 16 (length (labels_of f)) h))

  module _ (few : Few n f) where
    pub judged-wrong : good_labels? (labels_of f) ≡ false → judged n f ≡ Err RuleLabel
    unfolding judged
    judged-wrong e = simp (le-ltb 64 n few.nodes, le-ltb 16 (length (labels_of f)) few.labels, e)

    pub judged_open : good_labels? (labels_of f) ≡ true → scoped f no_scope ≡ false → judged n f ≡ Err RuleUnbound
    unfolding judged
    judged_open e s = simp (le-ltb 64 n few.nodes, le-ltb 16 (length (labels_of f)) few.labels, e, s)

    pub judged-deep : good_labels? (labels_of f) ≡ true → scoped f no_scope ≡ true → shallow 4 f ≡ false → judged n f ≡ Err RuleTooDeep
    unfolding judged
    judged-deep e s d = simp (le-ltb 64 n few.nodes, le-ltb 16 (length (labels_of f)) few.labels, e, s, d)

  judged_fine : Passed n f → judged n f ≡ Ok (length (labels_of f))
  unfolding judged
  judged_fine p = simp (le-ltb 64 n p.nodes, le-ltb 16 (length (labels_of f)) p.labels, p.form, p.closed, p.nested)

  -- behind the counts; behind the labels; behind the names
  judged-few : Few n f → Judgement n f (judged n f)
  judged-few h =
      either_bool (good_labels? (labels_of f))
      (λ e. either_bool (scoped f no_scope)
      (λ s. either_bool (shallow 4 f)
      (λ d. let p : Passed n f = record { nodes = h.nodes; labels = h.labels; form = e; closed = s; nested = d } in rw (judged_fine p) (fine p))
      (λ d. rw (judged-deep h e s d) (deep h e s d)))
      (λ s. rw (judged_open h e s) (open_name h e s)))
      (λ e. rw (judged-wrong h e) (wrong h e))

  -- the test answers for one of these reasons
  pub judgement : Judgement n f (judged n f)
  judgement =
      either_lt 64 n
      (λ h. rw (judged_nodes h) (many_nodes h))
      (λ h. either_lt 16 (length (labels_of f))
      (λ l. rw (judged_labels l) (many_labels l))
      (λ l. judged-few (record { nodes = h; labels = l })))

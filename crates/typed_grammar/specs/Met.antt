-- Where a typed rule meets a refusal. "Limits and numbers 4, 5, 9 and 10 carry over, met in that order after the grammar. Answers: 25
-- for text outside the grammar or above 4,096 bytes, first after 20."
use Rattle.std.specs.Prelude.{ℕ, suc, ◌≤◌, ◌<◌, ◌≡◌, ◌≢◌, List, [], length, get_or}
use Rattle.rules.specs.Formula.{Pairing}
use Rattle.grammar.specs.Written.{IsLabel}
use Rattle.typed_grammar.specs.Grammar.{Tree, either, both, neg, exists, has, pair, Says}
use Rattle.typed_grammar.specs.Formula.{formula_said}
use Rattle.typed_grammar.specs.File.{node_count}

-- ── what a tree has ──
-- the label stands in it
pub data LabelIn (l : List ℕ) : Tree → Type 0 where
  in_left : {t u : Tree} → LabelIn l t → LabelIn l (either t u)
  in_right : {t u : Tree} → LabelIn l u → LabelIn l (either t u)
  in_first : {t u : Tree} → LabelIn l t → LabelIn l (both t u)
  in_second : {t u : Tree} → LabelIn l u → LabelIn l (both t u)
  in_not : {t : Tree} → LabelIn l t → LabelIn l (neg t)
  in_some : {n : List ℕ} {t : Tree} → LabelIn l t → LabelIn l (exists n t)
  here : {n : List ℕ} → LabelIn l (has n l)

-- the name is used outside every "exist" that binds it
pub data Free (n : List ℕ) : Tree → Type 0 where
  in_left : {t u : Tree} → Free n t → Free n (either t u)
  in_right : {t u : Tree} → Free n u → Free n (either t u)
  in_first : {t u : Tree} → Free n t → Free n (both t u)
  in_second : {t u : Tree} → Free n u → Free n (both t u)
  in_not : {t : Tree} → Free n t → Free n (neg t)
  in_some : {m : List ℕ} {t : Tree} → m ≢ n → Free n t → Free n (exists m t)
  has_it : {l : List ℕ} → Free n (has n l)
  is_first : {p : Pairing} {m : List ℕ} → Free n (pair p n m)
  is_second : {p : Pairing} {m : List ℕ} → Free n (pair p m n)

-- so many names are bound one inside another
pub data Nested : ℕ → Tree → Type 0 where
  none : {t : Tree} → Nested 0 t
  in_left : {k : ℕ} {t u : Tree} → Nested k t → Nested k (either t u)
  in_right : {k : ℕ} {t u : Tree} → Nested k u → Nested k (either t u)
  in_first : {k : ℕ} {t u : Tree} → Nested k t → Nested k (both t u)
  in_second : {k : ℕ} {t u : Tree} → Nested k u → Nested k (both t u)
  in_not : {k : ℕ} {t : Tree} → Nested k t → Nested k (neg t)
  skipped : {k : ℕ} {n : List ℕ} {t : Tree} → Nested k t → Nested k (exists n t)
  one_more : {k : ℕ} {n : List ℕ} {t : Tree} → Nested k t → Nested (suc k) (exists n t)

-- ── limits ──
-- different labels of a tree
pub record Different (t : Tree) (ls : List (List ℕ)) : Type 0 where
  pub among : (i : ℕ) → i < length ls → LabelIn (get_or ls i []) t
  pub none_twice : (i j : ℕ) → i < j → j < length ls → get_or ls i [] ≢ get_or ls j []

-- more than 64 nodes, or more than 16 labels
pub data TooMany (t : Tree) : Type 0 where
  nodes : 64 < node_count (formula_said t) → TooMany t
  labels : (ls : List (List ℕ)) → Different t ls → 16 < length ls → TooMany t

-- ── the refusals, of a text and a buffer of so many bytes for the rule file ──
pub data MetText (text : List ℕ) (room c : ℕ) : Type 0 where
  -- "20", before all else
  short_buffer : room < 599 → c ≡ 20 → MetText text room c
  -- "25 for text outside the grammar or above 4,096 bytes"
  outside : 599 ≤ room → ((t : Tree) → Says text t → ⊥) → c ≡ 25 → MetText text room c
  -- "4 a count outside its range"
  too_many : 599 ≤ room → (t : Tree) → Says text t → TooMany t → c ≡ 4 → MetText text room c
  -- "5 a label of wrong length or byte"
  wrong_label : 599 ≤ room → (t : Tree) → Says text t → (TooMany t → ⊥)
      → (l : List ℕ) → LabelIn l t → (IsLabel l → ⊥) → c ≡ 5 → MetText text room c
  -- "9 an unbound variable": a name used outside every "exist" of it
  unbound : 599 ≤ room → (t : Tree) → Says text t → (TooMany t → ⊥) → ((l : List ℕ) → LabelIn l t → IsLabel l)
      → (n : List ℕ) → Free n t → c ≡ 9 → MetText text room c
  -- "10 five "some" nodes nested": five names
  nested : 599 ≤ room → (t : Tree) → Says text t → (TooMany t → ⊥) → ((l : List ℕ) → LabelIn l t → IsLabel l)
      → ((n : List ℕ) → Free n t → ⊥) → Nested 5 t → c ≡ 10 → MetText text room c

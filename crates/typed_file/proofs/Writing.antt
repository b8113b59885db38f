-- Writing the parts of a file one behind another.
use Prim.Native.Nat.{ℕ, ◌+◌, ◌*◌, ◌<◌, ◌≤◌}
use mathlib.Core.Path.{◌≡◌, refl, sym, ap, ◌∙◌}
use mathlib.Core.List.{List, [], ◌∷◌, ◌++◌, append_assoc}
use native.Mathlib.Omega.{arith}
use native.Mathlib.Numerals.{add-one}
use lib.ListN.{length, get_or, take}
use lib.Seq.{take-suc, take_all}
use borrow.Author.Tests.{eq-eqb, ne_eqb}
use Rattle.lists.proofs.Lists.{append-nil}
use Rattle.output.specs.Output.{Appends}
use Rattle.output.proofs.Output.{appends_more, appends_same, appends_none}
use Rattle.labels.specs.Label.{capitals, label_of}
use Rattle.labels.specs.declared.Label.{Label}
use Rattle.labels.proofs.Same.{text_of}
use Rattle.typed_formula.specs.Meaning.{label_text}
use Rattle.text_labels.specs.Pieces.{Cut, Finds, texts}
use Rattle.typed_checks.proofs.Numbers.{texts-long, texts_append}
use Rattle.grammar.specs.Layout.{front, labels_part}
use Rattle.typed_file.specs.File.{label_bytes, second, node_bytes, nodes_bytes, file_from, Short, Fit}

-- ── labels ──
-- the label that the code makes of a piece of the text
module _ (text : List ℕ) (n : ℕ) (x : List ℕ) (k : Cut text n x) where
  module _ (l : Label) (e : l ≡ label_of (capitals x)) where
    label_is : l ≡ label_of (label_text text n)
    label_is = e ∙ ap label_of k.bytes

    label_size_lem : l.length ≡ length (label_text text n)
    unfolding label_of
    label_size_lem = ap (λ (y : Label). y.length) label_is

    label_said_lem : take l.length l.bytes ≡ label_text text n
    label_said_lem = ap (λ (y : Label). take y.length y.bytes) label_is ∙ text_of (label_text text n)

    pub label_few : length (label_text text n) ≤ 24 → l.length ≤ 24
    label_few h = omega (arith, label_size_lem)

    module _ (a b : List ℕ) (at p : ℕ) (m : Appends a at (l.length ∷ []) b p) where
      pub label_fits : (length (label_text text n) ≤ 24) × (at + 25 ≤ length a) → p + length (take l.length l.bytes) ≤ length b
      label_fits h = omega (arith, ap length label_said_lem, m.end, m.long)

      pub wrote_label : (c : List ℕ) (q : ℕ) → Appends b p (take l.length l.bytes) c q → Appends a at (label_bytes (label_text text n)) c q
      wrote_label c q o =
          appends_more a b c (length (label_text text n) ∷ []) (label_text text n) at p q
          (appends_same a b _ _ at p (ap (λ (i : ℕ). i ∷ []) label_size_lem) m)
          (appends_same b c _ _ p q label_said_lem o)

pub list_append : (xs ys : List (List ℕ)) → labels_part (xs ++ ys) ≡ labels_part xs ++ labels_part ys
list_append [] ys = refl
list_append (x ∷ xs) ys = ap (λ (l : List ℕ). label_bytes x ++ l) (list_append xs ys) ∙ sym (append_assoc (label_bytes x) (labels_part xs) (labels_part ys))

pub record Labelled (text places out₀ : List ℕ) (at : ℕ) (out : List ℕ) (p i : ℕ) : Type 0 where
  pub done : Appends out₀ at (labels_part (texts text (take i places))) out p
  pub few : i ≤ length places
  pub room : p ≤ at + 25 * i
  pub fits : at + 25 * length places ≤ length out₀
  pub short : Short text places

pub labelled_first : (text places out : List ℕ) (at : ℕ) → Short text places × (at + 25 * length places ≤ length out) → Labelled text places out at out at 0
labelled_first text places out at h = record { done = appends_none out at (omega (arith, h.1)); few = omega arith; room = omega arith; fits = h.1; short = h.0 }

module _ (text places out₀ : List ℕ) (at : ℕ) (out : List ℕ) (p i : ℕ) (l : Labelled text places out₀ at out p i) where
  pub labelled_room : i < length places → (length (label_text text (get_or places i 0)) ≤ 24) × (p + 25 ≤ length out)
  labelled_room h = (l.short i h, omega (arith, l.room, l.fits, l.done.long))

  pub labelled_next : (out' : List ℕ) (p' : ℕ) → i < length places → Appends out p (label_bytes (label_text text (get_or places i 0))) out' p' → Labelled text places out₀ at out' p' (i + 1)
  labelled_next out' p' h x =
      let b = get_or places i 0 in
      let t : take (i + 1) places ≡ take i places ++ (b ∷ []) = rw (add-one i) (take-suc places i 0 h) in
      let e : labels_part (texts text (take i places)) ++ label_bytes (label_text text b) ≡ labels_part (texts text (take (i + 1) places)) =
      sym (ap (λ (k : List ℕ). labels_part (texts text k)) t
      ∙ (ap labels_part (texts_append text (take i places) (b ∷ []))
      ∙ (list_append (texts text (take i places)) (label_text text b ∷ [])
      ∙ ap (λ (k : List ℕ). labels_part (texts text (take i places)) ++ k) (append-nil (label_bytes (label_text text b)))))) in
      record {
        done = appends_same out₀ out' _ _ at p' e (appends_more out₀ out out' (labels_part (texts text (take i places))) (label_bytes (label_text text b)) at p p' l.done x);
        few = omega arith;
        room = omega (arith, l.room, x.end, l.short i h);
        fits = l.fits;
        short = l.short;
      }

  pub labelled_end : length places ≤ i → Appends out₀ at (labels_part (texts text places)) out p × (p ≤ at + 25 * length places)
  labelled_end h =
      let e : labels_part (texts text (take i places)) ≡ labels_part (texts text places) = ap (λ (k : List ℕ). labels_part (texts text k)) (take_all i places h) in
      (appends_same out₀ out _ _ at p e l.done, omega (arith, l.room, l.few))

-- ── nodes ──
module _ (text places : List ℕ) (kind b : ℕ) where
  pub second-has : (r : ℕ) → kind ≡ 4 → Finds text places b r → r ≡ second (texts text places) text kind b
  second-has r e f = f.number ∙ sym (simp (eq-eqb kind 4 e))

  pub second_else : (kind ≡ 4 → ⊥) → b ≡ second (texts text places) text kind b
  second_else n = sym (simp (ne_eqb kind 4 n))

module _ (text tb : List ℕ) (n : ℕ) (places : List ℕ) (f : Fit text tb n places) (i : ℕ) where
  pub fit_kind : (h : (i < n)) → get_or tb (3 * i) 0 < 256
  fit_kind h = f.kinds i h

  pub fit_first : (i < n) → get_or tb (3 * i + 1) 0 < 256
  fit_first h = f.firsts i h

  pub fit_second : (i < n) → (length places ≤ 16) × ((get_or tb (3 * i) 0 ≡ 4 → ⊥) → get_or tb (3 * i + 2) 0 < 256)
  fit_second h = (f.labels, f.seconds i h)

pub wrote_node : (ls : List (List ℕ)) (text tb : List ℕ) (i : ℕ) (a b : List ℕ) (at r y : ℕ) → y ≡ second ls text (get_or tb (3 * i) 0) (get_or tb (3 * i + 2) 0) → Appends a at (get_or tb (3 * i) 0 ∷ get_or tb (3 * i + 1) 0 ∷ y ∷ []) b r → Appends a at (node_bytes ls text tb i) b r
wrote_node ls text tb i a b at r y e x = appends_same a b _ _ at r (ap (λ (z : ℕ). get_or tb (3 * i) 0 ∷ get_or tb (3 * i + 1) 0 ∷ z ∷ []) e) x

pub record Noded (text tb places : List ℕ) (n : ℕ) (out₀ : List ℕ) (at : ℕ) (out : List ℕ) (p i : ℕ) : Type 0 where
  pub done : Appends out₀ at (nodes_bytes (texts text places) text tb i) out p
  pub end : p ≡ at + 3 * i
  pub fits : at + 3 * n ≤ length out₀
  pub few : i ≤ n
  pub fit : Fit text tb n places

pub noded_first : (text tb places : List ℕ) (n : ℕ) (out : List ℕ) (at : ℕ) → Fit text tb n places → at + 3 * n ≤ length out → Noded text tb places n out at out at 0
unfolding nodes_bytes
noded_first text tb places n out at f h = record { done = appends_none out at (omega arith); end = omega arith; fits = h; few = omega arith; fit = f }

module _ (text tb places : List ℕ) (n : ℕ) (out₀ : List ℕ) (at : ℕ) (out : List ℕ) (p i : ℕ) (l : Noded text tb places n out₀ at out p i) where
  pub noded_room : i < n → Fit text tb n places × ((i < n) × (p + 3 ≤ length out))
  noded_room h = (l.fit, (h, omega (arith, l.end, l.fits, l.done.long)))

  pub noded_next : (out' : List ℕ) (p' : ℕ) → i < n → Appends out p (node_bytes (texts text places) text tb i) out' p' → Noded text tb places n out₀ at out' p' (i + 1)
  unfolding nodes_bytes
  noded_next out' p' h x =
      let e : nodes_bytes (texts text places) text tb i ++ node_bytes (texts text places) text tb i ≡ nodes_bytes (texts text places) text tb (i + 1) = ap (nodes_bytes (texts text places) text tb) (sym (add-one i)) in
      record {
        done = appends_same out₀ out' _ _ at p' e (appends_more out₀ out out' (nodes_bytes (texts text places) text tb i) (node_bytes (texts text places) text tb i) at p p' l.done x);
        end = omega (arith, l.end, x.end);
        fits = l.fits;
        few = omega arith;
        fit = l.fit;
      }

  pub noded_end : n ≤ i → Appends out₀ at (nodes_bytes (texts text places) text tb n) out p
  noded_end h = let e : i ≡ n = omega (arith, l.few) in appends_same out₀ out _ _ at p (ap (nodes_bytes (texts text places) text tb) e) l.done

-- ── the file ──
pub wrote_file : (text tb places : List ℕ) (n m : ℕ) (a b c d e : List ℕ) (p q r z : ℕ) → m ≡ length places → Appends a 0 (front m) b p → Appends b p (labels_part (texts text places)) c q × (q ≤ p + 25 * length places) → Appends c q (n ∷ []) d r → Appends d r (nodes_bytes (texts text places) text tb n) e z → Appends a 0 (file_from text tb n (texts text places)) e z
unfolding file_from
wrote_file text tb places n m a b c d e p q r z em w x y v =
    let ls = texts text places in
    let h = appends_same a b (front m) (front (length ls)) 0 p (ap front (em ∙ sym (texts-long text places))) w in
    appends_more a d e ((front (length ls) ++ labels_part ls) ++ (n ∷ [])) (nodes_bytes ls text tb n) 0 r z
    (appends_more a c d (front (length ls) ++ labels_part ls) (n ∷ []) 0 q r (appends_more a b c (front (length ls)) (labels_part ls) 0 p q h x.0) y) v

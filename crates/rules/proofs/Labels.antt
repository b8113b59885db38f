-- The labels of a file: scans of bytes, what each outcome of a label's tests says, and what is known of labels that are read.
use Prim.Native.Nat.{ℕ, zero, suc, ◌+◌, ◌*◌, ◌-◌, ◌<◌, ◌≤◌}
use mathlib.Core.Path.{◌≡◌, refl, sym, subst, ap, ap₂, ◌∙◌}
use mathlib.Core.Bool.{Bool, true, false, not, ◌&&◌, or-true}
use mathlib.Core.List.{List}
use native.Mathlib.Omega.{arith}
use native.Mathlib.Numerals.{add-one}
use lib.Dec.{leb}
use lib.ListN.{length, take, drop, length-take, length-drop, length-map}
use lib.Seq.{length-take-le}
use borrow.Author.Tests.{le-leb, lt-leb, leb-true, not-true, not-false}
use Rattle.lists.specs.Lists.{same?}
use Rattle.lists.proofs.Cases.{either_eq, no_both, and_left, and_right}
use Rattle.lists.proofs.Lists.{same_refl}
use Rattle.labels.specs.Label.{capital, capitals, max_label_bytes, label_length?, label_form?, label_of}
use Rattle.labels.proofs.Form.{label?, form_label}
use Rattle.labels.specs.declared.Label.{Label}
use Rattle.rules.specs.Parts.{byte, part, and_then}
use Rattle.rules.specs.Labels.{label_start, label_from, label_bytes, listed, read_label, read_labels, LabelOk, LabelsOk}
use Rattle.std.specs.Prelude.{Result, Ok, Err}
use Rattle.refusals.specs.declared.Refusal.{Refusal}
use Rattle.refusals.specs.declared.Refusal.TheVariants.{RuleEndsEarly, RuleLabel}
use Rattle.rules.proofs.Parts.{ok_inj, part_short, part_bad, part_ok, part_read, then-stop, then_at, then_read}

-- ── places ──
-- a label ends no later than a later one starts
pub place_below : (file : List ℕ) (m n : ℕ) → m < n → label_start file m + 1 + byte file (label_start file m) ≤ label_start file n
unfolding label_start
place_below file m zero h = absurd (omega arith)
place_below file m (suc n) h =
    either_eq m n
    (λ e. subst (λ (k : ℕ). label_start file m + 1 + byte file (label_start file m) ≤ label_start file k + 1 + byte file (label_start file k)) e (omega arith))
    (λ d. let i = place_below file m n (omega arith) in omega arith)

pub place_next : (file : List ℕ) (m p : ℕ) → p ≡ label_start file m → p + 1 + byte file p ≡ label_start file (m + 1)
unfolding label_start
place_next file m p e = rw (e, add-one m) refl

pub place_end : (file : List ℕ) (n i p : ℕ) → p ≡ label_start file i → i ≤ n → n ≤ i → p ≡ label_start file n
place_end file n i p e h k = let q : i ≡ n = omega arith in e ∙ ap (label_start file) q

pub place_inside : (file : List ℕ) (m n p at : ℕ) → p ≡ label_start file m → at ≡ label_start file n → m < n → p + 1 + byte file p ≤ at
place_inside file m n p at e f h = rw (e, f) (place_below file m n h)

pub place_high : (file : List ℕ) (n : ℕ) → 6 ≤ label_start file n
unfolding label_start
place_high file zero = omega arith
place_high file (suc n) = let i = place_high file n in omega arith

-- each label takes at most 25 bytes
pub place_low : (file : List ℕ) (n : ℕ) → LabelsOk file n → label_start file n ≤ 6 + 25 * n
unfolding label_start
place_low file zero o = omega arith
place_low file (suc n) o =
    let i = place_low file n (λ j h. o j (omega arith)) in
    let k = (o n (omega arith)).high in
    omega arith

pub place_within : (file : List ℕ) (n : ℕ) → 6 ≤ length file → LabelsOk file n → label_start file n ≤ length file
unfolding label_start
place_within file zero h o = h
place_within file (suc n) h o = (o n (omega arith)).room

-- a label of a file that is taken stands in it, and is not too long
pub label_room_lem : (file : List ℕ) (n i p : ℕ) → LabelsOk file n → p ≡ label_start file i → i < n → p + 1 + byte file p ≤ length file
label_room_lem file n i p o e h = rw e (o i h).room

pub label_size_lem : (file : List ℕ) (n i p : ℕ) → LabelsOk file n → p ≡ label_start file i → i < n → byte file p ≤ max_label_bytes
label_size_lem file n i p o e h = rw e (o i h).high

-- the part of the file that the code hands on is the label
pub bytes_part : (file : List ℕ) (p : ℕ) → capitals (take (p + 1 + byte file p - (p + 1)) (drop (p + 1) file)) ≡ label_from file p
bytes_part file p =
    let e : p + 1 + byte file p - (p + 1) ≡ byte file p = omega arith in
    ap (λ (k : ℕ). capitals (take k (drop (p + 1) file))) e

pub label_part_lem : (file : List ℕ) (n p : ℕ) → p ≡ label_start file n → capitals (take (p + 1 + byte file p - (p + 1)) (drop (p + 1) file)) ≡ label_bytes file n
label_part_lem file n p e = bytes_part file p ∙ ap (label_from file) e

-- the label that the code makes of that part
module _ (file : List ℕ) (n p : ℕ) (o : LabelsOk file (n + 1)) (e : p ≡ label_start file n) where
  pub label_short : length (take (p + 1 + byte file p - (p + 1)) (drop (p + 1) file)) ≤ max_label_bytes
  label_short = let h = label_size_lem file (n + 1) n p o e (omega arith) in simp length-take (omega arith)

  pub label_is : (x : Label) → x ≡ label_of (capitals (take (p + 1 + byte file p - (p + 1)) (drop (p + 1) file))) → (x ≡ label_of (label_bytes file n)) × (x.length ≤ max_label_bytes)
  unfolding label_of
  label_is x f =
      let m = length-map (take (p + 1 + byte file p - (p + 1)) (drop (p + 1) file)) capital in
      (f ∙ ap label_of (label_part_lem file n p e), omega (arith, ap (λ (y : Label). y.length) f, m, label_short))

-- ── a label among those before it ──
abbrev pub alike : List ℕ → ℕ → ℕ → Bool
alike file p at = same? (capitals (take (p + 1 + byte file p - (p + 1)) (drop (p + 1) file))) (capitals (take (at + 1 + byte file at - (at + 1)) (drop (at + 1) file)))

module _ (file : List ℕ) (m p at : ℕ) (d : Bool) (place : p ≡ label_start file m) (says : d ≡ alike file p at) where
  alike-says : d ≡ same? (label_bytes file m) (label_from file at)
  alike-says = says ∙ (ap₂ same? (bytes_part file p) (bytes_part file at) ∙ ap (λ (q : ℕ). same? (label_from file q) (label_from file at)) place)

  pub listed_next : listed file m (label_from file at) ≡ false → d ≡ false → listed file (m + 1) (label_from file at) ≡ false
  unfolding listed
  listed_next e f = rw (add-one m, e) (sym alike-says ∙ f)

listed_found : (file : List ℕ) (n m : ℕ) (l : List ℕ) → m < n → same? (label_bytes file m) l ≡ true → listed file n l ≡ true
unfolding listed
listed_found file zero m l h e = absurd (omega arith)
listed_found file (suc n) m l h e =
    either_eq m n
    (λ q. rw (subst (λ (k : ℕ). same? (label_bytes file k) l ≡ true) q e) (or-true (listed file n l)))
    (λ q. rw (listed_found file n m l (omega arith) e) refl)

pub listed-stop : (file : List ℕ) (n m p at : ℕ) (d : Bool) → p ≡ label_start file m → d ≡ alike file p at → m < n → d ≡ true → true ≡ listed file n (label_from file at)
listed-stop file n m p at d e f h t = sym (listed_found file n m _ h (sym (alike-says file m p at d e f) ∙ t))

pub listed_end : (file : List ℕ) (n m at : ℕ) → listed file m (label_from file at) ≡ false → m ≤ n → n ≤ m → false ≡ listed file n (label_from file at)
listed_end file n m at e h k = let q : m ≡ n = omega arith in sym (subst (λ (i : ℕ). listed file i (label_from file at) ≡ false) q e)

-- ── one label ──
module _ (file : List ℕ) (n at : ℕ) (start : at ≤ length file) where
  pub label_none : length file - at < 1 → Err RuleEndsEarly ≡ read_label file n at
  unfolding read_label
  label_none h = then-stop _ RuleEndsEarly _ (sym (part_short file at 1 _ RuleLabel (omega arith)))

  module _ (h : 1 ≤ length file - at) where
    pub label_empty : byte file at < 1 → Err RuleLabel ≡ read_label file n at
    unfolding read_label
    label_empty k = then-stop _ RuleLabel _ (sym (part_bad file at 1 _ RuleLabel (omega arith) (simp (lt-leb 1 (byte file at) k))))

    module _ (low : 1 ≤ byte file at) where
      pub label_long : max_label_bytes < byte file at → Err RuleLabel ≡ read_label file n at
      unfolding read_label
      label_long k = then-stop _ RuleLabel _ (sym (part_bad file at 1 _ RuleLabel (omega arith) (simp (le-leb 1 (byte file at) low, lt-leb (byte file at) max_label_bytes k))))

      module _ (high : byte file at ≤ max_label_bytes) where
        sized : label_length? (byte file at) ≡ true
        sized = simp (le-leb 1 (byte file at) low, le-leb (byte file at) max_label_bytes high)

        pub label_cut : length file - (at + 1) < byte file at → Err RuleEndsEarly ≡ read_label file n at
        unfolding read_label
        label_cut k = then_at _ (at + 1) _ _ (sym (part_ok file at 1 _ RuleLabel (omega arith) sized)) (part_short file (at + 1) (byte file at) _ RuleLabel (omega arith))

        module _ (room : byte file at ≤ length file - (at + 1)) (l : Bool) (says : l ≡ label_form? (capitals (take (at + 1 + byte file at - (at + 1)) (drop (at + 1) file)))) where
          tested : label_form? (label_from file at) ≡ l
          tested = sym (says ∙ ap label_form? (bytes_part file at))

          faulty : (label_form? (label_from file at) && not (listed file n (label_from file at))) ≡ false → Err RuleLabel ≡ read_label file n at
          unfolding read_label
          faulty e = then_at _ (at + 1) _ _ (sym (part_ok file at 1 _ RuleLabel (omega arith) sized)) (part_bad file (at + 1) (byte file at) _ RuleLabel (omega arith) e)

          pub label_letter : not l ≡ true → Err RuleLabel ≡ read_label file n at
          label_letter t = faulty (simp (tested ∙ not-true l t))

          pub label_twice : (d : Bool) → not l ≡ false → d ≡ listed file n (label_from file at) → d ≡ true → Err RuleLabel ≡ read_label file n at
          label_twice d t f u = faulty (simp (tested ∙ not-false l t, sym f ∙ u))

          pub label_ok : (d : Bool) → not l ≡ false → d ≡ listed file n (label_from file at) → d ≡ false → Ok (at + 1 + byte file at) ≡ read_label file n at
          unfolding read_label
          label_ok d t f u = then_at _ (at + 1) _ _ (sym (part_ok file at 1 _ RuleLabel (omega arith) sized)) (part_ok file (at + 1) (byte file at) _ RuleLabel (omega arith) (simp (tested ∙ not-false l t, sym f ∙ u)))

pub ruleset label-cases = (label_none, label_empty, label_long, label_cut, label_letter, label_twice, label_ok)

-- ── labels that are read ──
pub place_first : (file : List ℕ) → 6 ≡ label_start file 0
unfolding label_start
place_first file = refl

pub label_read : (file : List ℕ) (n q : ℕ) → read_label file n (label_start file n) ≡ Ok q → (q ≡ label_start file (suc n)) × LabelOk file n
unfolding read_label label_start
label_read file n q e =
    let p : ℕ = label_start file n in
    let size : Bool = label_length? (byte file p) in
    let fit : Bool = label_form? (label_from file p) && not (listed file n (label_from file p)) in
    let t = then_read (part file p 1 size RuleLabel) (λ q. part file q (byte file p) fit RuleLabel) q e in
    let u = part_read file p 1 size RuleLabel t.0 t.1 in
    let v = part_read file t.0 (byte file p) fit RuleLabel q t.2 in (
      omega (arith, u.0, v.0),
      record {
        low = leb-true 1 (byte file p) (and_left (leb 1 (byte file p)) (leb (byte file p) max_label_bytes) u.1.1);
        high = leb-true (byte file p) max_label_bytes (and_right (leb 1 (byte file p)) (leb (byte file p) max_label_bytes) u.1.1);
        room = omega (arith, u.0, v.1.0);
        form = and_left (label_form? (label_from file p)) (not (listed file n (label_from file p))) v.1.1;
        fresh = not-true _ (and_right (label_form? (label_from file p)) (not (listed file n (label_from file p))) v.1.1);
      },
    )

pub labels_read : (file : List ℕ) (n q : ℕ) → read_labels file n ≡ Ok q → (q ≡ label_start file n) × LabelsOk file n
unfolding read_labels
labels_read file zero q e = (sym (ok_inj 6 q e) ∙ place_first file, λ i h. absurd (omega arith))
labels_read file (suc n) q e =
    let t = then_read (read_labels file n) (λ p. read_label file n p) q e in
    let w = labels_read file n t.0 t.1 in
    let v = label_read file n q (subst (λ (p : ℕ). read_label file n p ≡ Ok q) w.0 t.2) in
    (v.0, λ i h. either_eq i n (λ g. subst (λ (k : ℕ). LabelOk file k) (sym g) v.1) (λ g. w.1 i (omega arith)))

pub labels_place : (file : List ℕ) (n at : ℕ) → 6 ≤ length file → read_labels file n ≡ Ok at → (at ≡ label_start file n) × (at ≤ length file)
labels_place file n at h e =
    let w = labels_read file n at e in
    let k = place_within file n h w.1 in
    (w.0, omega (arith, w.0))

module _ (file : List ℕ) (n at : ℕ) (r : Result ℕ Refusal) (e : read_labels file n ≡ Ok at) (f : r ≡ read_label file n at) where
  pub labels_next : (q : ℕ) → r ≡ Ok q → read_labels file (n + 1) ≡ Ok q
  unfolding read_labels and_then
  labels_next q g = rw (add-one n, e) (sym f ∙ g)

  pub labels_stop : (k : Refusal) (m : ℕ) → r ≡ Err k → n < m → Err k ≡ read_labels file m
  unfolding read_labels and_then
  labels_stop k zero g h = absurd (omega arith)
  labels_stop k (suc m) g h =
      either_eq n m
      (λ q. sym (rw (subst (λ (i : ℕ). read_labels file i ≡ Ok at) q e) (subst (λ (i : ℕ). read_label file i at ≡ Err k) q (sym f ∙ g))))
      (λ q. rw (sym (labels_stop k m g (omega arith))) refl)

pub labels_end : (file : List ℕ) (n m at : ℕ) → read_labels file n ≡ Ok at → n ≤ m → m ≤ n → Ok at ≡ read_labels file m
labels_end file n m at e h k = let q : n ≡ m = omega arith in sym (subst (λ (i : ℕ). read_labels file i ≡ Ok at) q e)

-- such a label has as many bytes as its length byte says, and the form of a label
module _ (file : List ℕ) (n : ℕ) (o : LabelOk file n) where
  pub label_length : length (label_bytes file n) ≡ byte file (label_start file n)
  label_length =
      length-map (take (byte file (label_start file n)) (drop (label_start file n + 1) file)) capital
      ∙ length-take-le (byte file (label_start file n)) (drop (label_start file n + 1) file) (simp length-drop (omega (arith, o.room)))

  pub label_form : label? (label_bytes file n) ≡ true
  label_form = form_label (label_bytes file n) o.form

-- "none listed twice": two labels of a file that is taken differ in their capitals
pub labels_differ : (file : List ℕ) (n i j : ℕ) → LabelsOk file n → i < j → j < n → label_bytes file i ≡ label_bytes file j → ⊥
labels_differ file n i j o h k e =
    let t : listed file j (label_bytes file j) ≡ true = listed_found file j i _ h (ap (λ (l : List ℕ). same? l (label_bytes file j)) e ∙ same_refl (label_bytes file j)) in
    no_both (sym t ∙ (o j k).fresh)

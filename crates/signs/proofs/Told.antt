-- What an answer of the code says of the definition: the two agree, so that the one tells the other.
use Prim.Native.Nat.{ℕ, ◌<◌, ◌≤◌}
use mathlib.Core.Path.{◌≡◌, refl, sym, ap, ◌∙◌}
use mathlib.Core.Bool.{Bool, true, false, not}
use mathlib.Core.Option.{Option as Maybe, none, some}
use mathlib.Core.List.{List}
use lib.ListN.{length, drop}
use Rattle.std.specs.Prelude.{Option, Some, None, is_some}
use Rattle.lists.proofs.Cases.{no_both}
use Rattle.signs.specs.Signs.{Got, read, outside}
use Rattle.signs.specs.Finding.{SignSays, WordSays, FindsSign, ReadsWord}
use Rattle.signs.specs.declared.Word.{Word}

sign_found : (text : List ℕ) (at : ℕ) (o : Maybe (List ℕ)) (p : ℕ) → SignSays text at o (Some p) → (o ≡ some (drop p text)) × (at < p) × (p ≤ length text)
sign_found text at (some s) p d = (ap some d.0, d.1, d.2)
sign_found text at none p d = absurd d

sign_none : (text : List ℕ) (at : ℕ) (o : Maybe (List ℕ)) → SignSays text at o None → o ≡ none
sign_none text at none d = refl
sign_none text at (some s) d = absurd d

word_found : (text : List ℕ) (at : ℕ) (g : Got ℕ) (w : Word) → WordSays text at g (Some w) → (g ≡ read w.value (drop w.at text)) × (at < w.at) × (w.at ≤ length text)
word_found text at (read n s) w d = let c : n ≡ w.value = sym d.0 in ((λ i. read (c i) (d.1 i)), d.2, d.3)
word_found text at outside w d = absurd d

word_none : (text : List ℕ) (at : ℕ) (g : Got ℕ) → WordSays text at g None → g ≡ outside
word_none text at outside d = refl
word_none text at (read n s) d = absurd d

module _ (text : List ℕ) (at : ℕ) where
  pub found_sign : (o : Maybe (List ℕ)) (p : ℕ) → FindsSign text at o (Some p) → (o ≡ some (drop p text)) × (at < p) × (p ≤ length text)
  found_sign o p x = sign_found text at o p x.says

  pub no_sign : (o : Maybe (List ℕ)) → FindsSign text at o None → o ≡ none
  no_sign o x = sign_none text at o x.says

  pub found_word : (g : Got ℕ) (w : Word) → ReadsWord text at g (Some w) → (g ≡ read w.value (drop w.at text)) × (at < w.at) × (w.at ≤ length text)
  found_word g w x = word_found text at g w x.says

  pub no_word : (g : Got ℕ) → ReadsWord text at g None → g ≡ outside
  no_word g x = word_none text at g x.says

-- ── a sign that is asked for alone ──
pub sign_missing : {text : List ℕ} {at : ℕ} {o : Maybe (List ℕ)} {r : Option ℕ} {b : Bool} → FindsSign text at o r → is_some r ≡ not b → b ≡ true → FindsSign text at o None
sign_missing {r = None} x e h = x
sign_missing {r = Some p} x e h = no_both (e ∙ ap not h)

pub sign_present : {text : List ℕ} {at : ℕ} {o : Maybe (List ℕ)} {r : Option ℕ} {b : Bool} → FindsSign text at o r → b ≡ is_some r → b ≡ false → FindsSign text at o None
sign_present {r = None} x e h = x
sign_present {r = Some p} x e h = no_both (sym e ∙ h)

-- What is left of the bytes decides: those inside the length are bytes of a label, those behind it are 0.
use mathlib.Core.Path.{◌≡◌}
use mathlib.Core.Bool.{true}
use borrow.Author.Rules.{rules}
use borrow.Author.Tests.{not-true, not-false}
use lib.ListN.{length}
use Rattle.labels.proofs.Same.{sound_next, sound_not, sound_end, sound_start, sound_long}
use Rattle.labels.proofs.is_sound.Goals as goal

pub returns-then-n-gt-MAX_LABEL_BYTES : goal.returns-then-n-gt-MAX_LABEL_BYTES
returns-then-n-gt-MAX_LABEL_BYTES c = (search sound_long, search rules)

pub loop-i-init : goal.loop-i-init
loop-i-init c = sound_start _ (search rules)

pub returns-then-not-byte_sound : goal.returns-then-not-byte_sound
returns-then-not-byte_sound c = let e : length c.args.x.bytes ≡ 24 = search rules in
    (sound_not _ c.args.x.length c.loop-i.i 24 _ _ c.loop-i.invariant e (search rules) c.byte_sound.ensures (not-true _ c.if-not-byte_sound.true-raw), e)

pub loop-i-preserved : goal.loop-i-preserved
loop-i-preserved c = let e : length c.args.x.bytes ≡ 24 = search rules in
    sound_next _ c.args.x.length c.loop-i.i 24 _ _ c.loop-i.invariant e (search rules) c.byte_sound.ensures (not-false _ c.if-not-byte_sound.false-raw)

pub returns : goal.returns
returns c = let e : length c.args.x.bytes ≡ 24 = search rules in
    (sound_end _ c.args.x.length c.loop-i.i 24 _ true c.loop-i.invariant e (search rules), e)

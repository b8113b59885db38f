-- The search of the table is the search from the place at hand, through the places that are left.
use borrow.Author.Rules.{rules}
use mathlib.Core.Path.{◌≡◌, ap, ◌∙◌}
use native.Mathlib.Omega.{arith}
use Prim.Native.Nat.{ℕ, ◌<◌, ◌+◌, ◌-◌, ◌%◌}
use Rattle.labels.specs.Table.{place_at, label_at, first_place}
use Rattle.labels.specs.Search.{probe, Readable}
use Rattle.labels.proofs.Probe.{first_low, turn_free, turn_seen, turn_next, turn_full}
use Rattle.labels.proofs.Table.{finds}
use Rattle.labels.proofs.find_label.Goals as goal

pub loop-k-init : goal.loop-k-init
loop-k-init c =
    let a = c.args in
    let low : first_place a.x < 128 = first_low a.x in
    let e : first_place a.x ≡ (c.first_place-first.result + 0) % 128 = omega (arith, c.first_place-first.ensures) in
    ap (λ (p : ℕ). probe (place_at a.t.places) (label_at a.t.labels) a.x p 128) e

pub overflow_add-p : goal.overflow_add-p
overflow_add-p c = omega (arith, c.first_place-first.ensures, first_low c.args.x)

pub returns-then-n-eq0 : goal.returns-then-n-eq0
returns-then-n-eq0 c = finds _ _ _ (search (rules, turn_free))

pub offset_bounds-t-m : goal.offset_bounds-t-m
unfolding Readable
offset_bounds-t-m c = search rules

pub bounds-t-m : goal.bounds-t-m
unfolding Readable
bounds-t-m c = search rules

pub returns-then-equal_labels : goal.returns-then-equal_labels
returns-then-equal_labels c = finds _ _ _ (search (rules, turn_seen))

pub loop-k-preserved : goal.loop-k-preserved
loop-k-preserved c =
    let a = c.args in
    let first = c.first_place-first.result in
    let k = c.loop-k.k in
    let e : 128 - k - 1 ≡ 128 - (k + 1) = omega arith in
    turn_next a.t a.x _ _ ((first + k) % 128) (128 - k) _ ((first + (k + 1)) % 128) c.loop-k.invariant (omega arith) (search rules) (search rules)
    c.equal_labels.ensures c.if-equal_labels.false (omega arith)
    ∙ ap (λ (left : ℕ). probe (place_at a.t.places) (label_at a.t.labels) a.x ((first + (k + 1)) % 128) left) e

pub returns : goal.returns
returns c = finds _ _ _ (search (rules, turn_full))

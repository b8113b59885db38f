-- The nodes of a tree stand in the table that it leaves, and what is stored later leaves them alone.
use Prim.Native.Nat.{ℕ, ◌+◌, ◌-◌, ◌*◌, ◌<◌, ◌≤◌}
use mathlib.Core.Path.{◌≡◌, ◌∙◌}
use mathlib.Core.List.{List}
use native.Mathlib.Omega.{arith}
use lib.ListN.{length, get_or, set, length-set}
use lib.Seq.{get_or-set_same, get_or-set_other}
use borrow.Author.Tests.{lt-ltb, le-ltb}
use Rattle.lists.proofs.Cases.{either_lt}
use Rattle.atoms.specs.Tree.{Tree, either, both, neg, exists, has, pair, size}
use Rattle.atoms.specs.Emit.{Names, level, inside, put, close_or, emit}

pub size_some : (t : Tree) → 1 ≤ size t
size_some (either l r) = omega arith
size_some (both l r) = omega arith
size_some (neg t) = omega arith
size_some (exists n t) = omega arith
size_some (has n l) = omega arith
size_some (pair q n m) = omega arith

pub record NodeIs (tb : List ℕ) (i kind a b : ℕ) : Type 0 where
  pub at_kind : get_or tb (3 * i) 0 ≡ kind
  pub at_a : get_or tb (3 * i + 1) 0 ≡ a
  pub at_b : get_or tb (3 * i + 2) 0 ≡ b

-- the nodes of a tree from node k on
unfoldable pub Stands : List ℕ → Names → Tree → ℕ → Type 0
Stands tb ns (either l r) k =
    Stands tb ns l k × NodeIs tb (k + size l) 2 (k + size l - 1) 0 × Stands tb ns r (k + size l + 1)
    × NodeIs tb (k + size l + 1 + size r) 2 (k + size l + 1 + size r - 1) 0
    × NodeIs tb (k + size l + 1 + size r + 1) 1 (k + size l) (k + size l + 1 + size r)
    × NodeIs tb (k + size l + 1 + size r + 2) 2 (k + size l + 1 + size r + 1) 0
Stands tb ns (both l r) k =
    Stands tb ns l k × Stands tb ns r (k + size l) × NodeIs tb (k + size l + size r) 1 (k + size l - 1) (k + size l + size r - 1)
Stands tb ns (neg t) k = Stands tb ns t k × NodeIs tb (k + size t) 2 (k + size t - 1) 0
Stands tb ns (exists n t) k = Stands tb (inside ns n) t k × NodeIs tb (k + size t) 3 (length ns) (k + size t - 1)
Stands tb ns (has n l) k = NodeIs tb k 4 (level ns n) l
Stands tb ns (pair q n m) k = NodeIs tb k q (level ns n) (level ns m)

-- ── stores ──
abbrev pub Alike : List ℕ → List ℕ → ℕ → Type 0
Alike x y j = (i : ℕ) → i < 3 * j → get_or y i 0 ≡ get_or x i 0

module _ (tb : List ℕ) (k kind a b : ℕ) where
  pub put-long : length (put tb k kind a b) ≡ length tb
  unfolding put
  put-long = either_lt k 64 (λ h. rw (lt-ltb k 64 h) (simp length-set)) (λ h. rw (le-ltb k 64 h))

  pub put_below : Alike tb (put tb k kind a b) k
  unfolding put
  put_below i l =
      either_lt k 64
      (λ h. rw (lt-ltb k 64 h, get_or-set_other (set (set tb (3 * k) kind) (3 * k + 1) a) (3 * k + 2) i b 0 (λ q. omega arith), get_or-set_other (set tb (3 * k) kind) (3 * k + 1) i a 0 (λ q. omega arith), get_or-set_other tb (3 * k) i kind 0 (λ q. omega arith)))
      (λ h. rw (le-ltb k 64 h))

  pub put_here : k < 64 → 192 ≤ length tb → NodeIs (put tb k kind a b) k kind a b
  unfolding put
  put_here h l =
      let x = set tb (3 * k) kind in
      let y = set x (3 * k + 1) a in
      let lx : length x ≡ length tb = length-set tb (3 * k) kind in
      let ly : length y ≡ length x = length-set x (3 * k + 1) a in
      rw (lt-ltb k 64 h) (record {
        at_kind = get_or-set_other y (3 * k + 2) (3 * k) b 0 (λ q. omega arith) ∙ (get_or-set_other x (3 * k + 1) (3 * k) a 0 (λ q. omega arith) ∙ get_or-set_same tb (3 * k) kind 0 (omega arith));
        at_a = get_or-set_other y (3 * k + 2) (3 * k + 1) b 0 (λ q. omega arith) ∙ get_or-set_same x (3 * k + 1) a 0 (omega arith);
        at_b = get_or-set_same y (3 * k + 2) b 0 (omega arith);
      })

alike_trans : (x y z : List ℕ) (i j : ℕ) → i ≤ j → Alike x y i → Alike y z j → Alike x z i
alike_trans x y z i j h a b m l = b m (omega arith) ∙ a m l

module _ (x y : List ℕ) (j : ℕ) (e : Alike x y j) where
  node_kept : (i kind a b : ℕ) → i < j → NodeIs x i kind a b → NodeIs y i kind a b
  node_kept i kind a b h n =
      record { at_kind = e (3 * i) (omega arith) ∙ n.at_kind; at_a = e (3 * i + 1) (omega arith) ∙ n.at_a; at_b = e (3 * i + 2) (omega arith) ∙ n.at_b }

pub stands_kept : (t : Tree) (ns : Names) (x y : List ℕ) (k j : ℕ) → Alike x y j → k + size t ≤ j → Stands x ns t k → Stands y ns t k
unfolding Stands
stands_kept (either l r) ns x y k j e h s = (
  stands_kept l ns x y k j e (omega arith) s.0,
  node_kept x y j e (k + size l) 2 (k + size l - 1) 0 (omega arith) s.1,
  stands_kept r ns x y (k + size l + 1) j e (omega arith) s.2,
  node_kept x y j e (k + size l + 1 + size r) 2 (k + size l + 1 + size r - 1) 0 (omega arith) s.3,
  node_kept x y j e (k + size l + 1 + size r + 1) 1 (k + size l) (k + size l + 1 + size r) (omega arith) s.4,
  node_kept x y j e (k + size l + 1 + size r + 2) 2 (k + size l + 1 + size r + 1) 0 (omega arith) s.5,
)
stands_kept (both l r) ns x y k j e h s = (
  stands_kept l ns x y k j e (omega arith) s.0,
  stands_kept r ns x y (k + size l) j e (omega arith) s.1,
  node_kept x y j e (k + size l + size r) 1 (k + size l - 1) (k + size l + size r - 1) (omega arith) s.2,
)
stands_kept (neg t) ns x y k j e h s = (stands_kept t ns x y k j e (omega arith) s.0, node_kept x y j e (k + size t) 2 (k + size t - 1) 0 (omega arith) s.1)
stands_kept (exists n t) ns x y k j e h s = (stands_kept t (inside ns n) x y k j e (omega arith) s.0, node_kept x y j e (k + size t) 3 (length ns) (k + size t - 1) (omega arith) s.1)
stands_kept (has n l) ns x y k j e h s = node_kept x y j e k 4 (level ns n) l (omega arith) s
stands_kept (pair q n m) ns x y k j e h s = node_kept x y j e k q (level ns n) (level ns m) (omega arith) s

-- ── the nodes of a tree ──
module _ (tb : List ℕ) (k n : ℕ) where
  close_long : length (close_or tb k n) ≡ length tb
  unfolding close_or
  close_long = simp put-long

  close_below : Alike tb (close_or tb k n) n
  unfolding close_or
  close_below =
      let a = put tb n 2 (n - 1) 0 in
      let b = put a (n + 1) 1 k n in
      alike_trans tb b (put b (n + 2) 2 (n + 1) 0) n (n + 2) (omega arith) (alike_trans tb a b n (n + 1) (omega arith) (put_below tb n 2 (n - 1) 0) (put_below a (n + 1) 1 k n)) (put_below b (n + 2) 2 (n + 1) 0)

pub emit-long : (t : Tree) (tb : List ℕ) (k : ℕ) (ns : Names) → length (emit tb k ns t) ≡ length tb
unfolding emit
emit-long (either l r) tb k ns =
    let m = k + size l in
    let a = emit tb k ns l in
    let b = put a m 2 (m - 1) 0 in
    let c = emit b (m + 1) ns r in
    close_long c m (m + 1 + size r) ∙ (emit-long r b (m + 1) ns ∙ (put-long a m 2 (m - 1) 0 ∙ emit-long l tb k ns))
emit-long (both l r) tb k ns =
    let m = k + size l in
    let a = emit tb k ns l in
    put-long (emit a m ns r) (m + size r) 1 (m - 1) (m + size r - 1) ∙ (emit-long r a m ns ∙ emit-long l tb k ns)
emit-long (neg t) tb k ns = put-long (emit tb k ns t) (k + size t) 2 (k + size t - 1) 0 ∙ emit-long t tb k ns
emit-long (exists n t) tb k ns = put-long (emit tb k (inside ns n) t) (k + size t) 3 (length ns) (k + size t - 1) ∙ emit-long t tb k (inside ns n)
emit-long (has n l) tb k ns = put-long tb k 4 (level ns n) l
emit-long (pair q n m) tb k ns = put-long tb k q (level ns n) (level ns m)

pub emit_below : (t : Tree) (tb : List ℕ) (k : ℕ) (ns : Names) → Alike tb (emit tb k ns t) k
unfolding emit
emit_below (either l r) tb k ns =
    let m = k + size l in
    let a = emit tb k ns l in
    let b = put a m 2 (m - 1) 0 in
    let c = emit b (m + 1) ns r in
    alike_trans tb c (close_or c m (m + 1 + size r)) k (m + 1 + size r) (omega arith)
    (alike_trans tb b c k (m + 1) (omega arith) (alike_trans tb a b k m (omega arith) (emit_below l tb k ns) (put_below a m 2 (m - 1) 0)) (emit_below r b (m + 1) ns))
    (close_below c m (m + 1 + size r))
emit_below (both l r) tb k ns =
    let m = k + size l in
    let a = emit tb k ns l in
    let b = emit a m ns r in
    alike_trans tb b (put b (m + size r) 1 (m - 1) (m + size r - 1)) k (m + size r) (omega arith)
    (alike_trans tb a b k m (omega arith) (emit_below l tb k ns) (emit_below r a m ns)) (put_below b (m + size r) 1 (m - 1) (m + size r - 1))
emit_below (neg t) tb k ns =
    let a = emit tb k ns t in
    alike_trans tb a (put a (k + size t) 2 (k + size t - 1) 0) k (k + size t) (omega arith) (emit_below t tb k ns) (put_below a (k + size t) 2 (k + size t - 1) 0)
emit_below (exists n t) tb k ns =
    let a = emit tb k (inside ns n) t in
    alike_trans tb a (put a (k + size t) 3 (length ns) (k + size t - 1)) k (k + size t) (omega arith) (emit_below t tb k (inside ns n)) (put_below a (k + size t) 3 (length ns) (k + size t - 1))
emit_below (has n l) tb k ns = put_below tb k 4 (level ns n) l
emit_below (pair q n m) tb k ns = put_below tb k q (level ns n) (level ns m)

-- ── they stand in the table ──
pub emit-stands : (t : Tree) (tb : List ℕ) (k : ℕ) (ns : Names) → k + size t ≤ 64 → 192 ≤ length tb → Stands (emit tb k ns t) ns t k
unfolding emit Stands close_or
emit-stands (either l r) tb k ns h w =
    let m = k + size l in
    let n = m + 1 + size r in
    let a = emit tb k ns l in
    let b = put a m 2 (m - 1) 0 in
    let c = emit b (m + 1) ns r in
    let p = put c n 2 (n - 1) 0 in
    let q = put p (n + 1) 1 m n in
    let z = put q (n + 2) 2 (n + 1) 0 in
    let la : length a ≡ length tb = emit-long l tb k ns in
    let lb : length b ≡ length a = put-long a m 2 (m - 1) 0 in
    let lc : length c ≡ length b = emit-long r b (m + 1) ns in
    let lp : length p ≡ length c = put-long c n 2 (n - 1) 0 in
    let lq : length q ≡ length p = put-long p (n + 1) 1 m n in
    let ab = put_below a m 2 (m - 1) 0 in
    let bc = emit_below r b (m + 1) ns in
    let cz = close_below c m n in
    let ac = alike_trans a b c m (m + 1) (omega arith) ab bc in
    let az = alike_trans a c z m n (omega arith) ac cz in
    let bz = alike_trans b c z (m + 1) n (omega arith) bc cz in
    let qz = put_below q (n + 2) 2 (n + 1) 0 in
    let pz = alike_trans p q z (n + 1) (n + 2) (omega arith) (put_below p (n + 1) 1 m n) qz in (
      stands_kept l ns a z k m az (omega arith) (emit-stands l tb k ns (omega arith) w),
      node_kept b z (m + 1) bz m 2 (m - 1) 0 (omega arith) (put_here a m 2 (m - 1) 0 (omega arith) (omega arith)),
      stands_kept r ns c z (m + 1) n cz (omega arith) (emit-stands r b (m + 1) ns (omega arith) (omega arith)),
      node_kept p z (n + 1) pz n 2 (n - 1) 0 (omega arith) (put_here c n 2 (n - 1) 0 (omega arith) (omega arith)),
      node_kept q z (n + 2) qz (n + 1) 1 m n (omega arith) (put_here p (n + 1) 1 m n (omega arith) (omega arith)),
      put_here q (n + 2) 2 (n + 1) 0 (omega arith) (omega arith),
    )
emit-stands (both l r) tb k ns h w =
    let m = k + size l in
    let n = m + size r in
    let a = emit tb k ns l in
    let c = emit a m ns r in
    let z = put c n 1 (m - 1) (n - 1) in
    let la : length a ≡ length tb = emit-long l tb k ns in
    let lc : length c ≡ length a = emit-long r a m ns in
    let cz = put_below c n 1 (m - 1) (n - 1) in
    let az = alike_trans a c z m n (omega arith) (emit_below r a m ns) cz in (
      stands_kept l ns a z k m az (omega arith) (emit-stands l tb k ns (omega arith) w),
      stands_kept r ns c z m n cz (omega arith) (emit-stands r a m ns (omega arith) (omega arith)),
      put_here c n 1 (m - 1) (n - 1) (omega arith) (omega arith),
    )
emit-stands (neg t) tb k ns h w =
    let a = emit tb k ns t in
    let la : length a ≡ length tb = emit-long t tb k ns in (
      stands_kept t ns a (put a (k + size t) 2 (k + size t - 1) 0) k (k + size t) (put_below a (k + size t) 2 (k + size t - 1) 0) (omega arith) (emit-stands t tb k ns (omega arith) w),
      put_here a (k + size t) 2 (k + size t - 1) 0 (omega arith) (omega arith),
    )
emit-stands (exists n t) tb k ns h w =
    let a = emit tb k (inside ns n) t in
    let la : length a ≡ length tb = emit-long t tb k (inside ns n) in (
      stands_kept t (inside ns n) a (put a (k + size t) 3 (length ns) (k + size t - 1)) k (k + size t) (put_below a (k + size t) 3 (length ns) (k + size t - 1)) (omega arith) (emit-stands t tb k (inside ns n) (omega arith) w),
      put_here a (k + size t) 3 (length ns) (k + size t - 1) (omega arith) (omega arith),
    )
emit-stands (has n l) tb k ns h w = put_here tb k 4 (level ns n) l (omega arith) w
emit-stands (pair q n m) tb k ns h w = put_here tb k q (level ns n) (level ns m) (omega arith) w

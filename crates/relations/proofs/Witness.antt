-- Why each relation of a single composition is shown: a log of three runs shows it. antt reads each of these logs, byte by byte, and
-- tests what it leaves: three runs, all finished, and the three relations.
use Prim.Native.Nat.{ℕ, zero, suc, ◌+◌, ◌*◌, ◌/◌, ◌%◌}
use mathlib.Core.Path.{◌≡◌, refl, subst}
use mathlib.Core.Logic.{◌≢◌}
use mathlib.Core.Bool.{Bool, true, false, not, ◌&&◌, ◌||◌, cond}
use mathlib.Core.List.{List, [], ◌∷◌}
use lib.Dec.{T, eqb, ltb, ltb→lt, eqb→eq, eqb_refl, T_not}
use lib.ListN.{length, get_or}
use Rattle.lists.specs.Lists.{has?, bytes?}
use Rattle.labels.specs.Label.{label_of}
use Rattle.labels.specs.Table.{number_of, with_label}
use Rattle.lines.specs.Line.{event_of}
use Rattle.trace.specs.declared.Run.{Run}
use Rattle.trace.specs.Trace.{Trace, Answer, next, refused, run_at, end_line, start, finish, running?, close, begin, end, begin_run, end_run, apply, apply_to, step, read, Accepted}
use Rattle.relations.specs.Relation.{Relation, before, after, overlaps, overlapped, includes, during, relates?}
use Rattle.relations.specs.Sets.{Member, member?}
use Rattle.relations.specs.Runs.{RelatesRuns}
use Rattle.relations.specs.Compose.{ShownByThree, single}
use Rattle.relations.proofs.Relation.{relates_tells}
use Rattle.relations.proofs.Tests.{all?, all_at, implied, every?, every_one, two}

-- ── the logs ──
abbrev place : Relation → ℕ
place before = 0
place after = 1
place overlaps = 2
place overlapped = 3
place includes = 4
place during = 5

-- For each two relations a row, and in it for each relation that can hold then the ids of the six lines, as the digits of a
-- number: 1 for the first run, 2 for the second, 3 for the third. 0 where it cannot hold.
unfoldable codes : List ℕ
codes =
    112233 ∷ 0 ∷ 0 ∷ 0 ∷ 0 ∷ 0 ∷
    113322 ∷ 331122 ∷ 131322 ∷ 313122 ∷ 133122 ∷ 311322 ∷
    112323 ∷ 0 ∷ 0 ∷ 0 ∷ 0 ∷ 0 ∷
    113232 ∷ 0 ∷ 131232 ∷ 0 ∷ 0 ∷ 311232 ∷
    112332 ∷ 0 ∷ 0 ∷ 0 ∷ 0 ∷ 0 ∷
    113223 ∷ 0 ∷ 131223 ∷ 0 ∷ 0 ∷ 311223 ∷
    221133 ∷ 223311 ∷ 221313 ∷ 223131 ∷ 221331 ∷ 223113 ∷
    0 ∷ 332211 ∷ 0 ∷ 0 ∷ 0 ∷ 0 ∷
    0 ∷ 232311 ∷ 0 ∷ 232131 ∷ 0 ∷ 232113 ∷
    0 ∷ 323211 ∷ 0 ∷ 0 ∷ 0 ∷ 0 ∷
    0 ∷ 233211 ∷ 0 ∷ 0 ∷ 0 ∷ 0 ∷
    0 ∷ 322311 ∷ 0 ∷ 322131 ∷ 0 ∷ 322113 ∷
    121233 ∷ 0 ∷ 0 ∷ 0 ∷ 0 ∷ 0 ∷
    0 ∷ 331212 ∷ 0 ∷ 313212 ∷ 133212 ∷ 0 ∷
    121323 ∷ 0 ∷ 123123 ∷ 0 ∷ 0 ∷ 0 ∷
    0 ∷ 0 ∷ 132132 ∷ 312312 ∷ 132312 ∷ 312132 ∷
    121332 ∷ 0 ∷ 123132 ∷ 0 ∷ 123312 ∷ 0 ∷
    0 ∷ 0 ∷ 132123 ∷ 0 ∷ 0 ∷ 312123 ∷
    212133 ∷ 0 ∷ 212313 ∷ 0 ∷ 212331 ∷ 0 ∷
    0 ∷ 332121 ∷ 0 ∷ 0 ∷ 0 ∷ 0 ∷
    0 ∷ 0 ∷ 213213 ∷ 231231 ∷ 213231 ∷ 231213 ∷
    0 ∷ 323121 ∷ 0 ∷ 321321 ∷ 0 ∷ 0 ∷
    0 ∷ 233121 ∷ 0 ∷ 231321 ∷ 213321 ∷ 0 ∷
    0 ∷ 0 ∷ 0 ∷ 321231 ∷ 0 ∷ 321213 ∷
    122133 ∷ 0 ∷ 122313 ∷ 0 ∷ 122331 ∷ 0 ∷
    0 ∷ 331221 ∷ 0 ∷ 313221 ∷ 133221 ∷ 0 ∷
    0 ∷ 0 ∷ 123213 ∷ 0 ∷ 123231 ∷ 0 ∷
    0 ∷ 0 ∷ 0 ∷ 312321 ∷ 132321 ∷ 0 ∷
    0 ∷ 0 ∷ 0 ∷ 0 ∷ 123321 ∷ 0 ∷
    0 ∷ 0 ∷ 132213 ∷ 312231 ∷ 132231 ∷ 312213 ∷
    211233 ∷ 0 ∷ 0 ∷ 0 ∷ 0 ∷ 0 ∷
    0 ∷ 332112 ∷ 0 ∷ 0 ∷ 0 ∷ 0 ∷
    211323 ∷ 0 ∷ 213123 ∷ 0 ∷ 0 ∷ 231123 ∷
    0 ∷ 323112 ∷ 0 ∷ 321312 ∷ 0 ∷ 321132 ∷
    211332 ∷ 233112 ∷ 213132 ∷ 231312 ∷ 213312 ∷ 231132 ∷
    0 ∷ 0 ∷ 0 ∷ 0 ∷ 0 ∷ 321123 ∷ []

abbrev digits : ℕ → ℕ → List ℕ → List ℕ
digits zero n ds = ds
digits (suc k) n ds = digits k (n / 10) (n % 10 ∷ ds)

-- a line for each id: the begin line, and the end line where the id was seen before
abbrev log_from : List ℕ → List ℕ → List ℕ
log_from seen [] = []
log_from seen (i ∷ is) = cond (has? i seen) 69 66 ∷ 32 ∷ (48 + i) ∷ 10 ∷ log_from (i ∷ seen) is

abbrev witness : Relation → Relation → Relation → List ℕ
unfolding codes
witness p q r = log_from [] (digits 6 (get_or codes (place p * 36 + place q * 6 + place r) 0) [])

-- ── what a log is tested for ──
abbrev related? : Relation → Trace → ℕ → ℕ → Bool
related? r t x y = relates? r (start t x) (finish t x) (start t y) (finish t y)

abbrev tests : Relation → Relation → Relation → Trace → ℕ → ℕ → ℕ → List Bool
tests p q r t x y z =
    eqb (length t.runs) 3 ∷ ltb x (length t.runs) ∷ ltb y (length t.runs) ∷ ltb z (length t.runs)
    ∷ ltb 0 (end_line (run_at t x)) ∷ ltb 0 (end_line (run_at t y)) ∷ ltb 0 (end_line (run_at t z))
    ∷ not (eqb x y) ∷ not (eqb y z) ∷ not (eqb x z)
    ∷ related? p t x y ∷ related? q t y z ∷ related? r t x z ∷ []

-- the number of the first run that has the id; in these logs it is the only one
abbrev run_by : ℕ → List Run → ℕ
run_by i [] = 0
run_by i (r ∷ rs) = cond (eqb r.id i) 0 (suc (run_by i rs))

-- the first run is that of the id 1, the second that of 2, the third that of 3
abbrev shows? : Relation → Relation → Relation → Answer → Bool
shows? p q r (next t) = every? (tests p q r t (run_by 1 t.runs) (run_by 2 t.runs) (run_by 3 t.runs))
shows? p q r (refused c) = false

-- ── and what that means ──
differ : (m n : ℕ) → T (not (eqb m n)) → m ≢ n
differ m n t e = T_not (eqb m n) t (subst (λ (k : ℕ). T (eqb m k)) e (eqb_refl m))

is_true : (b : Bool) → T b → b ≡ true
is_true true t = refl
is_true false t = absurd t

related : (r : Relation) (t : Trace) (x y : ℕ) → T (related? r t x y) → RelatesRuns r t x y
related r t x y h = (relates_tells r _ _ _ _).yes (is_true (related? r t x y) h)

shows : (a b : ℕ) (p q r : Relation) (log : List ℕ) (t : Trace) → Accepted log t → Member p a → Member q b
    → T (shows? p q r (next t)) → ShownByThree a b r
shows a b p q r log t e ha hb u =
    let x = run_by 1 t.runs in
    let y = run_by 2 t.runs in
    let z = run_by 3 t.runs in
    let n = length t.runs in
    let h = every_one (tests p q r t x y z) u in
    let ends = h.1.1.1.1 in
    let differs = ends.1.1.1 in
    let relates = differs.1.1.1 in
    record {
      log = log;
      shown =
          record {
            trace = t;
            accepted = e;
            x = x;
            y = y;
            z = z;
            x_finished = record { begun = ltb→lt x n h.1.0; ended = ltb→lt 0 (end_line (run_at t x)) ends.0 };
            y_finished = record { begun = ltb→lt y n h.1.1.0; ended = ltb→lt 0 (end_line (run_at t y)) ends.1.0 };
            z_finished = record { begun = ltb→lt z n h.1.1.1.0; ended = ltb→lt 0 (end_line (run_at t z)) ends.1.1.0 };
            x_not_y = differ x y differs.0;
            y_not_z = differ y z differs.1.0;
            x_not_z = differ x z differs.1.1.0;
            x_y = record { relation = p; member = ha; relates = related p t x y relates.0 };
            y_z = record { relation = q; member = hb; relates = related q t y z relates.1.0 };
            x_z = related r t x z relates.1.1.0;
          };
      three = eqb→eq n 3 h.0;
    }

shown : (a b : ℕ) (p q r : Relation) (log : List ℕ) → Member p a → Member q b → T (bytes? log && shows? p q r (read log))
    → ShownByThree a b r
shown a b p q r log ha hb t = by_answer_lem (read log) refl h.1
  where
    h : T (bytes? log) × T (shows? p q r (read log))
    h = two (bytes? log) (shows? p q r (read log)) t

    by_answer_lem : (w : Answer) → read log ≡ w → T (shows? p q r w) → ShownByThree a b r
    by_answer_lem (next s) e u = shows a b p q r log s (record { bytes = h.0; leaves = e }) ha hb u
    by_answer_lem (refused c) e u = absurd u

-- ── all of them ──
abbrev passes? : Relation → Relation → Relation → Bool
unfolding codes
passes? p q r = not (member? r (single p q)) || (bytes? (witness p q r) && shows? p q r (read (witness p q r)))

all_pass : T (all? (λ p. all? (λ q. all? (λ r. passes? p q r))))
unfolding codes number_of with_label label_of event_of running? close begin end begin_run end_run apply apply_to step read
all_pass = tt

-- where r is in the single composition of p and q, three runs show it, for any sets that have p and q as members
pub shown_by_three : (a b : ℕ) (p q r : Relation) → Member p a → Member q b → T (member? r (single p q)) → ShownByThree a b r
unfolding codes
shown_by_three a b p q r ha hb m =
    let passed = all_at (λ w. passes? p q w) (all_at (λ v. all? (λ w. passes? p v w)) (all_at (λ u. all? (λ v. all? (λ w. passes? u v w))) all_pass p) q) r in
    shown a b p q r (witness p q r) ha hb
    (implied (member? r (single p q)) (bytes? (witness p q r) && shows? p q r (read (witness p q r))) passed m)

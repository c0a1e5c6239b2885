-- An unbroken log, cut after any byte, replayed onto the tables that it started from: the tree after exactly the changes whose fields are whole, and the number of bytes dropped. Assumes nothing.
use mathlib.Core.Path.{◌≡◌, refl, sym, ap, ◌∙◌}
use mathlib.Core.Bool.{Bool, true, false, cond, and-false}
use mathlib.Core.List.{List, [], ◌∷◌, ◌++◌, append_assoc, append-nil}
use Prim.Native.Nat.{ℕ, zero, suc, ◌+◌, ◌-◌, ◌≤◌, ◌<◌}
use native.Mathlib.Omega.{arith}
use lib.Dec.{leb}
use lib.ListN.{length, take, length-append}
use lib.Seq.{take-nil, take-append-add, take-append-le}
use borrow.Author.Tests.{leb-true, leb-false, le-leb, lt-leb, le-ltb, lt-ltb}
use Rattle.laws.specs.Refusals.{first}
use Rattle.laws.proofs.Bools.{split, not_of_true}
use Rattle.access.specs.declared.errno.Reply.TheVariants.{Done}
use Rattle.named.specs.Named.{Named, named_sound, NamedOutcome, named_outcome}
use Rattle.named.specs.Calls.{after_named}
use Rattle.named.proofs.Made.{named-goes}
use Rattle.policy.specs.Fields.{Piece, field, pieces}
use Rattle.policy.proofs.Pieces.{pieces_nil}
use Rattle.policy_write.specs.Written.{field_bytes}
use Rattle.tree_log.specs.Changes.{Change, call_of, tag_of, value_of, field_of, Read}
use Rattle.tree_log.specs.Tree.{Tree, tree_of, with_tree, changed}
use Rattle.tree_log.specs.Replay.{Applied, Faulty, on_read, replayed, replay_outcome, replay_named}
use Rattle.tree_log.specs.Logged.{Log, written, append, alters, enters, logged_outcome, logged_log, LogCall, plain, logged, replay, outcome_logged, after_logged}
use Rattle.tree_log.specs.History.{Moment, moment, Step, ours, other, fresh, next, last, Leaves, Allowed, Each, Unbroken, wrote_within, keep_if, up_to}
use Rattle.tree_log.proofs.Pieces.{pieces-field, pieces_tail}
use Rattle.tree_log.proofs.Values.{read_back}
use Rattle.tree_log.proofs.Trees.{equal_same}
use Rattle.tree_log.proofs.Quiet.{quiet}
use Rattle.tree_log.proofs.Accepted.{accepted}
use Rattle.tree_log.proofs.Entering.{logged-cases, still-same, alters-done, alters-fits, enters-alters, enters-room, enters-outcome, stays_out, Sane, written-append, sane_append}

-- ---- what a history adds to the log
added : Moment → Step → List ℕ
added M (ours t c) = cond (enters M.tables M.log t c) (field_of c) []
added M (other c) = []
added M (fresh level) = []

since : Moment → List Step → List ℕ
since M [] = []
since M (h ∷ hs) = added M h ++ since (next M h) hs

log_grows : (M : Moment) (h : Step) → Sane M.log → Sane (next M h).log × (written (next M h).log ≡ written M.log ++ added M h)
unfolding next added logged_log
log_grows M (ours t c) s = split (enters M.tables M.log t c)
    (λ e. let r = enters-room M.tables t c M.log e in rw e (sane_append M.log (field_of c) s r, written-append M.log (field_of c) s r))
    (λ e. rw e (s, sym (append-nil (written M.log))))
log_grows M (other c) s = (s, sym (append-nil (written M.log)))
log_grows M (fresh level) s = (s, sym (append-nil (written M.log)))

written-since : (hs : List Step) (M : Moment) → Sane M.log → written (last M hs).log ≡ written M.log ++ since M hs
unfolding last since
written-since [] M s = sym (append-nil (written M.log))
written-since (h ∷ hs) M s =
    let g = log_grows M h s in
    written-since hs (next M h) g.0 ∙ ap (λ (w : List ℕ). w ++ since (next M h) hs) g.1 ∙ append_assoc (written M.log) (added M h) (since (next M h) hs)

-- ---- a step that is not ours leaves the tree
logged-tree : (N : Named) (t : ℕ) (c : Change) (L : Log) → Leaves N (logged t c L) → tree_of (after_logged N (logged t c L)) ≡ tree_of N
unfolding Leaves outcome_logged alters
logged-tree N t c L q = logged-cases N t c L
    (λ o.
    let left = ap (λ (o : NamedOutcome). tree_of o.left) o in
    left ∙ still-same N t c (not_of_true _ (equal_same (tree_of N) (tree_of (after_named N (call_of t c)))
    (sym q.0 ∙ ap (λ (S : Tree). S.entries) left) (sym q.1 ∙ ap (λ (S : Tree). S.names) left))))
    (λ o. ap tree_of o)

pub leaves-tree : (N : Named) (c : LogCall) → Leaves N c → tree_of (after_logged N c) ≡ tree_of N
unfolding Leaves outcome_logged
leaves-tree N (plain c u) q = (quiet N c u).tree
leaves-tree N (logged t c L) q = logged-tree N t c L q
leaves-tree N (replay bs) q = ap tree_of q

-- ---- one field
-- a whole one
replayed-field : (c : Change) (N : Named) (t : ℕ) (L : Log) (bs : List ℕ) → enters N L t c ≡ true
    → replayed (pieces (field_of c ++ bs)) (tree_of N) ≡ replayed (pieces bs) (tree_of (logged_outcome N L t c).left)
unfolding field_of replayed on_read
replayed-field c N t L bs e =
    let a = enters-alters N t c L e in
    let k = accepted N t c (alters-done N t c a) in
    let q : changed (tree_of N) c ≡ tree_of (logged_outcome N L t c).left = k.effect ∙ ap (λ (o : NamedOutcome). tree_of o.left) (sym (enters-outcome N t c L e)) in
    ap (λ (ps : List Piece). replayed ps (tree_of N)) (pieces-field (tag_of c) (value_of c) bs)
    ∙ ap (λ (r : Read). on_read r (tree_of N) (replayed (pieces bs))) (read_back c k.short)
    ∙ ap (λ (b : Bool). cond b (replayed (pieces bs) (changed (tree_of N) c)) Faulty) (alters-fits N t c a)
    ∙ ap (replayed (pieces bs)) q

-- one that is cut
field-some : (c : Change) → 0 < length (field_of c)
unfolding field_of field_bytes
field-some c = omega arith

replayed_tail : (c : Change) (S : Tree) (j : ℕ) → j < length (field_of c) → replayed (pieces (take j (field_of c))) S ≡ Applied S (length (take j (field_of c)))
unfolding replayed field_of
replayed_tail c S zero h = rw pieces_nil refl
replayed_tail c S (suc j) h = rw (pieces_tail (tag_of c) (value_of c) j h) refl

-- ---- a history
-- the steps whose fields are whole, and the bytes of the rest
abbrev Comes : ℕ → Moment → List Step → List ℕ → Type 0
Comes k M hs bs =
    replayed (pieces bs) (tree_of M.tables) ≡ Applied (tree_of (last M (up_to k M hs)).tables) (M.log.used + length bs - (last M (up_to k M hs)).log.used)

used_grows : (M : Moment) (h : Step) → M.log.used ≤ (next M h).log.used
unfolding next logged_log append
used_grows M (ours t c) = split (enters M.tables M.log t c) (λ e. rw e (omega arith)) (λ e. rw e (omega arith))
used_grows M (other c) = omega arith
used_grows M (fresh level) = omega arith

-- past k bytes no field is whole
up_to-past : (k : ℕ) (hs : List Step) (M : Moment) → k < M.log.used → up_to k M hs ≡ []
unfolding up_to keep_if wrote_within
up_to-past k [] M p = refl
up_to-past k (h ∷ hs) M p =
    let g = used_grows M h in
    rw (up_to-past k hs (next M h) (omega arith), lt-leb (next M h).log.used k (omega arith), and-false) refl

up_to-goes : (k : ℕ) (M : Moment) (h : Step) (hs : List Step) → M.log.used < (next M h).log.used → (next M h).log.used ≤ k → up_to k M (h ∷ hs) ≡ h ∷ up_to k (next M h) hs
unfolding up_to keep_if wrote_within
up_to-goes k M h hs g p = rw (lt-ltb M.log.used (next M h).log.used g, le-leb (next M h).log.used k p) refl

up_to_stops : (k : ℕ) (M : Moment) (h : Step) (hs : List Step) → k < (next M h).log.used → up_to k M (h ∷ hs) ≡ []
unfolding up_to keep_if wrote_within
up_to_stops k M h hs p = rw (up_to-past k hs (next M h) p, lt-leb (next M h).log.used k p, and-false) refl

-- a step that leaves tree and log
up_to_quiet : (k : ℕ) (M : Moment) (h : Step) (hs : List Step) → (next M h).log ≡ M.log → up_to k M (h ∷ hs) ≡ keep_if false h (up_to k (next M h) hs)
unfolding up_to wrote_within
up_to_quiet k M h hs l = rw (l, le-ltb M.log.used M.log.used (omega arith)) refl

keep_last : (M : Moment) (h : Step) (r : List Step) → tree_of (next M h).tables ≡ tree_of M.tables → (next M h).log ≡ M.log
    → (tree_of (last (next M h) r).tables ≡ tree_of (last M (keep_if false h r)).tables) × ((last (next M h) r).log ≡ (last M (keep_if false h r)).log)
unfolding last keep_if
keep_last M h [] q l = (q, l)
keep_last M h (g ∷ r) q l = (refl, refl)

quiet_comes : (k : ℕ) (M : Moment) (h : Step) (hs : List Step) (bs : List ℕ) → tree_of (next M h).tables ≡ tree_of M.tables → (next M h).log ≡ M.log
    → Comes k (next M h) hs bs → Comes k M (h ∷ hs) bs
quiet_comes k M h hs bs q l r =
    let p = keep_last M h (up_to k (next M h) hs) q l in
    let x = last M (keep_if false h (up_to k (next M h) hs)) in
    rw (up_to_quiet k M h hs l)
    (ap (replayed (pieces bs)) (sym q) ∙ r
    ∙ ap (λ (S : Tree). Applied S ((next M h).log.used + length bs - (last (next M h) (up_to k (next M h) hs)).log.used)) p.0
    ∙ ap (λ (L : Log). Applied (tree_of x.tables) ((next M h).log.used + length bs - L.used)) p.1
    ∙ ap (λ (L : Log). Applied (tree_of x.tables) (L.used + length bs - x.log.used)) l)

-- a field that is whole
whole : (k : ℕ) (M : Moment) (t : ℕ) (c : Change) (hs : List Step) (bs : List ℕ) → enters M.tables M.log t c ≡ true → M.log.used + length (field_of c) ≤ k
    → Comes k (next M (ours t c)) hs bs → Comes k M (ours t c ∷ hs) (field_of c ++ bs)
unfolding last next logged_log append
whole k M t c hs bs e p r =
    let u : (next M (ours t c)).log.used ≡ M.log.used + length (field_of c) = rw e refl in
    let a = length-append (field_of c) bs in
    let f = field-some c in
    let n : (next M (ours t c)).log.used + length bs ≡ M.log.used + length (field_of c ++ bs) = omega arith in
    let x = last (next M (ours t c)) (up_to k (next M (ours t c)) hs) in
    rw (up_to-goes k M (ours t c) hs (omega arith) (omega arith))
    (replayed-field c M.tables t M.log bs e ∙ r ∙ ap (λ (v : ℕ). Applied (tree_of x.tables) (v - x.log.used)) n)

-- a field that is cut
torn : (k : ℕ) (M : Moment) (t : ℕ) (c : Change) (hs : List Step) (j : ℕ) → enters M.tables M.log t c ≡ true → j < length (field_of c) → k ≡ M.log.used + j
    → Comes k M (ours t c ∷ hs) (take j (field_of c))
unfolding last next logged_log append
torn k M t c hs j e p q =
    let u : (next M (ours t c)).log.used ≡ M.log.used + length (field_of c) = rw e refl in
    let n : length (take j (field_of c)) ≡ M.log.used + length (take j (field_of c)) - M.log.used = omega arith in
    rw (up_to_stops k M (ours t c) hs (omega arith)) (replayed_tail c (tree_of M.tables) j p ∙ ap (Applied (tree_of M.tables)) n)

comes-none : (k : ℕ) (M : Moment) (j : ℕ) → Comes k M [] (take j [])
unfolding up_to last replayed
comes-none k M j = rw (take-nil {A = ℕ} j, pieces_nil) (ap (Applied (tree_of M.tables)) (omega arith))

module _ (M : Moment) where
  other-log : (c : LogCall) → (next M (other c)).log ≡ M.log
  unfolding next
  other-log c = refl

  other-tree : (c : LogCall) → Leaves M.tables c → tree_of (next M (other c)).tables ≡ tree_of M.tables
  unfolding next
  other-tree c x = leaves-tree M.tables c x

  fresh-log : (level : ℕ) → (next M (fresh level)).log ≡ M.log
  unfolding next
  fresh-log level = refl

  fresh-tree : (level : ℕ) → Allowed M (fresh level) → tree_of (next M (fresh level)).tables ≡ tree_of M.tables
  unfolding next Allowed
  fresh-tree level q = ap tree_of q

  module _ (t : ℕ) (c : Change) where
    out_log : enters M.tables M.log t c ≡ false → (next M (ours t c)).log ≡ M.log
    unfolding next logged_log
    out_log e = rw e refl

    out_tree : enters M.tables M.log t c ≡ false → tree_of (next M (ours t c)).tables ≡ tree_of M.tables
    unfolding next
    out_tree e = stays_out M.tables t c M.log e

    in_used : enters M.tables M.log t c ≡ true → (next M (ours t c)).log.used ≡ M.log.used + length (field_of c)
    unfolding next logged_log append
    in_used e = rw e refl

    go_on : (k j : ℕ) (hs : List Step) → k ≡ M.log.used + j → enters M.tables M.log t c ≡ true → length (field_of c) ≤ j
        → Comes k (next M (ours t c)) hs (take (j - length (field_of c)) (since (next M (ours t c)) hs))
        → Comes k M (ours t c ∷ hs) (take j (field_of c ++ since (next M (ours t c)) hs))
    go_on k j hs q e p r =
        let f = field_of c in
        let s = since (next M (ours t c)) hs in
        let i : length f + (j - length f) ≡ j = omega arith in
        rw (ap (λ (m : ℕ). take m (f ++ s)) (sym i) ∙ take-append-add f s (j - length f)) (whole k M t c hs _ e (omega arith) r)

    go_torn : (k j : ℕ) (hs : List Step) → k ≡ M.log.used + j → enters M.tables M.log t c ≡ true → j < length (field_of c)
        → Comes k M (ours t c ∷ hs) (take j (field_of c ++ since (next M (ours t c)) hs))
    go_torn k j hs q e p = rw (take-append-le j (field_of c) (since (next M (ours t c)) hs) (omega arith)) (torn k M t c hs j e p q)

comes : (hs : List Step) (M : Moment) (j k : ℕ) → k ≡ M.log.used + j → Unbroken M hs → Comes k M hs (take j (since M hs))
unfolding since added Each Allowed
comes [] M j k q w = comes-none k M j
comes (other c ∷ hs) M j k q w =
    quiet_comes k M (other c) hs _ (other-tree M c w.0) (other-log M c) (comes hs (next M (other c)) j k (q ∙ ap (λ (L : Log). L.used + j) (sym (other-log M c))) w.1)
comes (fresh level ∷ hs) M j k q w =
    quiet_comes k M (fresh level) hs _ (fresh-tree M level w.0) (fresh-log M level) (comes hs (next M (fresh level)) j k (q ∙ ap (λ (L : Log). L.used + j) (sym (fresh-log M level))) w.1)
comes (ours t c ∷ hs) M j k q w = split (enters M.tables M.log t c)
    (λ e. rw e (split (leb (length (field_of c)) j)
    (λ f.
    let p : length (field_of c) ≤ j = leb-true _ _ f in
    let u = in_used M t c e in
    go_on M t c k j hs q e p (comes hs (next M (ours t c)) (j - length (field_of c)) k (omega arith) w.1))
    (λ f. go_torn M t c k j hs q e (leb-false _ _ f))))
    (λ e. rw e (quiet_comes k M (ours t c) hs _ (out_tree M t c e) (out_log M t c e) (comes hs (next M (ours t c)) j k (q ∙ ap (λ (L : Log). L.used + j) (sym (out_log M t c e))) w.1)))

no_bytes : (L : Log) → L.used ≡ 0 → written L ≡ []
unfolding written
no_bytes L z = rw z refl

-- ---- the theorem. E: the tables and the log at the end of the history; C: when the last field was written that is whole in the first k bytes
pub replay-unbroken : (N : Named) (L : Log) (hs : List Step) (k : ℕ) → named_sound N ≡ true → L.used ≡ 0 → Unbroken (moment N L) hs
    → let E = last (moment N L) hs in
    let C = last (moment N L) (up_to k (moment N L) hs) in
    replay_named N (take k (written E.log)) ≡ named_outcome (Done (length (take k (written E.log)) - C.log.used)) (with_tree N (tree_of C.tables))
unfolding replay_named replay_outcome first
replay-unbroken N L hs k h z w =
    let M = moment N L in
    let C = last M (up_to k M hs) in
    let bs = take k (since M hs) in
    let empty : written L ≡ [] = no_bytes L z in
    let all : written (last M hs).log ≡ since M hs = written-since hs M (rw z (omega arith)) ∙ ap (λ (x : List ℕ). x ++ since M hs) empty in
    let r = comes hs M k k (omega arith) w in
    rw all (sym (named-goes N [] (replay_outcome N (replayed (pieces bs) (tree_of N))) h refl refl)
    ∙ ap (replay_outcome N) (r ∙ ap (λ (v : ℕ). Applied (tree_of C.tables) (v + length bs - C.log.used)) z ∙ ap (Applied (tree_of C.tables)) (omega arith)))

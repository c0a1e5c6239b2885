-- What a tree call with a log does: a change that goes into the log fits the tree and reads back; any other leaves tree and log. Assumes nothing.
use mathlib.Core.Path.{◌≡◌, refl, sym, ap, ◌∙◌}
use mathlib.Core.Bool.{true, false, not, ◌&&◌, false≢true}
use mathlib.Core.List.{List, ◌++◌, append_assoc}
use Prim.Native.Nat.{ℕ, ◌+◌, ◌≤◌}
use native.Mathlib.Omega.{arith}
use lib.ListN.{length, take, drop, length-take, length-append}
use lib.Seq.{take_at}
use borrow.Author.Tests.{eq-eqb, leb-true, not-true, not-false}
use Rattle.laws.specs.Refusals.{first}
use Rattle.laws.proofs.Bools.{split, clash, both, and_l, and_r}
use Rattle.theorems.specs.Calls.{is_done}
use Rattle.named.specs.Named.{Named}
use Rattle.named.specs.Calls.{outcome_named, after_named, reply_named}
use Rattle.tree_log.specs.Changes.{Change, create, remove, link, rename, exchange, call_of, field_of}
use Rattle.tree_log.specs.Tree.{Tree, tree_of, tree_checks, changed, same_tree, idle, fits}
use Rattle.tree_log.specs.Logged.{Log, written, has_room, append, alters, enters, logged_outcome}
use Rattle.tree_log.proofs.Trees.{tree_equal, same_equal, same_self}
use Rattle.tree_log.proofs.Idle.{same-idle}
use Rattle.tree_log.proofs.Accepted.{accepted, unaccepted}

-- only a create counts up the next object number, and it is never idle
still-next : (S : Tree) (c : Change) → idle S c ≡ true → (changed S c).next ≡ S.next
unfolding idle changed
still-next S (create k d n) q = absurd (false≢true q)
still-next S (remove e) q = refl
still-next S (link s d n) q = refl
still-next S (rename s d n) q = refl
still-next S (exchange s d x) q = refl

module _ (N : Named) (t : ℕ) (c : Change) where
  pub alters-done : alters N (call_of t c) ≡ true → is_done (reply_named N (call_of t c)) ≡ true
  unfolding alters
  alters-done h = split (is_done (reply_named N (call_of t c))) (λ r. r)
      (λ r. clash (same_tree (tree_of N) (tree_of (after_named N (call_of t c)))) (rw (unaccepted N t c r) (same_self (tree_of N))) (not-true _ h))

  pub alters-fits : alters N (call_of t c) ≡ true → fits (tree_of N) c ≡ true
  unfolding alters fits
  alters-fits h =
      let a = accepted N t c (alters-done h) in
      both _ _ (eq-eqb (first (tree_checks (tree_of N) c)) 0 a.none) (rw a.effect h)

  pub still-same : alters N (call_of t c) ≡ false → tree_of (after_named N (call_of t c)) ≡ tree_of N
  unfolding alters
  still-same h = split (is_done (reply_named N (call_of t c)))
      (λ r.
      let a = accepted N t c r in
      let S = tree_of N in
      let q : same_tree S (changed S c) ≡ true = rw a.effect (not-false _ h) in
      let p = same_equal S (changed S c) q in
      sym a.effect ∙ tree_equal (changed S c) S (sym p.0) (sym p.1) (still-next S c (sym (same-idle N a.is-sound_lem c a.none) ∙ q)))
      (λ r. ap tree_of (unaccepted N t c r))

  module _ (L : Log) where
    -- the change goes into the log
    pub enters-alters : enters N L t c ≡ true → alters N (call_of t c) ≡ true
    unfolding enters
    enters-alters h = and_l (alters N (call_of t c)) _ h

    pub enters-room : enters N L t c ≡ true → L.used + length (field_of c) ≤ length L.bytes
    unfolding enters has_room
    enters-room h = leb-true _ _ (and_r (alters N (call_of t c)) _ h)

    pub enters-outcome : enters N L t c ≡ true → logged_outcome N L t c ≡ outcome_named N (call_of t c)
    unfolding enters logged_outcome
    enters-outcome h = rw (and_l (alters N (call_of t c)) (has_room L (field_of c)) h, and_r (alters N (call_of t c)) (has_room L (field_of c)) h) refl

    -- or it does not: refused, without effect, or without room
    pub stays_out : enters N L t c ≡ false → tree_of (logged_outcome N L t c).left ≡ tree_of N
    unfolding enters logged_outcome
    stays_out h = split (alters N (call_of t c))
        (λ a. rw (a, (rw a at h)) refl)
        (λ a. rw a (still-same a))

    -- the whole outcome: no room, or the call without a log
    pub logged-cases : {A : Type 0} → (logged_outcome N L t c ≡ outcome_named N (call_of t c) → A) → ((logged_outcome N L t c).left ≡ N → A) → A
    unfolding logged_outcome
    logged-cases f g = split (alters N (call_of t c) && not (has_room L (field_of c))) (λ q. g (rw q refl)) (λ q. f (rw q refl))

-- ---- the log
abbrev pub Sane : Log → Type 0
Sane L = L.used ≤ length L.bytes

pub written-append : (L : Log) (f : List ℕ) → Sane L → L.used + length f ≤ length L.bytes → written (append L f) ≡ written L ++ f
unfolding written append
written-append L f s h =
    let xs = take L.used L.bytes in
    let r = drop (L.used + length f) L.bytes in
    let a = length-take L.used L.bytes in
    let b = length-append xs f in
    ap (take (L.used + length f)) (sym (append_assoc xs f r)) ∙ take_at (xs ++ f) r (L.used + length f) (omega arith)

pub sane_append : (L : Log) (f : List ℕ) → Sane L → L.used + length f ≤ length L.bytes → Sane (append L f)
unfolding append
sane_append L f s h =
    let xs = take L.used L.bytes in
    let r = drop (L.used + length f) L.bytes in
    let a = length-take L.used L.bytes in
    let b = length-append f r in
    let d = length-append xs (f ++ r) in
    omega arith

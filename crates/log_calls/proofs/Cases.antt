-- How code comes to the outcome of a tree call with a log, and to the log, by cases on any change. Assumes nothing.
use mathlib.Core.Path.{◌≡◌, refl, sym, ap, ◌∙◌}
use mathlib.Core.Bool.{Bool, true, false, not}
use Prim.Native.Nat.{ℕ, ◌<◌}
use native.Mathlib.Omega.{arith}
use lib.Dec.{eqb, ltb}
use borrow.Author.Tests.{not-false, ltb-false}
use Rattle.laws.proofs.Bools.{split, or_r, not_of_true}
use Rattle.laws.proofs.Refusals.{passed}
use Rattle.access.specs.Kinds.{last_kind}
use Rattle.access.specs.Errno.{ENOSPC}
use Rattle.access.specs.Reply.{is_refused}
use Rattle.access.specs.declared.errno.Reply.{Reply}
use Rattle.access.specs.declared.errno.Reply.TheVariants.{Done, Refused, Denied}
use Rattle.tables.specs.Tables.{live}
use Rattle.sound.proofs.Facts.{facts}
use Rattle.tree.specs.Entries.{unknown_kind}
use Rattle.theorems.specs.Calls.{is_done}
use Rattle.named.specs.Named.{Named, NamedOutcome, named_outcome, named_refused}
use Rattle.named.specs.Tree.{new_name}
use Rattle.names.specs.Names.{name_checks}
use Rattle.named.specs.Calls.{outcome_named, reply_named}
use Rattle.named.proofs.Made.{core-sound}
use Rattle.tree_log.specs.Changes.{Change, create, remove, link, rename, exchange, call_of, field_of}
use Rattle.tree_log.specs.Tree.{tree_of, create_place, remove_place, move_place, exchange_place, tree_checks, idle}
use Rattle.tree_log.specs.Logged.{Log, has_room, append, alters, enters, logged_outcome, logged_log}
use Rattle.tree_log.proofs.Trees.{same_self}
use Rattle.tree_log.proofs.Idle.{same-idle}
use Rattle.tree_log.proofs.Accepted.{Accepted, accepted, unaccepted}
use Rattle.log_calls.specs.Logs.{Narrow, Fits, full_reply, without_room}

done_not : (r : Reply) → is_done r ≡ not (is_refused r)
unfolding is_refused
done_not (Done n) = refl
done_not (Refused e) = refl
done_not (Denied e l s) = refl

module _ (N : Named) (t : ℕ) (c : Change) where
  -- ---- whether the tree differs after the call
  alters-done : is_done (reply_named N (call_of t c)) ≡ true → alters N (call_of t c) ≡ not (idle (tree_of N) c)
  unfolding alters
  alters-done r = let a = accepted N t c r in rw (← a.effect) (ap not (same-idle N a.is-sound_lem c a.none))

  alters-refused : is_done (reply_named N (call_of t c)) ≡ false → alters N (call_of t c) ≡ false
  unfolding alters
  alters-refused r = rw (unaccepted N t c r) (not_of_true _ (same_self (tree_of N)))

  -- ---- the numbers of a change that is not refused
  module _ (a : Accepted N t c) where
    small : (e : ℕ) → live N.core.entries e ≡ true → e < 65536
    small e l = let s = (facts N.core (core-sound N a.is-sound_lem)).tree.small e l in omega arith

  module _ (L : Log) where
    -- what the call answers and leaves, and the log after it
    abbrev pub Logs : NamedOutcome → Log → Type 0
    Logs o M = (o ≡ logged_outcome N L t c) × (M ≡ logged_log N L t c)

    -- a call that leaves the tree
    logs_still : alters N (call_of t c) ≡ false → {o : NamedOutcome} → o ≡ outcome_named N (call_of t c) → Logs o L
    unfolding logged_outcome logged_log enters
    logs_still a k = (rw a k, rw a refl)

    module _ {o : NamedOutcome} (k : o ≡ outcome_named N (call_of t c)) {q : Bool} (h : q ≡ is_refused o.reply) where
      is-done : is_done (reply_named N (call_of t c)) ≡ not q
      is-done = done_not (reply_named N (call_of t c)) ∙ ap (λ (x : NamedOutcome). not (is_refused x.reply)) (sym k) ∙ ap not (sym h)

      pub logs_refused : q ≡ true → Logs o L
      logs_refused z = logs_still (alters-refused (is-done ∙ ap not z)) k

      pub logs_idle : idle (tree_of N) c ≡ true → Logs o L
      logs_idle i = split q logs_refused (λ z. logs_still (alters-done (is-done ∙ ap not z) ∙ ap not i) k)

      pub logs_enters : idle (tree_of N) c ≡ false → has_room L (field_of c) ≡ true → q ≡ false → {M : Log} → M ≡ append L (field_of c) → Logs o M
      unfolding logged_outcome logged_log enters
      logs_enters i f z m = let a : alters N (call_of t c) ≡ true = alters-done (is-done ∙ ap not z) ∙ ap not i in (rw (a, f) k, rw (a, f) m)

      pub is-accepted : q ≡ false → Accepted N t c
      is-accepted z = accepted N t c (is-done ∙ ap not z)

    -- a refusal leaves the tables, so it is the same with them put back
    refused-kept : is_refused (reply_named N (call_of t c)) ≡ true → named_outcome (reply_named N (call_of t c)) N ≡ outcome_named N (call_of t c)
    refused-kept z = ap (named_outcome (reply_named N (call_of t c))) (sym (unaccepted N t c (done_not (reply_named N (call_of t c)) ∙ ap not z)))

    pub logs_full : idle (tree_of N) c ≡ false → has_room L (field_of c) ≡ false → {o : NamedOutcome} → o ≡ without_room N (outcome_named N (call_of t c)) → Logs o L
    unfolding without_room full_reply logged_outcome logged_log enters
    logs_full i f {o} k = split (is_refused (reply_named N (call_of t c)))
        (λ z. let e : o ≡ named_outcome (reply_named N (call_of t c)) N = rw z at k in logs_still (alters-refused (done_not (reply_named N (call_of t c)) ∙ ap not z)) (e ∙ refused-kept z))
        (λ z.
        let a : alters N (call_of t c) ≡ true = alters-done (done_not (reply_named N (call_of t c)) ∙ ap not z) ∙ ap not i in
        let e : o ≡ named_refused ENOSPC N = rw z at k in
        (rw (a, f) e, rw (a, f) refl))

-- ---- what a writer asks
narrow : (N : Named) (t : ℕ) (c : Change) → Accepted N t c → Narrow c
unfolding Narrow tree_checks create_place remove_place move_place exchange_place new_name name_checks unknown_kind
narrow N t (create k d n) a =
    let p = passed (tree_checks (tree_of N) (create k d n)) a.none in
    let known = ltb-false last_kind k (or_r (eqb k 0) (ltb last_kind k) p.1.1.1.1.1.0) in
    (omega arith, small N t _ a d (not-false _ p.0))
narrow N t (remove e) a = let p = passed (tree_checks (tree_of N) (remove e)) a.none in small N t _ a e (not-false _ p.0)
narrow N t (link s d n) a =
    let p = passed (tree_checks (tree_of N) (link s d n)) a.none in
    (small N t _ a s (not-false _ p.0), small N t _ a d (not-false _ p.1.0))
narrow N t (rename s d n) a =
    let p = passed (tree_checks (tree_of N) (rename s d n)) a.none in
    (small N t _ a s (not-false _ p.0), small N t _ a d (not-false _ p.1.0))
narrow N t (exchange s d x) a =
    let p = passed (tree_checks (tree_of N) (exchange s d x)) a.none in
    (small N t _ a s (not-false _ p.0), small N t _ a d (not-false _ p.1.0), small N t _ a x (not-false _ p.1.1.0))

pub fits : (N : Named) (t : ℕ) (c : Change) (L : Log) {o : NamedOutcome} → o ≡ outcome_named N (call_of t c) → {q : Bool} → q ≡ is_refused o.reply → q ≡ false
    → has_room L (field_of c) ≡ true → Fits L c
fits N t c L k h z f = let a = is-accepted N t c L k h z in record { room = f; numbers = narrow N t c a; short = a.short }

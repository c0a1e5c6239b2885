-- A call with a log, and a step of an unbroken history, as calls of document 01. Assumes nothing.
use mathlib.Core.Path.{◌≡◌, refl, sym, ap, ◌∙◌}
use mathlib.Core.Bool.{Bool, true, false, cond, not, ◌&&◌, and-false, false≢true}
use mathlib.Core.List.{List, []}
use Prim.Native.Nat.{ℕ}
use borrow.Author.Tests.{not-false}
use Rattle.laws.proofs.Bools.{split, not_of_true}
use Rattle.access.specs.Errno.{ENOSPC}
use Rattle.tables.specs.Tables.{Tables}
use Rattle.theorems.specs.Calls.{Call, after_all, is_done}
use Rattle.theorems.specs.Claim.{domain_of, Grown}
use Rattle.theorems.specs.Claim as base
use Rattle.tree.specs.Entries.{replacing}
use Rattle.names.proofs.Bearer.{bearer-cases}
use Rattle.named.specs.Named.{Named, NamedOutcome, named_refused}
use Rattle.named.specs.Calls.{NamedCall, outcome_named, after_named, reply_named, caller_named, would_free_named, frees_named, would_end_named, ends_named}
use Rattle.named.specs.Claim as names
use Rattle.named.specs.Tree.{replaced_by}
use Rattle.named.proofs.Translate.{translate, follows}
use Rattle.tree_log.specs.Changes.{Change, create, remove, link, rename, exchange, call_of, field_of}
use Rattle.tree_log.specs.Tree.{Tree, tree_of, changed, same_tree, idle}
use Rattle.tree_log.specs.Logged.{Log, has_room, alters, enters, logged_outcome, Unlogged, LogCall, plain, logged, replay, outcome_logged, after_logged}
use Rattle.tree_log.specs.History.{Moment, Step, ours, other, fresh, next, Leaves, Allowed}
use Rattle.tree_log.proofs.Quiet.{quiet}
use Rattle.tree_log.proofs.Trees.{same_self}
use Rattle.tree_log.proofs.Idle.{same-idle}
use Rattle.tree_log.proofs.Accepted.{accepted}
use Rattle.tree_log.proofs.Entering.{stays_out}
use Rattle.tree_log.proofs.Unbroken.{leaves-tree}
use Rattle.log_theorems.specs.Claim.{ChangesTree, Wrote, ends_logged, ends_step, frees_logged, frees_step}

-- ---- what it tells that the calls bs of document 01 follow a call c by the thread t
pub record FollowsLog (N : Named) (c : LogCall) (t : ℕ) (bs : List Call) : Type 0 where
  pub same : (after_logged N c).core ≡ after_all N.core bs
  pub whose : (D : List ℕ) → (ChangesTree N c → Grown D (domain_of N.core t)) → base.Within D N.core bs
  pub kept : (e : ℕ) → frees_logged N c e ≡ false → base.Kept N.core bs e
  pub lives : (u : ℕ) → ends_logged N c u ≡ false → base.Lives N.core bs u

pub base_of : Named → LogCall → List Call
base_of N (plain c u) = translate N c
base_of N (logged t c L) = cond (alters N (call_of t c) && not (has_room L (field_of c))) [] (translate N (call_of t c))
base_of N (replay bs) = []

pub follows_plain : (N : Named) (c : NamedCall) (u : Unlogged c) → FollowsLog N (plain c u) (caller_named c) (base_of N (plain c u))
unfolding outcome_logged base_of ChangesTree names.ChangesTree frees_logged ends_logged
follows_plain N c u =
    let F = follows N c in
    record { same = F.same; whose = λ D w. F.whose D w; kept = λ e f. F.kept e f; lives = λ t f. F.lives t f }

module _ (N : Named) (t : ℕ) where
  -- by its thread, ending none
  caller_of : (c : Change) → caller_named (call_of t c) ≡ t
  unfolding caller_named call_of
  caller_of (create k d n) = refl
  caller_of (remove e) = refl
  caller_of (link s d n) = refl
  caller_of (rename s d n) = refl
  caller_of (exchange s d x) = refl

  ends-none : (c : Change) (u : ℕ) → ends_named N (call_of t c) u ≡ false
  unfolding ends_named would_end_named call_of
  ends-none (create k d n) u = and-false (is_done (reply_named N (NamedCall.create t d k n)))
  ends-none (remove e) u = and-false (is_done (reply_named N (NamedCall.remove t e)))
  ends-none (link s d n) u = and-false (is_done (reply_named N (NamedCall.link t s d n)))
  ends-none (rename s d n) u = and-false (is_done (reply_named N (NamedCall.rename t s d n)))
  ends-none (exchange s d x) u = and-false (is_done (reply_named N (NamedCall.exchange t s d x)))

module _ (N : Named) (t : ℕ) (c : Change) (L : Log) where
  abbrev full : Bool
  full = alters N (call_of t c) && not (has_room L (field_of c))

  full_left : full ≡ true → (after_logged N (logged t c L)).core ≡ N.core
  unfolding outcome_logged logged_outcome
  full_left q = ap (λ (b : Bool). (cond b (named_refused ENOSPC N) (outcome_named N (call_of t c))).left.core) q

  full_frees : (e : ℕ) → full ≡ true → frees_logged N (logged t c L) e ≡ false
  unfolding frees_logged outcome_logged logged_outcome
  full_frees e q = ap (λ (b : Bool). is_done (cond b (named_refused ENOSPC N) (outcome_named N (call_of t c))).reply && would_free_named N (call_of t c) e) q

  logged_full : full ≡ true → FollowsLog N (logged t c L) t (base_of N (logged t c L))
  unfolding base_of after_all base.Within base.Kept base.Lives
  logged_full q = rw q (record { same = full_left q; whose = λ D w. tt; kept = λ e f. tt; lives = λ u f. tt })

  is-named : full ≡ false → outcome_logged N (logged t c L) ≡ outcome_named N (call_of t c)
  unfolding outcome_logged logged_outcome
  is-named q = rw q refl

  is_translated : full ≡ false → base_of N (logged t c L) ≡ translate N (call_of t c)
  unfolding base_of
  is_translated q = rw q refl

  logged_open : full ≡ false → FollowsLog N (logged t c L) t (base_of N (logged t c L))
  unfolding ChangesTree names.ChangesTree frees_logged frees_named
  logged_open q =
      let F = follows N (call_of t c) in
      let o = is-named q in
      let core : (after_logged N (logged t c L)).core ≡ (after_named N (call_of t c)).core = ap (λ (o : NamedOutcome). o.left.core) o in
      rw (is_translated q) (record {
        same = core ∙ F.same;
        whose = λ D w. F.whose D (λ x. rw (caller_of N t c) (w (λ z. x (ap (λ (T : Tables). T.entries) (sym core) ∙ z))));
        kept = λ e f. F.kept e (ap (λ (o : NamedOutcome). is_done o.reply && would_free_named N (call_of t c) e) (sym o) ∙ f);
        lives = λ u f. F.lives u (ends-none N t c u);
      })

  pub follows_logged : FollowsLog N (logged t c L) t (base_of N (logged t c L))
  follows_logged = split full logged_full logged_open

-- ---- a call that leaves the tree frees none
plain-frees : (N : Named) (c : NamedCall) (u : Unlogged c) (e : ℕ) → frees_logged N (plain c u) e ≡ false
unfolding frees_logged frees_named
plain-frees N c u e = rw ((quiet N c u).frees e) (and-false (is_done (reply_named N c)))

idle-frees : (N : Named) (t : ℕ) (c : Change) (e : ℕ) → idle (tree_of N) c ≡ true → would_free_named N (call_of t c) e ≡ false
unfolding idle call_of would_free_named replaced_by replacing
idle-frees N t (create k d n) e q = refl
idle-frees N t (remove x) e q = absurd (false≢true q)
idle-frees N t (link s d n) e q = refl
idle-frees N t (rename s d n) e q = bearer-cases N.core.entries N.names d n (λ b k. rw b refl) (λ y b B. rw (b, (rw b at q)) refl)
idle-frees N t (exchange s d x) e q = refl

still-frees : (N : Named) (t : ℕ) (c : Change) (e : ℕ) → alters N (call_of t c) ≡ false → frees_named N (call_of t c) e ≡ false
unfolding frees_named alters
still-frees N t c e h = split (is_done (reply_named N (call_of t c)))
    (λ r.
    let a = accepted N t c r in
    let S = tree_of N in
    let q : same_tree S (changed S c) ≡ true = rw a.effect (not-false _ h) in
    rw (idle-frees N t c e (sym (same-idle N a.is-sound_lem c a.none) ∙ q)) (and-false (is_done (reply_named N (call_of t c)))))
    (λ r. rw r refl)

logged-frees : (N : Named) (t : ℕ) (c : Change) (L : Log) (e : ℕ) → Leaves N (logged t c L) → frees_logged N (logged t c L) e ≡ false
unfolding frees_logged frees_named alters
logged-frees N t c L e w = split (full N t c L)
    (λ q. full_frees N t c L e q)
    (λ q.
    let o = is-named N t c L q in
    let p : tree_of (after_named N (call_of t c)) ≡ tree_of N = ap (λ (o : NamedOutcome). tree_of o.left) (sym o) ∙ leaves-tree N (logged t c L) w in
    ap (λ (o : NamedOutcome). is_done o.reply && would_free_named N (call_of t c) e) o
    ∙ still-frees N t c e (not_of_true (same_tree (tree_of N) (tree_of (after_named N (call_of t c)))) (rw p (same_self (tree_of N)))))

-- ---- a step of an unbroken history
pub record FollowsStep (M : Moment) (h : Step) (bs : List Call) : Type 0 where
  pub same : (next M h).tables.core ≡ after_all M.tables.core bs
  pub whose : (D : List ℕ) → Wrote D M h → base.Within D M.tables.core bs
  pub kept : (e : ℕ) → frees_step M h e ≡ false → base.Kept M.tables.core bs e
  pub lives : (t : ℕ) → ends_step M h t ≡ false → base.Lives M.tables.core bs t

pub step_base : Moment → Step → List Call
step_base M (ours t c) = base_of M.tables (logged t c M.log)
step_base M (other c) = base_of M.tables c
step_base M (fresh level) = []

-- a step that goes into no log leaves the entries
out_entries : (M : Moment) (t : ℕ) (c : Change) → enters M.tables M.log t c ≡ false → (after_logged M.tables (logged t c M.log)).core.entries ≡ M.tables.core.entries
unfolding outcome_logged
out_entries M t c e = ap (λ (S : Tree). S.entries) (stays_out M.tables t c M.log e)

-- one after which every cell is as before
no_calls : (M : Moment) (h : Step) → (next M h).tables ≡ M.tables → FollowsStep M h []
unfolding after_all base.Within base.Kept base.Lives
no_calls M h q = record { same = ap (λ (N : Named). N.core) q; whose = λ D w. tt; kept = λ e f. tt; lives = λ t f. tt }

step-ours : (M : Moment) (t : ℕ) (c : Change) → FollowsStep M (ours t c) (step_base M (ours t c))
unfolding next outcome_logged step_base Wrote frees_step ends_step ChangesTree ends_logged
step-ours M t c =
    let F = follows_logged M.tables t c M.log in
    record {
      same = F.same;
      whose = λ D g. F.whose D (λ x. split (enters M.tables M.log t c) g (λ e. absurd (x (out_entries M t c e))));
      kept = λ e f. F.kept e f;
      lives = λ u f. F.lives u refl;
    }

-- another call that leaves the tree
step_other : (M : Moment) (c : LogCall) (t : ℕ) → FollowsLog M.tables c t (base_of M.tables c) → Leaves M.tables c → ((e : ℕ) → frees_logged M.tables c e ≡ false)
    → FollowsStep M (other c) (step_base M (other c))
unfolding next step_base Wrote frees_step ends_step ChangesTree
step_other M c t F w k = record {
  same = F.same;
  whose = λ D g. F.whose D (λ x. absurd (x (ap (λ (S : Tree). S.entries) (leaves-tree M.tables c w))));
  kept = λ e f. F.kept e (k e);
  lives = λ u f. F.lives u f;
}

pub follows_step : (M : Moment) (h : Step) → Allowed M h → FollowsStep M h (step_base M h)
unfolding Allowed Leaves step_base base_of next
follows_step M (ours t c) w = step-ours M t c
follows_step M (other (plain c u)) w = step_other M (plain c u) (caller_named c) (follows_plain M.tables c u) w (plain-frees M.tables c u)
follows_step M (other (logged t c L)) w = step_other M (logged t c L) t (follows_logged M.tables t c L) w (λ e. logged-frees M.tables t c L e w)
follows_step M (other (replay bs)) w = no_calls M (other (replay bs)) w
follows_step M (fresh level) w = no_calls M (fresh level) w

-- Each call with names, on the tables that it meets, as calls of document 01 with the same effect on the six tables. Assumes nothing.
use mathlib.Core.Path.{◌≡◌, refl, sym, ap, ◌∙◌}
use mathlib.Core.Bool.{true, false, cond}
use mathlib.Core.List.{List, [], ◌∷◌}
use Prim.Native.Nat.{ℕ}
use Rattle.laws.proofs.Bools.{split}
use Rattle.access.specs.declared.errno.Reply.TheVariants.{Done}
use Rattle.tables.specs.Tables.{Tables}
use Rattle.tables.specs.Outcome.{Outcome}
use Rattle.tree.specs.Create.{tree_create, tree_remove}
use Rattle.tree.specs.Link.{tree_link}
use Rattle.tree.specs.Rename.{tree_rename}
use Rattle.tree.specs.Exchange.{tree_exchange}
use Rattle.theorems.specs.Calls.{Call, outcome_of, after, reply, after_all, caller, is_done, would_free, frees, would_end, ends}
use Rattle.theorems.specs.Claim.{domain_of, Grown}
use Rattle.theorems.specs.Claim as settled
use Rattle.names.specs.Names.{names_sound}
use Rattle.names.specs.Paths.{path_checks}
use Rattle.queue.specs.Queue.{Queue}
use Rattle.named.specs.Named.{Named, with_names, NamedOutcome, named_outcome, lift}
use Rattle.named.specs.Tree.{create_named_checks, create_named, remove_named, link_named_checks, link_named, rename_named_checks, rename_named, exchange_named}
use Rattle.named.specs.Queue.{turn_named}
use Rattle.policy_write.specs.File.{write_checks}
use Rattle.named.specs.Batch.{batch_named}
use Rattle.named.specs.Write.{write_named}
use Rattle.named.specs.Calls.{leaves_tree, NamedCall, lifted, create, remove, link, rename, exchange, lookup, turn, batch, apply, write, outcome_named, after_named, reply_named, caller_named, would_free_named, frees_named, would_end_named, ends_named, on_core}
use Rattle.named.specs.Claim.{ChangesTree}
use Rattle.named.proofs.Made.{core-sound, lift_unnamed, lift-goes, named-cases, Way, way_named, way_core, way_goes, core-goes, made, refused-left}
use Rattle.named.proofs.Listed.{create_way, remove_way, link_way, rename_way, exchange_way}
use Rattle.named.proofs.Leaves.{and_none, AllOnRulesets, none, all-within, all-kept, all_live}
use Rattle.named.proofs.Applied.{apply-made}

-- ---- a call of the tree c, and document 01's call b that it comes to
pub record OfTree (N : Named) (c : NamedCall) (b : Call) : Type 0 where
  pub way : Way N
  pub is-named : outcome_named N c ≡ way_named N way
  pub is-core : outcome_of N.core b ≡ way_core N way
  pub comes_to : on_core N c ≡ b ∷ []
  pub whose : caller_named c ≡ caller b
  pub frees-same : (e : ℕ) → would_free_named N c e ≡ would_free N.core b e
  pub ends-none : (t : ℕ) → would_end b t ≡ false

pub data Seen (N : Named) : NamedCall → Type 0 where
  is-lifted : (c : Call) (q : leaves_tree c ≡ true) → Seen N (lifted c q)
  of_tree : {c : NamedCall} (b : Call) → OfTree N c b → Seen N c
  is-lookup : (p : List ℕ) → Seen N (lookup p)
  is-turn : (Q : Queue) → Seen N (turn Q)
  is-batch : (rs ns xs : List ℕ) → Seen N (batch rs ns xs)
  is-apply : (stock site name : List ℕ) → Seen N (apply stock site name)
  is-write : (r : ℕ) (name out : List ℕ) → Seen N (write r name out)

pub seen : (N : Named) (c : NamedCall) → Seen N c
unfolding outcome_named outcome_of on_core caller_named caller would_free_named would_free would_end
    create_named create_named_checks tree_create create_way remove_named tree_remove remove_way link_named link_named_checks tree_link link_way
    rename_named rename_named_checks tree_rename rename_way exchange_named tree_exchange exchange_way
seen N (lifted c q) = is-lifted c q
seen N (create t d k n) = of_tree (Call.create t d k)
    (record { way = create_way N t d k n; is-named = refl; is-core = refl; comes_to = refl; whose = refl; frees-same = λ e. refl; ends-none = λ u. refl })
seen N (remove t e) = of_tree (Call.remove t e)
    (record { way = remove_way N t e; is-named = refl; is-core = refl; comes_to = refl; whose = refl; frees-same = λ e. refl; ends-none = λ u. refl })
seen N (link t s d n) = of_tree (Call.link t s d)
    (record { way = link_way N t s d n; is-named = refl; is-core = refl; comes_to = refl; whose = refl; frees-same = λ e. refl; ends-none = λ u. refl })
seen N (rename t s d n) = of_tree (Call.rename t s d _)
    (record { way = rename_way N t s d n; is-named = refl; is-core = refl; comes_to = refl; whose = refl; frees-same = λ e. refl; ends-none = λ u. refl })
seen N (exchange t s d x) = of_tree (Call.exchange t s d x)
    (record { way = exchange_way N t s d x; is-named = refl; is-core = refl; comes_to = refl; whose = refl; frees-same = λ e. refl; ends-none = λ u. refl })
seen N (lookup p) = is-lookup p
seen N (turn Q) = is-turn Q
seen N (batch rs ns xs) = is-batch rs ns xs
seen N (apply stock site name) = is-apply stock site name
seen N (write r name out) = is-write r name out

-- ---- the translation: a lifted call where the names are sound, a call of the tree where it is not refused, the calls that an application makes
unfoldable pub turned : (N : Named) (c : NamedCall) → Seen N c → List Call
turned N c (is-lifted b q) = cond (names_sound N.core.entries N.names) (b ∷ []) []
turned N c (of_tree b O) = cond (is_done (reply_named N c)) (b ∷ []) []
turned N c (is-lookup p) = []
turned N c (is-turn Q) = []
turned N c (is-batch rs ns xs) = []
turned N c (is-apply stock site name) = (apply-made N stock site name).calls
turned N c (is-write r name out) = []

unfoldable pub translate : Named → NamedCall → List Call
translate N c = turned N c (seen N c)

-- ---- what it tells that the calls bs of document 01 follow the call c
pub record Follows (N : Named) (c : NamedCall) (bs : List Call) : Type 0 where
  -- the same effect on the six tables
  pub same : (after_named N c).core ≡ after_all N.core bs
  -- by the same thread
  pub whose : (D : List ℕ) → (ChangesTree N c → Grown D (domain_of N.core (caller_named c))) → settled.Within D N.core bs
  -- freeing no more, ending no more
  pub kept : (e : ℕ) → frees_named N c e ≡ false → settled.Kept N.core bs e
  pub lives : (t : ℕ) → ends_named N c t ≡ false → settled.Lives N.core bs t

module _ (N : Named) (c : NamedCall) where
  -- calls on rulesets, which leave the tree alone
  follows_list : {bs : List Call} → AllOnRulesets bs → (after_named N c).core ≡ after_all N.core bs → Follows N c bs
  follows_list all q = record { same = q; whose = λ D w. all-within all D N.core; kept = λ e h. all-kept all N.core e; lives = λ t h. all_live all N.core t }

  follows_none : (after_named N c).core ≡ N.core → Follows N c []
  unfolding after_all
  follows_none q = follows_list none q

  follows_one : (b : Call) → (after_named N c).core ≡ after N.core b → caller_named c ≡ caller b
      → ((e : ℕ) → frees_named N c e ≡ false → frees N.core b e ≡ false) → ((t : ℕ) → ends_named N c t ≡ false → ends N.core b t ≡ false) → Follows N c (b ∷ [])
  unfolding after_all settled.Within settled.Kept settled.Lives settled.ChangesTree ChangesTree
  follows_one b q u f g = record {
    same = q;
    whose = λ D w. (λ k. rw u at (w (λ z. k (ap (λ (T : Tables). T.entries) (sym q) ∙ z))), tt);
    kept = λ e h. (f e h, tt);
    lives = λ t h. (g t h, tt);
  }

  follows_tree : (b : Call) → OfTree N c b → Follows N c (cond (is_done (reply_named N c)) (b ∷ []) [])
  unfolding frees_named frees ends_named ends
  follows_tree b O =
      let W = O.way in
      let done-is : is_done (way_named N W).reply ≡ is_done (reply_named N c) = ap (λ (o : NamedOutcome). is_done o.reply) (sym O.is-named) in
      split (is_done (reply_named N c))
      (λ r.
      let m = made N W (done-is ∙ r) in
      let left : (after_named N c).core ≡ after N.core b =
      ap (λ (o : NamedOutcome). o.left.core) (O.is-named ∙ sym (way_goes N W m.is-sound_lem m.passed m.none))
      ∙ ap (λ (o : Outcome). o.left) (core-goes N W (core-sound N m.is-sound_lem) m.none ∙ sym O.is-core) in
      rw r (follows_one b left O.whose
      (λ e z. and_none (is_done (reply N.core b)) _ (sym (O.frees-same e) ∙ (rw r at z)))
      (λ t z. and_none (is_done (reply N.core b)) _ (O.ends-none t))))
      (λ r. rw r (follows_none (ap (λ (o : NamedOutcome). o.left.core) O.is-named ∙ ap (λ (M : Named). M.core) (refused-left N W (done-is ∙ r)))))

module _ (N : Named) (b : Call) (q : leaves_tree b ≡ true) where
  pub lifted-is : outcome_named N (lifted b q) ≡ lift N (outcome_of N.core b)
  unfolding outcome_named
  lifted-is = refl

  -- on sound names the reply is that of the call itself
  pub lifted-outcome : names_sound N.core.entries N.names ≡ true → outcome_named N (lifted b q) ≡ named_outcome (reply N.core b) (with_names (after N.core b) N.names)
  lifted-outcome h = lifted-is ∙ sym (lift-goes N (outcome_of N.core b) h)

  follows_lifted : Follows N (lifted b q) (cond (names_sound N.core.entries N.names) (b ∷ []) [])
  unfolding caller_named would_free_named frees_named frees would_end_named ends_named ends
  follows_lifted = split (names_sound N.core.entries N.names)
      (λ h.
      let o = lifted-outcome h in
      let r : reply_named N (lifted b q) ≡ reply N.core b = ap (λ (o : NamedOutcome). o.reply) o in
      rw h (follows_one N (lifted b q) b (ap (λ (o : NamedOutcome). o.left.core) o) refl (λ e z. rw r at z) (λ t z. rw r at z)))
      (λ h. rw h (follows_none N (lifted b q) (ap (λ (o : NamedOutcome). o.left.core) (lifted-is ∙ sym (lift_unnamed N (outcome_of N.core b) h)))))

pub lookup-left : (N : Named) (p : List ℕ) → after_named N (lookup p) ≡ N
unfolding outcome_named
lookup-left N p = named-cases N (path_checks p) _ (λ o. o.left ≡ N) (λ h. refl) (λ h z. refl) (λ h z. refl)

pub turn-left : (N : Named) (Q : Queue) → after_named N (turn Q) ≡ N
unfolding outcome_named turn_named
turn-left N Q = refl

pub batch-left : (N : Named) (rs ns xs : List ℕ) → after_named N (batch rs ns xs) ≡ N
unfolding outcome_named batch_named
batch-left N rs ns xs = refl

pub write-left : (N : Named) (r : ℕ) (name out : List ℕ) → after_named N (write r name out) ≡ N
unfolding outcome_named write_named
write-left N r name out = named-cases N (write_checks N.core N.names r name out) _ (λ o. o.left ≡ N) (λ h. refl) (λ h z. refl) (λ h z. refl)

follows_apply : (N : Named) (stock site name : List ℕ) → Follows N (apply stock site name) (apply-made N stock site name).calls
unfolding outcome_named
follows_apply N stock site name = let B = apply-made N stock site name in follows_list N (apply stock site name) B.all B.same-core

-- ---- every call is followed by its translation
follows_seen : {N : Named} {c : NamedCall} (v : Seen N c) → Follows N c (turned N c v)
unfolding turned
follows_seen {N} (is-lifted b q) = follows_lifted N b q
follows_seen {N} {c} (of_tree b O) = follows_tree N c b O
follows_seen {N} (is-lookup p) = follows_none N (lookup p) (ap (λ (M : Named). M.core) (lookup-left N p))
follows_seen {N} (is-turn Q) = follows_none N (turn Q) (ap (λ (M : Named). M.core) (turn-left N Q))
follows_seen {N} (is-batch rs ns xs) = follows_none N (batch rs ns xs) (ap (λ (M : Named). M.core) (batch-left N rs ns xs))
follows_seen {N} (is-apply stock site name) = follows_apply N stock site name
follows_seen {N} (is-write r name out) = follows_none N (write r name out) (ap (λ (M : Named). M.core) (write-left N r name out))

pub follows : (N : Named) (c : NamedCall) → Follows N c (translate N c)
unfolding translate
follows N c = follows_seen (seen N c)

-- ---- a link that is made
pub link-turn : (N : Named) (u s d : ℕ) (n : List ℕ) → is_done (reply_named N (link u s d n)) ≡ true → translate N (link u s d n) ≡ Call.link u s d ∷ []
unfolding translate turned seen
link-turn N u s d n r = rw r refl

pub link-reply : (N : Named) (u s d : ℕ) (n : List ℕ) (k : ℕ) → reply_named N (link u s d n) ≡ Done k → reply N.core (Call.link u s d) ≡ Done k
unfolding outcome_named outcome_of link_named link_named_checks tree_link link_way
link-reply N u s d n k r =
    let W = link_way N u s d n in
    let m = made N W (ap is_done r) in
    ap (λ (o : Outcome). o.reply) (sym (core-goes N W (core-sound N m.is-sound_lem) m.none))
    ∙ ap (λ (o : NamedOutcome). o.reply) (way_goes N W m.is-sound_lem m.passed m.none) ∙ r

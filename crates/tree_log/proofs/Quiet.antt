-- The calls that leave the tree: all but the five that have a log. Assumes nothing.
use mathlib.Core.Path.{◌≡◌, refl, sym, ap, ◌∙◌}
use mathlib.Core.Bool.{true, false, false≢true}
use mathlib.Core.List.{List}
use Prim.Native.Nat.{ℕ, ◌+◌}
use native.Mathlib.Omega.{arith}
use lib.ListN.{set}
use lib.Seq.{get_or-set_other}
use Rattle.laws.specs.Refusals.{Check, first}
use Rattle.laws.proofs.Bools.{split}
use Rattle.tables.specs.Tables.{Tables, counter, layers_used}
use Rattle.tables.specs.Outcome.{Outcome}
use Rattle.sound.specs.Sound.{sound}
use Rattle.sound.specs.Call.{call}
use Rattle.sound.proofs.Facts.{facts}
use Rattle.ruleset.specs.Create.{created, create_done, closed, close_done}
use Rattle.rule.specs.Rule.{path_added, port_added, add_done}
use Rattle.domain_restrict.specs.Restrict.{counted, restrict_call, restrict_done, restricted}
use Rattle.domain.specs.Threads.{cloned, clone_done, privs_set, admin_set, mark_done}
use Rattle.domain.specs.Layer.{layer_read}
use Rattle.domain_end.specs.End.{end_call, end_checks, end_done}
use Rattle.kept_end.proofs.End.{end_live}
use Rattle.kept_end.proofs.Whole.{ended-whole}
use Rattle.fs_access.specs.Access.{access_call}
use Rattle.net.specs.Port.{port_call}
use Rattle.task.specs.Task.{task_call}
use Rattle.theorems.specs.Calls.{Call, create_ruleset, close_ruleset, add_path_rule, add_port_rule, restrict, layer-rules_lem, clone, end-thread_lem, set_no_new_privs, set-admin_lem, access, port, task, outcome_of, after, after_all, would_free}
use Rattle.theorems.proofs.Naming.{call-cases}
use Rattle.names.specs.Names.{names_sound}
use Rattle.named.specs.Named.{Named, NamedOutcome}
use Rattle.named.specs.Calls.{leaves_tree, NamedCall, lifted, lookup, turn, batch, apply, write, outcome_named, after_named, would_free_named}
use Rattle.named.proofs.Made.{lift_unnamed}
use Rattle.named.proofs.Translate.{lifted-is, lifted-outcome, lookup-left, turn-left, batch-left, write-left}
use Rattle.named.proofs.Leaves.{leaves, leaving, AllOnRulesets, none, more}
use Rattle.named.proofs.Applied.{apply-made, apply-entries}
use Rattle.tree_log.specs.Changes.{Change, call_of}
use Rattle.tree_log.specs.Tree.{tree_of}
use Rattle.tree_log.specs.Logged.{Unlogged}
use Rattle.tree_log.proofs.Trees.{tree_equal}

-- ---- the next object number
still : (T : Tables) (cs : List Check) (done : Outcome) → (sound T ≡ true → first cs ≡ 0 → counter done.left.system ≡ counter T.system)
    → counter (call T cs done).left.system ≡ counter T.system
still T cs done f = call-cases T cs done (λ o. counter o.left.system ≡ counter T.system) (λ h. refl) (λ h z. refl) f

restrict-still : (T : Tables) (t r : ℕ) → counter (restricted T t r).system ≡ counter T.system
unfolding restricted counted
restrict-still T t r =
    let sys = T.system in
    get_or-set_other (set sys 2 (layers_used sys + 1)) 3 1 _ 0 (λ q. absurd (omega arith)) ∙ get_or-set_other sys 2 1 (layers_used sys + 1) 0 (λ q. absurd (omega arith))

-- a call of document 01 that leaves the entries leaves the counter and frees none
record Still (T : Tables) (c : Call) : Type 0 where
  number : counter (after T c).system ≡ counter T.system
  none : (e : ℕ) → would_free T c e ≡ false

stills : (T : Tables) (c : Call) → leaves_tree c ≡ true → Still T c
unfolding outcome_of would_free created closed create_done close_done path_added port_added add_done restrict_call restrict_done cloned clone_done end_call end_done privs_set admin_set mark_done layer_read access_call port_call task_call
stills T (create_ruleset bs flags) q = record { number = still T _ _ (λ h z. refl); none = λ e. refl }
stills T (close_ruleset r) q = record { number = still T _ _ (λ h z. refl); none = λ e. refl }
stills T (add_path_rule r x rights flags) q = record { number = still T _ _ (λ h z. refl); none = λ e. refl }
stills T (add_port_rule r p rights flags) q = record { number = still T _ _ (λ h z. refl); none = λ e. refl }
stills T (restrict t r flags) q = record { number = still T _ _ (λ h z. restrict-still T t r); none = λ e. refl }
stills T (layer-rules_lem l) q = record { number = still T _ _ (λ h z. refl); none = λ e. refl }
stills T (clone t) q = record { number = still T _ _ (λ h z. refl); none = λ e. refl }
stills T (end-thread_lem t) q = record { number = still T (end_checks T t) (end_done T t) (λ h z. (ended-whole T t (facts T h) (end_live T t z)).counter-same_lem); none = λ e. refl }
stills T (set_no_new_privs t) q = record { number = still T _ _ (λ h z. refl); none = λ e. refl }
stills T (set-admin_lem t on) q = record { number = still T _ _ (λ h z. refl); none = λ e. refl }
stills T (access t x m) q = record { number = still T _ _ (λ h z. refl); none = λ e. refl }
stills T (port t p m) q = record { number = still T _ _ (λ h z. refl); none = λ e. refl }
stills T (task t u s) q = record { number = still T _ _ (λ h z. refl); none = λ e. refl }
stills T (Call.create t d k) q = absurd (false≢true q)
stills T (Call.remove t x) q = absurd (false≢true q)
stills T (Call.link t s d) q = absurd (false≢true q)
stills T (Call.rename t s d x) q = absurd (false≢true q)
stills T (Call.exchange t s d x) q = absurd (false≢true q)

-- ---- calls on tables with names
pub record Quiet (N : Named) (c : NamedCall) : Type 0 where
  pub tree : tree_of (after_named N c) ≡ tree_of N
  pub frees : (e : ℕ) → would_free_named N c e ≡ false

lifted-tree : (N : Named) (b : Call) (q : leaves_tree b ≡ true) → tree_of (after_named N (lifted b q)) ≡ tree_of N
lifted-tree N b q = split (names_sound N.core.entries N.names)
    (λ h. ap (λ (o : NamedOutcome). tree_of o.left) (lifted-outcome N b q h) ∙ tree_equal _ (tree_of N) (leaves N.core b q) refl (stills N.core b q).number)
    (λ h. ap (λ (o : NamedOutcome). tree_of o.left) (lifted-is N b q ∙ sym (lift_unnamed N (outcome_of N.core b) h)))

-- calls on rulesets, one after another
rulesets-still : {bs : List Call} → AllOnRulesets bs → (T : Tables) → counter (after_all T bs).system ≡ counter T.system
unfolding after_all
rulesets-still none T = refl
rulesets-still (more {c} v vs) T = rulesets-still vs (after T c) ∙ (stills T c (leaving v)).number

apply-tree : (N : Named) (stock site name : List ℕ) → tree_of (after_named N (apply stock site name)) ≡ tree_of N
unfolding outcome_named
apply-tree N stock site name =
    let B = apply-made N stock site name in
    tree_equal _ (tree_of N) (apply-entries N stock site name) B.same_names (ap (λ (T : Tables). counter T.system) B.same-core ∙ rulesets-still B.all N.core)

-- every other call: a line for each
pub quiet : (N : Named) (c : NamedCall) → Unlogged c → Quiet N c
unfolding Unlogged call_of would_free_named
quiet N (lifted b q) u = record { tree = lifted-tree N b q; frees = (stills N.core b q).none }
quiet N (NamedCall.create t d k n) u = absurd (u t (Change.create k d n) refl)
quiet N (NamedCall.remove t e) u = absurd (u t (Change.remove e) refl)
quiet N (NamedCall.link t s d n) u = absurd (u t (Change.link s d n) refl)
quiet N (NamedCall.rename t s d n) u = absurd (u t (Change.rename s d n) refl)
quiet N (NamedCall.exchange t s d x) u = absurd (u t (Change.exchange s d x) refl)
quiet N (lookup p) u = record { tree = ap tree_of (lookup-left N p); frees = λ e. refl }
quiet N (turn Q) u = record { tree = ap tree_of (turn-left N Q); frees = λ e. refl }
quiet N (batch rs ns xs) u = record { tree = ap tree_of (batch-left N rs ns xs); frees = λ e. refl }
quiet N (apply stock site name) u = record { tree = apply-tree N stock site name; frees = λ e. refl }
quiet N (write r name out) u = record { tree = ap tree_of (write-left N r name out); frees = λ e. refl }

-- Calls of document 01 that leave the tree alone, and lists of those on rulesets. Assumes nothing.
use mathlib.Core.Path.{◌≡◌, refl, ◌∙◌}
use mathlib.Core.Bool.{Bool, true, false, not, ◌&&◌, false≢true}
use mathlib.Core.List.{List, [], ◌∷◌, ◌++◌}
use Prim.Native.Nat.{ℕ}
use lib.Dec.{eqb}
use Rattle.laws.specs.Refusals.{Check, ◌⇒◌, first}
use Rattle.laws.proofs.Bools.{split}
use Rattle.access.specs.Errno.{EIO}
use Rattle.tables.specs.Tables.{Tables}
use Rattle.tables.specs.Outcome.{Outcome, answer}
use Rattle.sound.specs.Sound.{sound}
use Rattle.sound.specs.Call.{call}
use Rattle.ruleset.specs.Create.{created, create_done, closed, close_done}
use Rattle.rule.specs.Rule.{path_added, port_added, add_done}
use Rattle.domain_restrict.specs.Restrict.{restrict_call, restrict_done, restricted}
use Rattle.domain.specs.Threads.{cloned, clone_done, privs_set, admin_set, mark_done}
use Rattle.domain.specs.Layer.{layer_read}
use Rattle.domain_end.specs.End.{end_call, end_done}
use Rattle.fs_access.specs.Access.{access_call}
use Rattle.net.specs.Port.{port_call}
use Rattle.task.specs.Task.{task_call}
use Rattle.kept_end.proofs.End.{ended-entries}
use Rattle.theorems.specs.Calls.{Call, create_ruleset, close_ruleset, add_path_rule, add_port_rule, restrict, layer-rules_lem, clone, end-thread_lem, set_no_new_privs, set-admin_lem, access, port, task, outcome_of, after, reply, after_all, is_done, would_free, frees, would_end, ends}
use Rattle.theorems.specs.Claim.{ChangesTree, Within, Kept, Lives}
use Rattle.named.specs.Calls.{leaves_tree}

still : (T : Tables) (cs : List Check) (done : Outcome) → done.left.entries ≡ T.entries → (call T cs done).left.entries ≡ T.entries
unfolding call answer
still T cs done q = split (eqb (first (not (sound T) ⇒ EIO ∷ cs)) 0) (λ z. rw z q) (λ z. rw z refl)

pub leaves : (T : Tables) (c : Call) → leaves_tree c ≡ true → (after T c).entries ≡ T.entries
unfolding outcome_of created closed create_done close_done path_added port_added add_done restrict_call restrict_done restricted cloned clone_done end_call end_done privs_set admin_set mark_done layer_read access_call port_call task_call
leaves T (create_ruleset bs flags) q = still T _ _ refl
leaves T (close_ruleset r) q = still T _ _ refl
leaves T (add_path_rule r e rights flags) q = still T _ _ refl
leaves T (add_port_rule r p rights flags) q = still T _ _ refl
leaves T (restrict t r flags) q = still T _ _ refl
leaves T (layer-rules_lem l) q = still T _ _ refl
leaves T (clone t) q = still T _ _ refl
leaves T (end-thread_lem t) q = still T _ _ (ended-entries T t)
leaves T (set_no_new_privs t) q = still T _ _ refl
leaves T (set-admin_lem t on) q = still T _ _ refl
leaves T (access t e m) q = still T _ _ refl
leaves T (port t p m) q = still T _ _ refl
leaves T (task t u s) q = still T _ _ refl
leaves T (Call.create t d k) q = absurd (false≢true q)
leaves T (Call.remove t e) q = absurd (false≢true q)
leaves T (Call.link t s d) q = absurd (false≢true q)
leaves T (Call.rename t s d x) q = absurd (false≢true q)
leaves T (Call.exchange t s d x) q = absurd (false≢true q)

-- ---- the calls on rulesets
pub data OnRulesets : Call → Type 0 where
  creates : (bs : List ℕ) (flags : ℕ) → OnRulesets (create_ruleset bs flags)
  closes : (r : ℕ) → OnRulesets (close_ruleset r)
  adds_path : (r e rights flags : ℕ) → OnRulesets (add_path_rule r e rights flags)
  adds_port : (r p rights flags : ℕ) → OnRulesets (add_port_rule r p rights flags)

pub leaving : {c : Call} → OnRulesets c → leaves_tree c ≡ true
leaving (creates bs flags) = refl
leaving (closes r) = refl
leaving (adds_path r e rights flags) = refl
leaving (adds_port r p rights flags) = refl

pub and_none : (a x : Bool) → x ≡ false → (a && x) ≡ false
and_none true x h = h
and_none false x h = refl

frees-none : {c : Call} → OnRulesets c → (T : Tables) (e : ℕ) → would_free T c e ≡ false
unfolding would_free
frees-none (creates bs flags) T e = refl
frees-none (closes r) T e = refl
frees-none (adds_path r x rights flags) T e = refl
frees-none (adds_port r p rights flags) T e = refl

ends-none : {c : Call} → OnRulesets c → (t : ℕ) → would_end c t ≡ false
unfolding would_end
ends-none (creates bs flags) t = refl
ends-none (closes r) t = refl
ends-none (adds_path r x rights flags) t = refl
ends-none (adds_port r p rights flags) t = refl

-- ---- lists of them
pub data AllOnRulesets : List Call → Type 0 where
  none : AllOnRulesets []
  more : {c : Call} {cs : List Call} → OnRulesets c → AllOnRulesets cs → AllOnRulesets (c ∷ cs)

pub all_join : {cs bs : List Call} → AllOnRulesets cs → AllOnRulesets bs → AllOnRulesets (cs ++ bs)
all_join none w = w
all_join (more v vs) w = more v (all_join vs w)

pub all_leave : {cs : List Call} → AllOnRulesets cs → (T : Tables) → (after_all T cs).entries ≡ T.entries
unfolding after_all
all_leave none T = refl
all_leave (more {c} v vs) T = all_leave vs (after T c) ∙ leaves T c (leaving v)

pub all-within : {cs : List Call} → AllOnRulesets cs → (D : List ℕ) (T : Tables) → Within D T cs
unfolding Within ChangesTree
all-within none D T = tt
all-within (more {c} v vs) D T = (λ k. absurd (k (leaves T c (leaving v))), all-within vs D (after T c))

pub all-kept : {cs : List Call} → AllOnRulesets cs → (T : Tables) (e : ℕ) → Kept T cs e
unfolding Kept frees
all-kept none T e = tt
all-kept (more {c} v vs) T e = (and_none (is_done (reply T c)) _ (frees-none v T e), all-kept vs (after T c) e)

pub all_live : {cs : List Call} → AllOnRulesets cs → (T : Tables) (t : ℕ) → Lives T cs t
unfolding Lives ends
all_live none T t = tt
all_live (more {c} v vs) T t = (and_none (is_done (reply T c)) _ (ends-none v t), all_live vs (after T c) t)

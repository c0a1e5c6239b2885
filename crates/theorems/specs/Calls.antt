-- Document 01: every call in one type, with what each answers and leaves, by the very definitions that the contracts of the entry points cite.
use Rattle.std.specs.Prelude.{Bool, true, false, not, ◌&&◌, List, [], ◌∷◌, ℕ, eqb}
use Rattle.access.specs.declared.errno.Reply.{Reply}
use Rattle.access.specs.declared.errno.Reply.TheVariants.{Done, Refused, Denied}
use Rattle.tables.specs.Tables.{Tables}
use Rattle.tables.specs.Outcome.{Outcome}
use Rattle.ruleset.specs.Create.{created, closed}
use Rattle.rule.specs.Rule.{path_added, port_added}
use Rattle.domain_restrict.specs.Restrict.{restrict_call}
use Rattle.domain.specs.Threads.{cloned, privs_set, admin_set}
use Rattle.domain.specs.Layer.{layer_read}
use Rattle.domain_end.specs.End.{end_call}
use Rattle.fs_access.specs.Access.{access_call}
use Rattle.net.specs.Port.{port_call}
use Rattle.task.specs.declared.Scope.{Scope}
use Rattle.task.specs.Task.{task_call}
use Rattle.tree.specs.declared.Replaced.{Replaced}
use Rattle.tree.specs.Entries.{replacing, same_object}
use Rattle.tree.specs.Create.{tree_create, tree_remove}
use Rattle.tree.specs.Link.{tree_link}
use Rattle.tree.specs.Rename.{tree_rename}
use Rattle.tree.specs.Exchange.{tree_exchange}

-- a call with its arguments
pub data Call : Type 0 where
  -- attribute bytes, flags
  create_ruleset : List ℕ → ℕ → Call
  close_ruleset : ℕ → Call
  -- ruleset, entry, rights, flags
  add_path_rule : ℕ → ℕ → ℕ → ℕ → Call
  -- ruleset, port, rights, flags
  add_port_rule : ℕ → ℕ → ℕ → ℕ → Call
  -- thread, ruleset, flags
  restrict : ℕ → ℕ → ℕ → Call
  layer-rules_lem : ℕ → Call
  clone : ℕ → Call
  -- thread
  end-thread_lem : ℕ → Call
  set_no_new_privs : ℕ → Call
  -- thread, on or off
  set-admin_lem : ℕ → ℕ → Call
  -- thread, entry, rights
  access : ℕ → ℕ → ℕ → Call
  -- thread, port, rights
  port : ℕ → ℕ → ℕ → Call
  -- thread, the thread that it signals or whose socket it reaches
  task : ℕ → ℕ → Scope → Call
  -- thread, directory, kind
  create : ℕ → ℕ → ℕ → Call
  -- thread, entry
  remove : ℕ → ℕ → Call
  -- thread, source, directory
  link : ℕ → ℕ → ℕ → Call
  -- thread, source, directory, replaced entry
  rename : ℕ → ℕ → ℕ → Replaced → Call
  -- thread, source, directory, other entry
  exchange : ℕ → ℕ → ℕ → ℕ → Call

-- what a call answers and leaves
unfoldable pub outcome_of : Tables → Call → Outcome
outcome_of T (create_ruleset bs flags) = created T bs flags
outcome_of T (close_ruleset r) = closed T r
outcome_of T (add_path_rule r e rights flags) = path_added T r e rights flags
outcome_of T (add_port_rule r p rights flags) = port_added T r p rights flags
outcome_of T (restrict t r flags) = restrict_call T t r flags
outcome_of T (layer-rules_lem l) = layer_read T l
outcome_of T (clone t) = cloned T t
outcome_of T (end-thread_lem t) = end_call T t
outcome_of T (set_no_new_privs t) = privs_set T t
outcome_of T (set-admin_lem t on) = admin_set T t on
outcome_of T (access t e m) = access_call T t e m
outcome_of T (port t p m) = port_call T t p m
outcome_of T (task t u s) = task_call T t u s
outcome_of T (create t d k) = tree_create T t d k
outcome_of T (remove t e) = tree_remove T t e
outcome_of T (link t s d) = tree_link T t s d
outcome_of T (rename t s d x) = tree_rename T t s d x
outcome_of T (exchange t s d x) = tree_exchange T t s d x

abbrev pub after : Tables → Call → Tables
after T c = (outcome_of T c).left

abbrev pub reply : Tables → Call → Reply
reply T c = (outcome_of T c).reply

-- a list of calls, each on the tables as the last one left them
unfoldable pub after_all : Tables → List Call → Tables
after_all T [] = T
after_all T (c ∷ cs) = after_all (after T c) cs

-- the thread that makes a call; 0 for those that no thread makes, which leave the tree alone
unfoldable pub caller : Call → ℕ
caller (create_ruleset bs flags) = 0
caller (close_ruleset r) = 0
caller (add_path_rule r e rights flags) = 0
caller (add_port_rule r p rights flags) = 0
caller (restrict t r flags) = t
caller (layer-rules_lem l) = 0
caller (clone t) = t
caller (end-thread_lem t) = t
caller (set_no_new_privs t) = t
caller (set-admin_lem t on) = t
caller (access t e m) = t
caller (port t p m) = t
caller (task t u s) = t
caller (create t d k) = t
caller (remove t e) = t
caller (link t s d) = t
caller (rename t s d x) = t
caller (exchange t s d x) = t

-- the call was not refused
abbrev pub is_done : Reply → Bool
is_done (Done n) = true
is_done (Refused e) = false
is_done (Denied e l s) = false

-- the entries that a call frees if it is not refused: "by a remove of it or a rename that replaced it"
unfoldable pub would_free : Tables → Call → ℕ → Bool
would_free T (create_ruleset bs flags) e = false
would_free T (close_ruleset r) e = false
would_free T (add_path_rule r x rights flags) e = false
would_free T (add_port_rule r p rights flags) e = false
would_free T (restrict t r flags) e = false
would_free T (layer-rules_lem l) e = false
would_free T (clone t) e = false
would_free T (end-thread_lem t) e = false
would_free T (set_no_new_privs t) e = false
would_free T (set-admin_lem t on) e = false
would_free T (access t x m) e = false
would_free T (port t p m) e = false
would_free T (task t u s) e = false
would_free T (create t d k) e = false
would_free T (remove t x) e = eqb e x
would_free T (link t s d) e = false
would_free T (rename t s d x) e = replacing x (λ y. not (same_object T.entries s y) && eqb e y)
would_free T (exchange t s d x) e = false

unfoldable pub frees : Tables → Call → ℕ → Bool
frees T c e = is_done (reply T c) && would_free T c e

-- the thread that a call ends if it is not refused
unfoldable pub would_end : Call → ℕ → Bool
would_end (create_ruleset bs flags) t = false
would_end (close_ruleset r) t = false
would_end (add_path_rule r x rights flags) t = false
would_end (add_port_rule r p rights flags) t = false
would_end (restrict u r flags) t = false
would_end (layer-rules_lem l) t = false
would_end (clone u) t = false
would_end (end-thread_lem u) t = eqb t u
would_end (set_no_new_privs u) t = false
would_end (set-admin_lem u on) t = false
would_end (access u x m) t = false
would_end (port u p m) t = false
would_end (task u v s) t = false
would_end (create u d k) t = false
would_end (remove u x) t = false
would_end (link u s d) t = false
would_end (rename u s d x) t = false
would_end (exchange u s d x) t = false

unfoldable pub ends : Tables → Call → ℕ → Bool
ends T c t = is_done (reply T c) && would_end c t

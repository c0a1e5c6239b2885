-- Every call on tables with names in one type, with what each answers and leaves.
use Rattle.std.specs.Prelude.{◌≡◌, Bool, true, false, not, ◌&&◌, List, [], ◌∷◌, ℕ, eqb}
use Rattle.access.specs.declared.errno.Reply.{Reply}
use Rattle.tree.specs.Entries.{replacing, same_object}
use Rattle.theorems.specs.Calls.{Call, create_ruleset, close_ruleset, add_path_rule, add_port_rule, restrict, layer-rules_lem, clone, end-thread_lem, set_no_new_privs, set-admin_lem, access, port, task, outcome_of, caller, is_done, would_free, would_end}
use Rattle.queue.specs.Queue.{Queue}
use Rattle.named.specs.Named.{Named, NamedOutcome, lift}
use Rattle.named.specs.Tree.{create_named, remove_named, link_named, replaced_by, rename_named, exchange_named}
use Rattle.named.specs.Queue.{turn_named}
use Rattle.named.specs.Batch.{batch_named}
use Rattle.named.specs.Policy.{lookup_named, apply_named}
use Rattle.named.specs.Write.{write_named}

-- the calls of document 01 that neither read nor write names: all but those that change the tree
abbrev pub leaves_tree : Call → Bool
leaves_tree (create_ruleset bs flags) = true
leaves_tree (close_ruleset r) = true
leaves_tree (add_path_rule r e rights flags) = true
leaves_tree (add_port_rule r p rights flags) = true
leaves_tree (restrict t r flags) = true
leaves_tree (layer-rules_lem l) = true
leaves_tree (clone t) = true
leaves_tree (end-thread_lem t) = true
leaves_tree (set_no_new_privs t) = true
leaves_tree (set-admin_lem t on) = true
leaves_tree (access t e m) = true
leaves_tree (port t p m) = true
leaves_tree (task t u s) = true
leaves_tree (Call.create t d k) = false
leaves_tree (Call.remove t e) = false
leaves_tree (Call.link t s d) = false
leaves_tree (Call.rename t s d x) = false
leaves_tree (Call.exchange t s d x) = false

-- a call with its arguments
pub data NamedCall : Type 0 where
  lifted : (c : Call) → leaves_tree c ≡ true → NamedCall
  -- thread, directory, kind, name
  create : ℕ → ℕ → ℕ → List ℕ → NamedCall
  -- thread, entry
  remove : ℕ → ℕ → NamedCall
  -- thread, source, directory, name
  link : ℕ → ℕ → ℕ → List ℕ → NamedCall
  -- thread, source, directory, name
  rename : ℕ → ℕ → ℕ → List ℕ → NamedCall
  -- thread, source, directory, other entry
  exchange : ℕ → ℕ → ℕ → ℕ → NamedCall
  -- path
  lookup : List ℕ → NamedCall
  -- queue
  turn : Queue → NamedCall
  -- requests, their names, answers
  batch : List ℕ → List ℕ → List ℕ → NamedCall
  -- stock, site, name
  apply : List ℕ → List ℕ → List ℕ → NamedCall
  -- ruleset, name, output
  write : ℕ → List ℕ → List ℕ → NamedCall

-- what a call answers and leaves
unfoldable pub outcome_named : Named → NamedCall → NamedOutcome
outcome_named N (lifted c q) = lift N (outcome_of N.core c)
outcome_named N (create t d k n) = create_named N t d k n
outcome_named N (remove t e) = remove_named N t e
outcome_named N (link t s d n) = link_named N t s d n
outcome_named N (rename t s d n) = rename_named N t s d n
outcome_named N (exchange t s d x) = exchange_named N t s d x
outcome_named N (lookup p) = lookup_named N p
outcome_named N (turn Q) = turn_named N Q
outcome_named N (batch rs ns xs) = batch_named N rs ns xs
outcome_named N (apply stock site name) = apply_named N stock site name
outcome_named N (write r name out) = write_named N r name out

abbrev pub after_named : Named → NamedCall → Named
after_named N c = (outcome_named N c).left

abbrev pub reply_named : Named → NamedCall → Reply
reply_named N c = (outcome_named N c).reply

-- a list of calls, each on the tables as the last one left them
unfoldable pub all_named : Named → List NamedCall → Named
all_named N [] = N
all_named N (c ∷ cs) = all_named (after_named N c) cs

-- the thread that makes a call; 0 for those that no thread makes, which leave the tree alone
unfoldable pub caller_named : NamedCall → ℕ
caller_named (lifted c q) = caller c
caller_named (create t d k n) = t
caller_named (remove t e) = t
caller_named (link t s d n) = t
caller_named (rename t s d n) = t
caller_named (exchange t s d x) = t
caller_named (lookup p) = 0
caller_named (turn Q) = 0
caller_named (batch rs ns xs) = 0
caller_named (apply stock site name) = 0
caller_named (write r name out) = 0

-- the entries that a call frees if it is not refused: "by a remove of it or a rename that replaced it"
unfoldable pub would_free_named : Named → NamedCall → ℕ → Bool
would_free_named N (lifted c q) e = would_free N.core c e
would_free_named N (create t d k n) e = false
would_free_named N (remove t x) e = eqb e x
would_free_named N (link t s d n) e = false
would_free_named N (rename t s d n) e = replacing (replaced_by N d n) (λ y. not (same_object N.core.entries s y) && eqb e y)
would_free_named N (exchange t s d x) e = false
would_free_named N (lookup p) e = false
would_free_named N (turn Q) e = false
would_free_named N (batch rs ns xs) e = false
would_free_named N (apply stock site name) e = false
would_free_named N (write r name out) e = false

unfoldable pub frees_named : Named → NamedCall → ℕ → Bool
frees_named N c e = is_done (reply_named N c) && would_free_named N c e

-- the thread that a call ends if it is not refused
unfoldable pub would_end_named : NamedCall → ℕ → Bool
would_end_named (lifted c q) t = would_end c t
would_end_named (create u d k n) t = false
would_end_named (remove u x) t = false
would_end_named (link u s d n) t = false
would_end_named (rename u s d n) t = false
would_end_named (exchange u s d x) t = false
would_end_named (lookup p) t = false
would_end_named (turn Q) t = false
would_end_named (batch rs ns xs) t = false
would_end_named (apply stock site name) t = false
would_end_named (write r name out) t = false

unfoldable pub ends_named : Named → NamedCall → ℕ → Bool
ends_named N c t = is_done (reply_named N c) && would_end_named c t

-- document 01's call on the six tables that a call comes to; a lookup, a turn, a batch and a write come to none, and an application makes several
unfoldable pub on_core : Named → NamedCall → List Call
on_core N (lifted c q) = c ∷ []
on_core N (create t d k n) = Call.create t d k ∷ []
on_core N (remove t e) = Call.remove t e ∷ []
on_core N (link t s d n) = Call.link t s d ∷ []
on_core N (rename t s d n) = Call.rename t s d (replaced_by N d n) ∷ []
on_core N (exchange t s d x) = Call.exchange t s d x ∷ []
on_core N (lookup p) = []
on_core N (turn Q) = []
on_core N (batch rs ns xs) = []
on_core N (apply stock site name) = []
on_core N (write r name out) = []

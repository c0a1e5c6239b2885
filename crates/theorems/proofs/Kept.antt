-- Every call keeps sound tables sound, with any arguments, and so does every list of calls. Assumes nothing.
use mathlib.Core.Path.{◌≡◌}
use mathlib.Core.Bool.{true}
use mathlib.Core.List.{List, [], ◌∷◌}
use Prim.Native.Nat.{ℕ, ◌≤◌}
use Rattle.access.specs.Limits.{max_level}
use Rattle.tables.specs.Tables.{Tables}
use Rattle.tables.specs.Fresh.{fresh_tables}
use Rattle.sound.specs.Sound.{sound}
use Rattle.sound.proofs.Calls.{kept-call}
use Rattle.sound.proofs.Fresh.{fresh-sound}
use Rattle.domain.specs.Layer.{layer_read}
use Rattle.fs_access.specs.Access.{access_call}
use Rattle.net.specs.Port.{port_call}
use Rattle.task.specs.Task.{task_call}
use Rattle.kept_rulesets.proofs.Create.{kept-created, kept-closed}
use Rattle.kept_rulesets.proofs.Add.{kept-path-added, kept-port-added}
use Rattle.kept_domains.proofs.Marks.{kept-cloned, kept_privs_set, kept-admin-set}
use Rattle.kept_domains.proofs.Restrict.{kept-restricted}
use Rattle.kept_end.proofs.End.{kept-ended}
use Rattle.kept_tree.proofs.Fill as fill
use Rattle.kept_tree.proofs.Clear.{kept_removed}
use Rattle.kept_tree.proofs.Move.{kept_renamed, kept_exchanged}
use Rattle.theorems.specs.Calls.{Call, create_ruleset, close_ruleset, add_path_rule, add_port_rule, restrict, layer-rules_lem, clone, end-thread_lem, set_no_new_privs, set-admin_lem, access, port, task, create, remove, link, rename, exchange, outcome_of, after, after_all}

pub kept : (T : Tables) (c : Call) → sound T ≡ true → sound (after T c) ≡ true
unfolding outcome_of layer_read access_call port_call task_call
kept T (create_ruleset bs flags) h = kept-created T bs flags h
kept T (close_ruleset r) h = kept-closed T r h
kept T (add_path_rule r e rights flags) h = kept-path-added T r e rights flags h
kept T (add_port_rule r p rights flags) h = kept-port-added T r p rights flags h
kept T (restrict t r flags) h = kept-restricted T t r flags h
kept T (layer-rules_lem l) h = kept-call T _ _ (λ z. h) h
kept T (clone t) h = kept-cloned T t h
kept T (end-thread_lem t) h = kept-ended T t h
kept T (set_no_new_privs t) h = kept_privs_set T t h
kept T (set-admin_lem t on) h = kept-admin-set T t on h
kept T (access t e m) h = kept-call T _ _ (λ z. h) h
kept T (port t p m) h = kept-call T _ _ (λ z. h) h
kept T (task t u s) h = kept-call T _ _ (λ z. h) h
kept T (create t d k) h = fill.kept-created T t d k h
kept T (remove t e) h = kept_removed T t e h
kept T (link t s d) h = fill.kept-linked T t s d h
kept T (rename t s d x) h = kept_renamed T t s d x h
kept T (exchange t s d x) h = kept_exchanged T t s d x h

pub kept-all : (T : Tables) (cs : List Call) → sound T ≡ true → sound (after_all T cs) ≡ true
unfolding after_all
kept-all T [] h = h
kept-all T (c ∷ cs) h = kept-all (after T c) cs (kept T c h)

-- from fresh tables no list of calls comes to unsound ones, so none meets EIO
pub never_unsound : (level : ℕ) → level ≤ max_level → (cs : List Call) → sound (after_all (fresh_tables level) cs) ≡ true
never_unsound level h cs = kept-all (fresh_tables level) cs (fresh-sound level h)

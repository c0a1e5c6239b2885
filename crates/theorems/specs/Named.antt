-- Document 02, W8, "Say which layer".
use Rattle.std.specs.Prelude.{◌≡◌, true, not, List, ◌∷◌, ◌⊎◌, ℕ, ◌<◌}
use Rattle.laws.specs.Refusals.{Check, ◌⇒◌, first}
use Rattle.access.specs.Errno.{EIO, EACCES, EXDEV}
use Rattle.access.specs.Kinds.{kind_of}
use Rattle.access.specs.Limits.{max_layers}
use Rattle.access.specs.Rights.{join, without, within, REFER}
use Rattle.access.specs.declared.errno.Errno.{Errno}
use Rattle.access.specs.declared.errno.Reply.TheVariants.{Refused, Denied}
use Rattle.access.specs.declared.rights.Rights.{Rights}
use Rattle.tables.specs.Tables.{Tables, kind, parent}
use Rattle.tables.specs.Outcome.{error_of}
use Rattle.sound.specs.Sound.{sound}
use Rattle.judge.specs.Blame.{none, denied_at, denied_port}
use Rattle.ruleset.specs.Create.{create_checks, close_checks}
use Rattle.rule.specs.Rule.{add_path_checks, add_port_checks}
use Rattle.domain_restrict.specs.Restrict.{restrict_checks}
use Rattle.domain.specs.Threads.{clone_checks, mark_checks}
use Rattle.domain.specs.Layer.{layer_checks}
use Rattle.domain_end.specs.End.{end_checks}
use Rattle.fs_access.specs.Access.{access_checks}
use Rattle.net.specs.Port.{port_checks}
use Rattle.task.specs.Task.{task_checks}
use Rattle.fs.specs.Needs.{make_of, remove_of}
use Rattle.fs.specs.Blame.{denied_move, crossed_move}
use Rattle.fs.specs.declared.verdict.Move.{Move}
use Rattle.tree.specs.Moves.{link_move, rename_move, exchange_move}
use Rattle.tree.specs.Create.{tree_create_checks, remove_checks}
use Rattle.tree.specs.Link.{link_checks}
use Rattle.tree.specs.Rename.{rename_checks}
use Rattle.tree.specs.Exchange.{exchange_checks}
use Rattle.theorems.specs.Calls.{Call, create_ruleset, close_ruleset, add_path_rule, add_port_rule, restrict, layer-rules_lem, clone, end-thread_lem, set_no_new_privs, set-admin_lem, access, port, task, create, remove, link, rename, exchange, caller, reply}
use Rattle.theorems.specs.Claim.{domain_of}

-- the refusals of a call on sound tables, in their order
unfoldable pub refusals_of : Tables → Call → List Check
refusals_of T (create_ruleset bs flags) = create_checks T bs flags
refusals_of T (close_ruleset r) = close_checks T r
refusals_of T (add_path_rule r e rights flags) = add_path_checks T r e rights flags
refusals_of T (add_port_rule r p rights flags) = add_port_checks T r p rights flags
refusals_of T (restrict t r flags) = restrict_checks T t r flags
refusals_of T (layer-rules_lem l) = layer_checks T l
refusals_of T (clone t) = clone_checks T t
refusals_of T (end-thread_lem t) = end_checks T t
refusals_of T (set_no_new_privs t) = mark_checks T t
refusals_of T (set-admin_lem t on) = mark_checks T t
refusals_of T (access t e m) = access_checks T t e m
refusals_of T (port t p m) = port_checks T t p m
refusals_of T (task t u s) = task_checks T.layers T.threads t u s
refusals_of T (create t d k) = tree_create_checks T t d k
refusals_of T (remove t e) = remove_checks T t e
refusals_of T (link t s d) = link_checks T t s d
refusals_of T (rename t s d x) = rename_checks T t s d x
refusals_of T (exchange t s d x) = exchange_checks T t s d x

-- what a verdict judges: the sets of each layer, for EACCES and for EXDEV; what was asked for or needed, and the rights of the kinds that move
pub record Verdict : Type 0 where
  pub denied : ℕ → ℕ
  pub crossed : ℕ → ℕ
  pub asked : ℕ
  pub moved : ℕ

abbrev nothing : Verdict
nothing = record { denied = none; crossed = none; asked = 0; moved = 0 }

abbrev at_entry : Tables → ℕ → ℕ → Verdict
at_entry T e m = record { denied = denied_at T e m; crossed = none; asked = m; moved = 0 }

abbrev at_port : Tables → ℕ → ℕ → Verdict
at_port T p m = record { denied = denied_port T p m; crossed = none; asked = m; moved = 0 }

-- the needs other than REFER, and both entries of an exchange
abbrev of_move : Tables → Move → Verdict
of_move T m =
    record {
      denied = denied_move T m;
      crossed = crossed_move T m;
      asked = without (join m.leave.0 m.enter.0) REFER;
      moved = join m.rights.0 m.back.0;
    }

unfoldable pub verdict_on : Tables → Call → Verdict
verdict_on T (create_ruleset bs flags) = nothing
verdict_on T (close_ruleset r) = nothing
verdict_on T (add_path_rule r e rights flags) = nothing
verdict_on T (add_port_rule r p rights flags) = nothing
verdict_on T (restrict t r flags) = nothing
verdict_on T (layer-rules_lem k) = nothing
verdict_on T (clone t) = nothing
verdict_on T (end-thread_lem t) = nothing
verdict_on T (set_no_new_privs t) = nothing
verdict_on T (set-admin_lem t on) = nothing
verdict_on T (access t e m) = at_entry T e m
verdict_on T (port t p m) = at_port T p m
verdict_on T (task t u s) = nothing
verdict_on T (create t d k) = at_entry T d (make_of (kind_of k))
verdict_on T (remove t e) = at_entry T (parent T.entries e) (remove_of (kind_of (kind T.entries e)))
verdict_on T (link t s d) = of_move T (link_move T.entries s d)
verdict_on T (rename t s d x) = of_move T (rename_move T.entries s d x)
verdict_on T (exchange t s d x) = of_move T (exchange_move T.entries s d x)

-- "the youngest layer whose set is not empty, and that set": l with s, of the layers D, youngest first, with the sets f
pub data Youngest (f : ℕ → ℕ) : List ℕ → ℕ → ℕ → Type 0 where
  here : {l : ℕ} {D : List ℕ} → (f l ≡ 0 → ⊥) → Youngest f (l ∷ D) l (f l)
  older : {k l s : ℕ} {D : List ℕ} → f k ≡ 0 → Youngest f D l s → Youngest f (k ∷ D) l s

-- EACCES names the youngest layer of the caller's domain that denies something, EXDEV the youngest that holds something against the move
pub record ByVerdict (T : Tables) (c : Call) (e : Errno) (l : ℕ) (s : Rights) : Type 0 where
  pub named : ((e.0 ≡ EACCES) × Youngest (verdict_on T c).denied (domain_of T (caller c)) l s.0) ⊎ ((e.0 ≡ EXDEV) × Youngest (verdict_on T c).crossed (domain_of T (caller c)) l s.0)
  -- it is one of the records
  pub below : l < max_layers

-- what a layer denies lies in what was asked for or needed; what it holds against a move is REFER, or lies in the rights of what moves
pub record Lies (j : Verdict) : Type 0 where
  pub denied : (l : ℕ) → within (j.denied l) j.asked ≡ true
  pub crossed : (l : ℕ) → (j.crossed l ≡ REFER) ⊎ (within (j.crossed l) j.moved ≡ true)

-- on any tables, sound or not
pub record LayerNamed : Type 0 where
  -- the error number is that of the first refusal, as it was without a layer
  pub number : (T : Tables) (c : Call) → error_of (reply T c) ≡ first (not (sound T) ⇒ EIO ∷ refusals_of T c)
  -- a layer is named as `ByVerdict` says
  pub denied : (T : Tables) (c : Call) (e : Errno) (l : ℕ) (s : Rights) → reply T c ≡ Denied e l s → ByVerdict T c e l s
  -- every other refusal names none
  pub others : (T : Tables) (c : Call) (e : Errno) → reply T c ≡ Refused e → (e.0 ≡ EACCES → ⊥) × (e.0 ≡ EXDEV → ⊥)
  -- the sets lie in what was judged
  pub lies : (T : Tables) (c : Call) → Lies (verdict_on T c)

-- Document 02, W1: what names promise, whatever calls were made.
use Rattle.std.specs.Prelude.{◌≡◌, true, false, List, ℕ, ◌≤◌, ◌<◌, length}
use Rattle.laws.specs.Cells.{zeros}
use Rattle.laws.specs.Refusals.{first}
use Rattle.access.specs.Errno.{EIO, EEXIST}
use Rattle.access.specs.Limits.{max_entries}
use Rattle.access.specs.declared.errno.Reply.TheVariants.{Done}
use Rattle.tables.specs.Tables.{parent, live}
use Rattle.tables.specs.Outcome.{error_of}
use Rattle.theorems.specs.Calls.{is_done}
use Rattle.names.specs.Names.{name_checks, row_at, name_at, taken}
use Rattle.names.specs.Paths.{max_path, path_of}
use Rattle.queue.specs.Queue.{Queue, queue_sound}
use Rattle.named.specs.Named.{Named, named_sound, named_outcome, freshened_named}
use Rattle.named.specs.Tree.{create_target, link_target}
use Rattle.named.specs.Calls.{NamedCall, create, link, rename, lookup, turn, outcome_named, reply_named, all_named}

pub record NamesKept (N : Named) : Type 0 where
  pub is-sound_lem : named_sound N ≡ true
  -- no call meets EIO but a turn of a queue that is not sound
  pub never_unsound : (c : NamedCall) → error_of (reply_named N c) ≡ EIO → (Q : Queue) × (c ≡ turn Q) × (queue_sound Q ≡ false)
  -- "every entry but the root a name of 1 to 48 bytes without slash or zero byte, not "." or ".."": it would pass the checks of a name
  pub fine : (e : ℕ) → live N.core.entries e ≡ true → (e ≡ 0 → ⊥) → first (name_checks (name_at N.names e)) ≡ 0
  -- a free row has none
  pub cleared : (e : ℕ) → e < max_entries → live N.core.entries e ≡ false → zeros (row_at N.names e) ≡ true
  -- "unique in its directory": two live entries other than the root with one parent and one name are one entry
  pub unique : (e f : ℕ) → live N.core.entries e ≡ true → live N.core.entries f ≡ true → (e ≡ 0 → ⊥) → (f ≡ 0 → ⊥)
      → parent N.core.entries e ≡ parent N.core.entries f → name_at N.names e ≡ name_at N.names f → e ≡ f
  -- the lookup of an entry's path, "of at most 4,095 bytes", is the entry
  pub found : (e : ℕ) → live N.core.entries e ≡ true → length (path_of N.core.entries N.names e) ≤ max_path
      → reply_named N (lookup (path_of N.core.entries N.names e)) ≡ Done e

pub record NamesPromised : Type 0 where
  -- of what any calls leave of sound tables
  pub kept : (N : Named) (cs : List NamedCall) → named_sound N ≡ true → NamesKept (all_named N cs)
  -- and of fresh ones, whatever tables they were made in
  pub fresh : (N : Named) (level : ℕ) (cs : List NamedCall) → is_done (freshened_named N level).reply ≡ true → NamesKept (all_named (freshened_named N level).left cs)
  -- a rename of an entry within its directory to the name that it bears: "0, nothing changes"
  pub own_name : (N : Named) (t s : ℕ) → named_sound N ≡ true → live N.core.entries s ≡ true → (s ≡ 0 → ⊥)
      → is_done (reply_named N (rename t s (parent N.core.entries s) (name_at N.names s))) ≡ true
      → outcome_named N (rename t s (parent N.core.entries s) (name_at N.names s)) ≡ named_outcome (Done 0) N
  -- "after the target's ENOTDIR come a bad name .., then for create and link a taken one, EEXIST": of whatever kind the new entry is to be, an unknown one too
  pub create-taken_lem : (N : Named) (t d k : ℕ) (n : List ℕ) → named_sound N ≡ true → first (create_target N.core.entries N.core.threads t d) ≡ 0
      → first (name_checks n) ≡ 0 → taken N.core.entries N.names d n ≡ true → error_of (reply_named N (create t d k n)) ≡ EEXIST
  -- and whatever the source of a link is, a directory too
  pub link-taken_lem : (N : Named) (t s d : ℕ) (n : List ℕ) → named_sound N ≡ true → first (link_target N.core.entries N.core.threads t s d) ≡ 0
      → first (name_checks n) ≡ 0 → taken N.core.entries N.names d n ≡ true → error_of (reply_named N (link t s d n)) ≡ EEXIST

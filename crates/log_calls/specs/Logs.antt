-- A log as code has it, what a writer of a field asks, and what a call without room for its field answers.
use Rattle.std.specs.Prelude.{◌≡◌, cond, true, List, ℕ, ◌≤◌, ◌<◌, length}
use Rattle.access.specs.Errno.{ENOSPC}
use Rattle.access.specs.Reply.{is_refused}
use Rattle.access.specs.declared.errno.Reply.{Reply}
use Rattle.access.specs.declared.errno.Reply.TheVariants.{Refused}
use Rattle.named.specs.Named.{Named, NamedOutcome, named_outcome}
use Rattle.tree_log.specs.Changes.{Change, create, remove, link, rename, exchange, value_of, field_of, max_value}
use Rattle.tree_log.specs.Logged.{Log, has_room}

-- the bytes that a log may take, and how many of them are written
abbrev pub log_of : List ℕ → ℕ → Log
log_of bs used = record { bytes = bs; used = used }

-- the numbers of a change fit their bytes
unfoldable pub Narrow : Change → Type 0
Narrow (create k d n) = (k < 256) × (d < 65536)
Narrow (remove e) = e < 65536
Narrow (link s d n) = (s < 65536) × (d < 65536)
Narrow (rename s d n) = (s < 65536) × (d < 65536)
Narrow (exchange s d x) = (s < 65536) × (d < 65536) × (x < 65536)

-- the field of a change may be written
pub record Fits (L : Log) (c : Change) : Type 0 where
  pub room : has_room L (field_of c) ≡ true
  pub numbers : Narrow c
  pub short : length (value_of c) ≤ max_value

-- "after all its other refusals": the call's own refusal; a success becomes ENOSPC
unfoldable pub full_reply : Reply → Reply
full_reply r = cond (is_refused r) r (Refused (record { 0 = ENOSPC }))

-- and "alters neither tables nor log"
unfoldable pub without_room : Named → NamedOutcome → NamedOutcome
without_room N o = named_outcome (full_reply o.reply) N

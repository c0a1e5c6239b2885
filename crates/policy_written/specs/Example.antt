-- Request W12: "Ruleset A of 01 named "p" gives 64 bytes", on document 01's tree as calls make it from fresh tables.
use Rattle.std.specs.Prelude.{◌≡◌, List, ◌++◌, ℕ, ◌≤◌, ◌<◌, length, drop}
use Rattle.access.specs.Errno.{ENOSPC}
use Rattle.access.specs.Limits.{max_level}
use Rattle.access.specs.declared.errno.Reply.TheVariants.{Done}
use Rattle.policy_write.specs.Example.{name_of_a, bytes_of_a}
use Rattle.named.specs.Named.{Named, named_outcome, named_refused, fresh_named}
use Rattle.named.specs.Calls.{all_named}
use Rattle.starred_named.specs.Starred.{start, asked}
use Rattle.named.specs.Write.{write_named, written_out}

-- "1 gets 4, 2 gets 8486": A is ruleset 0
abbrev pub with_a : Named
with_a = all_named (fresh_named max_level) (start ++ asked 4)

pub record WrittenA : Type 0 where
  -- in any output that has room for them
  pub written : (out : List ℕ) → 64 ≤ length out → write_named with_a 0 name_of_a out ≡ named_outcome (Done 64) with_a
  pub bytes : (out : List ℕ) → 64 ≤ length out → written_out with_a 0 name_of_a out ≡ bytes_of_a ++ drop 64 out
  -- "ENOSPC exactly if the file is longer than the room"
  pub refused : (out : List ℕ) → length out < 64 → write_named with_a 0 name_of_a out ≡ named_refused ENOSPC with_a
  pub untouched : (out : List ℕ) → length out < 64 → written_out with_a 0 name_of_a out ≡ out

-- Document 02, W14: a turn of the queue on tables with names.
use Rattle.std.specs.Prelude.{ℕ}
use Rattle.codes.specs.Codes.{said}
use Rattle.queue.specs.declared.Answer.{Answer}
use Rattle.queue.specs.Queue.{Queue, turn, served_reply}
use Rattle.fs_access.specs.Access.{access_call, access_count}
use Rattle.named.specs.Named.{Named, NamedOutcome, named_outcome, lift, lift_count}

-- "Answers are those of the tables at the turn, EIO for unsound ones included": what the access call says of a thread, an entry and rights, and how many
-- entries' rules it read
unfoldable pub answer_of : Named → ℕ → ℕ → ℕ → Answer
answer_of N t e m =
    let s = said (lift N (access_call N.core t e m)).reply in
    record { error = s.error; layer = s.layer; rights = s.rights; read = lift_count N (access_count N.core t e m) }

-- a turn changes no table
unfoldable pub turn_named : Named → Queue → NamedOutcome
turn_named N Q = named_outcome (served_reply (turn (answer_of N) Q).said) N

use mathlib.Core.Path.{ap}
use mathlib.Core.Bool.{false≢true, not}
use borrow.Author.Rules.{rules}
use Rattle.named.proofs.Replies.{core_fails, names_decide_lem}
use Rattle.syscalls_batch.proofs.tables_indexed.Goals as goal

pub returns-then-not-is_sound : goal.returns-then-not-is_sound
returns-then-not-is_sound c =
    (core_fails _ c.is_sound.ensures (ap not c.if-not-is_sound.true), λ q. absurd (false≢true q))

pub returns : goal.returns
returns c =
    (names_decide_lem _ c.is_sound.ensures (ap not c.if-not-is_sound.false) c.names_indexed.ensures.0, c.names_indexed.ensures.1)

use mathlib.Core.Path.{sym}
use Prim.Native.Nat.{◌+◌}
use native.Mathlib.Omega.{arith}
use borrow.Author.Rules.{rules}
use borrow.Author.Tests.{lt-leb}
use lib.ListN.{length}
use Rattle.log_append.proofs.Fields.{room-left}
use Rattle.log_append.proofs.has_room.Goals as goal

pub returns-then-used-log : goal.returns-then-used-log
returns-then-used-log c =
    let a = c.args in sym (lt-leb (a.used + (a.fixed + a.more)) (length a.log.now) (omega arith))

pub returns-then-fixed-left : goal.returns-then-fixed-left
returns-then-fixed-left c =
    let a = c.args in sym (lt-leb (a.used + (a.fixed + a.more)) (length a.log.now) (omega arith))

pub returns : goal.returns
returns c =
    let a = c.args in room-left a.used a.fixed a.more (length a.log.now) (omega arith) (omega arith)

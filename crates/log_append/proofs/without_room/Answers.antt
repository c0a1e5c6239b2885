use Rattle.log_append.proofs.Fields.{full_refused, full_done}
use Rattle.log_append.proofs.without_room.Goals as goal

pub returns-then-is_refused : goal.returns-then-is_refused
returns-then-is_refused c =
    full_refused _ c.is_refused.ensures c.if-is_refused.true

pub returns : goal.returns
returns c =
    full_done _ c.is_refused.ensures c.if-is_refused.false

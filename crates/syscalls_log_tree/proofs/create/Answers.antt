use mathlib.Core.Bool.{not}
use mathlib.Core.Path.{refl, ap}
use borrow.Author.Rules.{rules}
use Rattle.tables.specs.Tables.{tables}
use Rattle.named.specs.Named.{with_names}
use Rattle.log_calls.specs.Logs.{log_of}
use Rattle.named.specs.Calls.{outcome_named}
use Rattle.tree_log.specs.Changes.{create, call_of}
use Rattle.tree_log.specs.Tree.{idle}
use Rattle.log_calls.proofs.Cases.{logs_full, logs_refused, logs_enters, fits}
use Rattle.log_append.proofs.Fields.{create-room}
use Rattle.syscalls_log_tree.proofs.create.Goals as goal

pub returns-then-not-has_room : goal.returns-then-not-has_room
unfolding outcome_named call_of idle
returns-then-not-has_room c =
    let a = c.args in
    let N = with_names (tables a.system.now a.entries.now a.rulesets.now a.layers.now a.pool.now a.threads.now) a.names.now in
    let p = logs_full N a.t (create a.k a.d a.name.now) (log_of a.log.now a.used.now) refl ((create-room _ _ _ _ c.has_room.ensures).1 (ap not c.if-not-has_room.true)) c.create_full.ensures in
    record { reply = p.0; log = p.1 }

pub returns-then-is_refused : goal.returns-then-is_refused
unfolding outcome_named call_of idle
returns-then-is_refused c =
    let a = c.args in
    let N = with_names (tables a.system.now a.entries.now a.rulesets.now a.layers.now a.pool.now a.threads.now) a.names.now in
    let p = logs_refused N a.t (create a.k a.d a.name.now) (log_of a.log.now a.used.now) c.create-reply.ensures c.is_refused.ensures c.if-is_refused.true in
    record { reply = p.0; log = p.1 }

pub append_create-requires : goal.append_create-requires
unfolding outcome_named call_of idle
append_create-requires c =
    fits _ _ (create _ _ _) _ c.create-reply.ensures c.is_refused.ensures c.if-is_refused.false ((create-room _ _ _ _ c.has_room.ensures).0 (ap not c.if-not-has_room.false))

pub returns : goal.returns
unfolding outcome_named call_of idle
returns c =
    let a = c.args in
    let N = with_names (tables a.system.now a.entries.now a.rulesets.now a.layers.now a.pool.now a.threads.now) a.names.now in
    let p = logs_enters N a.t (create a.k a.d a.name.now) (log_of a.log.now a.used.now) c.create-reply.ensures c.is_refused.ensures refl ((create-room _ _ _ _ c.has_room.ensures).0 (ap not c.if-not-has_room.false)) c.if-is_refused.false c.append_create.ensures in
    record { reply = p.0; log = p.1 }

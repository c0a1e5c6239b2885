use mathlib.Core.Bool.{not}
use mathlib.Core.Path.{refl, sym, ap, ◌∙◌}
use borrow.Author.Rules.{rules}
use borrow.Author.Tests.{not-true, not-false}
use Rattle.tables.specs.Tables.{tables}
use Rattle.named.specs.Named.{with_names}
use Rattle.log_calls.specs.Logs.{log_of}
use Rattle.laws.proofs.Bools.{clash, either}
use Rattle.named.specs.Calls.{outcome_named}
use Rattle.tree_log.specs.Changes.{rename, call_of}
use Rattle.tree_log.specs.Tree.{idle}
use Rattle.log_calls.proofs.Cases.{logs_full, logs_idle, logs_refused, logs_enters, fits}
use Rattle.log_append.proofs.Fields.{rename-room}
use Rattle.syscalls_log_moves.proofs.rename.Goals as goal
use Rattle.syscalls_log_moves.proofs.rename.Goals.{then-not-idle+else-not-has_room, else-not-idle}

pub returns-then-not-has_room : goal.returns-then-not-has_room
unfolding outcome_named call_of idle
returns-then-not-has_room c =
    let a = c.args in
    let N = with_names (tables a.system.now a.entries.now a.rulesets.now a.layers.now a.pool.now a.threads.now) a.names.now in
    let p = logs_full N a.t (rename a.s a.d a.name.now) (log_of a.log.now a.used.now) (sym c.renames_itself-idle.ensures ∙ c.if-not-idle.true) ((rename-room _ _ _ _ c.has_room.ensures).1 (ap not c.if-not-has_room.true)) c.rename_full.ensures in
    record { reply = p.0; log = p.1 }

pub returns-then-idle : goal.returns-then-idle
unfolding outcome_named call_of idle
returns-then-idle c =
    let a = c.args in
    let N = with_names (tables a.system.now a.entries.now a.rulesets.now a.layers.now a.pool.now a.threads.now) a.names.now in
    let p = logs_idle N a.t (rename a.s a.d a.name.now) (log_of a.log.now a.used.now) c.rename-reply.ensures refl (sym c.renames_itself-idle.ensures ∙ c.if-idle.true) in
    record { reply = p.0; log = p.1 }

pub returns-then-is_refused : goal.returns-then-is_refused
unfolding outcome_named call_of idle
returns-then-is_refused c =
    let a = c.args in
    let N = with_names (tables a.system.now a.entries.now a.rulesets.now a.layers.now a.pool.now a.threads.now) a.names.now in
    let p = logs_refused N a.t (rename a.s a.d a.name.now) (log_of a.log.now a.used.now) c.rename-reply.ensures c.is_refused.ensures c.if-is_refused.true in
    record { reply = p.0; log = p.1 }

pub append_rename-requires : goal.append_rename-requires
unfolding outcome_named call_of idle
append_rename-requires c =
    let a = c.args in
    let N = with_names (tables a.system.now a.entries.now a.rulesets.now a.layers.now a.pool.now a.threads.now) a.names.now in
    fits N a.t (rename a.s a.d a.name.now) (log_of a.log.now a.used.now) c.rename-reply.ensures c.is_refused.ensures c.if-is_refused.false (elim c.if-not-idle.branch [ then-not-idle+else-not-has_room w ↦ (rename-room _ _ _ _ w.has_room.ensures).0 (ap not w.if-not-has_room.false) | else-not-idle w ↦ clash c.renames_itself-idle.result w.if-not-idle.false c.if-idle.false ])

pub returns : goal.returns
unfolding outcome_named call_of idle
returns c =
    let a = c.args in
    let N = with_names (tables a.system.now a.entries.now a.rulesets.now a.layers.now a.pool.now a.threads.now) a.names.now in
    let p = logs_enters N a.t (rename a.s a.d a.name.now) (log_of a.log.now a.used.now) c.rename-reply.ensures c.is_refused.ensures (sym c.renames_itself-idle.ensures ∙ c.if-idle.false) (elim c.if-not-idle.branch [ then-not-idle+else-not-has_room w ↦ (rename-room _ _ _ _ w.has_room.ensures).0 (ap not w.if-not-has_room.false) | else-not-idle w ↦ clash c.renames_itself-idle.result w.if-not-idle.false c.if-idle.false ]) c.if-is_refused.false c.append_rename.ensures in
    record { reply = p.0; log = p.1 }

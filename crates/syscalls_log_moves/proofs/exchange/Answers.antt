use mathlib.Core.Bool.{not}
use mathlib.Core.Path.{refl, sym, ap, ◌∙◌}
use borrow.Author.Rules.{rules}
use borrow.Author.Tests.{not-true, not-false}
use Rattle.tables.specs.Tables.{tables}
use Rattle.named.specs.Named.{with_names}
use Rattle.log_calls.specs.Logs.{log_of}
use Rattle.laws.proofs.Bools.{clash, either}
use Rattle.named.specs.Calls.{outcome_named}
use Rattle.tree_log.specs.Changes.{exchange, call_of}
use Rattle.tree_log.specs.Tree.{idle}
use Rattle.log_calls.proofs.Cases.{logs_full, logs_idle, logs_refused, logs_enters, fits}
use Rattle.log_append.proofs.Fields.{exchange-room}
use Rattle.syscalls_log_moves.proofs.exchange.Goals as goal
use Rattle.syscalls_log_moves.proofs.exchange.Goals.{then-not-same+else-not-has_room, else-not-same}

pub returns-then-not-has_room : goal.returns-then-not-has_room
unfolding outcome_named call_of idle
returns-then-not-has_room c =
    let a = c.args in
    let N = with_names (tables a.system.now a.entries.now a.rulesets.now a.layers.now a.pool.now a.threads.now) a.names.now in
    let p = logs_full N a.t (exchange a.s a.d a.x) (log_of a.log.now a.used.now) (sym c.same_object-same.ensures ∙ c.if-not-same.true) ((exchange-room _ _ _ _ c.has_room.ensures).1 (ap not c.if-not-has_room.true)) c.exchange_full.ensures in
    record { reply = p.0; log = p.1 }

pub returns-then-same : goal.returns-then-same
unfolding outcome_named call_of idle
returns-then-same c =
    let a = c.args in
    let N = with_names (tables a.system.now a.entries.now a.rulesets.now a.layers.now a.pool.now a.threads.now) a.names.now in
    let p = logs_idle N a.t (exchange a.s a.d a.x) (log_of a.log.now a.used.now) c.exchange-reply.ensures refl (sym c.same_object-same.ensures ∙ c.if-same.true) in
    record { reply = p.0; log = p.1 }

pub returns-then-is_refused : goal.returns-then-is_refused
unfolding outcome_named call_of idle
returns-then-is_refused c =
    let a = c.args in
    let N = with_names (tables a.system.now a.entries.now a.rulesets.now a.layers.now a.pool.now a.threads.now) a.names.now in
    let p = logs_refused N a.t (exchange a.s a.d a.x) (log_of a.log.now a.used.now) c.exchange-reply.ensures c.is_refused.ensures c.if-is_refused.true in
    record { reply = p.0; log = p.1 }

pub append_exchange-requires : goal.append_exchange-requires
unfolding outcome_named call_of idle
append_exchange-requires c =
    let a = c.args in
    let N = with_names (tables a.system.now a.entries.now a.rulesets.now a.layers.now a.pool.now a.threads.now) a.names.now in
    fits N a.t (exchange a.s a.d a.x) (log_of a.log.now a.used.now) c.exchange-reply.ensures c.is_refused.ensures c.if-is_refused.false (elim c.if-not-same.branch [ then-not-same+else-not-has_room w ↦ (exchange-room _ _ _ _ w.has_room.ensures).0 (ap not w.if-not-has_room.false) | else-not-same w ↦ clash c.same_object-same.result w.if-not-same.false c.if-same.false ])

pub returns : goal.returns
unfolding outcome_named call_of idle
returns c =
    let a = c.args in
    let N = with_names (tables a.system.now a.entries.now a.rulesets.now a.layers.now a.pool.now a.threads.now) a.names.now in
    let p = logs_enters N a.t (exchange a.s a.d a.x) (log_of a.log.now a.used.now) c.exchange-reply.ensures c.is_refused.ensures (sym c.same_object-same.ensures ∙ c.if-same.false) (elim c.if-not-same.branch [ then-not-same+else-not-has_room w ↦ (exchange-room _ _ _ _ w.has_room.ensures).0 (ap not w.if-not-has_room.false) | else-not-same w ↦ clash c.same_object-same.result w.if-not-same.false c.if-same.false ]) c.if-is_refused.false c.append_exchange.ensures in
    record { reply = p.0; log = p.1 }

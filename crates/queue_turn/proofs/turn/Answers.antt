use mathlib.Core.Bool.{not}
use mathlib.Core.Path.{ap}
use Rattle.tables.specs.Tables.{tables}
use Rattle.named.specs.Named.{with_names}
use Rattle.queue_turn.proofs.Turns.{refuses, idles, serves}
use Rattle.queue_turn.proofs.turn.Goals as goal

pub returns-then-not-queue_sound : goal.returns-then-not-queue_sound
returns-then-not-queue_sound c =
    let a = c.args in
    let N = with_names (tables a.system.now a.entries.now a.rulesets.now a.layers.now a.pool.now a.threads.now) a.names.now in
    let p = refuses N _ c.queue_sound.ensures (ap not c.if-not-queue_sound.true) in
    record { queue = p.0; tables = p.1 }

pub returns-then-k : goal.returns-then-k
returns-then-k c =
    let a = c.args in
    let N = with_names (tables a.system.now a.entries.now a.rulesets.now a.layers.now a.pool.now a.threads.now) a.names.now in
    let p = idles N _ c.queue_sound.ensures (ap not c.if-not-queue_sound.false) c.next_waiting-k.ensures c.if-k.true in
    record { queue = p.0; tables = p.1 }

pub returns : goal.returns
returns c =
    let a = c.args in
    let N = with_names (tables a.system.now a.entries.now a.rulesets.now a.layers.now a.pool.now a.threads.now) a.names.now in
    let p = serves N _ c.queue_sound.ensures (ap not c.if-not-queue_sound.false) c.next_waiting-k.ensures c.if-k.false c.serve.ensures in
    record { queue = p.0; tables = p.1 }

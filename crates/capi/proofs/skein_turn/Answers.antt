use Rattle.tables.specs.Tables.{tables}
use Rattle.named.specs.Named.{with_names}
use Rattle.named.specs.Queue.{answer_of, turn_named}
use Rattle.queue.specs.Queue.{queue, turn}
use Rattle.capi.proofs.Answers.{turns}
use Rattle.capi.proofs.skein_turn.Goals as goal

pub returns : goal.returns
returns c =
    let a = c.args in
    let N = with_names (tables a.system.now a.entries.now a.rulesets.now a.layers.now a.pool.now a.threads.now) a.names.now in
    let Q = queue a.requests.now a.states.now a.answers.now a.cursor.now in
    let t = c.turn-round.ensures in
    let p = turns N (turn_named N Q) _ (turn (answer_of N) Q) t.queue t.tables c.served_reply.ensures c.number.ensures in
    record { answer = p.0; queue = p.1 }

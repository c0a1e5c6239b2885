use mathlib.Core.Path.{◌≡◌, refl}
use native.Mathlib.Omega.{arith}
use Rattle.queue.specs.Queue.{seek, next_waiting}
use Rattle.queue.proofs.Seeks.{seek_hit, seek-on, seek-end}
use Rattle.queue.proofs.next_waiting.Goals as goal

pub returns-then-read-eq-WAITING : goal.returns-then-read-eq-WAITING
returns-then-read-eq-WAITING c =
    let l = c.loop-n in
    seek_hit _ l.n l.at l.invariant (omega arith) c.next_slot-at.ensures c.read.ensures c.if-read-eq-WAITING.true

pub loop-n-preserved : goal.loop-n-preserved
loop-n-preserved c =
    let l = c.loop-n in
    seek-on _ l.n l.at l.invariant (omega arith) c.next_slot-at.ensures c.read.ensures c.if-read-eq-WAITING.false

pub returns : goal.returns
returns c =
    let l = c.loop-n in seek-end _ l.n l.at l.invariant (omega arith)

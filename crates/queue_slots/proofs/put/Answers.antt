use native.Mathlib.Omega.{arith}
use Rattle.slots.proofs.Steps.{post-short, post-refused, post-done}
use Rattle.queue_slots.proofs.Slots.{code_is, inside, request-then-state}
use Rattle.queue_slots.proofs.put.Goals as goal

pub offset_bounds-slots-k : goal.offset_bounds-slots-k
offset_bounds-slots-k c =
    let b = inside c.args.slots.now c.args.q.now.cursor c.if-slots-ne8.false c.args.slot c.admit-c.ensures c.if-c-ne0.false in
    record { fits = omega arith }

pub bounds-slots-k : goal.bounds-slots-k
bounds-slots-k c =
    let b = inside c.args.slots.now c.args.q.now.cursor c.if-slots-ne8.false c.args.slot c.admit-c.ensures c.if-c-ne0.false in
    omega (arith, b, c.if-slots-ne8.false)

pub returns-then-slots-ne8 : goal.returns-then-slots-ne8
returns-then-slots-ne8 c =
    post-short c.args.slots.now c.args.q.now.cursor c.args.slot c.args.request.thread c.args.request.entry c.args.request.rights c.if-slots-ne8.true

pub returns-then-c-ne0 : goal.returns-then-c-ne0
returns-then-c-ne0 c =
    post-refused c.args.slots.now c.args.q.now.cursor c.args.slot c.args.request.thread c.args.request.entry c.args.request.rights
    (code_is c.args.slots.now c.args.q.now.cursor c.if-slots-ne8.false c.args.slot c.admit-c.ensures) c.if-c-ne0.true

pub returns-else-c-ne0 : goal.returns-else-c-ne0
returns-else-c-ne0 c =
    rw (request-then-state c.args.slots.now c.args.slot c.args.request)
    (post-done c.args.slots.now c.args.q.now.cursor c.args.slot c.args.request.thread c.args.request.entry c.args.request.rights
    (code_is c.args.slots.now c.args.q.now.cursor c.if-slots-ne8.false c.args.slot c.admit-c.ensures) c.if-c-ne0.false)

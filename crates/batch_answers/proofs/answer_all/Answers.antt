use mathlib.Core.Path.{◌≡◌, sym, ap, ◌∙◌}
use mathlib.Core.List.{List}
use Prim.Native.Nat.{ℕ, ◌+◌, ◌-◌, ◌*◌, ◌≤◌, ◌<◌}
use native.Mathlib.Omega.{arith}
use lib.ListN.{length, length-replicate}
use Rattle.tables.specs.Tables.{tables}
use Rattle.batch_verdict.specs.Batch.{BatchReady}
use Rattle.batch_verdict.proofs.Ready.{walks_ready, batch_ready}
use Rattle.access.specs.declared.errno.Reply.{Reply}
use Rattle.named.specs.Named.{Named, with_names}
use Rattle.named.specs.Batch.{asked_cell, batch_answer_width, part_name, reply_asked, request_reply, answers_to, request_count}
use Rattle.named.proofs.Made.{core-sound}
use Rattle.batch_requests.specs.declared.Request.{Request}
use Rattle.batch_answers.proofs.Answers.{whole-requests, room, answers-none, answers_more, answers-length, all-answered}
use Rattle.batch_answers.proofs.answer_all.Goals as goal

-- the reply is that to request `i`
replied : (N : Named) (rs ns : List ℕ) (i : ℕ) (q : Request) {r : Reply}
    → (q.sort ≡ asked_cell rs i 0) × ((q.thread ≡ asked_cell rs i 1) × ((q.a ≡ asked_cell rs i 2) × ((q.b ≡ asked_cell rs i 3) × ((q.c ≡ asked_cell rs i 4) × ((q.from ≡ asked_cell rs i 5) × (q.bytes ≡ asked_cell rs i 6))))))
    → r ≡ reply_asked N q.sort q.thread q.a q.b q.c (part_name ns q.from q.bytes) → r ≡ request_reply N rs ns i
unfolding request_reply
replied N rs ns i q e k =
    rw (e.0, e.1.0, e.1.1.0, e.1.1.1.0, e.1.1.1.1.0, e.1.1.1.1.1.0, e.1.1.1.1.1.1) at k

pub slice_bounds-fill_orders-end : goal.slice_bounds-fill_orders-end
slice_bounds-fill_orders-end c =
    sym (length-replicate {A = ℕ} _ 0)

pub fill_orders-requires : goal.fill_orders-requires
fill_orders-requires c =
    (walks_ready _ (core-sound _ c.requires.0), length-replicate {A = ℕ} _ 0)

pub loop-i-init : goal.loop-i-init
loop-i-init c =
    (omega arith, (answers-none _ _ _ _, batch_ready _ (core-sound _ c.requires.0) c.layers_top-top.ensures c.fill_orders.ensures))

pub slice_bounds-request_reply-end : goal.slice_bounds-request_reply-end
slice_bounds-request_reply-end c =
    sym c.loop-i.invariant.1.1.ordered.cells

pub slice_bounds-request_reply-end-in-loop-i : goal.slice_bounds-request_reply-end-in-loop-i
slice_bounds-request_reply-end-in-loop-i c =
    sym c.loop-i.invariant.1.1.kept.cells

pub slice_bounds-request_reply-end-in-loop-i-2 : goal.slice_bounds-request_reply-end-in-loop-i-2
slice_bounds-request_reply-end-in-loop-i-2 c =
    sym c.loop-i.invariant.1.1.kept.few

pub request_at-requires : goal.request_at-requires
request_at-requires c =
    omega (arith, whole-requests c.args.requests.now c.args.answers.now c.requires.1.1)

pub request_reply-reply-requires : goal.request_reply-reply-requires
request_reply-reply-requires c =
    (c.requires.0, (c.needs_table-needs.ensures, (c.requires.1.0, c.loop-i.invariant.1.1)))

pub put_answer-requires : goal.put_answer-requires
put_answer-requires c =
    let fits : batch_answer_width * c.loop-i.i + batch_answer_width ≤ length c.loop-i.answers =
    omega (arith, c.loop-i-test.true, ap length c.loop-i.invariant.1.0 ∙ answers-length _ _ _ _ c.loop-i.i, room c.args.requests.now c.args.answers.now c.requires.1.1) in
    fits

pub loop-i-smaller : goal.loop-i-smaller
loop-i-smaller c =
    omega (arith, c.loop-i-test.true)

pub loop-i-preserved : goal.loop-i-preserved
loop-i-preserved c =
    let q = c.request_at.ensures in
    (omega (arith, c.loop-i-test.true), (answers_more _ _ _ _ c.loop-i.i c.loop-i.invariant.1.0 (replied _ _ _ c.loop-i.i _ (q.sort, (q.thread, (q.a, (q.b, (q.c, (q.from, q.bytes)))))) c.request_reply-reply.ensures.reply) c.put_answer.ensures, c.request_reply-reply.ensures.ready))

pub shape_of-answers : goal.shape_of-answers
shape_of-answers c =
    ap length c.loop-i.invariant.1.0 ∙ answers-length _ _ _ _ c.loop-i.i

pub returns : goal.returns
returns c =
    all-answered _ _ _ _ c.loop-i.invariant.0 c.loop-i-test.false c.loop-i.invariant.1.0

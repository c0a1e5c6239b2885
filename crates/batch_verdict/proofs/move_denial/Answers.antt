use borrow.Author.Rules.{rules}
use Rattle.judge.specs.Domain.{domain}
use Rattle.denied_rows.proofs.Kept.{live-few}
use Rattle.verdict.specs.Denial.{thread_denial}
use Rattle.verdict.proofs.Denials.{no_denial}
use Rattle.batch_verdict.proofs.Walks.{move_by, ready_then, thread-few, order_read, order_domain, row_filled}
use Rattle.batch_verdict.proofs.move_denial.Goals as goal

pub returns-then-y-eq0 : goal.returns-then-y-eq0
unfolding thread_denial domain
returns-then-y-eq0 c =
    record { denial = rw (← c.youngest_of-y.ensures) (no_denial _ _ _ _ _ c.if-y-eq0.true); ready = c.requires.0 }

pub need_row-requires : goal.need_row-requires
unfolding thread_denial domain
need_row-requires c =
    let p = c.requires in (p.0.rows_ready, (p.1.0, (p.0.highest, p.0.kept)))

pub need_row-requires-2 : goal.need_row-requires-2
unfolding thread_denial domain
need_row-requires-2 c =
    let p = c.requires in
    (p.0.rows_ready, (p.1.1, (p.0.highest, c.need_row.ensures.kept)))

pub order_of-order-requires : goal.order_of-order-requires
unfolding thread_denial domain
order_of-order-requires c =
    let p = c.requires in
    (p.0.ordered.cells, thread-few _ _ _ _ _ _ _ _ p.0 _ c.youngest_of-y.ensures c.if-y-eq0.false)

pub row_of-requires : goal.row_of-requires
unfolding thread_denial domain
row_of-requires c =
    let p = c.requires in
    (c.need_row-2.ensures.kept.cells, live-few _ _ _ p.0.rows_ready _ p.1.0)

pub row_of-requires-2 : goal.row_of-requires-2
unfolding thread_denial domain
row_of-requires-2 c =
    let p = c.requires in
    (c.need_row-2.ensures.kept.cells, live-few _ _ _ p.0.rows_ready _ p.1.1)

pub move_walk-requires : goal.move_walk-requires
unfolding thread_denial domain
move_walk-requires c =
    let p = c.requires in
    let A = c.need_row.ensures in
    let N = c.need_row-2.ensures in (
      order_read _ _ _ _ _ _ _ _ p.0 _ c.youngest_of-y.ensures c.if-y-eq0.false c.order_of-order.ensures,
      (
        (row_filled _ _ _ p.0.rows_ready N.kept p.1.0 (N.still _ A.filled) c.row_of.ensures).long,
        (row_filled _ _ _ p.0.rows_ready N.kept p.1.1 N.filled c.row_of-2.ensures).long,
      ),
    )

pub returns : goal.returns
unfolding thread_denial domain
returns c =
    let a = c.args in
    let p = c.requires in
    let A = c.need_row.ensures in
    let N = c.need_row-2.ensures in
    let R1 = row_filled _ _ _ p.0.rows_ready N.kept p.1.0 (N.still _ A.filled) c.row_of.ensures in
    let R2 = row_filled _ _ _ p.0.rows_ready N.kept p.1.1 N.filled c.row_of-2.ensures in
    let D = order_domain _ _ _ _ _ _ _ _ p.0 _ c.youngest_of-y.ensures c.if-y-eq0.false c.order_of-order.ensures in
    record { denial = move_by _ _ _ a.threads.now a.t (p.0.walks a.t) D c.row_of.result.now c.row_of-2.result.now a.m R1 R2 c.move_walk.ensures; ready = ready_then _ _ _ _ _ _ _ _ (ready_then _ _ _ _ _ _ _ _ p.0 A) N }

use borrow.Author.Rules.{rules}
use Rattle.judge.specs.Domain.{domain}
use Rattle.denied_rows.proofs.Kept.{live-few}
use Rattle.verdict.specs.Denial.{thread_denial}
use Rattle.verdict.proofs.Denials.{no_denial}
use Rattle.batch_verdict.proofs.Walks.{entry_by, ready_then, thread-few, order_read, order_domain, row_filled}
use Rattle.batch_verdict.proofs.entry_denial.Goals as goal

pub returns-then-y-eq0 : goal.returns-then-y-eq0
unfolding thread_denial domain
returns-then-y-eq0 c =
    record { denial = rw (← c.youngest_of-y.ensures) (no_denial _ _ _ _ _ c.if-y-eq0.true); ready = c.requires.0 }

pub need_row-requires : goal.need_row-requires
unfolding thread_denial domain
need_row-requires c =
    let p = c.requires in (p.0.rows_ready, (p.1, (p.0.highest, p.0.kept)))

pub order_of-order-requires : goal.order_of-order-requires
unfolding thread_denial domain
order_of-order-requires c =
    let p = c.requires in
    (p.0.ordered.cells, thread-few _ _ _ _ _ _ _ _ p.0 _ c.youngest_of-y.ensures c.if-y-eq0.false)

pub row_of-requires : goal.row_of-requires
unfolding thread_denial domain
row_of-requires c =
    let p = c.requires in
    (c.need_row.ensures.kept.cells, live-few _ _ _ p.0.rows_ready _ p.1)

pub entry_walk-requires : goal.entry_walk-requires
unfolding thread_denial domain
entry_walk-requires c =
    let p = c.requires in
    let A = c.need_row.ensures in
    (order_read _ _ _ _ _ _ _ _ p.0 _ c.youngest_of-y.ensures c.if-y-eq0.false c.order_of-order.ensures, (row_filled _ _ _ p.0.rows_ready A.kept p.1 A.filled c.row_of.ensures).long)

pub returns : goal.returns
unfolding thread_denial domain
returns c =
    let a = c.args in
    let p = c.requires in
    let A = c.need_row.ensures in
    let R = row_filled _ _ _ p.0.rows_ready A.kept p.1 A.filled c.row_of.ensures in
    let D = order_domain _ _ _ _ _ _ _ _ p.0 _ c.youngest_of-y.ensures c.if-y-eq0.false c.order_of-order.ensures in
    record { denial = entry_by _ _ _ a.threads.now a.t (p.0.walks a.t) D c.row_of.result.now a.e a.asked R c.entry_walk.ensures; ready = ready_then _ _ _ _ _ _ _ _ p.0 A }

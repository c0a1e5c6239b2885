use native.Mathlib.Omega.{arith}
use borrow.Author.Rules.{rules}
use Rattle.path.proofs.Places.{end-past}
use Rattle.path.proofs.Spans.{none_shown, some_shown}
use Rattle.path.proofs.component_span.Goals as goal

pub returns-then-from-path : goal.returns-then-from-path
returns-then-from-path c =
    let a = c.args in
    let h = none_shown a.path.now a.at c.component_start-from.ensures (omega arith) in
    record { start = h.0; length = h.1 }

pub overflow_sub-result : goal.overflow_sub-result
overflow_sub-result c =
    let h = end-past c.args.path.now c.component_start-from.result in omega arith

pub returns : goal.returns
returns c =
    let a = c.args in
    let h = some_shown a.path.now a.at c.component_start-from.ensures (omega arith) c.component_end-to.ensures in
    record { start = h.0; length = h.1 }

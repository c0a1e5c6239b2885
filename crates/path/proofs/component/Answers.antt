use native.Mathlib.Omega.{arith}
use borrow.Author.Rules.{rules}
use Rattle.path.proofs.Spans.{report_in, report_part}
use Rattle.path.proofs.component.Goals as goal

pub overflow_add-to : goal.overflow_add-to
overflow_add-to c =
    let r = c.component_span-s.ensures in let h = report_in c.args.path.now _ r.start r.length in omega arith

pub slice_bounds-result-end : goal.slice_bounds-result-end
slice_bounds-result-end c =
    let r = c.component_span-s.ensures in let h = report_in c.args.path.now _ r.start r.length in omega arith

pub returns : goal.returns
returns c =
    let a = c.args in let r = c.component_span-s.ensures in report_part a.path.now a.at r.start r.length

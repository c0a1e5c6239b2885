use mathlib.Core.Path.{sym, ◌∙◌}
use borrow.Author.Rules.{rules}
use borrow.Author.Tests.{not-true, not-false}
use Rattle.syscalls_batch.proofs.answer.Goals as goal

pub answer_unsound-requires : goal.answer_unsound-requires
answer_unsound-requires c =
    (sym c.tables_indexed-indexed.ensures.0 ∙ not-true _ c.if-not-indexed.true, c.requires)

pub answer_all-requires : goal.answer_all-requires
answer_all-requires c =
    (sym c.tables_indexed-indexed.ensures.0 ∙ not-false _ c.if-not-indexed.false, (c.tables_indexed-indexed.ensures.1, c.requires))

use mathlib.Core.Path.{sym, ◌∙◌}
use borrow.Author.Rules.{rules}
use Rattle.syscalls_batch.proofs.Outcome.{refused-batch, done-batch}
use Rattle.syscalls_batch.proofs.batch.Goals as goal

pub returns-then-e-ne0 : goal.returns-then-e-ne0
returns-then-e-ne0 c =
    let r = refused-batch _ _ _ _ c.batch_checks-e.ensures c.if-e-ne0.true in
    record { reply = r.0; answers = r.1 }

pub answer-requires : goal.answer-requires
answer-requires c =
    sym c.batch_checks-e.ensures ∙ c.if-e-ne0.false

pub returns : goal.returns
returns c =
    let r = done-batch _ _ _ _ c.batch_checks-e.ensures c.if-e-ne0.false c.answer.ensures in
    record { reply = r.0; answers = r.1 }

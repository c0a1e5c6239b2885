use borrow.Author.Rules.{rules}
use Rattle.tables.proofs.Outcomes.{answer-refused}
use Rattle.domain.proofs.Changes.{few-held, clone-done}
use Rattle.domain.proofs.threads.clone_thread.Goals as goal

pub returns-then-e-ne0 : goal.returns-then-e-ne0
returns-then-e-ne0 c =
    answer-refused _ _ _ c.clone_checks-e.ensures c.if-e-ne0.true

pub hold_layer-requires : goal.hold_layer-requires
hold_layer-requires c =
    few-held _ c.requires _

pub returns : goal.returns
returns c =
    clone-done _ _ c.clone_checks-e.ensures c.if-e-ne0.false c.free_thread-u.ensures c.copy_thread.ensures c.youngest_of.ensures c.hold_layer.ensures

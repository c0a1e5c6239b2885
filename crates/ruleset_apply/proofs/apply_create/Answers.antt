use borrow.Author.Rules.{rules}
use Rattle.ruleset.specs.Create.{opened}
use Rattle.ruleset_apply.proofs.apply_create.Goals as goal

pub returns : goal.returns
unfolding opened
returns c =
    cc

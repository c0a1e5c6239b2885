use borrow.Author.Rules.{rules}
use Rattle.fresh.proofs.clear_but_first.Goals as goal

pub returns : goal.returns
returns c =
    cc

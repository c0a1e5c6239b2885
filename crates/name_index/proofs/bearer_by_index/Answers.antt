use borrow.Author.Rules.{rules}
use Rattle.name_index.proofs.bearer_by_index.Goals as goal

pub bearer_on_chain-requires : goal.bearer_on_chain-requires
bearer_on_chain-requires c =
    c.requires c.if-whole.true

use borrow.Author.Rules.{rules}
use Rattle.name_index.proofs.Bearers.{taken_none, taken-some}
use Rattle.name_index.proofs.is_taken_by_index.Goals as goal

pub returns-in-None : goal.returns-in-None
returns-in-None c =
    taken_none _ _ _ _ c.bearer_by_index-x.ensures c.in-None.is

pub returns-in-Entry : goal.returns-in-Entry
returns-in-Entry c =
    taken-some _ _ _ _ c.bearer_by_index-x.ensures c.in-Entry.is

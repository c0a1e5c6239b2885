use borrow.Author.Rules.{rules}
use Rattle.names.specs.Names.{drop_name}
use Rattle.name_rows.proofs.drop_name.Goals as goal

pub returns-in-None : goal.returns-in-None
unfolding drop_name
returns-in-None c =
    rw c.in-None.is

pub returns-in-Entry : goal.returns-in-Entry
unfolding drop_name
returns-in-Entry c =
    rw c.in-Entry.is c.clear_name.ensures

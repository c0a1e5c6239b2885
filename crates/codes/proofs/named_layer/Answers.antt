use borrow.Author.Rules.{rules}
use Rattle.codes.specs.Codes.{said}
use Rattle.codes.proofs.named_layer.Goals as goal

pub returns-in-Done : goal.returns-in-Done
unfolding said
returns-in-Done c =
    rw c.in-Done.is

pub returns-in-Refused : goal.returns-in-Refused
unfolding said
returns-in-Refused c =
    rw c.in-Refused.is

pub returns-in-Denied : goal.returns-in-Denied
unfolding said
returns-in-Denied c =
    rw c.in-Denied.is c.layer_cell.ensures

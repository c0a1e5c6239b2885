use borrow.Author.Rules.{rules}
use Rattle.sound_names_chains.proofs.tested_by.Goals as goal

pub returns-in-Missing : goal.returns-in-Missing
returns-in-Missing c =
    rw c.in-Missing.is

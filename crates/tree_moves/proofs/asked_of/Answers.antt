use borrow.Author.Rules.{rules}
use mathlib.Core.Path.{refl}
use Rattle.tree.specs.Moves.{needs_from, needs_to}
use Rattle.tree_moves.specs.Rows.{reads_possible}
use Rattle.tree_moves.proofs.asked_of.Goals as goal

pub needs-requires : goal.needs-requires
unfolding needs_from needs_to reads_possible
needs-requires c =
    let p = c.requires in (p.0, rw c.in-Known.is at p.1)

pub returns-in-Known : goal.returns-in-Known
unfolding needs_from needs_to reads_possible
returns-in-Known c =
    rw c.in-Known.is (c.needs.ensures.0, c.needs.ensures.1)

pub returns-in-None : goal.returns-in-None
unfolding needs_from needs_to reads_possible
returns-in-None c =
    rw c.in-None.is (refl, refl)

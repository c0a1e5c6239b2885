use borrow.Author.Tests.{le-leb, lt-leb}
use Rattle.access.specs.Rights.{known_scope}
use Rattle.access.proofs.rights.Rights.known_scope.Goals as goal

pub returns-then-level-lt6 : goal.returns-then-level-lt6
unfolding known_scope
returns-then-level-lt6 c =
    simp (lt-leb 6 _ c.if-level-lt6.true)

pub returns-else-level-lt6 : goal.returns-else-level-lt6
unfolding known_scope
returns-else-level-lt6 c =
    simp (le-leb 6 _ c.if-level-lt6.false)

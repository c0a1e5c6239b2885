use borrow.Author.Tests.{le-leb, lt-leb}
use Rattle.access.specs.Rights.{known_net}
use Rattle.access.proofs.rights.Rights.known_net.Goals as goal

pub returns-then-level-lt4 : goal.returns-then-level-lt4
unfolding known_net
returns-then-level-lt4 c =
    simp (lt-leb 4 _ c.if-level-lt4.true)

pub returns-else-level-lt4 : goal.returns-else-level-lt4
unfolding known_net
returns-else-level-lt4 c =
    simp (le-leb 4 _ c.if-level-lt4.false)

use borrow.Author.Tests.{le-leb, lt-leb}
use Rattle.ruleset.specs.Attribute.{known_size}
use Rattle.ruleset.proofs.attribute.known_size.Goals as goal

pub returns-then-level-le3 : goal.returns-then-level-le3
unfolding known_size
returns-then-level-le3 c =
    rw (le-leb _ 3 c.if-level-le3.true)

pub returns-then-level-le5 : goal.returns-then-level-le5
unfolding known_size
returns-then-level-le5 c =
    rw (lt-leb _ 3 c.if-level-le3.false, le-leb _ 5 c.if-level-le5.true)

pub returns : goal.returns
unfolding known_size
returns c =
    rw (lt-leb _ 3 c.if-level-le3.false, lt-leb _ 5 c.if-level-le5.false)

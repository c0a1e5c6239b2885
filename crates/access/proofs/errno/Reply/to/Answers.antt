use borrow.Author.Tests.{eq-eqb, ne_eqb}
use Rattle.access.specs.Reply.{reply_to}
use Rattle.access.proofs.errno.Reply.to.Goals as goal

pub returns-then-e-eq0 : goal.returns-then-e-eq0
unfolding reply_to
returns-then-e-eq0 c =
    rw (eq-eqb _ 0 c.if-e-eq0.true)

pub returns : goal.returns
unfolding reply_to
returns c =
    rw (ne_eqb _ 0 c.if-e-eq0.false)

use Rattle.row_walks.specs.Rows.{may_hold}
use Rattle.row_walks.proofs.may_hold.Goals as goal

pub returns : goal.returns
unfolding may_hold
returns c =
    rw (c.join-2.ensures, c.join.ensures, c.without-back.ensures, c.meet-4.ensures, c.without-there.ensures, c.meet-3.ensures, c.join-needs.ensures, c.meet-2.ensures, c.meet.ensures)

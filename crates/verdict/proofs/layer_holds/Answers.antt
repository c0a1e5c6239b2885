use mathlib.Core.Path.{refl}
use borrow.Author.Rules.{rules}
use Rattle.verdict.specs.Denial.{denied_by, crossed_by, read_by}
use Rattle.verdict.proofs.layer_holds.Goals as goal

pub returns-in-Entry : goal.returns-in-Entry
unfolding denied_by crossed_by read_by
returns-in-Entry c =
    rw c.in-Entry.is record { denied = c.layer_climb-climb.ensures.missing; crossed = refl; read = c.layer_climb-climb.ensures.read }

pub returns-in-Port : goal.returns-in-Port
unfolding denied_by crossed_by read_by
returns-in-Port c =
    rw c.in-Port.is record { denied = c.layer_port_missing.ensures; crossed = refl; read = refl }

pub returns-in-Move : goal.returns-in-Move
unfolding denied_by crossed_by read_by
returns-in-Move c =
    rw c.in-Move.is record { denied = c.layer_against-against.ensures.needs; crossed = c.layer_against-against.ensures.crossed; read = refl }

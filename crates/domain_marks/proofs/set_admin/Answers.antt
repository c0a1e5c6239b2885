use mathlib.Core.Path.{◌≡◌}
use mathlib.Core.Bool.{cond}
use borrow.Author.Rules.{rules}
use lib.Dec.{eqb}
use Rattle.domain.proofs.Choices.{chosen-first, chosen-second}
use Rattle.domain_marks.proofs.set_admin.Goals as goal
use Rattle.domain_marks.proofs.set_admin.Goals.{then-on-eq0, else-on-eq0}

pub returns : goal.returns
returns c =
    let on = c.args.on in
    let e : c.if-on-eq0.v ≡ cond (eqb on 0) 0 1 = elim c.if-on-eq0.branch [ then-on-eq0 w ↦ chosen-first on 0 1 w.if-on-eq0.true w.v-is | else-on-eq0 w ↦ chosen-second on 0 1 w.if-on-eq0.false w.v-is ] in
    rw (← e) c.set_mark.ensures

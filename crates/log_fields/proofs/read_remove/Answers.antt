use native.Mathlib.Omega.{arith}
use Rattle.log_fields.specs.Seen.{change_of}
use Rattle.log_fields.proofs.Values.{remove_not, remove_by}
use Rattle.log_fields.proofs.read_remove.Goals as goal

pub returns-then-v-ne2 : goal.returns-then-v-ne2
unfolding change_of
returns-then-v-ne2 c =
    remove_not c.args.v.now c.if-v-ne2.true

pub returns : goal.returns
unfolding change_of
returns c =
    remove_by c.args.v.now c.two_at-e.ensures (omega arith)

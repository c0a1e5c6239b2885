use mathlib.Core.Path.{refl}
use Rattle.fs.proofs.NeedsRows.{kind-small}
use Rattle.fs.proofs.needs.kind_number.Goals as goal

pub returns : goal.returns
returns c =
    rw c.number.ensures (refl, kind-small c.args.kind)

use mathlib.Core.Path.{◌≡◌, ◌∙◌}
use mathlib.Core.List.{◌∷◌}
use Prim.Native.Nat.{◌+◌, ◌≤◌, ◌-◌}
use native.Mathlib.Omega.{arith}
use lib.ListN.{length, replicate}
use Rattle.laws.specs.Cells.{copied}
use Rattle.names.specs.Names.{name_width}
use Rattle.name_index.proofs.Row.{own-start, own_more, own-written}
use Rattle.name_index.proofs.row_of.Goals as goal

pub loop-i-init : goal.loop-i-init
loop-i-init c =
    (omega arith, own-start c.args.name.now)

pub loop-i-preserved : goal.loop-i-preserved
loop-i-preserved c =
    let l = c.loop-i in (omega arith, own_more c.args.name.now l.i l.invariant.1)

pub returns : goal.returns
returns c =
    let l = c.loop-i in l.invariant.1 ∙ own-written _ c.requires l.i (omega arith) (omega arith)

use mathlib.Core.Path.{◌≡◌, refl}
use Prim.Native.Nat.{◌≤◌, ◌-◌}
use native.Mathlib.Omega.{arith}
use lib.Dec.{eqb}
use lib.ListN.{get_or}
use Rattle.laws.specs.Tests.{all_below}
use Rattle.laws.specs.Cells.{zeros}
use Rattle.names.specs.Names.{name_width}
use Rattle.sound_names_rows.proofs.Tests.{all_start, all_with, all_end}
use Rattle.sound_names_rows.proofs.row_zero.Goals as goal

pub loop-k-init : goal.loop-k-init
loop-k-init c =
    (omega arith, all_start _)

pub loop-k-preserved : goal.loop-k-preserved
loop-k-preserved c =
    (omega arith, all_with _ c.loop-k.k c.loop-k.invariant.1 refl)

pub returns : goal.returns
unfolding zeros
returns c =
    let l = c.loop-k in
    all_end (λ i. eqb (get_or c.args.row.now i 0) 0) _ l.k (omega arith) (omega arith) l.invariant.1

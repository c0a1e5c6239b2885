use mathlib.Core.Path.{refl, ◌∙◌}
use Prim.Native.Nat.{◌≤◌, ◌-◌, ◌+◌}
use native.Mathlib.Omega.{arith}
use lib.ListN.{get_or}
use Rattle.sound_domains.proofs.Counting.{count_none, count_more, count-few}
use Rattle.sound_holders.proofs.count_rows.Goals as goal

pub loop-i-init : goal.loop-i-init
loop-i-init c =
    (count_none _ _ _ _, refl)

pub count_one-requires : goal.count_one-requires
count_one-requires c =
    let l = c.loop-i in
    let f = count-few c.args.counts.now c.args.table.now c.args.width c.args.k 1024 c.requires.1 l.i (c.row_read.result - 1) in
    let g : get_or l.counts (c.row_read.result - 1) 0 ≤ 1024 + l.i = rw l.invariant.0 f in
    omega arith

pub loop-i-preserved : goal.loop-i-preserved
loop-i-preserved c =
    let l = c.loop-i in
    (count_more c.args.counts.now c.args.table.now c.args.width c.args.k l.i l.invariant.0 c.row_read.ensures c.count_one.ensures, c.count_one.auto.counts ∙ l.invariant.1)

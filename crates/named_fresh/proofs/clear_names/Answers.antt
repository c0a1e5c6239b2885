use Prim.Native.Nat.{ℕ, ◌≤◌, ◌-◌}
use mathlib.Core.Path.{◌≡◌, refl, ap, ◌∙◌}
use mathlib.Core.List.{List, ◌++◌}
use native.Mathlib.Omega.{arith}
use borrow.Author.Rules.{rules}
use borrow.Author.Fill.{fill_none, fill_more}
use lib.ListN.{length, drop, set, replicate, length-set}
use Rattle.laws.proofs.Cells.{cleared}
use Rattle.named_fresh.proofs.clear_names.Goals as goal

pub loop-i-init : goal.loop-i-init
loop-i-init c =
    (omega arith, fill_none _ 0, refl)

pub loop-i-preserved : goal.loop-i-preserved
loop-i-preserved c =
    let a = c.args in
    let l = c.loop-i in
    (omega arith, ap (λ (x : List ℕ). set x l.i 0) l.invariant.1 ∙ fill_more l.i 0 a.names.now (omega arith), length-set l.names l.i 0 ∙ l.invariant.2)

pub shape_of-names : goal.shape_of-names
shape_of-names c =
    c.loop-i.invariant.2

pub returns : goal.returns
returns c =
    c.loop-i.invariant.1 ∙ cleared c.args.names.now c.loop-i.i (omega arith)

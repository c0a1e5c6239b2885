use Prim.Native.Nat.{◌≤◌, ◌-◌}
use mathlib.Core.Path.{◌≡◌, sym, ◌∙◌}
use mathlib.Core.Bool.{false}
use native.Mathlib.Omega.{arith}
use Rattle.laws.specs.Tests.{any_below}
use Rattle.laws.proofs.Tests.{any-start, any_more, any_found, any-done}
use Rattle.access.specs.Limits.{max_entries}
use Rattle.tree.specs.Entries.{is_child}
use Rattle.tree.proofs.entries.has_child.Goals as goal

pub loop-x-init : goal.loop-x-init
loop-x-init c =
    (omega arith, any-start _)

pub returns-then-is_child : goal.returns-then-is_child
returns-then-is_child c =
    let l = c.loop-x in any_found _ _ l.x (omega arith) (sym c.is_child.ensures ∙ c.if-is_child.true)

pub loop-x-preserved : goal.loop-x-preserved
loop-x-preserved c =
    (omega arith, any_more _ _ c.loop-x.invariant.1 (sym c.is_child.ensures ∙ c.if-is_child.false))

pub returns : goal.returns
returns c =
    let l = c.loop-x in any-done _ _ l.x (omega arith) (omega arith) l.invariant.1

use mathlib.Core.Path.{◌≡◌, sym, ap, ◌∙◌}
use mathlib.Core.Bool.{true}
use Prim.Native.Nat.{ℕ, ◌≤◌, ◌-◌}
use native.Mathlib.Omega.{arith}
use borrow.Author.Rules.{rules}
use Rattle.laws.specs.Tests.{all_below}
use Rattle.laws.proofs.Tests.{all_none, all_more, all_done, all_fails}
use Rattle.named.specs.Batch.{asked_cell, known_sort}
use Rattle.batch_requests.proofs.sorts_known.Goals as goal

pub loop-i-init : goal.loop-i-init
loop-i-init c =
    (omega arith, all_none _)

pub cell_of-requires : goal.cell_of-requires
cell_of-requires c =
    (omega arith, omega arith)

pub loop-i-preserved : goal.loop-i-preserved
loop-i-preserved c =
    (omega arith, all_more _ _ c.loop-i.invariant.1 (ap known_sort (sym c.cell_of.ensures) ∙ sym c.known_sort.ensures ∙ c.if-known_sort.true))

pub returns-else-known_sort : goal.returns-else-known_sort
returns-else-known_sort c =
    all_fails _ _ c.loop-i.i (omega arith) (ap known_sort (sym c.cell_of.ensures) ∙ sym c.known_sort.ensures ∙ c.if-known_sort.false)

pub returns : goal.returns
returns c =
    all_done _ _ c.loop-i.i (omega arith) (omega arith) c.loop-i.invariant.1

use Prim.Native.Nat.{◌≤◌, ◌-◌}
use mathlib.Core.Path.{◌≡◌, sym, ap, ◌∙◌}
use mathlib.Core.Bool.{false, not}
use native.Mathlib.Omega.{arith}
use Rattle.laws.specs.Tests.{any_below}
use Rattle.laws.proofs.Tests.{any-start, any_more, first_found, first-none}
use Rattle.access.specs.Limits.{max_entries}
use Rattle.tables.specs.Tables.{live}
use Rattle.tree.specs.Entries.{free_entry}
use Rattle.tree.proofs.entries.free_entry.Goals as goal

pub loop-e-init : goal.loop-e-init
unfolding free_entry
loop-e-init c =
    (omega arith, any-start _)

pub returns-then-not-entry_live : goal.returns-then-not-entry_live
unfolding free_entry
returns-then-not-entry_live c =
    let l = c.loop-e in first_found _ _ l.e (omega arith) l.invariant.1 (ap not (sym c.entry_live.ensures) ∙ (ap not c.if-not-entry_live.true))

pub loop-e-preserved : goal.loop-e-preserved
unfolding free_entry
loop-e-preserved c =
    (omega arith, any_more _ _ c.loop-e.invariant.1 (ap not (sym c.entry_live.ensures) ∙ (ap not c.if-not-entry_live.false)))

pub returns : goal.returns
unfolding free_entry
returns c =
    let l = c.loop-e in first-none _ _ l.e (omega arith) (omega arith) l.invariant.1

-- The test is computed over the constant.
use mathlib.Core.Path.{refl}
use Rattle.fs.specs.Needs.{source_needs, target_needs}
use Rattle.fs.specs.NeedsTable.{needs_row, possible}
use Rattle.fs.proofs.NeedsRows.{every_row_lem}
use Rattle.fs.proofs.table.needs_table.Goals as goal

pub returns : goal.returns
unfolding source_needs target_needs needs_row possible
returns c =
    every_row_lem _ refl

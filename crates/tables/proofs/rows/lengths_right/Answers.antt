use Rattle.laws.proofs.Conditions.{all-is, conditions}
use Rattle.tables.specs.Tables.{lengths_right}
use Rattle.tables.proofs.rows.lengths_right.Goals as goal

pub returns-then-system-ne-SYSTEM_CELLS : goal.returns-then-system-ne-SYSTEM_CELLS
unfolding lengths_right
returns-then-system-ne-SYSTEM_CELLS c =
    all-is (search conditions depth 16)

pub returns-then-entries-ne-ENTRIES_CELLS : goal.returns-then-entries-ne-ENTRIES_CELLS
unfolding lengths_right
returns-then-entries-ne-ENTRIES_CELLS c =
    all-is (search conditions depth 16)

pub returns-then-rulesets-ne-RULESETS_CELLS : goal.returns-then-rulesets-ne-RULESETS_CELLS
unfolding lengths_right
returns-then-rulesets-ne-RULESETS_CELLS c =
    all-is (search conditions depth 16)

pub returns-then-layers-ne-LAYERS_CELLS : goal.returns-then-layers-ne-LAYERS_CELLS
unfolding lengths_right
returns-then-layers-ne-LAYERS_CELLS c =
    all-is (search conditions depth 16)

pub returns-then-pool-ne-POOL_CELLS : goal.returns-then-pool-ne-POOL_CELLS
unfolding lengths_right
returns-then-pool-ne-POOL_CELLS c =
    all-is (search conditions depth 16)

pub returns : goal.returns
unfolding lengths_right
returns c =
    all-is (search conditions depth 16)

use mathlib.Core.Path.{ap, ◌∙◌}
use Prim.Native.Nat.{ℕ, ◌*◌, ◌-◌, min}
use borrow.Author.Rules.{rules}
use lib.ListN.{length}
use Rattle.laws.proofs.Cells.{part_cut}
use Rattle.tables.specs.Tables.{rule_width}
use Rattle.tables.specs.Layers.{layer_at}
use Rattle.judge.proofs.rules.layer_rules.Goals as goal

pub returns : goal.returns
unfolding layer_at
returns c =
    let n = length c.args.pool.now in
    part_cut _ _ _ c.cells_of-from.result c.cells_of-more.result
    (c.cells_of-from.ensures ∙ ap (λ (k : ℕ). min (rule_width * k) n) c.layer_first.ensures)
    (c.cells_of-more.ensures ∙ ap (λ (k : ℕ). min (rule_width * k) (n - c.cells_of-from.result)) c.layer_count.ensures)

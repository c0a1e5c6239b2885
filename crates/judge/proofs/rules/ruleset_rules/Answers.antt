use mathlib.Core.Path.{◌≡◌, ap, ◌∙◌}
use Prim.Native.Nat.{ℕ, ◌+◌, ◌*◌, ◌-◌, min}
use borrow.Author.Rules.{rules}
use lib.ListN.{length}
use Rattle.laws.proofs.Cells.{part_cut, past-start}
use Rattle.tables.specs.Tables.{rule_width, ruleset_width, ruleset_head}
use Rattle.tables.specs.Layers.{ruleset_at}
use Rattle.judge.proofs.rules.ruleset_rules.Goals as goal

pub returns : goal.returns
unfolding ruleset_at
returns c =
    let a = c.args in
    let n = length a.rulesets.now in
    let from = c.row_start-start.result + c.smaller.result in
    let e : from ≡ min (ruleset_width * a.r + ruleset_head) n = past-start (ruleset_width * a.r) ruleset_head n c.row_start-start.result c.smaller.result c.row_start-start.ensures c.smaller.ensures in
    part_cut a.rulesets.now (ruleset_width * a.r + ruleset_head) _ from c.cells_of-more.result e
    (c.cells_of-more.ensures ∙ ap (λ (k : ℕ). min (rule_width * k) (n - from)) c.ruleset_count-count.ensures)

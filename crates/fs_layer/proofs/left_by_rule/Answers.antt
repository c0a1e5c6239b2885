use Rattle.access.specs.Rights.{without}
use Rattle.fs.proofs.Against.{none_left}
use Rattle.fs_layer.proofs.left_by_rule.Goals as goal

pub returns-then-is_empty : goal.returns-then-is_empty
returns-then-is_empty c =
    none_left _ _ c.is_empty.ensures c.if-is_empty.true

pub returns : goal.returns
returns c =
    rw (c.without.ensures, c.rights_on.ensures, c.layer_rules.ensures)

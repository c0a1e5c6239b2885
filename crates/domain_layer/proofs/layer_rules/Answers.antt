use borrow.Author.Rules.{rules}
use Rattle.domain.proofs.Changes.{part_none, part-whole, read_left}
use Rattle.domain_layer.proofs.layer_rules.Goals as goal

pub returns-then-c-ne0 : goal.returns-then-c-ne0
returns-then-c-ne0 c =
    record { part = part_none _ _ c.layer_code-c.ensures c.if-c-ne0.true; answer = c.layer_code-c.ensures; left = read_left _ _ }

pub returns : goal.returns
returns c =
    record { part = part-whole _ _ c.layer_code-c.ensures c.if-c-ne0.false c.layer_rules.ensures; answer = c.layer_code-c.ensures; left = read_left _ _ }

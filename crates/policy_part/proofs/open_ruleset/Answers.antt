use mathlib.Core.Path.{refl}
use borrow.Author.Rules.{rules}
use Rattle.tables.specs.Tables.{level}
use Rattle.policy_part.proofs.Applied.{with_groups, without_groups, opens_soundly}
use Rattle.policy_part.proofs.open_ruleset.Goals as goal

pub returns-then-any_group : goal.returns-then-any_group
returns-then-any_group c =
    opens_soundly _ c.requires (with_groups (level c.args.system.now) c.args.part.now c.any_group.ensures c.if-any_group.true c.level_of.ensures c.masks_of-masks.ensures c.cut_masks.ensures) refl c.create.ensures.answer

pub returns : goal.returns
returns c =
    opens_soundly _ c.requires (without_groups (level c.args.system.now) c.args.part.now c.any_group.ensures c.if-any_group.false c.masks_of-masks.ensures) refl c.create-2.ensures.answer

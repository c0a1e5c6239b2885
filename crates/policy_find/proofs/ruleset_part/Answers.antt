use mathlib.Core.Path.{sym, subst, ap, ◌∙◌}
use borrow.Author.Rules.{rules}
use Rattle.policy.specs.Find.{part_of}
use Rattle.policy_find.specs.Within.{Within}
use Rattle.policy_find.proofs.Finding.{found_within}
use Rattle.policy_find.proofs.ruleset_part.Goals as goal

pub part_in-requires : goal.part_in-requires
part_in-requires c =
    let a = c.args in subst (Within a.stock.now a.site.now) (sym c.find.ensures) (found_within a.stock.now a.site.now a.name.now)

pub returns : goal.returns
returns c =
    let a = c.args in c.part_in.ensures ∙ ap (part_of a.stock.now a.site.now) c.find.ensures

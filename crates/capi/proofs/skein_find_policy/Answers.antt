use mathlib.Core.Path.{ap, ◌∙◌}
use borrow.Author.Rules.{rules}
use Rattle.codes.specs.Codes.{number}
use Rattle.capi.proofs.skein_find_policy.Goals as goal

pub returns : goal.returns
returns c =
    let f = c.find_policy.ensures in (c.number.ensures ∙ ap number f.reply, f.report)

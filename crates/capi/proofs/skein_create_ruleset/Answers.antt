use mathlib.Core.Path.{refl}
use borrow.Author.Rules.{rules}
use Rattle.capi.proofs.Answers.{answers}
use Rattle.capi.proofs.skein_create_ruleset.Goals as goal

pub returns : goal.returns
returns c =
    record { answer = answers _ _ c.create_ruleset.ensures.answer c.number.ensures; bytes = refl }

use mathlib.Core.Path.{sym, ap, ◌∙◌}
use mathlib.Core.Bool.{not}
use Rattle.sound_rules.specs.Rules.{rights_fit}
use Rattle.sound_rules.proofs.rights_fit.Goals as goal

pub returns-then-contains : goal.returns-then-contains
unfolding rights_fit
returns-then-contains c =
    rw (sym c.contains.ensures ∙ c.if-contains.true)

pub returns : goal.returns
unfolding rights_fit
returns c =
    rw (sym c.contains.ensures ∙ c.if-contains.false) (ap not c.file_object.ensures)

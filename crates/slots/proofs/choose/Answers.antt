use mathlib.Core.Path.{sym, ◌∙◌}
use borrow.Author.Tests.{not-true, not-false}
use Rattle.slots.specs.Slots.{choice}
use Rattle.slots.proofs.choose.Goals as goal

pub returns-then-not-sound : goal.returns-then-not-sound
unfolding choice
returns-then-not-sound c =
    rw (sym c.sound.ensures ∙ c.if-not-sound.true)

pub returns : goal.returns
unfolding choice
returns c =
    rw (sym c.sound.ensures ∙ c.if-not-sound.false) c.next_waiting.ensures

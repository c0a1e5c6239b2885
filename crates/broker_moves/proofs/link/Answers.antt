use mathlib.Core.Bool.{not}
use mathlib.Core.Path.{ap}
use borrow.Author.Rules.{rules}
use Rattle.sound.proofs.Calls.{named-unsound, named_passes}
use Rattle.tree.specs.Link.{tree_link}
use Rattle.broker_moves.proofs.link.Goals as goal

pub returns-then-not-is_sound : goal.returns-then-not-is_sound
unfolding tree_link
returns-then-not-is_sound c =
    named-unsound _ _ _ _ _ _ c.is_sound.ensures (ap not c.if-not-is_sound.true)

pub returns : goal.returns
unfolding tree_link
returns c =
    named_passes _ _ _ _ _ _ c.is_sound.ensures (ap not c.if-not-is_sound.false) c.link.ensures

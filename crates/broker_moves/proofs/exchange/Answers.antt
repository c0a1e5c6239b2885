use mathlib.Core.Bool.{not}
use mathlib.Core.Path.{sym, ◌∙◌, ap}
use borrow.Author.Rules.{rules}
use borrow.Author.Tests.{not-false}
use Rattle.sound.proofs.Calls.{named-unsound, named_passes}
use Rattle.tree.specs.Exchange.{tree_exchange}
use Rattle.broker_moves.proofs.exchange.Goals as goal

pub returns-then-not-is_sound : goal.returns-then-not-is_sound
unfolding tree_exchange
returns-then-not-is_sound c =
    named-unsound _ _ _ _ _ _ c.is_sound.ensures (ap not c.if-not-is_sound.true)

pub exchange-requires : goal.exchange-requires
unfolding tree_exchange
exchange-requires c =
    sym c.is_sound.ensures ∙ c.if-not-is_sound.false

pub returns : goal.returns
unfolding tree_exchange
returns c =
    named_passes _ _ _ _ _ _ c.is_sound.ensures (ap not c.if-not-is_sound.false) c.exchange.ensures

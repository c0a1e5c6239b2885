use mathlib.Core.Bool.{not}
use mathlib.Core.Path.{sym, ◌∙◌, ap}
use borrow.Author.Rules.{rules}
use borrow.Author.Tests.{not-false}
use Rattle.named.specs.Tree.{exchange_named}
use Rattle.named.proofs.Made.{core-sound}
use Rattle.named.proofs.Replies.{judged-unsound, judged_passes}
use Rattle.syscalls_moves.proofs.exchange.Goals as goal

pub returns-then-not-named_sound : goal.returns-then-not-named_sound
unfolding exchange_named
returns-then-not-named_sound c =
    judged-unsound _ c.named_sound.ensures _ _ _ _ _ (ap not c.if-not-named_sound.true)

pub exchange-requires : goal.exchange-requires
unfolding exchange_named
exchange-requires c =
    core-sound _ (sym c.named_sound.ensures ∙ c.if-not-named_sound.false)

pub returns : goal.returns
unfolding exchange_named
returns c =
    judged_passes _ c.named_sound.ensures _ _ _ _ _ (ap not c.if-not-named_sound.false) c.exchange.ensures

use mathlib.Core.Bool.{not}
use mathlib.Core.Path.{sym, ◌∙◌, ap}
use borrow.Author.Tests.{not-false}
use Rattle.named.specs.Tree.{exchange_named}
use Rattle.named.proofs.Made.{core-sound}
use Rattle.log_calls.proofs.Full.{full_unsound, full_checked}
use Rattle.log_full.proofs.exchange_full.Goals as goal

pub returns-then-not-named_sound : goal.returns-then-not-named_sound
unfolding exchange_named
returns-then-not-named_sound c =
    full_unsound _ c.named_sound.ensures _ _ _ _ _ _ (ap not c.if-not-named_sound.true)

pub exchange_checks-requires : goal.exchange_checks-requires
unfolding exchange_named
exchange_checks-requires c =
    core-sound _ (sym c.named_sound.ensures ∙ c.if-not-named_sound.false)

pub returns : goal.returns
unfolding exchange_named
returns c =
    full_checked _ c.named_sound.ensures _ _ _ _ _ _ (ap not c.if-not-named_sound.false) c.exchange_checks.ensures c.without_room.ensures

use mathlib.Core.Bool.{not}
use mathlib.Core.Path.{ap}
use Rattle.named.specs.Tree.{link_named}
use Rattle.log_calls.proofs.Full.{full_unsound, full_checked}
use Rattle.log_full.proofs.link_full.Goals as goal

pub returns-then-not-named_sound : goal.returns-then-not-named_sound
unfolding link_named
returns-then-not-named_sound c =
    full_unsound _ c.named_sound.ensures _ _ _ _ _ _ (ap not c.if-not-named_sound.true)

pub link_checks-requires : goal.link_checks-requires
unfolding link_named
link_checks-requires c =
    c.free_entry-e.ensures

pub returns : goal.returns
unfolding link_named
returns c =
    full_checked _ c.named_sound.ensures _ _ _ _ _ _ (ap not c.if-not-named_sound.false) c.link_checks.ensures c.without_room.ensures

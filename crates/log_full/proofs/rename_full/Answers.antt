use mathlib.Core.Bool.{not}
use mathlib.Core.Path.{ap}
use Rattle.named.specs.Tree.{rename_named}
use Rattle.log_calls.proofs.Full.{full_unsound, full_checked}
use Rattle.log_full.proofs.Renaming.{over_bearer}
use Rattle.log_full.proofs.rename_full.Goals as goal

pub returns-then-not-named_sound : goal.returns-then-not-named_sound
unfolding rename_named
returns-then-not-named_sound c =
    full_unsound _ c.named_sound.ensures _ _ _ _ _ _ (ap not c.if-not-named_sound.true)

pub rename_checks-requires : goal.rename_checks-requires
unfolding rename_named
rename_checks-requires c =
    c.bearer-x.ensures

pub returns : goal.returns
unfolding rename_named
returns c =
    full_checked _ c.named_sound.ensures _ _ _ _ _ _ (ap not c.if-not-named_sound.false) (over_bearer _ _ _ _ _ c.bearer-x.ensures c.rename_checks.ensures) c.without_room.ensures

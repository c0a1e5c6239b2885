use mathlib.Core.Bool.{not}
use mathlib.Core.Path.{ap}
use borrow.Author.Rules.{rules}
use Rattle.named.specs.Tree.{remove_named}
use Rattle.named.proofs.Replies.{judged-unsound, judged_passes}
use Rattle.syscalls_tree.proofs.remove.Goals as goal

pub returns-then-not-named_sound : goal.returns-then-not-named_sound
unfolding remove_named
returns-then-not-named_sound c =
    judged-unsound _ c.named_sound.ensures _ _ _ _ _ (ap not c.if-not-named_sound.true)

pub returns : goal.returns
unfolding remove_named
returns c =
    judged_passes _ c.named_sound.ensures _ _ _ _ _ (ap not c.if-not-named_sound.false) c.remove.ensures

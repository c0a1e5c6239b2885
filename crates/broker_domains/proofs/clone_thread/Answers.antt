use mathlib.Core.Bool.{not}
use mathlib.Core.Path.{sym, ◌∙◌, ap}
use borrow.Author.Rules.{rules}
use borrow.Author.Tests.{not-false}
use Rattle.sound.proofs.Calls.{call-unsound, call_passes}
use Rattle.domain.specs.Threads.{cloned}
use Rattle.broker_domains.proofs.clone_thread.Goals as goal

pub returns-then-not-is_sound : goal.returns-then-not-is_sound
unfolding cloned
returns-then-not-is_sound c =
    call-unsound _ _ _ c.is_sound.ensures (ap not c.if-not-is_sound.true)

pub clone_thread-requires : goal.clone_thread-requires
unfolding cloned
clone_thread-requires c =
    sym c.is_sound.ensures ∙ c.if-not-is_sound.false

pub returns : goal.returns
unfolding cloned
returns c =
    call_passes _ _ _ c.is_sound.ensures (ap not c.if-not-is_sound.false) c.clone_thread.ensures

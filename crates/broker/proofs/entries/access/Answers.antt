use mathlib.Core.Bool.{not}
use mathlib.Core.Path.{refl, sym, ◌∙◌, ap}
use borrow.Author.Tests.{not-true, not-false}
use Rattle.sound.proofs.Calls.{named-unsound, named_passes}
use Rattle.fs_access.specs.Access.{access_call, access_count}
use Rattle.broker.proofs.entries.access.Goals as goal

pub returns-then-not-is_sound : goal.returns-then-not-is_sound
unfolding access_call access_count
returns-then-not-is_sound c = record { reply = named-unsound _ _ _ _ _ _ c.is_sound.ensures (ap not c.if-not-is_sound.true); read = rw (sym c.is_sound.ensures ∙ c.if-not-is_sound.true) refl }

pub returns : goal.returns
unfolding access_call access_count
returns c = record { reply = named_passes _ _ _ _ _ _ c.is_sound.ensures (ap not c.if-not-is_sound.false) c.access.ensures.reply; read = rw (sym c.is_sound.ensures ∙ c.if-not-is_sound.false) c.access.ensures.read }

use mathlib.Core.Bool.{not}
use mathlib.Core.Path.{refl, ap}
use borrow.Author.Rules.{rules}
use Rattle.named.proofs.Replies.{lift-unsound, lift-done}
use Rattle.syscalls_rulesets.proofs.create_ruleset.Goals as goal

pub returns-then-not-names_sound : goal.returns-then-not-names_sound
returns-then-not-names_sound c =
    record { answer = lift-unsound _ _ c.names_sound.ensures (ap not c.if-not-names_sound.true); bytes = refl }

pub returns : goal.returns
returns c =
    record { answer = lift-done _ _ c.names_sound.ensures (ap not c.if-not-names_sound.false) c.create_ruleset.ensures.answer; bytes = refl }

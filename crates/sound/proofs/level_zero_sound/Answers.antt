use borrow.Author.Tests.{eq-eqb, ne_eqb}
use Rattle.laws.proofs.Conditions.{all-is, conditions}
use Rattle.sound.specs.Sound.{level_zero_sound}
use Rattle.sound.proofs.level_zero_sound.Goals as goal

pub returns-then-system-ne0 : goal.returns-then-system-ne0
unfolding level_zero_sound
returns-then-system-ne0 c =
    rw (ne_eqb _ 0 c.if-system-ne0.true)

pub returns-then-system-ne0-2 : goal.returns-then-system-ne0-2
unfolding level_zero_sound
returns-then-system-ne0-2 c =
    rw (eq-eqb _ 0 c.if-system-ne0.false) (all-is (search conditions depth 16))

pub returns : goal.returns
unfolding level_zero_sound
returns c =
    rw (eq-eqb _ 0 c.if-system-ne0.false) (all-is (search conditions depth 16))

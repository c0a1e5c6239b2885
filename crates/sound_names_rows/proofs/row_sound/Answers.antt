use borrow.Author.Rules.{rules}
use Rattle.sound_names_rows.proofs.row_sound.Goals as goal

pub returns-then-named : goal.returns-then-named
returns-then-named c =
    rw c.if-named.true c.name_sound.ensures

pub returns : goal.returns
returns c =
    rw c.if-named.false c.row_zero.ensures

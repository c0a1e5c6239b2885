-- Past the end a write changes nothing.
use borrow.Author.Rules.{rules}
use Rattle.laws.proofs.Cells.{unset}
use Rattle.name_rows.proofs.write_byte.Goals as goal

pub returns-else-i-t : goal.returns-else-i-t
returns-else-i-t c =
    let a = c.args in unset a.t.now a.i a.v c.if-i-t.false

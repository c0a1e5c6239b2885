use mathlib.Core.Path.{refl, sym, ◌∙◌}
use Prim.Native.Nat.{◌-◌}
use borrow.Author.Rules.{rules}
use Rattle.laws.proofs.Cells.{past}
use Rattle.name_rows.proofs.Bytes.{behind}
use Rattle.name_rows.proofs.row_byte.Goals as goal

pub returns-then-k-eq0 : goal.returns-then-k-eq0
returns-then-k-eq0 c =
    rw c.if-k-eq0.true refl

pub returns-then-i-name : goal.returns-then-i-name
returns-then-i-name c =
    let a = c.args in sym (behind a.name.now _ a.k c.if-k-eq0.false)

pub returns-else-i-name : goal.returns-else-i-name
returns-else-i-name c =
    let a = c.args in past a.name.now (a.k - 1) c.if-i-name.false ∙ sym (behind a.name.now _ a.k c.if-k-eq0.false)

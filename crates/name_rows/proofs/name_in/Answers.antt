use mathlib.Core.Path.{ap, ◌∙◌}
use Prim.Native.Nat.{ℕ, ◌-◌, min}
use native.Mathlib.Omega.{arith}
use lib.ListN.{length}
use borrow.Author.Rules.{rules}
use Rattle.name_rows.proofs.Bytes.{name_none, name_some}
use Rattle.name_rows.proofs.name_in.Goals as goal

pub returns-then-row-eq0 : goal.returns-then-row-eq0
returns-then-row-eq0 c =
    name_none _ c.if-row-eq0.true

pub returns : goal.returns
returns c =
    let more = c.smaller-more in
    let a = c.args in
    name_some a.row.now more.result (omega arith) (more.ensures ∙ ap (λ (n : ℕ). min n (length a.row.now - 1)) c.wide.ensures)

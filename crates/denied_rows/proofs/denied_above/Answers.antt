use native.Mathlib.Omega.{arith}
use Prim.Native.Nat.{◌+◌, ◌*◌}
use borrow.Author.Rules.{rules}
use Rattle.access.specs.Limits.{max_layers}
use Rattle.tables.specs.Tables.{parent}
use Rattle.denied_rows.proofs.Kept.{above_root, above_parent}
use Rattle.denied_rows.proofs.denied_above.Goals as goal

pub returns-then-e-eq0 : goal.returns-then-e-eq0
returns-then-e-eq0 c =
    above_root _ _ _ _ _ c.if-e-eq0.true c.layer_fs.ensures c.handled_by.ensures c.requires.1.1.1

pub overflow_cast-result : goal.overflow_cast-result
overflow_cast-result c =
    let a = c.args in let h = c.type_inv.rows (max_layers * parent a.entries.now a.e + a.l) in omega arith

pub returns : goal.returns
returns c =
    let a = c.args in
    above_parent a.entries.now a.layers.now a.rows.now a.e a.l c.if-e-eq0.false (let h = c.type_inv.rows (max_layers * parent a.entries.now a.e + a.l) in omega arith)

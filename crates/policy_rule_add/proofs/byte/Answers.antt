-- Past the end a byte reads as 0.
use mathlib.Core.Path.{refl}
use native.Mathlib.Omega.{arith}
use borrow.Author.Rules.{rules}
use Rattle.laws.proofs.Cells.{past}
use Rattle.policy_rule_add.proofs.byte.Goals as goal

pub overflow_cast-result : goal.overflow_cast-result
overflow_cast-result c =
    omega (arith, c.shared_slice_known-1.given c.args.i)

pub returns-then-i-bytes : goal.returns-then-i-bytes
returns-then-i-bytes c =
    (refl, omega (arith, c.shared_slice_known-1.given c.args.i))

pub returns-else-i-bytes : goal.returns-else-i-bytes
returns-else-i-bytes c =
    (past c.args.bytes.now c.args.i c.if-i-bytes.false, omega arith)

use mathlib.Core.Path.{◌≡◌}
use Prim.Native.Nat.{◌+◌, ◌-◌, ◌^◌, ◌≤◌, ◌<◌}
use native.Mathlib.Omega.{arith}
use borrow.Author.Rules.{rules}
use Rattle.ruleset.specs.Attribute.{number}
use Rattle.ruleset.proofs.Numbers.{number_past, number-none, number_more, number-done, grows, fits}
use Rattle.ruleset.proofs.attribute.mask.Goals as goal

pub returns-then-at-bytes : goal.returns-then-at-bytes
returns-then-at-bytes c =
    number_past _ _ 8 c.if-at-bytes.true

pub loop-n-init : goal.loop-n-init
loop-n-init c =
    (omega arith, number-none _ _, omega arith)

pub overflow_mul-v : goal.overflow_mul-v
overflow_mul-v c =
    let l = c.loop-n in let f = fits l.n l.v 0 c.loop-n-test.true l.invariant.2 (omega arith) in omega arith

pub overflow_add-v : goal.overflow_add-v
overflow_add-v c =
    let l = c.loop-n in let f = fits l.n l.v c.byte.result c.loop-n-test.true l.invariant.2 c.byte.ensures.1 in omega arith

pub loop-n-preserved : goal.loop-n-preserved
loop-n-preserved c =
    let l = c.loop-n in
    let b = c.byte in
    (omega arith, number_more _ _ l.n l.v b.result c.loop-n-test.true l.invariant.1 b.ensures.0, grows l.n l.v b.result l.invariant.2 b.ensures.1)

pub returns : goal.returns
returns c =
    number-done _ _ c.loop-n.n _ (omega arith) c.loop-n.invariant.1

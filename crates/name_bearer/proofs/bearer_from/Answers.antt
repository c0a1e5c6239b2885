use mathlib.Core.Path.{◌≡◌, refl}
use mathlib.Core.Bool.{false}
use native.Mathlib.Omega.{arith}
use Rattle.laws.proofs.Tests.{any-start, any_more, first_found}
use Rattle.names.specs.Names.{bears, bearer_from}
use Rattle.name_bearer.proofs.Bearing.{bears-here, bears_elsewhere, cut-is}
use Rattle.name_bearer.proofs.bearer_from.Goals as goal
use Rattle.name_bearer.proofs.bearer_from.Goals.{then-entries-x+else-is_named_so, else-entries-x}

pub loop-x-init : goal.loop-x-init
loop-x-init c = (omega arith, c.whole_rows-n.ensures, any-start _)

pub loop-x-preserved : goal.loop-x-preserved
loop-x-preserved c =
    let a = c.args in
    let l = c.loop-x in
    let passed : bears a.entries.now a.names.now a.d a.name.now l.x ≡ false = elim c.if-entries-x.branch [
      | then-entries-x+else-is_named_so w ↦ bears-here _ _ _ _ l.x refl w.if-entries-x.true w.is_named_so.ensures w.if-is_named_so.false
      | else-entries-x w ↦ bears_elsewhere _ _ _ _ l.x refl w.if-entries-x.false
    ] in
    (omega arith, l.invariant.1, any_more _ _ l.invariant.2 passed)

pub returns-then-is_named_so : goal.returns-then-is_named_so
unfolding bearer_from
returns-then-is_named_so c =
    let l = c.loop-x in
    first_found _ _ l.x (omega arith) l.invariant.2 (bears-here _ _ _ _ l.x refl c.if-entries-x.true c.is_named_so.ensures c.if-is_named_so.true)

pub returns : goal.returns
unfolding bearer_from
returns c =
    let l = c.loop-x in cut-is _ _ _ _ l.x (omega arith) (omega arith) l.invariant.2 c.cut_bearer.ensures

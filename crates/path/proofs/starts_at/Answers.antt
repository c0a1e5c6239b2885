use borrow.Author.Rules.{rules}
use Rattle.path.proofs.Places.{starts_not, starts_first, starts_behind}
use Rattle.path.proofs.starts_at.Goals as goal

pub returns-then-path-i-eq-SLASH : goal.returns-then-path-i-eq-SLASH
returns-then-path-i-eq-SLASH c =
    let a = c.args in starts_not a.path.now a.i c.requires c.if-path-i-eq-SLASH.true

pub returns-then-i-eq0 : goal.returns-then-i-eq0
returns-then-i-eq0 c =
    let a = c.args in starts_first a.path.now a.i c.requires c.if-path-i-eq-SLASH.false c.if-i-eq0.true

pub returns : goal.returns
returns c =
    starts_behind c.args.path.now c.args.i c.requires c.if-path-i-eq-SLASH.false c.if-i-eq0.false

use borrow.Author.Rules.{rules}
use Rattle.policy_find.proofs.Finding.{has-fits, has_here, has_not}
use Rattle.policy_find.proofs.has_or.Goals as goal

pub span_of-requires : goal.span_of-requires
span_of-requires c =
    let a = c.args in
    has-fits a.file a.f.now a.name.now a.rest c.place_of-at.ensures c.if-at-f.true

pub returns-then-at-f : goal.returns-then-at-f
returns-then-at-f c =
    let a = c.args in
    has_here a.file a.f.now a.name.now a.rest c.place_of-at.ensures c.if-at-f.true c.span_of.ensures

pub returns : goal.returns
returns c =
    let a = c.args in
    has_not a.file a.f.now a.name.now a.rest c.place_of-at.ensures c.if-at-f.false

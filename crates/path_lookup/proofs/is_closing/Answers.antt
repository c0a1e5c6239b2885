use borrow.Author.Rules.{rules}
use Rattle.path_lookup.proofs.Steps.{closes, not_closing}
use Rattle.path_lookup.proofs.is_closing.Goals as goal

pub returns-then-path-eq0 : goal.returns-then-path-eq0
returns-then-path-eq0 c =
    not_closing c.args.path.now c.if-path-eq0.true

pub returns : goal.returns
returns c =
    closes c.args.path.now c.if-path-eq0.false

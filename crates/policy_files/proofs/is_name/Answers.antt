use borrow.Author.Rules.{rules}
use Rattle.policy_files.proofs.Reading.{name_empty, name_long, name_by}
use Rattle.policy_files.proofs.is_name.Goals as goal

pub returns-then-len-lt1 : goal.returns-then-len-lt1
returns-then-len-lt1 c =
    name_empty c.args.f.now c.args.at c.args.next c.requires.0 c.if-len-lt1.true

pub returns-then-len-gt-MAX_RULESET_NAME : goal.returns-then-len-gt-MAX_RULESET_NAME
returns-then-len-gt-MAX_RULESET_NAME c =
    name_long c.args.f.now c.args.at c.args.next c.requires.0 c.if-len-lt1.false c.if-len-gt-MAX_RULESET_NAME.true

pub returns : goal.returns
returns c =
    name_by c.args.f.now c.args.at c.args.next c.requires.0 c.if-len-lt1.false c.if-len-gt-MAX_RULESET_NAME.false c.is_first.ensures

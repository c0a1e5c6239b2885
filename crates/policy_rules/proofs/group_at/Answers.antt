use native.Mathlib.Omega.{arith}
use borrow.Author.Rules.{rules}
use Rattle.policy_rules.proofs.Items.{no_level, level_low, level_high, level-fine}
use Rattle.policy_rules.proofs.group_at.Goals as goal

pub returns-then-next-from : goal.returns-then-next-from
returns-then-next-from c =
    no_level c.args.f.now c.args.at c.args.next c.requires.1 c.requires.0 (omega arith)

pub returns-then-level-lt1 : goal.returns-then-level-lt1
returns-then-level-lt1 c =
    level_low c.args.f.now c.args.at c.args.next c.requires.1 (omega arith) c.if-level-lt1.true

pub returns-then-level-gt-LEVELS : goal.returns-then-level-gt-LEVELS
returns-then-level-gt-LEVELS c =
    level_high c.args.f.now c.args.at c.args.next c.requires.1 (omega arith) c.if-level-lt1.false c.if-level-gt-LEVELS.true

pub returns : goal.returns
returns c =
    level-fine c.args.f.now c.args.at c.args.next c.requires.1 (omega arith) c.if-level-lt1.false c.if-level-gt-LEVELS.false

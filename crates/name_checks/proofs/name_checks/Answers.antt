use native.Mathlib.Omega.{arith}
use lib.ListN.{length}
use borrow.Author.Rules.{rules}
use Rattle.laws.proofs.Refusals.{refusals, first-is, hit_lt}
use Rattle.names.specs.Names.{max_name, name_checks}
use Rattle.name_checks.proofs.name_checks.Goals as goal

pub returns-then-name-gt-MAX_NAME : goal.returns-then-name-gt-MAX_NAME
unfolding name_checks
returns-then-name-gt-MAX_NAME c =
    first-is (hit_lt {x = max_name} {y = length c.args.name.now} (omega arith))

pub returns-then-is_bad : goal.returns-then-is_bad
unfolding name_checks
returns-then-is_bad c =
    first-is (search refusals depth 16 fits 20000)

pub returns : goal.returns
unfolding name_checks
returns c =
    first-is (search refusals depth 16 fits 20000)

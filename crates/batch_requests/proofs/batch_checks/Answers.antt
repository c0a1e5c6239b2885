use borrow.Author.Rules.{rules}
use Rattle.laws.proofs.Refusals.{first-is, refusals}
use Rattle.named.specs.Batch.{batch_checks}
use Rattle.batch_requests.proofs.batch_checks.Goals as goal

pub returns-then-requests-n : goal.returns-then-requests-n
unfolding batch_checks
returns-then-requests-n c =
    first-is (search refusals depth 16 fits 20000)

pub returns-then-not-sorts_known : goal.returns-then-not-sorts_known
unfolding batch_checks
returns-then-not-sorts_known c =
    first-is (search refusals depth 16 fits 20000)

pub returns-then-answers-n : goal.returns-then-answers-n
unfolding batch_checks
returns-then-answers-n c =
    first-is (search refusals depth 16 fits 20000)

pub returns : goal.returns
unfolding batch_checks
returns c =
    first-is (search refusals depth 16 fits 20000)

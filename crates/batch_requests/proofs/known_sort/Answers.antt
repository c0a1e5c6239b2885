use borrow.Author.Tests.{lt-leb, le-leb}
use Rattle.named.specs.Batch.{known_sort}
use Rattle.batch_requests.proofs.known_sort.Goals as goal

pub returns-then-sort-lt-ACCESS : goal.returns-then-sort-lt-ACCESS
unfolding known_sort
returns-then-sort-lt-ACCESS c =
    rw (lt-leb _ _ c.if-sort-lt-ACCESS.true)

pub returns : goal.returns
unfolding known_sort
returns c =
    rw (le-leb _ _ c.if-sort-lt-ACCESS.false)

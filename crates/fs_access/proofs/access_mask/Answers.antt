use Rattle.laws.proofs.Refusals.{first-is, refusals}
use Rattle.fs_access.specs.Access.{access_mask}
use Rattle.fs_access.proofs.access_mask.Goals as goal

pub returns-then-is_empty : goal.returns-then-is_empty
unfolding access_mask
returns-then-is_empty c =
    first-is (search refusals depth 16 fits 20000)

pub returns-then-not-contains : goal.returns-then-not-contains
unfolding access_mask
returns-then-not-contains c =
    first-is (search refusals depth 16 fits 20000)

pub returns-then-past_file_set : goal.returns-then-past_file_set
unfolding access_mask
returns-then-past_file_set c =
    first-is (search refusals depth 16 fits 20000)

pub returns : goal.returns
unfolding access_mask
returns c =
    first-is (search refusals depth 16 fits 20000)

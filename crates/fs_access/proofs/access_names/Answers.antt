use Rattle.laws.proofs.Refusals.{first-is, refusals}
use Rattle.fs_access.specs.Access.{access_names}
use Rattle.fs_access.proofs.access_names.Goals as goal

pub returns-then-not-thread_live : goal.returns-then-not-thread_live
unfolding access_names
returns-then-not-thread_live c =
    first-is (search refusals depth 16 fits 20000)

pub returns-then-not-entry_live : goal.returns-then-not-entry_live
unfolding access_names
returns-then-not-entry_live c =
    first-is (search refusals depth 16 fits 20000)

pub returns : goal.returns
unfolding access_names
returns c =
    first-is (search refusals depth 16 fits 20000)

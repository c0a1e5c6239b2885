use Rattle.laws.proofs.Refusals.{first-is, refusals, reads}
use Rattle.domain_restrict.specs.Restrict.{restrict_form}
use Rattle.domain_restrict.proofs.restrict_form.Goals as goal

pub returns-then-not-thread_live : goal.returns-then-not-thread_live
unfolding restrict_form
returns-then-not-thread_live c =
    first-is (search refusals depth 16 fits 20000)

pub returns-then-level_of-eq0 : goal.returns-then-level_of-eq0
unfolding restrict_form
returns-then-level_of-eq0 c =
    first-is (search (reads, refusals) depth 16 fits 20000)

pub returns-then-is_unmarked : goal.returns-then-is_unmarked
unfolding restrict_form
returns-then-is_unmarked c =
    first-is (search (reads, refusals) depth 16 fits 20000)

pub returns-then-flags-ne0 : goal.returns-then-flags-ne0
unfolding restrict_form
returns-then-flags-ne0 c =
    first-is (search (reads, refusals) depth 16 fits 20000)

pub returns : goal.returns
unfolding restrict_form
returns c =
    first-is (search (reads, refusals) depth 16 fits 20000)

use mathlib.Core.Bool.{not}
use mathlib.Core.Path.{ap}
use Rattle.laws.proofs.Refusals.{first-is, refusals, miss_not}
use Rattle.tables.specs.Layers.{ruleset_at}
use Rattle.rule.specs.Rule.{path_form}
use Rattle.rule.proofs.path_form.Goals as goal

pub returns-then-not-contains : goal.returns-then-not-contains
unfolding path_form ruleset_at
returns-then-not-contains c =
    rw (← c.ruleset_fs-fs.ensures) (first-is (search refusals depth 16 fits 20000))

pub returns-then-not-entry_live : goal.returns-then-not-entry_live
unfolding path_form ruleset_at
returns-then-not-entry_live c =
    rw (← c.ruleset_fs-fs.ensures) (first-is (search refusals depth 16 fits 20000))

pub returns-then-is_sweeping : goal.returns-then-is_sweeping
unfolding path_form ruleset_at
returns-then-is_sweeping c =
    rw (← c.ruleset_fs-fs.ensures) (first-is (search refusals depth 16 fits 20000))

pub returns-then-past_file_set : goal.returns-then-past_file_set
unfolding path_form ruleset_at
returns-then-past_file_set c =
    rw (← c.ruleset_fs-fs.ensures) (first-is (search refusals depth 16 fits 20000))

pub returns-then-is_full : goal.returns-then-is_full
unfolding path_form ruleset_at
returns-then-is_full c =
    rw (← c.ruleset_fs-fs.ensures, ← c.object_of.ensures) (first-is (miss_not c.contains.ensures (ap not c.if-not-contains.false) (search refusals depth 16 fits 20000)))

pub returns : goal.returns
unfolding path_form ruleset_at
returns c =
    rw (← c.ruleset_fs-fs.ensures, ← c.object_of.ensures) (first-is (miss_not c.contains.ensures (ap not c.if-not-contains.false) (search refusals depth 16 fits 20000)))

use mathlib.Core.Bool.{not}
use mathlib.Core.Path.{ap}
use Rattle.laws.proofs.Refusals.{first-is, refusals, none, hit_not, miss_not, miss_ne}
use Rattle.tree_log.specs.Tree.{move_place}
use Rattle.log_checks.proofs.move_place.Goals as goal

pub returns-then-not-entry_live : goal.returns-then-not-entry_live
unfolding move_place
returns-then-not-entry_live c =
    first-is (search refusals depth 16 fits 20000)

pub returns-then-not-entry_live-2 : goal.returns-then-not-entry_live-2
unfolding move_place
returns-then-not-entry_live-2 c =
    first-is (search refusals depth 16 fits 20000)

pub returns-then-s-eq0 : goal.returns-then-s-eq0
unfolding move_place
returns-then-s-eq0 c =
    first-is (search refusals depth 16 fits 20000)

pub returns-then-not-is_dir : goal.returns-then-not-is_dir
unfolding move_place
returns-then-not-is_dir c =
    first-is (miss_not c.entry_live.ensures (ap not c.if-not-entry_live.false) (miss_not c.entry_live-2.ensures (ap not c.if-not-entry_live-2.false) (miss_ne c.if-s-eq0.false (hit_not c.is_dir.ensures (ap not c.if-not-is_dir.true)))))

pub returns : goal.returns
unfolding move_place
returns c =
    first-is (miss_not c.entry_live.ensures (ap not c.if-not-entry_live.false) (miss_not c.entry_live-2.ensures (ap not c.if-not-entry_live-2.false) (miss_ne c.if-s-eq0.false (miss_not c.is_dir.ensures (ap not c.if-not-is_dir.false) none))))

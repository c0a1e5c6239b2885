use mathlib.Core.Bool.{not}
use mathlib.Core.Path.{ap}
use Rattle.laws.proofs.Refusals.{first-is, refusals, none, hit_not, miss_not, miss_ne}
use Rattle.named.specs.Tree.{link_target}
use Rattle.named_checks.proofs.link_target.Goals as goal

pub returns-then-not-thread_live : goal.returns-then-not-thread_live
unfolding link_target
returns-then-not-thread_live c =
    first-is (search refusals depth 16 fits 20000)

pub returns-then-not-entry_live : goal.returns-then-not-entry_live
unfolding link_target
returns-then-not-entry_live c =
    first-is (search refusals depth 16 fits 20000)

pub returns-then-not-entry_live-2 : goal.returns-then-not-entry_live-2
unfolding link_target
returns-then-not-entry_live-2 c =
    first-is (search refusals depth 16 fits 20000)

pub returns-then-s-eq0 : goal.returns-then-s-eq0
unfolding link_target
returns-then-s-eq0 c =
    first-is (search refusals depth 16 fits 20000)

pub returns-then-not-is_dir : goal.returns-then-not-is_dir
unfolding link_target
returns-then-not-is_dir c =
    first-is (miss_not c.thread_live.ensures (ap not c.if-not-thread_live.false) (miss_not c.entry_live.ensures (ap not c.if-not-entry_live.false) (miss_not c.entry_live-2.ensures (ap not c.if-not-entry_live-2.false) (miss_ne c.if-s-eq0.false (hit_not c.is_dir.ensures (ap not c.if-not-is_dir.true))))))

pub returns : goal.returns
unfolding link_target
returns c =
    first-is (miss_not c.thread_live.ensures (ap not c.if-not-thread_live.false) (miss_not c.entry_live.ensures (ap not c.if-not-entry_live.false) (miss_not c.entry_live-2.ensures (ap not c.if-not-entry_live-2.false) (miss_ne c.if-s-eq0.false (miss_not c.is_dir.ensures (ap not c.if-not-is_dir.false) none)))))

use Rattle.sound_domains.proofs.Counting.{one_none, one_step, one_past}
use Rattle.sound_holders.proofs.count_one.Goals as goal

pub returns-then-y-eq0 : goal.returns-then-y-eq0
returns-then-y-eq0 c =
    one_none _ _ c.if-y-eq0.true

pub returns-then-l-counts : goal.returns-then-l-counts
returns-then-l-counts c =
    one_past _ _ c.if-y-eq0.false c.if-l-counts.true

pub returns : goal.returns
returns c =
    one_step _ _ c.if-y-eq0.false

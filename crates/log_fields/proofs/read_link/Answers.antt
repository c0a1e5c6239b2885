use native.Mathlib.Omega.{arith}
use Rattle.tree_log.specs.Changes.{link}
use Rattle.log_fields.specs.Seen.{change_of}
use Rattle.log_fields.proofs.Values.{move-short, move_by}
use Rattle.log_fields.proofs.read_link.Goals as goal

pub returns-then-v-lt4 : goal.returns-then-v-lt4
unfolding change_of
returns-then-v-lt4 c =
    move-short link c.args.v.now c.if-v-lt4.true

pub returns : goal.returns
unfolding change_of
returns c =
    move_by c.args.v.now link c.two_at-s.ensures c.two_at-d.ensures (omega arith)

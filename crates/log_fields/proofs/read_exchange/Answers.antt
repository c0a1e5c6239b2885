use native.Mathlib.Omega.{arith}
use Rattle.log_fields.specs.Seen.{change_of}
use Rattle.log_fields.proofs.Values.{exchange_not, exchange_by}
use Rattle.log_fields.proofs.read_exchange.Goals as goal

pub returns-then-v-ne6 : goal.returns-then-v-ne6
unfolding change_of
returns-then-v-ne6 c =
    exchange_not c.args.v.now c.if-v-ne6.true

pub returns : goal.returns
unfolding change_of
returns c =
    exchange_by c.args.v.now c.two_at-s.ensures c.two_at-d.ensures c.two_at-x.ensures (omega arith)

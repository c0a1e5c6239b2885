use native.Mathlib.Omega.{arith}
use borrow.Author.Rules.{rules}
use Rattle.log_fields.specs.Seen.{change_of}
use Rattle.log_fields.proofs.Values.{create-short, create_by}
use Rattle.log_fields.proofs.read_create.Goals as goal

pub returns-then-v-lt3 : goal.returns-then-v-lt3
unfolding change_of
returns-then-v-lt3 c =
    create-short c.args.v.now c.if-v-lt3.true

pub returns : goal.returns
unfolding change_of
returns c =
    create_by c.args.v.now c.two_at-d.ensures (omega arith)

use native.Mathlib.Omega.{arith}
use borrow.Author.Rules.{rules}
use Rattle.policy.proofs.Pieces.{part-whole, part_cut, part-short}
use Rattle.policy_fields.proofs.field_at.Goals as goal

pub returns-then-room-lt-HEADER : goal.returns-then-room-lt-HEADER
returns-then-room-lt-HEADER c =
    part-short c.args.f.now c.args.s.at c.args.s.end c.requires.1 c.requires.0 c.if-room-lt-HEADER.true

pub returns-then-room-len : goal.returns-then-room-len
returns-then-room-len c =
    part_cut c.args.f.now c.args.s.at c.args.s.end c.requires.1 (omega arith) (omega arith)

pub returns : goal.returns
returns c =
    let low = c.wide.ensures.0 in
    let high = c.wide-2.ensures.0 in
    rw (low, high) (record { past = omega arith; inside = omega arith; here = part-whole c.args.f.now c.args.s.at c.args.s.end c.requires.1 (omega arith) (omega arith) })

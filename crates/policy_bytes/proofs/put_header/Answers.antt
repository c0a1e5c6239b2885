use Prim.Native.Nat.{◌+◌, ◌<◌, ◌/◌, ◌%◌}
use native.Mathlib.Omega.{arith}
use borrow.Author.Rules.{rules}
use lib.ListN.{length, length-set}
use Rattle.policy_bytes.proofs.Puts.{header_put}
use Rattle.policy_bytes.proofs.put_header.Goals as goal

pub bounds-out-at-2 : goal.bounds-out-at-2
bounds-out-at-2 c =
    let p = c.requires.0 in let h : c.args.at + 1 < length c.args.out.now = omega arith in simp length-set h

pub bounds-out-at-3 : goal.bounds-out-at-3
bounds-out-at-3 c =
    let p = c.requires.0 in let h : c.args.at + 2 < length c.args.out.now = omega arith in simp length-set h

pub returns : goal.returns
returns c =
    let a = c.args in header_put a.out.now a.at a.tag (a.len % 256) (a.len / 256)

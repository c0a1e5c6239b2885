use native.Mathlib.Nat.{add-zero}
use native.Mathlib.Omega.{arith}
use lib.ListN.{length-set}
use borrow.Author.Rules.{rules}
use Rattle.named.specs.Batch.{put_said}
use Rattle.batch_requests.proofs.put_answer.Goals as goal

pub bounds-answers-at-2 : goal.bounds-answers-at-2
unfolding put_said
bounds-answers-at-2 c =
    simp length-set (omega arith)

pub bounds-answers-at-3 : goal.bounds-answers-at-3
unfolding put_said
bounds-answers-at-3 c =
    simp length-set (omega arith)

pub returns : goal.returns
unfolding put_said
returns c =
    rw (c.error_number.ensures, c.named_layer.ensures, c.denied_rights.ensures, add-zero)

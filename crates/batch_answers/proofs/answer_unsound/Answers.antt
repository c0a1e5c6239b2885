use mathlib.Core.Path.{◌≡◌, sym, ap, ◌∙◌}
use Prim.Native.Nat.{◌≤◌, ◌-◌}
use native.Mathlib.Omega.{arith}
use lib.ListN.{length}
use borrow.Author.Rules.{rules}
use Rattle.tables.specs.Tables.{tables}
use Rattle.named.specs.Named.{with_names}
use Rattle.named.specs.Batch.{request_count, answers_to}
use Rattle.named.proofs.Answers.{batch-answers}
use Rattle.batch_answers.proofs.Answers.{room, answers-none, answers_more, answers-length, all-answered}
use Rattle.batch_answers.proofs.answer_unsound.Goals as goal

pub loop-i-init : goal.loop-i-init
loop-i-init c =
    (omega arith, answers-none _ _ _ _)

pub put_answer-requires : goal.put_answer-requires
put_answer-requires c =
    omega (arith, ap length c.loop-i.invariant.1 ∙ answers-length _ _ _ _ c.loop-i.i, room c.args.requests.now c.args.answers.now c.requires.1)

pub loop-i-preserved : goal.loop-i-preserved
loop-i-preserved c =
    (omega arith, answers_more _ _ _ _ c.loop-i.i c.loop-i.invariant.1 (sym (batch-answers.unsound _ _ _ c.loop-i.i c.requires.0)) c.put_answer.ensures)

pub shape_of-answers : goal.shape_of-answers
shape_of-answers c =
    ap length c.loop-i.invariant.1 ∙ answers-length _ _ _ _ c.loop-i.i

pub returns : goal.returns
returns c =
    all-answered _ _ _ _ c.loop-i.invariant.0 c.loop-i-test.false c.loop-i.invariant.1

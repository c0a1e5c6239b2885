-- The invariant: the answers to the first `i` requests are written.
use mathlib.Core.Path.{◌≡◌, sym, ap, ◌∙◌}
use Prim.Native.Nat.{◌≤◌, ◌-◌}
use native.Mathlib.Omega.{arith}
use lib.ListN.{length}
use borrow.Author.Rules.{rules}
use Rattle.tables.specs.Tables.{tables}
use Rattle.named.specs.Named.{with_names}
use Rattle.named.specs.Batch.{request_count, answers_to}
use Rattle.named.proofs.Answers.{batch-answers}
use Rattle.batch_answers.proofs.Answers.{room, answers-none, answers_more, answers-length, all-answered}
use Rattle.batch_answers.proofs.answer_unsound.Given as goal

abbrev pub invariant-loop-i : goal.invariant-loop-i
invariant-loop-i l = (l.i ≤ request_count l.requests) × (l.answers ≡ answers_to (with_names (tables l.system l.entries l.rulesets l.layers l.pool l.threads) l.names) l.requests l.asked l.initial.answers l.i)

abbrev pub decreases-loop-i : goal.decreases-loop-i
decreases-loop-i l = l.n - l.i

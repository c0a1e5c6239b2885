-- The invariant: the answers to the first `i` requests are written, and orders and rows are ready for the next.
use mathlib.Core.Path.{◌≡◌, sym, ap, ◌∙◌}
use mathlib.Core.List.{List}
use Prim.Native.Nat.{ℕ, ◌+◌, ◌-◌, ◌*◌, ◌^◌, ◌≤◌, ◌<◌}
use native.Mathlib.Omega.{arith}
use lib.ListN.{length, length-replicate}
use Rattle.tables.specs.Tables.{tables}
use Rattle.batch_verdict.specs.Batch.{BatchReady}
use Rattle.batch_verdict.proofs.Ready.{walks_ready, batch_ready}
use Rattle.access.specs.declared.errno.Reply.{Reply}
use Rattle.named.specs.Named.{Named, with_names}
use Rattle.named.specs.Batch.{asked_cell, batch_answer_width, part_name, reply_asked, request_reply, answers_to, request_count}
use Rattle.named.proofs.Made.{core-sound}
use Rattle.batch_requests.specs.declared.Request.{Request}
use Rattle.batch_answers.proofs.Answers.{whole-requests, room, answers-none, answers_more, answers-length, all-answered}
use Rattle.batch_answers.proofs.answer_all.Given as goal

abbrev pub invariant-loop-i : goal.invariant-loop-i
invariant-loop-i l = (l.i ≤ request_count l.requests)
    × ((l.answers ≡ answers_to (with_names (tables l.system l.entries l.rulesets l.layers l.pool l.threads) l.names) l.requests l.asked l.initial.answers l.i)
    × BatchReady l.entries l.layers l.pool l.threads l.orders l.top l.rows l.marks)

abbrev pub decreases-loop-i : goal.decreases-loop-i
decreases-loop-i l = l.n - l.i

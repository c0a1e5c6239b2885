use mathlib.Core.List.{List}
use Prim.Native.Nat.{ℕ}
use native.Mathlib.Omega.{arith}
use Rattle.tables.specs.Tables.{tables}
use Rattle.named.specs.Named.{with_names}
use Rattle.named.specs.Queue.{answer_of}
use Rattle.queue.specs.declared.Answer.{Answer}
use Rattle.slots.proofs.Steps.{turn-none, turn-short, turn-done}
use Rattle.queue_slots.proofs.Slots.{choice-is, state-then-answer}
use Rattle.queue_slots.proofs.serve.Goals as goal

-- what the tables and the names answer
abbrev answers : List ℕ → List ℕ → List ℕ → List ℕ → List ℕ → List ℕ → List ℕ → ℕ → ℕ → ℕ → Answer
answers s e r l p t ns = answer_of (with_names (tables s e r l p t) ns)

pub returns-then-slots-ne8 : goal.returns-then-slots-ne8
returns-then-slots-ne8 c =
    turn-short (answers c.args.system.now c.args.entries.now c.args.rulesets.now c.args.layers.now c.args.pool.now c.args.threads.now c.args.names.now) c.args.slots.now c.args.q.now.cursor
    c.if-slots-ne8.true

pub returns-then-k-gt7 : goal.returns-then-k-gt7
returns-then-k-gt7 c =
    turn-none (answers c.args.system.now c.args.entries.now c.args.rulesets.now c.args.layers.now c.args.pool.now c.args.threads.now c.args.names.now) c.args.slots.now c.args.q.now.cursor
    (choice-is c.args.slots.now c.args.q.now.cursor c.if-slots-ne8.false c.pick-k.ensures) c.if-k-gt7.true

pub returns-else-k-gt7 : goal.returns-else-k-gt7
returns-else-k-gt7 c =
    rw (state-then-answer c.args.slots.now c.pick-k.result c.ask-answer.result)
    (turn-done (answers c.args.system.now c.args.entries.now c.args.rulesets.now c.args.layers.now c.args.pool.now c.args.threads.now c.args.names.now) c.args.slots.now c.args.q.now.cursor
    (choice-is c.args.slots.now c.args.q.now.cursor c.if-slots-ne8.false c.pick-k.ensures) (omega arith) c.ask-answer.ensures)

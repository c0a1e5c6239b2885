use native.Mathlib.Omega.{arith}
use borrow.Author.Rules.{rules}
use Rattle.log_changes.proofs.Trying.{refused, create-fits, numbered, create-made}
use Rattle.log_changes.proofs.try_create.Goals as goal

pub returns-then-create_refusal-ne0 : goal.returns-then-create_refusal-ne0
returns-then-create_refusal-ne0 c =
    refused _ _ c.create_refusal.ensures c.if-create_refusal-ne0.true

pub put_name-requires : goal.put_name-requires
put_name-requires c =
    create-fits _ _ _ _ _ _ c.create_refusal.ensures c.if-create_refusal-ne0.false

pub overflow_add-next : goal.overflow_add-next
overflow_add-next c =
    omega (arith, numbered _ _ _ _ _ _ c.create_refusal.ensures c.if-create_refusal-ne0.false)

pub returns : goal.returns
returns c =
    create-made _ _ _ _ _ _ c.create_refusal.ensures c.if-create_refusal-ne0.false c.free_entry-e.ensures c.put_entry.ensures c.put_name.ensures

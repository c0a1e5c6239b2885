use native.Mathlib.Omega.{arith}
use borrow.Author.Rules.{rules}
use Rattle.tree_log.specs.Changes.{value_of}
use Rattle.log_calls.specs.Logs.{Narrow}
use Rattle.log_append.proofs.Fields.{remove-field, fit_room}
use Rattle.log_append.proofs.append_remove.Goals as goal

pub append_field-requires : goal.append_field-requires
unfolding Narrow value_of
append_field-requires c =
    let p = c.requires in let r = fit_room p in let s = p.short in (omega arith, omega arith)

pub returns : goal.returns
unfolding Narrow value_of
returns c =
    let a = c.args in
    remove-field _ a.e c.requires.numbers c.append_field.ensures

use native.Mathlib.Omega.{arith}
use borrow.Author.Rules.{rules}
use Rattle.tree_log.specs.Changes.{value_of}
use Rattle.log_calls.specs.Logs.{Narrow}
use Rattle.log_append.proofs.Fields.{link-field, fit_room}
use Rattle.log_append.proofs.append_link.Goals as goal

pub overflow_mul-d : goal.overflow_mul-d
unfolding Narrow value_of
overflow_mul-d c =
    let n = c.requires.numbers.1 in omega arith

pub overflow_add-s : goal.overflow_add-s
unfolding Narrow value_of
overflow_add-s c =
    let m = c.requires.numbers.0 in let n = c.requires.numbers.1 in omega arith

pub append_field-requires : goal.append_field-requires
unfolding Narrow value_of
append_field-requires c =
    let p = c.requires in let r = fit_room p in let s = p.short in (omega arith, omega arith)

pub returns : goal.returns
unfolding Narrow value_of
returns c =
    let a = c.args in
    link-field _ a.s a.d a.name.now c.requires.numbers.0 c.requires.numbers.1 c.append_field.ensures

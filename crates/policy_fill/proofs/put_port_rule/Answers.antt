use mathlib.Core.Path.{◌≡◌, refl, sym, ap, ◌∙◌}
use native.Mathlib.Omega.{arith}
use borrow.Author.Rules.{rules}
use Rattle.policy_size.proofs.Fields.{port-length}
use Rattle.policy_fill.proofs.Parts.{put_port_field}
use Rattle.policy_fill.proofs.put_port_rule.Goals as goal

pub put_rights-requires : goal.put_rights-requires
put_rights-requires c =
    let r = c.requires in (omega arith, omega arith)

pub overflow_add-at : goal.overflow_add-at
overflow_add-at c =
    let r = c.requires in omega arith

pub overflow_add-at-2 : goal.overflow_add-at-2
overflow_add-at-2 c =
    let r = c.requires in omega arith

pub put_number-requires : goal.put_number-requires
put_number-requires c =
    let r = c.requires in omega arith

pub overflow_add-result : goal.overflow_add-result
overflow_add-result c =
    let r = c.requires in omega arith

pub overflow_add-result-2 : goal.overflow_add-result-2
overflow_add-result-2 c =
    let r = c.requires in omega arith

pub returns : goal.returns
returns c =
    let a = c.args in
    let n = port-length a.rules.now a.i in
    (put_port_field a.rules.now a.i a.out.now a.at c.rule_rights.ensures c.rule_key.ensures c.put_rights.ensures c.put_number.ensures (omega arith), omega arith)

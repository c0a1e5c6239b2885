use mathlib.Core.Path.{◌≡◌, refl, sym, ap, ◌∙◌}
use native.Mathlib.Omega.{arith}
use borrow.Author.Rules.{rules}
use Rattle.policy_size.proofs.Fields.{path-length}
use Rattle.policy_fill.proofs.Parts.{put_path_field}
use Rattle.policy_fill.proofs.put_path_rule.Goals as goal

pub offset_bounds-picks-i : goal.offset_bounds-picks-i
offset_bounds-picks-i c =
    let h = c.requires.0 in omega arith

pub bounds-picks-i : goal.bounds-picks-i
bounds-picks-i c =
    c.requires.0

pub overflow_add-len : goal.overflow_add-len
overflow_add-len c =
    let h = c.requires.1 in let p = c.path_length-len.ensures in omega arith

pub put_rights-requires : goal.put_rights-requires
put_rights-requires c =
    let a = c.args in
    let h = c.requires.1 in
    let r = c.requires.2 in
    let n = path-length a.entries.now a.names.now a.rules.now a.picks.now a.i in
    let p = c.path_length-len.ensures in
    (omega arith, omega arith)

pub overflow_add-end : goal.overflow_add-end
overflow_add-end c =
    let a = c.args in let r = c.requires.2 in let n = path-length a.entries.now a.names.now a.rules.now a.picks.now a.i in omega arith

pub overflow_add-end-2 : goal.overflow_add-end-2
overflow_add-end-2 c =
    let a = c.args in let r = c.requires.2 in let n = path-length a.entries.now a.names.now a.rules.now a.picks.now a.i in let p = c.path_length-len.ensures in omega arith

pub put_path-requires : goal.put_path-requires
put_path-requires c =
    let a = c.args in
    let r = c.requires.2 in
    let n = path-length a.entries.now a.names.now a.rules.now a.picks.now a.i in
    let p = c.path_length-len.ensures in
    (omega arith, omega arith)

pub returns : goal.returns
returns c =
    let a = c.args in
    let n = path-length a.entries.now a.names.now a.rules.now a.picks.now a.i in
    let p = c.path_length-len.ensures in
    (put_path_field a.entries.now a.names.now a.rules.now a.picks.now a.i a.out.now a.at (omega arith) c.rule_rights.ensures c.put_rights.ensures c.put_path.ensures (omega arith), omega arith)

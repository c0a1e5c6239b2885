use native.Mathlib.Omega.{arith}
use borrow.Author.Rules.{rules}
use Rattle.policy_size.proofs.file_size.Goals as goal

pub paths_size-n-requires : goal.paths_size-n-requires
paths_size-n-requires c =
    c.requires.0

pub overflow_add-result : goal.overflow_add-result
overflow_add-result c =
    let s = c.requires in let w = s.0.few in let x = s.1 in let y = s.2 in let p = c.paths_size-n.ensures in let u = p.0 in let v = p.1 in omega arith

pub overflow_add-result-2 : goal.overflow_add-result-2
overflow_add-result-2 c =
    let s = c.requires in let w = s.0.few in let x = s.1 in let y = s.2 in let p = c.paths_size-n.ensures in let u = p.0 in let v = p.1 in omega arith

pub overflow_add-result-3 : goal.overflow_add-result-3
overflow_add-result-3 c =
    let s = c.requires in let w = s.0.few in let x = s.1 in let y = s.2 in let p = c.paths_size-n.ensures in let u = p.0 in let v = p.1 in omega arith

pub overflow_mul-result : goal.overflow_mul-result
overflow_mul-result c =
    let s = c.requires in let w = s.0.few in let x = s.1 in let y = s.2 in let p = c.paths_size-n.ensures in let u = p.0 in let v = p.1 in omega arith

pub overflow_add-result-4 : goal.overflow_add-result-4
overflow_add-result-4 c =
    let s = c.requires in let w = s.0.few in let x = s.1 in let y = s.2 in let p = c.paths_size-n.ensures in let u = p.0 in let v = p.1 in omega arith

pub overflow_add-result-5 : goal.overflow_add-result-5
overflow_add-result-5 c =
    let s = c.requires in let w = s.0.few in let x = s.1 in let y = s.2 in let p = c.paths_size-n.ensures in let u = p.0 in let v = p.1 in omega arith

pub overflow_add-result-6 : goal.overflow_add-result-6
overflow_add-result-6 c =
    let s = c.requires in let w = s.0.few in let x = s.1 in let y = s.2 in let p = c.paths_size-n.ensures in let u = p.0 in let v = p.1 in omega arith

pub returns : goal.returns
returns c =
    let s = c.requires in let w = s.0.few in let x = s.1 in let y = s.2 in let p = c.paths_size-n.ensures in let u = p.0 in let v = p.1 in omega arith

use mathlib.Core.Path.{sym, ap, ◌∙◌}
use mathlib.Core.List.{List}
use Prim.Native.Nat.{ℕ, ◌-◌}
use native.Mathlib.Omega.{arith}
use borrow.Author.Rules.{rules}
use lib.ListN.{length}
use lib.Seq.{sets}
use Rattle.policy_paths.proofs.Lengths.{path_root, path_up_lem}
use Rattle.policy_paths.proofs.put_path.Goals as goal

pub overflow_sub-out : goal.overflow_sub-out
overflow_sub-out c =
    let a = c.args in let r = ap length (path_root a.entries.now a.names.now a.e c.if-e-eq0.true) in let p = c.requires.0 in omega arith

pub bounds-out-end : goal.bounds-out-end
bounds-out-end c =
    let a = c.args in let r = ap length (path_root a.entries.now a.names.now a.e c.if-e-eq0.true) in let p = c.requires.0 in let q = c.requires.1 in omega arith

pub returns-then-e-eq0 : goal.returns-then-e-eq0
returns-then-e-eq0 c =
    let a = c.args in sym (ap (λ (p : List ℕ). sets a.out.now (a.end - length p) p) (path_root a.entries.now a.names.now a.e c.if-e-eq0.true))

pub put_up-requires : goal.put_up-requires
put_up-requires c =
    let a = c.args in let r = ap length (path_up_lem a.entries.now a.names.now a.e c.if-e-eq0.false) in let p = c.requires.0 in (omega arith, c.requires.1)

pub returns : goal.returns
returns c =
    let a = c.args in
    c.put_up.ensures ∙ sym (ap (λ (p : List ℕ). sets a.out.now (a.end - length p) p) (path_up_lem a.entries.now a.names.now a.e c.if-e-eq0.false))

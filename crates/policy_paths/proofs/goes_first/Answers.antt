use mathlib.Core.Path.{◌∙◌}
use Prim.Native.Nat.{◌<◌}
use native.Mathlib.Omega.{arith}
use borrow.Author.Rules.{rules}
use Rattle.access.specs.Limits.{max_entries}
use Rattle.policy_paths.proofs.Choosing.{first-none, first_by}
use Rattle.policy_paths.proofs.goes_first.Goals as goal

pub returns-then-c : goal.returns-then-c
returns-then-c c =
    let a = c.args in first-none a.entries.now a.names.now a.e a.c c.if-c.true

pub returns : goal.returns
returns c =
    let a = c.args in
    let l = c.if-c.false in
    let m : a.c < max_entries = omega arith in
    c.path_ordered.ensures ∙ first_by a.entries.now a.names.now c.requires.0 a.e a.c m c.requires.1 (c.requires.2 m)

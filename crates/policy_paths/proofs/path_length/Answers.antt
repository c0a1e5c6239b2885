use mathlib.Core.Path.{sym, ap, ◌∙◌}
use borrow.Author.Rules.{rules}
use lib.ListN.{length}
use Rattle.policy_paths.proofs.Lengths.{path_root, path_up_lem}
use Rattle.policy_paths.proofs.path_length.Goals as goal

pub returns-then-e-eq0 : goal.returns-then-e-eq0
returns-then-e-eq0 c =
    let a = c.args in sym (ap length (path_root a.entries.now a.names.now a.e c.if-e-eq0.true))

pub returns : goal.returns
returns c =
    let a = c.args in c.length_up.ensures ∙ sym (ap length (path_up_lem a.entries.now a.names.now a.e c.if-e-eq0.false))

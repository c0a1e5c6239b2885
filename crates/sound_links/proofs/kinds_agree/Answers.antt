use mathlib.Core.Path.{◌∙◌}
use borrow.Author.Tests.{ne_eqb}
use Rattle.laws.proofs.Conditions.{all-is, conditions}
use Rattle.laws.proofs.Tests.{all_of_no}
use Rattle.sound_tree.specs.Fast.{kinds_agree}
use Rattle.sound_links.proofs.kinds_agree.Goals as goal

pub returns-then-k-l : goal.returns-then-k-l
unfolding kinds_agree
returns-then-k-l c =
    all-is (search conditions depth 16)

pub returns-else-k-l : goal.returns-else-k-l
unfolding kinds_agree
returns-else-k-l c =
    let n = ne_eqb c.args.k c.args.l c.if-k-l.false in n ∙ all_of_no _ 0 n

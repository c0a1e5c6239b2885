use mathlib.Core.Path.{ap, ◌∙◌}
use mathlib.Core.List.{List}
use Prim.Native.Nat.{ℕ}
use borrow.Author.Rules.{rules}
use lib.ListN.{set}
use Rattle.tables.proofs.Outcomes.{same_tables}
use Rattle.tables.specs.Fresh.{filled}
use Rattle.fresh.proofs.fill.Goals as goal

pub returns : goal.returns
unfolding filled
returns c =
    same_tables
    (c.write.ensures ∙ ap (λ (x : List ℕ). set x 1 1) c.clear_but_first.ensures)
    c.clear_but_first-2.ensures
    c.clear.ensures
    c.clear-2.ensures
    c.clear-3.ensures
    c.clear_but_first-3.ensures

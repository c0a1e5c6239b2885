use mathlib.Core.Path.{sym, ◌∙◌}
use borrow.Author.Rules.{rules}
use Rattle.tree.specs.Exchange.{swapped}
use Rattle.tree_exchange.proofs.apply_exchange.Goals as goal

pub returns-then-same_object : goal.returns-then-same_object
unfolding swapped
returns-then-same_object c =
    rw (sym c.same_object.ensures ∙ c.if-same_object.true)

pub returns : goal.returns
unfolding swapped
returns c =
    rw (sym c.same_object.ensures ∙ c.if-same_object.false, c.put_parent-2.ensures, c.put_parent.ensures, c.parent_of-source.ensures)

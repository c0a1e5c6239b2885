use mathlib.Core.Path.{refl, sym, ◌∙◌}
use borrow.Author.Rules.{rules}
use Rattle.named.specs.Tree.{swapped_names}
use Rattle.named_names.proofs.put_swapped.Goals as goal

pub returns-then-same_object : goal.returns-then-same_object
unfolding swapped_names
returns-then-same_object c =
    rw (sym c.same_object.ensures ∙ c.if-same_object.true) refl

pub returns : goal.returns
unfolding swapped_names
returns c =
    rw (sym c.same_object.ensures ∙ c.if-same_object.false) c.swap_names.ensures

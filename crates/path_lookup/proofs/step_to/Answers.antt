use mathlib.Core.Path.{sym, ◌∙◌}
use borrow.Author.Rules.{rules}
use Rattle.names.specs.Paths.{step_to}
use Rattle.path_lookup.proofs.step_to.Goals as goal

pub returns-then-is_dot : goal.returns-then-is_dot
unfolding step_to
returns-then-is_dot c =
    rw (sym c.is_dot.ensures ∙ c.if-is_dot.true)

pub returns-then-is_dot_dot : goal.returns-then-is_dot_dot
unfolding step_to
returns-then-is_dot_dot c =
    rw (sym c.is_dot.ensures ∙ c.if-is_dot.false, sym c.is_dot_dot.ensures ∙ c.if-is_dot_dot.true) c.up.ensures

pub returns : goal.returns
unfolding step_to
returns c =
    rw (sym c.is_dot.ensures ∙ c.if-is_dot.false, sym c.is_dot_dot.ensures ∙ c.if-is_dot_dot.false) c.bearer.ensures

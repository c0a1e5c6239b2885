use mathlib.Core.Path.{refl, sym, ap, ◌∙◌}
use Prim.Native.Nat.{ℕ}
use borrow.Author.Tests.{not-true, not-false}
use Rattle.access.specs.Rights.{within}
use Rattle.task.specs.Task.{escapes}
use Rattle.task.proofs.leaves.Goals as goal

pub returns-then-not-contains : goal.returns-then-not-contains
unfolding escapes
returns-then-not-contains c =
    rw (← c.layer_scope.ensures, sym c.contains.ensures ∙ c.if-not-contains.true) refl

pub returns : goal.returns
unfolding escapes
returns c =
    rw (← c.layer_scope.ensures, sym c.contains.ensures ∙ c.if-not-contains.false, c.in_domain.ensures) refl

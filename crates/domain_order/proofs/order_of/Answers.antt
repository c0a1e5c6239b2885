use mathlib.Core.Path.{refl}
use borrow.Author.Rules.{rules}
use Rattle.domain_order.specs.Order.{order_of}
use Rattle.domain_order.proofs.order_of.Goals as goal

pub returns : goal.returns
unfolding order_of
returns c = search rules

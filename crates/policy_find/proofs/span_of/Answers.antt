use borrow.Author.Rules.{rules}
use Rattle.policy.specs.Find.{span_of}
use Rattle.policy_find.proofs.span_of.Goals as goal

pub returns : goal.returns
unfolding span_of
returns c =
    rw c.next_ruleset.ensures

use borrow.Author.Rules.{rules}
use Rattle.policy_paths.proofs.Choosing.{entry-is, entry_not}
use Rattle.policy_paths.proofs.is_entry_of.Goals as goal

pub returns-then-entry_live : goal.returns-then-entry_live
returns-then-entry_live c =
    let a = c.args in entry-is a.entries.now a.o a.e c.entry_live.ensures c.if-entry_live.true c.object_of.ensures

pub returns : goal.returns
returns c =
    let a = c.args in entry_not a.entries.now a.o a.e c.entry_live.ensures c.if-entry_live.false

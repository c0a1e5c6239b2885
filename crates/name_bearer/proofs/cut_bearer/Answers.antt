use borrow.Author.Rules.{rules}
use borrow.Author.Tests.{lt-ltb, le-ltb}
use Rattle.access.specs.Limits.{max_entries}
use Rattle.name_bearer.proofs.Bearing.{bears-here, bears_elsewhere}
use Rattle.name_bearer.proofs.cut_bearer.Goals as goal

pub returns-then-x-ge-MAX_ENTRIES : goal.returns-then-x-ge-MAX_ENTRIES
returns-then-x-ge-MAX_ENTRIES c =
    rw (le-ltb _ max_entries c.if-x-ge-MAX_ENTRIES.true)

pub returns-then-parent_of-d : goal.returns-then-parent_of-d
returns-then-parent_of-d c =
    let a = c.args in
    rw (lt-ltb a.x max_entries c.if-x-ge-MAX_ENTRIES.false, bears_elsewhere a.entries.now a.names.now a.d a.name.now a.x c.parent_of.ensures c.if-parent_of-d.true)

pub returns-then-is_named_so : goal.returns-then-is_named_so
returns-then-is_named_so c =
    let a = c.args in
    rw (
      lt-ltb a.x max_entries c.if-x-ge-MAX_ENTRIES.false,
      bears-here a.entries.now a.names.now a.d a.name.now a.x c.parent_of.ensures c.if-parent_of-d.false c.is_named_so.ensures c.if-is_named_so.true,
    )

pub returns : goal.returns
returns c =
    let a = c.args in
    rw (
      lt-ltb a.x max_entries c.if-x-ge-MAX_ENTRIES.false,
      bears-here a.entries.now a.names.now a.d a.name.now a.x c.parent_of.ensures c.if-parent_of-d.false c.is_named_so.ensures c.if-is_named_so.false,
    )

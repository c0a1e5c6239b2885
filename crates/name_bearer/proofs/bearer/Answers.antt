use native.Mathlib.Omega.{arith}
use borrow.Author.Rules.{rules}
use borrow.Author.Tests.{lt-ltb, le-ltb}
use Rattle.access.specs.Limits.{max_entries}
use Rattle.names.specs.Names.{taken, bearer}
use Rattle.name_bearer.proofs.bearer.Goals as goal

pub returns-then-x-lt-MAX_ENTRIES : goal.returns-then-x-lt-MAX_ENTRIES
unfolding taken bearer
returns-then-x-lt-MAX_ENTRIES c =
    rw (← c.bearer_from-x.ensures, lt-ltb c.bearer_from-x.result max_entries (omega arith))

pub returns : goal.returns
unfolding taken bearer
returns c =
    rw (← c.bearer_from-x.ensures, le-ltb c.bearer_from-x.result max_entries (omega arith))

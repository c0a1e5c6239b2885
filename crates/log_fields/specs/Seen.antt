-- What the code answers of a value, as the definition's.
use Rattle.std.specs.Prelude.{List, ℕ, drop}
use Rattle.tree_log.specs.Changes.{Read, Listed, create, remove, link, rename, exchange}
use Rattle.tree_log.specs.Changes as log
use Rattle.log_fields.specs.declared.Seen.{Seen}
use Rattle.log_fields.specs.declared.Seen.TheVariants.{Create, Remove, Link, Rename, Exchange, Unlisted}

-- a name is the value's rest
unfoldable pub change_of : Seen → List ℕ → Read
change_of (Create k d) v = Listed (create k d (drop 3 v))
change_of (Remove e) v = Listed (remove e)
change_of (Link s d) v = Listed (link s d (drop 4 v))
change_of (Rename s d) v = Listed (rename s d (drop 4 v))
change_of (Exchange s d x) v = Listed (exchange s d x)
change_of Unlisted v = log.Unlisted

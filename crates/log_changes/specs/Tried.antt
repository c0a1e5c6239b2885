-- A change tried on a tree, as code tests it: the objects tell whether it would leave the tree as it is.
use Rattle.std.specs.Prelude.{Bool, true, false, cond, not, ◌&&◌, eqb}
use Rattle.laws.specs.Refusals.{first}
use Rattle.tree_log.specs.Changes.{Change, Read, Listed, Unlisted}
use Rattle.tree_log.specs.Tree.{Tree, tree_checks, changed, idle}

-- nothing refuses it, and it alters something
unfoldable pub accepted : Tree → Change → Bool
accepted S c = eqb (first (tree_checks S c)) 0 && not (idle S c)

-- whether it was made, and the tree after it
pub record Tried : Type 0 where
  pub made : Bool
  pub left : Tree

abbrev pub tried_as : Bool → Tree → Tried
tried_as b S = record { made = b; left = S }

unfoldable pub tried : Tree → Change → Tried
tried S c = let R = changed S c in cond (accepted S c) (tried_as true R) (tried_as false S)

-- a field, read
unfoldable pub tried_read : Read → Tree → Tried
tried_read (Listed c) S = tried S c
tried_read Unlisted S = tried_as false S

-- A name as it stands in the table.
use Rattle.std.specs.Prelude.{List, ℕ, replicate}
use Rattle.names.specs.Names.{name_width, put_name}

-- the row of a name: the one row of a table of its own
unfoldable pub own_row : List ℕ → List ℕ
own_row n = put_name (replicate name_width 0) 0 n

-- What the paths of entries rest on.
use Rattle.std.specs.Prelude.{◌≡◌, true, List, ℕ, ◌*◌, length}
use Rattle.access.specs.Limits.{max_entries}
use Rattle.tables.specs.Tables.{entry_width}
use Rattle.sound_tree.specs.Tree.{entries_sound}
use Rattle.names.specs.Names.{names_sound}

-- the entries are sound, with their names
pub record Rooted (es ns : List ℕ) : Type 0 where
  pub long : length es ≡ entry_width * max_entries
  pub next : ℕ
  pub entries : entries_sound es next ≡ true
  pub names : names_sound es ns ≡ true

-- Document 02, W9: the rows of the table of needs that calls read. An impossible row is zero, and no needs at all would be granted: that none is read
-- follows from the order of refusals.
use Rattle.std.specs.Prelude.{◌≡◌, Bool, true, List, ℕ}
use Rattle.laws.specs.Refusals.{first}
use Rattle.access.specs.declared.kinds.MaybeKind.{MaybeKind}
use Rattle.access.specs.declared.kinds.MaybeKind.TheVariants.{Known, None}
use Rattle.tables.specs.Tables.{Tables}
use Rattle.sound.specs.Sound.{sound}
use Rattle.fs.specs.NeedsTable.{possible}
use Rattle.fs.specs.declared.needs.Step.{Step}
use Rattle.fs.specs.declared.needs.Step.TheVariants.{Link, Rename, Exchange}
use Rattle.tree.specs.Moves.{kind_at}
use Rattle.tree.specs.Link.{link_shape}
use Rattle.tree.specs.Exchange.{exchange_names}

-- the row that a move reads, by the kinds as the cells have them, is a possible one; for a source without a kind none is read
unfoldable pub reads_possible : Step → MaybeKind → MaybeKind → Bool
reads_possible step (Known k1) k2 = possible step k1 k2
reads_possible step None k2 = true

-- where the verdict is asked, the checks before it having passed
pub record RowsPossible : Type 0 where
  -- "link of a directory" is EPERM, and a link has no target
  pub link : (T : Tables) (t s d : ℕ) → first (link_shape T t s d) ≡ 0 → reads_possible Link (kind_at T.entries s) None ≡ true
  -- every row of a rename is possible
  pub rename : (es : List ℕ) (s : ℕ) (k2 : MaybeKind) → reads_possible Rename (kind_at es s) k2 ≡ true
  -- unsound tables are EIO, and an exchanged entry that is not live ENOENT: it has a kind
  pub exchange : (T : Tables) (t s d x : ℕ) → sound T ≡ true → first (exchange_names T t s d x) ≡ 0 → reads_possible Exchange (kind_at T.entries s) (kind_at T.entries x) ≡ true

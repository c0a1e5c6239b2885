-- Document 02, W2, "Stop climbing early".
use Rattle.std.specs.Prelude.{◌≡◌, Bool, true, false, not, List, ℕ, ◌<◌, eqb}
use Rattle.laws.specs.Tests.{any}
use Rattle.access.specs.Limits.{max_entries}
use Rattle.access.specs.Rights.{meet}
use Rattle.tables.specs.Tables.{Tables}
use Rattle.tables.specs.Layers.{layer_at}
use Rattle.judge.specs.Judge.{handled}
use Rattle.judge.specs.Domain.{lacks}
use Rattle.judge.specs.Read.{left_after, entries_up, entries_read}

-- some layer of D still misses one of the rights m after the rules of k entries from e up
unfoldable pub misses_after : Tables → List ℕ → ℕ → ℕ → ℕ → Bool
misses_after T D e m k =
    any (λ l. let L = layer_at T.layers T.pool l in not (eqb (left_after T.entries L.rules k e (meet m (handled L))) 0)) D

-- for any tables, layers, entry and rights
pub record FewestRead (T : Tables) (D : List ℕ) (e m : ℕ) : Type 0 where
  -- granted: with so many entries none is missing
  pub enough : lacks T.entries T.layers T.pool D e m ≡ false → misses_after T D e m (entries_read T.entries T.layers T.pool D e m) ≡ false
  -- with fewer, some layer misses a right
  pub fewest : (k : ℕ) → k < entries_read T.entries T.layers T.pool D e m → misses_after T D e m k ≡ true
  -- denied: all, up to the root
  pub all : lacks T.entries T.layers T.pool D e m ≡ true → entries_read T.entries T.layers T.pool D e m ≡ entries_up T.entries max_entries e

abbrev pub EntriesRead : Type 0
EntriesRead = (T : Tables) (D : List ℕ) (e m : ℕ) → FewestRead T D e m

-- The rows of entries up to the last block that is not free.
use Rattle.std.specs.Prelude.{◌≡◌, cond, List, ℕ, zero, suc, ◌+◌, ◌*◌, ◌/◌, ◌≤◌, length, get_or}
use Rattle.laws.specs.Cells.{part, zeros}
use Rattle.access.specs.Limits.{max_entries}
use Rattle.tables.specs.Tables.{entry_width}

-- the rows that are tested at once
abbrev pub block_rows : ℕ
block_rows = 8

abbrev pub block_cells : ℕ
block_cells = entry_width * block_rows

abbrev pub blocks : ℕ
blocks = max_entries / block_rows

-- of the first n blocks, those up to the last that has a cell other than 0
unfoldable pub used_blocks : List ℕ → ℕ → ℕ
used_blocks es zero = 0
used_blocks es (suc n) = let r = used_blocks es n in cond (zeros (part es (block_cells * n) (block_cells * n + block_cells))) r (suc n)

-- the entries have their length, and their rows from `end` on are free
abbrev pub Ends : List ℕ → ℕ → Type 0
Ends es end = (length es ≡ entry_width * max_entries) × ((end ≤ max_entries) × ((i : ℕ) → entry_width * end ≤ i → get_or es i 0 ≡ 0))

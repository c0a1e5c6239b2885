-- Document 02, W9: "A batch's verdicts": each thread's layers, youngest first, in a row of cells.
use Rattle.std.specs.Prelude.{◌≡◌, List, [], ◌∷◌, ℕ, zero, suc, ◌+◌, ◌*◌, ◌≤◌, ◌<◌, length, get_or}
use Rattle.laws.specs.Cells.{cell, part}
use Rattle.access.specs.Limits.{max_domain, max_layers, max_threads}
use Rattle.tables.specs.Tables.{layer_width, youngest}
use Rattle.tables.specs.Layers.{layer_parent}
use Rattle.denied_rows.specs.Rows.{top_of}

-- from the layer that a cell names (its number + 1, or 0) a walk stays below the highest layer in use
pub record Walkable (ls : List ℕ) (y : ℕ) : Type 0 where
  pub long : length ls ≡ layer_width * max_layers
  pub starts : y ≤ top_of ls
  pub goes : (l : ℕ) → l < top_of ls → layer_parent ls l ≤ top_of ls

-- the parent of the layer that a cell names, as such a cell
unfoldable pub up_of : List ℕ → ℕ → ℕ
up_of ls zero = 0
up_of ls (suc l) = layer_parent ls l

-- the layer i steps above it
unfoldable pub up_by : List ℕ → ℕ → ℕ → ℕ
up_by ls y zero = y
up_by ls y (suc i) = up_of ls (up_by ls y i)

-- the first n cells of the row of thread t are the layers above y, from y on; other rows stay
pub record OrderTo (ls orders orders' : List ℕ) (t y n : ℕ) : Type 0 where
  pub size : length orders' ≡ length orders
  pub new : (i : ℕ) → i < n → cell orders' max_domain t i ≡ up_by ls y i
  pub others : (f i : ℕ) → (f ≡ t → ⊥) → i < max_domain → cell orders' max_domain f i ≡ cell orders max_domain f i

-- the rows of the first n threads are right
pub record OrdersTo (ls ts orders : List ℕ) (n : ℕ) : Type 0 where
  pub cells : length orders ≡ max_domain * max_threads
  pub right : (t i : ℕ) → t < n → i < max_domain → cell orders max_domain t i ≡ up_by ls (youngest ts t) i

-- the row of a thread
unfoldable pub order_of : List ℕ → ℕ → List ℕ
order_of orders t = part orders (max_domain * t) (max_domain * t + max_domain)

-- the layers that cells name, up to the first that names none: of n cells of a row, from i on
unfoldable pub list_from : ℕ → List ℕ → List ℕ
list_from zero D = []
list_from (suc l) D = l ∷ D

unfoldable pub listed : List ℕ → ℕ → ℕ → List ℕ
listed row i zero = []
listed row i (suc n) = list_from (get_or row i 0) (listed row (suc i) n)

-- a row by itself: its cells name layers in use or none
pub record OrderRight (row : List ℕ) : Type 0 where
  pub long : length row ≡ max_domain
  pub few : (i : ℕ) → i < max_domain → get_or row i 0 ≤ max_layers

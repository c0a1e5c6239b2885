-- Document 02, W9: "A batch's verdicts": what each layer denies each entry, computed once and kept.
use Rattle.std.specs.Prelude.{◌≡◌, true, cond, List, ℕ, zero, suc, ◌+◌, ◌*◌, ◌≤◌, ◌<◌, eqb, length, get_or}
use Rattle.laws.specs.Cells.{cell, part}
use Rattle.access.specs.Limits.{max_entries, max_layers}
use Rattle.access.specs.Rights.{without, all_fs}
use Rattle.tables.specs.Tables.{entry_width, parent, live}
use Rattle.tables.specs.Layers.{layer_fs, layer_in_use, layer_at}
use Rattle.judge.specs.Judge.{own_rights, handled_by, handled, denied}
use Rattle.sound_tree.specs.Tree.{reaches}
use Rattle.sound_tree.specs.Fast.{ParentsLive}

-- one more than the highest layer in use, of the first n; 0 if none is
unfoldable pub top_below : List ℕ → ℕ → ℕ
top_below ls zero = 0
top_below ls (suc n) = let r = top_below ls n in cond (layer_in_use ls n) (suc n) r

unfoldable pub top_of : List ℕ → ℕ
top_of ls = top_below ls max_layers

-- what sound tables tell of entries and layers, as the rows need it
pub record RowsReady (es ls ps : List ℕ) : Type 0 where
  -- "table lengths are right"
  pub long : length es ≡ entry_width * max_entries
  -- "each live parent is a live directory"
  pub parents : ParentsLive es
  -- "climbing ends at 0"
  pub ends : (e : ℕ) → live es e ≡ true → reaches es max_entries e ≡ true
  -- "bits asked for belong to the level"
  pub masks : (l : ℕ) → l < max_layers → handled (layer_at ls ps l) ≤ all_fs

-- the row of an entry is filled
abbrev pub Filled : List ℕ → ℕ → Type 0
Filled marks e = get_or marks e 0 ≡ 0 → ⊥

-- cell l of a filled row is what layer l denies the entry, for each layer up to the highest in use
pub record RowsKept (es ls ps rows marks : List ℕ) : Type 0 where
  pub cells : length rows ≡ max_layers * max_entries
  pub few : length marks ≡ max_entries
  pub right : (e l : ℕ) → Filled marks e → l < top_of ls → cell rows max_layers e l ≡ denied es (layer_at ls ps l) e

-- the row of e is filled, those that were filled are so still, and all are right
pub record RowAdded (es ls ps marks rows' marks' : List ℕ) (e : ℕ) : Type 0 where
  pub kept : RowsKept es ls ps rows' marks'
  pub filled : Filled marks' e
  pub still : (f : ℕ) → Filled marks f → Filled marks' f

-- what is denied above the entry, by the rows: the cell of its parent; for the root all that the layer handles
unfoldable pub above : List ℕ → List ℕ → List ℕ → ℕ → ℕ → ℕ
above es ls rows e l = cond (eqb e 0) (handled_by (layer_fs ls l)) (cell rows max_layers (parent es e) l)

-- the first n cells of the row of e are those above without the rights of the layer's own rule on the entry's object; all others stay
pub record RowTo (es ls ps rows rows' : List ℕ) (e n : ℕ) : Type 0 where
  pub size : length rows' ≡ length rows
  pub new : (l : ℕ) → l < n → cell rows' max_layers e l ≡ without (above es ls rows e l) (own_rights es (layer_at ls ps l).rules e)
  pub rest : (l : ℕ) → n ≤ l → cell rows' max_layers e l ≡ cell rows max_layers e l
  pub others : (f l : ℕ) → (f ≡ e → ⊥) → l < max_layers → cell rows' max_layers f l ≡ cell rows max_layers f l

-- the cells of the row of e
unfoldable pub row_of : List ℕ → ℕ → List ℕ
row_of rows e = part rows (max_layers * e) (max_layers * e + max_layers)

-- a row by itself: cell l is what layer l denies the entry
pub record RowRight (es ls ps row : List ℕ) (e : ℕ) : Type 0 where
  pub long : length row ≡ max_layers
  pub right : (l : ℕ) → l < top_of ls → get_or row l 0 ≡ denied es (layer_at ls ps l) e

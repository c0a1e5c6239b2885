-- Document 02, W9: a batch's verdicts, by rows that are kept from one request to the next.
use Rattle.std.specs.Prelude.{List, ℕ, get_or}
use Rattle.access.specs.Rights.{join, meet, without}
use Rattle.tables.specs.Tables.{path_rule}
use Rattle.tables.specs.Layers.{layer_at}
use Rattle.judge.specs.Rules.{rights_on}
use Rattle.fs.specs.declared.verdict.Move.{Move}
use Rattle.fs.specs.Against.{needs_against, crossed_against}

-- what layer l denies of the rights m, by a row
abbrev pub row_denied : List ℕ → ℕ → ℕ → ℕ
row_denied row m l = meet m (get_or row l 0)

-- what layer l holds against a move, by the rows of P1 and P2
abbrev pub rows_denied : List ℕ → List ℕ → Move → ℕ → ℕ
rows_denied row1 row2 m l = needs_against m (get_or row1 l 0) (get_or row2 l 0)

abbrev pub rows_crossed : List ℕ → List ℕ → List ℕ → List ℕ → Move → ℕ → ℕ
rows_crossed ls ps row1 row2 m l =
    crossed_against m (get_or row1 l 0) (get_or row2 l 0) (rights_on (layer_at ls ps l).rules path_rule m.object) (rights_on (layer_at ls ps l).rules path_rule m.other)

-- all that a layer could hold against a move if it had no rule on the moved objects: needs that it denies, and rights that it denies on one side
-- alone
unfoldable pub may_hold : Move → ℕ → ℕ → ℕ
may_hold m d1 d2 =
    join (join (meet d1 m.leave.0) (meet d2 m.enter.0)) (join (without (meet d1 m.rights.0) d2) (without (meet d2 m.back.0) d1))

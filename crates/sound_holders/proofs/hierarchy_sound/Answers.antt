use mathlib.Core.Path.{ap, ◌∙◌}
use mathlib.Core.List.{List}
use Prim.Native.Nat.{ℕ, ◌+◌, ◌≤◌}
use native.Mathlib.Omega.{arith}
use lib.ListN.{get_or, replicate}
use Rattle.laws.proofs.Cells.{get_or-zeros}
use Rattle.access.specs.Limits.{max_layers, max_threads}
use Rattle.tables.specs.Tables.{layer_width, thread_width}
use Rattle.sound_domains.specs.Counting.{count_rows}
use Rattle.sound_domains.proofs.Counting.{count-few, all_placed}
use Rattle.sound_holders.proofs.hierarchy_sound.Goals as goal

pub count_rows-requires : goal.count_rows-requires
count_rows-requires c =
    (omega arith, λ l. let z = get_or-zeros max_layers l in omega arith)

pub count_rows-requires-2 : goal.count_rows-requires-2
count_rows-requires-2 c = (
  omega arith,
  λ l.
      let a = c.args in
      let f = count-few (replicate max_layers 0) a.layers.now layer_width 0 0 (λ j. let z = get_or-zeros max_layers j in omega arith) max_layers l in
      let g : get_or c.count_rows.new.counts l 0 ≤ 0 + max_layers = rw c.count_rows.ensures f in
      omega arith,
)

pub returns : goal.returns
returns c =
    let a = c.args in
    all_placed a.layers.now a.threads.now
    (c.count_rows-2.ensures ∙ ap (λ (x : List ℕ). count_rows x a.threads.now thread_width 1 max_threads) c.count_rows.ensures)
    c.places_sound.ensures

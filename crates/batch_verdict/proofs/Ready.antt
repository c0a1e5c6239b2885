-- What the soundness test tells, as a batch needs it. Assumes nothing.
use mathlib.Core.Path.{◌≡◌, refl}
use mathlib.Core.Bool.{true}
use mathlib.Core.List.{List}
use Prim.Native.Nat.{ℕ, zero, suc, ◌+◌, ◌*◌, ◌≤◌, ◌<◌}
use native.Mathlib.Omega.{arith}
use lib.Dec.{ltb}
use lib.ListN.{replicate}
use borrow.Author.Tests.{ltb-true, ltb-false}
use Rattle.laws.proofs.Bools.{split}
use Rattle.laws.proofs.Cells.{past}
use Rattle.access.specs.Limits.{max_entries, max_layers, max_threads}
use Rattle.tables.specs.Tables.{Tables, thread_width, youngest, thread_live}
use Rattle.tables.specs.Layers.{layer_parent, layer_in_use}
use Rattle.sound.specs.Sound.{sound}
use Rattle.sound.proofs.Facts.{Sound, facts}
use Rattle.sound_domains.proofs.Hierarchy.{parent_in_use_lem, named_in_use}
use Rattle.denied_rows.specs.Rows.{top_of}
use Rattle.denied_rows.proofs.Kept.{top_few, top_past, rows_none}
use Rattle.denied_rows.proofs.Ready.{rows_ready}
use Rattle.domain_order.specs.Order.{Walkable, OrdersTo}
use Rattle.batch_verdict.specs.Batch.{BatchReady}

-- a cell that names a layer in use, or none
named-below : (ls : List ℕ) (y : ℕ) → y ≤ max_layers → ((l : ℕ) → l < max_layers → y ≡ suc l → layer_in_use ls l ≡ true) → y ≤ top_of ls
named-below ls zero b u = omega arith
named-below ls (suc l) b u = top_past ls l b (u l b refl)

module _ (T : Tables) (S : Sound T) where
  youngest-below : (t : ℕ) → youngest T.threads t ≤ top_of T.layers
  youngest-below t = split (ltb t max_threads)
      (λ q.
      let h = ltb-true t max_threads q in
      split (thread_live T.threads t)
      (λ p. named-below T.layers (youngest T.threads t) (S.threads.live t h p).in_use (λ l b e. named_in_use T.layers T.threads 0 S.hierarchy l b t h e))
      (λ p. let z = (S.threads.free t h p).no_layer in omega arith))
      (λ q.
      let g = ltb-false t max_threads q in
      let w = S.lengths.threads in
      let z = past T.threads (thread_width * t + 1) (omega arith) in
      omega arith)

  parent-below : (l : ℕ) → l < top_of T.layers → layer_parent T.layers l ≤ top_of T.layers
  parent-below l h =
      let b : l < max_layers = (let t = top_few T.layers in omega arith) in
      named-below T.layers (layer_parent T.layers l) (S.hierarchy.parents l b) (λ m k e. parent_in_use_lem T.layers T.threads 0 S.hierarchy m k l b e)

  walks : (t : ℕ) → Walkable T.layers (youngest T.threads t)
  walks t = record { long = S.lengths.layers; starts = youngest-below t; goes = parent-below }

-- the walks of a batch on sound tables
pub walks_ready : (T : Tables) → sound T ≡ true → (t : ℕ) → Walkable T.layers (youngest T.threads t)
walks_ready T h = walks T (facts T h)

-- it starts with no row filled
pub batch_ready : (T : Tables) → sound T ≡ true → {top : ℕ} {orders : List ℕ} → top ≡ top_of T.layers → OrdersTo T.layers T.threads orders max_threads
    → BatchReady T.entries T.layers T.pool T.threads orders top (replicate (max_layers * max_entries) 0) (replicate max_entries 0)
batch_ready T h q o =
    let S = facts T h in
    record { rows_ready = rows_ready T S; long = S.lengths.threads; walks = walks T S; ordered = o; highest = q; kept = rows_none T.entries T.layers T.pool }

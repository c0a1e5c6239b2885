-- What the soundness test tells, as the rows need it. Assumes nothing.
use mathlib.Core.Path.{◌≡◌}
use mathlib.Core.Bool.{true}
use mathlib.Core.List.{List}
use Prim.Native.Nat.{ℕ, ◌^◌, ◌≤◌, ◌<◌}
use native.Mathlib.Omega.{arith}
use lib.Bits.{and_le_l, or_lt}
use lib.Dec.{eqb, leb}
use borrow.Author.Tests.{eqb-true}
use Rattle.laws.proofs.Bools.{split}
use Rattle.access.specs.Limits.{max_layers}
use Rattle.access.specs.Rights.{meet, within, since, known_fs, all_fs, REFER, TRUNCATE, IOCTL_DEV}
use Rattle.access.specs.Kinds.{directory}
use Rattle.tables.specs.Tables.{Tables, kind, parent, live, is_dir, counter}
use Rattle.tables.specs.Layers.{layer_fs, layer_at, layer_in_use}
use Rattle.sound_tree.specs.Fast.{ParentsLive}
use Rattle.sound_tree.proofs.Facts.{Tree}
use Rattle.sound_rules.proofs.Facts.{masks}
use Rattle.sound.proofs.Facts.{Sound}
use Rattle.judge.specs.Judge.{handled_by, handled}
use Rattle.denied_rows.specs.Rows.{RowsReady}

-- ---- the rights of every level fit a cell
since-few : (n level m : ℕ) → m < 2 ^ 16 → since n level m < 2 ^ 16
since-few n level m h = split (leb n level) (λ q. rw q h) (λ q. rw q (omega arith))

known-few : (level : ℕ) → known_fs level < 2 ^ 16
unfolding known_fs
known-few level =
    or_lt 16 _ _ (since-few 1 level 8191 (omega arith))
    (or_lt 16 _ _ (since-few 2 level REFER (omega arith)) (or_lt 16 _ _ (since-few 3 level TRUNCATE (omega arith)) (since-few 5 level IOCTL_DEV (omega arith))))

handled-few : (fs : ℕ) → fs < 2 ^ 16 → handled_by fs ≤ all_fs
handled-few fs h = split (eqb fs 0) (λ q. rw q (omega arith)) (λ q. rw q (let k = or_lt 16 fs REFER h (omega arith) in omega arith))

within-few : (fs level : ℕ) → within fs (known_fs level) ≡ true → fs < 2 ^ 16
within-few fs level h =
    let e = eqb-true (meet (known_fs level) fs) fs h in
    let l = and_le_l (known_fs level) fs in
    let k = known-few level in
    omega arith

-- ---- the tables
parents-live : (es : List ℕ) (next : ℕ) → Tree es next → ParentsLive es
unfolding live is_dir
parents-live es next Z e l =
    let k : live es (parent es e) ≡ true = rw (eqb-true (kind es (parent es e)) directory (Z.in_dir e l)) in
    (Z.small (parent es e) k, k)

layer-few : (T : Tables) → Sound T → (l : ℕ) → l < max_layers → handled (layer_at T.layers T.pool l) ≤ all_fs
unfolding handled layer_at
layer-few T S l h = handled-few (layer_fs T.layers l)
    (split (layer_in_use T.layers l)
    (λ q. within-few _ _ (masks _ _ _ _ (S.layers.each l h q).known).fs-known)
    (λ q. let z = S.layers.free l h q 1 (omega arith) in omega arith))

pub rows_ready : (T : Tables) → Sound T → RowsReady T.entries T.layers T.pool
rows_ready T S = record {
  long = S.lengths.entries;
  parents = parents-live T.entries (counter T.system) S.tree;
  ends = S.tree.tops;
  masks = layer-few T S;
}

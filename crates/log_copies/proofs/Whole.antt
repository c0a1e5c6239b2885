-- The lengths of a tree, and a replay on copies of it. Assumes nothing.
use mathlib.Core.Path.{◌≡◌, ap}
use mathlib.Core.List.{List}
use Prim.Native.Nat.{ℕ, ◌*◌}
use lib.ListN.{length}
use Rattle.access.specs.Limits.{max_entries}
use Rattle.tables.specs.Tables.{entry_width}
use Rattle.sound.proofs.Facts.{facts}
use Rattle.names.specs.Names.{name_width}
use Rattle.names.proofs.Facts.{names}
use Rattle.policy.specs.Fields.{pieces}
use Rattle.named.proofs.Made.{core-sound, names-sound}
use Rattle.tree_log.specs.Tree.{Tree, with_tree}
use Rattle.tree_log.specs.Replay.{replayed}
use Rattle.log_checks.specs.Checks.{tree_with}
use Rattle.log_replay.specs.declared.Replay.{Replay}
use Rattle.log_replay.specs.declared.Replay.TheVariants.{Applied, Faulty}
use Rattle.log_replay.specs.Replays.{SoundTree, replayed_as}
use Rattle.log_copies.specs.Whole.{leaves}

module _ (S : Tree) (K : SoundTree S) where
  pub entries-long : length S.entries ≡ entry_width * max_entries
  entries-long = (facts (with_tree K.around S).core (core-sound (with_tree K.around S) K.is-sound_lem)).lengths.entries

  pub names-long : length S.names ≡ name_width * max_entries
  names-long = (names S.entries S.names (names-sound (with_tree K.around S) K.is-sound_lem)).long

module _ (es ns : List ℕ) (v : ℕ) {es' ns' : List ℕ} (p : es' ≡ es) (q : ns' ≡ ns) where
  -- the copies are the tree
  pub starts : SoundTree (tree_with es ns v) → SoundTree (tree_with es' ns' v)
  starts K = rw (p, q) K

  module _ (bs : List ℕ) (o : Replay) (R : Tree) (k : replayed_as o R ≡ replayed (pieces bs) (tree_with es' ns' v)) where
    from_tree : replayed_as o R ≡ replayed (pieces bs) (tree_with es ns v)
    from_tree = rw (p, q) at k

    pub stopped : o ≡ Faulty
        → (replayed_as Faulty (tree_with es ns v) ≡ replayed (pieces bs) (tree_with es ns v)) × (tree_with es ns v ≡ leaves (tree_with es ns v) (replayed (pieces bs) (tree_with es ns v)))
    unfolding replayed_as leaves
    stopped e = let f = rw e at from_tree in (f, ap (leaves (tree_with es ns v)) f)

    pub finished : (n : ℕ) {es'' ns'' : List ℕ} → o ≡ Applied n → es'' ≡ R.entries → ns'' ≡ R.names
        → (replayed_as (Applied n) (tree_with es'' ns'' R.next) ≡ replayed (pieces bs) (tree_with es ns v))
        × (tree_with es'' ns'' R.next ≡ leaves (tree_with es ns v) (replayed (pieces bs) (tree_with es ns v)))
    unfolding replayed_as leaves
    finished n e a b = let f = rw e at from_tree in rw (a, b) (f, ap (leaves (tree_with es ns v)) f)

-- The tree that a replay starts from, and what its code answers, as the definition's.
use Rattle.std.specs.Prelude.{◌≡◌, true}
use Rattle.named.specs.Named.{Named, named_sound}
use Rattle.tree_log.specs.Tree.{Tree, with_tree}
use Rattle.tree_log.specs.Replay.{Replayed}
use Rattle.tree_log.specs.Replay as log
use Rattle.log_replay.specs.declared.Replay.{Replay}
use Rattle.log_replay.specs.declared.Replay.TheVariants.{Applied, Faulty}

-- some sound tables have it
pub record SoundTree (S : Tree) : Type 0 where
  pub around : Named
  pub is-sound_lem : named_sound (with_tree around S) ≡ true

-- the answer, with the tree that is left
unfoldable pub replayed_as : Replay → Tree → Replayed
replayed_as (Applied n) S = log.Applied S n
replayed_as Faulty S = log.Faulty

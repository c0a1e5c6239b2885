-- What a replay starts from, and what it answers and leaves. Assumes nothing.
use mathlib.Core.Path.{◌≡◌, refl, sym, ap, ◌∙◌}
use mathlib.Core.Bool.{true}
use mathlib.Core.List.{List, []}
use Prim.Native.Nat.{ℕ}
use lib.ListN.{set}
use Rattle.laws.specs.Refusals.{first}
use Rattle.access.specs.Errno.{EBADMSG}
use Rattle.access.specs.declared.errno.Reply.TheVariants.{Done}
use Rattle.tables.specs.Tables.{tables, counter}
use Rattle.policy.specs.Fields.{pieces}
use Rattle.named.specs.Named.{Named, with_names, named_sound, named_outcome, named_refused}
use Rattle.named.proofs.Made.{named-goes}
use Rattle.tree_log.specs.Tree.{Tree, tree_of}
use Rattle.tree_log.specs.Replay.{replayed, replay_outcome, replay_named}
use Rattle.tree_log.proofs.Trees.{tree-own}
use Rattle.log_checks.specs.Checks.{tree_with}
use Rattle.log_replay.specs.declared.Replay.{Replay}
use Rattle.log_replay.specs.declared.Replay.TheVariants.{Applied, Faulty}
use Rattle.log_replay.specs.Replays.{SoundTree, replayed_as}
use Rattle.log_copies.specs.Whole.{leaves}

module _ (N : Named) (h : named_sound N ≡ true) {v : ℕ} (r : v ≡ counter N.core.system) where
  pub starts : SoundTree (tree_with N.core.entries N.names v)
  starts = rw r (record { around = N; is-sound_lem = rw (tree-own N) h })

  module _ (bs : List ℕ) (o : Replay) (R : Tree) (k : replayed_as o R ≡ replayed (pieces bs) (tree_with N.core.entries N.names v)) where
    from_tree : replayed_as o R ≡ replayed (pieces bs) (tree_of N)
    from_tree = rw r at k

    ends : replay_outcome N (replayed_as o R) ≡ replay_named N bs
    unfolding replay_named first
    ends = ap (replay_outcome N) from_tree ∙ named-goes N [] (replay_outcome N (replayed (pieces bs) (tree_of N))) h refl refl

    pub bad_field : R ≡ leaves (tree_with N.core.entries N.names v) (replayed (pieces bs) (tree_with N.core.entries N.names v)) → o ≡ Faulty
        → named_refused EBADMSG (with_names (tables N.core.system R.entries N.core.rulesets N.core.layers N.core.pool N.core.threads) R.names) ≡ replay_named N bs
    unfolding replay_outcome replayed_as leaves
    bad_field l e =
        let stays : R ≡ tree_with N.core.entries N.names v = l ∙ ap (leaves _) (rw e at (sym k)) in
        rw stays (rw e at ends)

    pub applied : (n : ℕ) {sys : List ℕ} → o ≡ Applied n → sys ≡ set N.core.system 1 R.next
        → named_outcome (Done n) (with_names (tables sys R.entries N.core.rulesets N.core.layers N.core.pool N.core.threads) R.names) ≡ replay_named N bs
    unfolding replay_outcome replayed_as
    applied n e a = rw a (rw e at ends)

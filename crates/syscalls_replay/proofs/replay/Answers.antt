use mathlib.Core.Path.{◌≡◌, sym, ap, ◌∙◌}
use mathlib.Core.Bool.{true, not}
use Rattle.tables.specs.Tables.{tables}
use Rattle.named.specs.Named.{with_names, named_sound}
use Rattle.named.proofs.Replies.{named-unsound}
use Rattle.tree_log.specs.Replay.{replay_named}
use Rattle.syscalls_replay.proofs.Replays.{starts, bad_field, applied}
use Rattle.syscalls_replay.proofs.replay.Goals as goal

pub returns-then-not-named_sound : goal.returns-then-not-named_sound
unfolding replay_named
returns-then-not-named_sound c =
    named-unsound _ c.named_sound.ensures _ _ (ap not c.if-not-named_sound.true)

pub replay_tree-replayed-requires : goal.replay_tree-replayed-requires
replay_tree-replayed-requires c =
    let a = c.args in
    let N = with_names (tables a.system.now a.entries.now a.rulesets.now a.layers.now a.pool.now a.threads.now) a.names.now in
    let s : named_sound N ≡ true = sym c.named_sound.ensures ∙ c.if-not-named_sound.false in
    starts N s c.counter_of-next.ensures

pub returns-in_default : goal.returns-in_default
unfolding replay_named
returns-in_default c =
    let a = c.args in
    let N = with_names (tables a.system.now a.entries.now a.rulesets.now a.layers.now a.pool.now a.threads.now) a.names.now in
    let s : named_sound N ≡ true = sym c.named_sound.ensures ∙ c.if-not-named_sound.false in
    bad_field N s c.counter_of-next.ensures _ _ _ c.replay_tree-replayed.ensures.answer c.replay_tree-replayed.ensures.left c.in_default.is

pub returns : goal.returns
unfolding replay_named
returns c =
    let a = c.args in
    let N = with_names (tables a.system.now a.entries.now a.rulesets.now a.layers.now a.pool.now a.threads.now) a.names.now in
    let s : named_sound N ≡ true = sym c.named_sound.ensures ∙ c.if-not-named_sound.false in
    applied N s c.counter_of-next.ensures _ _ _ c.replay_tree-replayed.ensures.answer _ c.in-Applied.is c.write.ensures

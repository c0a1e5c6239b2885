use Rattle.sound_domains.proofs.Counting.{place_far, place_rest}
use Rattle.sound_holders.proofs.place_sound.Goals as goal

pub returns-then-layer_parent : goal.returns-then-layer_parent
returns-then-layer_parent c =
    place_far _ _ _ c.layer_parent.ensures c.if-layer_parent.true

pub returns : goal.returns
returns c =
    place_rest _ _ _ c.layer_parent.ensures c.if-layer_parent.false c.requires c.layer_holders.ensures c.read.ensures

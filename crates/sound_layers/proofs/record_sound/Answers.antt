use Rattle.sound_layers.proofs.Records.{record_free, record_used}
use Rattle.sound_layers.proofs.record_sound.Goals as goal

pub returns-then-layers-at-eq0 : goal.returns-then-layers-at-eq0
returns-then-layers-at-eq0 c =
    record_free _ _ _ _ _ _ _ c.if-layers-at-eq0.true c.all_zero.ensures

pub returns : goal.returns
returns c =
    record_used _ _ _ _ _ _ _ c.if-layers-at-eq0.false c.layer_sound.ensures

use mathlib.Core.Path.{refl}
use Rattle.std.proofs.Common.{rules, tests}
use Rattle.laws.proofs.Ranges.{all_told}
use Rattle.access.specs.Limits.{max_layers}
use Rattle.sound_layers.specs.Layers.{record_sound}
use Rattle.sound_layers.proofs.each_sound.Goals as goal

pub returns : goal.returns
returns c =
    let a = c.args in
    all_told (record_sound a.entries.now a.next a.level a.layers.now a.pool.now a.taken) max_layers refl c.all.ensures.ran (λ x b q k. search (rules, tests))

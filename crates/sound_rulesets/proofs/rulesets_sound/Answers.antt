use mathlib.Core.Path.{refl}
use Rattle.std.proofs.Common.{rules, tests}
use Rattle.laws.proofs.Ranges.{all_told}
use Rattle.access.specs.Limits.{max_rulesets}
use Rattle.sound_rulesets.specs.Rulesets.{ruleset_sound, rulesets_sound}
use Rattle.sound_rulesets.proofs.rulesets_sound.Goals as goal

pub returns : goal.returns
unfolding rulesets_sound
returns c =
    let a = c.args in
    all_told (ruleset_sound a.entries.now a.next a.level a.rulesets.now) max_rulesets refl c.all.ensures.ran (λ x b q k. search (rules, tests))

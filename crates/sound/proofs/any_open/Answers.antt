use mathlib.Core.Path.{refl}
use Rattle.std.proofs.Common.{rules, tests}
use Rattle.laws.proofs.Ranges.{any_told}
use Rattle.access.specs.Limits.{max_rulesets}
use Rattle.tables.specs.Layers.{is_open}
use Rattle.sound.specs.Sound.{any_open}
use Rattle.sound.proofs.any_open.Goals as goal

pub returns : goal.returns
unfolding any_open is_open
returns c =
    let rs = c.args.rulesets.now in
    any_told (is_open rs) max_rulesets refl c.any.ensures.ran (λ x b q k. search (rules, tests))

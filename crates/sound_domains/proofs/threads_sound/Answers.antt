use mathlib.Core.Path.{refl}
use Rattle.std.proofs.Common.{rules, tests}
use Rattle.laws.proofs.Ranges.{all_told}
use Rattle.access.specs.Limits.{max_threads}
use Rattle.sound_domains.specs.Domains.{thread_sound, threads_sound}
use Rattle.sound_domains.proofs.threads_sound.Goals as goal

pub returns : goal.returns
unfolding threads_sound
returns c =
    let a = c.args in
    all_told (thread_sound a.layers.now a.threads.now a.used) max_threads refl c.all.ensures.ran (λ x b q k. search (rules, tests))

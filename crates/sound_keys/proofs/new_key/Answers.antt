use mathlib.Core.Bool.{not}
use mathlib.Core.Path.{refl}
use native.Mathlib.Omega.{arith}
use Rattle.std.proofs.Common.{rules, tests}
use Rattle.laws.proofs.Ranges.{all_told}
use Rattle.sound_rules.specs.Rules.{same_key, new_key}
use Rattle.sound_rules.proofs.Flags.{key-is}
use Rattle.sound_keys.proofs.new_key.Goals as goal

pub returns : goal.returns
unfolding new_key
returns c =
    let a = c.args in
    let q = c.requires.1 in
    all_told (λ j. not (same_key a.rules.now a.i j)) a.i refl c.all.ensures.ran
    (λ j b f k. let e = key-is a.rules.now a.i j a.ty a.key q.0 q.1 in search (rules, tests))

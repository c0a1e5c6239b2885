use mathlib.Core.Path.{refl}
use Rattle.sound_rules.specs.Flags.{flag_of}
use Rattle.sound_keys.proofs.flag_of.Goals as goal

pub returns : goal.returns
unfolding flag_of
returns c = refl

-- The invariant: every rule below `i` is sound and has a new key, and its flag is set.
use mathlib.Core.Path.{◌≡◌}
use mathlib.Core.Bool.{true}
use lib.ListN.{length}
use Rattle.laws.specs.Tests.{all_below}
use Rattle.sound_rules.specs.Rules.{rule_sound, new_key}
use Rattle.sound_rules.specs.Flags.{Marked}
use Rattle.sound_keys.proofs.rules_sound.Given as goal

abbrev pub invariant-loop-i : goal.invariant-loop-i
invariant-loop-i l = (all_below (rule_sound l.entries l.next l.fs.0 l.net.0 l.rules) l.i ≡ true) × (all_below (new_key l.rules) l.i ≡ true) × (length l.seen ≡ 16) × Marked l.rules l.seen l.i

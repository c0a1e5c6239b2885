-- The invariant: every entry below `e` agrees with those before it, and the index has them.
use mathlib.Core.Path.{◌≡◌}
use mathlib.Core.Bool.{true}
use Rattle.laws.specs.Tests.{all_below}
use Rattle.sound_objects.specs.Objects.{IndexedBelow}
use Rattle.sound_tree.specs.Tree.{links_sound}
use Rattle.sound_links.proofs.objects_sound.Given as goal

abbrev pub invariant-loop-e : goal.invariant-loop-e
invariant-loop-e l = (all_below (links_sound l.entries) l.e ≡ true) × IndexedBelow l.entries l.heads l.links l.e

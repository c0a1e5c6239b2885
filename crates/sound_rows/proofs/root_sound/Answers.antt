use Rattle.laws.proofs.Conditions.{all-is, conditions}
use Rattle.sound_tree.specs.Tree.{root_sound}
use Rattle.sound_rows.proofs.root_sound.Goals as goal

pub returns-then-entries-ne-DIRECTORY : goal.returns-then-entries-ne-DIRECTORY
unfolding root_sound
returns-then-entries-ne-DIRECTORY c =
    all-is (search conditions depth 16)

pub returns-then-entries-ne0 : goal.returns-then-entries-ne0
unfolding root_sound
returns-then-entries-ne0 c =
    all-is (search conditions depth 16)

pub returns : goal.returns
unfolding root_sound
returns c =
    all-is (search conditions depth 16)

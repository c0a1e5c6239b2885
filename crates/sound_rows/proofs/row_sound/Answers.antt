use mathlib.Core.Path.{◌≡◌, sym, ◌∙◌}
use mathlib.Core.Bool.{true}
use native.Mathlib.Omega.{arith}
use borrow.Author.Tests.{eq-eqb, ne_eqb, lt-leb}
use Rattle.laws.proofs.Conditions.{all-is, conditions}
use Rattle.laws.proofs.Tests.{all_of_no}
use Rattle.access.specs.Kinds.{directory, last_kind}
use Rattle.sound_objects.proofs.Live.{first}
use Rattle.sound_tree.specs.Tree.{free_sound, parent_is_dir}
use Rattle.sound_tree.proofs.Rows.{dir_past, dir_cell, row_free, row_live}
use Rattle.sound_rows.proofs.row_sound.Goals as goal

pub returns-then-parent-ne0 : goal.returns-then-parent-ne0
unfolding free_sound
returns-then-parent-ne0 c =
    row_free _ _ _ c.if-kind-eq0.true (all_of_no _ 0 (ne_eqb _ 0 c.if-parent-ne0.true))

pub returns-then-kind-eq0 : goal.returns-then-kind-eq0
unfolding free_sound
returns-then-kind-eq0 c =
    row_free _ _ _ c.if-kind-eq0.true (all-is (search conditions depth 16))

pub returns-then-kind-gt-LAST_KIND : goal.returns-then-kind-gt-LAST_KIND
unfolding free_sound
returns-then-kind-gt-LAST_KIND c =
    let a = c.args in
    row_live _ _ _ c.if-kind-eq0.false (all_of_no _ 0 (lt-leb (first a.entries.now a.e) last_kind (omega arith)))

pub returns-then-parent-ge-MAX_ENTRIES : goal.returns-then-parent-ge-MAX_ENTRIES
unfolding free_sound
returns-then-parent-ge-MAX_ENTRIES c =
    row_live _ _ _ c.if-kind-eq0.false (all_of_no _ 1 (dir_past c.args.entries.now _ c.requires.0 (omega arith)))

pub returns-then-entries-parent-ne-DIRECTORY : goal.returns-then-entries-parent-ne-DIRECTORY
unfolding free_sound
returns-then-entries-parent-ne-DIRECTORY c =
    row_live _ _ _ c.if-kind-eq0.false (all_of_no _ 1 (sym (dir_cell _ _) ∙ ne_eqb _ directory c.if-entries-parent-ne-DIRECTORY.true))

pub returns : goal.returns
unfolding free_sound
returns c =
    let a = c.args in
    let d : parent_is_dir a.entries.now a.e ≡ true = sym (dir_cell _ _) ∙ eq-eqb _ directory c.if-entries-parent-ne-DIRECTORY.false in
    row_live _ _ _ c.if-kind-eq0.false (all-is (search conditions depth 16))

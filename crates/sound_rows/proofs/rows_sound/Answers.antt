use Prim.Native.Nat.{◌-◌}
use mathlib.Core.Path.{◌≡◌, refl, ◌∙◌}
use native.Mathlib.Omega.{arith}
use Rattle.std.proofs.Common.{rules, tests}
use Rattle.std.proofs.lemmas.Iterator.{YieldsList-from_range}
use Rattle.std.proofs.lemmas.Iterator.Search.{all_from_yields_List}
use Rattle.laws.proofs.Ranges.{all_range}
use Rattle.access.specs.Limits.{max_entries}
use Rattle.sound_tree.specs.Fast.{row_sound}
use Rattle.sound_tree.proofs.Rows.{row_past}
use Rattle.sound_rows.proofs.Ends.{ends_decide}
use Rattle.sound_rows.proofs.rows_sound.Goals as goal

pub returns : goal.returns
returns c =
    let a = c.args in
    let p = row_sound a.entries.now a.next in
    let whole : a.end - 0 ≡ a.end = omega arith in
    all_from_yields_List p _ _ _ c.all.ensures.ran (YieldsList-from_range 0 a.end a.end refl whole) (λ x b q k. search (rules, tests))
    ∙ all_range p a.end
    ∙ ends_decide p max_entries a.end (omega arith) (λ j k. row_past _ _ j c.requires k)

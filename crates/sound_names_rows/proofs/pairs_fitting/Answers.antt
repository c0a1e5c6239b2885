use mathlib.Core.Path.{◌≡◌, refl, ◌∙◌}
use Prim.Native.Nat.{suc, ◌≤◌, ◌-◌}
use native.Mathlib.Omega.{arith}
use native.Mathlib.Numerals.{add-one}
use lib.ListN.{get_or}
use Rattle.laws.specs.Tests.{all_below}
use Rattle.names.specs.Names.{max_name}
use Rattle.sound_names_rows.specs.Form.{fitting, fitting_pairs}
use Rattle.sound_names_rows.proofs.Tests.{all_start, all_with, all_end}
use Rattle.sound_names_rows.proofs.pairs_fitting.Goals as goal

pub loop-k-init : goal.loop-k-init
loop-k-init c =
    (omega arith, all_start _)

pub loop-k-preserved : goal.loop-k-preserved
loop-k-preserved c =
    let l = c.loop-k in
    (omega arith, all_with _ l.k l.invariant.1 (c.is_fitting-fine.ensures ∙ (rw (← add-one l.k) refl)))

pub returns : goal.returns
unfolding fitting_pairs
returns c =
    let l = c.loop-k in
    all_end (λ i. fitting (get_or c.args.row.now i 0) (get_or c.args.row.now (suc i) 0)) max_name l.k (omega arith) (omega arith) l.invariant.1

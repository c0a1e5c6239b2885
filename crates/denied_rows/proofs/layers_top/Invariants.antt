-- The invariant: no layer from `n` on is in use.
use mathlib.Core.Path.{◌≡◌, refl, sym, ◌∙◌}
use native.Mathlib.Omega.{arith}
use Rattle.denied_rows.specs.Rows.{top_below, top_of}
use Rattle.denied_rows.proofs.Kept.{top_found, top_down, top_none}
use Rattle.denied_rows.proofs.layers_top.Given as goal

abbrev pub invariant-loop-n : goal.invariant-loop-n
invariant-loop-n l = top_of l.layers ≡ top_below l.layers l.n

abbrev pub decreases-loop-n : goal.decreases-loop-n
decreases-loop-n l = l.n

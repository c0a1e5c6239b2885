-- The invariant: every layer below `l` is in use.
use Prim.Native.Nat.{◌≤◌, ◌-◌}
use mathlib.Core.Path.{◌≡◌, sym, ap, ◌∙◌}
use mathlib.Core.Bool.{false, not}
use native.Mathlib.Omega.{arith}
use Rattle.laws.specs.Tests.{any_below}
use Rattle.laws.proofs.Tests.{any-start, any_more, first_found, first-none}
use Rattle.access.specs.Limits.{max_layers}
use Rattle.tables.specs.Layers.{layer_in_use}
use Rattle.domain_restrict.specs.Restrict.{free_layer}
use Rattle.restrict_layer.proofs.free_layer.Given as goal

abbrev pub invariant-loop-l : goal.invariant-loop-l
invariant-loop-l l = (l.l ≤ max_layers) × (any_below (λ m. not (layer_in_use l.layers m)) l.l ≡ false)

abbrev pub decreases-loop-l : goal.decreases-loop-l
decreases-loop-l l = max_layers - l.l

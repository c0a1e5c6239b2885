-- The invariant: the layers behind and those ahead are all there are.
use mathlib.Core.Path.{◌≡◌}
use Prim.Native.Nat.{◌+◌, ◌-◌}
use Rattle.access.specs.Limits.{max_domain}
use Rattle.sound_domains.specs.Counting.{depth}
use Rattle.sound_holders.proofs.depth_of.Given as goal

abbrev pub invariant-loop-n : goal.invariant-loop-n
invariant-loop-n l = depth l.layers max_domain (l.l + 1) ≡ l.n + depth l.layers (max_domain - l.n) l.at

-- The invariant: what is still to do leaves what the whole leaves.
use mathlib.Core.Path.{◌≡◌, refl, ◌∙◌}
use Prim.Native.Nat.{◌≤◌}
use native.Mathlib.Omega.{arith}
use lib.ListN.{length}
use Rattle.access.specs.Limits.{max_domain}
use Rattle.tables.specs.Tables.{tables}
use Rattle.domain_end.specs.End.{put_layer}
use Rattle.domain_end.proofs.Loops.{put_none, put_end, put_held, put_last}
use Rattle.end_apply.proofs.put_layer.Given as goal

abbrev pub invariant-loop-n : goal.invariant-loop-n
invariant-loop-n l = (l.n ≤ max_domain) × (put_layer l.n (tables l.system l.entries l.rulesets l.layers l.pool l.threads) l.at ≡ put_layer max_domain (tables l.initial.system l.entries l.rulesets l.initial.layers l.initial.pool l.threads) l.y)
    × (length l.system ≡ length l.initial.system) × (length l.layers ≡ length l.initial.layers) × (length l.pool ≡ length l.initial.pool)

abbrev pub decreases-loop-n : goal.decreases-loop-n
decreases-loop-n l = l.n

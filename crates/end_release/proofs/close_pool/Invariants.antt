-- The invariant: the pool is closed up below `i`.
use mathlib.Core.Path.{◌≡◌, refl, ap, ◌∙◌}
use Prim.Native.Nat.{ℕ, ◌≤◌, ◌-◌, ◌+◌, ◌*◌, min}
use native.Mathlib.Omega.{arith}
use borrow.Author.Rules.{rules}
use lib.ListN.{length, drop, length-set}
use Rattle.laws.specs.Cells.{copied}
use Rattle.laws.proofs.Copies.{copied_none}
use Rattle.tables.specs.Tables.{rule_width}
use Rattle.domain_end.proofs.Loops.{close_more, close_all}
use Rattle.end_release.proofs.close_pool.Given as goal

abbrev pub invariant-loop-i : goal.invariant-loop-i
invariant-loop-i l = (l.low ≤ l.i) × (l.i ≤ length l.initial.pool) × (l.pool ≡ copied l.initial.pool l.low (drop (l.low + l.gap) l.initial.pool) (l.i - l.low)) × (length l.pool ≡ length l.initial.pool)
    × (l.low ≡ min (rule_width * l.first) (length l.initial.pool)) × (l.gap ≡ min (rule_width * l.count) (length l.initial.pool))

abbrev pub decreases-loop-i : goal.decreases-loop-i
decreases-loop-i l = length l.initial.pool - l.i

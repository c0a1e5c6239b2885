-- The invariant: the tables are sound, and the rules from here on, added to them, come to all rules, added to the first ones.
use mathlib.Core.Path.{◌≡◌, refl, sym, subst, ap, ◌∙◌}
use mathlib.Core.Bool.{true}
use Prim.Native.Nat.{ℕ, ◌-◌, ◌≤◌}
use native.Mathlib.Omega.{arith}
use borrow.Author.Rules.{rules}
use lib.ListN.{length}
use Rattle.laws.specs.Cells.{part}
use Rattle.tables.specs.Tables.{tables}
use Rattle.policy.proofs.Parts.{part-all}
use Rattle.policy_walk.specs.Flat.{flatten}
use Rattle.policy_walk.specs.Steps.{RuleAt, StepIs}
use Rattle.named.specs.Named.{Named, with_names, named_sound}
use Rattle.named.specs.Policy.{add_rules}
use Rattle.policy_rules_add.proofs.Steps.{goes_on, stops, all-added}
use Rattle.policy_rules_add.proofs.add_rules.Given as goal

abbrev pub invariant-loop-tag : goal.invariant-loop-tag
invariant-loop-tag l = (l.at ≤ l.end) × (length l.rulesets ≡ length l.initial.rulesets) × (named_sound (with_names (tables l.system l.entries l.rulesets l.layers l.pool l.threads) l.names) ≡ true)
    × (add_rules l.r (flatten l.level l.part) (with_names (tables l.system l.entries l.initial.rulesets l.layers l.pool l.threads) l.names) ≡ add_rules l.r (flatten l.level (part l.part l.at l.end)) (with_names (tables l.system l.entries l.rulesets l.layers l.pool l.threads) l.names))

abbrev pub decreases-loop-tag : goal.decreases-loop-tag
decreases-loop-tag l = l.end - l.at

-- the next rule

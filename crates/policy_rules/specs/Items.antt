-- What the readers of rules and groups tell of the part of a file from `at` to `end`.
use Rattle.std.specs.Prelude.{◌≡◌, cond, List, ℕ, ◌+◌, ◌-◌, ◌≤◌, ◌<◌}
use Rattle.laws.specs.Cells.{part}
use Rattle.policy.specs.Fields.{header, group_header, pieces, front}
use Rattle.policy.specs.Grammar.{each, rule, is_level}
use Rattle.policy.specs.declared.Read.{Read}
use Rattle.policy.specs.declared.Read.TheVariants.{Next, Fault}
use Rattle.policy_rules.specs.declared.Item.{Item}
use Rattle.policy_rules.specs.declared.Item.TheVariants.{Rule, Group, Bad}

-- what is read of the first field, where d more groups may nest
abbrev pub rule_at : List ℕ → ℕ → ℕ → ℕ → Read
rule_at f d at end = rule d at (front (pieces (part f at end)))

-- a group that ends at `next`, if its level is one
unfoldable pub group_at : List ℕ → ℕ → ℕ → Item
group_at f at next = cond (is_level (part f (at + header) next)) (Group (record { at = at + group_header; end = next })) Bad

-- the first field is a group whose fields are in the part from `from` to `to`
pub record GroupAt (f : List ℕ) (d at end from to : ℕ) : Type 0 where
  pub after : at < from
  pub ordered : from ≤ to
  pub inside : to ≤ end
  pub deep : 0 < d
  pub answer : rule_at f d at end ≡ each (rule (d - 1)) from (pieces (part f from to))

-- what the first field is
abbrev pub ItemIs : List ℕ → ℕ → ℕ → ℕ → Item → Type 0
ItemIs f d at end (Rule n) = rule_at f d at end ≡ Next n
ItemIs f d at end (Group s) = GroupAt f d at end s.at s.end
ItemIs f d at end Bad = rule_at f d at end ≡ Fault at

-- What writing the file of an open ruleset rests on.
use Rattle.std.specs.Prelude.{◌≡◌, List, ℕ, ◌≤◌, ◌<◌, length}
use Rattle.access.specs.Limits.{max_entries, max_rules}
use Rattle.tables.specs.Tables.{path_rule, port_rule}
use Rattle.sound_rules.specs.Rules.{rule_count}
use Rattle.policy.specs.Files.{max_ruleset_name}
use Rattle.policy_write.specs.Chosen.{chosen, chosen_path}
use Rattle.policy_paths.specs.Rooted.{Rooted}
use Rattle.policy_order.specs.Insert.{Apart}

-- sound tables and the form of the call tell this of its rules
pub record Ready (es ns name rules : List ℕ) : Type 0 where
  pub rooted : Rooted es ns
  pub few : rule_count rules ≤ max_rules
  pub objects-apart_lem : Apart (λ x. x) path_rule rules
  pub ports-apart_lem : Apart (λ x. x) port_rule rules
  -- no two objects have one path
  pub one_object : (a b : ℕ) → chosen es ns a < max_entries → chosen es ns b < max_entries → chosen_path es ns a ≡ chosen_path es ns b → a ≡ b
  pub name_short : length name ≤ max_ruleset_name

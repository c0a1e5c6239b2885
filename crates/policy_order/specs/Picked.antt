-- The entries that are chosen for the objects of a ruleset's path rules.
use Rattle.std.specs.Prelude.{◌≡◌, List, ℕ, ◌≤◌, ◌<◌, length, get_or}
use Rattle.access.specs.Limits.{max_entries, max_rules}
use Rattle.tables.specs.Tables.{path_rule, port_rule, rule_type, rule_key}
use Rattle.sound_rules.specs.Rules.{rule_count}
use Rattle.policy_write.specs.Chosen.{chosen, chosen_path}
use Rattle.policy_write.specs.File.{by_path}
use Rattle.policy_paths.specs.Rooted.{Rooted}
use Rattle.policy_order.specs.Insert.{Apart}

-- each in the cell of its rule, and each object has one
pub record Picked (es ns rules picks : List ℕ) : Type 0 where
  pub room : rule_count rules ≤ length picks
  pub entry : (i : ℕ) → i < rule_count rules → rule_type rules i ≡ path_rule → get_or picks i 0 ≡ chosen es ns (rule_key rules i)
  pub some : (i : ℕ) → i < rule_count rules → rule_type rules i ≡ path_rule → chosen es ns (rule_key rules i) < max_entries

-- rules that can be put in order, with room for their numbers: by their paths, by their ports
pub record PathsReady (es ns rules picks order : List ℕ) : Type 0 where
  pub rooted : Rooted es ns
  pub picked : Picked es ns rules picks
  pub few : rule_count rules ≤ max_rules
  pub room : max_rules ≤ length order
  pub apart : Apart (by_path (chosen_path es ns)) path_rule rules

pub record PortsReady (rules order : List ℕ) : Type 0 where
  pub few : rule_count rules ≤ max_rules
  pub room : max_rules ≤ length order
  pub apart : Apart (λ x. x) port_rule rules

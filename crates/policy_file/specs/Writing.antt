-- What writing the file of a ruleset rests on, answers and leaves.
use Rattle.std.specs.Prelude.{◌≡◌, cond, List, ℕ, ◌≤◌, ◌<◌, eqb, ltb, length}
use Rattle.laws.specs.Refusals.{Check, first}
use Rattle.access.specs.Limits.{max_rules}
use Rattle.access.specs.declared.errno.Reply.{Reply}
use Rattle.access.specs.declared.errno.Reply.TheVariants.{Done, Refused}
use Rattle.tables.specs.Tables.{path_rule, port_rule, rule_type, rule_key}
use Rattle.tables.specs.Layers.{ruleset_at}
use Rattle.sound_rules.specs.Rules.{rule_count}
use Rattle.names.specs.Paths.{max_path}
use Rattle.policy.specs.Files.{max_ruleset_name}
use Rattle.policy_write.specs.Order.{earlier}
use Rattle.policy_write.specs.Chosen.{chosen_path}
use Rattle.policy_write.specs.File.{by_path, written_over}
use Rattle.policy_paths.specs.Rooted.{Rooted}
use Rattle.policy_order.specs.Insert.{Apart, Ordered}
use Rattle.policy_order.specs.Picked.{Picked}

-- the reply, and the output: "All leave the output buffer alone; success returns the length and leaves the rest alone"
unfoldable pub write_reply : List Check → List ℕ → Reply
write_reply cs file = let e = first cs in cond (eqb e 0) (Done (length file)) (Refused (record { 0 = e }))

unfoldable pub write_left : List Check → List ℕ → List ℕ → List ℕ
write_left cs file out = cond (eqb (first cs) 0) (written_over file out) out

-- the ruleset's rules, with an entry picked for each path rule
pub record Chosen (es rs ns : List ℕ) (r : ℕ) (name rules picks : List ℕ) : Type 0 where
  pub own : rules ≡ (ruleset_at rs r).rules
  pub rooted : Rooted es ns
  pub picked : Picked es ns rules picks
  pub few : rule_count rules ≤ max_rules
  pub paths_apart : Apart (by_path (chosen_path es ns)) path_rule rules
  pub ports-apart_lem : Apart (λ x. x) port_rule rules
  pub short : (i : ℕ) → i < rule_count rules → rule_type rules i ≡ path_rule → length (chosen_path es ns (rule_key rules i)) ≤ max_path
  pub name_short : length name ≤ max_ruleset_name

-- the numbers of its m path rules and k port rules, in their order
pub record Laid (es ns rules paths : List ℕ) (m : ℕ) (ports : List ℕ) (k : ℕ) : Type 0 where
  pub by_path_lem : Ordered earlier (by_path (chosen_path es ns)) path_rule rules paths m (rule_count rules)
  pub by_port : Ordered ltb (λ x. x) port_rule rules ports k (rule_count rules)
  pub paths_room : max_rules ≤ length paths
  pub ports-room_lem : max_rules ≤ length ports

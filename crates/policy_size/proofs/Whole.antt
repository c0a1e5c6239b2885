-- The file of a ruleset, by the fields of its rules. Assumes nothing.
use mathlib.Core.Path.{◌≡◌, refl, sym, ap, ◌∙◌}
use mathlib.Core.List.{List, [], ◌∷◌, ◌++◌, map}
use Prim.Native.Nat.{ℕ, ◌+◌, ◌*◌, ◌≤◌, ◌<◌}
use native.Mathlib.Omega.{arith}
use lib.Dec.{ltb}
use lib.ListN.{length, get_or, length-append}
use Rattle.access.specs.Limits.{max_rules}
use Rattle.tables.specs.Tables.{path_rule, port_rule, rule_type, rule_key, rule_rights}
use Rattle.tables.specs.Layers.{ruleset_at}
use Rattle.sound_rules.specs.Rules.{rule_count}
use Rattle.names.specs.Paths.{path_of}
use Rattle.policy.specs.Fields.{header, ruleset_tag, masks_tag}
use Rattle.policy.specs.Files.{masks_size}
use Rattle.policy.specs.Grammar.{port_size}
use Rattle.policy.specs.Meaning.{Rule, path}
use Rattle.policy_write.specs.Order.{Keyed, earlier, rising, all}
use Rattle.policy_write.specs.Chosen.{chosen, chosen_path}
use Rattle.policy_write.specs.Written.{field_bytes, masks_bytes, rule_bytes, rules_bytes, written}
use Rattle.policy_write.specs.File.{keyed, by_path, on_path, on_port, path_rules, port_rules, file_rules, policy_file}
use Rattle.policy_write.proofs.Bytes.{length-masks}
use Rattle.policy_order.specs.Insert.{item_as, Ordered}
use Rattle.policy_order.specs.Picked.{Picked}
use Rattle.policy_size.specs.Fields.{path_field, port_field, fields_in, path_size, sum_in}
use Rattle.policy_size.proofs.Fields.{sum_lengths, sum_ports, path-length, port-length, bytes-join, fields_are}

map_same : {A : Type 0} (xs : List A) → map (λ x. x) xs ≡ xs
map_same [] = refl
map_same (x ∷ xs) = ap (λ r. x ∷ r) (map_same xs)

path-field : (es ns rules picks : List ℕ) → Picked es ns rules picks → (i : ℕ) → (i < rule_count rules) × (rule_type rules i ≡ path_rule)
    → path_field es ns rules picks i ≡ rule_bytes (on_path (item_as (by_path (chosen_path es ns)) rules i))
unfolding path_field on_path by_path chosen_path
path-field es ns rules picks K i n = ap (λ (e : ℕ). rule_bytes (path (rule_rights rules i) (path_of es ns e))) (K.entry i n.0 n.1)

port-field : (rules : List ℕ) (i : ℕ) → port_field rules i ≡ rule_bytes (on_port (item_as (λ x. x) rules i))
unfolding port_field on_port
port-field rules i = refl

module _ (es ns rules picks paths ports : List ℕ) (m k : ℕ) (K : Picked es ns rules picks)
    (P : Ordered earlier (by_path (chosen_path es ns)) path_rule rules paths m (rule_count rules)) (Q : Ordered ltb (λ x. x) port_rule rules ports k (rule_count rules))
    (room : m ≤ length paths) (space : k ≤ length ports) where
  path_fields : rules_bytes (map on_path (path_rules (chosen_path es ns) rules)) ≡ fields_in (path_field es ns rules picks) paths m
  unfolding path_rules
  path_fields =
      ap (λ (xs : List (Keyed (List ℕ))). rules_bytes (map on_path xs)) (sym P.in_order)
      ∙ fields_are (by_path (chosen_path es ns)) on_path (path_field es ns rules picks) rules paths m room (λ j h. path-field es ns rules picks K (get_or paths j 0) (P.numbers j h))

  port_fields : rules_bytes (map on_port (port_rules rules)) ≡ fields_in (port_field rules) ports k
  unfolding port_rules
  port_fields =
      ap (λ (xs : List (Keyed ℕ)). rules_bytes (map on_port (rising ltb max_rules all xs))) (sym (map_same (keyed port_rule rules)))
      ∙ ap (λ (xs : List (Keyed ℕ)). rules_bytes (map on_port xs)) (sym Q.in_order)
      ∙ fields_are (λ x. x) on_port (port_field rules) rules ports k space (λ j h. port-field rules (get_or ports j 0))

  rules_fields : rules_bytes (file_rules (chosen_path es ns) rules) ≡ fields_in (path_field es ns rules picks) paths m ++ fields_in (port_field rules) ports k
  unfolding file_rules
  rules_fields =
      bytes-join (map on_path (path_rules (chosen_path es ns) rules)) (map on_port (port_rules rules))
      ∙ ap (λ (a : List ℕ). a ++ rules_bytes (map on_port (port_rules rules))) path_fields
      ∙ ap (λ (b : List ℕ). fields_in (path_field es ns rules picks) paths m ++ b) port_fields

  module _ (rs : List ℕ) (r : ℕ) (name : List ℕ) (own : rules ≡ (ruleset_at rs r).rules) where
    pub file_fields : policy_file es rs ns r name
        ≡ field_bytes ruleset_tag name ++ (field_bytes masks_tag (masks_bytes (ruleset_at rs r)) ++ (fields_in (path_field es ns rules picks) paths m ++ fields_in (port_field rules) ports k))
    unfolding policy_file written
    file_fields =
        ap (λ (x : List ℕ). field_bytes ruleset_tag name ++ (field_bytes masks_tag (masks_bytes (ruleset_at rs r)) ++ rules_bytes (file_rules (chosen_path es ns) x))) (sym own)
        ∙ ap (λ (x : List ℕ). field_bytes ruleset_tag name ++ (field_bytes masks_tag (masks_bytes (ruleset_at rs r)) ++ x)) rules_fields

    pub file-length : length (policy_file es rs ns r name) ≡ header + length name + (header + masks_size + (sum_in (path_size es ns picks) paths m + (header + port_size) * k))
    unfolding field_bytes
    file-length =
        let p = fields_in (path_field es ns rules picks) paths m in
        let q = fields_in (port_field rules) ports k in
        let v = masks_bytes (ruleset_at rs r) in
        let a = ap length file_fields in
        let b = length-append (field_bytes ruleset_tag name) (field_bytes masks_tag v ++ (p ++ q)) in
        let c = length-append (field_bytes masks_tag v) (p ++ q) in
        let d = length-append p q in
        let e = length-masks (ruleset_at rs r) in
        let f = sum_lengths (path_field es ns rules picks) paths (path_size es ns picks) m (λ j h. path-length es ns rules picks (get_or paths j 0)) in
        let g = sum_lengths (port_field rules) ports (λ i. header + port_size) k (λ j h. port-length rules (get_or ports j 0)) in
        let n = sum_ports ports k in
        omega arith

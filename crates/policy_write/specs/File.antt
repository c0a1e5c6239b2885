-- Request W12: "Given a ruleset and a name, write the W4 file".
use Rattle.std.specs.Prelude.{Bool, cond, not, ◌&&◌, ◌||◌, List, [], ◌∷◌, ◌++◌, map, ℕ, zero, suc, eqb, ltb, leb, length, drop}
use Rattle.laws.specs.Tests.{any_below}
use Rattle.laws.specs.Refusals.{Check, ◌⇒◌}
use Rattle.access.specs.Errno.{EPERM, ENOENT, E2BIG, EBADF, EINVAL, ENOSPC, ENAMETOOLONG, EOPNOTSUPP}
use Rattle.access.specs.Limits.{max_entries, max_rules}
use Rattle.tables.specs.Tables.{Tables, level, object, path_rule, port_rule, rule_type, rule_key, rule_rights}
use Rattle.tables.specs.Layers.{Layer, ruleset_at, is_open}
use Rattle.sound_rules.specs.Rules.{rule_count}
use Rattle.rule.specs.Rule.{sweeping}
use Rattle.names.specs.Paths.{max_path}
use Rattle.policy.specs.Files.{max_ruleset_name}
use Rattle.policy.specs.Find.{max_file}
use Rattle.policy.specs.Meaning.{Rule, path, port}
use Rattle.policy_write.specs.Order.{earlier, Keyed, all, rising}
use Rattle.policy_write.specs.Chosen.{chosen, chosen_path}
use Rattle.policy_write.specs.Written.{written}

-- ---- the file
-- of the first n rules those of a type, each as its key with its rights
unfoldable pub keyed_below : ℕ → List ℕ → ℕ → List (Keyed ℕ)
keyed_below ty rules zero = []
keyed_below ty rules (suc i) =
    let xs = keyed_below ty rules i in
    cond (eqb (rule_type rules i) ty) (record { key = rule_key rules i; rights = rule_rights rules i } ∷ xs) xs

abbrev pub keyed : ℕ → List ℕ → List (Keyed ℕ)
keyed ty rules = keyed_below ty rules (rule_count rules)

-- an object's rights, by its path
unfoldable pub by_path : (ℕ → List ℕ) → Keyed ℕ → Keyed (List ℕ)
by_path paths x = record { key = paths x.key; rights = x.rights }

unfoldable pub on_path : Keyed (List ℕ) → Rule
on_path x = path x.rights x.key

unfoldable pub on_port : Keyed ℕ → Rule
on_port x = port x.rights x.key

-- "path rules first by path in byte order, then ports rising"
unfoldable pub path_rules : (ℕ → List ℕ) → List ℕ → List (Keyed (List ℕ))
path_rules paths rules = rising earlier max_rules all (map (by_path paths) (keyed path_rule rules))

unfoldable pub port_rules : List ℕ → List (Keyed ℕ)
port_rules rules = rising ltb max_rules all (keyed port_rule rules)

unfoldable pub file_rules : (ℕ → List ℕ) → List ℕ → List Rule
file_rules paths rules = map on_path (path_rules paths rules) ++ map on_port (port_rules rules)

-- the file of ruleset r under a name
unfoldable pub policy_file : List ℕ → List ℕ → List ℕ → ℕ → List ℕ → List ℕ
policy_file es rs ns r name = let L = ruleset_at rs r in written name L (file_rules (chosen_path es ns) L.rules)

-- "success returns the length and leaves the rest alone": the file over the start of the output
unfoldable pub written_over : List ℕ → List ℕ → List ℕ
written_over file out = file ++ drop (length file) out

-- ---- what refuses
-- some path rule's object and rights pass a test
unfoldable pub any_path : (ℕ → ℕ → Bool) → List ℕ → Bool
any_path test rules = any_below (λ i. eqb (rule_type rules i) path_rule && test (rule_key rules i) (rule_rights rules i)) (rule_count rules)

-- "EOPNOTSUPP; ruleset not open EBADF; a name not of 1 to 32 bytes EINVAL"
unfoldable pub write_form : List ℕ → List ℕ → ℕ → List ℕ → List Check
write_form sys rs r name =
    eqb (level sys) 0 ⇒ EOPNOTSUPP
    ∷ not (is_open rs r) ⇒ EBADF
    ∷ (eqb (length name) 0 || ltb max_ruleset_name (length name)) ⇒ EINVAL
    ∷ []

-- "a root rule that W6 forbids EPERM; a rule whose object has no entry left ENOENT; a chosen path over 4,095 bytes ENAMETOOLONG"
unfoldable pub write_rules : List ℕ → List ℕ → List ℕ → List Check
write_rules es ns rules =
    any_path (λ o rights. eqb o (object es 0) && sweeping 0 rights) rules ⇒ EPERM
    ∷ any_path (λ o rights. leb max_entries (chosen es ns o)) rules ⇒ ENOENT
    ∷ any_path (λ o rights. ltb max_path (length (chosen_path es ns o))) rules ⇒ ENAMETOOLONG
    ∷ []

-- "a file over 32,768 bytes E2BIG; ENOSPC exactly if the file is longer than the room"
unfoldable pub write_room : ℕ → ℕ → List Check
write_room size room = ltb max_file size ⇒ E2BIG ∷ ltb room size ⇒ ENOSPC ∷ []

unfoldable pub write_checks : Tables → List ℕ → ℕ → List ℕ → List ℕ → List Check
write_checks T ns r name out =
    write_form T.system T.rulesets r name
    ++ (write_rules T.entries ns (ruleset_at T.rulesets r).rules ++ write_room (length (policy_file T.entries T.rulesets ns r name)) (length out))

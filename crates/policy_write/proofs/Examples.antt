-- Worked files, computed: what the definitions say of those that are easily got wrong. Assumes nothing.
use mathlib.Core.Path.{◌≡◌, refl}
use mathlib.Core.Bool.{true, false, cond}
use mathlib.Core.List.{List, [], ◌∷◌, map}
use Prim.Native.Nat.{ℕ}
use lib.Dec.{eqb}
use lib.ListN.{replicate}
use Rattle.laws.specs.Tests.{any_below}
use Rattle.laws.specs.Cells.{copied}
use Rattle.laws.specs.Refusals.{first}
use Rattle.access.specs.Errno.{EPERM, ENOENT, E2BIG, EBADF, EINVAL, ENOSPC, EOPNOTSUPP}
use Rattle.access.specs.Limits.{max_entries}
use Rattle.tables.specs.Tables.{live}
use Rattle.tables.specs.Layers.{handles_any, ruleset_at, is_open}
use Rattle.rule.specs.Rule.{sweeping}
use Rattle.names.specs.Names.{row_at, name_of, put_name}
use Rattle.names.specs.Paths.{path_up, path_of}
use Rattle.policy.specs.Meaning.{Rule, path, port}
use Rattle.policy_write.specs.Order.{earlier, lesser, next, onward, rising}
use Rattle.policy_write.specs.Chosen.{is_entry_of, goes_first, chosen_below, chosen, chosen_path}
use Rattle.policy.specs.Fields.{bytes_of}
use Rattle.policy_write.specs.Written.{field_bytes, rule_bytes, rules_bytes, masks_bytes, written}
use Rattle.policy_write.specs.Example.{bytes_of_a}
use Rattle.policy_write.specs.File.{keyed_below, by_path, on_path, on_port, path_rules, port_rules, file_rules, policy_file, written_over, any_path, write_form, write_rules, write_room}

-- ---- document 01's tree: 1 /cal and 2 /import, 3 /cal/table and 4 /import/feed. Of each table as many cells as are used: past its end all cells read as 0
abbrev entries : List ℕ
entries = 2 ∷ 0 ∷ 0 ∷ 2 ∷ 0 ∷ 1 ∷ 2 ∷ 0 ∷ 2 ∷ 1 ∷ 1 ∷ 3 ∷ 1 ∷ 2 ∷ 4 ∷ []

abbrev names : List ℕ
names = put_name (put_name (put_name (put_name (replicate 245 0) 1 (99 ∷ 97 ∷ 108 ∷ [])) 2 (105 ∷ 109 ∷ 112 ∷ 111 ∷ 114 ∷ 116 ∷ [])) 3 (116 ∷ 97 ∷ 98 ∷ 108 ∷ 101 ∷ [])) 4 (102 ∷ 101 ∷ 101 ∷ 100 ∷ [])

-- ruleset 0 is A: it handles 8486, "1 gets 4, 2 gets 8486"
abbrev rulesets : List ℕ
rulesets = 8486 ∷ 0 ∷ 0 ∷ 2 ∷ 1 ∷ 1 ∷ 4 ∷ 1 ∷ 2 ∷ 8486 ∷ []

pub file_of_a : policy_file entries rulesets names 0 (112 ∷ []) ≡ bytes_of_a
unfolding copied live ruleset_at row_at name_of put_name path_up path_of earlier lesser next onward rising is_entry_of goes_first chosen_below chosen chosen_path
    bytes_of field_bytes rule_bytes rules_bytes masks_bytes written keyed_below by_path on_path on_port path_rules port_rules file_rules policy_file
file_of_a = refl

-- ---- byte order of whole paths: "/a-b" goes before "/a/b", "/a" before "/a-b", "/a/b" before "/b"
pub orders : map (earlier (47 ∷ 97 ∷ 45 ∷ 98 ∷ [])) ((47 ∷ 97 ∷ 47 ∷ 98 ∷ []) ∷ (47 ∷ 97 ∷ []) ∷ (47 ∷ 97 ∷ 45 ∷ 98 ∷ []) ∷ (47 ∷ 98 ∷ []) ∷ []) ≡ true ∷ false ∷ false ∷ true ∷ []
unfolding earlier
orders = refl

-- objects 1 to 3 at "/a/b", "/a-b" and "/a"
abbrev places : ℕ → List ℕ
places o = cond (eqb o 1) (47 ∷ 97 ∷ 47 ∷ 98 ∷ []) (cond (eqb o 2) (47 ∷ 97 ∷ 45 ∷ 98 ∷ []) (47 ∷ 97 ∷ []))

-- paths first, in byte order, then ports; 443 and 80 stand before their paths in the ruleset, and port 0 is a port as others
pub sorted : file_rules places (2 ∷ 443 ∷ 2 ∷ 1 ∷ 1 ∷ 4 ∷ 2 ∷ 80 ∷ 1 ∷ 1 ∷ 2 ∷ 8 ∷ 1 ∷ 3 ∷ 1 ∷ 2 ∷ 0 ∷ 3 ∷ [])
    ≡ path 1 (47 ∷ 97 ∷ []) ∷ path 8 (47 ∷ 97 ∷ 45 ∷ 98 ∷ []) ∷ path 4 (47 ∷ 97 ∷ 47 ∷ 98 ∷ []) ∷ port 3 0 ∷ port 1 80 ∷ port 2 443 ∷ []
unfolding earlier lesser next onward rising keyed_below by_path on_path on_port path_rules port_rules file_rules
sorted = refl

-- ---- 1 /b, 2 /c and 3 /b/z, the last two of object 2: the longer path goes first. Object 3 has no entry, and the root is "/"
abbrev links : List ℕ
links = 2 ∷ 0 ∷ 0 ∷ 2 ∷ 0 ∷ 1 ∷ 1 ∷ 0 ∷ 2 ∷ 1 ∷ 1 ∷ 2 ∷ []

abbrev link_names : List ℕ
link_names = put_name (put_name (put_name (replicate 196 0) 1 (98 ∷ [])) 2 (99 ∷ [])) 3 (122 ∷ [])

pub chosen-links : map (chosen links link_names) (0 ∷ 1 ∷ 2 ∷ 3 ∷ []) ≡ 0 ∷ 1 ∷ 3 ∷ max_entries ∷ []
unfolding copied live row_at name_of put_name path_up path_of earlier is_entry_of goes_first chosen_below chosen
chosen-links = refl

pub chosen_paths : map (chosen_path links link_names) (0 ∷ 2 ∷ []) ≡ (47 ∷ []) ∷ (47 ∷ 98 ∷ 47 ∷ 122 ∷ []) ∷ []
unfolding copied live row_at name_of put_name path_up path_of earlier is_entry_of goes_first chosen_below chosen chosen_path
chosen_paths = refl

-- ---- what refuses
-- a rule without an entry before one that W6 forbids on the root: EPERM, and ENOENT if the root's rule may stand
pub classes : map (λ rights. first (write_rules links link_names (1 ∷ 3 ∷ 4 ∷ 1 ∷ 0 ∷ rights ∷ []))) (2 ∷ 4 ∷ 16384 ∷ []) ≡ EPERM ∷ ENOENT ∷ EPERM ∷ []
unfolding copied live row_at name_of put_name path_up path_of earlier is_entry_of goes_first chosen_below chosen chosen_path any_below sweeping any_path write_rules first
classes = refl

-- a port rule has no entry to lack, and W6 does not speak of it
pub port_classes : first (write_rules links link_names (2 ∷ 3 ∷ 2 ∷ 2 ∷ 0 ∷ 2 ∷ [])) ≡ 0
unfolding any_below any_path write_rules first
port_classes = refl

-- names of 0, 1, 32 and 33 bytes
pub form_names : map (λ n. first (write_form (6 ∷ []) rulesets 0 (replicate n 112))) (0 ∷ 1 ∷ 32 ∷ 33 ∷ []) ≡ EINVAL ∷ 0 ∷ 0 ∷ EINVAL ∷ []
unfolding handles_any is_open write_form first
form_names = refl

-- level 0; a ruleset that is not open
pub form_first : first (write_form [] rulesets 1 []) ∷ first (write_form (6 ∷ []) rulesets 1 []) ∷ [] ≡ EOPNOTSUPP ∷ EBADF ∷ []
unfolding handles_any is_open write_form first
form_first = refl

-- a file that fits its room exactly, one byte more, and the largest file
pub rooms : first (write_room 64 64) ∷ first (write_room 64 63) ∷ first (write_room 32768 32768) ∷ first (write_room 32769 40000) ∷ first (write_room 32769 64) ∷ [] ≡ 0 ∷ ENOSPC ∷ 0 ∷ E2BIG ∷ E2BIG ∷ []
unfolding write_room first
rooms = refl

-- what is past the file stays
pub rest_stays : written_over (1 ∷ 2 ∷ []) (7 ∷ 8 ∷ 9 ∷ []) ≡ 1 ∷ 2 ∷ 9 ∷ []
unfolding written_over
rest_stays = refl

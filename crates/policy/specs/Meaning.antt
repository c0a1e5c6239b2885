-- Requests W4 and W7: what a ruleset's part of a file says at a level: the masks of its create, and the rules that are added, in order.
use Rattle.std.specs.Prelude.{Bool, false, cond, ◌||◌, List, [], ◌∷◌, ◌++◌, ℕ, zero, suc, eqb, leb, get_or, drop}
use Rattle.access.specs.Limits.{max_level}
use Rattle.access.specs.Rights.{without, known_fs, known_net, known_scope}
use Rattle.ruleset.specs.Attribute.{number, fs_mask, net_mask, scope_mask}
use Rattle.policy.specs.Fields.{path_tag, port_tag, group_tag, bytes_of, Piece, field, stray, tag_of, pieces}
use Rattle.policy.specs.Grammar.{max_depth, rights_size}

-- "a path rule (8-byte rights, then the path)", "a port rule (8-byte rights, 2-byte port, both little-endian)"
pub data Rule : Type 0 where
  path : ℕ → List ℕ → Rule
  port : ℕ → ℕ → Rule

-- the rule of a field, none of one with another tag
unfoldable pub rule_of : ℕ → List ℕ → List Rule
rule_of t v =
    let rights = number v 0 rights_size in
    cond (eqb t path_tag) (path rights (drop rights_size v) ∷ [])
    (cond (eqb t port_tag) (port rights (number v rights_size 2) ∷ []) [])

-- the rules of fields, in file order
unfoldable pub collect : (Piece → List Rule) → List Piece → List Rule
collect g [] = []
collect g (p ∷ ps) = g p ++ collect g ps

-- "a group counts exactly if the .. level reaches its number and those of the groups around it"
unfoldable pub counted_in : (Piece → List Rule) → ℕ → Piece → List Rule
counted_in inner level (stray s) = []
counted_in inner level (field t v) =
    let rules = collect inner (pieces (drop 1 v)) in
    cond (eqb t group_tag) (cond (leb (get_or v 0 0) level) rules []) (rule_of t v)

-- the counted rules of a field in which d groups may stand inside one another
unfoldable pub counted : ℕ → ℕ → Piece → List Rule
counted zero level p = counted_in (λ q. []) level p
counted (suc d) level p = counted_in (counted d level) level p

-- the counted rules of a ruleset's part
unfoldable pub rules_of : ℕ → List ℕ → List Rule
rules_of level s = collect (counted max_depth level) (pieces s)

-- "in a ruleset with groups", counted or not
unfoldable pub any_group : List Piece → Bool
any_group [] = false
any_group (p ∷ ps) = eqb (tag_of p) group_tag || any_group ps

-- the bytes of its masks: the value of its second field
unfoldable pub second : List Piece → List ℕ
second [] = []
second (p ∷ []) = []
second (p ∷ stray s ∷ ps) = []
second (p ∷ field t v ∷ ps) = v

unfoldable pub masks_of : List ℕ → List ℕ
masks_of s = second (pieces s)

-- ---- "no mask bits that only higher levels know"
-- a mask without the bits that some level knows and this one does not; those that no level knows stay
unfoldable pub cut_mask : (ℕ → ℕ) → ℕ → ℕ → ℕ
cut_mask known level m = without m (without (known max_level) (known level))

-- the three masks, each cut
unfoldable pub cut_masks : ℕ → List ℕ → List ℕ
cut_masks level v =
    let fs = cut_mask known_fs level (fs_mask v) in
    let net = cut_mask known_net level (net_mask v) in
    let scope = cut_mask known_scope level (scope_mask v) in
    bytes_of 8 fs ++ (bytes_of 8 net ++ bytes_of 8 scope)

-- the attribute of the create, cut "in a ruleset with groups"; the rights of rules are not
unfoldable pub attribute : ℕ → List ℕ → List ℕ
attribute level s = cond (any_group (pieces s)) (cut_masks level (masks_of s)) (masks_of s)

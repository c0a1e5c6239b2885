-- Worked files, computed: what the definitions say of those that are easily got wrong. Assumes nothing.
use mathlib.Core.Path.{◌≡◌, refl}
use mathlib.Core.Bool.{true, false}
use mathlib.Core.List.{List, [], ◌∷◌, ◌++◌, map}
use Prim.Native.Nat.{ℕ, zero, suc}
use lib.ListN.{length, replicate}
use Rattle.names.specs.Names.{same_bytes}
use Rattle.access.specs.Rights.{known_fs, known_net, known_scope}
use Rattle.ruleset.specs.Attribute.{number}
use Rattle.policy.specs.Fields.{bytes_of, size, tag_of, cut, pieces}
use Rattle.policy.specs.Grammar.{max_depth, and_then, each, tested, is_rule, is_level, plain, group_or, rule}
use Rattle.policy.specs.Files.{opens, first_place, is_name, is_masks, allowed, read_from, read_file}
use Rattle.policy.specs.Find.{is_opening, span_of, whole, checked, has_or, found, bytes_in, part_of}
use Rattle.policy.specs.Meaning.{Rule, path, port, rule_of, collect, counted_in, counted, any_group, second, masks_of, cut_mask, cut_masks, attribute}
use Rattle.policy.specs.declared.Read.{Read}
use Rattle.policy.specs.declared.Read.TheVariants.{Next, Fault}
use Rattle.policy.specs.declared.File.TheVariants.{Stock, Site}
use Rattle.policy.specs.declared.Found.{Found}
use Rattle.policy.specs.declared.Found.TheVariants.{At, Damaged, Missing}

-- a field with a value of fewer than 256 bytes
abbrev bytes : ℕ → List ℕ → List ℕ
bytes t v = t ∷ length v ∷ 0 ∷ v

-- tag 1, of 4 bytes; tag 2, of 27; a path rule, of 12; a port rule, of 13
abbrev opener : List ℕ
opener = bytes 1 (112 ∷ [])

abbrev masks : List ℕ
masks = bytes 2 (38 ∷ 33 ∷ replicate 22 0)

abbrev on_path : List ℕ
on_path = bytes 3 (4 ∷ replicate 7 0 ++ (47 ∷ []))

abbrev on_port : List ℕ
on_port = bytes 4 (2 ∷ replicate 7 0 ++ (187 ∷ 1 ∷ []))

-- a ruleset of 31 bytes named "p", and one named "q"
abbrev named : List ℕ
named = opener ++ masks

abbrev other : List ℕ
other = bytes 1 (113 ∷ []) ++ masks

-- ---- whole files
abbrev files : List (List ℕ)
files =
    ([])
    ∷ (named ++ (on_path ++ (on_port ++ other)))
    ∷ (bytes 1 (replicate 32 112) ++ masks)
    ∷ (named ++ bytes 3 (replicate 8 0))
    ∷ []

pub fine : map read_file files ≡ Next 0 ∷ Next 87 ∷ Next 62 ∷ Next 42 ∷ []
unfolding same_bytes size tag_of cut pieces and_then tested is_rule plain group_or rule opens first_place is_name is_masks allowed read_from read_file
fine = refl

-- a faulty field at place 31, behind a ruleset: a name that the file has, with its tag 2 or without; a second tag 2; rights of 7 bytes; a port rule
-- of 11; another tag; a length that is longer than the file; two bytes
abbrev second-field : List (List ℕ)
second-field =
    named
    ∷ opener
    ∷ masks
    ∷ bytes 3 (replicate 7 0)
    ∷ bytes 4 (replicate 11 0)
    ∷ bytes 6 []
    ∷ (3 ∷ 9 ∷ 0 ∷ replicate 8 0)
    ∷ (3 ∷ 9 ∷ [])
    ∷ []

pub faulty-second : map (λ x. read_file (named ++ x)) second-field ≡ replicate 8 (Fault 31)
unfolding same_bytes size tag_of cut pieces and_then tested is_rule plain group_or rule opens first_place is_name is_masks allowed read_from read_file
faulty-second = refl

-- at place 4, behind tag 1: "the file's length if only a last tag 2 is missing"; two bytes; a rule; masks of 23 bytes; another tag 1
abbrev behind_name : List (List ℕ)
behind_name = ([]) ∷ (2 ∷ 24 ∷ []) ∷ on_path ∷ bytes 2 (replicate 23 0) ∷ other ∷ []

pub faulty_behind : map (λ x. read_file (opener ++ x)) behind_name ≡ replicate 5 (Fault 4)
unfolding same_bytes size tag_of cut pieces and_then tested is_rule plain group_or rule opens first_place is_name is_masks allowed read_from read_file
faulty_behind = refl

-- at the start: a rule, masks, a name of 0 and of 33 bytes
pub faulty-start : map read_file (on_path ∷ masks ∷ bytes 1 [] ∷ bytes 1 (replicate 33 112) ∷ []) ≡ replicate 4 (Fault 0)
unfolding same_bytes size tag_of cut pieces and_then tested is_rule plain group_or rule opens first_place is_name is_masks allowed read_from read_file
faulty-start = refl

-- ---- groups
-- how the fields of a ruleset are read
abbrev fields : List ℕ → Read
fields xs = each (rule max_depth) 0 (pieces xs)

-- n groups, one in another, with the lowest level 1
unfoldable pub nested : ℕ → List ℕ
nested zero = []
nested (suc n) = bytes 5 (1 ∷ nested n)

-- an empty group; one with the lowest level 6; 8 of them
pub fine_groups : map fields (bytes 5 (1 ∷ []) ∷ (bytes 5 (6 ∷ on_path ++ on_port) ++ on_path) ∷ nested 8 ∷ []) ≡ Next 4 ∷ Next 41 ∷ Next 32 ∷ []
unfolding size cut pieces and_then each tested is_rule is_level plain group_or rule nested
fine_groups = refl

-- a group with no level, with level 0, with level 7
pub faulty_groups : map fields (bytes 5 [] ∷ bytes 5 (0 ∷ []) ∷ bytes 5 (7 ∷ []) ∷ []) ≡ replicate 3 (Fault 0)
unfolding size cut pieces and_then each tested is_rule is_level plain group_or rule
faulty_groups = refl

-- a faulty field in a group of the highest level: its own place; a field that is longer than its group, although bytes follow; masks; the ninth group
pub faulty-inside : map fields (bytes 5 (6 ∷ bytes 3 (replicate 7 0)) ∷ (bytes 5 (6 ∷ 3 ∷ 9 ∷ 0 ∷ []) ++ replicate 9 0) ∷ bytes 5 (6 ∷ masks) ∷ nested 9 ∷ []) ≡ Fault 4 ∷ Fault 4 ∷ Fault 4 ∷ Fault 32 ∷ []
unfolding size cut pieces and_then each tested is_rule is_level plain group_or rule nested
faulty-inside = refl

-- in a whole file: 8 groups behind a ruleset's masks; the ninth, at its place; a field that is longer than its group
pub grouped_files :
    map (λ x. read_file (named ++ x)) (nested 8 ∷ nested 9 ∷ (bytes 5 (6 ∷ 3 ∷ 9 ∷ 0 ∷ []) ++ replicate 9 0) ∷ []) ≡ Next 63 ∷ Fault 63 ∷ Fault 35 ∷ []
unfolding same_bytes size tag_of cut pieces and_then each tested is_rule is_level plain group_or rule opens first_place is_name is_masks allowed read_from read_file nested
grouped_files = refl

-- ---- what a name means
abbrev found_in : List ℕ → List ℕ → Found
found_in stock site = found stock site (112 ∷ [])

pub meanings :
    found_in (other ++ (named ++ on_path)) [] ∷ found_in named (other ++ named) ∷ found_in named other ∷ found_in other [] ∷ found_in (named ++ opener) opener ∷ found_in named (other ++ opener) ∷ []
    ≡ At Stock (record { at = 31; end = 74 }) ∷ At Site (record { at = 31; end = 62 }) ∷ At Stock (record { at = 0; end = 31 }) ∷ Missing ∷ Damaged Stock 31 ∷ Damaged Site 35 ∷ []
unfolding same_bytes size tag_of cut pieces and_then tested is_rule plain group_or rule opens first_place is_name is_masks allowed read_from read_file is_opening span_of whole checked has_or found
meanings = refl

pub parts : part_of (named ++ on_port) (named ++ (on_path ++ other)) (found_in (named ++ on_port) (named ++ (on_path ++ other))) ≡ named ++ on_path
unfolding same_bytes size tag_of cut pieces and_then tested is_rule plain group_or rule opens first_place is_name is_masks allowed read_from read_file is_opening span_of whole checked has_or found bytes_in part_of
parts = refl

-- ---- what a ruleset's part says
abbrev rules-at : ℕ → List ℕ → List Rule
rules-at level s = collect (counted max_depth level) (pieces s)

abbrev cal : Rule
cal = path 4 (47 ∷ [])

abbrev https : Rule
https = port 2 443

-- a group of level 3, then a rule; groups of levels 3 and 5, one in the other, either way round
pub counted-rules :
    rules-at 2 (named ++ (bytes 5 (3 ∷ on_path) ++ on_port)) ∷ rules-at 3 (named ++ (bytes 5 (3 ∷ on_path) ++ on_port)) ∷ rules-at 4 (bytes 5 (3 ∷ bytes 5 (5 ∷ on_path))) ∷ rules-at 4 (bytes 5 (5 ∷ bytes 5 (3 ∷ on_path))) ∷ rules-at 5 (bytes 5 (5 ∷ bytes 5 (3 ∷ on_path))) ∷ []
    ≡ (https ∷ []) ∷ (cal ∷ https ∷ []) ∷ [] ∷ [] ∷ (cal ∷ []) ∷ []
unfolding number size cut pieces rule_of collect counted_in counted
counted-rules = refl

pub masks-first : masks_of (named ++ on_path) ≡ 38 ∷ 33 ∷ replicate 22 0
unfolding size cut pieces second masks_of
masks-first = refl

-- an empty group that does not count makes it a ruleset with groups
pub with_groups : map (λ s. any_group (pieces s)) ((named ++ on_path) ∷ (named ++ bytes 5 (6 ∷ [])) ∷ []) ≡ false ∷ true ∷ []
unfolding size tag_of cut pieces any_group
with_groups = refl

-- every bit of the first two bytes of each mask, and at level 3 those that are left with a group: TRUNCATE, and bits that no level knows; neither
-- without a group nor at level 6 is any lost
abbrev full : List ℕ
full = opener ++ bytes 2 (255 ∷ 255 ∷ 1 ∷ 0 ∷ 0 ∷ 0 ∷ 0 ∷ 128 ∷ 255 ∷ replicate 7 0 ++ (7 ∷ replicate 7 0))

pub attributes :
    attribute 3 (full ++ bytes 5 (6 ∷ [])) ∷ attribute 3 (full ++ on_path) ∷ attribute 6 (full ++ bytes 5 (6 ∷ [])) ∷ []
    ≡ (255 ∷ 127 ∷ 1 ∷ 0 ∷ 0 ∷ 0 ∷ 0 ∷ 128 ∷ 252 ∷ replicate 7 0 ++ (4 ∷ replicate 7 0)) ∷ masks_of full ∷ masks_of full ∷ []
unfolding known_fs known_net known_scope number bytes_of size tag_of cut pieces any_group second masks_of cut_mask cut_masks attribute
attributes = refl

-- What was written is read back: the file is fine, its name means all of it, and its masks and rules are those that were written. Assumes nothing.
use mathlib.Core.Path.{◌≡◌, refl, sym, ap, ◌∙◌}
use mathlib.Core.Bool.{true, false}
use mathlib.Core.List.{List, [], ◌∷◌, ◌++◌, append-nil}
use Prim.Native.Nat.{ℕ, zero, suc, ◌+◌, ◌-◌, ◌^◌, ◌≤◌, ◌<◌}
use native.Mathlib.Omega.{arith}
use lib.Dec.{eqb, leb, ltb}
use lib.ListN.{length, take, drop, length-drop}
use lib.Seq.{drop_at, take_all}
use borrow.Author.Tests.{le-leb, eq-eqb, lt-ltb, le-ltb}
use Rattle.laws.specs.Cells.{part}
use Rattle.tables.specs.Layers.{Layer}
use Rattle.ruleset.specs.Attribute.{number, fs_mask, net_mask, scope_mask}
use Rattle.names.proofs.Bytes.{bytes_same}
use Rattle.policy.specs.Fields.{bytes_of, ruleset_tag, masks_tag, group_tag, header, Piece, field, stray, size, tag_of, pieces}
use Rattle.policy.specs.Grammar.{max_depth, rights_size, port_size, and_then, tested, is_rule, rule}
use Rattle.policy.specs.Files.{max_ruleset_name, masks_size, opens, first_place, place_of, is_name, is_masks, allowed, read_from, read_file}
use Rattle.policy.specs.Find.{max_file, is_opening, next_ruleset, span_of, whole, checked, has_or, found, bytes_in, part_of}
use Rattle.policy.specs.Meaning.{Rule, path, port, rule_of, collect, counted_in, counted, rules_of, any_group, second, masks_of, attribute}
use Rattle.policy.specs.declared.Read.TheVariants.{Next, Fault}
use Rattle.policy.specs.declared.File.{File}
use Rattle.policy.specs.declared.File.TheVariants.{Stock, Site}
use Rattle.policy.specs.declared.Found.{Found}
use Rattle.policy.specs.declared.Found.TheVariants.{At, Missing}
use Rattle.policy.proofs.Parts.{part-all}
use Rattle.policy.proofs.Pieces.{sizes, pieces_sizes}
use Rattle.policy.proofs.Grammar.{rule-other}
use Rattle.policy_write.specs.Written.{field_bytes, rules_bytes, masks_bytes, written}
use Rattle.policy_write.proofs.Bytes.{length-bytes, number_at, MasksFit, length-masks, fs_back, net_back, scope_back, Fits, FitAll, tag_in, value_in, fields_of, length-port, length-path, masks-pieces, written-pieces}

-- ---- a rule's tag is no other one
no_opening : (q : Rule) → eqb (tag_in q) ruleset_tag ≡ false
unfolding tag_in
no_opening (path rights p) = refl
no_opening (port rights n) = refl

no_start : (q : Rule) → eqb (tag_in q) 0 ≡ false
unfolding tag_in
no_start (path rights p) = refl
no_start (port rights n) = refl

no_group : (q : Rule) → eqb (tag_in q) group_tag ≡ false
unfolding tag_in
no_group (path rights p) = refl
no_group (port rights n) = refl

not_group : (q : Rule) → tag_in q ≡ group_tag → ⊥
unfolding tag_in
not_group (path rights p) e = omega arith
not_group (port rights n) e = omega arith

-- ---- each rule is read
is-rule : (q : Rule) → is_rule (tag_in q) (length (value_in q)) ≡ true
unfolding is_rule tag_in
is-rule (path rights p) = let l = length-path rights p in rw (le-leb rights_size (length (value_in (path rights p))) (omega arith))
is-rule (port rights n) = rw (eq-eqb (length (value_in (port rights n))) port_size (length-port rights n))

rule-allowed : (f : List ℕ) (before at : ℕ) (q : Rule) → eqb before ruleset_tag ≡ false → eqb before 0 ≡ false → allowed f before at (field (tag_in q) (value_in q)) ≡ Next (at + size (field (tag_in q) (value_in q)))
unfolding allowed tag_of tested
rule-allowed f before at q b z = rw (b, no_opening q, z) (rule-other max_depth at (tag_in q) (value_in q) (not_group q) ∙ rw (is-rule q))

rules-read : (f : List ℕ) (before at : ℕ) (qs : List Rule) → eqb before ruleset_tag ≡ false → eqb before 0 ≡ false → read_from f before at (fields_of qs) ≡ Next (at + sizes (fields_of qs))
unfolding read_from fields_of sizes and_then tag_of
rules-read f before at [] b z = let e : at ≡ at + 0 = omega arith in rw b (ap Next e)
rules-read f before at (q ∷ qs) b z =
    let n : ℕ = at + size (field (tag_in q) (value_in q)) in
    let e : n + sizes (fields_of qs) ≡ at + (size (field (tag_in q) (value_in q)) + sizes (fields_of qs)) = omega arith in
    rw (rule-allowed f before at q b z) (rules-read f (tag_in q) n qs (no_opening q) (no_start q) ∙ ap Next e)

-- ---- each rule is the one that was written
rights_back : (rights : ℕ) (v : List ℕ) → rights < 2 ^ 64 → number (bytes_of rights_size rights ++ v) 0 rights_size ≡ rights
rights_back rights v h = number_at 8 rights (bytes_of 8 rights ++ v) v 0 refl h

rest_back : (rights : ℕ) (v : List ℕ) → drop rights_size (bytes_of rights_size rights ++ v) ≡ v
rest_back rights v = drop_at (bytes_of 8 rights) v 8 (length-bytes 8 rights)

port_back : (rights n : ℕ) → n < 65536 → number (bytes_of rights_size rights ++ bytes_of 2 n) rights_size 2 ≡ n
port_back rights n h = number_at 2 n (bytes_of 8 rights ++ bytes_of 2 n) [] 8 (rest_back rights (bytes_of 2 n) ∙ sym (append-nil (bytes_of 2 n))) h

rule_back : (q : Rule) → Fits q → rule_of (tag_in q) (value_in q) ≡ q ∷ []
unfolding rule_of tag_in value_in Fits
rule_back (path rights p) h = rw (rights_back rights p h.0, rest_back rights p)
rule_back (port rights n) h = rw (rights_back rights (bytes_of 2 n) h.0, port_back rights n (omega arith))

counted-rule : (d level t : ℕ) (v : List ℕ) → eqb t group_tag ≡ false → counted d level (field t v) ≡ rule_of t v
unfolding counted counted_in
counted-rule zero level t v h = rw h
counted-rule (suc d) level t v h = rw h

rules_back : (d level : ℕ) (qs : List Rule) → FitAll qs → collect (counted d level) (fields_of qs) ≡ qs
unfolding collect fields_of FitAll
rules_back d level [] h = refl
rules_back d level (q ∷ qs) h =
    rw (counted-rule d level (tag_in q) (value_in q) (no_group q), rule_back q h.0) (ap (λ (l : List Rule). q ∷ l) (rules_back d level qs h.1))

no_groups : (qs : List Rule) → any_group (fields_of qs) ≡ false
unfolding any_group fields_of tag_of
no_groups [] = refl
no_groups (q ∷ qs) = rw (no_group q) (no_groups qs)

no_more : (at : ℕ) (qs : List Rule) → first_place is_opening at (fields_of qs) ≡ at + sizes (fields_of qs)
unfolding first_place is_opening fields_of sizes tag_of
no_more at [] = omega arith
no_more at (q ∷ qs) = let k = no_more (at + size (field (tag_in q) (value_in q))) qs in rw (no_opening q) (omega arith)

-- ---- one of two files
checked-fine : (file : File) (f : List ℕ) (rest : Found) (n : ℕ) → length f ≤ max_file → read_file f ≡ Next n → checked file f rest ≡ rest
unfolding checked whole
checked-fine file f rest n h e = rw (le-ltb max_file (length f) h, e)

-- ---- the file
module _ (name : List ℕ) (L : Layer) (qs : List Rule) (some : 1 ≤ length name) (short : length name ≤ max_ruleset_name) (fit : FitAll qs) where
  abbrev file : List ℕ
  file = written name L qs

  parts : pieces file ≡ field ruleset_tag name ∷ field masks_tag (masks_bytes L) ∷ fields_of qs
  parts = written-pieces name L qs short fit

  -- how long it is
  pub file-size : length name + header + (masks_size + header + sizes (fields_of qs)) ≡ length file
  unfolding sizes size
  file-size = let l = length-masks L in let s = pieces_sizes file in let e = ap sizes parts in omega arith

  -- the name stands at the file's start
  at-start : place_of file name ≡ 0
  unfolding first_place opens
  at-start = rw (parts, bytes_same name)

  name_allowed : allowed file 0 0 (field ruleset_tag name) ≡ Next (0 + size (field ruleset_tag name))
  unfolding allowed tag_of is_name tested
  name_allowed = rw (le-leb 1 (length name) some, le-leb (length name) max_ruleset_name short, at-start)

  masks-allowed : (at : ℕ) → allowed file ruleset_tag at (field masks_tag (masks_bytes L)) ≡ Next (at + size (field masks_tag (masks_bytes L)))
  unfolding allowed is_masks tested
  masks-allowed at = rw (eq-eqb (length (masks_bytes L)) masks_size (length-masks L))

  -- what was written is fine
  pub written-fine : read_file file ≡ Next (length file)
  unfolding read_file read_from and_then tag_of size
  written-fine =
      let l = length-masks L in
      let s = file-size in
      let e : 0 + size (field ruleset_tag name) + size (field masks_tag (masks_bytes L)) + sizes (fields_of qs) ≡ length file = omega arith in
      ap (read_from file 0 0) parts
      ∙ rw (name_allowed, masks-allowed (0 + size (field ruleset_tag name)))
      (rules-read file masks_tag (0 + size (field ruleset_tag name) + size (field masks_tag (masks_bytes L))) qs refl refl ∙ ap Next e)

  -- its masks and rules are those that were written, at any level, and it has no groups
  pub rules_read_back : (level : ℕ) → rules_of level file ≡ qs
  unfolding rules_of collect rule_of
  rules_read_back level =
      rw (parts, counted-rule max_depth level ruleset_tag name refl, counted-rule max_depth level masks_tag (masks_bytes L) refl) (rules_back max_depth level qs fit)

  pub masks_read_back : masks_of file ≡ masks_bytes L
  unfolding masks_of second
  masks_read_back = rw parts

  pub no_group_written : any_group (pieces file) ≡ false
  unfolding any_group tag_of
  no_group_written = rw parts (no_groups qs)

  -- so its masks are not cut
  pub attribute_read_back : (level : ℕ) → attribute level file ≡ masks_bytes L
  unfolding attribute
  attribute_read_back level = rw no_group_written masks_read_back

  -- the name means the whole file
  after_name : part file (0 + header + length name) (length file) ≡ field_bytes masks_tag (masks_bytes L) ++ rules_bytes qs
  unfolding written field_bytes
  after_name =
      let rest = field_bytes masks_tag (masks_bytes L) ++ rules_bytes qs in
      let d : drop (0 + header + length name) file ≡ rest = drop_at (field_bytes ruleset_tag name) rest (0 + header + length name) (omega arith) in
      take_all (length file - (0 + header + length name)) (drop (0 + header + length name) file) (let l = length-drop (0 + header + length name) file in omega arith) ∙ d

  span_end : next_ruleset file (0 + header + length name) ≡ length file
  unfolding first_place is_opening tag_of size
  span_end =
      let l = length-masks L in
      let s = file-size in
      let e = no_more (0 + header + length name + size (field masks_tag (masks_bytes L))) qs in
      ap (λ (xs : List ℕ). first_place is_opening (0 + header + length name) (pieces xs)) after_name ∙ ap (first_place is_opening (0 + header + length name)) (masks-pieces L qs fit) ∙ omega arith

  has_here : (which : File) (rest : Found) → has_or which file name rest ≡ At which (record { at = 0; end = length file })
  unfolding has_or span_of
  has_here which rest =
      let s = file-size in
      rw (at-start, lt-ltb 0 (length file) (omega arith), span_end)

  -- as the site's file, beside any stock file that is fine
  pub found_site : (stock : List ℕ) (n : ℕ) → length stock ≤ max_file → read_file stock ≡ Next n → length file ≤ max_file → found stock file name ≡ At Site (record { at = 0; end = length file })
  unfolding found
  found_site stock n h e k = checked-fine Stock stock _ n h e ∙ checked-fine Site file _ _ k written-fine ∙ has_here Site _

  -- as the stock file, beside any site's file that is fine and lacks the name
  pub found_stock : (site : List ℕ) (n : ℕ) → length site ≤ max_file → read_file site ≡ Next n → length site ≤ place_of site name → length file ≤ max_file → found file site name ≡ At Stock (record { at = 0; end = length file })
  unfolding found has_or
  found_stock site n h e lacks k = checked-fine Stock file _ _ k written-fine ∙ checked-fine Site site _ n h e ∙ rw (le-ltb (place_of site name) (length site) lacks) (has_here Stock Missing)

  pub part_site : (stock : List ℕ) → part_of stock file (At Site (record { at = 0; end = length file })) ≡ file
  unfolding part_of bytes_in
  part_site stock = part-all file

  pub part_stock : (site : List ℕ) → part_of file site (At Stock (record { at = 0; end = length file })) ≡ file
  unfolding part_of bytes_in
  part_stock site = part-all file

-- ---- files of one name are equal only if their masks and rules are
module _ (name : List ℕ) (L M : Layer) (qs ps : List Rule) (some : 1 ≤ length name) (short : length name ≤ max_ruleset_name) (fit : FitAll qs) (fit' : FitAll ps) where
  pub same-rules : written name L qs ≡ written name M ps → qs ≡ ps
  same-rules e = sym (rules_read_back name L qs some short fit 1) ∙ ap (rules_of 1) e ∙ rules_read_back name M ps some short fit' 1

  same-masks : written name L qs ≡ written name M ps → masks_bytes L ≡ masks_bytes M
  same-masks e = sym (masks_read_back name L qs some short fit) ∙ ap masks_of e ∙ masks_read_back name M ps some short fit'

  pub same-fs : MasksFit L → MasksFit M → written name L qs ≡ written name M ps → L.fs ≡ M.fs
  same-fs h k e = sym (fs_back L h) ∙ ap fs_mask (same-masks e) ∙ fs_back M k

  pub same-net : MasksFit L → MasksFit M → written name L qs ≡ written name M ps → L.net ≡ M.net
  same-net h k e = sym (net_back L h) ∙ ap net_mask (same-masks e) ∙ net_back M k

  pub same-scope : MasksFit L → MasksFit M → written name L qs ≡ written name M ps → L.scope ≡ M.scope
  same-scope h k e = sym (scope_back L h) ∙ ap scope_mask (same-masks e) ∙ scope_back M k

-- The fields of a written file. Assumes nothing.
use mathlib.Core.Path.{◌≡◌, refl, sym, ap, ◌∙◌}
use mathlib.Core.List.{List, [], ◌∷◌, ◌++◌, append-nil}
use Prim.Native.Nat.{ℕ, zero, suc, ◌+◌, ◌*◌, ◌/◌, ◌%◌, ◌^◌, ◌≤◌, ◌<◌}
use native.Mathlib.Omega.{arith}
use native.Mathlib.Nat.{pow-suc}
use native.Mathlib.Numerals.{add-one}
use lib.ListN.{length, get_or, drop, length-append}
use lib.Seq.{take-append_seam, drop-append_seam, drop_at, drop-drop, get_or-drop}
use Rattle.access.specs.Limits.{max_port}
use Rattle.tables.specs.Layers.{Layer}
use Rattle.ruleset.specs.Attribute.{number, fs_mask, net_mask, scope_mask}
use Rattle.names.specs.Paths.{max_path}
use Rattle.policy.specs.Fields.{bytes_of, ruleset_tag, masks_tag, path_tag, port_tag, Piece, field, pieces}
use Rattle.policy.specs.Files.{max_ruleset_name, masks_size}
use Rattle.policy.specs.Grammar.{rights_size, port_size}
use Rattle.policy.specs.Meaning.{Rule, path, port}
use Rattle.policy.proofs.Pieces.{pieces_nil, pieces_whole}
use Rattle.policy_write.specs.Written.{field_bytes, rule_bytes, rules_bytes, masks_bytes, written}

-- ---- numbers
pub length-bytes : (n x : ℕ) → length (bytes_of n x) ≡ n
unfolding bytes_of
length-bytes zero x = refl
length-bytes (suc n) x = ap suc (length-bytes n (x / 256))

-- a number is read back from its bytes, wherever they stand
pub number_at : (n x : ℕ) (bs post : List ℕ) (at : ℕ) → drop at bs ≡ bytes_of n x ++ post → x < 256 ^ n → number bs at n ≡ x
unfolding bytes_of number
number_at zero x bs post at e h = omega arith
number_at (suc n) x bs post at e h =
    let p : 256 ^ suc n ≡ 256 ^ n * 256 = pow-suc 256 n in
    let z : at + 0 ≡ at = omega arith in
    let b : get_or bs at 0 ≡ x % 256 = ap (λ (k : ℕ). get_or bs k 0) (sym z) ∙ sym (get_or-drop at bs 0 0) ∙ ap (λ (l : List ℕ). get_or l 0 0) e in
    let d : drop (suc at) bs ≡ bytes_of n (x / 256) ++ post = ap (λ (k : ℕ). drop k bs) (sym (add-one at)) ∙ sym (drop-drop 1 at bs) ∙ ap (drop 1) e in
    let r : number bs (suc at) n ≡ x / 256 = number_at n (x / 256) bs post (suc at) d (omega arith) in
    omega arith

-- ---- masks
unfoldable pub MasksFit : Layer → Type 0
MasksFit L = (L.fs < 2 ^ 64) × (L.net < 2 ^ 64) × (L.scope < 2 ^ 64)

module _ (L : Layer) where
  pub length-masks : length (masks_bytes L) ≡ masks_size
  unfolding masks_bytes
  length-masks =
      let a = length-append (bytes_of 8 L.fs) (bytes_of 8 L.net ++ bytes_of 8 L.scope) in
      let b = length-append (bytes_of 8 L.net) (bytes_of 8 L.scope) in
      let p = length-bytes 8 L.fs in
      let q = length-bytes 8 L.net in
      let r = length-bytes 8 L.scope in
      omega arith

  past-fs : drop 8 (masks_bytes L) ≡ bytes_of 8 L.net ++ bytes_of 8 L.scope
  unfolding masks_bytes
  past-fs = drop_at (bytes_of 8 L.fs) _ 8 (length-bytes 8 L.fs)

  past-net : drop 16 (masks_bytes L) ≡ bytes_of 8 L.scope
  past-net = sym (drop-drop 8 8 (masks_bytes L)) ∙ ap (drop 8) past-fs ∙ drop_at (bytes_of 8 L.net) _ 8 (length-bytes 8 L.net)

  module _ (fits : MasksFit L) where
    pub fs_back : fs_mask (masks_bytes L) ≡ L.fs
    unfolding masks_bytes MasksFit
    fs_back = number_at 8 L.fs (masks_bytes L) (bytes_of 8 L.net ++ bytes_of 8 L.scope) 0 refl fits.0

    pub net_back : net_mask (masks_bytes L) ≡ L.net
    unfolding MasksFit
    net_back = number_at 8 L.net (masks_bytes L) (bytes_of 8 L.scope) 8 past-fs fits.1

    pub scope_back : scope_mask (masks_bytes L) ≡ L.scope
    unfolding MasksFit
    scope_back = number_at 8 L.scope (masks_bytes L) [] 16 (past-net ∙ sym (append-nil (bytes_of 8 L.scope))) fits.2

-- ---- a field is read back whole
pub pieces-field : (t : ℕ) (v ys : List ℕ) → length v < 65536 → pieces (field_bytes t v ++ ys) ≡ field t v ∷ pieces ys
unfolding field_bytes
pieces-field t v ys h =
    let k : length v % 256 + 256 * (length v / 256) ≡ length v = omega arith in
    let l = length-append v ys in
    pieces_whole t (length v % 256) (length v / 256) (v ++ ys) (omega arith) ∙ rw (k, take-append_seam, drop-append_seam)

-- ---- rules
-- a rule that fits its field
unfoldable pub Fits : Rule → Type 0
Fits (path rights p) = (rights < 2 ^ 64) × (length p ≤ max_path)
Fits (port rights n) = (rights < 2 ^ 64) × (n ≤ max_port)

unfoldable pub FitAll : List Rule → Type 0
FitAll [] = Unit {0}
FitAll (q ∷ qs) = Fits q × FitAll qs

-- the tag and the value of a rule's field
unfoldable pub tag_in : Rule → ℕ
tag_in (path rights p) = path_tag
tag_in (port rights n) = port_tag

unfoldable pub value_in : Rule → List ℕ
value_in (path rights p) = bytes_of rights_size rights ++ p
value_in (port rights n) = bytes_of rights_size rights ++ bytes_of 2 n

unfoldable pub fields_of : List Rule → List Piece
fields_of [] = []
fields_of (q ∷ qs) = field (tag_in q) (value_in q) ∷ fields_of qs

pub length-port : (rights n : ℕ) → length (value_in (port rights n)) ≡ port_size
unfolding value_in
length-port rights n = let a = length-append (bytes_of 8 rights) (bytes_of 2 n) in let b = length-bytes 8 rights in let c = length-bytes 2 n in omega arith

pub length-path : (rights : ℕ) (p : List ℕ) → length (value_in (path rights p)) ≡ rights_size + length p
unfolding value_in
length-path rights p = let a = length-append (bytes_of 8 rights) p in let b = length-bytes 8 rights in omega arith

length_value : (q : Rule) → Fits q → length (value_in q) < 65536
unfolding Fits
length_value (path rights p) h = let a = length-path rights p in omega arith
length_value (port rights n) h = let a = length-port rights n in omega arith

rule-bytes : (q : Rule) → rule_bytes q ≡ field_bytes (tag_in q) (value_in q)
unfolding rule_bytes tag_in value_in
rule-bytes (path rights p) = refl
rule-bytes (port rights n) = refl

pub rules-pieces : (qs : List Rule) → FitAll qs → pieces (rules_bytes qs) ≡ fields_of qs
unfolding rules_bytes fields_of FitAll
rules-pieces [] h = pieces_nil
rules-pieces (q ∷ qs) h =
    ap (λ (l : List ℕ). pieces (l ++ rules_bytes qs)) (rule-bytes q)
    ∙ pieces-field (tag_in q) (value_in q) (rules_bytes qs) (length_value q h.0)
    ∙ ap (λ ps. field (tag_in q) (value_in q) ∷ ps) (rules-pieces qs h.1)

-- ---- the whole file
pub masks-pieces : (L : Layer) (qs : List Rule) → FitAll qs → pieces (field_bytes masks_tag (masks_bytes L) ++ rules_bytes qs) ≡ field masks_tag (masks_bytes L) ∷ fields_of qs
masks-pieces L qs k = let l = length-masks L in pieces-field masks_tag (masks_bytes L) (rules_bytes qs) (omega arith) ∙ ap (λ ps. field masks_tag (masks_bytes L) ∷ ps) (rules-pieces qs k)

pub written-pieces : (name : List ℕ) (L : Layer) (qs : List Rule) → length name ≤ max_ruleset_name → FitAll qs
    → pieces (written name L qs) ≡ field ruleset_tag name ∷ field masks_tag (masks_bytes L) ∷ fields_of qs
unfolding written
written-pieces name L qs h k =
    pieces-field ruleset_tag name (field_bytes masks_tag (masks_bytes L) ++ rules_bytes qs) (omega arith) ∙ ap (λ ps. field ruleset_tag name ∷ ps) (masks-pieces L qs k)

-- A ruleset that was found in a fine file: its fields are fine, so the walk finds its counted rules. Assumes nothing.
use mathlib.Core.Path.{◌≡◌, refl, sym, ap, ◌∙◌, subst}
use mathlib.Core.Bool.{Bool, true, false, false≢true}
use mathlib.Core.List.{List, [], ◌∷◌}
use Prim.Native.Nat.{ℕ, zero, suc, ◌+◌, ◌-◌, ◌<◌}
use native.Mathlib.Omega.{arith}
use lib.Dec.{eqb}
use lib.ListN.{length, take, drop, length-drop}
use lib.Seq.{take_all, drop-drop}
use borrow.Author.Tests.{eqb-true}
use Rattle.laws.specs.Cells.{part}
use Rattle.laws.proofs.Bools.{split, clash, and_l, and_r}
use Rattle.names.specs.Names.{same_bytes}
use Rattle.names.proofs.Bytes.{bytes_equal}
use Rattle.policy.specs.Fields.{ruleset_tag, masks_tag, group_tag, header, group_header, Piece, field, stray, size, tag_of, pieces, front}
use Rattle.policy.specs.Grammar.{max_depth, each, tested, is_rule, is_level, plain, group_or, rule}
use Rattle.policy.specs.Files.{masks_size, first_place, place_of, opens, is_name, is_masks, allowed, read_from, read_file}
use Rattle.policy.specs.Find.{is_opening, span_of}
use Rattle.policy.specs.Meaning.{rules_of}
use Rattle.policy.specs.declared.Read.{Read}
use Rattle.policy.specs.declared.Read.TheVariants.{Next}
use Rattle.policy.proofs.Pieces.{pieces_nil}
use Rattle.policy.proofs.Grammar.{fault_next, then_both, level-some}
use Rattle.policy_walk.specs.Flat.{flatten}
use Rattle.policy_walk.proofs.Fronts.{Front, fronts, front-pieces, front_length, drop_past, take-pieces, GoodAll, by_fronts}
use Rattle.policy_walk.proofs.Counts.{Good, no_stray, walk-rules}

-- ---- fields that are read as fine are good
each_good : (g : ℕ → Piece → Read) (G : Piece → Type 0) → ((at : ℕ) (p : Piece) (n : ℕ) → g at p ≡ Next n → G p) → (at : ℕ) (ps : List Piece) (n : ℕ) → each g at ps ≡ Next n → GoodAll G ps
unfolding each
each_good g G h at [] n e = tt
each_good g G h at (p ∷ ps) n e =
    let t = then_both (g at p) (each g (at + size p) ps) n e in
    (h at p t.0 t.1, each_good g G h (at + size p) ps n t.2)

no_group : (t n : ℕ) → is_rule t n ≡ true → eqb t group_tag ≡ false
unfolding is_rule
no_group t n e = split (eqb t group_tag) (λ q. let five : t ≡ group_tag = eqb-true t group_tag q in absurd (false≢true (rw five at e))) (λ q. q)

tested_true : (b : Bool) (at : ℕ) (p : Piece) (n : ℕ) → tested b at p ≡ Next n → b ≡ true
unfolding tested
tested_true true at p n e = refl
tested_true false at p n e = fault_next at n e

plain_good : (at : ℕ) (p : Piece) (n : ℕ) → plain at p ≡ Next n → Good zero p
unfolding Good plain
plain_good at (stray s) n e = fault_next at n e
plain_good at (field t v) n e = no_group t (length v) (tested_true (is_rule t (length v)) at (field t v) n e)

group_good : (d : ℕ) (inner : ℕ → Piece → Read) → ((at : ℕ) (p : Piece) (n : ℕ) → inner at p ≡ Next n → Good d p) → (at : ℕ) (p : Piece) (n : ℕ) → group_or inner at p ≡ Next n → Good (suc d) p
unfolding group_or Good
group_good d inner h at (stray s) n e = fault_next at n e
group_good d inner h at (field t v) n e =
    λ five. split (is_level v)
    (λ lv. (level-some v lv, each_good inner (Good d) h (at + group_header) (pieces (drop 1 v)) n (rw (five, lv) at e)))
    (λ lv. fault_next at n (rw (five, lv) at e))

rule_good : (d at : ℕ) (p : Piece) (n : ℕ) → rule d at p ≡ Next n → Good d p
unfolding rule
rule_good zero at p n e = plain_good at p n e
rule_good (suc d) at p n e = group_good d (rule d) (rule_good d) at p n e

-- a field that is no group
other_good : (d t : ℕ) (v : List ℕ) → eqb t group_tag ≡ false → Good d (field t v)
unfolding Good
other_good zero t v e = e
other_good (suc d) t v e = λ five. clash (eqb t group_tag) five e

masks_good : (d : ℕ) (p : Piece) → is_masks p ≡ true → Good d p
unfolding is_masks
masks_good d (stray s) e = absurd (false≢true e)
masks_good d (field t v) e = let two : t ≡ masks_tag = eqb-true t masks_tag (and_l (eqb t masks_tag) (eqb (length v) masks_size) e) in other_good d t v (rw two)

name_good : (d : ℕ) (f : List ℕ) (at : ℕ) (p : Piece) → eqb (tag_of p) ruleset_tag ≡ true → is_name f at p ≡ true → Good d p
unfolding is_name tag_of
name_good d f at (stray s) t e = absurd (false≢true e)
name_good d f at (field t v) q e = let one : t ≡ ruleset_tag = eqb-true t ruleset_tag q in other_good d t v (rw one)

allowed_good : (f : List ℕ) (before at : ℕ) (p : Piece) (n : ℕ) → allowed f before at p ≡ Next n → Good max_depth p
unfolding allowed
allowed_good f before at p n e =
    split (eqb before ruleset_tag)
    (λ b. masks_good max_depth p (tested_true (is_masks p) at p n (rw b at e)))
    (λ b. split (eqb (tag_of p) ruleset_tag)
    (λ t. name_good max_depth f at p t (tested_true (is_name f at p) at p n (rw (b, t) at e)))
    (λ t. split (eqb before 0)
    (λ z. fault_next at n (rw (b, t, z) at e))
    (λ z. rule_good max_depth at p n (rw (b, t, z) at e))))

read_good : (f : List ℕ) (before at : ℕ) (ps : List Piece) (n : ℕ) → read_from f before at ps ≡ Next n → GoodAll (Good max_depth) ps
unfolding read_from
read_good f before at [] n e = tt
read_good f before at (p ∷ ps) n e =
    let t = then_both (allowed f before at p) (read_from f (tag_of p) (at + size p) ps) n e in
    (allowed_good f before at p t.0 t.1, read_good f (tag_of p) (at + size p) ps n t.2)

file_good : (f : List ℕ) (n : ℕ) → read_file f ≡ Next n → GoodAll (Good max_depth) (pieces f)
unfolding read_file
file_good f n e = read_good f 0 0 (pieces f) n e

-- ---- good bytes, up to the first field that passes a test, and from there on
module _ (test : Piece → Bool) where
  -- how far it is
  unfoldable ahead : List Piece → ℕ
  ahead ps = first_place test 0 ps

  place_ahead : (at : ℕ) (ps : List Piece) → first_place test at ps ≡ at + ahead ps
  unfolding first_place ahead
  place_ahead at [] = omega arith
  place_ahead at (p ∷ ps) =
      let a = place_ahead (at + size p) ps in
      let b = place_ahead (0 + size p) ps in
      split (test p) (λ q. rw q (omega arith)) (λ q. rw q (omega arith))

  ahead_here : (p : Piece) (ps : List Piece) → test p ≡ true → ahead (p ∷ ps) ≡ 0
  unfolding ahead first_place
  ahead_here p ps q = rw q

  ahead_on : (p : Piece) (ps : List Piece) → test p ≡ false → ahead (p ∷ ps) ≡ size p + ahead ps
  unfolding ahead first_place
  ahead_on p ps q = let z : 0 + size p + ahead ps ≡ size p + ahead ps = omega arith in rw q (place_ahead (0 + size p) ps ∙ z)

  module _ (G : Piece → Type 0) (whole : (s : List ℕ) → G (stray s) → ⊥) where
    abbrev Parted : List ℕ → Type 0
    Parted xs = GoodAll G (pieces (take (ahead (pieces xs)) xs)) × GoodAll G (pieces (drop (ahead (pieces xs)) xs)) × (ahead (pieces xs) < length xs → test (front (pieces (drop (ahead (pieces xs)) xs))) ≡ true)

    parted_nil : Parted []
    parted_nil =
        let z : ahead (pieces []) ≡ 0 = ap ahead pieces_nil ∙ unfold ahead first_place in refl in
        rw z (rw pieces_nil tt, rw pieces_nil tt, λ h. absurd (omega arith))

    parted_more : (xs : List ℕ) (t : ℕ) (v : List ℕ) (F : Front xs t v) → G (field t v) → GoodAll G (pieces F.rest) → Parted F.rest → Parted xs
    parted_more xs t v F g gs r =
        let ps : pieces xs ≡ field t v ∷ pieces F.rest = front-pieces F in
        split (test (field t v))
        (λ q.
        let z : ahead (pieces xs) ≡ 0 = ap ahead ps ∙ ahead_here (field t v) (pieces F.rest) q in
        let f : front (pieces xs) ≡ field t v = ap front ps ∙ unfold front in refl in
        let all : GoodAll G (pieces xs) = subst (GoodAll G) (sym ps) (g, gs) in
        rw z (rw pieces_nil tt, all, λ h. rw f q))
        (λ q.
        let k : ℕ = ahead (pieces F.rest) in
        let z : ahead (pieces xs) ≡ length v + header + k = ap ahead ps ∙ ahead_on (field t v) (pieces F.rest) q ∙ unfold size in refl in
        let len = front_length F in
        rw z (
          rw (take-pieces F k) (g, r.0),
          rw (drop_past F k) r.1,
          λ h. rw (drop_past F k) (r.2 (omega arith)),
        ))

    parted : (xs : List ℕ) → GoodAll G (pieces xs) → Parted xs
    parted xs g = by_fronts G whole Parted parted_nil parted_more xs g

opens-is : (name : List ℕ) (p : Piece) → opens name p ≡ true → p ≡ field ruleset_tag name
unfolding opens
opens-is name (field t v) e =
    let one : t ≡ ruleset_tag = eqb-true t ruleset_tag (and_l (eqb t ruleset_tag) (same_bytes name v) e) in
    let val : name ≡ v = bytes_equal name v (and_r (eqb t ruleset_tag) (same_bytes name v) e) in
    cc
opens-is name (stray s) e = absurd (false≢true e)

-- ---- the part of a ruleset that a fine file has
module _ (f name : List ℕ) (n : ℕ) (fine : read_file f ≡ Next n) (has : place_of f name < length f) where
  abbrev p : ℕ
  p = place_of f name

  abbrev from : ℕ
  from = p + header + length name

  is_ahead : ahead (opens name) (pieces f) ≡ p
  is_ahead = unfold ahead in refl

  before : Parted (opens name) (Good max_depth) (no_stray max_depth) f
  before = parted (opens name) (Good max_depth) (no_stray max_depth) f (file_good f n fine)

  -- from its tag on
  F : Front (drop p f) ruleset_tag name
  F = fronts (drop p f) ruleset_tag name (opens-is name (front (pieces (drop p f))) (rw is_ahead at before.2 has))

  rest_good : GoodAll (Good max_depth) (pieces F.rest)
  rest_good = (subst (GoodAll (Good max_depth)) (front-pieces F) (rw is_ahead at before.1)).1

  rest-is : part f from (length f) ≡ F.rest
  rest-is =
      let q : p + (length name + header + 0) ≡ from = omega arith in
      let l = length-drop from f in
      take_all (length f - from) (drop from f) (omega arith) ∙ ap (λ (k : ℕ). drop k f) (sym q) ∙ sym (drop-drop (length name + header + 0) p f) ∙ drop_past F 0

  -- how many bytes of rules and masks it has
  abbrev more : ℕ
  more = ahead is_opening (pieces F.rest)

  end_is : (span_of f name p).end ≡ from + more
  unfolding span_of
  end_is = place_ahead is_opening from (pieces (part f from (length f))) ∙ ap (λ (xs : List ℕ). from + ahead is_opening (pieces xs)) rest-is

  part_good : GoodAll (Good max_depth) (pieces (part f p (span_of f name p).end))
  part_good =
      let e = end_is in
      let l : (span_of f name p).end - p ≡ length name + header + more = omega arith in
      let r = parted is_opening (Good max_depth) (no_stray max_depth) F.rest rest_good in
      rw (l, take-pieces F more) (other_good max_depth ruleset_tag name refl, r.0)

  -- so the walk over it finds exactly its counted rules
  pub part-rules : (level : ℕ) → flatten level (part f p (span_of f name p).end) ≡ rules_of level (part f p (span_of f name p).end)
  part-rules level = walk-rules level (part f p (span_of f name p).end) part_good

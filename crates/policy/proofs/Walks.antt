-- Laws of walks over a file's fields. Assumes nothing.
use mathlib.Core.Path.{◌≡◌, ap, ◌∙◌}
use mathlib.Core.Bool.{Bool, true, false, false≢true}
use mathlib.Core.List.{List, [], ◌∷◌}
use Prim.Native.Nat.{ℕ, ◌+◌, ◌*◌, ◌≤◌, ◌<◌}
use native.Mathlib.Omega.{arith}
use lib.Dec.{eqb, leb}
use lib.ListN.{length, get_or}
use borrow.Author.Tests.{leb-true, leb-false, eq-eqb, ne_eqb}
use Rattle.laws.specs.Cells.{part}
use Rattle.laws.proofs.Bools.{split, and_r}
use Rattle.laws.proofs.Cells.{part_length}
use Rattle.names.specs.Names.{same_bytes}
use Rattle.names.proofs.Bytes.{bytes_equal}
use Rattle.policy.specs.Fields.{ruleset_tag, header, Piece, field, stray, size, tag_of, pieces, front}
use Rattle.policy.specs.Front.{WholeAt}
use Rattle.policy.specs.Files.{opens, first_place, place_of}
use Rattle.policy.proofs.Parts.{part-all, part_none, part-first}
use Rattle.policy.proofs.Pieces.{sizes, pieces_sizes, pieces_nil, pieces_whole, pieces-cut, pieces-short, part_step}

-- ---- the first piece of a part
module _ (f : List ℕ) (at end : ℕ) (le : end ≤ length f) where
  cut-ends : pieces (part f at end) ≡ stray (part f at end) ∷ [] → at < end → end ≡ at + size (front (pieces (part f at end)))
  unfolding front size
  cut-ends e h = let l = part_length f at end le in rw e (omega arith)

  pub opens-cut : pieces (part f at end) ≡ stray (part f at end) ∷ [] → (name : List ℕ) → opens name (front (pieces (part f at end))) ≡ false
  unfolding opens front
  opens-cut e name = rw e

  module _ (t n : ℕ) (w : WholeAt f at end t n) where
    pub front-whole : front (pieces (part f at end)) ≡ field t (part f (at + header) n)
    unfolding front
    front-whole = ap front w.here

    pub whole-ends : n ≡ at + size (front (pieces (part f at end)))
    unfolding size
    whole-ends = let l = part_length f (at + header) n (omega arith) in rw front-whole (omega arith)

    pub opens-same : (name : List ℕ) → t ≡ ruleset_tag → opens name (front (pieces (part f at end))) ≡ same_bytes name (part f (at + header) n)
    unfolding opens
    opens-same name e = rw (front-whole, eq-eqb t ruleset_tag e)

    pub opens-other : (name : List ℕ) → (t ≡ ruleset_tag → ⊥) → opens name (front (pieces (part f at end))) ≡ false
    unfolding opens
    opens-other name e = rw (front-whole, ne_eqb t ruleset_tag e)

tag_front : (xs : List ℕ) → 0 < length xs → tag_of (front (pieces xs)) ≡ get_or xs 0 0
unfolding tag_of front
tag_front [] h = absurd (omega arith)
tag_front (t ∷ []) h = rw (pieces-short (t ∷ []) h (omega arith))
tag_front (t ∷ a ∷ []) h = rw (pieces-short (t ∷ a ∷ []) h (omega arith))
tag_front (t ∷ a ∷ b ∷ xs) h =
    split (leb (a + 256 * b) (length xs))
    (λ q. rw (pieces_whole t a b xs (leb-true _ _ q)))
    (λ q. rw (pieces-cut t a b xs (leb-false _ _ q)))

pub tag_at : (f : List ℕ) (at end : ℕ) → end ≤ length f → at < end → tag_of (front (pieces (part f at end))) ≡ get_or f at 0
tag_at f at end le h = let l = part_length f at end le in tag_front (part f at end) (omega arith) ∙ part-first f at end h le

-- ---- the first piece that passes a test
module _ (test : Piece → Bool) (f : List ℕ) where
  pub first-start : first_place test 0 (pieces f) ≡ first_place test 0 (pieces (part f 0 (length f)))
  first-start = rw (part-all f)

  pub first_done : (at : ℕ) → first_place test at (pieces (part f at at)) ≡ at
  unfolding first_place
  first_done at = rw (part_none f at, pieces_nil)

  module _ (at end : ℕ) (le : end ≤ length f) (h : at < end) where
    abbrev here : Piece
    here = front (pieces (part f at end))

    pub first-here : test here ≡ true → first_place test at (pieces (part f at end)) ≡ at
    first-here e = ap (first_place test at) (part_step f at end le h) ∙ unfold first_place in rw e

    first_on : test here ≡ false → (n : ℕ) → n ≡ at + size here → first_place test at (pieces (part f at end)) ≡ first_place test n (pieces (part f n end))
    first_on e n q = ap (first_place test at) (part_step f at end le h) ∙ unfold first_place in rw (e, q)

    -- a whole field, and bytes that are none
    pub first_past : (t n : ℕ) → WholeAt f at end t n → test here ≡ false → first_place test at (pieces (part f at end)) ≡ first_place test n (pieces (part f n end))
    first_past t n w e = first_on e n (whole-ends f at end le t n w)

    pub first-cut : pieces (part f at end) ≡ stray (part f at end) ∷ [] → test here ≡ false → first_place test at (pieces (part f at end)) ≡ end
    first-cut c e = first_on e end (cut-ends f at end le c h) ∙ first_done end

-- where a walk ends
pub first_from_lem : (test : Piece → Bool) (at : ℕ) (ps : List Piece) → (at ≤ first_place test at ps) × (first_place test at ps ≤ at + sizes ps)
unfolding first_place sizes
first_from_lem test at [] = (omega arith, omega arith)
first_from_lem test at (p ∷ ps) =
    let r = first_from_lem test (at + size p) ps in
    split (test p) (λ q. rw q (omega arith, omega arith)) (λ q. rw q (omega arith, omega arith))

-- ---- the ruleset that is found has room for its name
opens-size : (name : List ℕ) (p : Piece) → opens name p ≡ true → size p ≡ length name + header
unfolding opens size
opens-size name (field t v) e = let q : name ≡ v = bytes_equal name v (and_r (eqb t ruleset_tag) (same_bytes name v) e) in rw q
opens-size name (stray s) e = absurd (false≢true e)

named-fits : (name : List ℕ) (at : ℕ) (ps : List Piece) → first_place (opens name) at ps < at + sizes ps → first_place (opens name) at ps + header + length name ≤ at + sizes ps
unfolding first_place sizes
named-fits name at [] h = absurd (omega arith)
named-fits name at (p ∷ ps) h =
    split (opens name p)
    (λ q. let k : size p ≡ length name + header = opens-size name p q in rw q (omega arith))
    (λ q.
    let g : first_place (opens name) (at + size p) ps < at + (size p + sizes ps) = rw q at h in
    let r = named-fits name (at + size p) ps (omega arith) in
    rw q (omega arith))

pub place-fits : (f name : List ℕ) → place_of f name < length f → place_of f name + header + length name ≤ length f
place-fits f name h =
    let s = pieces_sizes f in
    let k = named-fits name 0 (pieces f) (omega arith) in
    omega arith

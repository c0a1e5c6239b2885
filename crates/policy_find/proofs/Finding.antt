-- What the code's tests tell of two files, and that a ruleset's part lies in its file. Assumes nothing.
use mathlib.Core.Path.{◌≡◌, sym, ◌∙◌}
use mathlib.Core.Bool.{true, false}
use mathlib.Core.List.{List}
use Prim.Native.Nat.{ℕ, ◌+◌, ◌≤◌, ◌<◌}
use native.Mathlib.Omega.{arith}
use lib.Dec.{ltb}
use lib.ListN.{length, get_or}
use borrow.Author.Tests.{eq-eqb, ne_eqb, ltb-true, lt-ltb, le-ltb}
use Rattle.laws.specs.Cells.{part}
use Rattle.laws.proofs.Bools.{split}
use Rattle.laws.proofs.Cells.{part_length}
use Rattle.policy.specs.Fields.{ruleset_tag, header, pieces, front}
use Rattle.policy.specs.Files.{place_of, read_file}
use Rattle.policy.specs.Find.{max_file, is_opening, span_of, whole, checked, has_or, found, bytes_in}
use Rattle.policy.specs.declared.Read.{Read}
use Rattle.policy.specs.declared.Read.TheVariants.{Next, Fault}
use Rattle.policy.specs.declared.Span.{Span}
use Rattle.policy.specs.declared.File.{File}
use Rattle.policy.specs.declared.File.TheVariants.{Stock, Site}
use Rattle.policy.specs.declared.Found.{Found}
use Rattle.policy.specs.declared.Found.TheVariants.{At, TooBig, Damaged, Missing}
use Rattle.policy_find.specs.Within.{Inside, Within}
use Rattle.policy.proofs.Pieces.{pieces_sizes}
use Rattle.policy.proofs.Walks.{tag_at, first_from_lem, place-fits}

-- ---- the next ruleset
module _ (f : List ℕ) (at end : ℕ) (le : end ≤ length f) (h : at < end) where
  pub opening : get_or f at 0 ≡ ruleset_tag → is_opening (front (pieces (part f at end))) ≡ true
  unfolding is_opening
  opening e = eq-eqb _ ruleset_tag (tag_at f at end le h ∙ e)

  pub no_opening : (get_or f at 0 ≡ ruleset_tag → ⊥) → is_opening (front (pieces (part f at end))) ≡ false
  unfolding is_opening
  no_opening e = ne_eqb _ ruleset_tag (λ q. e (sym (tag_at f at end le h) ∙ q))

-- ---- a file that is read
pub checked_big : (file : File) (f : List ℕ) (rest : Found) → max_file < length f → checked file f rest ≡ TooBig file
unfolding checked
checked_big file f rest h = rw (lt-ltb max_file (length f) h)

module _ (file : File) (f : List ℕ) (rest : Found) (small : length f ≤ max_file) where
  pub checked_fault : {p : ℕ} → read_file f ≡ Fault p → checked file f rest ≡ Damaged file p
  unfolding checked whole
  checked_fault e = rw (le-ltb max_file (length f) small, e)

  pub checked-fine : {n : ℕ} → read_file f ≡ Next n → checked file f rest ≡ rest
  unfolding checked whole
  checked-fine e = rw (le-ltb max_file (length f) small, e)

-- ---- a file that has the name, or not
module _ (file : File) (f name : List ℕ) (rest : Found) {at : ℕ} (e : at ≡ place_of f name) where
  pub has-fits : at < length f → at + header + length name ≤ length f
  has-fits h = rw e (place-fits f name (rw e at h))

  pub has_here : {s : Span} → at < length f → s ≡ span_of f name at → At file s ≡ has_or file f name rest
  unfolding has_or
  has_here h q = let k : place_of f name < length f = rw e at h in rw (q, e, lt-ltb (place_of f name) (length f) k)

  pub has_not : length f ≤ at → rest ≡ has_or file f name rest
  unfolding has_or
  has_not h = let k : length f ≤ place_of f name = rw e at h in rw (le-ltb (place_of f name) (length f) k)

-- ---- a ruleset's part lies in its file
span_inside : (f name : List ℕ) (at : ℕ) → at + header + length name ≤ length f → Inside f (span_of f name at)
unfolding span_of
span_inside f name at h =
    let from : ℕ = at + header + length name in
    let b = first_from_lem is_opening from (pieces (part f from (length f))) in
    let s = pieces_sizes (part f from (length f)) in
    let l = part_length f from (length f) (omega arith) in
    (omega arith, omega arith)

module _ (stock site : List ℕ) where
  abbrev Here : Found → Type 0
  Here = Within stock site

  whole-within : (file : File) (r : Read) (rest : Found) → Here rest → Here (whole file r rest)
  unfolding whole
  whole-within file (Next n) rest w = w
  whole-within file (Fault p) rest w = tt

  checked-within : (file : File) (f : List ℕ) (rest : Found) → Here rest → Here (checked file f rest)
  unfolding checked
  checked-within file f rest w = split (ltb max_file (length f)) (λ q. rw q tt) (λ q. rw q (whole-within file (read_file f) rest w))

  has_within : (file : File) (name : List ℕ) (rest : Found) → Here rest → Here (has_or file (bytes_in stock site file) name rest)
  unfolding has_or
  has_within file name rest w =
      let f = bytes_in stock site file in
      split (ltb (place_of f name) (length f))
      (λ q. rw q (span_inside f name (place_of f name) (place-fits f name (ltb-true _ _ q))))
      (λ q. rw q w)

  pub found_within : (name : List ℕ) → Here (found stock site name)
  unfolding found bytes_in
  found_within name = checked-within Stock stock _ (checked-within Site site _ (has_within Site name _ (has_within Stock name Missing tt)))

-- What a name means is in a fine file, so the walk over its part finds its counted rules; the empty part of a refusal has none. Assumes nothing.
use mathlib.Core.Path.{◌≡◌, refl, sym, ◌∙◌}
use mathlib.Core.Bool.{true}
use mathlib.Core.List.{List, []}
use Prim.Native.Nat.{ℕ}
use lib.Dec.{ltb}
use lib.ListN.{length}
use borrow.Author.Tests.{ltb-true}
use Rattle.laws.proofs.Bools.{split}
use Rattle.policy.specs.Files.{place_of, read_file}
use Rattle.policy.specs.Find.{max_file, span_of, whole, checked, has_or, found, bytes_in, part_of}
use Rattle.policy.specs.Meaning.{rules_of, collect}
use Rattle.policy.specs.declared.File.{File}
use Rattle.policy.specs.declared.File.TheVariants.{Stock, Site}
use Rattle.policy.specs.declared.Found.{Found}
use Rattle.policy.specs.declared.Found.TheVariants.{At, TooBig, Damaged, Missing}
use Rattle.policy.specs.declared.Read.{Read}
use Rattle.policy.specs.declared.Read.TheVariants.{Next, Fault}
use Rattle.policy.proofs.Pieces.{pieces_nil}
use Rattle.policy_walk.specs.Flat.{flatten}
use Rattle.policy_walk.proofs.Flat.{flatten_nil}
use Rattle.policy_walk.proofs.Fine.{part-rules}

none-rules : (level : ℕ) → flatten level [] ≡ rules_of level []
unfolding rules_of collect
none-rules level = flatten_nil level ∙ rw pieces_nil

module _ (stock site name : List ℕ) (level : ℕ) where
  abbrev Walked : Found → Type 0
  Walked f = flatten level (part_of stock site f) ≡ rules_of level (part_of stock site f)

  -- what follows is asked for only if the file is fine
  abbrev Fine : List ℕ → Type 0
  Fine f = (n : ℕ) × (read_file f ≡ Next n)

  walked_whole : (file : File) (f : List ℕ) (r : Read) (rest : Found) → read_file f ≡ r → (Fine f → Walked rest) → Walked (whole file r rest)
  unfolding whole part_of
  walked_whole file f (Next n) rest e w = w (n, e)
  walked_whole file f (Fault p) rest e w = none-rules level

  walked-checked : (file : File) (f : List ℕ) (rest : Found) → (Fine f → Walked rest) → Walked (checked file f rest)
  unfolding checked part_of
  walked-checked file f rest w = split (ltb max_file (length f)) (λ q. rw q (none-rules level)) (λ q. rw q (walked_whole file f (read_file f) rest refl w))

  walked-has : (file : File) (rest : Found) → Fine (bytes_in stock site file) → Walked rest → Walked (has_or file (bytes_in stock site file) name rest)
  unfolding has_or span_of part_of
  walked-has file rest fine w =
      let f = bytes_in stock site file in
      split (ltb (place_of f name) (length f))
      (λ q. rw q (part-rules f name fine.0 fine.1 (ltb-true (place_of f name) (length f) q) level))
      (λ q. rw q w)

  pub found-rules : Walked (found stock site name)
  unfolding found bytes_in
  found-rules =
      walked-checked Stock stock _
      (λ a. walked-checked Site site _ (λ b. walked-has Site _ b (walked-has Stock Missing a (unfold part_of in none-rules level))))

-- The second field of a ruleset's part. Assumes nothing.
use mathlib.Core.Path.{◌≡◌, refl, sym, ap, ◌∙◌}
use mathlib.Core.List.{List, [], ◌∷◌}
use Prim.Native.Nat.{ℕ, ◌+◌, ◌≤◌}
use lib.ListN.{length}
use Rattle.laws.specs.Cells.{part}
use Rattle.policy.specs.Fields.{header, Piece, field, stray, pieces}
use Rattle.policy.specs.Front.{WholeAt}
use Rattle.policy.specs.Meaning.{second, masks_of}
use Rattle.policy.proofs.Parts.{part-all, part_none}
use Rattle.policy.proofs.Pieces.{pieces_nil}

-- ---- parts with fewer than two fields
pub none-empty : (f : List ℕ) → length f ≡ 0 → [] ≡ masks_of f
unfolding masks_of second
none-empty f e = sym (ap second (ap pieces (sym (part-all f) ∙ rw e (part_none f 0)) ∙ pieces_nil))

pub none-cut : (f : List ℕ) → pieces (part f 0 (length f)) ≡ stray (part f 0 (length f)) ∷ [] → [] ≡ masks_of f
unfolding masks_of second
none-cut f e = sym (ap second (ap pieces (sym (part-all f)) ∙ e))

module _ (f : List ℕ) (t n : ℕ) (w : WholeAt f 0 (length f) t n) where
  -- what follows the first field decides
  behind : masks_of f ≡ second (field t (part f (0 + header) n) ∷ pieces (part f n (length f)))
  unfolding masks_of
  behind = ap second (ap pieces (sym (part-all f)) ∙ w.here)

  pub none_last : n ≡ length f → [] ≡ masks_of f
  unfolding second
  none_last e = sym (behind ∙ rw (e, part_none f (length f), pieces_nil))

  pub none_behind : pieces (part f n (length f)) ≡ stray (part f n (length f)) ∷ [] → [] ≡ masks_of f
  unfolding second
  none_behind e = sym (behind ∙ rw e)

  pub masks-here : (u m : ℕ) → WholeAt f n (length f) u m → part f (n + header) m ≡ masks_of f
  unfolding second
  masks-here u m v = sym (behind ∙ rw v.here)

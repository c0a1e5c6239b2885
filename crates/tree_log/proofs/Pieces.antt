-- A field that is written is read back, whatever follows it, and one that is cut is no field. Assumes nothing.
use mathlib.Core.Path.{◌≡◌, refl, ◌∙◌}
use mathlib.Core.List.{List, [], ◌∷◌, ◌++◌}
use Prim.Native.Nat.{ℕ, zero, suc, ◌+◌, ◌*◌, ◌/◌, ◌%◌, ◌<◌}
use native.Mathlib.Omega.{arith}
use lib.ListN.{length, take, length-append, length-take}
use lib.Seq.{take-append_seam, drop-append_seam}
use Rattle.policy.specs.Fields.{field, stray, cut, pieces}
use Rattle.policy.proofs.Pieces.{pieces_whole, pieces-cut}
use Rattle.policy_write.specs.Written.{field_bytes}

pub pieces-field : (t : ℕ) (v ys : List ℕ) → pieces (field_bytes t v ++ ys) ≡ field t v ∷ pieces ys
unfolding field_bytes
pieces-field t v ys =
    let k : length v % 256 + 256 * (length v / 256) ≡ length v = omega arith in
    let l = length-append v ys in
    pieces_whole t (length v % 256) (length v / 256) (v ++ ys) (omega arith) ∙ rw (k, take-append_seam, drop-append_seam)

-- cut after its first j + 1 bytes
pub pieces_tail : (t : ℕ) (v : List ℕ) (j : ℕ) → suc j < length (field_bytes t v) → pieces (take (suc j) (field_bytes t v)) ≡ stray (take (suc j) (field_bytes t v)) ∷ []
unfolding field_bytes pieces cut
pieces_tail t v zero h = refl
pieces_tail t v (suc zero) h = refl
pieces_tail t v (suc (suc j)) h =
    let k : length v % 256 + 256 * (length v / 256) ≡ length v = omega arith in
    let l = length-take j v in
    pieces-cut t (length v % 256) (length v / 256) (take j v) (omega arith)

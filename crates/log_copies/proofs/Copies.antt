-- A list written over another of its length. Assumes nothing.
use mathlib.Core.Path.{◌≡◌, sym, ◌∙◌}
use mathlib.Core.List.{List, append-nil}
use Prim.Native.Nat.{ℕ, ◌+◌}
use native.Mathlib.Omega.{arith}
use lib.ListN.{length}
use lib.Seq.{ext_get_or, drop-length, sets, sets-eq}
use Rattle.laws.specs.Cells.{copied}
use Rattle.laws.proofs.Copies.{length-copied, copied_in}

module _ (xs src : List ℕ) (l : length src ≡ length xs) where
  pub cells_whole : copied xs 0 src (length src) ≡ src
  cells_whole =
      let n = length-copied xs 0 src (length src) in
      ext_get_or 0 (copied xs 0 src (length src)) src (n ∙ sym l) (λ i h. let z : 0 + i ≡ i = omega arith in rw z at (copied_in xs 0 src (length src) i (omega arith) (omega arith)))

  pub bytes_whole : sets xs 0 src ≡ src
  bytes_whole =
      let n : 0 + length src ≡ length xs = omega arith in
      sets-eq src xs 0 (omega arith) ∙ rw (n, drop-length xs, append-nil src)

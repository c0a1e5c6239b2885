-- Where every number from `end` on passes, those below `end` decide. Assumes nothing.
use mathlib.Core.Path.{◌≡◌, sym}
use mathlib.Core.Bool.{Bool, true}
use Prim.Native.Nat.{ℕ, ◌≤◌}
use native.Mathlib.Nat.{le_refl}
use native.Mathlib.Omega.{arith}
use Rattle.laws.specs.Tests.{all_below}
use Rattle.laws.proofs.Bools.{agree}
use Rattle.laws.proofs.Tests.{all-at, all_of_lem}
use Rattle.sound_tree.proofs.Rows.{all_past}

pub ends_decide : (p : ℕ → Bool) (n end : ℕ) → end ≤ n → ((j : ℕ) → end ≤ j → p j ≡ true) → all_below p end ≡ all_below p n
ends_decide p n end h f =
    agree (all_below p end) (all_below p n)
    (λ q. sym (all_past p n end end (le_refl end) q f))
    (λ q. all_of_lem p end (λ j k. all-at p n j q (omega arith)))

-- Each check of a place refuses: its number is not 0. Assumes nothing.
use mathlib.Core.List.{List}
use Prim.Native.Nat.{ℕ}
use Rattle.laws.proofs.Refusals.{Refusing}
use Rattle.tree_log.specs.Tree.{create_place, move_place, exchange_place}

pub create_refuses : (es : List ℕ) (d : ℕ) → Refusing (create_place es d)
unfolding create_place
create_refuses es d = tt

pub move_refuses : (es : List ℕ) (s d : ℕ) → Refusing (move_place es s d)
unfolding move_place
move_refuses es s d = tt

pub exchange_refuses : (es : List ℕ) (s d x : ℕ) → Refusing (exchange_place es s d x)
unfolding exchange_place
exchange_refuses es s d x = tt

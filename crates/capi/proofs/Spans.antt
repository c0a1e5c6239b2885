-- The span that `skein_layer_rules` writes is where the layer's rules stand in the pool. Assumes nothing.
use mathlib.Core.Path.{◌≡◌, refl, ap}
use mathlib.Core.List.{List, [], ◌∷◌}
use Prim.Native.Nat.{ℕ, zero, suc, ◌+◌, ◌-◌, ◌*◌, min}
use native.Mathlib.Nat.{zero-min, min-zero, suc-min-suc}
use native.Mathlib.Omega.{arith}
use lib.Dec.{eqb}
use lib.ListN.{length, take, drop}
use Rattle.laws.specs.Cells.{part}
use Rattle.laws.proofs.Bools.{split}
use Rattle.tables.specs.Tables.{Tables, rule_width}
use Rattle.tables.specs.Layers.{layer_first, layer_at}
use Rattle.domain.specs.Layer.{layer_code, layer_part}
use Rattle.capi.specs.Codes.{span_from}

take_again : (k : ℕ) (xs : List ℕ) → take (length (take k xs)) xs ≡ take k xs
take_again zero xs = refl
take_again (suc k) [] = refl
take_again (suc k) (x ∷ xs) = ap (λ (r : List ℕ). x ∷ r) (take_again k xs)

drop_most : (k : ℕ) (xs : List ℕ) → drop (min k (length xs)) xs ≡ drop k xs
drop_most zero xs = rw (zero-min (length xs))
drop_most (suc k) [] = rw (min-zero (suc k))
drop_most (suc k) (x ∷ xs) = rw (suc-min-suc k (length xs)) (drop_most k xs)

-- a part by where it starts and how many cells it has
part_again : (xs : List ℕ) (from more : ℕ) → part xs (min from (length xs)) (min from (length xs) + length (part xs from (from + more))) ≡ part xs from (from + more)
part_again xs from more =
    let a : from + more - from ≡ more = omega arith in
    let n = length (take more (drop from xs)) in
    let b : min from (length xs) + n - min from (length xs) ≡ n = omega arith in
    rw (a, b, drop_most from xs) (take_again more (drop from xs))

pub span_is : (T : Tables) (l : ℕ) → part T.pool (span_from T l) (span_from T l + length (layer_part T l)) ≡ layer_part T l
unfolding span_from layer_part layer_at
span_is T l = split (eqb (layer_code T l) 0) (λ q. rw q (part_again T.pool (rule_width * layer_first T.layers l) _)) (λ q. rw q refl)

-- The counted rules of a part by a walk that enters a group that counts, and goes round another.
use Rattle.std.specs.Prelude.{cond, List, [], ◌++◌, ℕ, zero, suc, eqb, leb, length, get_or, drop}
use Rattle.policy.specs.Fields.{group_tag, Piece, field, stray, size, pieces, front}
use Rattle.policy.specs.Meaning.{Rule, rule_of}

-- the first piece, and the bytes behind it
unfoldable pub flat_step : (List ℕ → List Rule) → ℕ → List ℕ → Piece → List Rule
flat_step rest level zs (stray s) = []
flat_step rest level zs (field t v) = cond (eqb t group_tag) (cond (leb (get_or v 0 0) level) (rest (drop 1 v ++ zs)) (rest zs)) (rule_of t v ++ rest zs)

-- n is at least the number of bytes
unfoldable pub flat : ℕ → ℕ → List ℕ → List Rule
flat level zero xs = []
flat level (suc n) xs = flat_step (flat level n) level (drop (size (front (pieces xs))) xs) (front (pieces xs))

unfoldable pub flatten : ℕ → List ℕ → List Rule
flatten level xs = flat level (length xs) xs

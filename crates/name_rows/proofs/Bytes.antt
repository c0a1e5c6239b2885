-- How code comes to names: two compared byte by byte, a byte of a row, the name in one. Assumes nothing.
use mathlib.Core.Path.{◌≡◌, refl, sym, ap, ◌∙◌}
use mathlib.Core.Bool.{true, false}
use mathlib.Core.List.{List, [], ◌∷◌}
use Prim.Native.Nat.{ℕ, suc, ◌+◌, ◌-◌, ◌*◌, ◌≤◌, ◌<◌, min}
use native.Mathlib.Omega.{arith}
use lib.ListN.{length, get_or, take, drop, length-take, length-drop}
use lib.Seq.{ext_get_or}
use Rattle.laws.specs.Cells.{part}
use Rattle.laws.proofs.Bools.{split}
use Rattle.laws.proofs.Cells.{part_cut}
use Rattle.names.specs.Names.{max_name, name_width, same_bytes, row_at, name_of, name_at}
use Rattle.names.proofs.Bytes.{bytes_equal, bytes_same}

module _ (a b : List ℕ) where
  pub differ : (a ≡ b → ⊥) → false ≡ same_bytes a b
  differ n = split (same_bytes a b) (λ q. absurd (n (bytes_equal a b q))) (λ q. sym q)

  pub agree_all : length a ≡ length b → ((i : ℕ) → i < length a → get_or a i 0 ≡ get_or b i 0) → true ≡ same_bytes a b
  agree_all w f = sym (rw (ext_get_or 0 a b w f) (bytes_same b))

-- a byte behind the length
pub behind : (n : List ℕ) (x k : ℕ) → (k ≡ 0 → ⊥) → get_or (x ∷ n) k 0 ≡ get_or n (k - 1) 0
behind n x k d = let e : k ≡ suc (k - 1) = omega arith in ap (λ (m : ℕ). get_or (x ∷ n) m 0) e

-- the name in a row of no bytes
pub name_none : (row : List ℕ) → length row ≡ 0 → part row 0 0 ≡ name_of row
unfolding name_of
name_none [] h = refl
name_none (x ∷ row) h = absurd (let z : suc (length row) ≡ 0 = h in omega arith)

-- the name in a row that has a first byte
pub name_some : (row : List ℕ) (more : ℕ) → 0 < length row → more ≡ min (get_or row 0 0) (length row - 1) → part row 1 (1 + more) ≡ name_of row
unfolding name_of
name_some row more h q =
    let n = get_or row 0 0 in
    let e : 1 + n - 1 ≡ n = omega arith in
    part_cut row 1 n 1 more (omega arith) q ∙ ap (λ (k : ℕ). take k (drop 1 row)) e

-- a name is never over-long, whatever the table holds
pub name_short : (ns : List ℕ) (e : ℕ) → length (name_at ns e) ≤ max_name
unfolding row_at name_of
name_short ns e =
    let row = row_at ns e in
    let from = name_width * e in
    let n = length-take (get_or row 0 0) (drop 1 row) in
    let d = length-drop 1 row in
    let r = length-take (from + name_width - from) (drop from ns) in
    omega arith

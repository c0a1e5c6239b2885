-- What a search in a tree comes to, and what it comes to once an empty cell is filled. No law here depends on the way that a search goes. Assumes nothing.
use mathlib.Core.Path.{◌≡◌, refl, sym, ap, ◌∙◌}
use mathlib.Core.Bool.{true}
use mathlib.Core.List.{List}
use Prim.Native.Nat.{ℕ, suc, ◌+◌, ◌-◌, ◌*◌, ◌≤◌, ◌<◌}
use native.Mathlib.Nat.{mod-lt}
use native.Mathlib.Omega.{arith}
use lib.ListN.{get_or, set}
use lib.Seq.{get_or-set_other}
use Rattle.tables.specs.Tables.{object, live}
use Rattle.sound_objects.specs.Objects.{branches, child_of, key_below, Found, here, next, Missed, ends, goes, Nodes, Trees}

-- a child's cell is one of its parent's
child_from : (f k : ℕ) → branches * f ≤ child_of f k
unfolding child_of
child_from f k = omega arith

child_to : (f k : ℕ) → child_of f k < branches * suc f
unfolding child_of
child_to f k = let h = mod-lt k {m = branches} (omega arith) in omega arith

-- the cells that are not empty stay as they are
abbrev pub Kept : List ℕ → List ℕ → Type 0
Kept cells more = (p : ℕ) → (get_or cells p 0 ≡ 0 → ⊥) → get_or more p 0 ≡ get_or cells p 0

pub kept_same : (cells : List ℕ) → Kept cells cells
kept_same cells p d = refl

-- as they do if an empty one is filled
pub kept_set : (cells : List ℕ) (p v : ℕ) → get_or cells p 0 ≡ 0 → Kept cells (set cells p v)
kept_set cells p v z q d = get_or-set_other cells p q v 0 (λ e. d (ap (λ (i : ℕ). get_or cells i 0) e ∙ z))

module _ {es links : List ℕ} {o : ℕ} where
  pub found_some : {at k to : ℕ} → Found es links o at k to → at ≡ 0 → ⊥
  found_some (here d h) = d
  found_some (next d h q r) = d

  pub missed-some : {at k p : ℕ} → Missed es links o at k p → at ≡ 0 → ⊥
  missed-some (ends d h q z) = d
  missed-some (goes d h q r) = d

  pub found-object : {at k to : ℕ} → Found es links o at k to → object es (to - 1) ≡ o
  found-object (here d h) = h
  found-object (next d h q r) = found-object r

  -- a search comes to one node
  found_here : {at k to : ℕ} → object es (at - 1) ≡ o → Found es links o at k to → to ≡ at
  found_here y (here d h) = refl
  found_here y (next d h q r) = absurd (h y)

  found-next : {at k c to : ℕ} → (object es (at - 1) ≡ o → ⊥) → get_or links (child_of (at - 1) k) 0 ≡ c → Found es links o at k to → Found es links o c (key_below k) to
  found-next y e (here d h) = absurd (y h)
  found-next y e (next d h q r) = rw (sym e ∙ q) r

  pub found_one : {at k to other : ℕ} → Found es links o at k to → Found es links o at k other → other ≡ to
  found_one (here d h) s = found_here h s
  found_one (next d h q r) s = found_one r (found-next h q s)

  -- or to none
  pub missed-none : {at k p to : ℕ} → Missed es links o at k p → Found es links o at k to → ⊥
  missed-none (ends d h q z) s = found_some (found-next h (ap (λ (i : ℕ). get_or links i 0) (sym q) ∙ z) s) refl
  missed-none (goes d h q r) s = missed-none r (found-next h q s)

  pub missed-empty : {at k p : ℕ} → Missed es links o at k p → get_or links p 0 ≡ 0
  missed-empty (ends d h q z) = z
  missed-empty (goes d h q r) = missed-empty r

-- ---- the nodes of a tree over the entries below n
module _ (es links : List ℕ) {n : ℕ} (N : Nodes es links n) where
  pub child_node : (p : ℕ) {c : ℕ} → get_or links p 0 ≡ c → (c ≡ 0 → ⊥) → (c ≤ n) × (live es (c - 1) ≡ true)
  child_node p {c} q d = rw q at (N p (λ z. d (sym q ∙ z)))

  module _ {o : ℕ} where
    pub found-node : {at k to : ℕ} → Found es links o at k to → at ≤ n → live es (at - 1) ≡ true → (to ≤ n) × (live es (to - 1) ≡ true)
    found-node (here d h) l a = (l, a)
    found-node (next {at} {k} d h q r) l a = let s = child_node (child_of (at - 1) k) q (found_some r) in found-node r s.0 s.1

    pub missed-cell : {at k p : ℕ} → Missed es links o at k p → at ≤ n → p < branches * n
    missed-cell (ends {at} {k} d h q z) l = let c = child_to (at - 1) k in omega arith
    missed-cell (goes {at} {k} d h q r) l = missed-cell r (child_node (child_of (at - 1) k) q (missed-some r)).0

-- a child comes after its parent
pub child_after : {es links : List ℕ} {n : ℕ} → Trees es links n → (f k : ℕ) {c : ℕ} → get_or links (child_of f k) 0 ≡ c → (c ≡ 0 → ⊥) → f + 1 < c
child_after {links = links} T f k q d = let h = T.rises (child_of f k) (λ z. d (sym q ∙ z)) in let g = child_from f k in omega arith

-- ---- once empty cells are filled
module _ (links more : List ℕ) (K : Kept links more) where
  child_kept : (p : ℕ) {c : ℕ} → get_or links p 0 ≡ c → (c ≡ 0 → ⊥) → get_or more p 0 ≡ c
  child_kept p q d = K p (λ z. d (sym q ∙ z)) ∙ q

  module _ {es : List ℕ} {o : ℕ} where
    -- a search comes to the same node
    pub found-kept : {at k to : ℕ} → Found es links o at k to → Found es more o at k to
    found-kept (here d h) = here d h
    found-kept (next {at} {k} d h q r) = next d h (child_kept (child_of (at - 1) k) q (found_some r)) (found-kept r)

    -- and one that came to the cell p comes to what stands there now
    pub missed-filled : {at k p v : ℕ} → Missed es links o at k p → get_or more p 0 ≡ v → (v ≡ 0 → ⊥) → object es (v - 1) ≡ o → Found es more o at k v
    missed-filled (ends d h q z) e w b = next d h (ap (λ (i : ℕ). get_or more i 0) (sym q) ∙ e) (here w b)
    missed-filled (goes {at} {k} d h q r) e w b = next d h (child_kept (child_of (at - 1) k) q (missed-some r)) (missed-filled r e w b)

-- How a loop over the places of a path comes to a component's start and end, and where these stand. Assumes nothing.
use mathlib.Core.Path.{◌≡◌, refl, sym}
use mathlib.Core.Bool.{Bool, true, false, not, ◌&&◌}
use mathlib.Core.List.{List, [], ◌∷◌}
use Prim.Native.Nat.{ℕ, zero, suc, ◌+◌, ◌-◌, ◌≤◌, ◌<◌}
use native.Mathlib.Numerals.{add-one}
use native.Mathlib.Omega.{arith}
use lib.Dec.{eqb}
use lib.ListN.{length, get_or, drop, length-take, length-drop}
use borrow.Author.Tests.{eq-eqb, ne_eqb, not-true}
use Rattle.laws.specs.Tests.{first_from}
use Rattle.laws.proofs.Bools.{and_r}
use Rattle.laws.proofs.Cells.{part_length}
use Rattle.laws.proofs.Tests.{from_passes, from_past, from_bound}
use Rattle.names.specs.Names.{slash}
use Rattle.names.specs.Paths.{starts_at, component_start, component_end, component}

-- ---- a search from a place up to the end of n places
module _ (q : ℕ → Bool) (n i : ℕ) where
  -- where a search that has come to i ends
  abbrev pub from : ℕ
  from = first_from q (n - i) i

  pub from_here : i < n → q i ≡ true → from ≡ i
  unfolding first_from
  from_here l h = let e : n - i ≡ suc (n - suc i) = omega arith in rw (e, h) refl

  pub from_on : i < n → q i ≡ false → from ≡ first_from q (n - (i + 1)) (i + 1)
  unfolding first_from
  from_on l h = let e : n - i ≡ suc (n - suc i) = omega arith in rw (e, h, add-one) refl

  pub from_end : n ≤ i → from ≡ i
  unfolding first_from
  from_end g = let e : n - i ≡ 0 = omega arith in rw e refl

-- ---- a byte of the path, whatever is read past its end
pub byte : (p : List ℕ) (i a b : ℕ) → i < length p → get_or p i a ≡ get_or p i b
byte [] i a b h = absurd (omega arith)
byte (x ∷ p) zero a b h = refl
byte (x ∷ p) (suc i) a b h = byte p i a b (omega arith)

and_not : (b : Bool) → (b && false) ≡ false
and_not true = refl
and_not false = refl

and_yes : (b : Bool) → (b && true) ≡ b
and_yes true = refl
and_yes false = refl

-- ---- where a component starts, and where it ends
module _ (p : List ℕ) where
  -- a slash stands at i, or the path has ended
  abbrev pub stops : ℕ → Bool
  stops i = eqb (get_or p i slash) slash

  pub stops_at : (i : ℕ) → i < length p → get_or p i 0 ≡ slash → stops i ≡ true
  stops_at i l h = rw (byte p i slash 0 l) (eq-eqb (get_or p i 0) slash h)

  pub goes_on : (i : ℕ) → i < length p → (get_or p i 0 ≡ slash → ⊥) → stops i ≡ false
  goes_on i l h = rw (byte p i slash 0 l) (ne_eqb (get_or p i 0) slash h)

  pub starts_not : (i : ℕ) → i < length p → get_or p i 0 ≡ slash → false ≡ starts_at p i
  unfolding starts_at
  starts_not zero l h = rw (byte p zero slash 0 l, eq-eqb (get_or p zero 0) slash h) refl
  starts_not (suc i) l h = rw (byte p (suc i) slash 0 l, eq-eqb (get_or p (suc i) 0) slash h) (sym (and_not (stops i)))

  pub starts_first : (i : ℕ) → i < length p → (get_or p i 0 ≡ slash → ⊥) → i ≡ 0 → true ≡ starts_at p i
  unfolding starts_at
  starts_first zero l h z = rw (byte p zero slash 0 l, ne_eqb (get_or p zero 0) slash h) refl
  starts_first (suc i) l h z = absurd (omega arith)

  pub starts_behind : (i : ℕ) → i < length p → (get_or p i 0 ≡ slash → ⊥) → (i ≡ 0 → ⊥) → eqb (get_or p (i - 1) 0) slash ≡ starts_at p i
  unfolding starts_at
  starts_behind zero l h d = absurd (d refl)
  starts_behind (suc i) l h d =
      let e : suc i - 1 ≡ i = omega arith in
      rw (e, byte p (suc i) slash 0 l, ne_eqb (get_or p (suc i) 0) slash h, byte p i slash 0 (omega arith)) (sym (and_yes (eqb (get_or p i 0) slash)))

  -- no slash stands there
  no_slash : (i : ℕ) → starts_at p i ≡ true → stops i ≡ false
  unfolding starts_at
  no_slash zero h = not-true (stops zero) h
  no_slash (suc i) h = not-true (stops (suc i)) (and_r (stops i) (not (stops (suc i))) h)

  pub start-past : (at : ℕ) → at ≤ component_start p at
  unfolding component_start
  start-past at = from_past (starts_at p) (length p - at) at

  pub end-past : (i : ℕ) → i ≤ component_end p i
  unfolding component_end
  end-past i = from_past stops (length p - i) i

  pub end_in : (i : ℕ) → i ≤ length p → component_end p i ≤ length p
  unfolding component_end
  end_in i h = let b = from_bound stops (length p - i) i in omega arith

  module _ (at : ℕ) where
    -- a component has a byte
    pub end_later : component_start p at < length p → component_start p at < component_end p (component_start p at)
    unfolding component_start component_end
    end_later l =
        let s = component_start p at in
        let h = start-past at in
        let f = from_passes (starts_at p) (length p - at) at (omega arith) in
        let o = from_on stops (length p) s l (no_slash s f) in
        let k = from_past stops (length p - (s + 1)) (s + 1) in
        omega arith

    pub none-length : length p ≤ component_start p at → length (component p at) ≡ 0
    unfolding component
    none-length g =
        let s = component_start p at in
        let t = length-take (component_end p s - s) (drop s p) in
        let d = length-drop s p in
        omega arith

    pub some-length : component_start p at < length p → length (component p at) ≡ component_end p (component_start p at) - component_start p at
    unfolding component
    some-length l = part_length p (component_start p at) (component_end p (component_start p at)) (end_in (component_start p at) (omega arith))

-- Laws of the order of refusals: what it tells that none applied, and how code comes to the first that does. Assumes nothing.
use mathlib.Core.Path.{◌≡◌, refl, sym, ap, ◌∙◌}
use mathlib.Core.Bool.{Bool, true, false, not}
use mathlib.Core.List.{List, [], ◌∷◌, ◌++◌}
use Prim.Native.Nat.{ℕ, zero, suc, ◌<◌, ◌≤◌}
use native.Mathlib.Omega.{arith}
use lib.Dec.{eqb, ltb}
use borrow.Author.Tests.{eq-eqb, ne_eqb, lt-ltb, le-ltb}
use Rattle.laws.specs.Refusals.{Check, ◌⇒◌, first}

-- what it tells that none applied
abbrev pub Passed : List Check → Type 0
Passed [] = Unit {0}
Passed ((b ⇒ zero) ∷ cs) = b ≡ false → Passed cs
Passed ((b ⇒ suc e) ∷ cs) = (b ≡ false) × Passed cs

pub passed : (cs : List Check) → first cs ≡ 0 → Passed cs
unfolding first
passed [] h = tt
passed ((b ⇒ zero) ∷ cs) h = λ q. passed cs (rw q at h)
passed ((true ⇒ suc e) ∷ cs) h = absurd (let z : suc e ≡ 0 = h in omega arith)
passed ((false ⇒ suc e) ∷ cs) h = (refl, passed cs h)

-- test by test: `first-is (search refusals depth 16)` proves `r ≡ first cs` at each return
pub data First : List Check → ℕ → Type 0 where
  none : First [] 0
  hit : {b : Bool} {e : ℕ} {cs : List Check} → b ≡ true → First ((b ⇒ e) ∷ cs) e
  miss : {b : Bool} {e r : ℕ} {cs : List Check} → b ≡ false → First cs r → First ((b ⇒ e) ∷ cs) r

pub first-is : {cs : List Check} {r : ℕ} → First cs r → r ≡ first cs
unfolding first
first-is none = refl
first-is (hit p) = rw p refl
first-is (miss p q) = rw p (first-is q)

-- through the answer of a function that makes the test
pub hit_by : {x b : Bool} {e : ℕ} {cs : List Check} → x ≡ b → x ≡ true → First ((b ⇒ e) ∷ cs) e
hit_by q p = hit (sym q ∙ p)

pub miss_by : {x b : Bool} {e r : ℕ} {cs : List Check} → x ≡ b → x ≡ false → First cs r → First ((b ⇒ e) ∷ cs) r
miss_by q p = miss (sym q ∙ p)

-- through the answer of a function that makes the opposite test
pub hit_not : {x b : Bool} {e : ℕ} {cs : List Check} → x ≡ b → not x ≡ true → First ((not b ⇒ e) ∷ cs) e
hit_not q p = hit (ap not (sym q) ∙ p)

pub miss_not : {x b : Bool} {e r : ℕ} {cs : List Check} → x ≡ b → not x ≡ false → First cs r → First ((not b ⇒ e) ∷ cs) r
miss_not q p = miss (ap not (sym q) ∙ p)

-- through the fact that a comparison tells
pub hit_eq : {x y e : ℕ} {cs : List Check} → x ≡ y → First ((eqb x y ⇒ e) ∷ cs) e
hit_eq {x} {y} p = hit (eq-eqb x y p)

pub miss_ne : {x y e r : ℕ} {cs : List Check} → (x ≡ y → ⊥) → First cs r → First ((eqb x y ⇒ e) ∷ cs) r
miss_ne {x} {y} p = miss (ne_eqb x y p)

pub hit_lt : {x y e : ℕ} {cs : List Check} → x < y → First ((ltb x y ⇒ e) ∷ cs) e
hit_lt {x} {y} p = hit (lt-ltb x y p)

pub miss_le : {x y e r : ℕ} {cs : List Check} → y ≤ x → First cs r → First ((ltb x y ⇒ e) ∷ cs) r
miss_le {x} {y} p = miss (le-ltb x y p)

-- through a comparison whose opposite is listed
pub hit_ne : {x y e : ℕ} {cs : List Check} → (x ≡ y → ⊥) → First ((not (eqb x y) ⇒ e) ∷ cs) e
hit_ne {x} {y} p = hit (ap not (ne_eqb x y p))

pub miss_eq : {x y e r : ℕ} {cs : List Check} → x ≡ y → First cs r → First ((not (eqb x y) ⇒ e) ∷ cs) r
miss_eq {x} {y} p = miss (ap not (eq-eqb x y p))

pub ruleset refusals = (none, hit, miss, hit_by, miss_by, hit_not, miss_not, hit_eq, miss_ne, hit_lt, miss_le, hit_ne, miss_eq)

-- ---- through a number that a function answered: rules to search with beside `refusals`
module _ {v x y e : ℕ} {cs : List Check} (q : v ≡ x) where
  pub hit_eq_by : v ≡ y → First ((eqb x y ⇒ e) ∷ cs) e
  hit_eq_by p = hit_eq (sym q ∙ p)

  pub miss_ne_by : {r : ℕ} → (v ≡ y → ⊥) → First cs r → First ((eqb x y ⇒ e) ∷ cs) r
  miss_ne_by p = miss_ne (λ z. p (q ∙ z))

  -- a comparison whose opposite is listed
  pub hit_ge_by : y ≤ v → First ((not (ltb x y) ⇒ e) ∷ cs) e
  hit_ge_by p = hit (ap not (le-ltb x y (rw q at p)))

  pub miss_lt_by : {r : ℕ} → v < y → First cs r → First ((not (ltb x y) ⇒ e) ∷ cs) r
  miss_lt_by p = miss (ap not (lt-ltb x y (rw q at p)))

pub ruleset reads = (hit_eq_by, miss_ne_by, hit_ge_by, miss_lt_by)

-- ---- two lists joined

-- no test of the list answers 0
abbrev pub Refusing : List Check → Type 0
Refusing [] = Unit {0}
Refusing ((b ⇒ zero) ∷ cs) = ⊥
Refusing ((b ⇒ suc e) ∷ cs) = Refusing cs

stops : (xs ys : List Check) → (first xs ≡ 0 → ⊥) → first xs ≡ first (xs ++ ys)
unfolding first
stops [] ys n = absurd (n refl)
stops ((true ⇒ e) ∷ xs) ys n = refl
stops ((false ⇒ e) ∷ xs) ys n = stops xs ys n

goes : (xs ys : List Check) → Refusing xs → first xs ≡ 0 → first ys ≡ first (xs ++ ys)
unfolding first
goes [] ys p h = refl
goes ((b ⇒ zero) ∷ xs) ys p h = absurd p
goes ((true ⇒ suc e) ∷ xs) ys p h = absurd (let z : suc e ≡ 0 = h in omega arith)
goes ((false ⇒ suc e) ∷ xs) ys p h = goes xs ys p h

-- the first part refused, or did not
pub join_stop : {a : ℕ} (xs ys : List Check) → a ≡ first xs → (a ≡ 0 → ⊥) → a ≡ first (xs ++ ys)
join_stop xs ys q n = q ∙ stops xs ys (λ z. n (q ∙ z))

pub join_go : {a r : ℕ} (xs ys : List Check) → Refusing xs → a ≡ first xs → a ≡ 0 → r ≡ first ys → r ≡ first (xs ++ ys)
join_go xs ys p q z k = k ∙ goes xs ys p (sym q ∙ z)

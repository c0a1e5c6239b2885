-- How code comes to `all_of`, condition by condition: `all-is (search conditions depth 16)` proves `r ≡ all_of bs` at each return. Assumes nothing.
use mathlib.Core.Path.{◌≡◌, refl, sym, ap, ◌∙◌}
use mathlib.Core.Bool.{Bool, true, false, not}
use mathlib.Core.List.{List, [], ◌∷◌}
use Prim.Native.Nat.{ℕ, ◌<◌, ◌≤◌}
use lib.Dec.{eqb, ltb, leb}
use borrow.Author.Tests.{eq-eqb, ne_eqb, lt-ltb, le-ltb, le-leb, lt-leb, not-true, not-false}
use Rattle.laws.specs.Tests.{all_of}

pub data Conditions : List Bool → Bool → Type 0 where
  done : Conditions [] true
  -- the last condition is the answer itself
  last : {b r : Bool} → r ≡ b → Conditions (b ∷ []) r
  fails : {b : Bool} {bs : List Bool} → b ≡ false → Conditions (b ∷ bs) false
  holds : {b r : Bool} {bs : List Bool} → b ≡ true → Conditions bs r → Conditions (b ∷ bs) r

answers : (bs : List Bool) {r : Bool} → Conditions bs r → r ≡ all_of bs
unfolding all_of
answers [] done = refl
answers (b ∷ []) (last p) = p
answers (b ∷ []) (fails p) = sym p
answers (b ∷ []) (holds p done) = sym p
answers (b ∷ c ∷ bs) (fails p) = rw p refl
answers (b ∷ c ∷ bs) (holds p q) = rw p (answers (c ∷ bs) q)

pub all-is : {bs : List Bool} {r : Bool} → Conditions bs r → r ≡ all_of bs
all-is {bs} q = answers bs q

-- the answer is the last test
pub last_test : {b : Bool} → Conditions (b ∷ []) b
last_test = last refl

-- through the answer of a function that makes the test
pub fails_by : {x b : Bool} {bs : List Bool} → x ≡ b → x ≡ false → Conditions (b ∷ bs) false
fails_by q p = fails (sym q ∙ p)

pub holds_by : {x b r : Bool} {bs : List Bool} → x ≡ b → x ≡ true → Conditions bs r → Conditions (b ∷ bs) r
holds_by q p = holds (sym q ∙ p)

-- through the answer of a function that makes the opposite test
pub fails_not : {x b : Bool} {bs : List Bool} → x ≡ b → x ≡ true → Conditions (not b ∷ bs) false
fails_not q p = fails (ap not (sym q ∙ p))

pub holds_not : {x b r : Bool} {bs : List Bool} → x ≡ b → x ≡ false → Conditions bs r → Conditions (not b ∷ bs) r
holds_not q p = holds (ap not (sym q ∙ p))

-- through a test written `if !f(..)`
pub fails_if_not : {x b : Bool} {bs : List Bool} → x ≡ b → not x ≡ true → Conditions (b ∷ bs) false
fails_if_not {x} q p = fails (sym q ∙ not-true x p)

pub holds_if_not : {x b r : Bool} {bs : List Bool} → x ≡ b → not x ≡ false → Conditions bs r → Conditions (b ∷ bs) r
holds_if_not {x} q p = holds (sym q ∙ not-false x p)

-- the answer is the opposite of the last test
pub last_not : {x b : Bool} → x ≡ b → Conditions (not b ∷ []) (not x)
last_not q = last (ap not q)

-- through the fact that a comparison tells
pub fails_ne : {x y : ℕ} {bs : List Bool} → (x ≡ y → ⊥) → Conditions (eqb x y ∷ bs) false
fails_ne {x} {y} p = fails (ne_eqb x y p)

pub holds_eq : {x y : ℕ} {r : Bool} {bs : List Bool} → x ≡ y → Conditions bs r → Conditions (eqb x y ∷ bs) r
holds_eq {x} {y} p = holds (eq-eqb x y p)

pub fails_eq : {x y : ℕ} {bs : List Bool} → x ≡ y → Conditions (not (eqb x y) ∷ bs) false
fails_eq {x} {y} p = fails (ap not (eq-eqb x y p))

pub holds_ne : {x y : ℕ} {r : Bool} {bs : List Bool} → (x ≡ y → ⊥) → Conditions bs r → Conditions (not (eqb x y) ∷ bs) r
holds_ne {x} {y} p = holds (ap not (ne_eqb x y p))

pub fails_ge : {x y : ℕ} {bs : List Bool} → y ≤ x → Conditions (ltb x y ∷ bs) false
fails_ge {x} {y} p = fails (le-ltb x y p)

pub holds_lt : {x y : ℕ} {r : Bool} {bs : List Bool} → x < y → Conditions bs r → Conditions (ltb x y ∷ bs) r
holds_lt {x} {y} p = holds (lt-ltb x y p)

pub fails_gt : {x y : ℕ} {bs : List Bool} → y < x → Conditions (leb x y ∷ bs) false
fails_gt {x} {y} p = fails (lt-leb x y p)

pub holds_le : {x y : ℕ} {r : Bool} {bs : List Bool} → x ≤ y → Conditions bs r → Conditions (leb x y ∷ bs) r
holds_le {x} {y} p = holds (le-leb x y p)

pub ruleset conditions = (done, last_test, last, fails, holds, fails_by, holds_by, fails_not, holds_not, fails_if_not, holds_if_not, last_not, fails_ne, holds_eq, fails_eq, holds_ne, fails_ge, holds_lt, fails_gt, holds_le)

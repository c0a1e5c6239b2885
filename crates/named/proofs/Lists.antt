-- Lists of document 01's calls, joined. Assumes nothing.
use mathlib.Core.Path.{◌≡◌, refl}
use mathlib.Core.List.{List, [], ◌∷◌, ◌++◌}
use Prim.Native.Nat.{ℕ}
use Rattle.tables.specs.Tables.{Tables}
use Rattle.theorems.specs.Calls.{Call, after, after_all}
use Rattle.theorems.specs.Claim.{Within, Kept, Lives}

pub after-join : (xs : List Call) (T : Tables) (ys : List Call) → after_all T (xs ++ ys) ≡ after_all (after_all T xs) ys
unfolding after_all
after-join [] T ys = refl
after-join (x ∷ xs) T ys = after-join xs (after T x) ys

pub within-join : (D : List ℕ) (xs : List Call) (T : Tables) (ys : List Call) → Within D T xs → Within D (after_all T xs) ys → Within D T (xs ++ ys)
unfolding after_all Within
within-join D [] T ys p q = q
within-join D (x ∷ xs) T ys p q = (p.0, within-join D xs (after T x) ys p.1 q)

pub kept-join : (e : ℕ) (xs : List Call) (T : Tables) (ys : List Call) → Kept T xs e → Kept (after_all T xs) ys e → Kept T (xs ++ ys) e
unfolding after_all Kept
kept-join e [] T ys p q = q
kept-join e (x ∷ xs) T ys p q = (p.0, kept-join e xs (after T x) ys p.1 q)

pub lives-join : (t : ℕ) (xs : List Call) (T : Tables) (ys : List Call) → Lives T xs t → Lives (after_all T xs) ys t → Lives T (xs ++ ys) t
unfolding after_all Lives
lives-join t [] T ys p q = q
lives-join t (x ∷ xs) T ys p q = (p.0, lives-join t xs (after T x) ys p.1 q)

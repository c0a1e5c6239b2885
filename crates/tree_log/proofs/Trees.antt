-- Trees, compared and put into tables. Assumes nothing.
use mathlib.Core.Path.{◌≡◌, refl, ap, ◌∙◌}
use mathlib.Core.Bool.{true, false}
use mathlib.Core.List.{List, [], ◌∷◌}
use Prim.Native.Nat.{ℕ, zero, suc}
use native.Mathlib.Omega.{arith}
use lib.ListN.{get_or, set, length-set}
use lib.Seq.{get_or-set_same}
use Rattle.laws.proofs.Bools.{split, both, and_l, and_r}
use Rattle.sound.proofs.Facts.{facts}
use Rattle.names.specs.Names.{same_bytes}
use Rattle.names.proofs.Bytes.{bytes_equal, bytes_same}
use Rattle.named.specs.Named.{Named, named_sound}
use Rattle.named.proofs.Made.{core-sound}
use Rattle.tree_log.specs.Tree.{Tree, tree_of, with_tree, same_tree}

abbrev pub tree_with : List ℕ → List ℕ → ℕ → Tree
tree_with es ns v = record { entries = es; names = ns; next = v }

pub tree_equal : (S R : Tree) → S.entries ≡ R.entries → S.names ≡ R.names → S.next ≡ R.next → S ≡ R
tree_equal S R p q r =
    ap (λ (e : List ℕ). tree_with e S.names S.next) p
    ∙ ap (λ (n : List ℕ). tree_with R.entries n S.next) q
    ∙ ap (λ (v : ℕ). tree_with R.entries R.names v) r

pub same_equal : (S R : Tree) → same_tree S R ≡ true → (S.entries ≡ R.entries) × (S.names ≡ R.names)
unfolding same_tree
same_equal S R h =
    (bytes_equal S.entries R.entries (and_l (same_bytes S.entries R.entries) _ h), bytes_equal S.names R.names (and_r (same_bytes S.entries R.entries) _ h))

pub same_self : (S : Tree) → same_tree S S ≡ true
unfolding same_tree
same_self S = both _ _ (bytes_same S.entries) (bytes_same S.names)

pub equal_same : (S R : Tree) → S.entries ≡ R.entries → S.names ≡ R.names → same_tree S R ≡ true
unfolding same_tree
equal_same S R p q =
    both (same_bytes S.entries R.entries) (same_bytes S.names R.names) (rw p (bytes_same R.entries)) (rw q (bytes_same R.names))

pub differs : (S R : Tree) → (S.entries ≡ R.entries → S.names ≡ R.names → ⊥) → same_tree S R ≡ false
differs S R f = split (same_tree S R) (λ q. let p = same_equal S R q in absurd (f p.0 p.1)) (λ q. q)

-- ---- a cell written with what it holds, and written twice
pub set_own : (l : List ℕ) (i : ℕ) → set l i (get_or l i 0) ≡ l
set_own [] zero = refl
set_own [] (suc i) = refl
set_own (x ∷ l) zero = refl
set_own (x ∷ l) (suc i) = ap (λ (r : List ℕ). x ∷ r) (set_own l i)

set_twice : (l : List ℕ) (i a b : ℕ) → set (set l i a) i b ≡ set l i b
set_twice [] zero a b = refl
set_twice [] (suc i) a b = refl
set_twice (x ∷ l) zero a b = refl
set_twice (x ∷ l) (suc i) a b = ap (λ (r : List ℕ). x ∷ r) (set_twice l i a b)

pub tree_twice : (N : Named) (S R : Tree) → with_tree (with_tree N S) R ≡ with_tree N R
tree_twice N S R = rw (set_twice N.core.system 1 S.next R.next) refl

pub tree-own : (N : Named) → with_tree N (tree_of N) ≡ N
tree-own N = rw (set_own N.core.system 1) refl

pub tree_back : (N : Named) (S : Tree) → named_sound (with_tree N S) ≡ true → tree_of (with_tree N S) ≡ S
tree_back N S h =
    let w = (facts (with_tree N S).core (core-sound (with_tree N S) h)).lengths.system in
    let l = length-set N.core.system 1 S.next in
    ap (tree_with S.entries S.names) (get_or-set_same N.core.system 1 S.next 0 (omega arith))

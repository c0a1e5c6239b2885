-- Which domains reach which, for any scope. Assumes nothing.
use mathlib.Core.Path.{◌≡◌, refl, ap}
use mathlib.Core.Bool.{Bool, true, false, not, ◌&&◌}
use mathlib.Core.List.{List, [], ◌∷◌}
use Prim.Native.Nat.{ℕ}
use lib.Dec.{eqb}
use borrow.Author.Tests.{eq-eqb, not-true}
use Rattle.laws.specs.Tests.{any, elem}
use Rattle.laws.proofs.Bools.{split, clash, nor, or_left, or_right}
use Rattle.laws.proofs.Tests.{any_find, any_at}
use Rattle.access.specs.Rights.{within}
use Rattle.tables.specs.Layers.{layer_scope}
use Rattle.task.specs.declared.Scope.{Scope}
use Rattle.task.specs.Task.{scope_right, escapes, reaches}

module _ (ls : List ℕ) (i : ℕ) (E : List ℕ) where
  stays_in : (l : ℕ) → elem l E ≡ true → escapes ls i E l ≡ false
  unfolding escapes
  stays_in l h = rw h (none (within i (layer_scope ls l)))
    where
      none : (b : Bool) → (b && false) ≡ false
      none true = refl
      none false = refl

  none-leaves : (D : List ℕ) → ((l : ℕ) → elem l D ≡ true → elem l E ≡ true) → any (escapes ls i E) D ≡ false
  unfolding any elem
  none-leaves [] h = refl
  none-leaves (l ∷ D) h =
      nor (escapes ls i E l) (any (escapes ls i E) D) (stays_in l (h l (or_left (eqb l l) (elem l D) (eq-eqb l l refl))))
      (none-leaves D (λ k m. h k (or_right (eqb k l) (elem k D) m)))

-- a domain reaches every domain that has all its layers
pub reaches-grown : (ls : List ℕ) (s : Scope) (D E : List ℕ) → ((l : ℕ) → elem l D ≡ true → elem l E ≡ true) → reaches ls s D E ≡ true
unfolding reaches
reaches-grown ls s D E h = ap not (none-leaves ls (scope_right s) E D h)

-- "Signalling oneself is always allowed"
pub reaches-self : (ls : List ℕ) (s : Scope) (D : List ℕ) → reaches ls s D D ≡ true
reaches-self ls s D = reaches-grown ls s D D (λ l m. m)

-- "as a thread's domain grows, those threads .. that it can reach never become more": what the grown domain D' reaches, D reached, the scopes of its layers being the same
pub reaches_fewer : (ls ls' : List ℕ) (s : Scope) (D D' E : List ℕ) → ((l : ℕ) → elem l D ≡ true → layer_scope ls' l ≡ layer_scope ls l) → ((l : ℕ) → elem l D ≡ true → elem l D' ≡ true)
    → reaches ls' s D' E ≡ true → reaches ls s D E ≡ true
unfolding reaches escapes
reaches_fewer ls ls' s D D' E same grown r = split (any (escapes ls (scope_right s) E) D)
    (λ q.
    let f = any_find (escapes ls (scope_right s) E) D q in
    let e : escapes ls' (scope_right s) E f.0 ≡ true = rw (same f.0 f.1) f.2 in
    clash (any (escapes ls' (scope_right s) E) D') (any_at (escapes ls' (scope_right s) E) D' f.0 (grown f.0 f.1) e) (not-true _ r))
    (λ q. ap not q)

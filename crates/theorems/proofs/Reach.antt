-- No thread is reached that was not: demand 3, for signals and abstract sockets. Assumes nothing.
use mathlib.Core.Path.{◌≡◌, ap}
use mathlib.Core.Bool.{true}
use mathlib.Core.List.{List}
use Prim.Native.Nat.{ℕ}
use Rattle.tables.specs.Tables.{Tables, thread_live}
use Rattle.tables.specs.Layers.{Layer, layer_at}
use Rattle.task.specs.declared.Scope.{Scope}
use Rattle.task.proofs.Reach.{reaches_fewer}
use Rattle.theorems.specs.Calls.{Call, after_all}
use Rattle.theorems.specs.Claim.{domain_of, may_reach, Grown, Lives}
use Rattle.theorems.proofs.Stays.{Stays, all_stays}

-- where the layers of t's domain stay
pub threads_stay : (T T' : Tables) (t : ℕ) → Stays T T' t → (s : Scope) (u : ℕ) → domain_of T' u ≡ domain_of T u → may_reach T' s t u ≡ true → may_reach T s t u ≡ true
unfolding may_reach Grown layer_at
threads_stay T T' t p s u q r =
    reaches_fewer T.layers T'.layers s (domain_of T t) (domain_of T' t) (domain_of T u) (λ l m. ap (λ (L : Layer). L.scope) (p.layers l m)) p.grown (rw q at r)

pub threads : (T : Tables) (t : ℕ) (cs : List Call) → thread_live T.threads t ≡ true → Lives T cs t
    → (s : Scope) (u : ℕ) → domain_of (after_all T cs) u ≡ domain_of T u → may_reach (after_all T cs) s t u ≡ true → may_reach T s t u ≡ true
threads T t cs v k s u = threads_stay T (after_all T cs) t (all_stays cs T t v k) s u

-- A walk along a chain. Assumes nothing.
use mathlib.Core.Path.{◌≡◌, sym, ◌∙◌}
use mathlib.Core.Bool.{Bool, true, false}
use mathlib.Core.List.{List}
use Prim.Native.Nat.{ℕ, ◌≤◌, ◌<◌}
use native.Mathlib.Omega.{arith}
use lib.Dec.{eqb}
use lib.ListN.{get_or}
use borrow.Author.Tests.{eqb-true, eqb-false}
use Rattle.laws.proofs.Bools.{split}
use Rattle.access.specs.Limits.{max_entries}
use Rattle.sound_names_walk.specs.Walks.{same_name, On, here, next, Nodes}

module _ {links : List ℕ} where
  pub on_some : {at f : ℕ} → On links at f → at ≡ 0 → ⊥
  on_some (here d) = d
  on_some (next d q r) = d

-- a cell holds an entry, or 0
pub node_in : (es cells : List ℕ) {n : ℕ} → n ≤ max_entries → Nodes es cells n → (p : ℕ) → get_or cells p 0 < max_entries
node_in es cells l N p = split (eqb (get_or cells p 0) 0)
    (λ q. let z = eqb-true (get_or cells p 0) 0 q in omega arith)
    (λ q. let k = (N p (eqb-false (get_or cells p 0) 0 q)).0 in omega arith)

-- no entry on the chain from `at` has the row in the directory p
abbrev pub Clear : List ℕ → List ℕ → List ℕ → ℕ → List ℕ → ℕ → Type 0
Clear es ns links p row at = (f : ℕ) → On links at f → same_name es ns p row f ≡ false

module _ (es ns links : List ℕ) (p : ℕ) (row : List ℕ) where
  pub clear_end : {at : ℕ} → at ≡ 0 → Clear es ns links p row at
  clear_end z f r = absurd (on_some r z)

  pub clear_more : {at c : ℕ} {t : Bool} → t ≡ same_name es ns p row at → t ≡ false → get_or links at 0 ≡ c → Clear es ns links p row c → Clear es ns links p row at
  clear_more k h q C f (here d) = sym k ∙ h
  clear_more k h q C f (next d i r) = C f (rw (sym i ∙ q) at r)

  pub same_here : (at : ℕ) {t : Bool} → t ≡ same_name es ns p row at → t ≡ true → same_name es ns p row at ≡ true
  same_here at k h = sym k ∙ h

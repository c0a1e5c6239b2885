-- Document 01, "Tables are sound if": the clauses on threads and their domains.
use Rattle.std.specs.Prelude.{Bool, true, cond, List, [], ◌∷◌, ℕ, zero, suc, ◌+◌, ◌-◌, eqb, leb}
use Rattle.laws.specs.Tests.{all_below, all_of}
use Rattle.laws.specs.Sums.{tally}
use Rattle.access.specs.Limits.{max_layers, max_threads, max_domain}
use Rattle.tables.specs.Tables.{thread_state, youngest, no_new_privs, admin, thread_live}
use Rattle.tables.specs.Layers.{layer_parent, layer_holders}

-- from the layer that a cell names (its number + 1, or 0 for none) the parents come to none within n layers
unfoldable pub chain_ends : List ℕ → ℕ → ℕ → Bool
chain_ends ls zero y = eqb y 0
chain_ends ls (suc n) y = let r = chain_ends ls n (layer_parent ls (y - 1)) in cond (eqb y 0) true r

-- "threads .. name only those" layers in use: one of the records there are, and true counts make it one in use (named-in-use)
abbrev pub youngest_in_use : List ℕ → ℕ → ℕ → Bool
youngest_in_use ts used t = leb (youngest ts t) used

-- "domains have at most 16 layers"; document 02, W5: 64
abbrev pub domain_fits : List ℕ → List ℕ → ℕ → Bool
domain_fits ls ts t = chain_ends ls max_domain (youngest ts t)

-- a live thread; "marks .. are in range"
unfoldable pub live_sound : List ℕ → List ℕ → ℕ → ℕ → Bool
live_sound ls ts used t =
    all_of (eqb (thread_state ts t) 1 ∷ youngest_in_use ts used t ∷ leb (no_new_privs ts t) 1 ∷ leb (admin ts t) 1 ∷ domain_fits ls ts t ∷ [])

-- "free space is zero"
unfoldable pub free_sound : List ℕ → ℕ → Bool
free_sound ts t = all_of (eqb (youngest ts t) 0 ∷ eqb (no_new_privs ts t) 0 ∷ eqb (admin ts t) 0 ∷ [])

unfoldable pub thread_sound : List ℕ → List ℕ → ℕ → ℕ → Bool
thread_sound ls ts used t = cond (thread_live ts t) (live_sound ls ts used t) (free_sound ts t)

unfoldable pub threads_sound : List ℕ → List ℕ → ℕ → Bool
threads_sound ls ts used = all_below (thread_sound ls ts used) max_threads

-- ---- document 02, W13: the hierarchy of layers

-- the threads and child layers that hold the layer that a cell names; a free row names none
unfoldable pub holders : List ℕ → List ℕ → ℕ → ℕ
holders ls ts y = tally (λ t. eqb (youngest ts t) y) max_threads + tally (λ m. eqb (layer_parent ls m) y) max_layers

-- "true counts"
unfoldable pub holders_true : List ℕ → List ℕ → ℕ → Bool
holders_true ls ts l = eqb (layer_holders ls l) (holders ls ts (suc l))

-- "parents name only those": as for threads; "a parent's number may be larger"
abbrev pub parent_in_use : List ℕ → ℕ → Bool
parent_in_use ls l = leb (layer_parent ls l) max_layers

-- "climbing ends within the domain limit"
abbrev pub climb_ends : List ℕ → ℕ → Bool
climb_ends ls l = chain_ends ls max_domain (suc l)

unfoldable pub place_sound : List ℕ → List ℕ → ℕ → Bool
place_sound ls ts l = all_of (parent_in_use ls l ∷ climb_ends ls l ∷ holders_true ls ts l ∷ [])

unfoldable pub hierarchy_sound : List ℕ → List ℕ → Bool
hierarchy_sound ls ts = all_below (place_sound ls ts) max_layers

-- threads, and the layers that they and other layers name
unfoldable pub domains_sound : List ℕ → List ℕ → Bool
domains_sound ls ts = all_of (threads_sound ls ts max_layers ∷ hierarchy_sound ls ts ∷ [])
